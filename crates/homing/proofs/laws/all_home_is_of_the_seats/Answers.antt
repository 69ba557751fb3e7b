use Rattle.homing.proofs.SeatLemmas.{all_home_told}
use Rattle.homing.proofs.laws.all_home_is_of_the_seats.Goals as goal

pub returns : goal.returns
returns c = all_home_told
