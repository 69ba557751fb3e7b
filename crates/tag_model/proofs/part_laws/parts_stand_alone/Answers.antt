use Rattle.tag_model.proofs.Lent.{stand_back, stand_front}
use Rattle.tag_model.proofs.part_laws.parts_stand_alone.Goals as goal

pub returns-clause-front : goal.returns-clause-front
returns-clause-front c v w parts stands = stand_front v w parts stands

pub returns-clause-back : goal.returns-clause-back
returns-clause-back c v w parts stands = stand_back v w parts stands
