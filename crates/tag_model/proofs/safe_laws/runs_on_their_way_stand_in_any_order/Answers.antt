use Rattle.std.proofs.Common.{refl}
use Rattle.tag_model.proofs.BookRows.{safe-reorders_runs}
use Rattle.tag_model.proofs.safe_laws.runs_on_their_way_stand_in_any_order.Goals as goal

pub returns : goal.returns
returns c k l away old new same becomes safe = safe-reorders_runs k l (record l { away = away }) old new (record { same = same; after = refl }) becomes safe
