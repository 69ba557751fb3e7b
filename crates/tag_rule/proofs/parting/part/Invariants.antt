use Rattle.tag_model.specs.declared.state.Held.TheVariants as held
use Rattle.tag_rule.specs.Rule.{view_of}
use Rattle.tag_rule.specs.Seated.{cell_parts}
use Rattle.tag_rule.proofs.Pools.{left_of}
use Rattle.tag_rule.proofs.parting.part.Given as goal

abbrev pub ghosts-divide_seat : goal.ghosts-divide_seat
ghosts-divide_seat a = record { kept = view_of (left_of a._about.now.first a._about.now.count a.seat.now.me.0.parts); gone = view_of (cell_parts a._about.now.first a._about.now.count held.None) }
