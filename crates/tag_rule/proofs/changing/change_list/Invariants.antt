use Rattle.std.proofs.Common.{[], ◌∷◌}
use Rattle.tag_model.specs.declared.state.Part.TheVariants.{Modules}
use Rattle.tag_rule.specs.Listed.{changed}
use Rattle.tag_rule.specs.Rule.{view_of}
use Rattle.tag_rule.specs.Seated.{ListHolds, list_in}
use Rattle.tag_rule.proofs.changing.change_list.Given as goal

abbrev pub ghosts-turn : goal.ghosts-turn
ghosts-turn a = record { to = view_of (Modules (changed a._about.now (list_in a.seat.now.me.0.parts)) ∷ []); told = ListHolds a.words.now.shape (changed a._about.now (list_in a.seat.now.me.0.parts)) }
