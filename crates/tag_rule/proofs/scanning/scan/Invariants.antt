use Rattle.std.proofs.Common.{[], ◌∷◌}
use Rattle.tag_model.specs.declared.state.Part.TheVariants.{Modules}
use Rattle.tag_rule.specs.Listed.{after_read}
use Rattle.tag_rule.specs.Rule.{view_of}
use Rattle.tag_rule.specs.Seated.{list_in}
use Rattle.tag_rule.proofs.Peeked.{told_of_read}
use Rattle.tag_rule.proofs.scanning.scan.Given as goal

abbrev pub ghosts-peek : goal.ghosts-peek
ghosts-peek a = record { after = λ n. view_of (Modules (after_read a.words.now.shape n (list_in a.seat.now.me.0.parts)) ∷ []); told = λ n. told_of_read a.words.now.shape n (list_in a.seat.now.me.0.parts) }
