use Rattle.tag_rule.specs.Rule.{view_of}
use Rattle.tag_rule.specs.Writing.{written}
use Rattle.tag_rule.proofs.writing.write_first.Given as goal

abbrev pub ghosts-store : goal.ghosts-store
ghosts-store a = record { after = λ n. view_of (written a._about.now.hand a._about.now.held a.seat.now.me.0.parts); told = λ n. Unit {0} }
