use Rattle.std.proofs.Common.{sym, ◌∙◌, subst}
use Rattle.tag_rule.specs.Parts.{KeepsCpu, raises_to}
use Rattle.tag_rule.proofs.Rows.{bytes_owes}
use Rattle.tag_rule.proofs.adding.add_bytes.Goals as goal

pub raise-requires-clause-keeps : goal.raise-requires-clause-keeps
raise-requires-clause-keeps c =
    subst (λ step. KeepsCpu c.args.cpu.now.board.shape c.args.cpu.now.part (raises_to step c.args.size c.args.cpu.now.part)) (sym c.of_bytes.ensures)
    (bytes_owes _ _ _ c.tell.ensures c.requires.hand (sym c.hand.ensures ∙ c.in-Some.is) c.requires.size.0 c.requires.size.1).keeps
