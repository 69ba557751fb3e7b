use Rattle.std.proofs.Common.{sym, ◌∙◌, subst}
use Rattle.tag_rule.specs.Parts.{KeepsCpu, falls_to}
use Rattle.tag_rule.proofs.Rows.{less_owes}
use Rattle.tag_rule.proofs.subtracting.sub_bytes.Goals as goal

pub lower-requires-clause-keeps : goal.lower-requires-clause-keeps
lower-requires-clause-keeps c =
    subst (λ step. KeepsCpu c.args.cpu.now.board.shape c.args.cpu.now.part (falls_to step c.args.bytes c.args.cpu.now.part)) (sym c.of_bytes-step.ensures)
    (less_owes _ _ _ c.tell.ensures c.requires (sym c.hand.ensures ∙ c.in-Some.is)).keeps
