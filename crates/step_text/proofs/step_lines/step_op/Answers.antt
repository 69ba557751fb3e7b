use Rattle.std.proofs.Common.{◌∙◌, ap, sym}
use Rattle.step_text.specs.StepGrammar.{step_op}
use Rattle.step_text.proofs.step_lines.step_op.Goals as goal

pub returns-in-Split : goal.returns-in-Split
returns-in-Split c = c.split_op.ensures c.args.sections.now ∙ ap (λ name. step_op c.args.sections.now name c.args.line.now) (sym c.in-Split.is)

pub returns-in-Swap : goal.returns-in-Swap
returns-in-Swap c = c.swap_op.ensures c.args.sections.now ∙ ap (λ name. step_op c.args.sections.now name c.args.line.now) (sym c.in-Swap.is)

pub returns-in-Trim : goal.returns-in-Trim
returns-in-Trim c = c.trim_op.ensures c.args.sections.now ∙ ap (λ name. step_op c.args.sections.now name c.args.line.now) (sym c.in-Trim.is)
