use Rattle.std.proofs.Common.{◌∙◌, ap, sym}
use Rattle.trace.specs.TraceGrammar.{trace_op}
use Rattle.trace.proofs.trace_lines.trace_op.Goals as goal

pub returns-in-Page : goal.returns-in-Page
returns-in-Page c = c.page_op.ensures c.args.sections.now ∙ ap (λ name. trace_op c.args.sections.now name c.args.line.now) (sym c.in-Page.is)

pub returns-in-Kmalloc : goal.returns-in-Kmalloc
returns-in-Kmalloc c = c.kmalloc_op.ensures c.args.sections.now ∙ ap (λ name. trace_op c.args.sections.now name c.args.line.now) (sym c.in-Kmalloc.is)

pub returns-in-Split : goal.returns-in-Split
returns-in-Split c = c.split_op.ensures c.args.sections.now ∙ ap (λ name. trace_op c.args.sections.now name c.args.line.now) (sym c.in-Split.is)

pub returns-in-Swap : goal.returns-in-Swap
returns-in-Swap c = c.swap_op.ensures c.args.sections.now ∙ ap (λ name. trace_op c.args.sections.now name c.args.line.now) (sym c.in-Swap.is)

pub returns-in-Trim : goal.returns-in-Trim
returns-in-Trim c = c.trim_op.ensures c.args.sections.now ∙ ap (λ name. trace_op c.args.sections.now name c.args.line.now) (sym c.in-Trim.is)
