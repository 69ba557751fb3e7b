use Rattle.std.proofs.Common.{◌++◌, ◌∙◌, ap, sym}
use Rattle.run_text.specs.Lines.{done_line}
use Rattle.run_text.proofs.LastLine.{same_line}
use Rattle.run_text.specs.declared.done.Done.{Done}
use Rattle.rounds.specs.Places.{machine_at}
use Rattle.trace_run.proofs.Ran.{numbers_are}
use Rattle.trace_run.proofs.running.write_end.Goals as goal

pub returns-clause-text : goal.returns-clause-text
returns-clause-text c = λ p there none rounds ops.
    c.in_ok-write_done.ensures
    ∙ ap (λ (done : Done). c.args.out.now.items ++ done_line done) (c.numbers.ensures p there ∙ numbers_are p.trace.body (machine_at p) c.args.rounds c.args.ops rounds ops)
    ∙ ap (λ line. c.args.out.now.items ++ line) (sym (same_line p.trace.body (machine_at p)))
