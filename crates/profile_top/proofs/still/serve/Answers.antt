use Rattle.std.proofs.Common.{arith, subst}
use Rattle.outside.specs.Bytes.{Took}
use Rattle.outside.specs.declared.faults.ReadError.{ReadError}
use Rattle.profile_top.specs.Answers.{answer_in, input_limit}
use Rattle.profile_top.proofs.Serving.{decided_long, decided_read}
use Rattle.profile_top.proofs.still.serve.Goals as goal

pub returns-in-Err-TooLong-clause-decided : goal.returns-in-Err-TooLong-clause-decided
returns-in-Err-TooLong-clause-decided g c = decided_long (g.S.Source.left c.args.source.now) (g.S.Source.left c.read_all.new.source) (g.K.Sink.taken c.args.sink.now) (g.K.Sink.taken c.finish.new.sink) c.finish.result
    (subst (λ (e : ReadError). Took input_limit e (g.S.Source.left c.args.source.now) (g.S.Source.left c.read_all.new.source)) c.in-Err-TooLong.field-0-is c.in-Err-TooLong.ensures.took)
    c.finish.ensures.whole (answer_in c.args.mode)

pub returns-in-Ok-answer_input-clause-decided : goal.returns-in-Ok-answer_input-clause-decided
returns-in-Ok-answer_input-clause-decided g c =
    decided_read (g.S.Source.left c.args.source.now) (g.S.Source.left c.read_all.new.source) (g.K.Sink.taken c.args.sink.now) (g.K.Sink.taken c.finish-in-Ok-answer_input.new.sink) c.in-Ok.input.items c.finish-in-Ok-answer_input.result
    c.in-Ok-answer_input.answer (answer_in c.args.mode) c.in-Ok.ensures.bytes c.in-Ok.ensures.end (omega (arith, c.in-Ok.ensures.within))
    (rw c.deref.ensures.value at c.in-Ok-answer_input.ensures) (rw c.deref-in-Ok-answer_input.ensures.value at c.finish-in-Ok-answer_input.ensures.whole)
