use Rattle.std.proofs.Common.{arith}
use Rattle.profile_top.proofs.Commands.{read_leaves, run_in_part_read, went_in_part}
use Rattle.profile_top.proofs.Serving.{all_read}
use Rattle.profile_top.proofs.top.serve_run.Goals as goal

pub returns-in-Ok-run_answer-clause-in_part : goal.returns-in-Ok-run_answer-clause-in_part
returns-in-Ok-run_answer-clause-in_part g c = λ five.
    let answer = c.in-Ok-run_answer in
    let left = g.S.Source.left c.args.source.now in
    let left_after = g.S.Source.left c.read_all.new.source in
    let taken = g.K.Sink.taken c.args.sink.now in
    let taken_after = g.K.Sink.taken c.finish-in-Ok-run_answer.new.sink in
    run_in_part_read left left_after taken taken_after c.in-Ok.input.items answer.answer c.args.plant.now c.run_answer.new.plant c.in-Ok.ensures.bytes c.in-Ok.ensures.end (omega (arith, c.in-Ok.ensures.within))
    (rw c.deref.ensures.value at answer.ensures.answer) (rw c.deref.ensures.value at answer.ensures.leaves)
    (went_in_part answer.answer.status answer.ensures.status ((rw c.deref-in-Ok-run_answer.ensures.value at c.finish-in-Ok-run_answer.ensures.part) five))

pub returns-in-Ok-run_answer-clause-ran : goal.returns-in-Ok-run_answer-clause-ran
returns-in-Ok-run_answer-clause-ran g c = λ input told three four runnable.
    let read = c.in-Ok.input.items in
    let all = all_read (g.S.Source.left c.args.source.now) (g.S.Source.left c.read_all.new.source) read input c.in-Ok.ensures.bytes c.in-Ok.ensures.end told in
    (read_leaves read input c.args.plant.now c.run_answer.new.plant all (rw c.deref.ensures.value at c.in-Ok-run_answer.ensures.leaves)).ran runnable
