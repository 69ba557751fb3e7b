use Rattle.std.proofs.Common.{◌≡◌, ◌∙◌, false, map, subst, sym}
use Rattle.std.specs.String.{string_bytes}
use Rattle.profile_top.specs.Commands.{Command, Run, CommandServed, CommandServedInPart, command_in, is_run}
use Rattle.profile_top.specs.Spelled.{RunSays}
use Rattle.profile_top.proofs.Commands.{is_still, still_in_part, still_served}
use Rattle.profile_top.proofs.Running.{run_says}
use Rattle.profile_top.proofs.Spelling.{spelled_as, spelled_as_in_part}
use Rattle.profile_top.proofs.top.memprof.Goals as goal

pub returns-then-is_run-clause-ran : goal.returns-then-is_run-clause-ran
returns-then-is_run-clause-ran g c = λ input asked told. c.serve_run.ensures.ran input told

pub returns-then-is_run-clause-run : goal.returns-then-is_run-clause-run
returns-then-is_run-clause-run g c = λ words below.
    let served = c.serve_run.ensures.served below in
    spelled_as (command_in Run) RunSays run_says c.serve_run.result (g.S.Source.left c.args.source.now) (g.S.Source.left c.serve_run.new.source) (g.K.Sink.taken c.args.sink.now) (g.K.Sink.taken c.serve_run.new.sink)
    served.input served.is_input served.told served.written

pub returns-then-is_run-clause-run_in_part : goal.returns-then-is_run-clause-run_in_part
returns-then-is_run-clause-run_in_part g c = λ words five.
    let served = c.serve_run.ensures.in_part five in
    spelled_as_in_part (command_in Run) RunSays run_says (g.S.Source.left c.args.source.now) (g.S.Source.left c.serve_run.new.source) (g.K.Sink.taken c.args.sink.now) (g.K.Sink.taken c.serve_run.new.sink)
    served.input served.is_input served.written

pub returns-else-is_run-clause-served : goal.returns-else-is_run-clause-served
returns-else-is_run-clause-served g c = λ command asked below.
    let words = map string_bytes c.args.words.now in
    let not_run : is_run words ≡ false = sym c.is_run.ensures ∙ c.if-is_run.false in
    let still = is_still words not_run command asked in
    let left = g.S.Source.left c.args.source.now in
    let left_after = g.S.Source.left c.memprof_still.new.source in
    let taken = g.K.Sink.taken c.args.sink.now in
    let taken_after = g.K.Sink.taken c.memprof_still.new.sink in
    subst (λ (x : Command). CommandServed x c.memprof_still.result left left_after taken taken_after c.args.plant.now c.args.plant.now) still.is
    (still_served still.mode c.memprof_still.result left left_after taken taken_after c.args.plant.now (c.memprof_still.ensures.served still.mode still.asked below))

pub returns-else-is_run-clause-in_part : goal.returns-else-is_run-clause-in_part
returns-else-is_run-clause-in_part g c = λ command asked five.
    let words = map string_bytes c.args.words.now in
    let not_run : is_run words ≡ false = sym c.is_run.ensures ∙ c.if-is_run.false in
    let still = is_still words not_run command asked in
    let left = g.S.Source.left c.args.source.now in
    let left_after = g.S.Source.left c.memprof_still.new.source in
    let taken = g.K.Sink.taken c.args.sink.now in
    let taken_after = g.K.Sink.taken c.memprof_still.new.sink in
    subst (λ (x : Command). CommandServedInPart x left left_after taken taken_after c.args.plant.now c.args.plant.now) still.is
    (still_in_part still.mode left left_after taken taken_after c.args.plant.now (c.memprof_still.ensures.in_part still.mode still.asked five))
