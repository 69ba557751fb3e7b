use Rattle.std.proofs.Common.{ap, rules}
use Rattle.info_group.specs.Keys.{file_key, module_key}
use Rattle.profile_top.specs.declared.mode.Mode.TheVariants as mode
use Rattle.profile_top.specs.Answers.{mode_of}
use Rattle.profile_top.specs.Spelled.{StepSays, CheckSays, GroupsSay}
use Rattle.profile_top.proofs.Spelling.{spelled, spelled_in_part, step_says, check_says, groups_say}
use Rattle.profile_top.proofs.still.memprof_still.Goals as goal

pub returns-in-Some-clause-served : goal.returns-in-Some-clause-served
returns-in-Some-clause-served g c = search rules

pub returns-in-Some-clause-in_part : goal.returns-in-Some-clause-in_part
returns-in-Some-clause-in_part g c = search rules

pub returns-in-Some-clause-step : goal.returns-in-Some-clause-step
returns-in-Some-clause-step g c = λ words below.
    spelled mode.Step StepSays step_says c.serve.result (g.S.Source.left c.args.source.now) (g.S.Source.left c.serve.new.source) (g.K.Sink.taken c.args.sink.now) (g.K.Sink.taken c.serve.new.sink)
    (returns-in-Some-clause-served g c mode.Step (ap mode_of words) below)

pub returns-in-Some-clause-check : goal.returns-in-Some-clause-check
returns-in-Some-clause-check g c = λ words below.
    spelled mode.Check CheckSays check_says c.serve.result (g.S.Source.left c.args.source.now) (g.S.Source.left c.serve.new.source) (g.K.Sink.taken c.args.sink.now) (g.K.Sink.taken c.serve.new.sink)
    (returns-in-Some-clause-served g c mode.Check (ap mode_of words) below)

pub returns-in-Some-clause-files : goal.returns-in-Some-clause-files
returns-in-Some-clause-files g c = λ words below.
    spelled mode.Files (GroupsSay file_key) (groups_say file_key) c.serve.result (g.S.Source.left c.args.source.now) (g.S.Source.left c.serve.new.source) (g.K.Sink.taken c.args.sink.now) (g.K.Sink.taken c.serve.new.sink)
    (returns-in-Some-clause-served g c mode.Files (ap mode_of words) below)

pub returns-in-Some-clause-modules : goal.returns-in-Some-clause-modules
returns-in-Some-clause-modules g c = λ words below.
    spelled mode.Modules (GroupsSay module_key) (groups_say module_key) c.serve.result (g.S.Source.left c.args.source.now) (g.S.Source.left c.serve.new.source) (g.K.Sink.taken c.args.sink.now) (g.K.Sink.taken c.serve.new.sink)
    (returns-in-Some-clause-served g c mode.Modules (ap mode_of words) below)

pub returns-in-Some-clause-step_in_part : goal.returns-in-Some-clause-step_in_part
returns-in-Some-clause-step_in_part g c = λ words failed.
    spelled_in_part mode.Step StepSays step_says (g.S.Source.left c.args.source.now) (g.S.Source.left c.serve.new.source) (g.K.Sink.taken c.args.sink.now) (g.K.Sink.taken c.serve.new.sink)
    (returns-in-Some-clause-in_part g c mode.Step (ap mode_of words) failed)

pub returns-in-Some-clause-check_in_part : goal.returns-in-Some-clause-check_in_part
returns-in-Some-clause-check_in_part g c = λ words failed.
    spelled_in_part mode.Check CheckSays check_says (g.S.Source.left c.args.source.now) (g.S.Source.left c.serve.new.source) (g.K.Sink.taken c.args.sink.now) (g.K.Sink.taken c.serve.new.sink)
    (returns-in-Some-clause-in_part g c mode.Check (ap mode_of words) failed)

pub returns-in-Some-clause-files_in_part : goal.returns-in-Some-clause-files_in_part
returns-in-Some-clause-files_in_part g c = λ words failed.
    spelled_in_part mode.Files (GroupsSay file_key) (groups_say file_key) (g.S.Source.left c.args.source.now) (g.S.Source.left c.serve.new.source) (g.K.Sink.taken c.args.sink.now) (g.K.Sink.taken c.serve.new.sink)
    (returns-in-Some-clause-in_part g c mode.Files (ap mode_of words) failed)

pub returns-in-Some-clause-modules_in_part : goal.returns-in-Some-clause-modules_in_part
returns-in-Some-clause-modules_in_part g c = λ words failed.
    spelled_in_part mode.Modules (GroupsSay module_key) (groups_say module_key) (g.S.Source.left c.args.source.now) (g.S.Source.left c.serve.new.source) (g.K.Sink.taken c.args.sink.now) (g.K.Sink.taken c.serve.new.sink)
    (returns-in-Some-clause-in_part g c mode.Modules (ap mode_of words) failed)
