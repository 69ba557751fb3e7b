-- A sweep by its stage and the ids that are left on its list.
use Rattle.std.specs.Prelude.{ℕ, ◌+◌, nat_lt, List, if◌then◌else◌}
use Rattle.tag_model.specs.declared.state.Reader.{Reader}
use Rattle.tag_model.specs.declared.state.Record.{Record}
use Rattle.tag_model.specs.declared.state.Sweep.{Sweep}
use Rattle.tag_model.specs.declared.state.Sweep.TheVariants as sweep
use Rattle.tag_model.specs.StepRules.{end_of, passes_record}
use Rattle.module_list.specs.declared.list.Stage.{Stage}
use Rattle.module_list.specs.declared.list.Stage.TheVariants.{Idle, Reading, Done}

abbrev pub sweep_of : Stage → List ℕ → Sweep
sweep_of Idle left = sweep.None
sweep_of (Reading reader) left = sweep.Reading left reader
sweep_of Done left = sweep.Done left

-- nothing is counted under the tag: on to the next one of its module, or through with that
abbrev pub passes_tag : List ℕ → List Record → Reader → Sweep
passes_tag left records r =
    if nat_lt (r.tag + 1) (end_of r.id records) then sweep.Reading left (record r { tag = r.tag + 1; cpu = 0; sum = 0 })
    else passes_record r.pass left records r.id
