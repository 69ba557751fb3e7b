use Rattle.std.proofs.Common.{ap, rules, ◌∙◌}
use Rattle.tag_model.specs.declared.state.CpuPart.{CpuPart}
use Rattle.tag_rule.specs.Shown.{CpuShown}
use Rattle.tag_rule.proofs.Scripts.{opens_step, opens_hand}
use Rattle.tag_rule.proofs.tests.opens.Goals as goal

pub write_cell-requires-clause-step : goal.write_cell-requires-clause-step
write_cell-requires-clause-step c =
    let begun = ap (λ (x : CpuPart). x.hand) (c.add_call.ensures.begins c.requires.free.0).after in
    let added = (c.add_bytes.ensures.added _ begun).after in
    opens_step _ _ c.tell.ensures.holds.hand (ap (λ (x : CpuPart). x.hand) added) c.requires.none

pub returns-clause-cpu : goal.returns-clause-cpu
returns-clause-cpu c =
    let begun = ap (λ (x : CpuPart). x.hand) (c.add_call.ensures.begins c.requires.free.0).after in
    let added = (c.add_bytes.ensures.added _ begun).after in
    (search rules, ap (λ (x : CpuShown). x.part.hand) c.write_cell.ensures.cpu ∙ opens_hand _ _ (ap (λ (x : CpuPart). x.hand) added) c.requires.none)
