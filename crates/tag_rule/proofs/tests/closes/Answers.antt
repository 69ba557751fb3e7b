use Rattle.std.proofs.Common.{ap, arith, rules, refl, false, ◌∙◌}
use Rattle.tag_model.specs.declared.state.CpuPart.{CpuPart}
use Rattle.tag_rule.specs.Scripts.{in_hand}
use Rattle.tag_rule.specs.Shown.{CpuShown}
use Rattle.tag_rule.proofs.Scripts.{closes_step, closes_hand}
use Rattle.tag_rule.proofs.tests.closes.Goals as goal

pub write_cell-requires-clause-step : goal.write_cell-requires-clause-step
write_cell-requires-clause-step c = closes_step _ _ c.requires.free c.requires.counted

pub sub_bytes-requires : goal.sub_bytes-requires
sub_bytes-requires c = record {
  hand = in_hand false;
  held = ap (λ (x : CpuShown). x.part.hand) c.write_cell.ensures.cpu ∙ closes_hand _ _ c.requires.free c.requires.counted;
  settled = refl;
  within = omega arith;
}

pub sub_call-requires : goal.sub_call-requires
sub_call-requires c =
    let held = ap (λ (x : CpuShown). x.part.hand) c.write_cell.ensures.cpu ∙ closes_hand _ _ c.requires.free c.requires.counted in
    record {
      hand = record (in_hand false) { bytes = 0 };
      held = ap (λ (x : CpuPart). x.hand) (c.sub_bytes.ensures.subtracted _ held).after;
      settled = refl;
      bytes_first = λ e. refl;
    }

pub returns-clause-cpu : goal.returns-clause-cpu
returns-clause-cpu c =
    let held = ap (λ (x : CpuShown). x.part.hand) c.write_cell.ensures.cpu ∙ closes_hand _ _ c.requires.free c.requires.counted in
    let less = ap (λ (x : CpuPart). x.hand) (c.sub_bytes.ensures.subtracted _ held).after in
    (search rules, ap (λ (x : CpuPart). x.hand) (c.sub_call.ensures.subtracted _ less).after)
