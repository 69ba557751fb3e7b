use Rattle.std.proofs.Common.{ℕ, List, ◌==◌, ap, ◌∙◌}
use Rattle.std.specs.List.{list_any}
use Rattle.tag_model.specs.declared.state.Run.{Run}
use Rattle.tag_rule.specs.Shown.{CpuShown}
use Rattle.tag_rule.proofs.RunIds.{any_id}
use Rattle.tag_rule.proofs.cpu.CpuSeat.is_inside.Goals as goal

pub returns : goal.returns
returns c =
    c.has_id.ensures ∙ ap (λ (xs : List ℕ). list_any (λ x. x == c.args.id) xs) (c.deref.ensures.value ∙ c.self.invariant.kept.ids_are)
    ∙ any_id c.args.id _ ∙ ap (λ (x : CpuShown). list_any (λ (r : Run). r.id == c.args.id) x.part.runs) c.self.view_is
