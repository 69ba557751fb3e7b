use Rattle.std.proofs.Common.{◌≡◌, [], ◌∷◌, ◌++◌, Option, ap, ◌∙◌}
use Rattle.std.specs.Option.{option_to_list}
use Rattle.round_worker.specs.declared.hooks.Hook.{Hook}
use Rattle.round_worker.proofs.HookLemmas.{taken_off}
use Rattle.round_worker.proofs.hooks.Hooks.take_off.Goals as goal

items : (c : goal.After-restore) → c.self.inside.out.items ≡ c.pop.new.self.items ++ c.in-Some.hook ∷ []
items c = c.pop.ensures.items ∙ ap (λ (o : Option Hook). c.pop.new.self.items ++ option_to_list o) c.in-Some.is

pub invariant_of-self : goal.invariant_of-self
invariant_of-self c =
    taken_off c.self.inside.task c.restore.new.self c.in-Some.hook c.self.inside.out.items c.pop.new.self.items c.self.invariant (items c) c.restore.ensures
