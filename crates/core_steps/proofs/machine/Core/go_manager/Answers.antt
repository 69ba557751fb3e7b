use Rattle.std.proofs.Common.{OnOk, OnErr, Result, Ok, Err, ◌≡◌, List, ℕ, subst}
use Rattle.core_steps.specs.declared.op.Actor.TheVariants as actor
use Rattle.module_ops.specs.declared.event.Event.{Event}
use Rattle.cpu_ops.specs.declared.refused.StepRefused.{StepRefused}
use Rattle.module_ops.specs.Modules.{ModuleTable, managed, manager_event, manager_refusal}
use Rattle.core_steps.specs.CoreState.{CoreState, IsCore, refused, event_of}
use Rattle.core_steps.proofs.Kept.{Answers, result_none}
use Rattle.core_steps.proofs.Managed.{can_manage}
use Rattle.core_steps.proofs.ManagerCore.{manager_core}
use Rattle.core_steps.proofs.machine.Core.go_manager.Goals as goal

-- what the manager's step leaves, by its answer
after : (s : CoreState) (next : ModuleTable) (r : Result Event StepRefused) → IsCore s → Answers (refused s actor.Manager) (event_of s actor.Manager) r → OnOk r (next ≡ managed s.shape s.sections s.words s.modules) → OnErr r (next ≡ s.modules)
    → IsCore (record s { modules = next })
after s next (Ok e) core answer ok err = rw ok (manager_core s core (result_none _ _ e answer))
after s next (Err e) core answer ok err = rw err core

pub manage-requires : goal.manage-requires
manage-requires c = rw c.as_slice.ensures.value (can_manage (record { shape = c.self.inside.shape; sections = c.self.inside.sections; machine = c.self.inside.machine; words = c.self.inside.words.items; modules = c.self.inside.modules }) c.self.invariant)

pub invariant_of-self : goal.invariant_of-self
invariant_of-self c =
    after (record { shape = c.self.inside.shape; sections = c.self.inside.sections; machine = c.self.inside.machine; words = c.self.inside.words.items; modules = c.self.inside.modules }) c.manage.new.self c.manage.result c.self.invariant
    (subst (λ (words : List (List ℕ)). Answers (manager_refusal c.self.inside.sections c.self.inside.modules) (manager_event c.self.inside.shape words c.self.inside.modules) c.manage.result) c.as_slice.ensures.value c.manage.ensures.answer)
    (subst (λ (words : List (List ℕ)). OnOk c.manage.result (c.manage.new.self ≡ managed c.self.inside.shape c.self.inside.sections words c.self.inside.modules)) c.as_slice.ensures.value c.manage.ensures.ok) c.manage.ensures.err
