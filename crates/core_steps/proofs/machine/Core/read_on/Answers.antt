use Rattle.std.proofs.Common.{◌≡◌, ◌+◌, ◌≤◌, ℕ, List, sym, ap, ◌∙◌, subst}
use Rattle.core_steps.specs.declared.op.Actor.TheVariants as actor
use Rattle.module_ops.specs.Modules.{CanManage, ModuleTable, TellNothing, managed_times}
use Rattle.core_steps.specs.CoreState.{CoreState, IsCore}
use Rattle.core_steps.specs.ReadOn.{TellsNothing, after_manager}
use Rattle.core_steps.specs.StepsLeft.{steps_left}
use Rattle.core_steps.proofs.Managed.{can_manage}
use Rattle.core_steps.proofs.ReadOn.{core_after, left_after_manager, modules_times, times_tell}
use Rattle.core_steps.proofs.machine.Core.read_on.Goals as goal

-- what is left after so many steps that tell nothing
module _ (s : CoreState) (core : IsCore s) (words : List (List ℕ)) (are : words ≡ s.words) (n : ℕ) (next : ModuleTable) (after : next ≡ managed_times s.shape s.sections words n s.modules) where
  state : record s { modules = next } ≡ after_manager s n
  state = ap (λ (m : ModuleTable). let x : CoreState = record s { modules = m } in x) (after ∙ ap (λ (w : List (List ℕ)). managed_times s.shape s.sections w n s.modules) are) ∙ modules_times n s

  quiet : TellNothing s.shape s.sections words n s.modules → TellsNothing n s
  quiet none = times_tell n s (subst (λ (w : List (List ℕ)). TellNothing s.shape s.sections w n s.modules) are none)

pub read_on-count-requires : goal.read_on-count-requires
read_on-count-requires c =
    let s = c.self.inside in
    let now : CoreState = record { shape = s.shape; sections = s.sections; machine = s.machine; words = s.words.items; modules = s.modules } in
    (s.sections, subst (λ (w : List (List ℕ)). CanManage s.shape s.sections w s.modules) (sym c.as_slice.ensures.value) (can_manage now c.self.invariant))

pub invariant_of-self : goal.invariant_of-self
invariant_of-self c =
    let s = c.self.inside in
    let now : CoreState = record { shape = s.shape; sections = s.sections; machine = s.machine; words = s.words.items; modules = s.modules } in
    let none = quiet now c.self.invariant c.as_slice.result.now c.as_slice.ensures.value c.read_on-count.result c.read_on-count.new.self (c.read_on-count.ensures.after s.sections) (c.read_on-count.ensures.quiet s.sections) in
    subst IsCore (sym (state now c.self.invariant c.as_slice.result.now c.as_slice.ensures.value c.read_on-count.result c.read_on-count.new.self (c.read_on-count.ensures.after s.sections))) (core_after c.read_on-count.result now c.self.invariant none)

pub returns-clause-state : goal.returns-clause-state
returns-clause-state c =
    let s = c.self.inside in
    let now : CoreState = record { shape = s.shape; sections = s.sections; machine = s.machine; words = s.words.items; modules = s.modules } in
    state now c.self.invariant c.as_slice.result.now c.as_slice.ensures.value c.read_on-count.result c.read_on-count.new.self (c.read_on-count.ensures.after s.sections) ∙ ap (λ (x : CoreState). after_manager x c.read_on-count.result) c.self.view_is

pub returns-clause-quiet : goal.returns-clause-quiet
returns-clause-quiet c =
    let s = c.self.inside in
    let now : CoreState = record { shape = s.shape; sections = s.sections; machine = s.machine; words = s.words.items; modules = s.modules } in
    subst (TellsNothing c.read_on-count.result) c.self.view_is
    (quiet now c.self.invariant c.as_slice.result.now c.as_slice.ensures.value c.read_on-count.result c.read_on-count.new.self (c.read_on-count.ensures.after s.sections) (c.read_on-count.ensures.quiet s.sections))

pub returns-clause-left : goal.returns-clause-left
returns-clause-left c =
    let s = c.self.inside in
    let now : CoreState = record { shape = s.shape; sections = s.sections; machine = s.machine; words = s.words.items; modules = s.modules } in
    let none = quiet now c.self.invariant c.as_slice.result.now c.as_slice.ensures.value c.read_on-count.result c.read_on-count.new.self (c.read_on-count.ensures.after s.sections) (c.read_on-count.ensures.quiet s.sections) in
    let same = state now c.self.invariant c.as_slice.result.now c.as_slice.ensures.value c.read_on-count.result c.read_on-count.new.self (c.read_on-count.ensures.after s.sections) in
    subst (λ (x : CoreState). steps_left (record now { modules = c.read_on-count.new.self }) actor.Manager + c.read_on-count.result ≤ steps_left x actor.Manager) c.self.view_is
    (subst (λ (x : CoreState). steps_left x actor.Manager + c.read_on-count.result ≤ steps_left now actor.Manager) (sym same) (left_after_manager c.read_on-count.result now c.self.invariant none))
