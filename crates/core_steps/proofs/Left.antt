-- A step that is taken leaves its actor one step less.
use Rattle.std.proofs.Common.{◌≡◌, ℕ, ◌+◌, ◌-◌, ◌<◌, ◌==◌, List, [], ◌∷◌, length, refl, sym, ap, ◌∙◌, arith, Some, None, Bool, true, false, inl, inr, sum_by}
use Rattle.std.proofs.lemmas.Bool.Decides.{nat_tests}
use Rattle.std.proofs.lemmas.Bool.{cases_lt}
use Rattle.std.proofs.lemmas.List.{get_or-set_same, get_or_past}
use Rattle.std.proofs.lemmas.List.Sums.{sum_by-cons}
use Rattle.cpu_ops.specs.declared.op.CpuOp.{CpuOp}
use Rattle.cpu_ops.specs.declared.refused.StepRefused.TheVariants.{NoStep}
use Rattle.cpu_ops.specs.Machine.{Machine, Waiting, nothing_waits, waiting_at, step_count, advanced, refusal_in, stepped_by, after_step}
use Rattle.core_steps.specs.CoreState.{CoreState, IsCore, refused}
use Rattle.cpu_ops.specs.Needs.{CanStep}
use Rattle.core_steps.specs.declared.op.Actor.TheVariants as actor
use Rattle.module_ops.specs.Modules.{ModuleTable, inside_at, scene_at}
use Rattle.core_steps.proofs.Kept.{can_go}
use Rattle.module_ops.specs.Modules.{words_at}
use Rattle.core_steps.specs.StepsLeft.{cpu_steps_left}

left_of : Waiting → ℕ
left_of w = sum_by step_count w.ops - w.done

left_advanced : (op : CpuOp) (ops : List CpuOp) (done : ℕ) → done < step_count op → left_of (record { ops = op ∷ ops; done = done }) ≡ left_of (advanced (op ∷ ops) done) + 1
unfolding left_of
left_advanced op ops done within = let all = sum_by-cons step_count op ops in by_test (done + 1 == step_count op) refl
  where
    by_test : (last : Bool) → (done + 1 == step_count op) ≡ last → sum_by step_count (op ∷ ops) - done ≡ left_of (advanced (op ∷ ops) done) + 1
    by_test true e = let f : done + 1 ≡ step_count op = grind (arith, nat_tests) in rw e (omega (arith, sum_by-cons step_count op ops))
    by_test false e = rw e (omega (arith, sum_by-cons step_count op ops))

left_stepped : (own : List ℕ) (m : Machine) (ms : ModuleTable) (cpu : ℕ) (ops : List CpuOp) (done : ℕ) → cpu < length m.waiting → CanStep m (scene_at ms cpu) own cpu ops done → refusal_in m (scene_at ms cpu) ops done ≡ None
    → left_of (record { ops = ops; done = done }) ≡ left_of (waiting_at (stepped_by m (inside_at ms cpu) cpu ops done) cpu) + 1
left_stepped own m ms cpu [] done below can none = cc
left_stepped own m ms cpu (op ∷ ops) done below can none =
    left_advanced op ops done can.1
    ∙ ap (λ (w : Waiting). left_of w + 1) (sym (get_or-set_same m.waiting cpu (advanced (op ∷ ops) done) nothing_waits below))

pub left_after : (s : CoreState) (cpu : ℕ) → IsCore s → refused s (actor.Cpu cpu) ≡ None → cpu_steps_left s.machine cpu ≡ cpu_steps_left (after_step s.machine (inside_at s.modules cpu) cpu) cpu + 1
unfolding left_of
left_after s cpu core none = elim (cases_lt cpu (length s.machine.waiting)) [
  | inl below ↦ left_stepped (words_at s.words cpu) s.machine s.modules cpu (waiting_at s.machine cpu).ops (waiting_at s.machine cpu).done below (can_go s cpu core (omega (arith, core.machine.waiting))).step none
  | inr past ↦ let bad : refused s (actor.Cpu cpu) ≡ Some NoStep = rw (get_or_past s.machine.waiting cpu nothing_waits past) refl in cc
]

none_waits : (own : List ℕ) (m : Machine) (ms : ModuleTable) (cpu : ℕ) (ops : List CpuOp) (done : ℕ) → CanStep m (scene_at ms cpu) own cpu ops done → left_of (record { ops = ops; done = done }) ≡ 0 → ops ≡ []
unfolding left_of
none_waits own m ms cpu [] done can h = refl
none_waits own m ms cpu (op ∷ ops) done can h = absurd (omega (arith, sum_by-cons step_count op ops, can.1))

-- no step is left exactly where no op waits
pub left_none : (s : CoreState) (cpu : ℕ) → IsCore s → cpu_steps_left s.machine cpu ≡ 0 → (waiting_at s.machine cpu).ops ≡ []
unfolding left_of
left_none s cpu core h = elim (cases_lt cpu (length s.machine.waiting)) [
  | inl below ↦ none_waits (words_at s.words cpu) s.machine s.modules cpu (waiting_at s.machine cpu).ops (waiting_at s.machine cpu).done (can_go s cpu core (omega (arith, core.machine.waiting))).step h
  | inr past ↦ ap (λ (w : Waiting). w.ops) (get_or_past s.machine.waiting cpu nothing_waits past)
]

pub left_zero : (w : Waiting) → w.ops ≡ [] → sum_by step_count w.ops - w.done ≡ 0
left_zero w e = rw e (omega arith)
