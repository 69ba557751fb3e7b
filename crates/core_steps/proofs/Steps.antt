-- Steps of one CPU, one after another, to the end of an op.
use Rattle.std.proofs.Common.{◌≡◌, ◌≢◌, ℕ, zero, suc, ◌+◌, ◌<◌, ◌==◌, List, [], ◌∷◌, length, refl, sym, ap, ◌∙◌, subst, arith, None, true, false, inl, inr}
use Rattle.std.proofs.lemmas.Bool.{cases_lt}
use Rattle.std.proofs.lemmas.Bool.Decides.{nat_tests}
use Rattle.std.proofs.lemmas.List.{get_or-set_same, get_or_past}
use Rattle.cpu_ops.specs.declared.op.CpuOp.{CpuOp}
use Rattle.cpu_ops.specs.declared.op.CpuOp.TheVariants.{Open, Close, Split, Swap, Trim, Enter, Leave}
use Rattle.tag_section.specs.Section.{Section}
use Rattle.module_ops.specs.Modules.{inside_at, scene_at}
use Rattle.core_steps.specs.declared.op.Actor.TheVariants as actor
use Rattle.cpu_ops.specs.Machine.{Waiting, Machine, Scene, nothing_waits, waiting_at, hand_at, step_of, hand_after, places_after, advanced, step_count, after_step, stepped_by, refusal_in, refusal_of}
use Rattle.core_steps.specs.CoreState.{CoreState, IsCore, IsReady, stepped}
use Rattle.cpu_ops.specs.MayQueue.{IsOp}
use Rattle.core_steps.specs.Laws.{Begins, waits_for, after_steps}
use Rattle.core_steps.proofs.Ready.{Next}
use Rattle.core_steps.proofs.Kept.{gone, next_at, first_passes}

-- a CPU that waits for an op is one of the machine
pub waits_below : (m : Machine) (cpu : ℕ) (op : CpuOp) (ops : List CpuOp) (done : ℕ) → waiting_at m cpu ≡ waits_for op ops done → cpu < length m.waiting
waits_below m cpu op ops done waits = elim (cases_lt cpu (length m.waiting)) [
  | inl l ↦ l
  | inr past ↦ let none : [] ≡ op ∷ ops = sym (ap (λ (w : Waiting). w.ops) (get_or_past m.waiting cpu nothing_waits past)) ∙ ap (λ (w : Waiting). w.ops) waits in cc
]

pub later_free : (m : Machine) (scene : Scene) (op : CpuOp) (ops : List CpuOp) (done : ℕ) → done ≢ 0 → refusal_in m scene (op ∷ ops) done ≡ None
later_free m scene op ops done later = let t : (done == 0) ≡ false = grind (arith, nat_tests) in rw t refl

pub free_in : (m : Machine) (scene : Scene) (cpu : ℕ) (op : CpuOp) (ops : List CpuOp) (done : ℕ) → waiting_at m cpu ≡ waits_for op ops done → refusal_in m scene (op ∷ ops) done ≡ None → refusal_of m scene cpu ≡ None
free_in m scene cpu op ops done waits free = ap (λ (w : Waiting). refusal_in m scene w.ops w.done) waits ∙ free

pub in_free : (m : Machine) (scene : Scene) (cpu : ℕ) (op : CpuOp) (ops : List CpuOp) (done : ℕ) → waiting_at m cpu ≡ waits_for op ops done → refusal_of m scene cpu ≡ None → refusal_in m scene (op ∷ ops) done ≡ None
in_free m scene cpu op ops done waits free = sym (ap (λ (w : Waiting). refusal_in m scene w.ops w.done) waits) ∙ free

-- the next step of an op
pub record Stepped (s : CoreState) (cpu : ℕ) (op : CpuOp) (ops : List CpuOp) (done : ℕ) : Type 0 where
  pub ready : IsReady s.sections s.machine.places (hand_at s.machine cpu) (op ∷ ops) done
  pub next : Next s.shape s.sections (inside_at s.modules cpu) s.machine.places (hand_at s.machine cpu) op ops done
  pub core : IsCore (stepped s (actor.Cpu cpu))
  pub waits : waiting_at (stepped s (actor.Cpu cpu)).machine cpu ≡ advanced (op ∷ ops) done
  pub hand : hand_at (stepped s (actor.Cpu cpu)).machine cpu ≡ hand_after (step_of op done (hand_at s.machine cpu) s.machine.places (inside_at s.modules cpu)) (hand_at s.machine cpu)
  pub places : (stepped s (actor.Cpu cpu)).machine.places ≡ places_after (step_of op done (hand_at s.machine cpu) s.machine.places (inside_at s.modules cpu)) s.machine.places

pub ready_at : (s : CoreState) (cpu : ℕ) (ops : List CpuOp) (done : ℕ) → IsCore s → cpu < s.shape.cpus → waiting_at s.machine cpu ≡ record { ops = ops; done = done } → IsReady s.sections s.machine.places (hand_at s.machine cpu) ops done
ready_at s cpu ops done core below waits = subst (λ (w : Waiting). IsReady s.sections s.machine.places (hand_at s.machine cpu) w.ops w.done) waits (core.machine.ready cpu below)

pub takes_step : (s : CoreState) (cpu : ℕ) (op : CpuOp) (ops : List CpuOp) (done : ℕ) → IsCore s → waiting_at s.machine cpu ≡ waits_for op ops done → refusal_in s.machine (scene_at s.modules cpu) (op ∷ ops) done ≡ None → Stepped s cpu op ops done
takes_step s cpu op ops done core waits free =
    let below = waits_below s.machine cpu op ops done waits in
    let ready = ready_at s cpu (op ∷ ops) done core (omega (arith, core.machine.waiting)) waits in
    let inside = inside_at s.modules cpu in
    let is : after_step s.machine inside cpu ≡ stepped_by s.machine inside cpu (op ∷ ops) done = ap (λ (w : Waiting). stepped_by s.machine inside cpu w.ops w.done) waits in
    record {
      ready = ready;
      next = next_at s cpu op ops done core (omega (arith, core.machine.waiting)) ready (first_passes s.machine (scene_at s.modules cpu) op ops done free);
      core = (gone s cpu core (free_in s.machine (scene_at s.modules cpu) cpu op ops done waits free)).core;
      waits = ap (λ (m : Machine). waiting_at m cpu) is ∙ get_or-set_same s.machine.waiting cpu (advanced (op ∷ ops) done) nothing_waits below;
      hand = ap (λ (m : Machine). hand_at m cpu) is ∙ get_or-set_same s.machine.hands cpu (hand_after (step_of op done (hand_at s.machine cpu) s.machine.places (inside_at s.modules cpu)) (hand_at s.machine cpu)) None (omega (arith, core.machine.hands, core.machine.waiting));
      places = ap (λ (m : Machine). m.places) is;
    }

-- ---- step counts

pub after_more : (s : CoreState) (cpu i : ℕ) → after_steps s cpu (suc i) ≡ stepped (after_steps s cpu i) (actor.Cpu cpu)
after_more s cpu zero = refl
after_more s cpu (suc i) = after_more (stepped s (actor.Cpu cpu)) cpu i

pub goes_on : (op : CpuOp) (ops : List CpuOp) (done : ℕ) → done + 1 ≢ step_count op → advanced (op ∷ ops) done ≡ waits_for op ops (done + 1)
goes_on op ops done more = let t : (done + 1 == step_count op) ≡ false = grind (arith, nat_tests) in rw t refl

pub ends : (op : CpuOp) (ops : List CpuOp) (done : ℕ) → done + 1 ≡ step_count op → advanced (op ∷ ops) done ≡ record { ops = ops; done = 0 }
ends op ops done last = let t : (done + 1 == step_count op) ≡ true = grind (arith, nat_tests) in rw t refl

-- after so many steps of an op that begins
pub record UnderWay (s : CoreState) (cpu : ℕ) (op : CpuOp) (ops : List CpuOp) (i : ℕ) : Type 0 where
  pub core : IsCore (after_steps s cpu i)
  pub waits : waiting_at (after_steps s cpu i).machine cpu ≡ waits_for op ops i
  pub free : refusal_in (after_steps s cpu i).machine (scene_at (after_steps s cpu i).modules cpu) (op ∷ ops) i ≡ None

pub under_way : (s : CoreState) (cpu : ℕ) (op : CpuOp) (ops : List CpuOp) (i : ℕ) → IsCore s → Begins s cpu op ops → i < step_count op → UnderWay s cpu op ops i
under_way s cpu op ops zero core b within = record { core = core; waits = b.waits; free = in_free s.machine (scene_at s.modules cpu) cpu op ops 0 b.waits b.free }
under_way s cpu op ops (suc i) core b within =
    let u = under_way s cpu op ops i core b (omega arith) in
    let t = takes_step (after_steps s cpu i) cpu op ops i u.core u.waits u.free in
    let is = after_more s cpu i in
    let next : i + 1 ≡ suc i = omega arith in
    record {
      core = subst IsCore (sym is) t.core;
      waits = ap (λ (c : CoreState). waiting_at c.machine cpu) is ∙ t.waits ∙ goes_on op ops i (omega arith) ∙ ap (waits_for op ops) next;
      free = later_free (after_steps s cpu (suc i)).machine (scene_at (after_steps s cpu (suc i)).modules cpu) op ops (suc i) (omega arith);
    }

some_steps : (n : List Section) (op : CpuOp) → IsOp n op → 0 < step_count op
some_steps n (Open key section index size) is = omega arith
some_steps n (Close key) is = omega arith
some_steps n (Split key parts first) is = omega (arith, is.two_parts)
some_steps n (Swap one two) is = omega arith
some_steps n (Trim key bytes) is = omega arith
some_steps n (Enter section) is = omega arith
some_steps n (Leave section) is = omega arith

pub ended : (s : CoreState) (cpu : ℕ) (op : CpuOp) (ops : List CpuOp) → IsCore s → Begins s cpu op ops → waiting_at (after_steps s cpu (step_count op)).machine cpu ≡ record { ops = ops; done = 0 }
ended s cpu op ops core b =
    let below = waits_below s.machine cpu op ops 0 b.waits in
    let some = some_steps s.sections op (ready_at s cpu (op ∷ ops) 0 core (omega (arith, core.machine.waiting)) b.waits).1 in
    last (step_count op) refl some
  where
    last : (n : ℕ) → n ≡ step_count op → 0 < n → waiting_at (after_steps s cpu n).machine cpu ≡ record { ops = ops; done = 0 }
    last zero is none = absurd (omega arith)
    last (suc i) is some =
        let u = under_way s cpu op ops i core b (omega arith) in
        let t = takes_step (after_steps s cpu i) cpu op ops i u.core u.waits u.free in
        ap (λ (c : CoreState). waiting_at c.machine cpu) (after_more s cpu i) ∙ t.waits ∙ ends op ops i (omega arith)
