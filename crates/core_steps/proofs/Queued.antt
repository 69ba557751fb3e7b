-- A core with one op more in a queue is a core.
use Rattle.std.proofs.Common.{◌≡◌, ◌≢◌, ℕ, ◌<◌, List, [], ◌∷◌, ◌++◌, set, map, refl, sym, ap, ◌∙◌, subst, arith, Option, Some, None, IsSomeAnd, true, inl, inr, Result, Ok, Err, OnOk, OnErr}
use Rattle.std.proofs.lemmas.Bool.Decides.{nat_tests}
use Rattle.std.proofs.lemmas.Bool.{cases_eq}
use Rattle.std.proofs.lemmas.List.{get_or-set_same, get_or-set_other, length-set}
use Rattle.std.specs.List.{AllByRecursion}
use Rattle.tag_model.specs.declared.state.Hand.{Hand}
use Rattle.tag_model.specs.declared.state.Held.{Held}
use Rattle.cpu_ops.specs.declared.op.CpuOp.{CpuOp}
use Rattle.tag_section.specs.Section.{Section}
use Rattle.cpu_ops.specs.Machine.{Waiting, Machine, nothing_waits, reserves, hand_at, waiting_at}
use Rattle.core_steps.specs.CoreState.{CoreState, IsReady, IsReadyAt, IsCore, state_with}
use Rattle.cpu_ops.specs.MayQueue.{IsOp}
use Rattle.cpu_ops.specs.Machine.{with_op}
use Rattle.core_steps.specs.declared.op.Op.{Op}
use Rattle.core_steps.specs.declared.op.Actor.{Actor}
use Rattle.core_steps.specs.declared.op.Actor.TheVariants as actor
use Rattle.module_ops.specs.declared.op.ManagerOp.{ManagerOp}
use Rattle.module_ops.specs.Modules.{ModuleTable, IsManagerOp}
use Rattle.core_steps.specs.CoreState.{of_cpu, of_manager, IsActor, IsOpOf, cpu_op, manager_op, queued, queued_cpu, queued_manager}
use Rattle.cpu_ops.specs.Machine.{queued_on}
use Rattle.core_steps.proofs.ManagerCore.{manager_queued}
use Rattle.core_steps.proofs.Ready.{ready_first}

all_queued : (n : List Section) (ops : List CpuOp) (op : CpuOp) → AllByRecursion (IsOp n) ops → IsOp n op → AllByRecursion (IsOp n) (ops ++ op ∷ [])
all_queued n [] op all is = (is, tt)
all_queued n (x ∷ ops) op all is = (all.0, all_queued n ops op all.1 is)

ready_queued : (n : List Section) (places : List Held) (hand : Option Hand) (ops : List CpuOp) (done : ℕ) (op : CpuOp) → IsReady n places hand ops done → IsOp n op → IsReady n places hand (ops ++ op ∷ []) done
ready_queued n places hand [] done op ready is = rw (ready.0, ready.1) (ready_first n places (op ∷ []) (is, tt))
ready_queued n places hand (x ∷ ops) done op ready is = (ready.0, ready.1, all_queued n ops op ready.2 is)

reserves_queued : (n : List Section) (key : ℕ) (places : List Held) (hand : Option Hand) (ops : List CpuOp) (done : ℕ) (op : CpuOp) → IsReady n places hand ops done
    → reserves key (record { ops = ops ++ op ∷ []; done = done }) ≡ true → reserves key (record { ops = ops; done = done }) ≡ true
reserves_queued n key places hand [] done op ready h = let none = ready.1 in grind (arith, nat_tests)
reserves_queued n key places hand (x ∷ ops) done op ready h = h

module _ (s : CoreState) (cpu : ℕ) (op : CpuOp) (core : IsCore s) (below : cpu < s.shape.cpus) (is : IsOp s.sections op) where
  m : Machine
  m = s.machine

  next : Machine
  next = record s.machine { waiting = set s.machine.waiting cpu (with_op (waiting_at s.machine cpu) op) }

  here : waiting_at next cpu ≡ with_op (waiting_at s.machine cpu) op
  unfolding next
  here = get_or-set_same s.machine.waiting cpu (with_op (waiting_at s.machine cpu) op) nothing_waits (omega (arith, core.machine.waiting))

  there : (j : ℕ) → j ≢ cpu → waiting_at next j ≡ waiting_at s.machine j
  unfolding next
  there j ne = get_or-set_other s.machine.waiting cpu j (with_op (waiting_at s.machine cpu) op) nothing_waits ne

  ready : (j : ℕ) → j < s.shape.cpus → IsReadyAt s.sections next j
  unfolding next
  ready j within = elim (cases_eq j cpu) [
    | inl e ↦ subst (IsReadyAt s.sections next) (sym e)
        (subst (λ (w : Waiting). IsReady s.sections s.machine.places (hand_at s.machine cpu) w.ops w.done) (sym here)
        (ready_queued s.sections s.machine.places (hand_at s.machine cpu) (waiting_at s.machine cpu).ops (waiting_at s.machine cpu).done op (core.machine.ready cpu below) is))
    | inr ne ↦ subst (λ (w : Waiting). IsReady s.sections s.machine.places (hand_at s.machine j) w.ops w.done) (sym (there j ne)) (core.machine.ready j within)
  ]

  reserved : (j key : ℕ) → j < s.shape.cpus → reserves key (waiting_at next j) ≡ true → reserves key (waiting_at s.machine j) ≡ true
  reserved j key within h = elim (cases_eq j cpu) [
    | inl e ↦ subst (λ (i : ℕ). reserves key (waiting_at s.machine i) ≡ true) (sym e)
        (reserves_queued s.sections key s.machine.places (hand_at s.machine cpu) (waiting_at s.machine cpu).ops (waiting_at s.machine cpu).done op (core.machine.ready cpu below)
        (subst (λ (w : Waiting). reserves key w ≡ true) (ap (waiting_at next) e ∙ here) h))
    | inr ne ↦ subst (λ (w : Waiting). reserves key w ≡ true) (there j ne) h
  ]

  pub cpu_queued : IsCore (record s { machine = queued_on s.machine cpu op })
  unfolding state_with next
  cpu_queued = record {
    shape = core.shape;
    sections = core.sections;
    machine = record {
      hands = core.machine.hands;
      waiting = length-set s.machine.waiting cpu (with_op (waiting_at s.machine cpu) op) ∙ core.machine.waiting;
      places = core.machine.places;
      ready = ready;
      apart = λ i j key wi wj ne ri rj. core.machine.apart i j key wi wj ne (reserved i key wi ri) (reserved j key wj rj);
    };
    words = core.words;
    own_words = core.own_words;
    modules = core.modules;
    safe = core.safe;
  }

-- a CPU with nothing queued has no step done
pub at_start : (s : CoreState) (cpu : ℕ) → IsCore s → cpu < s.shape.cpus → (waiting_at s.machine cpu).ops ≡ [] → (waiting_at s.machine cpu).done ≡ 0
at_start s cpu core below none = (subst (λ (ops : List CpuOp). IsReady s.sections s.machine.places (hand_at s.machine cpu) ops (waiting_at s.machine cpu).done) none (core.machine.ready cpu below)).1

-- the op is queued, whoever its actor is
pub core_queued : (s : CoreState) (who : Actor) (op : Op) → IsCore s → IsActor s who → IsOpOf s.sections who op → IsCore (queued s who op)
core_queued s (actor.Cpu cpu) op core below is = go (cpu_op op) is
  where
    go : (o : Option CpuOp) → IsSomeAnd o (IsOp s.sections) → IsCore (queued_cpu s cpu o)
    go None is = absurd is
    go (Some x) is = cpu_queued s cpu x core below is
core_queued s actor.Manager op core below is = go (manager_op op) is
  where
    go : (o : Option ManagerOp) → IsSomeAnd o (IsManagerOp s.sections) → IsCore (queued_manager s o)
    go None is = absurd is
    go (Some x) is = manager_queued s x core is

-- what a queue leaves, by its answer
pub after_queue : {X E : Type 0} (s next queued : CoreState) (r : Result X E) → IsCore s → IsCore queued → OnOk r (next ≡ queued) → OnErr r (next ≡ s) → IsCore next
after_queue s next queued (Ok x) core done ok err = subst IsCore (sym ok) done
after_queue s next queued (Err e) core done ok err = subst IsCore (sym err) core

-- by the parts of a core
pub ok_machine : {X E : Type 0} (s : CoreState) (m next : Machine) (r : Result X E) → OnOk r (m ≡ next) → OnOk r (record s { machine = m } ≡ record s { machine = next })
ok_machine s m next (Ok x) e = ap (λ (y : Machine). record s { machine = y }) e
ok_machine s m next (Err x) e = tt

pub err_machine : {X E : Type 0} (s : CoreState) (m : Machine) (r : Result X E) → OnErr r (m ≡ s.machine) → OnErr r (record s { machine = m } ≡ s)
err_machine s m (Ok x) e = tt
err_machine s m (Err x) e = ap (λ (y : Machine). record s { machine = y }) e

pub ok_modules : {X E : Type 0} (s : CoreState) (ms next : ModuleTable) (r : Result X E) → OnOk r (ms ≡ next) → OnOk r (record s { modules = ms } ≡ record s { modules = next })
ok_modules s ms next (Ok x) e = ap (λ (y : ModuleTable). record s { modules = y }) e
ok_modules s ms next (Err x) e = tt

pub err_modules : {X E : Type 0} (s : CoreState) (ms : ModuleTable) (r : Result X E) → OnErr r (ms ≡ s.modules) → OnErr r (record s { modules = ms } ≡ s)
err_modules s ms (Ok x) e = tt
err_modules s ms (Err x) e = ap (λ (y : ModuleTable). record s { modules = y }) e

-- an actor has no ops exactly where its queue is empty
pub cpu_none : (ops : List CpuOp) → map of_cpu ops ≡ [] → ops ≡ []
cpu_none [] e = refl
cpu_none (x ∷ ops) e = cc

pub manager_none : (ops : List ManagerOp) → map of_manager ops ≡ [] → ops ≡ []
manager_none [] e = refl
manager_none (x ∷ ops) e = cc
