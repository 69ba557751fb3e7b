-- A core stays a core: what a step of a CPU leaves of the whole machine.
use Rattle.std.proofs.Common.{◌≡◌, ◌≢◌, ℕ, ◌+◌, ◌-◌, ◌*◌, ◌<◌, ◌≤◌, ◌==◌, nat_lt, cond, Bool, List, [], ◌∷◌, length, get_or, set, refl, sym, ap, ◌∙◌, subst, arith, Option, Some, None, true, false, inl, inr, Result, Ok, Err, OnOk, MatchOption, IsOkAnd, IsSomeAnd}
use Rattle.std.proofs.lemmas.Option.{same_Some}
use Rattle.module_ops.specs.declared.event.Event.{Event}
use Rattle.cpu_ops.specs.declared.refused.StepRefused.{StepRefused}
use Rattle.tag_model.specs.StepRules.{StepsWith}
use Rattle.tag_model.specs.declared.state.Sweep.{Sweep}
use Rattle.tag_model.specs.declared.state.Sweep.TheVariants as sweep
use Rattle.core_steps.specs.Kinds.{StepKind, kind_in, kind_of}
use Rattle.core_steps.proofs.ByKind.{GoesBy, goes_with, kind_with, of_table, word_kind}
use Rattle.tag_model.proofs.Steps.{safe-steps_with}
use Rattle.tag_model.specs.declared.state.Run.{Run}
use Rattle.tag_model.specs.declared.state.Part.{Part}
use Rattle.tag_section.specs.Section.{Section}
use Rattle.core_steps.specs.declared.op.Actor.TheVariants as actor
use Rattle.module_ops.specs.Modules.{ModuleTable, inside_at, scene_at, modules_after}
use Rattle.core_steps.proofs.GoesIn.{goes_in_row, goes_out_row, goes_in_modules, goes_out_modules, in_fits, out_fits}
use Rattle.core_steps.proofs.InsideTags.{begins_in}
use Rattle.std.proofs.lemmas.Bool.Decides.{nat_tests}
use Rattle.std.proofs.lemmas.Bool.{cases_eq, cases_lt}
use Rattle.std.proofs.lemmas.List.{get_or-set_same, get_or-set_other, length-set, get_or_past, set-get_or, get_or_default}
use Rattle.std.proofs.lemmas.List.Folds.{list_any_at}
use Rattle.tag_model.specs.declared.shape.Shape.{Shape}
use Rattle.tag_model.specs.declared.state.Hand.{Hand}
use Rattle.tag_model.specs.declared.state.Held.{Held}
use Rattle.cpu_ops.specs.declared.op.CpuOp.{CpuOp}
use Rattle.cpu_ops.specs.declared.op.CpuOp.TheVariants.{Open, Close, Split, Swap, Trim, Enter, Leave}
use Rattle.cpu_ops.specs.declared.step.WordStep.TheVariants.{GoIn, GoOut}
use Rattle.cpu_ops.specs.declared.step.WordStep.{WordStep}
use Rattle.cpu_ops.specs.declared.refused.StepRefused.TheVariants.{NoStep}
use Rattle.cpu_ops.specs.Machine.{Waiting, Machine, Scene, machine_after, places_after, part_key, share_step, nothing_waits, reserves, names_key, hand_at, waiting_at, step_of, hand_after, words_after, advanced, first_refusal, refusal_in, refusal_of, stepped_by, after_step, step_in, step_at, own_words_in, own_words_after, step_count}
use Rattle.cpu_ops.specs.Needs.{KeysFit, HasCall, CanTake, SectionsFit, TagFits, CanGo, CanStep}
use Rattle.core_steps.specs.CoreState.{CoreState, AreModules, runs_in, runs_of, list_parts, state_with, state_after, modules_stepped, modules_after_step, refused, stepped, IsReady, IsReadyAt, IsMachine, IsCore, IsUnderWay, words_stepped, words_after_step, state_of}
use Rattle.module_ops.specs.Modules.{ListFits, words_at}
use Rattle.cpu_ops.specs.MayQueue.{IsOp}
use Rattle.core_steps.proofs.Ready.{Next, next, others_ready, reserved as under_way_reserves, free_key, running_first}
use Rattle.core_steps.proofs.Takes.{IsRuled, places_fit, leads_step, hand_seen, can_take, length-words_after}
use Rattle.cpu_ops.proofs.Going.{length-places}

-- ---- keys

reserved_after : (key done : ℕ) (op : CpuOp) (ops : List CpuOp) → reserves key (advanced (op ∷ ops) done) ≡ true → names_key key op ≡ true
reserved_after key done op ops h = grind (arith, nat_tests)

module _ (cpus : ℕ) (sections : List Section) (scene : Scene) (m : Machine) (cpu : ℕ) (op : CpuOp) (ops : List CpuOp) (done : ℕ) (is : IsMachine cpus sections m) (below : cpu < cpus)
    (waits : waiting_at m cpu ≡ record { ops = op ∷ ops; done = done }) (free : done ≡ 0 → first_refusal m.places m.waiting scene op ≡ None)
    (k : Shape) (inside : List (Option Run)) (n : Next k sections inside m.places (hand_at m cpu) op ops done) where
  -- no other CPU reserves a key that the op names
  pub clear : (j key : ℕ) → j < cpus → j ≢ cpu → names_key key op ≡ true → reserves key (waiting_at m j) ≡ true → ⊥
  clear j key within apart names reserved = elim (cases_eq done 0) [
    | inl zero_done ↦
        let any = list_any_at (reserves key) m.waiting j nothing_waits (omega (arith, is.waiting)) reserved in
        let none = free_key m.places m.waiting scene op key (free zero_done) names in cc
    | inr some ↦ is.apart cpu j key below within (λ e. apart (sym e)) (subst (λ (w : Waiting). reserves key w ≡ true) (sym waits) (under_way_reserves key done op ops (omega arith) names)) reserved
  ]

  step : WordStep
  step = step_of op done (hand_at m cpu) m.places inside

  after : Machine
  after = stepped_by m inside cpu (op ∷ ops) done

  waiting_here : waiting_at after cpu ≡ advanced (op ∷ ops) done
  unfolding after
  waiting_here = get_or-set_same m.waiting cpu (advanced (op ∷ ops) done) nothing_waits (omega (arith, is.waiting))

  waiting_there : (j : ℕ) → j ≢ cpu → waiting_at after j ≡ waiting_at m j
  unfolding after
  waiting_there j ne = get_or-set_other m.waiting cpu j (advanced (op ∷ ops) done) nothing_waits ne

  hand_here : hand_at after cpu ≡ hand_after step (hand_at m cpu)
  unfolding after step
  hand_here = get_or-set_same m.hands cpu (hand_after (step_of op done (hand_at m cpu) m.places inside) (hand_at m cpu)) None (omega (arith, is.hands))

  hand_there : (j : ℕ) → j ≢ cpu → hand_at after j ≡ hand_at m j
  unfolding after
  hand_there j ne = get_or-set_other m.hands cpu j (hand_after (step_of op done (hand_at m cpu) m.places inside) (hand_at m cpu)) None ne

  ready_here : IsReadyAt sections after cpu
  unfolding after step
  ready_here =
      subst (λ (w : Waiting). IsReady sections after.places (hand_at after cpu) w.ops w.done) (sym waiting_here)
      (subst (λ (h : Option Hand). IsReady sections after.places h (advanced (op ∷ ops) done).ops (advanced (op ∷ ops) done).done) (sym hand_here)
      n.ready)

  ready_there : (j : ℕ) → j < cpus → j ≢ cpu → IsReadyAt sections after j
  unfolding after
  ready_there j within ne =
      subst (λ (w : Waiting). IsReady sections after.places (hand_at after j) w.ops w.done) (sym (waiting_there j ne))
      (subst (λ (h : Option Hand). IsReady sections after.places h (waiting_at m j).ops (waiting_at m j).done) (sym (hand_there j ne))
      (others_ready sections m.places after.places (hand_at m j) (waiting_at m j).ops (waiting_at m j).done (is.ready j within)
      (λ key reserved. n.kept key (not_named key (λ names. clear j key within ne names reserved)))))
    where
      not_named : (key : ℕ) → (names_key key op ≡ true → ⊥) → names_key key op ≡ false
      not_named key never = grind arith

  apart_after : (i j key : ℕ) → i < cpus → j < cpus → i ≢ j → reserves key (waiting_at after i) ≡ true → reserves key (waiting_at after j) ≡ true → ⊥
  apart_after i j key wi wj wne ri rj = elim (cases_eq i cpu) [
    | inl e ↦
        let j_ne : j ≢ cpu = λ f. wne (e ∙ sym f) in
        let mine : reserves key (advanced (op ∷ ops) done) ≡ true = subst (λ (w : Waiting). reserves key w ≡ true) (ap (waiting_at after) e ∙ waiting_here) ri in
        clear j key wj j_ne (reserved_after key done op ops mine) (subst (λ (w : Waiting). reserves key w ≡ true) (waiting_there j j_ne) rj)
    | inr i_ne ↦ elim (cases_eq j cpu) [
      | inl f ↦
          let mine : reserves key (advanced (op ∷ ops) done) ≡ true = subst (λ (w : Waiting). reserves key w ≡ true) (ap (waiting_at after) f ∙ waiting_here) rj in
          clear i key wi i_ne (reserved_after key done op ops mine) (subst (λ (w : Waiting). reserves key w ≡ true) (waiting_there i i_ne) ri)
      | inr j_ne ↦ is.apart i j key wi wj wne (subst (λ (w : Waiting). reserves key w ≡ true) (waiting_there i i_ne) ri) (subst (λ (w : Waiting). reserves key w ≡ true) (waiting_there j j_ne) rj)
    ]
  ]

  pub stepped_machine : IsMachine cpus sections (stepped_by m inside cpu (op ∷ ops) done)
  unfolding after
  stepped_machine = record {
    hands = length-set m.hands cpu (hand_after (step_of op done (hand_at m cpu) m.places inside) (hand_at m cpu)) ∙ is.hands;
    waiting = length-set m.waiting cpu (advanced (op ∷ ops) done) ∙ is.waiting;
    places = length-places (step_of op done (hand_at m cpu) m.places inside) m.places ∙ is.places;
    ready = λ j within. elim (cases_eq j cpu) [
      | inl e ↦ subst (IsReadyAt sections after) (sym e) ready_here
      | inr ne ↦ ready_there j within ne
    ];
    apart = apart_after;
  }

-- ---- the words

words_kept : (tags : ℕ) (words : List (List ℕ)) (cpu : ℕ) (step : WordStep) (hand : Option Hand) → cpu < length words
    → ((i : ℕ) → i < length words → length (words_at words i) ≡ 2 * tags) → (i : ℕ) → i < length words → length (words_at (set words cpu (words_after step hand (words_at words cpu))) i) ≡ 2 * tags
words_kept tags words cpu step hand below each i within = elim (cases_eq i cpu) [
  | inl e ↦ rw (e, get_or-set_same words cpu (words_after step hand (words_at words cpu)) [] below) (length-words_after step hand (words_at words cpu) ∙ each cpu below)
  | inr ne ↦ rw (get_or-set_other words cpu i (words_after step hand (words_at words cpu)) [] ne) (each i within)
]

-- ---- the modules stay where the op neither goes in nor out

abbrev pub stays_out : CpuOp → Bool
stays_out (Open key section index size) = true
stays_out (Close key) = true
stays_out (Split key parts first) = true
stays_out (Swap one two) = true
stays_out (Trim key bytes) = true
stays_out (Enter section) = false
stays_out (Leave section) = false

module _ (ms : ModuleTable) (cpu done : ℕ) (hand : Option Hand) (places : List Held) (inside : List (Option Run)) where
  stay_if : (b : Bool) (x y : WordStep) → modules_after x ms cpu ≡ ms → modules_after y ms cpu ≡ ms → modules_after (cond b x y) ms cpu ≡ ms
  stay_if true x y h g = h
  stay_if false x y h g = g

  stay_share : (key : ℕ) (hand : Option Hand) → modules_after (share_step key hand) ms cpu ≡ ms
  stay_share key None = refl
  stay_share key (Some h) = refl

  pub stay_out : (op : CpuOp) → stays_out op ≡ true → modules_after (step_of op done hand places inside) ms cpu ≡ ms
  stay_out (Open key section index size) out = stay_if (done == 0) _ _ refl (stay_if (done == 1) _ _ refl refl)
  stay_out (Close key) out = stay_if (done == 0) _ _ refl (stay_if (done == 1) _ _ refl refl)
  stay_out (Split key parts first) out = stay_if (done == 0) _ _ refl (stay_if (nat_lt done parts) _ _ refl (stay_share (part_key key first (done - parts)) hand))
  stay_out (Swap one two) out = stay_if (done == 0) _ _ refl (stay_if (done == 1) _ _ refl refl)
  stay_out (Trim key bytes) out = stay_if (done == 0) _ _ refl (stay_if (done == 1) _ _ refl refl)
  stay_out (Enter section) out = absurd (cc)
  stay_out (Leave section) out = absurd (cc)

-- ---- a core stays a core

pub next_at : (s : CoreState) (cpu : ℕ) (op : CpuOp) (ops : List CpuOp) (done : ℕ) → IsCore s → cpu < s.shape.cpus → IsReady s.sections s.machine.places (hand_at s.machine cpu) (op ∷ ops) done
    → (done ≡ 0 → first_refusal s.machine.places s.machine.waiting (scene_at s.modules cpu) op ≡ None)
    → Next s.shape s.sections (inside_at s.modules cpu) s.machine.places (hand_at s.machine cpu) op ops done
unfolding state_with
next_at s cpu op ops done core below ready free =
    next s.shape s.sections (inside_at s.modules cpu) s.machine.places (places_fit s.shape s.machine s.words (runs_of s.modules) (list_parts 0 [] s.modules.list) core.safe) core.machine.places (hand_at s.machine cpu) ops ready.2
    s.machine.waiting (scene_at s.modules cpu) op done refl ready.0 ready.1 free
    (λ section index has in_section inside. let b = begins_in s core cpu below section index in_section inside in record { allowed = b.0; below = b.1 })

-- the machine, its words and its modules after a step, by the ops that wait
abbrev after_ops : ℕ → CoreState → ℕ → List CpuOp → ℕ → List Part
after_ops reads s cpu ops done = state_of reads (stepped_by s.machine (inside_at s.modules cpu) cpu ops done) (words_stepped s.machine (inside_at s.modules cpu) s.words cpu ops done) (modules_stepped s.machine s.modules cpu ops done)

module _ (s : CoreState) (cpu : ℕ) (core : IsCore s) (below : cpu < s.shape.cpus) where
  here : List (Option Run)
  here = inside_at s.modules cpu

  pub stay_now : (op : CpuOp) (done : ℕ) → stays_out op ≡ true → modules_after (step_of op done (hand_at s.machine cpu) s.machine.places (inside_at s.modules cpu)) s.modules cpu ≡ s.modules
  stay_now op done out = stay_out s.modules cpu done (hand_at s.machine cpu) s.machine.places (inside_at s.modules cpu) op out

  word_leads : (reads : ℕ) (op : CpuOp) (ops : List CpuOp) (done : ℕ) → IsRuled s.shape (runs_in (inside_at s.modules cpu)) (step_of op done (hand_at s.machine cpu) s.machine.places (inside_at s.modules cpu)) (hand_at s.machine cpu) s.machine.places
      → modules_after (step_of op done (hand_at s.machine cpu) s.machine.places (inside_at s.modules cpu)) s.modules cpu ≡ s.modules
      → (after : Sweep) → GoesBy s.shape (word_kind (step_of op done (hand_at s.machine cpu) s.machine.places (inside_at s.modules cpu))) after (state_after reads s) (after_ops reads s cpu (op ∷ ops) done)
  unfolding state_with
  word_leads reads op ops done ruled stay after =
      let own : cpu ≡ 0 + cpu = omega arith in
      let led = leads_step s.shape core.shape s.machine s.words cpu (runs_of s.modules) (list_parts reads [] s.modules.list) (core.machine.hands ∙ sym core.words) (omega (arith, core.machine.hands))
      (step_of op done (hand_at s.machine cpu) s.machine.places (inside_at s.modules cpu))
      (subst (λ (n : ℕ). IsRuled s.shape (runs_of s.modules n) (step_of op done (hand_at s.machine cpu) s.machine.places (inside_at s.modules cpu)) (hand_at s.machine cpu) s.machine.places) own ruled) in
      rw stay (led.goes after)

  -- what goes in or out changes neither hands nor words
  list_leads : (reads : ℕ) (op : CpuOp) (ops : List CpuOp) (step : WordStep) (w : Waiting) (next : ModuleTable)
      → hand_after step (hand_at s.machine cpu) ≡ hand_at s.machine cpu → words_after step (hand_at s.machine cpu) (words_at s.words cpu) ≡ words_at s.words cpu → places_after step s.machine.places ≡ s.machine.places
      → (kind : StepKind) (after : Sweep) → GoesBy s.shape kind after (state_after reads s) (state_of reads s.machine s.words next)
      → GoesBy s.shape kind after (state_after reads s) (state_of reads (machine_after s.machine cpu step w) (set s.words cpu (words_after step (hand_at s.machine cpu) (words_at s.words cpu))) next)
  unfolding state_with
  list_leads reads op ops step w next hand words places kind after led = rw (hand, words, places, set-get_or s.machine.hands cpu None, set-get_or s.words cpu []) led

  leads_op : (reads : ℕ) (op : CpuOp) (ops : List CpuOp) (done : ℕ) → IsReady s.sections s.machine.places (hand_at s.machine cpu) (op ∷ ops) done
      → (done ≡ 0 → first_refusal s.machine.places s.machine.waiting (scene_at s.modules cpu) op ≡ None)
      → Next s.shape s.sections (inside_at s.modules cpu) s.machine.places (hand_at s.machine cpu) op ops done
      → (after : Sweep) → GoesBy s.shape (word_kind (step_of op done (hand_at s.machine cpu) s.machine.places (inside_at s.modules cpu))) after (state_after reads s) (after_ops reads s cpu (op ∷ ops) done)
  leads_op reads (Open key section index size) ops done ready free n after = word_leads reads (Open key section index size) ops done n.ruled (stay_now (Open key section index size) done refl) after
  leads_op reads (Close key) ops done ready free n after = word_leads reads (Close key) ops done n.ruled (stay_now (Close key) done refl) after
  leads_op reads (Split key parts first) ops done ready free n after = word_leads reads (Split key parts first) ops done n.ruled (stay_now (Split key parts first) done refl) after
  leads_op reads (Swap one two) ops done ready free n after = word_leads reads (Swap one two) ops done n.ruled (stay_now (Swap one two) done refl) after
  leads_op reads (Trim key bytes) ops done ready free n after = word_leads reads (Trim key bytes) ops done n.ruled (stay_now (Trim key bytes) done refl) after
  leads_op reads (Enter section) ops done ready free n after =
      let first : done ≡ 0 = omega (arith, ready.0.within) in
      list_leads reads (Enter section) ops (GoIn section) (advanced (Enter section ∷ ops) done) (modules_after (GoIn section) s.modules cpu) refl refl refl StepKind.Enter after
      (goes_in_row s core cpu below section ready.1.has_section (free first) reads after)
  leads_op reads (Leave section) ops done ready free n after =
      let first : done ≡ 0 = omega (arith, ready.0.within) in
      list_leads reads (Leave section) ops (GoOut section) (advanced (Leave section ∷ ops) done) (modules_after (GoOut section) s.modules cpu) refl refl refl StepKind.Leave after
      (goes_out_row s core cpu below section ready.1.has_section (free first) n.ruled reads after)

  -- the modules are some again
  modules_op : (op : CpuOp) (ops : List CpuOp) (done : ℕ) → IsReady s.sections s.machine.places (hand_at s.machine cpu) (op ∷ ops) done
      → (done ≡ 0 → first_refusal s.machine.places s.machine.waiting (scene_at s.modules cpu) op ≡ None)
      → AreModules s.shape s.sections (modules_stepped s.machine s.modules cpu (op ∷ ops) done)
  modules_op (Open key section index size) ops done ready free = rw (stay_now (Open key section index size) done refl) core.modules
  modules_op (Close key) ops done ready free = rw (stay_now (Close key) done refl) core.modules
  modules_op (Split key parts first) ops done ready free = rw (stay_now (Split key parts first) done refl) core.modules
  modules_op (Swap one two) ops done ready free = rw (stay_now (Swap one two) done refl) core.modules
  modules_op (Trim key bytes) ops done ready free = rw (stay_now (Trim key bytes) done refl) core.modules
  modules_op (Enter section) ops done ready free = let first : done ≡ 0 = omega (arith, ready.0.within) in goes_in_modules s core cpu below section ready.1.has_section (free first)
  modules_op (Leave section) ops done ready free = let first : done ≡ 0 = omega (arith, ready.0.within) in goes_out_modules s core cpu below section ready.1.has_section (free first)

-- the core after a step that isn't refused, by the ops that wait
record Goes (s : CoreState) (cpu : ℕ) (ops : List CpuOp) (done : ℕ) : Type 0 where
  steps : (reads : ℕ) (after : Sweep) → IsSomeAnd (kind_in ops done) (λ kind. GoesBy s.shape kind after (state_after reads s) (after_ops reads s cpu ops done))
  core : IsCore (record s {
    machine = stepped_by s.machine (inside_at s.modules cpu) cpu ops done;
    words = words_stepped s.machine (inside_at s.modules cpu) s.words cpu ops done;
    modules = modules_stepped s.machine s.modules cpu ops done;
  })

pub first_passes : (m : Machine) (scene : Scene) (op : CpuOp) (ops : List CpuOp) (done : ℕ) → refusal_in m scene (op ∷ ops) done ≡ None → done ≡ 0 → first_refusal m.places m.waiting scene op ≡ None
first_passes m scene op ops done none e = let at_start : refusal_in m scene (op ∷ ops) 0 ≡ None = subst (λ (d : ℕ). refusal_in m scene (op ∷ ops) d ≡ None) e none in at_start

-- an op under way has a step left
done_below : (places : List Held) (hand : Option Hand) (op : CpuOp) (done : ℕ) → IsUnderWay places hand op done → done < step_count op
done_below places hand (Open key section index size) done under = under.within
done_below places hand (Close key) done under = under.within
done_below places hand (Split key parts first) done under = under.within
done_below places hand (Swap one two) done under = under.within
done_below places hand (Trim key bytes) done under = under.within
done_below places hand (Enter section) done under = under.within
done_below places hand (Leave section) done under = under.within

goes : (s : CoreState) (cpu : ℕ) (ops : List CpuOp) (done : ℕ) → IsCore s → cpu < s.shape.cpus → waiting_at s.machine cpu ≡ record { ops = ops; done = done } → refusal_in s.machine (scene_at s.modules cpu) ops done ≡ None → Goes s cpu ops done
goes s cpu [] done core below waits none = cc
goes s cpu (op ∷ ops) done core below waits none =
    let inside = inside_at s.modules cpu in
    let ready : IsReady s.sections s.machine.places (hand_at s.machine cpu) (op ∷ ops) done =
    subst (λ (w : Waiting). IsReady s.sections s.machine.places (hand_at s.machine cpu) w.ops w.done) waits (core.machine.ready cpu below) in
    let free : (done ≡ 0 → first_refusal s.machine.places s.machine.waiting (scene_at s.modules cpu) op ≡ None) = first_passes s.machine (scene_at s.modules cpu) op ops done none in
    let n = next_at s cpu op ops done core below ready free in
    let within = done_below s.machine.places (hand_at s.machine cpu) op done ready.0 in
    let kind = word_kind (step_of op done (hand_at s.machine cpu) s.machine.places inside) in
    let led : ((reads : ℕ) (after : Sweep) → GoesBy s.shape kind after (state_after reads s) (after_ops reads s cpu (op ∷ ops) done)) = λ reads after. leads_op s cpu core below reads op ops done ready free n after in
    record {
      steps = λ reads after. subst (λ (o : Option StepKind). IsSomeAnd o (λ kind. GoesBy s.shape kind after (state_after reads s) (after_ops reads s cpu (op ∷ ops) done))) (sym (of_table op done (hand_at s.machine cpu) s.machine.places inside (omega (arith, within)) within)) (led reads after);
      core = record {
        shape = core.shape;
        sections = core.sections;
        machine = stepped_machine s.shape.cpus s.sections (scene_at s.modules cpu) s.machine cpu op ops done core.machine below waits free s.shape inside n;
        words = length-set s.words cpu (words_after (step_of op done (hand_at s.machine cpu) s.machine.places inside) (hand_at s.machine cpu) (words_at s.words cpu)) ∙ core.words;
        own_words = λ i within. words_kept s.shape.tags s.words cpu (step_of op done (hand_at s.machine cpu) s.machine.places inside) (hand_at s.machine cpu) (omega (arith, core.words)) (λ j w. core.own_words j (omega (arith, core.words))) i (omega (arith, core.words));
        modules = modules_op s cpu core below op ops done ready free;
        safe = safe-steps_with s.shape (state_after 0 s) (after_ops 0 s cpu (op ∷ ops) done) core.shape (goes_with s.shape kind sweep.None _ _ (led 0 sweep.None)) core.safe;
      };
    }

-- what `go` leaves where it isn't refused
pub record Gone (s : CoreState) (cpu : ℕ) : Type 0 where
  pub kinds : (reads : ℕ) (after : Sweep) → IsSomeAnd (kind_of s (actor.Cpu cpu)) (λ kind. GoesBy s.shape kind after (state_after reads s) (state_after reads (stepped s (actor.Cpu cpu))))
  pub steps : (reads : ℕ) → StepsWith s.shape (state_after reads s) (state_after reads (stepped s (actor.Cpu cpu)))
  pub core : IsCore (stepped s (actor.Cpu cpu))

pub nothing_past : (m : Machine) (scene : Scene) (cpu : ℕ) → length m.waiting ≤ cpu → refusal_of m scene cpu ≡ Some NoStep
nothing_past m scene cpu past = rw (get_or_past m.waiting cpu nothing_waits past) refl

pub gone : (s : CoreState) (cpu : ℕ) → IsCore s → refused s (actor.Cpu cpu) ≡ None → Gone s cpu
gone s cpu core none = elim (cases_lt cpu s.shape.cpus) [
  | inl below ↦ let g = goes s cpu (waiting_at s.machine cpu).ops (waiting_at s.machine cpu).done core below refl none in record { kinds = g.steps; steps = λ reads. kind_with s.shape (kind_of s (actor.Cpu cpu)) sweep.None _ _ (g.steps reads sweep.None); core = g.core }
  | inr past ↦ let bad = nothing_past s.machine (scene_at s.modules cpu) cpu (omega (arith, core.machine.waiting)) in cc
]

-- what the next step reads and writes is there
keys_fit : (sections : List Section) (op : CpuOp) → IsOp sections op → KeysFit op
keys_fit n (Open key section index size) is = is.key_below
keys_fit n (Close key) is = is.key_below
keys_fit n (Split key parts first) is = let two = is.two_parts in (is.key_below, omega arith, omega (arith, is.last_below))
keys_fit n (Swap one two) is = (is.first.key_below, is.second.key_below)
keys_fit n (Trim key bytes) is = is.key_below
keys_fit n (Enter section) is = tt
keys_fit n (Leave section) is = tt

sections_fit : (sections : List Section) (op : CpuOp) → IsOp sections op → SectionsFit op (length sections)
sections_fit n (Open key section index size) is = is.has_section
sections_fit n (Close key) is = tt
sections_fit n (Split key parts first) is = tt
sections_fit n (Swap one two) is = tt
sections_fit n (Trim key bytes) is = tt
sections_fit n (Enter section) is = is.has_section
sections_fit n (Leave section) is = is.has_section

has_call : (s : CoreState) (cpu : ℕ) → IsCore s → cpu < s.shape.cpus → (hand : Option Hand) → hand_at s.machine cpu ≡ hand → HasCall hand
unfolding state_with
has_call s cpu core below None is = tt
has_call s cpu core below (Some h) is =
    (hand_seen s.shape s.machine s.words (runs_of s.modules) (list_parts 0 [] s.modules.list) cpu h core.shape (core.machine.hands ∙ sym core.words) (omega (arith, core.machine.hands)) core.safe is).fits.some

module _ (s : CoreState) (cpu : ℕ) (core : IsCore s) (below : cpu < s.shape.cpus) where
  step_now : CpuOp → ℕ → WordStep
  step_now op done = step_of op done (hand_at s.machine cpu) s.machine.places (inside_at s.modules cpu)

  word_takes : (op : CpuOp) (done : ℕ) → IsRuled s.shape (runs_in (inside_at s.modules cpu)) (step_of op done (hand_at s.machine cpu) s.machine.places (inside_at s.modules cpu)) (hand_at s.machine cpu) s.machine.places
      → CanTake (step_of op done (hand_at s.machine cpu) s.machine.places (inside_at s.modules cpu)) (hand_at s.machine cpu) (length (words_at s.words cpu)) (length s.machine.places)
  unfolding state_with
  word_takes op done ruled =
      can_take s.shape (length (words_at s.words cpu)) (length s.machine.places) (core.own_words cpu below) (runs_in (inside_at s.modules cpu))
      (step_of op done (hand_at s.machine cpu) s.machine.places (inside_at s.modules cpu)) (hand_at s.machine cpu) s.machine.places refl
      (λ h is. hand_seen s.shape s.machine s.words (runs_of s.modules) (list_parts 0 [] s.modules.list) cpu h core.shape (core.machine.hands ∙ sym core.words) (omega (arith, core.machine.hands)) core.safe is)
      ruled

  op_takes : (op : CpuOp) (ops : List CpuOp) (done : ℕ) → IsReady s.sections s.machine.places (hand_at s.machine cpu) (op ∷ ops) done
      → Next s.shape s.sections (inside_at s.modules cpu) s.machine.places (hand_at s.machine cpu) op ops done
      → CanTake (step_of op done (hand_at s.machine cpu) s.machine.places (inside_at s.modules cpu)) (hand_at s.machine cpu) (length (words_at s.words cpu)) (length s.machine.places)
  op_takes (Open key section index size) ops done ready n = word_takes (Open key section index size) done n.ruled
  op_takes (Close key) ops done ready n = word_takes (Close key) done n.ruled
  op_takes (Split key parts first) ops done ready n = word_takes (Split key parts first) done n.ruled
  op_takes (Swap one two) ops done ready n = word_takes (Swap one two) done n.ruled
  op_takes (Trim key bytes) ops done ready n = word_takes (Trim key bytes) done n.ruled
  op_takes (Enter section) ops done ready n = tt
  op_takes (Leave section) ops done ready n = tt

  fits_if : (b : Bool) (x y : WordStep) → ListFits x s.modules cpu → ListFits y s.modules cpu → ListFits (cond b x y) s.modules cpu
  fits_if true x y h g = h
  fits_if false x y h g = g

  fits_share : (key : ℕ) (hand : Option Hand) → ListFits (share_step key hand) s.modules cpu
  fits_share key None = tt
  fits_share key (Some h) = tt

  op_fits : (op : CpuOp) (ops : List CpuOp) (done : ℕ) → IsReady s.sections s.machine.places (hand_at s.machine cpu) (op ∷ ops) done
      → (done ≡ 0 → first_refusal s.machine.places s.machine.waiting (scene_at s.modules cpu) op ≡ None)
      → ListFits (step_of op done (hand_at s.machine cpu) s.machine.places (inside_at s.modules cpu)) s.modules cpu
  op_fits (Open key section index size) ops done ready free = fits_if (done == 0) _ _ tt (fits_if (done == 1) _ _ tt tt)
  op_fits (Close key) ops done ready free = fits_if (done == 0) _ _ tt (fits_if (done == 1) _ _ tt tt)
  op_fits (Split key parts first) ops done ready free = fits_if (done == 0) _ _ tt (fits_if (nat_lt done parts) _ _ tt (fits_share (part_key key first (done - parts)) (hand_at s.machine cpu)))
  op_fits (Swap one two) ops done ready free = fits_if (done == 0) _ _ tt (fits_if (done == 1) _ _ tt tt)
  op_fits (Trim key bytes) ops done ready free = fits_if (done == 0) _ _ tt (fits_if (done == 1) _ _ tt tt)
  op_fits (Enter section) ops done ready free = let first : done ≡ 0 = omega (arith, ready.0.within) in in_fits s core cpu below section ready.1.has_section (free first)
  op_fits (Leave section) ops done ready free = let first : done ≡ 0 = omega (arith, ready.0.within) in out_fits s core cpu below section ready.1.has_section

  tag_fits : (op : CpuOp) → IsOp s.sections op → first_refusal s.machine.places s.machine.waiting (scene_at s.modules cpu) op ≡ None → TagFits op (inside_at s.modules cpu)
  tag_fits (Open key section index size) is free =
      let b = begins_in s core cpu below section index is.in_section (running_first s.machine.places s.machine.waiting (inside_at s.modules cpu) key section free) in
      omega (arith, b.1, core.shape.few_tags)
  tag_fits (Close key) is free = tt
  tag_fits (Split key parts first) is free = tt
  tag_fits (Swap one two) is free = tt
  tag_fits (Trim key bytes) is free = tt
  tag_fits (Enter section) is free = tt
  tag_fits (Leave section) is free = tt

  can_step : (ops : List CpuOp) (done : ℕ) → IsReady s.sections s.machine.places (hand_at s.machine cpu) ops done → CanStep s.machine (scene_at s.modules cpu) (words_at s.words cpu) cpu ops done
  can_step [] done ready = tt
  can_step (op ∷ ops) done ready = (
    keys_fit s.sections op ready.1,
    done_below s.machine.places (hand_at s.machine cpu) op done ready.0,
    has_call s cpu core below (hand_at s.machine cpu) refl,
    rw (core.modules.slots cpu below) (sections_fit s.sections op ready.1),
    λ none.
        let free = first_passes s.machine (scene_at s.modules cpu) op ops done none in
        let n = next_at s cpu op ops done core below ready free in
        (op_takes op ops done ready n, λ e. tag_fits op ready.1 (free e)),
  )

  pub can_go : CanGo s.machine (scene_at s.modules cpu) (words_at s.words cpu) cpu
  can_go = record {
    below = omega (arith, core.machine.waiting);
    hands = core.machine.hands ∙ sym core.machine.waiting;
    step = can_step (waiting_at s.machine cpu).ops (waiting_at s.machine cpu).done (core.machine.ready cpu below);
    apart = λ other key within ne mine yours. core.machine.apart cpu other key below (omega (arith, core.machine.waiting)) (λ e. ne (sym e)) mine yours;
  }

  -- what the step changes of the modules is what the next step says, and the list can count it
  step_changes : (step : WordStep) (ops : List CpuOp) (done : ℕ) → IsReady s.sections s.machine.places (hand_at s.machine cpu) ops done → refusal_in s.machine (scene_at s.modules cpu) ops done ≡ None
      → step_in s.machine (inside_at s.modules cpu) cpu ops done ≡ Some step → ListFits step s.modules cpu × (modules_stepped s.machine s.modules cpu ops done ≡ modules_after step s.modules cpu)
  step_changes step [] done ready none is = cc
  step_changes step (op ∷ ops) done ready none is =
      let free = first_passes s.machine (scene_at s.modules cpu) op ops done none in
      let same : step_of op done (hand_at s.machine cpu) s.machine.places (inside_at s.modules cpu) ≡ step = same_Some _ step is in
      (subst (λ (x : WordStep). ListFits x s.modules cpu) same (op_fits op ops done ready free), ap (λ (x : WordStep). modules_after x s.modules cpu) same)

  pub changes : (step : WordStep) → refused s (actor.Cpu cpu) ≡ None → step_at s.machine (inside_at s.modules cpu) cpu ≡ Some step → ListFits step s.modules cpu × (modules_after_step s.machine s.modules cpu ≡ modules_after step s.modules cpu)
  changes step none is = step_changes step (waiting_at s.machine cpu).ops (waiting_at s.machine cpu).done (core.machine.ready cpu below) none is

-- ---- what `go` leaves, by its answer

-- what a step answers
abbrev pub Answers : Option StepRefused → Event → Result Event StepRefused → Type 0
Answers o event r = MatchOption o (r ≡ Ok event) (λ e. r ≡ Err e)

pub result_none : (o : Option StepRefused) (event e : Event) → Answers o event (Ok e) → o ≡ None
result_none None event e h = refl
result_none (Some r) event e h = cc

-- a step that is told isn't refused
pub told_none : (o : Option StepRefused) (step : Option WordStep) (given : WordStep) → MatchOption o (IsOkAnd {E = StepRefused} (Ok given) (λ x. step ≡ Some x)) (λ why. ◌≡◌ {A = Result WordStep StepRefused} (Ok given) (Err why)) → (o ≡ None) × (step ≡ Some given)
told_none None step given h = (refl, h)
told_none (Some why) step given h = cc

pub told_why : (o : Option StepRefused) (step : Option WordStep) (why : StepRefused) → MatchOption o (IsOkAnd {T = WordStep} (Err why) (λ x. step ≡ Some x)) (λ e. ◌≡◌ {A = Result WordStep StepRefused} (Err why) (Err e)) → o ≡ Some why
told_why None step why h = absurd h
told_why (Some e) step why h = cc

-- the words after a step
pub words_are : (m : Machine) (inside : List (Option Run)) (words : List (List ℕ)) (cpu : ℕ) → words_after_step m inside words cpu ≡ set words cpu (own_words_after m inside (words_at words cpu) cpu)
words_are m inside words cpu = go (waiting_at m cpu).ops (waiting_at m cpu).done
  where
    go : (ops : List CpuOp) (done : ℕ) → words_stepped m inside words cpu ops done ≡ set words cpu (own_words_in (step_in m inside cpu ops done) (hand_at m cpu) (words_at words cpu))
    go [] done = sym (set-get_or words cpu [])
    go (op ∷ ops) done = refl

-- what the parts of a core are after a step that is told is the core after the CPU's step
module _ (s : CoreState) (cpu : ℕ) (core : IsCore s) (below : cpu < s.shape.cpus) (r : Result WordStep StepRefused) (step : WordStep) (m : Machine) (own next : List ℕ) (is : r ≡ Ok step)
    (answer : MatchOption (refused s (actor.Cpu cpu)) (IsOkAnd r (λ x. step_at s.machine (inside_at s.modules cpu) cpu ≡ Some x)) (λ why. r ≡ Err why)) where
  pub goes_free : (refused s (actor.Cpu cpu) ≡ None) × (step_at s.machine (inside_at s.modules cpu) cpu ≡ Some step)
  goes_free = told_none _ _ step (subst (λ (x : Result WordStep StepRefused). MatchOption (refused s (actor.Cpu cpu)) (IsOkAnd x (λ y. step_at s.machine (inside_at s.modules cpu) cpu ≡ Some y)) (λ why. x ≡ Err why)) is answer)

  pub goes_fits : ListFits step s.modules cpu
  goes_fits = (changes s cpu core below step goes_free.0 goes_free.1).0

  pub goes_is : (ms : ModuleTable) → own ≡ get_or s.words cpu own → OnOk r ((m ≡ after_step s.machine (inside_at s.modules cpu) cpu) × (next ≡ own_words_after s.machine (inside_at s.modules cpu) own cpu)) → ms ≡ modules_after step s.modules cpu
      → record s { machine = m; words = set s.words cpu next; modules = ms } ≡ stepped s (actor.Cpu cpu)
  goes_is ms own_is on_ok ms_is =
      let ok = subst (λ (x : Result WordStep StepRefused). OnOk x ((m ≡ after_step s.machine (inside_at s.modules cpu) cpu) × (next ≡ own_words_after s.machine (inside_at s.modules cpu) own cpu))) is on_ok in
      let same : own ≡ words_at s.words cpu = own_is ∙ get_or_default s.words cpu own [] (omega (arith, core.words)) in
      let words : set s.words cpu next ≡ words_after_step s.machine (inside_at s.modules cpu) s.words cpu =
      ap (set s.words cpu) (ok.1 ∙ ap (λ (w : List ℕ). own_words_after s.machine (inside_at s.modules cpu) w cpu) same) ∙ sym (words_are s.machine (inside_at s.modules cpu) s.words cpu) in
      rw (ok.0, words, ms_is, ← (changes s cpu core below step goes_free.0 goes_free.1).1) refl
