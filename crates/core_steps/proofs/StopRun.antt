-- The law of stops, of runs of a core: a range is kept only where something of that kind was counted under its tag as the pass began.
use Rattle.std.proofs.Common.{◌≡◌, ℕ, ◌+◌, ◌<◌, ◌==◌, ◌&&◌, nat_lt, List, [], ◌∷◌, ◌++◌, refl, sym, ap, ◌∙◌, subst, arith, Bool, true, false, cond, Option, Some, None, IsSomeAnd, sum_by, count_by, le-ltb, ne_eqb, eq-eqb}
use Rattle.std.proofs.lemmas.Bool.{and_from}
use Rattle.std.proofs.lemmas.List.Sums.{sum_by-append, sum_by-cons}
use Rattle.tag_model.specs.declared.shape.Shape.{Shape}
use Rattle.tag_model.specs.declared.state.Hand.{Hand}
use Rattle.tag_model.specs.declared.state.Held.{Held}
use Rattle.tag_model.specs.declared.state.Kind.{Kind}
use Rattle.tag_model.specs.declared.state.Kind.TheVariants.{Bytes, Calls}
use Rattle.tag_model.specs.declared.state.Part.{Part}
use Rattle.tag_model.specs.declared.state.Part.TheVariants.{Cpu, Place, Modules, NextId}
use Rattle.tag_model.specs.declared.state.Run.{Run}
use Rattle.tag_model.specs.declared.state.Stop.{Stop}
use Rattle.tag_model.specs.declared.state.Sweep.{Sweep}
use Rattle.tag_model.specs.Histories.{IsHistory, Leads, NoneBegins, PassHistory, begun_by, last_state, stops_at}
use Rattle.tag_model.specs.Laws.{same_kind}
use Rattle.tag_model.specs.StepRules.{BaseMove, Row, stop_after}
use Rattle.tag_model.specs.WordState.{counted}
use Rattle.tag_model.proofs.StopLaw.{stop_was_counted}
use Rattle.core_list.specs.ListState.{ListState, list_part, next_of, scanned_at, sum_read}
use Rattle.cpu_ops.specs.Machine.{Machine}
use Rattle.module_ops.specs.Modules.{Managing, manager_reads, managed_by, sweep_goes, word_read}
use Rattle.module_ops.proofs.ReadOn.{reads_at}
use Rattle.core_steps.specs.declared.op.Actor.{Actor}
use Rattle.core_steps.specs.declared.op.Actor.TheVariants as actor
use Rattle.core_steps.specs.CoreState.{CoreState, IsCore, cpu_part, cpu_parts, list_parts, place_parts, reads_of, refused, run_of, runs_of, state_after, state_with, stepped, word_state}
use Rattle.core_steps.specs.Kinds.{StepKind, GoesOn, begins_as, kind_of, manager_kind, pass_begun, scan_of}
use Rattle.core_steps.specs.Release.{IsKept}
use Rattle.core_steps.proofs.ByKind.{GoesBy}
use Rattle.core_steps.proofs.ManagerKept.{told_kept}
use Rattle.core_steps.proofs.Parts.{sum_both, sum_two}
use Rattle.core_steps.proofs.Runs.{run_shape, stepped_shape}
use Rattle.core_steps.proofs.Stepping.{goes_by_kind, steps_core}
use Rattle.tag_model.proofs.ListRows.{same_kind_refl}

-- ---- steps as a history

-- steps that begin no pass lead from one state to the other
record Led (k : Shape) (old new : List Part) : Type 0 where
  later : List (List Part)
  history : IsHistory k old later
  none : NoneBegins k old later history
  ends : last_state old later ≡ new

led_none : (k : Shape) (state : List Part) → Led k state state
led_none k state = record { later = []; history = tt; none = tt; ends = refl }

led_first : (k : Shape) (kind : StepKind) (after : Sweep) (old mid new : List Part) → GoesBy k kind after old mid → begins_as (Some kind) after ≡ None → Led k mid new → Led k old new
led_first k kind after old mid new (GoesBy.alone steps is begins) e rest = record { later = mid ∷ rest.later; history = (Leads.step steps, rest.history); none = (begins ∙ e, rest.none); ends = rest.ends }
led_first k kind after old mid new (GoesBy.enters_cpu enters is) e rest = record {
  later = enters.mid ∷ mid ∷ rest.later;
  history = (Leads.step (record { v = Modules enters.before ∷ []; w = Modules enters.entered ∷ []; row = Row.enters enters.enters; becomes = enters.enters_state }), (Leads.base_move (BaseMove.gives_run enters.gives) enters.gives_state, rest.history));
  none = (refl, (refl, rest.none));
  ends = rest.ends;
}
led_first k kind after old mid new (GoesBy.leaves_cpu leaves is) e rest = record {
  later = leaves.mid ∷ mid ∷ rest.later;
  history = (Leads.base_move (BaseMove.takes_run leaves.takes) leaves.takes_state, (Leads.step (record { v = Modules leaves.leaving ∷ []; w = Modules leaves.after ∷ []; row = Row.leaves leaves.leaves; becomes = leaves.leaves_state }), rest.history));
  none = (refl, (refl, rest.none));
  ends = rest.ends;
}

led_step : (k : Shape) (o : Option StepKind) (after : Sweep) (old mid new : List Part) → IsSomeAnd o (λ kind. GoesBy k kind after old mid) → begins_as o after ≡ None → Led k mid new → Led k old new
led_step k None after old mid new goes e rest = absurd goes
led_step k (Some kind) after old mid new goes e rest = led_first k kind after old mid new goes e rest

-- a run of a core, after so many reads
record LedRun (k : Shape) (reads : ℕ) (s : CoreState) (actors : List Actor) : Type 0 where
  count : ℕ
  led : Led k (state_after reads s) (state_after count (run_of s actors))
  core : IsCore (run_of s actors)

led_run : (k : Shape) (actors : List Actor) (reads : ℕ) (s : CoreState) → s.shape ≡ k → IsCore s → GoesOn s actors → LedRun k reads s actors
led_run k [] reads s e core on = record { count = reads; led = led_none k (state_after reads s); core = core }
led_run k (who ∷ later) reads s e core on =
    let rest = led_run k later (reads + reads_of s who) (stepped s who) (stepped_shape s who ∙ e) (steps_core s who core on.0) on.2 in
    record {
      count = rest.count;
      led = led_step k (kind_of s who) (stepped s who).modules.list.sweep _ _ _ (subst (λ (x : Shape). IsSomeAnd (kind_of s who) (λ kind. GoesBy x kind (stepped s who).modules.list.sweep (state_after reads s) (state_after (reads + reads_of s who) (stepped s who)))) e (goes_by_kind s who core on.0 reads)) on.1 rest.led;
      core = rest.core;
    }

-- ---- the step that begins the pass

record Begun (k : Shape) (pass : Kind) (old new : List Part) : Type 0 where
  leads : Leads k old new
  begins : begun_by leads ≡ Some pass

begun_first : (k : Shape) (pass : Kind) (kind : StepKind) (after : Sweep) (old new : List Part) → GoesBy k kind after old new → begins_as (Some kind) after ≡ Some pass → Begun k pass old new
begun_first k pass kind after old new (GoesBy.alone steps is begins) e = record { leads = Leads.step steps; begins = begins ∙ e }
begun_first k pass kind after old new (GoesBy.enters_cpu enters is) e = absurd (let none : begins_as (Some StepKind.Enter) after ≡ Some pass = subst (λ (x : StepKind). begins_as (Some x) after ≡ Some pass) is e in cc)
begun_first k pass kind after old new (GoesBy.leaves_cpu leaves is) e = absurd (let none : begins_as (Some StepKind.Leave) after ≡ Some pass = subst (λ (x : StepKind). begins_as (Some x) after ≡ Some pass) is e in cc)

begun_step : (k : Shape) (pass : Kind) (o : Option StepKind) (after : Sweep) (old new : List Part) → IsSomeAnd o (λ kind. GoesBy k kind after old new) → begins_as o after ≡ Some pass → Begun k pass old new
begun_step k pass None after old new goes e = absurd goes
begun_step k pass (Some kind) after old new goes e = begun_first k pass kind after old new goes e

-- ---- the read that stops

is_scan : (pass : Kind) → (scan_of pass ≡ StepKind.Enter → ⊥) × (scan_of pass ≡ StepKind.Leave → ⊥)
is_scan Bytes = (λ e. absurd (cc), λ e. absurd (cc))
is_scan Calls = (λ e. absurd (cc), λ e. absurd (cc))

scan_leads : (k : Shape) (pass : Kind) (o : Option StepKind) (after : Sweep) (old new : List Part) → o ≡ Some (scan_of pass) → IsSomeAnd o (λ kind. GoesBy k kind after old new) → Leads k old new
scan_leads k pass o after old new is goes = go (subst (λ (x : Option StepKind). IsSomeAnd x (λ kind. GoesBy k kind after old new)) is goes)
  where
    go : GoesBy k (scan_of pass) after old new → Leads k old new
    go (GoesBy.alone steps of begins) = Leads.step steps
    go (GoesBy.enters_cpu enters of) = absurd ((is_scan pass).0 of)
    go (GoesBy.leaves_cpu leaves of) = absurd ((is_scan pass).1 of)

-- ---- stops and counts of a state

no_cpu_stops : (kind : Kind) (t n : ℕ) (hands : List (Option Hand)) (words : List (List ℕ)) (runs : ℕ → List Run) → sum_by (stops_at kind t) (cpu_parts n hands words runs) ≡ 0
no_cpu_stops kind t n [] words runs = refl
no_cpu_stops kind t n (hand ∷ hands) [] runs = refl
no_cpu_stops kind t n (hand ∷ hands) (own ∷ words) runs = omega (arith, sum_by-cons (stops_at kind t) (Cpu (cpu_part n hand own (runs n))) (cpu_parts (n + 1) hands words runs), no_cpu_stops kind t (n + 1) hands words runs)

no_place_stops : (kind : Kind) (t n : ℕ) (places : List Held) → sum_by (stops_at kind t) (place_parts n places) ≡ 0
no_place_stops kind t n [] = refl
no_place_stops kind t n (x ∷ places) = omega (arith, sum_by-cons (stops_at kind t) (Place n x) (place_parts (n + 1) places), no_place_stops kind t (n + 1) places)

stops_of : (kind : Kind) (t reads : ℕ) (m : Machine) (words : List (List ℕ)) (runs : ℕ → List Run) (l : ListState) → sum_by (stops_at kind t) (state_with reads [] m words runs l) ≡ stops_at kind t (Modules (list_part reads [] l))
unfolding state_with
stops_of kind t reads m words runs l =
    omega (
      arith,
      sum_both (stops_at kind t) (cpu_parts 0 m.hands words runs) (place_parts 0 m.places ++ list_parts reads [] l),
      sum_both (stops_at kind t) (place_parts 0 m.places) (list_parts reads [] l),
      sum_two (stops_at kind t) (Modules (list_part reads [] l)) (NextId (l.last_id + 1)),
      no_cpu_stops kind t 0 m.hands words runs,
      no_place_stops kind t 0 m.places,
    )

-- what is counted doesn't depend on how many words were read
counted_unread : (kind : Kind) (t reads : ℕ) (m : Machine) (words : List (List ℕ)) (runs : ℕ → List Run) (l : ListState) → sum_by (counted kind t) (state_with reads [] m words runs l) ≡ sum_by (counted kind t) (state_with 0 [] m words runs l)
unfolding state_with
counted_unread kind t reads m words runs l =
    let cpus = cpu_parts 0 m.hands words runs in
    let places = place_parts 0 m.places in
    omega (
      arith,
      sum_both (counted kind t) cpus (places ++ list_parts reads [] l),
      sum_both (counted kind t) places (list_parts reads [] l),
      sum_two (counted kind t) (Modules (list_part reads [] l)) (NextId (l.last_id + 1)),
      sum_both (counted kind t) cpus (places ++ list_parts 0 [] l),
      sum_both (counted kind t) places (list_parts 0 [] l),
      sum_two (counted kind t) (Modules (list_part 0 [] l)) (NextId (l.last_id + 1)),
    )

-- one stop more
one_more : (p : Stop → Bool) (stops : List Stop) (stop : Stop) → p stop ≡ true → count_by p stops < count_by p (stops ++ stop ∷ [])
one_more p stops stop holds =
    let here : cond {A = ℕ} (p stop) 1 0 ≡ 1 = rw holds refl in
    omega (arith, sum_by-append (λ (y : Stop). cond (p y) 1 0) stops (stop ∷ []), sum_by-cons (λ (y : Stop). cond (p y) 1 0) stop [])

-- ---- the read of a kept range

module _ (s : CoreState) (section index : ℕ) (kind : Kind) (sum : ℕ) (x : IsKept s section index kind sum) where
  kind_is : kind_of s actor.Manager ≡ Some (scan_of x.reader.pass)
  kind_is =
      let at = reads_at s.modules x.reader x.reads in
      ap (λ (m : Managing). manager_kind m.ops m.under_way (next_of s.modules.list.sweep)) at.manager ∙ ap (λ (sw : Sweep). manager_kind (at.op ∷ at.ops) true (next_of sw)) at.sweep

  stops_after : (stepped s actor.Manager).modules.list.stops ≡ s.modules.list.stops ++ record { id = x.reader.id; tag = x.reader.tag; kind = x.reader.pass; sum = sum_read x.reader (word_read s.words x.reader) } ∷ []
  stops_after =
      let at = reads_at s.modules x.reader x.reads in
      let l = s.modules.list in
      let word = word_read s.words x.reader in
      let last : nat_lt (x.reader.cpu + 1) s.shape.cpus ≡ false = le-ltb (x.reader.cpu + 1) s.shape.cpus (omega (arith, x.last_cpu)) in
      let some : (sum_read x.reader word == 0) ≡ false = ne_eqb (sum_read x.reader word) 0 (λ e. x.some (sym x.total ∙ e)) in
      let stop : Stop = record { id = x.reader.id; tag = x.reader.tag; kind = x.reader.pass; sum = sum_read x.reader word } in
      let one : stop_after s.shape x.reader (sum_read x.reader word) ≡ stop ∷ [] = rw (last, some) refl in
      ap (λ (m : Managing). (managed_by s.shape s.sections s.words s.modules m.ops m.under_way).list.stops) at.manager
      ∙ (ap (λ (sw : Sweep). (sweep_goes s.shape s.words l (next_of sw)).stops) at.sweep
      ∙ (ap (λ (sw : Sweep). (scanned_at s.shape word l sw).stops) at.sweep
      ∙ ap (λ stops. l.stops ++ stops) one))

  more_stops : (reads next : ℕ) → sum_by (stops_at kind x.reader.tag) (state_after reads s) < sum_by (stops_at kind x.reader.tag) (state_after next (stepped s actor.Manager))
  more_stops reads next =
      let test : Stop → Bool = λ st. same_kind st.kind kind && (st.tag == x.reader.tag) in
      let stop : Stop = record { id = x.reader.id; tag = x.reader.tag; kind = x.reader.pass; sum = sum_read x.reader (word_read s.words x.reader) } in
      let after = (stepped s actor.Manager).modules in
      let passes : test stop ≡ true = and_from _ _ (ap (λ k. same_kind k kind) x.of_kind ∙ same_kind_refl kind) (eq-eqb x.reader.tag x.reader.tag refl) in
      let counts : count_by test after.list.stops ≡ count_by test (s.modules.list.stops ++ stop ∷ []) = ap (count_by test) stops_after in
      omega (
        arith,
        stops_of kind x.reader.tag reads s.machine s.words (runs_of s.modules) s.modules.list,
        stops_of kind x.reader.tag next s.machine s.words (runs_of after) after.list,
        counts,
        one_more test s.modules.list.stops stop passes,
      )

-- ---- the law

pub kept_was_counted : (s : CoreState) (who : Actor) (later : List Actor) (section index : ℕ) (kind : Kind) (sum : ℕ) → IsCore s → refused s who ≡ None → pass_begun s who ≡ Some kind → GoesOn (stepped s who) later
    → (x : IsKept (run_of (stepped s who) later) section index kind sum) → 0 < sum_by (counted kind x.reader.tag) (word_state (stepped s who))
kept_was_counted s who later section index kind sum core free begins on x =
    let mid = stepped s who in
    let end = run_of mid later in
    let run = led_run s.shape later (0 + reads_of s who) mid (stepped_shape s who) (steps_core s who core free) on in
    let start = begun_step s.shape kind (kind_of s who) mid.modules.list.sweep _ _ (goes_by_kind s who core free 0) begins in
    let same_shape : end.shape ≡ s.shape = run_shape mid later ∙ stepped_shape s who in
    let told = told_kept end section index kind sum x in
    let next = run.count + manager_reads end.modules in
    let leads : Leads s.shape (state_after run.count end) (state_after next (stepped end actor.Manager)) =
    subst (λ (k : Shape). Leads k (state_after run.count end) (state_after next (stepped end actor.Manager))) same_shape
    (scan_leads end.shape x.reader.pass (kind_of end actor.Manager) (stepped end actor.Manager).modules.list.sweep _ _ (kind_is end section index kind sum x) (goes_by_kind end actor.Manager run.core told.free run.count)) in
    let history : PassHistory s.shape kind (state_after 0 s) (state_after (0 + reads_of s who) mid) (state_after run.count end) =
    record { before = []; led = tt; start = start.leads; begins = start.begins; later = run.led.later; goes_on = run.led.history; none_begins = run.led.none; ends = run.led.ends } in
    let counted_then = stop_was_counted s.shape kind x.reader.tag (state_after 0 s) (state_after (0 + reads_of s who) mid) (state_after run.count end) (state_after next (stepped end actor.Manager)) core.shape core.safe history leads (more_stops end section index kind sum x run.count next) in
    omega (arith, counted_then, counted_unread kind x.reader.tag (0 + reads_of s who) mid.machine mid.words (runs_of mid.modules) mid.modules.list)
