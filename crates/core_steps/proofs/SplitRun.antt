-- The steps of a split, from its first to its last: a call more for each part but one, and no byte.
use Rattle.std.proofs.Common.{◌≡◌, ◌≢◌, ℕ, zero, suc, ◌+◌, ◌-◌, ◌*◌, ◌<◌, ◌≤◌, ◌==◌, nat_lt, List, [], ◌∷◌, ◌++◌, set, replicate, refl, sym, ap, ◌∙◌, subst, arith, Option, Some, None, Bool, true, false, cond, inl, inr, sum_by}
use Rattle.std.proofs.lemmas.Bool.{cases_lt}
use Rattle.std.proofs.lemmas.Bool.Decides.{nat_tests}
use Rattle.std.proofs.lemmas.List.Sums.{sum_by-set}
use Rattle.std.proofs.Math.Nat.{suc-mul}
use Rattle.tag_model.specs.declared.shape.Shape.{Shape}
use Rattle.tag_model.specs.declared.state.Tag.{Tag}
use Rattle.tag_model.specs.declared.state.Hand.{Hand}
use Rattle.tag_model.specs.declared.state.Held.{Held}
use Rattle.tag_model.specs.declared.state.Held.TheVariants as held
use Rattle.tag_model.specs.declared.state.Kind.{Kind}
use Rattle.tag_model.specs.declared.state.Kind.TheVariants.{Bytes, Calls}
use Rattle.tag_model.specs.Moves.{Move}
use Rattle.tag_model.specs.Laws.{live_of}
use Rattle.tag_model.specs.Reference.{amount, hand_counts, held_counts, live_total, is_counted}
use Rattle.tag_model.proofs.PlaceRow.{counts_stay}
use Rattle.cpu_ops.specs.declared.op.CpuOp.{CpuOp}
use Rattle.cpu_ops.specs.declared.op.CpuOp.TheVariants.{Open, Close, Split, Swap, Trim, Enter, Leave}
use Rattle.tag_section.specs.Section.{Section}
use Rattle.tag_model.specs.declared.state.Run.{Run}
use Rattle.module_ops.specs.Modules.{inside_at, scene_at}
use Rattle.core_steps.specs.declared.op.Actor.TheVariants as actor
use Rattle.cpu_ops.specs.declared.step.WordStep.{WordStep}
use Rattle.cpu_ops.specs.declared.step.WordStep.TheVariants.{AddCall, Write}
use Rattle.cpu_ops.specs.Machine.{Waiting, Machine, waiting_at, hand_at, held_at, in_hand, part_key, clear_step, step_of, hand_after, places_after, with_call, moves_in, moves_of, moves_of_step}
use Rattle.core_steps.specs.CoreState.{CoreState, IsCore, IsReady, runs_in, settled_hand, stepped, word_state}
use Rattle.core_steps.specs.Laws.{Begins, waits_for, after_steps, moves_of_run, call_move}
use Rattle.core_steps.proofs.Takes.{IsRuled}
use Rattle.core_steps.proofs.Splits.{rest_hand, share_written, split_passes}
use Rattle.core_steps.proofs.Runs.{run_shape, stepped_shape}
use Rattle.std.proofs.lemmas.Bool.{and_parts}
use Rattle.core_steps.proofs.Steps.{Stepped, takes_step, later_free, in_free, ready_at, waits_below, goes_on, ends}
use Rattle.core_steps.proofs.Quiet.{live_places}

-- what the CPU's hand and the places count
pub balance : Kind → ℕ → ℕ → CoreState → ℕ
balance kind t cpu s = hand_counts kind t (hand_at s.machine cpu) + sum_by (held_counts kind t) s.machine.places

-- what a call more counts
abbrev call_counts : Kind → ℕ → Tag → ℕ
call_counts kind t tag = cond (tag.number == t) (amount kind 0 1) 0

-- a CPU that isn't in an op has no hand
free_hand : (n : List Section) (places : List Held) (hand : Option Hand) (ops : List CpuOp) → IsReady n places hand ops 0 → hand ≡ None
free_hand n places hand [] r = r.0
free_hand n places hand (Open key section index size ∷ ops) r = r.0.start refl
free_hand n places hand (Close key ∷ ops) r = r.0.start refl
free_hand n places hand (Split key parts first ∷ ops) r = r.0.start refl
free_hand n places hand (Swap one two ∷ ops) r = r.0.start refl
free_hand n places hand (Trim key bytes ∷ ops) r = r.0.start refl
free_hand n places hand (Enter section ∷ ops) r = r.0.start refl
free_hand n places hand (Leave section ∷ ops) r = r.0.start refl

-- a write keeps the balance
write_keeps : (k : Shape) (runs : List Run) (kind : Kind) (t key : ℕ) (hand next : Option Hand) (places : List Held) (will : Held) → IsRuled k runs (Write key will next) hand places
    → hand_counts kind t next + sum_by (held_counts kind t) (set places key will) ≡ hand_counts kind t hand + sum_by (held_counts kind t) places
write_keeps k runs kind t key hand next places will r =
    omega (arith, counts_stay hand next (held_at places key) will r.1.stays kind t, sum_by-set (held_counts kind t) places key will held.None r.0)

call_adds : (kind : Kind) (b : Bool) (bytes calls : ℕ) → cond b (amount kind bytes (calls + 1)) 0 ≡ cond b (amount kind bytes calls) 0 + cond b (amount kind 0 1) 0
call_adds Bytes true bytes calls = omega arith
call_adds Calls true bytes calls = refl
call_adds kind false bytes calls = refl

-- the hand, if there is one, is of the tag
abbrev IsTagged : Tag → Option Hand → Type 0
IsTagged tag hand = (h : Hand) → hand ≡ Some h → h.tag ≡ tag

-- a step of a split behind its first
record SplitStep (s : CoreState) (cpu parts done : ℕ) (tag : Tag) : Type 0 where
  moves : moves_of_step s.machine (inside_at s.modules cpu) cpu ≡ cond (nat_lt done parts) (call_move cpu tag ∷ []) []
  counts : (kind : Kind) (t : ℕ) → balance kind t cpu (stepped s (actor.Cpu cpu)) ≡ balance kind t cpu s + cond (nat_lt done parts) 1 0 * call_counts kind t tag
  tagged : IsTagged tag (hand_at (stepped s (actor.Cpu cpu)).machine cpu)

rest_tagged : (tag : Tag) (size left : ℕ) → IsTagged tag (rest_hand tag size left)
rest_tagged tag size left h is = go (left == 1) is
  where
    go : (b : Bool) → cond b None (settled_hand tag (left * size - size) (left - 1)) ≡ Some h → h.tag ≡ tag
    go true e = cc
    go false e = cc

moves_known : (m : Machine) (inside : List (Option Run)) (cpu : ℕ) (op : CpuOp) (ops : List CpuOp) (done : ℕ) (step : WordStep) (hand : Option Hand) → waiting_at m cpu ≡ waits_for op ops done → step_of op done (hand_at m cpu) m.places inside ≡ step → hand_at m cpu ≡ hand
    → moves_of_step m inside cpu ≡ moves_of cpu step hand
moves_known m inside cpu op ops done step hand waits is held =
    ap (λ (w : Waiting). moves_in m inside cpu w.ops w.done) waits ∙ ap (λ (x : WordStep). moves_of cpu x (hand_at m cpu)) is ∙ ap (moves_of cpu step) held

module _ (s : CoreState) (cpu key parts first done : ℕ) (ops : List CpuOp) (tag : Tag) (waits : waiting_at s.machine cpu ≡ waits_for (Split key parts first) ops done)
    (t : Stepped s cpu (Split key parts first) ops done) where
  -- the step is known
  known_hand : (step : WordStep) → step_of (Split key parts first) done (hand_at s.machine cpu) s.machine.places (inside_at s.modules cpu) ≡ step → hand_at (stepped s (actor.Cpu cpu)).machine cpu ≡ hand_after step (hand_at s.machine cpu)
  known_hand step is = t.hand ∙ ap (λ (x : WordStep). hand_after x (hand_at s.machine cpu)) is

  known_places : (step : WordStep) → step_of (Split key parts first) done (hand_at s.machine cpu) s.machine.places (inside_at s.modules cpu) ≡ step → (stepped s (actor.Cpu cpu)).machine.places ≡ places_after step s.machine.places
  known_places step is = t.places ∙ ap (λ (x : WordStep). places_after x s.machine.places) is

  written : (at : ℕ) (will : Held) (next : Option Hand) → step_of (Split key parts first) done (hand_at s.machine cpu) s.machine.places (inside_at s.modules cpu) ≡ Write at will next
      → (kind : Kind) (u : ℕ) → balance kind u cpu (stepped s (actor.Cpu cpu)) ≡ balance kind u cpu s
  unfolding balance
  written at will next is kind u =
      let hands = ap (hand_counts kind u) (known_hand (Write at will next) is) in
      let places = ap (λ (xs : List Held). sum_by (held_counts kind u) xs) (known_places (Write at will next) is) in
      let kept = write_keeps s.shape (runs_in (inside_at s.modules cpu)) kind u at (hand_at s.machine cpu) next s.machine.places will (subst (λ (x : WordStep). IsRuled s.shape (runs_in (inside_at s.modules cpu)) x (hand_at s.machine cpu) s.machine.places) is t.next.ruled) in
      omega arith

  adds : 0 < done → done < parts → IsTagged tag (hand_at s.machine cpu) → SplitStep s cpu parts done tag
  unfolding balance
  adds some more tagged =
      let r = t.ready.0.counting some (omega arith) in
      let same : r.tag ≡ tag = tagged (record { tag = r.tag; bytes = parts * r.size; calls = done; opening = false }) r.held in
      let is : step_of (Split key parts first) done (hand_at s.machine cpu) s.machine.places (inside_at s.modules cpu) ≡ AddCall =
      let z : (done == 0) ≡ false = grind (arith, nat_tests) in let l : nat_lt done parts ≡ true = grind (arith, nat_tests) in rw (z, l) refl in
      let l : nat_lt done parts ≡ true = grind (arith, nat_tests) in
      let after = known_hand AddCall is ∙ ap with_call r.held in
      record {
        moves = moves_known s.machine (inside_at s.modules cpu) cpu (Split key parts first) ops done AddCall (settled_hand r.tag (parts * r.size) done) waits is r.held ∙ rw (l, same) refl;
        counts = λ kind u.
            let hand = ap (hand_counts kind u) r.held in
            let next = ap (hand_counts kind u) after in
            let places = ap (λ (xs : List Held). sum_by (held_counts kind u) xs) (known_places AddCall is) in
            let more_calls = call_adds kind (r.tag.number == u) (parts * r.size) done in
            let tags = ap (call_counts kind u) same in
            rw l (omega arith);
        tagged = λ h has. let e : with_call (settled_hand r.tag (parts * r.size) done) ≡ Some h = sym after ∙ has in let f : r.tag ≡ h.tag = cc in sym f ∙ same;
      }

  writes : parts ≤ done → IsTagged tag (hand_at s.machine cpu) → SplitStep s cpu parts done tag
  writes past tagged =
      let r = t.ready.0.writing past in
      let within = t.ready.0.within in
      let two = t.ready.1.two_parts in
      let left = 2 * parts - done in
      let at = part_key key first (done - parts) in
      let same : r.tag ≡ tag = tagged (record { tag = r.tag; bytes = left * r.size; calls = left; opening = false }) r.held in
      let l : nat_lt done parts ≡ false = grind (arith, nat_tests) in
      let is : step_of (Split key parts first) done (hand_at s.machine cpu) s.machine.places (inside_at s.modules cpu) ≡ Write at (held.Counted r.tag r.size) (rest_hand r.tag r.size left) =
      let z : (done == 0) ≡ false = grind (arith, nat_tests) in rw (z, l) (share_written at left (hand_at s.machine cpu) r (omega arith)) in
      record {
        moves = moves_known s.machine (inside_at s.modules cpu) cpu (Split key parts first) ops done (Write at (held.Counted r.tag r.size) (rest_hand r.tag r.size left)) (hand_at s.machine cpu) waits is refl ∙ rw l refl;
        counts = λ kind u. let kept = written at (held.Counted r.tag r.size) (rest_hand r.tag r.size left) is kind u in rw l (omega arith);
        tagged = λ h has. rest_tagged r.tag r.size left h (sym (known_hand (Write at (held.Counted r.tag r.size) (rest_hand r.tag r.size left)) is) ∙ has) ∙ same;
      }

  later : 0 < done → IsTagged tag (hand_at s.machine cpu) → SplitStep s cpu parts done tag
  later some tagged = elim (cases_lt done parts) [ inl more ↦ adds some more tagged | inr past ↦ writes past tagged ]

pub first_moves : (s : CoreState) (cpu key parts first : ℕ) (ops : List CpuOp) → waiting_at s.machine cpu ≡ waits_for (Split key parts first) ops 0 → moves_of_step s.machine (inside_at s.modules cpu) cpu ≡ []
first_moves s cpu key parts first ops waits = moves_known s.machine (inside_at s.modules cpu) cpu (Split key parts first) ops 0 (clear_step key s.machine.places) (hand_at s.machine cpu) waits refl refl

pub later_moves : (s : CoreState) (cpu key parts first done : ℕ) (hand : Hand) (ops : List CpuOp) → IsCore s → waiting_at s.machine cpu ≡ waits_for (Split key parts first) ops done → hand_at s.machine cpu ≡ Some hand
    → moves_of_step s.machine (inside_at s.modules cpu) cpu ≡ cond (nat_lt done parts) (call_move cpu hand.tag ∷ []) []
later_moves s cpu key parts first done hand ops core waits held =
    let below = waits_below s.machine cpu (Split key parts first) ops done waits in
    let ready = ready_at s cpu (Split key parts first ∷ ops) done core (omega (arith, core.machine.waiting)) waits in
    let later_on : done ≢ 0 = λ e. let none : hand_at s.machine cpu ≡ None = ready.0.start e in cc in
    let t = takes_step s cpu (Split key parts first) ops done core waits (later_free s.machine (scene_at s.modules cpu) (Split key parts first) ops done later_on) in
    (later s cpu key parts first done ops hand.tag waits t (omega arith) (λ h has. let e : hand ≡ h = cc in ap (λ (x : Hand). x.tag) (sym e))).moves

-- ---- the rest of a split

record SplitRest (s : CoreState) (cpu parts done left : ℕ) (ops : List CpuOp) (tag : Tag) : Type 0 where
  moves : moves_of_run s (replicate left (actor.Cpu cpu)) ≡ replicate (parts - done) (call_move cpu tag)
  counts : (kind : Kind) (t : ℕ) → balance kind t cpu (after_steps s cpu left) ≡ balance kind t cpu s + (parts - done) * call_counts kind t tag
  core : IsCore (after_steps s cpu left)
  waits : waiting_at (after_steps s cpu left).machine cpu ≡ record { ops = ops; done = 0 }

moves_more : (cpu parts done : ℕ) (tag : Tag) (one rest : List Move) → one ≡ cond (nat_lt done parts) (call_move cpu tag ∷ []) [] → rest ≡ replicate (parts - (done + 1)) (call_move cpu tag)
    → one ++ rest ≡ replicate (parts - done) (call_move cpu tag)
moves_more cpu parts done tag one rest first then = elim (cases_lt done parts) [
  | inl more ↦ let l : nat_lt done parts ≡ true = grind (arith, nat_tests) in let e : parts - done ≡ suc (parts - (done + 1)) = omega arith in rw (first, l, then, e) refl
  | inr past ↦ let l : nat_lt done parts ≡ false = grind (arith, nat_tests) in let e : parts - done ≡ parts - (done + 1) = omega arith in rw (first, l, then, e) refl
]

counts_more : (parts done was now end each : ℕ) → now ≡ was + cond (nat_lt done parts) 1 0 * each → end ≡ now + (parts - (done + 1)) * each → end ≡ was + (parts - done) * each
counts_more parts done was now end each first then = elim (cases_lt done parts) [
  | inl more ↦ let l : nat_lt done parts ≡ true = grind (arith, nat_tests) in let e : parts - done ≡ suc (parts - (done + 1)) = omega arith in
      let f : now ≡ was + 1 * each = rw l at first in rw e (let m = suc-mul (parts - (done + 1)) each in omega arith)
  | inr past ↦ let l : nat_lt done parts ≡ false = grind (arith, nat_tests) in let e : parts - done ≡ parts - (done + 1) = omega arith in
      let f : now ≡ was + 0 * each = rw l at first in rw e (omega arith)
]

split_rest : (left : ℕ) (s : CoreState) (cpu key parts first done : ℕ) (ops : List CpuOp) (tag : Tag) → IsCore s → waiting_at s.machine cpu ≡ waits_for (Split key parts first) ops done → 0 < done → 2 ≤ parts
    → done + suc left ≡ 2 * parts → IsTagged tag (hand_at s.machine cpu) → SplitRest s cpu parts done (suc left) ops tag
split_rest zero s cpu key parts first done ops tag core waits some two all tagged =
    let t = takes_step s cpu (Split key parts first) ops done core waits (later_free s.machine (scene_at s.modules cpu) (Split key parts first) ops done (omega arith)) in
    let step = later s cpu key parts first done ops tag waits t some tagged in
    let none : parts - (done + 1) ≡ 0 = omega arith in
    record {
      moves = moves_more cpu parts done tag (moves_of_step s.machine (inside_at s.modules cpu) cpu) [] step.moves (rw none refl);
      counts = λ kind u. counts_more parts done (balance kind u cpu s) (balance kind u cpu (stepped s (actor.Cpu cpu))) (balance kind u cpu (stepped s (actor.Cpu cpu))) (call_counts kind u tag) (step.counts kind u) (rw none (omega arith));
      core = t.core;
      waits = t.waits ∙ ends (Split key parts first) ops done (omega arith);
    }
split_rest (suc left) s cpu key parts first done ops tag core waits some two all tagged =
    let t = takes_step s cpu (Split key parts first) ops done core waits (later_free s.machine (scene_at s.modules cpu) (Split key parts first) ops done (omega arith)) in
    let step = later s cpu key parts first done ops tag waits t some tagged in
    let rest = split_rest left (stepped s (actor.Cpu cpu)) cpu key parts first (done + 1) ops tag t.core (t.waits ∙ goes_on (Split key parts first) ops done (omega arith)) (omega arith) two (omega arith) step.tagged in
    record {
      moves = moves_more cpu parts done tag (moves_of_step s.machine (inside_at s.modules cpu) cpu) (moves_of_run (stepped s (actor.Cpu cpu)) (replicate (suc left) (actor.Cpu cpu))) step.moves rest.moves;
      counts = λ kind u. counts_more parts done (balance kind u cpu s) (balance kind u cpu (stepped s (actor.Cpu cpu))) (balance kind u cpu (after_steps (stepped s (actor.Cpu cpu)) cpu (suc left))) (call_counts kind u tag) (step.counts kind u) (rest.counts kind u);
      core = rest.core;
      waits = rest.waits;
    }

-- ---- a whole split

record Whole (s : CoreState) (cpu parts : ℕ) (tag : Tag) : Type 0 where
  moves : moves_of_run s (replicate (2 * parts) (actor.Cpu cpu)) ≡ replicate (parts - 1) (call_move cpu tag)
  counts : (kind : Kind) (t : ℕ) → live_total kind t (live_of (word_state (after_steps s cpu (2 * parts)))) ≡ live_total kind t (live_of (word_state s)) + (parts - 1) * call_counts kind t tag

taken_tag : (tag : Tag) (size : ℕ) (x : Held) → x ≡ held.Counted tag size → IsTagged tag (in_hand x)
taken_tag tag size x is h has = let e : in_hand (held.Counted tag size) ≡ Some h = sym (ap in_hand is) ∙ has in let f : tag ≡ h.tag = cc in sym f

-- a CPU with no hand counts what its places hold
no_hand_balance : (s : CoreState) (cpu : ℕ) (kind : Kind) (t : ℕ) → hand_at s.machine cpu ≡ None → balance kind t cpu s ≡ live_total kind t (live_of (word_state s))
unfolding balance
no_hand_balance s cpu kind t free = let e = ap (hand_counts kind t) free in omega (arith, live_places s kind t)

whole : (s : CoreState) (cpu key parts first size : ℕ) (tag : Tag) (ops : List CpuOp) → IsCore s → Begins s cpu (Split key parts first) ops → held_at s.machine.places key ≡ held.Counted tag size → Whole s cpu parts tag
whole s cpu key parts first size tag ops core b is =
    let t = takes_step s cpu (Split key parts first) ops 0 core b.waits (in_free s.machine (scene_at s.modules cpu) cpu (Split key parts first) ops 0 b.waits b.free) in
    let two = t.ready.1.two_parts in
    let left = 2 * parts - 2 in
    let all : 2 * parts ≡ suc (suc left) = omega arith in
    let after = stepped s (actor.Cpu cpu) in
    let clear = clear_step key s.machine.places in
    let tagged : IsTagged tag (hand_at after.machine cpu) =
    λ h has. taken_tag tag size (held_at s.machine.places key) is h (sym (known_hand s cpu key parts first 0 ops tag b.waits t clear refl) ∙ has) in
    let rest = split_rest left after cpu key parts first 1 ops tag t.core (t.waits ∙ goes_on (Split key parts first) ops 0 (omega arith)) (omega arith) two (omega arith) tagged in
    let none : moves_of_step s.machine (inside_at s.modules cpu) cpu ≡ [] = moves_known s.machine (inside_at s.modules cpu) cpu (Split key parts first) ops 0 clear (hand_at s.machine cpu) b.waits refl refl in
    let below = waits_below s.machine cpu (Split key parts first) ops 0 b.waits in
    let end = after_steps after cpu (suc left) in
    let same_shape : end.shape ≡ s.shape = run_shape after (replicate (suc left) (actor.Cpu cpu)) ∙ stepped_shape s (actor.Cpu cpu) in
    let within : cpu < end.shape.cpus = let c = ap (λ (k : Shape). k.cpus) same_shape in omega (arith, core.machine.waiting) in
    let first_free = free_hand s.sections s.machine.places (hand_at s.machine cpu) (Split key parts first ∷ ops) t.ready in
    let last_free = free_hand end.sections end.machine.places (hand_at end.machine cpu) ops (ready_at end cpu ops 0 rest.core within rest.waits) in
    record {
      moves = rw all (rw none rest.moves);
      counts = λ kind u. rw all
          (let kept = written s cpu key parts first 0 ops tag b.waits t key held.None (in_hand (held_at s.machine.places key)) refl kind u in
          let before = no_hand_balance s cpu kind u first_free in
          let at_end = no_hand_balance end cpu kind u last_free in
          let counted = rest.counts kind u in omega arith);
    }

no_bytes : (b : Bool) (n : ℕ) → n * cond {A = ℕ} b 0 0 ≡ 0
no_bytes true n = omega arith
no_bytes false n = omega arith

each_call : (b : Bool) (n : ℕ) → n * cond {A = ℕ} b 1 0 ≡ cond b n 0
each_call true n = omega arith
each_call false n = omega arith

pub counted_is : (x : Held) → is_counted x ≡ true → (tag : Tag) × (size : ℕ) × (x ≡ held.Counted tag size)
counted_is held.None h = cc
counted_is held.Empty h = cc
counted_is (held.Counted tag size) h = (tag, size, refl)

pub split_moves : (s : CoreState) (cpu key parts first size : ℕ) (tag : Tag) (ops : List CpuOp) → IsCore s → Begins s cpu (Split key parts first) ops → held_at s.machine.places key ≡ held.Counted tag size
    → moves_of_run s (replicate (2 * parts) (actor.Cpu cpu)) ≡ replicate (parts - 1) (call_move cpu tag)
split_moves s cpu key parts first size tag ops core b is = (whole s cpu key parts first size tag ops core b is).moves

pub split_bytes : (s : CoreState) (cpu key parts first t : ℕ) (ops : List CpuOp) → IsCore s → Begins s cpu (Split key parts first) ops
    → live_total Bytes t (live_of (word_state (after_steps s cpu (2 * parts)))) ≡ live_total Bytes t (live_of (word_state s))
split_bytes s cpu key parts first t ops core b =
    let live = (split_passes s.machine.places s.machine.waiting key parts first (in_free s.machine (scene_at s.modules cpu) cpu (Split key parts first) ops 0 b.waits b.free)).live in
    let x = counted_is (held_at s.machine.places key) (and_parts (is_counted (held_at s.machine.places key)) _ live).0 in
    let w = (whole s cpu key parts first x.1 x.0 ops core b x.2).counts Bytes t in
    omega (arith, no_bytes (x.0.number == t) (parts - 1))

pub split_calls : (s : CoreState) (cpu key parts first size t : ℕ) (tag : Tag) (ops : List CpuOp) → IsCore s → Begins s cpu (Split key parts first) ops → held_at s.machine.places key ≡ held.Counted tag size
    → live_total Calls t (live_of (word_state (after_steps s cpu (2 * parts)))) ≡ live_total Calls t (live_of (word_state s)) + cond (tag.number == t) (parts - 1) 0
split_calls s cpu key parts first size t tag ops core b is =
    let w = (whole s cpu key parts first size tag ops core b is).counts Calls t in
    omega (arith, each_call (tag.number == t) (parts - 1))
