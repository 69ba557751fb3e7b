-- What the steps of an op, from its first to its last, make of the places is what the list machine makes of the live list.
use Rattle.std.proofs.Common.{◌≡◌, ◌≢◌, ℕ, zero, suc, ◌+◌, ◌-◌, ◌*◌, ◌/◌, ◌%◌, ◌<◌, ◌≤◌, ◌==◌, nat_lt, List, [], ◌∷◌, length, get_or, set, take, refl, sym, ap, ◌∙◌, subst, arith, Option, Some, None, Bool, true, false, if◌then◌else◌, ltb-true, lt-ltb, le-ltb, eq-eqb, ne_eqb}
use Rattle.std.specs.List.{list_any, range_with_len}
use Rattle.std.proofs.Math.Nat.{mul-div_cancel_left, suc-mul}
use Rattle.std.proofs.lemmas.Nat.{mul-le}
use Rattle.std.proofs.lemmas.List.{get_or-set_other, length-set, set_comm, take_all}
use Rattle.std.proofs.lemmas.List.FromFn.{get_or-range_with_len, length-range_with_len}
use Rattle.std.proofs.lemmas.List.Sums.{fold_more}
use Rattle.tag_model.specs.declared.state.Hand.{Hand}
use Rattle.tag_model.specs.declared.state.Held.{Held}
use Rattle.tag_model.specs.declared.state.Held.TheVariants as held
use Rattle.tag_model.specs.Laws.{live_of}
use Rattle.tag_model.specs.ListMachine as list
use Rattle.tag_model.specs.ListMachine.{AreNew, Live, is_even, with_each, with_held}
use Rattle.tag_model.specs.RefMoves.{part_of, trimmed}
use Rattle.cpu_ops.specs.declared.op.CpuOp.{CpuOp}
use Rattle.cpu_ops.specs.declared.op.CpuOp.TheVariants.{Open, Close, Split, Swap, Trim, Enter, Leave}
use Rattle.cpu_ops.specs.declared.op.TheConstants.{KEY_END}
use Rattle.cpu_ops.specs.declared.step.WordStep.{WordStep}
use Rattle.cpu_ops.specs.declared.step.WordStep.TheVariants.{AddCall, Write}
use Rattle.cpu_ops.specs.Machine.{clear_step, first_refusal, hand_after, hand_at, held_at, in_hand, is_new_key, is_used, less_bytes, new_keys, part_key, places_after, put_down, size_of, step_count, step_of, tag_in, with_bytes, with_call}
use Rattle.tag_model.specs.Reference.{is_counted}
use Rattle.cpu_ops.specs.MayQueue.{IsOp, IsSplit}
use Rattle.cpu_ops.specs.declared.refused.StepRefused.{StepRefused}
use Rattle.module_ops.specs.Modules.{inside_at, scene_at}
use Rattle.core_steps.specs.CoreState.{CoreState, HoldsParts, IsCore, place_parts, settled_hand, word_state}
use Rattle.core_steps.specs.Laws.{Begins, after_steps}
use Rattle.core_steps.specs.RefOps.{MayDoIf, done_if, ref_op}
use Rattle.core_steps.proofs.Hands.{passes}
use Rattle.core_steps.proofs.Kept.{first_passes}
use Rattle.core_steps.proofs.LivePlaces.{live_held, live_set, lives_of}
use Rattle.core_steps.proofs.Ready.{live_counted}
use Rattle.core_steps.proofs.Splits.{SplitPasses, new_key_from, part_below, part_later, rest_hand, share_written, split_passes, unused_key}
use Rattle.core_steps.proofs.Steps.{Stepped, after_more, in_free, ready_at, takes_step, under_way, waits_below}

set_twice : (places : List Held) (i : ℕ) (a b : Held) → set (set places i a) i b ≡ set places i b
set_twice [] i a b = refl
set_twice (x ∷ places) zero a b = refl
set_twice (x ∷ places) (suc i) a b = ap (λ (ps : List Held). x ∷ ps) (set_twice places i a b)

put_back : (x : Held) → is_counted x ≡ true → put_down (in_hand x) ≡ x
put_back held.None c = absurd (cc)
put_back held.Empty c = absurd (cc)
put_back (held.Counted tag size) c = refl

-- ---- the steps of an op that begins

module _ (s : CoreState) (cpu : ℕ) (op : CpuOp) (ops : List CpuOp) (core : IsCore s) (b : Begins s cpu op ops) where
  -- a step of it
  step_at : (i : ℕ) → i < step_count op → Stepped (after_steps s cpu i) cpu op ops i
  step_at i within = let u = under_way s cpu op ops i core b within in takes_step (after_steps s cpu i) cpu op ops i u.core u.waits u.free

  hand_next : (i : ℕ) (step : WordStep) → i < step_count op → step_of op i (hand_at (after_steps s cpu i).machine cpu) (after_steps s cpu i).machine.places (inside_at (after_steps s cpu i).modules cpu) ≡ step
      → hand_at (after_steps s cpu (suc i)).machine cpu ≡ hand_after step (hand_at (after_steps s cpu i).machine cpu)
  hand_next i step within is = ap (λ (c : CoreState). hand_at c.machine cpu) (after_more s cpu i) ∙ ((step_at i within).hand ∙ ap (λ (x : WordStep). hand_after x (hand_at (after_steps s cpu i).machine cpu)) is)

  places_next : (i : ℕ) (step : WordStep) → i < step_count op → step_of op i (hand_at (after_steps s cpu i).machine cpu) (after_steps s cpu i).machine.places (inside_at (after_steps s cpu i).modules cpu) ≡ step
      → (after_steps s cpu (suc i)).machine.places ≡ places_after step (after_steps s cpu i).machine.places
  places_next i step within is = ap (λ (c : CoreState). c.machine.places) (after_more s cpu i) ∙ ((step_at i within).places ∙ ap (λ (x : WordStep). places_after x (after_steps s cpu i).machine.places) is)

  -- its first step isn't refused, and it may be queued
  first_free : first_refusal s.machine.places s.machine.waiting (scene_at s.modules cpu) op ≡ None
  first_free = first_passes s.machine (scene_at s.modules cpu) op ops 0 (in_free s.machine (scene_at s.modules cpu) cpu op ops 0 b.waits b.free) refl

  may_queue : IsOp s.sections op
  may_queue = (ready_at s cpu (op ∷ ops) 0 core (omega (arith, core.machine.waiting, waits_below s.machine cpu op ops 0 b.waits)) b.waits).1

-- a key has a place
key_place : (s : CoreState) (key : ℕ) → IsCore s → key < KEY_END → key < length s.machine.places
key_place s key core below = omega (arith, core.machine.places)

live_key : (s : CoreState) (key : ℕ) → IsCore s → key < KEY_END → list.held_at key (live_of (word_state s)) ≡ held_at s.machine.places key
live_key s key core below = ap (list.held_at key) (lives_of s) ∙ live_held s.machine.places key (key_place s key core below)

-- the live list, where one place was written
written : (s next : CoreState) (key : ℕ) (h : Held) → IsCore s → key < KEY_END → next.machine.places ≡ set s.machine.places key h → live_of (word_state next) ≡ with_held key h (live_of (word_state s))
written s next key h core below is =
    lives_of next ∙ (ap (λ (ps : List Held). live_of (place_parts 0 ps)) is ∙ (live_set s.machine.places key h (key_place s key core below) ∙ ap (with_held key h) (sym (lives_of s))))

some_held : (x y : Held) → x ≡ y → is_counted y ≡ true → x ≢ held.None
some_held x y same c none = absurd (let bad : is_counted held.None ≡ true = subst (λ (h : Held). is_counted h ≡ true) (sym same ∙ none) c in cc)

-- ---- each op

open_done : (s : CoreState) (cpu key section index size : ℕ) (ops : List CpuOp) → IsCore s → Begins s cpu (Open key section index size) ops
    → live_of (word_state (after_steps s cpu 3)) ≡ with_held key (held.Counted (tag_in (inside_at s.modules cpu) section index) size) (live_of (word_state s))
open_done s cpu key section index size ops core b =
    let op = Open key section index size in
    let tag = tag_in (inside_at s.modules cpu) section index in
    let p1 = places_next s cpu op ops core b 0 _ (omega arith) refl in
    let p2 = places_next s cpu op ops core b 1 _ (omega arith) refl in
    let p3 = places_next s cpu op ops core b 2 _ (omega arith) refl in
    let h1 = hand_next s cpu op ops core b 0 _ (omega arith) refl in
    let h2 = hand_next s cpu op ops core b 1 _ (omega arith) refl in
    written s (after_steps s cpu 3) key (held.Counted tag size) core (may_queue s cpu op ops core b).key_below
    (p3 ∙ (ap (λ (ps : List Held). set ps key (put_down (hand_at (after_steps s cpu 2).machine cpu))) (p2 ∙ p1) ∙ ap (λ (h : Option Hand). set s.machine.places key (put_down h)) (h2 ∙ ap (with_bytes size) h1)))

close_done : (s : CoreState) (cpu key : ℕ) (ops : List CpuOp) → IsCore s → Begins s cpu (Close key) ops → live_of (word_state (after_steps s cpu 3)) ≡ with_held key held.None (live_of (word_state s))
close_done s cpu key ops core b =
    let op = Close key in
    let p1 = places_next s cpu op ops core b 0 _ (omega arith) refl in
    let p2 = places_next s cpu op ops core b 1 _ (omega arith) refl in
    let p3 = places_next s cpu op ops core b 2 _ (omega arith) refl in
    written s (after_steps s cpu 3) key held.None core (may_queue s cpu op ops core b).key_below (p3 ∙ (p2 ∙ p1))

trim_down : (bytes : ℕ) (x : Held) → is_counted x ≡ true → put_down (less_bytes bytes (in_hand x)) ≡ trimmed bytes x
trim_down bytes held.None c = absurd (cc)
trim_down bytes held.Empty c = absurd (cc)
trim_down bytes (held.Counted tag size) c = refl

trim_done : (s : CoreState) (cpu key bytes : ℕ) (ops : List CpuOp) → IsCore s → Begins s cpu (Trim key bytes) ops
    → live_of (word_state (after_steps s cpu 3)) ≡ with_held key (trimmed bytes (list.held_at key (live_of (word_state s)))) (live_of (word_state s))
trim_done s cpu key bytes ops core b =
    let op = Trim key bytes in
    let places = s.machine.places in
    let x = held_at places key in
    let below = (may_queue s cpu op ops core b).key_below in
    let c = live_counted places s.machine.waiting key (passes _ _ _ (first_free s cpu op ops core b)).0 in
    let p1 = places_next s cpu op ops core b 0 _ (omega arith) refl in
    let p2 = places_next s cpu op ops core b 1 _ (omega arith) refl in
    let p3 = places_next s cpu op ops core b 2 _ (omega arith) refl in
    let h1 = hand_next s cpu op ops core b 0 _ (omega arith) refl in
    let h2 = hand_next s cpu op ops core b 1 _ (omega arith) refl in
    let down : put_down (hand_at (after_steps s cpu 2).machine cpu) ≡ trimmed bytes x = ap put_down (h2 ∙ ap (less_bytes bytes) h1) ∙ trim_down bytes x c in
    written s (after_steps s cpu 3) key (trimmed bytes x) core below
    (p3 ∙ (ap (λ (ps : List Held). set ps key (put_down (hand_at (after_steps s cpu 2).machine cpu))) (p2 ∙ p1) ∙ (set_twice places key held.None _ ∙ ap (set places key) down)))
    ∙ ap (λ (h : Held). with_held key (trimmed bytes h) (live_of (word_state s))) (sym (live_key s key core below))

swap_done : (s : CoreState) (cpu one two : ℕ) (ops : List CpuOp) → IsCore s → Begins s cpu (Swap one two) ops
    → live_of (word_state (after_steps s cpu 3)) ≡ with_held one (list.held_at two (live_of (word_state s))) (with_held two (list.held_at one (live_of (word_state s))) (live_of (word_state s)))
swap_done s cpu one two ops core b =
    let op = Swap one two in
    let places = s.machine.places in
    let is = may_queue s cpu op ops core b in
    let first = passes _ _ _ (first_free s cpu op ops core b) in
    let second = passes _ _ _ first.1 in
    let a = held_at places one in
    let d = held_at places two in
    let counted_one = live_counted places s.machine.waiting one first.0 in
    let counted_two = live_counted places s.machine.waiting two second.0 in
    let p1 = places_next s cpu op ops core b 0 _ (omega arith) refl in
    let p2 = places_next s cpu op ops core b 1 _ (omega arith) refl in
    let p3 = places_next s cpu op ops core b 2 _ (omega arith) refl in
    let h1 = hand_next s cpu op ops core b 0 _ (omega arith) refl in
    let h2 = hand_next s cpu op ops core b 1 _ (omega arith) refl in
    let down_one : put_down (hand_at (after_steps s cpu 1).machine cpu) ≡ a = ap put_down h1 ∙ put_back a counted_one in
    let there : held_at (after_steps s cpu 1).machine.places two ≡ d = ap (λ (ps : List Held). held_at ps two) p1 ∙ get_or-set_other places one two held.None held.None (λ e. is.apart (sym e)) in
    let down_two : put_down (hand_at (after_steps s cpu 2).machine cpu) ≡ d = ap put_down (h2 ∙ ap in_hand there) ∙ put_back d counted_two in
    let mid : (after_steps s cpu 2).machine.places ≡ set (set places two a) one held.None =
    p2 ∙ (ap (λ (ps : List Held). set ps two (put_down (hand_at (after_steps s cpu 1).machine cpu))) p1 ∙ (ap (set (set places one held.None) two) down_one ∙ set_comm places one two held.None a is.apart)) in
    let end : (after_steps s cpu 3).machine.places ≡ set (set places two a) one d =
    p3 ∙ (ap (λ (ps : List Held). set ps one (put_down (hand_at (after_steps s cpu 2).machine cpu))) mid ∙ (set_twice (set places two a) one held.None _ ∙ ap (set (set places two a) one) down_two)) in
    let live = live_of (word_state s) in
    let within = key_place s one core is.first.key_below in
    lives_of (after_steps s cpu 3) ∙ (ap (λ (ps : List Held). live_of (place_parts 0 ps)) end
    ∙ (live_set (set places two a) one d (omega (arith, length-set places two a, within))
    ∙ (ap (with_held one d) (live_set places two a (key_place s two core is.second.key_below) ∙ ap (with_held two a) (sym (lives_of s)))
    ∙ (ap (λ (h : Held). with_held one h (with_held two a live)) (sym (live_key s two core is.second.key_below))
    ∙ ap (λ (h : Held). with_held one (list.held_at two live) (with_held two h live)) (sym (live_key s one core is.first.key_below))))))

-- ---- a split

module _ (s : CoreState) (cpu key parts first : ℕ) (ops : List CpuOp) (core : IsCore s) (b : Begins s cpu (Split key parts first) ops) where
  is_split : IsSplit key parts first
  is_split = may_queue s cpu (Split key parts first) ops core b

  parts_pass : SplitPasses s.machine.places s.machine.waiting key parts first
  parts_pass = split_passes s.machine.places s.machine.waiting key parts first (first_free s cpu (Split key parts first) ops core b)

  -- so many parts of a size are in hand behind the first step
  in_parts : HoldsParts (hand_at (after_steps s cpu 1).machine cpu) parts 1
  in_parts = let two = is_split.two_parts in (step_at s cpu (Split key parts first) ops core b 1 (omega arith)).ready.0.counting (omega arith) (omega arith)

  was : held_at s.machine.places key ≡ held.Counted in_parts.tag (parts * in_parts.size)
  was =
      let two = is_split.two_parts in
      let x = held_at s.machine.places key in
      let c = live_counted s.machine.places s.machine.waiting key parts_pass.live in
      let h1 = hand_next s cpu (Split key parts first) ops core b 0 (clear_step key s.machine.places) (omega arith) refl in
      sym (put_back x c) ∙ ap put_down (sym h1 ∙ in_parts.held)

  share_is : part_of parts (held_at s.machine.places key) ≡ held.Counted in_parts.tag in_parts.size
  share_is =
      let two = is_split.two_parts in
      let each : parts * in_parts.size / parts ≡ in_parts.size = mul-div_cancel_left in_parts.size (let some : 0 < parts = omega arith in some) in
      ap (part_of parts) was ∙ ap (held.Counted in_parts.tag) each

  -- while calls are added
  counting : (n : ℕ) → n < parts → (hand_at (after_steps s cpu (suc n)).machine cpu ≡ settled_hand in_parts.tag (parts * in_parts.size) (suc n)) × ((after_steps s cpu (suc n)).machine.places ≡ set s.machine.places key held.None)
  counting zero within = (in_parts.held, places_next s cpu (Split key parts first) ops core b 0 (clear_step key s.machine.places) (omega arith) refl)
  counting (suc n) within =
      let before = counting n (omega arith) in
      let z : (suc n == 0) ≡ false = ne_eqb (suc n) 0 (λ e. omega arith) in
      let l : nat_lt (suc n) parts ≡ true = lt-ltb (suc n) parts within in
      let at = after_steps s cpu (suc n) in
      let is : step_of (Split key parts first) (suc n) (hand_at at.machine cpu) at.machine.places (inside_at at.modules cpu) ≡ AddCall = rw (z, l) refl in
      let more : suc n + 1 ≡ suc (suc n) = omega arith in (
        hand_next s cpu (Split key parts first) ops core b (suc n) AddCall (omega arith) is ∙ (ap with_call before.0 ∙ ap (settled_hand in_parts.tag (parts * in_parts.size)) more),
        places_next s cpu (Split key parts first) ops core b (suc n) AddCall (omega arith) is ∙ before.1,
      )

  counted : (hand_at (after_steps s cpu parts).machine cpu ≡ settled_hand in_parts.tag (parts * in_parts.size) parts) × ((after_steps s cpu parts).machine.places ≡ set s.machine.places key held.None)
  counted =
      let two = is_split.two_parts in
      let all : suc (parts - 1) ≡ parts = omega arith in
      let c = counting (parts - 1) (omega arith) in (
        subst (λ n. hand_at (after_steps s cpu n).machine cpu ≡ settled_hand in_parts.tag (parts * in_parts.size) n) all c.0,
        subst (λ n. (after_steps s cpu n).machine.places ≡ set s.machine.places key held.None) all c.1,
      )

  -- the keys of the parts
  key_of : (j : ℕ) → j < parts → get_or (key ∷ new_keys parts first) j 0 ≡ part_key key first j
  key_of zero within = refl
  key_of (suc i) within =
      let same : first + (suc i - 1) ≡ first + i = omega arith in
      get_or-range_with_len first (parts - 1) i 0 (omega arith) ∙ (sym same ∙ sym (part_later key first (suc i) (λ e. omega arith)))

  -- a share is written
  share_step_is : (j : ℕ) → j < parts → hand_at (after_steps s cpu (parts + j)).machine cpu ≡ settled_hand in_parts.tag ((parts - j) * in_parts.size) (parts - j)
      → step_of (Split key parts first) (parts + j) (hand_at (after_steps s cpu (parts + j)).machine cpu) (after_steps s cpu (parts + j)).machine.places (inside_at (after_steps s cpu (parts + j)).modules cpu)
      ≡ Write (part_key key first j) (held.Counted in_parts.tag in_parts.size) (rest_hand in_parts.tag in_parts.size (parts - j))
  share_step_is j within hand =
      let z : (parts + j == 0) ≡ false = ne_eqb (parts + j) 0 (λ e. omega arith) in
      let l : nat_lt (parts + j) parts ≡ false = le-ltb (parts + j) parts (omega arith) in
      let at : parts + j - parts ≡ j = omega arith in
      let here = hand_at (after_steps s cpu (parts + j)).machine cpu in
      let less : (parts - j) * in_parts.size ≤ parts * in_parts.size = mul-le (parts - j) in_parts.size parts in_parts.size (omega arith) (omega arith) in
      let r : HoldsParts here (parts - j) (parts - j) = record { tag = in_parts.tag; size = in_parts.size; some = in_parts.some; fits = omega (arith, less, in_parts.fits); held = hand } in
      rw (z, l, at) (share_written (part_key key first j) (parts - j) here r (omega arith))

  next_hand : (j : ℕ) → suc j < parts → rest_hand in_parts.tag in_parts.size (parts - j) ≡ settled_hand in_parts.tag ((parts - suc j) * in_parts.size) (parts - suc j)
  next_hand j within =
      let more : (parts - j == 1) ≡ false = ne_eqb (parts - j) 1 (λ e. omega arith) in
      let calls : parts - j - 1 ≡ parts - suc j = omega arith in
      let one : parts - j ≡ suc (parts - suc j) = omega arith in
      let bytes : (parts - j) * in_parts.size - in_parts.size ≡ (parts - suc j) * in_parts.size = rw one (let m = suc-mul (parts - suc j) in_parts.size in omega arith) in
      rw (more, calls, bytes) refl

  core_at : (i : ℕ) → i < 2 * parts → IsCore (after_steps s cpu i)
  core_at i within = (under_way s cpu (Split key parts first) ops i core b within).core

  -- so many shares are written
  writes : (j : ℕ) → j < parts → (live_of (word_state (after_steps s cpu (parts + suc j))) ≡ with_each (take (suc j) (key ∷ new_keys parts first)) (held.Counted in_parts.tag in_parts.size) (live_of (word_state s)))
      × (suc j < parts → hand_at (after_steps s cpu (parts + suc j)).machine cpu ≡ settled_hand in_parts.tag ((parts - suc j) * in_parts.size) (parts - suc j))
  writes zero within =
      let none : parts + 0 ≡ parts = omega arith in
      let after : suc (parts + 0) ≡ parts + 1 = omega arith in
      let all : parts - 0 ≡ parts = omega arith in
      let hand : hand_at (after_steps s cpu (parts + 0)).machine cpu ≡ settled_hand in_parts.tag ((parts - 0) * in_parts.size) (parts - 0) = rw (none, all) counted.0 in
      let is = share_step_is 0 within hand in
      let before : (after_steps s cpu (parts + 0)).machine.places ≡ set s.machine.places key held.None = rw none counted.1 in
      let places = places_next s cpu (Split key parts first) ops core b (parts + 0) _ (omega arith) is ∙ (ap (λ (ps : List Held). set ps key (held.Counted in_parts.tag in_parts.size)) before ∙ set_twice s.machine.places key held.None (held.Counted in_parts.tag in_parts.size)) in
      let next = hand_next s cpu (Split key parts first) ops core b (parts + 0) _ (omega arith) is in (
        subst (λ n. live_of (word_state (after_steps s cpu n)) ≡ with_held key (held.Counted in_parts.tag in_parts.size) (live_of (word_state s))) after (written s (after_steps s cpu (suc (parts + 0))) key (held.Counted in_parts.tag in_parts.size) core is_split.key_below places),
        λ more. subst (λ n. hand_at (after_steps s cpu n).machine cpu ≡ settled_hand in_parts.tag ((parts - 1) * in_parts.size) (parts - 1)) after (next ∙ next_hand 0 more),
      )
  writes (suc j) within =
      let rest = writes j (omega arith) in
      let at = parts + suc j in
      let after : suc (parts + suc j) ≡ parts + suc (suc j) = omega arith in
      let h = held.Counted in_parts.tag in_parts.size in
      let is = share_step_is (suc j) within (rest.1 within) in
      let places = places_next s cpu (Split key parts first) ops core b at _ (omega arith) is in
      let next = hand_next s cpu (Split key parts first) ops core b at _ (omega arith) is in
      let below = part_below key parts first (suc j) is_split within in
      let live = live_of (word_state s) in
      let one : suc j + 1 ≡ suc (suc j) = omega arith in
      let length_keys : length (key ∷ new_keys parts first) ≡ suc (parts - 1) = ap suc (length-range_with_len first (parts - 1)) in
      let folded = fold_more (λ (so_far : Live) (place : ℕ). with_held place h so_far) live (key ∷ new_keys parts first) (suc j) 0 (omega (arith, length_keys)) in
      let taken : with_each (take (suc (suc j)) (key ∷ new_keys parts first)) h live ≡ with_held (part_key key first (suc j)) h (with_each (take (suc j) (key ∷ new_keys parts first)) h live) =
      ap (λ n. with_each (take n (key ∷ new_keys parts first)) h live) (sym one) ∙ (folded ∙ ap (λ k. with_held k h (with_each (take (suc j) (key ∷ new_keys parts first)) h live)) (key_of (suc j) within)) in (
        subst (λ n. live_of (word_state (after_steps s cpu n)) ≡ with_each (take (suc (suc j)) (key ∷ new_keys parts first)) h live) after
            (written (after_steps s cpu at) (after_steps s cpu (suc at)) (part_key key first (suc j)) h (core_at at (omega arith)) below places ∙ (ap (with_held (part_key key first (suc j)) h) rest.0 ∙ sym taken)),
        λ more. subst (λ n. hand_at (after_steps s cpu n).machine cpu ≡ settled_hand in_parts.tag ((parts - suc (suc j)) * in_parts.size) (parts - suc (suc j))) after (next ∙ next_hand (suc j) more),
      )

  split_done : live_of (word_state (after_steps s cpu (2 * parts))) ≡ with_each (key ∷ new_keys parts first) (part_of (length (new_keys parts first) + 1) (list.held_at key (live_of (word_state s)))) (live_of (word_state s))
  split_done =
      let two = is_split.two_parts in
      let all : suc (parts - 1) ≡ parts = omega arith in
      let double : parts + parts ≡ 2 * parts = omega arith in
      let w = (writes (parts - 1) (omega arith)).0 in
      let live = live_of (word_state s) in
      let length_keys : length (key ∷ new_keys parts first) ≡ suc (parts - 1) = ap suc (length-range_with_len first (parts - 1)) in
      let count : length (new_keys parts first) + 1 ≡ parts = omega (arith, length-range_with_len first (parts - 1)) in
      let whole = subst (λ n. live_of (word_state (after_steps s cpu (parts + n))) ≡ with_each (take n (key ∷ new_keys parts first)) (held.Counted in_parts.tag in_parts.size) live) all w in
      subst (λ n. live_of (word_state (after_steps s cpu n)) ≡ with_each (take parts (key ∷ new_keys parts first)) (held.Counted in_parts.tag in_parts.size) live) double whole
      ∙ (ap (λ (ks : List ℕ). with_each ks (held.Counted in_parts.tag in_parts.size) live) (take_all parts (key ∷ new_keys parts first) (omega (arith, length_keys)))
      ∙ ap (λ (h : Held). with_each (key ∷ new_keys parts first) h live) (sym (ap (λ n. part_of n (list.held_at key live)) count ∙ (ap (part_of parts) (live_key s key core is_split.key_below) ∙ share_is))))

-- ---- all ops

same_places : (s next : CoreState) → next.machine.places ≡ s.machine.places → live_of (word_state next) ≡ live_of (word_state s)
same_places s next e = lives_of next ∙ (ap (λ (ps : List Held). live_of (place_parts 0 ps)) e ∙ sym (lives_of s))

pub op_done : (s : CoreState) (cpu : ℕ) (op : CpuOp) (ops : List CpuOp) → IsCore s → Begins s cpu op ops → live_of (word_state (after_steps s cpu (step_count op))) ≡ done_if (ref_op (inside_at s.modules cpu) op) (live_of (word_state s))
op_done s cpu (Open key section index size) ops core b = open_done s cpu key section index size ops core b
op_done s cpu (Close key) ops core b = close_done s cpu key ops core b
op_done s cpu (Split key parts first) ops core b = split_done s cpu key parts first ops core b
op_done s cpu (Swap one two) ops core b = swap_done s cpu one two ops core b
op_done s cpu (Trim key bytes) ops core b = trim_done s cpu key bytes ops core b
op_done s cpu (Enter section) ops core b = same_places s (after_steps s cpu 1) (places_next s cpu (Enter section) ops core b 0 _ (omega arith) refl)
op_done s cpu (Leave section) ops core b = same_places s (after_steps s cpu 1) (places_next s cpu (Leave section) ops core b 0 _ (omega arith) refl)

-- ---- the op may be done

unused_first : (used : Bool) (why : StepRefused) (rest : Option StepRefused) → (if used then Some why else rest) ≡ None → used ≡ false
unused_first true why rest none = absurd (cc)
unused_first false why rest none = refl

parts_even : (parts : ℕ) (x : Held) → size_of x % parts ≡ 0 → is_counted x ≡ true → is_even parts x ≡ true
parts_even parts held.None even c = absurd (cc)
parts_even parts held.Empty even c = refl
parts_even parts (held.Counted tag size) even c = eq-eqb (size % parts) 0 even

leaves_some : (bytes : ℕ) (x : Held) → is_counted x ≡ true → nat_lt bytes (size_of x) ≡ true → list.LeavesSome bytes x
leaves_some bytes held.None c less = absurd (cc)
leaves_some bytes held.Empty c less = tt
leaves_some bytes (held.Counted tag size) c less = ltb-true bytes size less

new_keys_apart : (first n other : ℕ) → other < first → list_any (λ p. p == other) (range_with_len first n) ≡ false
new_keys_apart first zero other less = refl
new_keys_apart first (suc n) other less =
    let ne : (first == other) ≡ false = ne_eqb first other (λ e. omega arith) in
    rw ne (new_keys_apart (first + 1) n other (omega arith))

are_new : (live : Live) (key first n : ℕ) → ((k : ℕ) → first ≤ k → k < first + n → (list.held_at k live ≡ held.None) × (k ≢ key)) → AreNew (range_with_len first n) key live
are_new live key first zero h = tt
are_new live key first (suc n) h =
    let here = h first (omega arith) (omega arith) in
    (here.0, here.1, new_keys_apart (first + 1) n first (omega arith), are_new live key (first + 1) n (λ k low high. h k (omega arith) (omega arith)))

pub op_may : (s : CoreState) (cpu : ℕ) (op : CpuOp) (ops : List CpuOp) → IsCore s → Begins s cpu op ops → MayDoIf (ref_op (inside_at s.modules cpu) op) (live_of (word_state s))
op_may s cpu (Open key section index size) ops core b =
    let is = may_queue s cpu (Open key section index size) ops core b in
    let unused = unused_first (is_used s.machine.places s.machine.waiting key) _ _ (first_free s cpu (Open key section index size) ops core b) in
    (live_key s key core is.key_below ∙ (unused_key s.machine.places s.machine.waiting key unused).0, is.some_bytes)
op_may s cpu (Close key) ops core b =
    let is = may_queue s cpu (Close key) ops core b in
    some_held _ _ (live_key s key core is.key_below) (live_counted s.machine.places s.machine.waiting key (passes _ _ _ (first_free s cpu (Close key) ops core b)).0)
op_may s cpu (Split key parts first) ops core b =
    let is = is_split s cpu key parts first ops core b in
    let p = parts_pass s cpu key parts first ops core b in
    let places = s.machine.places in
    let even : is_even parts (held_at places key) ≡ true = parts_even parts (held_at places key) p.even (live_counted places s.machine.waiting key p.live) in
    let two = is.two_parts in
    let count : length (new_keys parts first) + 1 ≡ parts = omega (arith, length-range_with_len first (parts - 1)) in (
      are_new (live_of (word_state s)) key first (parts - 1)
          (λ k low high. (
            live_key s k core (omega (arith, is.last_below)) ∙ (unused_key places s.machine.waiting k (p.unused k low (omega arith))).0,
            λ e. absurd (let new : is_new_key key parts first ≡ true = subst (λ n. is_new_key n parts first ≡ true) e (new_key_from k parts first low (omega arith)) in cc),
          )),
      subst (λ n. is_even n (list.held_at key (live_of (word_state s))) ≡ true) (sym count) (subst (λ (h : Held). is_even parts h ≡ true) (sym (live_key s key core is.key_below)) even),
    )
op_may s cpu (Swap one two) ops core b =
    let is = may_queue s cpu (Swap one two) ops core b in
    let a = passes _ _ _ (first_free s cpu (Swap one two) ops core b) in
    let c = passes _ _ _ a.1 in (
      some_held _ _ (live_key s one core is.first.key_below) (live_counted s.machine.places s.machine.waiting one a.0),
      some_held _ _ (live_key s two core is.second.key_below) (live_counted s.machine.places s.machine.waiting two c.0),
    )
op_may s cpu (Trim key bytes) ops core b =
    let is = may_queue s cpu (Trim key bytes) ops core b in
    let a = passes _ _ _ (first_free s cpu (Trim key bytes) ops core b) in
    let c = passes _ _ _ a.1 in
    subst (list.LeavesSome bytes) (sym (live_key s key core is.key_below)) (leaves_some bytes (held_at s.machine.places key) (live_counted s.machine.places s.machine.waiting key a.0) c.0)
op_may s cpu (Enter section) ops core b = tt
op_may s cpu (Leave section) ops core b = tt
