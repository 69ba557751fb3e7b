-- Starts as a test and as a relation, and what a take or a give leaves of the frames.
use Rattle.std.proofs.Common.{ℕ, zero, suc, ◌≡◌, ◌+◌, ◌-◌, ◌*◌, ◌%◌, ◌^◌, ◌<◌, ◌≤◌, ◌⊎◌, ◌&&◌, ◌==◌, ◌++◌, Bool, true, false, not, cond, nat_le, List, length, get_or, take, drop, replicate, slice_get, slice_range, Some, None, count_by, inl, inr, refl, sym, ap, ◌∙◌, arith, leb-true}
use Rattle.std.specs.List.{find, list_any, range_with_len}
use Rattle.std.proofs.lemmas.List.{same_lists, length-append, length-take-le, length-drop, length-replicate, get_or_append_left, get_or-append_right, get_or-take, get_or-drop, get_or-replicate}
use Rattle.std.proofs.lemmas.List.Elements.{All-from_get_or}
use Rattle.std.proofs.lemmas.List.Folds.{list_any_none, list_any_at, sum_by-replicate}
use Rattle.std.proofs.lemmas.List.Sums.{sum_by-append}
use Rattle.std.proofs.lemmas.Option.{slice_get_past, slice_get_within, slice_get-get_or, get_or_from_slice_get, same_Some, none-some}
use Rattle.std.proofs.lemmas.Bool.{and_parts, and_from, not-true, eqb-true, eq-eqb, le-leb, cases_lt, cases_Bool, cond-true, cond-false, both_ways}
use Rattle.std.proofs.lemmas.Nat.{pow_pos}
use Rattle.buddy.specs.Frames.{is_start, least_start, marked, AllAre, IsStart, IsLeastStart, HasNoStart}

-- ---- all taken, or all free

-- they lie in the zone
pub all_within : (b : Bool) (frames : List Bool) (start order : ℕ) → AllAre b frames start order → start + 2 ^ order ≤ length frames
all_within b frames start order all =
    let some = pow_pos order in
    let last = slice_get_within frames (start + 2 ^ order - 1) b (all (start + 2 ^ order - 1) (omega arith) (omega arith)) in
    omega arith

-- and so a place is one of them
pub all_at : (b d : Bool) (frames : List Bool) (start order i : ℕ) → AllAre b frames start order → start ≤ i → i < start + 2 ^ order → get_or frames i d ≡ b
all_at b d frames start order i all low high = get_or_from_slice_get frames i b d (all i low high)

range_at : (frames : List Bool) (start n i : ℕ) (d : Bool) → i < n → get_or (slice_range frames start (start + n)) i d ≡ get_or frames (start + i) d
range_at frames start n i d below =
    get_or-take (start + n - start) (drop start frames) i d (omega arith) ∙ get_or-drop start frames i d

range_length : (frames : List Bool) (start n : ℕ) → start + n ≤ length frames → length (slice_range frames start (start + n)) ≡ n
range_length frames start n within =
    let same : start + n - start ≡ n = omega arith in
    length-take-le (start + n - start) (drop start frames) (omega (arith, length-drop start frames)) ∙ same

-- ---- a start as a test, and as a relation

pub start_is : (frames : List Bool) (order start : ℕ) → is_start frames order start ≡ true → IsStart frames order start
start_is frames order start e =
    let one = and_parts (start % 2 ^ order == 0) (nat_le (start + 2 ^ order) (length frames) && not (list_any (λ taken. taken) (slice_range frames start (start + 2 ^ order)))) e in
    let two = and_parts (nat_le (start + 2 ^ order) (length frames)) (not (list_any (λ taken. taken) (slice_range frames start (start + 2 ^ order)))) one.1 in
    let within = leb-true (start + 2 ^ order) (length frames) two.0 in
    let none = not-true (list_any (λ taken. taken) (slice_range frames start (start + 2 ^ order))) two.1 in
    record {
      aligned = eqb-true (start % 2 ^ order) 0 one.0;
      free = λ i low high.
          let place : start + (i - start) ≡ i = omega arith in
          let here : get_or (slice_range frames start (start + 2 ^ order)) (i - start) false ≡ get_or frames i false =
          range_at frames start (2 ^ order) (i - start) false (omega arith) ∙ ap (λ j. get_or frames j false) place in
          slice_get-get_or frames i false (omega arith) ∙ ap (λ b. Some b) (free_there i low high within none here (cases_Bool (get_or frames i false)));
    }
  where
    free_there : (i : ℕ) → start ≤ i → i < start + 2 ^ order → start + 2 ^ order ≤ length frames → list_any (λ taken. taken) (slice_range frames start (start + 2 ^ order)) ≡ false
        → get_or (slice_range frames start (start + 2 ^ order)) (i - start) false ≡ get_or frames i false
        → (get_or frames i false ≡ true) ⊎ (get_or frames i false ≡ false) → get_or frames i false ≡ false
    free_there i low high within none here (inr free) = free
    free_there i low high within none here (inl set) =
        absurd (both_ways _ none (list_any_at (λ taken. taken) (slice_range frames start (start + 2 ^ order)) (i - start) false (omega (arith, range_length frames start (2 ^ order) within)) (here ∙ set)))

pub is_as_start : (frames : List Bool) (order start : ℕ) → IsStart frames order start → is_start frames order start ≡ true
is_as_start frames order start s =
    let within = all_within false frames start order s.free in
    let none : list_any (λ taken. taken) (slice_range frames start (start + 2 ^ order)) ≡ false =
    list_any_none (λ taken. taken) (slice_range frames start (start + 2 ^ order))
    (All-from_get_or (λ taken. taken ≡ false) (slice_range frames start (start + 2 ^ order)) false
    (λ i below.
    let len = range_length frames start (2 ^ order) within in
    range_at frames start (2 ^ order) i false (omega arith) ∙ all_at false false frames start order (start + i) s.free (omega arith) (omega arith))) in
    and_from _ _ (eq-eqb (start % 2 ^ order) 0 s.aligned)
    (and_from _ _ (le-leb (start + 2 ^ order) (length frames) within) (ap not none))

pub not_start : (frames : List Bool) (order start : ℕ) → ¬ IsStart frames order start → is_start frames order start ≡ false
not_start frames order start no_start = elim (cases_Bool (is_start frames order start)) [ inl e ↦ absurd (no_start (start_is frames order start e)) | inr e ↦ e ]

-- ---- the least

find_first : (p : ℕ → Bool) (low n k : ℕ) → low ≤ k → k < low + n → p k ≡ true → ((j : ℕ) → j < k → p j ≡ false) → find p (range_with_len low n) ≡ Some k
find_first p low zero k l h e before = absurd (omega arith)
find_first p low (suc n) k l h e before = elim (cases_lt low k) [
  | inl below ↦ cond-false (p low) (Some low) (find p (range_with_len (low + 1) n)) (before low below) ∙ find_first p (low + 1) n k (omega arith) (omega arith) e before
  | inr here ↦
      let same : low ≡ k = omega arith in
      cond-true (p low) (Some low) (find p (range_with_len (low + 1) n)) (ap p same ∙ e) ∙ ap (λ j. Some j) same
]

find_nothing : (p : ℕ → Bool) (low n : ℕ) → ((j : ℕ) → p j ≡ false) → find p (range_with_len low n) ≡ None
find_nothing p low zero none = refl
find_nothing p low (suc n) none = cond-false (p low) (Some low) (find p (range_with_len (low + 1) n)) (none low) ∙ find_nothing p (low + 1) n none

-- what is found passes, and nothing from the range's beginning on did before
record IsFirst (p : ℕ → Bool) (low k : ℕ) : Type 0 where
  passes : p k ≡ true
  from : low ≤ k
  before : (j : ℕ) → low ≤ j → j < k → p j ≡ false

found_first : (p : ℕ → Bool) (low n k : ℕ) → find p (range_with_len low n) ≡ Some k → IsFirst p low k
found_first p low zero k e = absurd (cc)
found_first p low (suc n) k e = elim (cases_Bool (p low)) [
  | inl here ↦
      let same : low ≡ k = same_Some low k (sym (cond-true (p low) (Some low) (find p (range_with_len (low + 1) n)) here) ∙ e) in
      record { passes = sym (ap p same) ∙ here; from = omega arith; before = λ j l h. absurd (omega arith) }
  | inr past ↦
      let f = found_first p (low + 1) n k (sym (cond-false (p low) (Some low) (find p (range_with_len (low + 1) n)) past) ∙ e) in
      record {
        passes = f.passes;
        from = (let l = f.from in omega arith);
        before = λ j l h. elim (cases_lt low j) [
          | inl above ↦ f.before j (omega arith) h
          | inr same ↦ (let here : j ≡ low = omega arith in ap p here ∙ past)
        ];
      }
]

found_none : (p : ℕ → Bool) (low n : ℕ) → find p (range_with_len low n) ≡ None → (k : ℕ) → low ≤ k → k < low + n → p k ≡ false
found_none p low zero e k l h = absurd (omega arith)
found_none p low (suc n) e k l h = elim (cases_Bool (p low)) [
  | inl here ↦ absurd (none-some low (sym e ∙ cond-true (p low) (Some low) (find p (range_with_len (low + 1) n)) here))
  | inr past ↦ elim (cases_lt low k) [
    | inl above ↦ found_none p (low + 1) n (sym (cond-false (p low) (Some low) (find p (range_with_len (low + 1) n)) past) ∙ e) k (omega arith) (omega arith)
    | inr same ↦ (let here : k ≡ low = omega arith in ap p here ∙ past)
  ]
]

pub least_is : (frames : List Bool) (order start : ℕ) → IsLeastStart frames order start → least_start frames order ≡ Some start
least_is frames order start l =
    let within = all_within false frames start order l.is.free in
    let some = pow_pos order in
    find_first (is_start frames order) 0 (length frames) start (omega arith) (omega arith) (is_as_start frames order start l.is)
    (λ j h. not_start frames order j (l.least j h))

pub none_is : (frames : List Bool) (order : ℕ) → HasNoStart frames order → least_start frames order ≡ None
none_is frames order none = find_nothing (is_start frames order) 0 (length frames) (λ j. not_start frames order j (none j))

-- and the other way round, for who has the function's value
pub least_told : (frames : List Bool) (order start : ℕ) → least_start frames order ≡ Some start → IsLeastStart frames order start
least_told frames order start e =
    let f = found_first (is_start frames order) 0 (length frames) start e in
    record {
      is = start_is frames order start f.passes;
      least = λ j h s. both_ways _ (f.before j (omega arith) h) (is_as_start frames order j s);
    }

pub none_told : (frames : List Bool) (order : ℕ) → least_start frames order ≡ None → HasNoStart frames order
none_told frames order e j s =
    let within = all_within false frames j order s.free in
    let some = pow_pos order in
    both_ways _ (found_none (is_start frames order) 0 (length frames) e j (omega arith) (omega arith)) (is_as_start frames order j s)

-- ---- the frames after a take or a give

pub length-marked : (b : Bool) (start order : ℕ) (frames : List Bool) → start + 2 ^ order ≤ length frames → length (marked b start order frames) ≡ length frames
length-marked b start order frames within =
    omega (arith, length-append (take start frames) (replicate (2 ^ order) b ++ drop (start + 2 ^ order) frames), length-append (replicate (2 ^ order) b) (drop (start + 2 ^ order) frames), length-take-le start frames (omega arith), length-replicate (2 ^ order) b, length-drop (start + 2 ^ order) frames)

pub marked_inside : (b d : Bool) (start order : ℕ) (frames : List Bool) (i : ℕ) → start + 2 ^ order ≤ length frames → start ≤ i → i < start + 2 ^ order → get_or (marked b start order frames) i d ≡ b
marked_inside b d start order frames i within low high =
    get_or-append_right (take start frames) (replicate (2 ^ order) b ++ drop (start + 2 ^ order) frames) start i d (length-take-le start frames (omega arith)) low
    ∙ get_or_append_left (replicate (2 ^ order) b) (drop (start + 2 ^ order) frames) d (i - start) (omega (arith, length-replicate (2 ^ order) b))
    ∙ get_or-replicate (2 ^ order) (i - start) b d (omega arith)

pub marked_outside : (b d : Bool) (start order : ℕ) (frames : List Bool) (i : ℕ) → start + 2 ^ order ≤ length frames → (i < start) ⊎ (start + 2 ^ order ≤ i) → get_or (marked b start order frames) i d ≡ get_or frames i d
marked_outside b d start order frames i within (inl low) =
    get_or_append_left (take start frames) (replicate (2 ^ order) b ++ drop (start + 2 ^ order) frames) d i (omega (arith, length-take-le start frames (omega arith)))
    ∙ get_or-take start frames i d low
marked_outside b d start order frames i within (inr high) =
    let place : start + 2 ^ order + (i - start - 2 ^ order) ≡ i = omega arith in
    get_or-append_right (take start frames) (replicate (2 ^ order) b ++ drop (start + 2 ^ order) frames) start i d (length-take-le start frames (omega arith)) (omega arith)
    ∙ get_or-append_right (replicate (2 ^ order) b) (drop (start + 2 ^ order) frames) (2 ^ order) (i - start) d (length-replicate (2 ^ order) b) (omega arith)
    ∙ get_or-drop (start + 2 ^ order) frames (i - start - 2 ^ order) d
    ∙ ap (λ j. get_or frames j d) place

-- to mark what is so already changes nothing
pub marked_same : (b : Bool) (start order : ℕ) (frames : List Bool) → AllAre b frames start order → marked b start order frames ≡ frames
marked_same b start order frames all =
    let within = all_within b frames start order all in
    same_lists (marked b start order frames) frames (length-marked b start order frames within)
    (λ i d below. elim (cases_lt i start) [
      | inl l ↦ marked_outside b d start order frames i within (inl l)
      | inr h ↦ elim (cases_lt i (start + 2 ^ order)) [
        | inl l ↦ marked_inside b d start order frames i within h l ∙ sym (all_at b d frames start order i all h l)
        | inr p ↦ marked_outside b d start order frames i within (inr p)
      ]
    ])

count_marked : (b : Bool) (start order : ℕ) (frames : List Bool) → count_by not (marked b start order frames) ≡ count_by not (take start frames) + (2 ^ order * cond {A = ℕ} (not b) 1 0 + count_by not (drop (start + 2 ^ order) frames))
count_marked b start order frames =
    sum_by-append (λ x. cond {A = ℕ} (not x) 1 0) (take start frames) (replicate (2 ^ order) b ++ drop (start + 2 ^ order) frames)
    ∙ ap (λ n. count_by not (take start frames) + n)
    (sum_by-append (λ x. cond {A = ℕ} (not x) 1 0) (replicate (2 ^ order) b) (drop (start + 2 ^ order) frames)
    ∙ ap (λ n. n + count_by not (drop (start + 2 ^ order) frames)) (sum_by-replicate (λ x. cond {A = ℕ} (not x) 1 0) (2 ^ order) b))

-- how many frames are free after a take, and after a give
pub count_taken : (start order : ℕ) (frames : List Bool) → AllAre false frames start order → count_by not (marked true start order frames) + 2 ^ order ≡ count_by not frames
count_taken start order frames all =
    let was = sym (count_marked false start order frames) ∙ ap (count_by not) (marked_same false start order frames all) in
    omega (arith, count_marked true start order frames)

pub count_given : (start order : ℕ) (frames : List Bool) → AllAre true frames start order → count_by not (marked false start order frames) ≡ count_by not frames + 2 ^ order
count_given start order frames all =
    let was = sym (count_marked true start order frames) ∙ ap (count_by not) (marked_same true start order frames all) in
    omega (arith, count_marked false start order frames)

-- the frames one by one after a take or a give
pub marked_at : (b : Bool) (start order : ℕ) (frames : List Bool) (i : ℕ) → start + 2 ^ order ≤ length frames → start ≤ i → i < start + 2 ^ order → slice_get (marked b start order frames) i ≡ Some b
marked_at b start order frames i within low high =
    slice_get-get_or (marked b start order frames) i b (omega (arith, length-marked b start order frames within))
    ∙ ap (λ x. Some x) (marked_inside b b start order frames i within low high)

pub unmarked_at : (b : Bool) (start order : ℕ) (frames : List Bool) (i : ℕ) → start + 2 ^ order ≤ length frames → (i < start) ⊎ (start + 2 ^ order ≤ i) → slice_get (marked b start order frames) i ≡ slice_get frames i
unmarked_at b start order frames i within out = elim (cases_lt i (length frames)) [
  | inl below ↦
      slice_get-get_or (marked b start order frames) i b (omega (arith, length-marked b start order frames within))
      ∙ ap (λ x. Some x) (marked_outside b b start order frames i within out)
      ∙ sym (slice_get-get_or frames i b below)
  | inr past ↦
      slice_get_past (marked b start order frames) i (omega (arith, length-marked b start order frames within))
      ∙ sym (slice_get_past frames i past)
]
