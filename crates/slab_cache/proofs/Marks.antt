-- Lists that are a function of the place: the first that passes, and one that is replaced.
use Rattle.std.proofs.Common.{ℕ, ◌≡◌, ◌≢◌, ◌<◌, Bool, true, false, cond, nat_lt, List, length, map, get_or, slice_get, slice_set, position, Some, None, sym, ap, ◌∙◌, subst, inl, inr, arith, zero-add}
use Rattle.std.specs.List.{find, range_with_len, position_or_len}
use Rattle.std.proofs.lemmas.Bool.{cases_eq, cases_lt, lt-ltb, le-ltb, ltb-true}
use Rattle.std.proofs.lemmas.List.{get_or-set_same, get_or-set_other, length-set, same_lists}
use Rattle.std.proofs.lemmas.List.Folds.{find_at}
use Rattle.std.proofs.lemmas.List.FromFn.{length-range_with_len, get_or-range_with_len, length-map-range_with_len, get_or-map-range_with_len}
use Rattle.std.proofs.lemmas.List.Sums.{position_or_len_is}
use Rattle.std.proofs.lemmas.Option.{cond_some, none-some, slice_get-get_or, slice_get_past}

pub length_marks : {X : Type 0} (f : ℕ → X) (n : ℕ) → length (map f (range_with_len 0 n)) ≡ n
length_marks f n = length-map-range_with_len f 0 n

pub mark_at : {X : Type 0} (f : ℕ → X) (n k : ℕ) (d : X) → k < n → get_or (map f (range_with_len 0 n)) k d ≡ f k
mark_at f n k d within = get_or-map-range_with_len f 0 n k k d within (omega arith)

pub first_mark : {X : Type 0} (p : X → Bool) (f : ℕ → X) (n s : ℕ) → s < n → p (f s) ≡ true → ((k : ℕ) → k < s → p (f k) ≡ false) → position p (map f (range_with_len 0 n)) ≡ Some s
first_mark p f n s within here before =
    let marks = map f (range_with_len 0 n) in
    let is : position_or_len p marks ≡ s =
    position_or_len_is p marks s (f 0) (omega (arith, length_marks f n))
    (λ k below. ap p (mark_at f n k (f 0) (omega arith)) ∙ before k below)
    (λ _. ap p (mark_at f n s (f 0) within) ∙ here) in
    subst (λ i. cond (nat_lt i (length marks)) (Some i) None ≡ Some s) (sym is) (ap (λ b. cond b (Some s) None) (lt-ltb s (length marks) (omega (arith, length_marks f n))))

pub no_mark : {X : Type 0} (p : X → Bool) (f : ℕ → X) (n : ℕ) → ((k : ℕ) → k < n → p (f k) ≡ false) → position p (map f (range_with_len 0 n)) ≡ None
no_mark p f n none =
    let marks = map f (range_with_len 0 n) in
    let is : position_or_len p marks ≡ length marks =
    position_or_len_is p marks (length marks) (f 0) (omega arith)
    (λ k below. let within : k < n = omega (arith, length_marks f n) in ap p (mark_at f n k (f 0) within) ∙ none k within)
    (λ below. absurd (omega arith)) in
    subst (λ i. cond (nat_lt i (length marks)) (Some i) None ≡ None) (sym is) (ap (λ b. cond b (Some (length marks)) None) (le-ltb (length marks) (length marks) (omega arith)))

pub set_mark : {X : Type 0} (f g : ℕ → X) (n i : ℕ) (y : X) → g i ≡ y → ((k : ℕ) → k < n → k ≢ i → g k ≡ f k) → map g (range_with_len 0 n) ≡ slice_set (map f (range_with_len 0 n)) i y
set_mark f g n i y here other =
    let old = map f (range_with_len 0 n) in
    same_lists _ _ (length_marks g n ∙ sym (length-set old i y ∙ length_marks f n))
    (λ k d below.
    let within : k < n = omega (arith, length_marks g n) in
    mark_at g n k d within ∙ elim (cases_eq k i) [
      | inl same ↦ (let inside : i < length old = omega (arith, same, length_marks f n) in
          subst (λ j. g j ≡ get_or (slice_set old i y) j d) (sym same) (here ∙ sym (get_or-set_same old i y d inside)))
      | inr ne ↦ other k within ne ∙ sym (get_or-set_other old i k y d ne ∙ mark_at f n k d within)
    ])

-- the first that passes, by its place
pub found_at : {X : Type 0} (p : X → Bool) (xs : List X) (d : X) (i : ℕ) → position p xs ≡ Some i → find p xs ≡ Some (get_or xs i d)
found_at p xs d i is =
    let at = cond_some (nat_lt (position_or_len p xs) (length xs)) (position_or_len p xs) i is in
    find_at p xs ∙ slice_get-get_or xs (position_or_len p xs) d (ltb-true (position_or_len p xs) (length xs) at.0) ∙ ap (λ k. Some (get_or xs k d)) at.1

pub not_found : {X : Type 0} (p : X → Bool) (xs : List X) → position p xs ≡ None → find p xs ≡ None
not_found p xs is = find_at p xs ∙ elim (cases_lt (position_or_len p xs) (length xs)) [
  | inl below ↦ absurd (none-some (position_or_len p xs) (sym is ∙ ap (λ b. cond b (Some (position_or_len p xs)) None) (lt-ltb _ _ below)))
  | inr past ↦ slice_get_past xs (position_or_len p xs) past
]

-- the first number that passes
pub first_number : (p : ℕ → Bool) (n s : ℕ) → s < n → p s ≡ true → ((k : ℕ) → k < s → p k ≡ false) → find p (range_with_len 0 n) ≡ Some s
first_number p n s within here before =
    let numbers = range_with_len 0 n in
    let value : (k : ℕ) → k < n → get_or numbers k 0 ≡ k = λ k below. get_or-range_with_len 0 n k 0 below ∙ zero-add k in
    let is : position_or_len p numbers ≡ s =
    position_or_len_is p numbers s 0 (omega (arith, length-range_with_len 0 n))
    (λ k below. ap p (value k (omega arith)) ∙ before k below)
    (λ _. ap p (value s within) ∙ here) in
    find_at p numbers ∙ ap (slice_get numbers) is ∙ slice_get-get_or numbers s 0 (omega (arith, length-range_with_len 0 n)) ∙ ap (λ k. Some k) (value s within)

pub no_number : (p : ℕ → Bool) (n : ℕ) → ((k : ℕ) → k < n → p k ≡ false) → find p (range_with_len 0 n) ≡ None
no_number p n none =
    let numbers = range_with_len 0 n in
    let is : position_or_len p numbers ≡ length numbers =
    position_or_len_is p numbers (length numbers) 0 (omega arith)
    (λ k below. let within : k < n = omega (arith, length-range_with_len 0 n) in ap p (get_or-range_with_len 0 n k 0 within ∙ zero-add k) ∙ none k within)
    (λ below. absurd (omega arith)) in
    find_at p numbers ∙ slice_get_past numbers (position_or_len p numbers) (omega (arith, is))
