-- The search for the least start: where it may stop, and how far it may go on.
use Rattle.std.proofs.Common.{◌≡◌, ◌≢◌, ℕ, zero, suc, ◌+◌, ◌<◌, ◌≤◌, ◌⊎◌, inl, inr, nat_le, Bool, true, false, not, cond, List, [], ◌∷◌, Option, Some, None, find, All, Contains, refl, ap, ◌∙◌, subst, arith, ⊎_elim, leb-true, le-leb}
use Rattle.std.specs.List.{list_any, range_with_len}
use Rattle.std.proofs.lemmas.Bool.{and_parts, and_from, both_ways, cases_eq, cases_lt, cond-true, cond-false, false_from_ne_true, ltb-true, lt-ltb, not-true, or_from, or_parts}
use Rattle.module_area.specs.declared.entry.Entry.{Entry}
use Rattle.module_area.specs.Entries.{IsFree, IsMet, meets}
use Rattle.module_area.specs.Area.{Area, LiesIn, IsLeastStart, HasNoRoom, IsBook, is_free_at, least_start}
use Rattle.module_area.proofs.EntryLemmas.{find_some, find_none}

-- where no range has one of the tags, they are free
pub free_from_none : (entries : List Entry) (start size : ℕ) → find (λ entry. meets entry start size) entries ≡ None → IsFree entries start size
free_from_none entries start size none tag low high covered =
    let entry = covered.1 in
    let misses = subst (λ (e : Entry). meets e start size ≡ false) covered.3 (find_none (λ e. meets e start size) entries none covered.0 entry covered.2) in
    let inside = covered.4 in
    let before : entry.start < start + size = omega arith in
    let after : start < entry.start + entry.length = omega arith in
    both_ways (meets entry start size) misses (and_from _ _ (lt-ltb _ _ before) (lt-ltb _ _ after))

-- an entry has one of the tags from start on: it has one of as many tags from each later start on, up to its end
pub met_later : (entries : List Entry) (entry : Entry) (start size other : ℕ) → Contains entries entry → meets entry start size ≡ true
    → 1 ≤ entry.length → 1 ≤ size → start ≤ other → other < entry.start + entry.length → IsMet entries other size
met_later entries entry start size other there meeting some_tags some later before_end =
    let parts = and_parts _ _ meeting in
    let before : entry.start < start + size = ltb-true _ _ parts.0 in
    ⊎_elim
    (λ less. (entry.start, omega arith, omega arith, (there.0, entry, there.1, there.2, (omega arith, omega arith))))
    (λ more. (other, omega arith, omega arith, (there.0, entry, there.1, there.2, (omega arith, omega arith))))
    (cases_lt other entry.start)

-- what is known of the entry that was found
pub record Found (area : Area) (start size : ℕ) (entry : Entry) : Type 0 where
  pub there : Contains area.entries entry
  pub meeting : meets entry start size ≡ true
  pub some_tags : 1 ≤ entry.length
  pub later : start < entry.start + entry.length
  pub from_first : area.first ≤ entry.start
  pub to_end : entry.start + entry.length ≤ area.first + area.tags

pub found : (area : Area) (start size : ℕ) (entry : Entry) → IsBook area → find (λ e. meets e start size) area.entries ≡ Some entry
    → Found area start size entry
found area start size entry book is_found =
    let h = find_some (λ e. meets e start size) area.entries entry is_found in
    let at : (P : Entry → Type 0) → All P area.entries → P entry = λ P all. subst P h.0.2 (all h.0.0 entry h.0.1) in
    let lies = at (λ e. LiesIn area e.start e.length) book.in_area in
    record {
      there = h.0;
      meeting = h.1;
      some_tags = at (λ e. 1 ≤ e.length) book.some_tags;
      later = ltb-true _ _ (and_parts _ _ h.1).1;
      from_first = lies.0;
      to_end = lies.1;
    }

-- each smaller start has a covered tag: so has each start before the end of the entry that was found
pub met_before : (area : Area) (start size : ℕ) (entry : Entry) → Found area start size entry → 1 ≤ size
    → ((other : ℕ) → other < start → LiesIn area other size → IsMet area.entries other size)
    → (other : ℕ) → other < entry.start + entry.length → LiesIn area other size → IsMet area.entries other size
met_before area start size entry f some smaller other before_end lies =
    ⊎_elim
    (λ less. smaller other less lies)
    (λ more. met_later area.entries entry start size other f.there f.meeting f.some_tags some more before_end)
    (cases_lt other start)

-- where there is a least start, there is room
pub room_at_start : (area : Area) (size start : ℕ) → IsLeastStart area size start → ¬ HasNoRoom area size
room_at_start area size start least none =
    let met = none start least.lies in
    least.free met.0 met.1 met.2 met.3

-- ---- the first number of a range that passes a test

find_first : (p : ℕ → Bool) (low n k : ℕ) → low ≤ k → k < low + n → p k ≡ true → ((j : ℕ) → low ≤ j → j < k → p j ≡ false) → find p (range_with_len low n) ≡ Some k
find_first p low zero k above below passes before = absurd (omega arith)
find_first p low (suc n) k above below passes before = go (cases_eq low k) (λ more. find_first p (low + 1) n k (omega arith) (omega arith) passes (λ j h. before j (omega arith)))
  where
    go : (low ≡ k) ⊎ (low ≢ k) → (low ≢ k → find p (range_with_len (low + 1) n) ≡ Some k) → find p (range_with_len low (suc n)) ≡ Some k
    go (inl same) later = cond-true (p low) (Some low) (find p (range_with_len (low + 1) n)) (ap p same ∙ passes) ∙ ap (λ j. Some j) same
    go (inr other) later = cond-false (p low) (Some low) (find p (range_with_len (low + 1) n)) (before low (omega arith) (omega arith)) ∙ later other

find_nothing : (p : ℕ → Bool) (low n : ℕ) → ((j : ℕ) → low ≤ j → p j ≡ false) → find p (range_with_len low n) ≡ None
find_nothing p low zero none = refl
find_nothing p low (suc n) none = cond-false (p low) (Some low) (find p (range_with_len (low + 1) n)) (none low (omega arith)) ∙ find_nothing p (low + 1) n (λ j h. none j (omega arith))

pub find_unmet : {X : Type 0} (p : X → Bool) (xs : List X) → list_any p xs ≡ false → find p xs ≡ None
find_unmet p [] e = refl
find_unmet p (x ∷ xs) e = let both = or_parts (p x) (list_any p xs) e in cond-false (p x) (Some x) (find p xs) both.0 ∙ find_unmet p xs both.1

-- ---- the least start

none_meets : {X : Type 0} (p : X → Bool) (xs : List X) → find p xs ≡ None → list_any p xs ≡ false
none_meets p [] e = refl
none_meets p (x ∷ xs) e = go (p x) refl e (λ later. none_meets p xs later)
  where
    go : (b : Bool) → p x ≡ b → cond b (Some x) (find p xs) ≡ None → (find p xs ≡ None → list_any p xs ≡ false) → list_any p (x ∷ xs) ≡ false
    go true is e later = absurd (cc)
    go false is e later = or_from _ _ is (later e)

-- free tags are met by no entry
free_unmet : (area : Area) (size start : ℕ) → IsBook area → 1 ≤ size → IsFree area.entries start size → list_any (λ e. meets e start size) area.entries ≡ false
free_unmet area size start book some free = go (find (λ e. meets e start size) area.entries) refl
  where
    go : (o : Option Entry) → find (λ e. meets e start size) area.entries ≡ o → list_any (λ e. meets e start size) area.entries ≡ false
    go None is = none_meets (λ e. meets e start size) area.entries is
    go (Some e) is =
        let f = found area start size e book is in
        let met : IsMet area.entries start size = met_later area.entries e start size start f.there f.meeting f.some_tags some (omega arith) f.later in
        absurd (free met.0 met.1 met.2 met.3)

-- a start whose tags are met is not free
met_not_free : (area : Area) (size start : ℕ) → area.first ≤ start → (LiesIn area start size → IsMet area.entries start size) → is_free_at area size start ≡ false
met_not_free area size start low meets_one = false_from_ne_true (is_free_at area size start) (λ free.
    let both = and_parts (nat_le (start + size) (area.first + area.tags)) (not (list_any (λ e. meets e start size) area.entries)) free in
    let met : IsMet area.entries start size = meets_one (low, leb-true _ _ both.0) in
    free_from_none area.entries start size (find_unmet (λ e. meets e start size) area.entries (not-true _ both.1)) met.0 met.1 met.2 met.3)

pub least_start_is : (area : Area) (size start : ℕ) → IsBook area → 1 ≤ size → IsLeastStart area size start → least_start area size ≡ Some start
least_start_is area size start book some least =
    find_first (is_free_at area size) area.first (area.tags + 1) start least.lies.0 (omega (arith, least.lies.1))
    (and_from _ _ (le-leb (start + size) (area.first + area.tags) least.lies.1) (ap not (free_unmet area size start book some least.free)))
    (λ other low below. met_not_free area size other low (least.least other below))

pub no_least_start : (area : Area) (size : ℕ) → HasNoRoom area size → least_start area size ≡ None
no_least_start area size none = find_nothing (is_free_at area size) area.first (area.tags + 1) (λ start low. met_not_free area size start low (none start))
