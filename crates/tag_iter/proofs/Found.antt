-- The first place above the last one: in a range, and in range after range.
use Rattle.std.proofs.Common.{◌≡◌, ℕ, zero, suc, ◌+◌, ◌<◌, ◌≤◌, Bool, true, false, cond, List, [], ◌∷◌, ◌++◌, map, filter, find, flat_map, drop, drop-cons, slice_get, is_some, Option, None, Some, nat_le, refl, sym, ap, ap₂, ◌∙◌, arith, append-nil, ⊎_elim, le-leb, leb-true}
use Rattle.std.specs.List.{range_with_len}
use Rattle.std.specs.Option.{option_or}
use Rattle.std.proofs.lemmas.Bool.{cond-true, cond-false, cases_lt, false_from_ne_true}
use Rattle.std.proofs.lemmas.List.Folds.{find-append}
use Rattle.std.proofs.lemmas.Grind.{flat_map-append}
use Rattle.std.proofs.lemmas.Option.{get_or_from_slice_get, slice_get_within}
use Rattle.module_area.specs.declared.entry.Entry.{Entry}
use Rattle.module_area.specs.declared.entry.State.{State}
use Rattle.module_area.specs.declared.entry.State.TheVariants.{Loaded, Dead}
use Rattle.tag_section.specs.Section.{Section}
use Rattle.reclaim.specs.State.{LockedShown}
use Rattle.tag_iter.specs.Places.{next_place, is_above, is_in, kernel_range, places_among, places_in, range_of, ranges_in, found_in}
use Rattle.tag_iter.specs.declared.iter.TagIter.{TagIter}
use Rattle.tag_iter.specs.declared.place.TagPlace.{TagPlace}

-- ---- in one range

module _ {X : Type 0} (p : X → Bool) (f : ℕ → X) where
  pub find_none : (a n : ℕ) → ((i : ℕ) → a ≤ i → i < a + n → p (f i) ≡ false) → find p (map f (range_with_len a n)) ≡ None
  find_none a zero fails = refl
  find_none a (suc n) fails = cond-false _ _ _ (fails a (omega arith) (omega arith)) ∙ find_none (a + 1) n (λ i more inside. fails i (omega arith) (omega arith))

  -- where those pass that are no less than the first
  module _ (first : ℕ) (passes : (i : ℕ) → p (f i) ≡ nat_le first i) where
    below : (i : ℕ) → i < first → p (f i) ≡ false
    below i less = passes i ∙ false_from_ne_true (nat_le first i) (λ is. omega (arith, leb-true first i is))

    pub find_past : (a n : ℕ) → a + n ≤ first → find p (map f (range_with_len a n)) ≡ None
    find_past a n past = find_none a n (λ i more inside. below i (omega arith))

    pub find_there : (a n : ℕ) → a ≤ first → first < a + n → find p (map f (range_with_len a n)) ≡ Some (f first)
    find_there a zero from inside = absurd (omega arith)
    find_there a (suc n) from inside =
        ⊎_elim
        (λ less. cond-false _ _ _ (below a less) ∙ find_there (a + 1) n (omega arith) (omega arith))
        (λ least. let same : a ≡ first = omega arith in cond-true _ _ _ (passes a ∙ le-leb first a least) ∙ ap (λ i. Some (f i)) same)
        (cases_lt a first)

-- ---- in the ranges of entries

-- the first one's, and else those of the later ones
first_or_later : (last : Option TagPlace) (state : State) (e : Entry) (later : List Entry)
    → found_in last state (e ∷ later) ≡ option_or (found_in last state (e ∷ [])) (found_in last state later)
first_or_later last state e later = by_state (is_in state e)
  where
    places : List Entry → List TagPlace
    places es = flat_map places_in (map range_of es)

    by_state : (b : Bool) → find (is_above last) (places (cond b (e ∷ filter (is_in state) later) (filter (is_in state) later)))
        ≡ option_or (find (is_above last) (places (cond b (e ∷ []) []))) (found_in last state later)
    by_state false = refl
    by_state true =
        find-append (is_above last) (places_in (range_of e)) (places (filter (is_in state) later))
        ∙ ap (λ ps. option_or (find (is_above last) ps) (found_in last state later)) (sym (append-nil (places_in (range_of e))))

-- the entries from a place on
from_place : (entries : List Entry) (place : ℕ) (e : Entry) → slice_get entries place ≡ Some e → drop place entries ≡ e ∷ drop (place + 1) entries
from_place entries place e there =
    let next : suc place ≡ place + 1 = omega arith in
    drop-cons entries place e (slice_get_within entries place e there)
    ∙ ap₂ (λ x n. x ∷ drop n entries) (get_or_from_slice_get entries place e e there) next

at_place : (last : Option TagPlace) (state : State) (entries : List Entry) (place : ℕ) (e : Entry) → slice_get entries place ≡ Some e
    → found_in last state (drop place entries) ≡ option_or (found_in last state (e ∷ [])) (found_in last state (drop (place + 1) entries))
at_place last state entries place e there = ap (found_in last state) (from_place entries place e there) ∙ first_or_later last state e (drop (place + 1) entries)

-- where something is found at a place, it is what is found from there on; where nothing is, the later places tell
pub found_here : (last : Option TagPlace) (state : State) (entries : List Entry) (place : ℕ) (e : Entry) (found : Option TagPlace) → slice_get entries place ≡ Some e
    → found ≡ found_in last state (e ∷ []) → is_some found ≡ true → found ≡ found_in last state (drop place entries)
found_here last state entries place e None there is some = absurd (cc some)
found_here last state entries place e (Some found) there is some =
    sym (at_place last state entries place e there ∙ ap (λ o. option_or o (found_in last state (drop (place + 1) entries))) (sym is))

pub found_later : (last : Option TagPlace) (state : State) (entries : List Entry) (place : ℕ) (e : Entry) (found : Option TagPlace) → slice_get entries place ≡ Some e
    → found ≡ found_in last state (e ∷ []) → is_some found ≡ false → found_in last state (drop (place + 1) entries) ≡ found_in last state (drop place entries)
found_later last state entries place e (Some found) there is none = absurd (cc none)
found_later last state entries place e None there is none =
    sym (at_place last state entries place e there ∙ ap (λ o. option_or o (found_in last state (drop (place + 1) entries))) (sym is))

-- ---- in all ranges of a walk

found_among : (last : Option TagPlace) (all : Bool) (sections : List Section) (entries : List Entry)
    → find (is_above last) (places_among all sections entries)
    ≡ option_or (find (is_above last) (places_in (kernel_range sections))) (option_or (found_in last Loaded entries) (cond all (found_in last Dead entries) None))
found_among last all sections entries =
    find-append (is_above last) (places_in (kernel_range sections)) (flat_map places_in (ranges_in Loaded entries ++ cond all (ranges_in Dead entries) []))
    ∙ ap (option_or (find (is_above last) (places_in (kernel_range sections))))
    (ap (find (is_above last)) (flat_map-append places_in (ranges_in Loaded entries) (cond all (ranges_in Dead entries) []))
    ∙ find-append (is_above last) (flat_map places_in (ranges_in Loaded entries)) (flat_map places_in (cond all (ranges_in Dead entries) []))
    ∙ ap (option_or (found_in last Loaded entries)) (dead all))
  where
    dead : (b : Bool) → find (is_above last) (flat_map places_in (cond b (ranges_in Dead entries) [])) ≡ cond b (found_in last Dead entries) None
    dead true = refl
    dead false = refl

-- so where it is known what the kernel's range and the loaded ones give
pub found_on : (iter : TagIter) (l : LockedShown) (kernel loaded : Option TagPlace) → kernel ≡ find (is_above iter.last) (places_in (kernel_range l.sections)) → loaded ≡ found_in iter.last Loaded l.area.entries
    → option_or kernel (option_or loaded (cond iter.all (found_in iter.last Dead l.area.entries) None)) ≡ next_place iter l
found_on iter l kernel loaded from_kernel from_loaded =
    ap₂ (λ k m. option_or k (option_or m (cond iter.all (found_in iter.last Dead l.area.entries) None))) from_kernel from_loaded
    ∙ sym (found_among iter.last iter.all l.sections l.area.entries)
