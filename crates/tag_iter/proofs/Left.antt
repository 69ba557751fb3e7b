-- What stands above the last place, in a list that rises.
use Rattle.std.proofs.Common.{◌≡◌, ℕ, zero, suc, Bool, true, false, List, [], ◌∷◌, ◌++◌, filter, find, take, replicate, All, AllPairs, Option, None, Some, MatchOption, option_to_list, refl, sym, ap, ◌∙◌, subst, arith, ⊎_elim, true≢false}
use Rattle.std.proofs.lemmas.Bool.{cases_Bool, cond-true, cond-false, false_from_ne_true}
use Rattle.std.proofs.lemmas.Option.{same_Some}
use Rattle.std.proofs.lemmas.List.Elements.{All-nil, All-cons, All-head, All-tail, All-weaker, Contains-append_right}
use Rattle.reclaim.specs.State.{IsLocked, LockedShown}
use Rattle.tag_iter.specs.Places.{IsAbove, IsBefore, IsLeastAbove, NoneAbove, after_place, fresh_iter, is_above, is_before, next_place, places_of}
use Rattle.tag_iter.specs.Walks.{given, places_left}
use Rattle.tag_iter.specs.declared.iter.TagIter.{TagIter}
use Rattle.tag_iter.specs.declared.place.TagPlace.{TagPlace}
use Rattle.tag_iter.proofs.Order.{Rises, AllPairs-from_Rises, above_chain, before_itself, not_both}
use Rattle.tag_iter.proofs.Rising.{they_rise}

-- ---- a list, and what passes a test of it

module _ {X : Type 0} (p : X → Bool) where
  -- what is found passes, and it is one of the list
  found_passes : (xs : List X) (x : X) → find p xs ≡ Some x → p x ≡ true
  found_passes [] x is = absurd (cc)
  found_passes (y ∷ ys) x is =
      ⊎_elim
      (λ yes. subst (λ z. p z ≡ true) (same_Some y x (sym (cond-true _ _ _ yes) ∙ is)) yes)
      (λ no. found_passes ys x (sym (cond-false _ _ _ no) ∙ is))
      (cases_Bool (p y))

  found_is_of : (Q : X → Type 0) (xs : List X) (x : X) → All Q xs → find p xs ≡ Some x → Q x
  found_is_of Q [] x all is = absurd (cc)
  found_is_of Q (y ∷ ys) x all is =
      ⊎_elim
      (λ yes. subst Q (same_Some y x (sym (cond-true _ _ _ yes) ∙ is)) (All-head Q y ys all))
      (λ no. found_is_of Q ys x (All-tail Q y ys all) (sym (cond-false _ _ _ no) ∙ is))
      (cases_Bool (p y))

  -- where nothing is found all fail
  all_fail : (xs : List X) → find p xs ≡ None → All (λ x. p x ≡ false) xs
  all_fail [] is = All-nil (λ x. p x ≡ false)
  all_fail (y ∷ ys) is =
      ⊎_elim
      (λ yes. absurd (cc (sym (cond-true _ _ _ yes) ∙ is)))
      (λ no. All-cons (λ x. p x ≡ false) y ys no (all_fail ys (sym (cond-false _ _ _ no) ∙ is)))
      (cases_Bool (p y))

  filter_none : (xs : List X) → All (λ x. p x ≡ false) xs → filter p xs ≡ []
  filter_none [] all = refl
  filter_none (x ∷ xs) all = cond-false _ _ _ (All-head (λ y. p y ≡ false) x xs all) ∙ filter_none xs (All-tail (λ y. p y ≡ false) x xs all)

  filter_all : (xs : List X) → All (λ x. p x ≡ true) xs → filter p xs ≡ xs
  filter_all [] all = refl
  filter_all (x ∷ xs) all = cond-true _ _ _ (All-head (λ y. p y ≡ true) x xs all) ∙ ap (λ ys. x ∷ ys) (filter_all xs (All-tail (λ y. p y ≡ true) x xs all))

-- ---- the first place above the last one is the least

least : (last : Option TagPlace) (xs : List TagPlace) (x : TagPlace) → Rises IsBefore xs → find (is_above last) xs ≡ Some x → IsLeastAbove last xs x
least last [] x rises is = absurd (cc)
least last (y ∷ ys) x rises is = ⊎_elim here (later (least last ys x rises.1)) (cases_Bool (is_above last y))
  where
    Least : TagPlace → TagPlace → Type 0
    Least place other = IsAbove last other → ¬ IsBefore other place

    here : is_above last y ≡ true → IsLeastAbove last (y ∷ ys) x
    here passes =
        subst (IsLeastAbove last (y ∷ ys)) (same_Some y x (sym (cond-true _ _ _ passes) ∙ is))
        (record {
          one_of = (0, omega arith, refl);
          above = passes;
          least = All-cons (Least y) y ys (λ above. before_itself y) (All-weaker (IsBefore y) (Least y) (λ z before above. not_both y z before) ys rises.0);
        })

    later : (find (is_above last) ys ≡ Some x → IsLeastAbove last ys x) → is_above last y ≡ false → IsLeastAbove last (y ∷ ys) x
    later among fails =
        let rest = among (sym (cond-false _ _ _ fails) ∙ is) in
        record {
          one_of = Contains-append_right (y ∷ []) ys x rest.one_of;
          above = rest.above;
          least = All-cons (Least x) y ys (λ above. absurd (true≢false (sym above ∙ fails))) rest.least;
        }

pub next_is_least : (iter : TagIter) (l : LockedShown) (next : Option TagPlace) → IsLocked l → next ≡ next_place iter l
    → MatchOption next (NoneAbove iter.last (places_of iter.all l)) (IsLeastAbove iter.last (places_of iter.all l))
next_is_least iter l None locked is =
    let places = places_of iter.all l in
    All-weaker (λ x. is_above iter.last x ≡ false) (λ x. ¬ IsAbove iter.last x) (λ x no above. true≢false (sym above ∙ no)) places (all_fail (is_above iter.last) places (sym is))
next_is_least iter l (Some place) locked is = least iter.last (places_of iter.all l) place (they_rise iter.all l locked) (sym is)

-- ---- what is left

first_left : (last : Option TagPlace) (xs : List TagPlace) (x : TagPlace) → Rises IsBefore xs → find (is_above last) xs ≡ Some x → filter (is_above last) xs ≡ x ∷ filter (is_before x) xs
first_left last [] x rises is = absurd (cc)
first_left last (y ∷ ys) x rises is = ⊎_elim here (later (first_left last ys x rises.1)) (cases_Bool (is_above last y))
  where
    here : is_above last y ≡ true → filter (is_above last) (y ∷ ys) ≡ x ∷ filter (is_before x) (y ∷ ys)
    here passes =
        subst (λ z. filter (is_above last) (y ∷ ys) ≡ z ∷ filter (is_before z) (y ∷ ys)) (same_Some y x (sym (cond-true _ _ _ passes) ∙ is))
        (cond-true _ _ _ passes
        ∙ ap (λ zs. y ∷ zs)
        (filter_all (is_above last) ys (All-weaker (IsBefore y) (λ z. is_above last z ≡ true) (λ z before. above_chain last y z passes before) ys rises.0)
        ∙ sym (cond-false _ _ _ (false_from_ne_true (is_before y y) (before_itself y)) ∙ filter_all (is_before y) ys rises.0)))

    later : (find (is_above last) ys ≡ Some x → filter (is_above last) ys ≡ x ∷ filter (is_before x) ys) → is_above last y ≡ false
        → filter (is_above last) (y ∷ ys) ≡ x ∷ filter (is_before x) (y ∷ ys)
    later among fails =
        let is_later = sym (cond-false _ _ _ fails) ∙ is in
        let after = found_is_of (is_above last) (IsBefore y) ys x rises.0 is_later in
        cond-false _ _ _ fails ∙ among is_later
        ∙ ap (λ zs. x ∷ zs) (sym (cond-false _ _ _ (false_from_ne_true (is_before x y) (not_both y x after))))

-- the next place and the iterator after it, where it is known which it is
abbrev StepFrom : TagIter → LockedShown → Option TagPlace → Type 0
StepFrom iter l next = MatchOption next (places_left iter l ≡ []) (λ place. places_left iter l ≡ place ∷ places_left (after_place iter next) l)

step_to : (iter : TagIter) (l : LockedShown) (next : Option TagPlace) → IsLocked l → next_place iter l ≡ next → StepFrom iter l next
step_to iter l None locked is = let places = places_of iter.all l in filter_none (is_above iter.last) places (all_fail (is_above iter.last) places is)
step_to iter l (Some place) locked is = first_left iter.last (places_of iter.all l) place (they_rise iter.all l locked) is

pub step_left : (iter : TagIter) (l : LockedShown) → IsLocked l
    → MatchOption (next_place iter l) (places_left iter l ≡ []) (λ place. places_left iter l ≡ place ∷ places_left (after_place iter (next_place iter l)) l)
step_left iter l locked = step_to iter l (next_place iter l) locked refl

-- ---- many steps

none_more : (n : ℕ) (xs : List TagPlace) → xs ≡ [] → take n xs ≡ take (suc n) xs
none_more zero [] none = refl
none_more (suc n) [] none = refl
none_more n (x ∷ xs) none = absurd (cc none)

steps_give : (steps : ℕ) (iter : TagIter) (l : LockedShown) → IsLocked l → given iter (replicate steps l) ≡ take steps (places_left iter l)
steps_give zero iter l locked = refl
steps_give (suc steps) iter l locked = go (next_place iter l) (steps_give steps (after_place iter (next_place iter l)) l locked) (step_left iter l locked)
  where
    go : (next : Option TagPlace) → given (after_place iter next) (replicate steps l) ≡ take steps (places_left (after_place iter next) l) → StepFrom iter l next
        → option_to_list next ++ given (after_place iter next) (replicate steps l) ≡ take (suc steps) (places_left iter l)
    go None rest none = rest ∙ none_more steps (places_left iter l) none
    go (Some place) rest first = ap (λ places. place ∷ places) rest ∙ ap (take (suc steps)) (sym first)

pub walk_gives : (all : Bool) (l : LockedShown) (steps : ℕ) → IsLocked l → given (fresh_iter all) (replicate steps l) ≡ take steps (places_of all l)
walk_gives all l steps locked =
    steps_give steps (fresh_iter all) l locked
    ∙ ap (take steps) (filter_all (is_above None) (places_of all l) (λ k d inside. refl))

abbrev Given : TagIter → List LockedShown → Type 0
Given iter lists = All (λ place. is_above iter.last place ≡ true) (given iter lists) × Rises IsBefore (given iter lists)

given_rise : (iter : TagIter) (lists : List LockedShown) → Given iter lists
given_rise iter [] = (All-nil (λ place. is_above iter.last place ≡ true), tt)
given_rise iter (l ∷ later) = go (next_place iter l) refl (given_rise (after_place iter (next_place iter l)) later)
  where
    go : (next : Option TagPlace) → next_place iter l ≡ next → Given (after_place iter next) later
        → All (λ place. is_above iter.last place ≡ true) (option_to_list next ++ given (after_place iter next) later)
        × Rises IsBefore (option_to_list next ++ given (after_place iter next) later)
    go None is rest = rest
    go (Some place) is rest =
        let above = found_passes (is_above iter.last) (places_of iter.all l) place is in
        let others = given (after_place iter (Some place)) later in (
          All-cons (λ other. is_above iter.last other ≡ true) place others above
              (All-weaker (IsBefore place) (λ other. is_above iter.last other ≡ true) (λ other before. above_chain iter.last place other above before) others rest.0),
          (rest.0, rest.1),
        )

pub they_rise_on : (iter : TagIter) (lists : List LockedShown) → AllPairs IsBefore (given iter lists)
they_rise_on iter lists = AllPairs-from_Rises IsBefore (given iter lists) (given_rise iter lists).1

pub places_rise : (all : Bool) (l : LockedShown) → IsLocked l → AllPairs IsBefore (places_of all l)
places_rise all l locked = AllPairs-from_Rises IsBefore (places_of all l) (they_rise all l locked)
