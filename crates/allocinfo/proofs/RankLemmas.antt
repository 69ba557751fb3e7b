-- Rows in the order of what they hold: what `ranked` gives, and that nothing else is such an order.
use Rattle.std.proofs.Common.{◌≡◌, suc, zero, Bool, true, false, not, cond, List, [], ◌∷◌, All, filter, refl, sym, ap, ◌∙◌, subst, arith, ⊎_elim, add-one}
use Rattle.std.specs.Cmp.{IsStrictWeakOrder}
use Rattle.std.specs.List.Sorted.{IsPermutation, IsSortedBy, IsStableBy, ties}
use Rattle.std.proofs.lemmas.Bool.{cases_Bool, cond-true, cond-false, both_ways, and_parts, not-true}
use Rattle.std.proofs.lemmas.Bool.Decides.{nat_tests}
use Rattle.std.proofs.lemmas.List.Elements.{All-nil, All-cons, All-head, All-tail, All-weaker}
use Rattle.std.proofs.lemmas.List.Sorted.{sorted_far, IsPermutation-refl, IsPermutation-cons, IsPermutation-trans, IsPermutation-middle, IsPermutation-sym}
use Rattle.allocinfo.specs.declared.rows.Row.{Row}
use Rattle.allocinfo.specs.Rank.{holds_more, inserted, ranked, IsRanking}

-- no element is less than one before it, by recursion
abbrev pub Falls : {X : Type 0} → (X → X → Bool) → List X → Type 0
Falls lt [] = Unit {0}
Falls lt (x ∷ xs) = All (λ y. lt y x ≡ false) xs × Falls lt xs

module _ {X : Type 0} (lt : X → X → Bool) (order : IsStrictWeakOrder lt) where
  -- nothing is less than itself
  not_itself : (x : X) → lt x x ≡ false
  not_itself x = ⊎_elim (λ yes. order.one_way x x yes) (λ no. no) (cases_Bool (lt x x))

  tie : (x y : X) → lt x y ≡ false → lt y x ≡ false → ties lt x y ≡ true
  tie x y not_less not_more = rw (not_less, not_more) refl

  untied : (x y : X) → ties lt x y ≡ true → (lt x y ≡ false) × (lt y x ≡ false)
  untied x y t = let parts = and_parts (not (lt x y)) (not (lt y x)) t in (not-true (lt x y) parts.0, not-true (lt y x) parts.1)

  ties_itself : (x : X) → ties lt x x ≡ true
  ties_itself x = tie x x (not_itself x) (not_itself x)

  pub Falls-from_sorted : (xs : List X) → IsSortedBy lt xs → Falls lt xs
  Falls-from_sorted [] up = tt
  Falls-from_sorted (x ∷ xs) up = (
    λ k d l. sorted_far lt order (x ∷ xs) up 0 (suc k) d (omega arith) (omega arith),
    Falls-from_sorted xs (λ k d low high. rw add-one (rw add-one at (up (suc k) d (omega arith) (omega arith)))),
  )

  pub sorted_from_Falls : (xs : List X) → Falls lt xs → IsSortedBy lt xs
  sorted_from_Falls [] falls k d low high = absurd (omega arith)
  sorted_from_Falls (x ∷ xs) falls zero d low high = falls.0 0 d (omega arith)
  sorted_from_Falls (x ∷ xs) falls (suc k) d low high =
      rw add-one (rw add-one at (sorted_from_Falls xs falls.1 k d (omega arith) (omega arith)))

  -- what passes nothing keeps nothing
  filter_none : (p : X → Bool) (xs : List X) → All (λ x. p x ≡ false) xs → filter p xs ≡ []
  filter_none p [] all = refl
  filter_none p (x ∷ xs) all = cond-false _ _ _ (All-head (λ y. p y ≡ false) x xs all) ∙ filter_none p xs (All-tail (λ y. p y ≡ false) x xs all)

  -- where z is less than the first element, nothing in the list ties with z
  none_ties : (z y : X) (ys : List X) → Falls lt (y ∷ ys) → lt z y ≡ true → filter (ties lt z) (y ∷ ys) ≡ []
  none_ties z y ys falls less =
      filter_none (ties lt z) (y ∷ ys)
      (All-weaker (λ w. lt w y ≡ false) (λ w. ties lt z w ≡ false)
      (λ w above. ⊎_elim
      (λ t. absurd (both_ways (lt z y) (order.chain z w y (untied z w t).0 above) less))
      (λ f. f)
      (cases_Bool (ties lt z w)))
      (y ∷ ys) (All-cons (λ w. lt w y ≡ false) y ys (not_itself y) falls.0))

  first_kept : (x : X) (xs : List X) → filter (ties lt x) (x ∷ xs) ≡ x ∷ filter (ties lt x) xs
  first_kept x xs = cond-true _ _ _ (ties_itself x)

  -- two falling lists with the same ties in the same order are one list
  pub same_ranking : (ys zs : List X) → Falls lt ys → Falls lt zs → ((x : X) → filter (ties lt x) ys ≡ filter (ties lt x) zs) → ys ≡ zs
  same_ranking [] [] fy fz same = refl
  same_ranking [] (z ∷ zs) fy fz same = let e = same z ∙ first_kept z zs in absurd (cc e)
  same_ranking (y ∷ ys) [] fy fz same = let e = sym (same y) ∙ first_kept y ys in absurd (cc e)
  same_ranking (y ∷ ys) (z ∷ zs) fy fz same =
      let not_below : lt z y ≡ false =
      ⊎_elim
      (λ less. let e = sym (none_ties z y ys fy less) ∙ (same z ∙ first_kept z zs) in absurd (cc e))
      (λ f. f)
      (cases_Bool (lt z y)) in
      let not_above : lt y z ≡ false =
      ⊎_elim
      (λ less. let e = sym (none_ties y z zs fz less) ∙ (sym (same y) ∙ first_kept y ys) in absurd (cc e))
      (λ f. f)
      (cases_Bool (lt y z)) in
      let heads : y ∷ filter (ties lt y) ys ≡ z ∷ filter (ties lt y) zs =
      sym (first_kept y ys) ∙ (same y ∙ cond-true _ _ _ (tie y z not_above not_below)) in
      let first : y ≡ z = cc heads in
      let rest : (x : X) → filter (ties lt x) ys ≡ filter (ties lt x) zs = λ x.
      ⊎_elim
      (λ t.
      let e : y ∷ filter (ties lt x) ys ≡ z ∷ filter (ties lt x) zs =
      sym (cond-true _ _ _ t) ∙ (same x ∙ cond-true _ _ _ (subst (λ w. ties lt x w ≡ true) first t)) in
      cc e)
      (λ f. sym (cond-false _ _ _ f) ∙ (same x ∙ cond-false _ _ _ (subst (λ w. ties lt x w ≡ false) first f)))
      (cases_Bool (ties lt x y)) in
      let tails = same_ranking ys zs fy.1 fz.1 rest in
      cc (first, tails)

-- what holds more is an order in which rows may tie
pub holds_more-order : IsStrictWeakOrder holds_more
holds_more-order = record {
  one_way = λ x y h. grind (arith, nat_tests);
  chain = λ x y z h k. grind (arith, nat_tests);
}

module _ (row other : Row) (others : List Row) where
  inserted_after : holds_more other row ≡ true → inserted row (other ∷ others) ≡ other ∷ inserted row others
  unfolding inserted
  inserted_after more = cond-true _ _ _ more

  inserted_before : holds_more other row ≡ false → inserted row (other ∷ others) ≡ row ∷ other ∷ others
  unfolding inserted
  inserted_before more = cond-false _ _ _ more

All-inserted : (P : Row → Type 0) (row : Row) (rows : List Row) → P row → All P rows → All P (inserted row rows)
unfolding inserted
All-inserted P row [] here all = All-cons P row [] here all
All-inserted P row (other ∷ others) here all =
    ⊎_elim
    (λ more. subst (All P) (sym (inserted_after row other others more))
    (All-cons P other (inserted row others) (All-head P other others all) (All-inserted P row others here (All-tail P other others all))))
    (λ less. subst (All P) (sym (inserted_before row other others less)) (All-cons P row (other ∷ others) here all))
    (cases_Bool (holds_more other row))

Falls-inserted : (row : Row) (rows : List Row) → Falls holds_more rows → Falls holds_more (inserted row rows)
unfolding inserted
Falls-inserted row [] falls = (All-nil (λ y. holds_more y row ≡ false), tt)
Falls-inserted row (other ∷ others) falls =
    ⊎_elim
    (λ more. subst (Falls holds_more) (sym (inserted_after row other others more)) (
      All-inserted (λ y. holds_more y other ≡ false) row others (holds_more-order.one_way other row more) falls.0,
      Falls-inserted row others falls.1,
    ))
    (λ less. subst (Falls holds_more) (sym (inserted_before row other others less)) (
      All-cons (λ y. holds_more y row ≡ false) other others less
          (All-weaker (λ y. holds_more y other ≡ false) (λ y. holds_more y row ≡ false) (λ y h. holds_more-order.chain y other row h less) others falls.0),
      falls,
    ))
    (cases_Bool (holds_more other row))

-- two rows that tie with a third hold neither more
never_both : (x one other : Row) → holds_more one other ≡ true → ties holds_more x one ≡ true → ties holds_more x other ≡ false
never_both x one other more first =
    ⊎_elim
    (λ second.
    let a = untied holds_more holds_more-order x one first in
    let b = untied holds_more holds_more-order x other second in
    absurd (both_ways (holds_more one other) (holds_more-order.chain one x other a.1 b.0) more))
    (λ f. f)
    (cases_Bool (ties holds_more x other))

-- a row put in among others stands where it stood among those that it ties with
filter-inserted : (x row : Row) (rows : List Row) → filter (ties holds_more x) (inserted row rows) ≡ filter (ties holds_more x) (row ∷ rows)
unfolding inserted
filter-inserted x row [] = refl
filter-inserted x row (other ∷ others) =
    let p = ties holds_more x in
    ⊎_elim
    (λ more.
    ap (filter p) (inserted_after row other others more) ∙
    ⊎_elim
    (λ yes.
    let no = never_both x other row more yes in
    cond-true _ _ _ yes ∙ (ap (λ t. other ∷ t) (filter-inserted x row others ∙ cond-false _ _ _ no)
    ∙ (sym (cond-true _ _ _ yes) ∙ sym (cond-false _ _ _ no))))
    (λ no.
    let skip : filter p (other ∷ others) ≡ filter p others = cond-false _ _ _ no in
    cond-false _ _ _ no ∙ (filter-inserted x row others ∙ ap (λ t. cond (p row) (row ∷ t) t) (sym skip)))
    (cases_Bool (p other)))
    (λ less. ap (filter p) (inserted_before row other others less))
    (cases_Bool (holds_more other row))

IsPermutation-inserted : (row : Row) (rows : List Row) → IsPermutation (row ∷ rows) (inserted row rows)
unfolding inserted
IsPermutation-inserted row [] = IsPermutation-refl (row ∷ [])
IsPermutation-inserted row (other ∷ others) =
    ⊎_elim
    (λ more. subst (IsPermutation (row ∷ other ∷ others)) (sym (inserted_after row other others more))
    (IsPermutation-trans (row ∷ other ∷ others) (other ∷ row ∷ others) (other ∷ inserted row others)
    (IsPermutation-sym (other ∷ row ∷ others) (row ∷ other ∷ others) (IsPermutation-middle (other ∷ []) row others))
    (IsPermutation-cons other (row ∷ others) (inserted row others) (IsPermutation-inserted row others))))
    (λ less. subst (IsPermutation (row ∷ other ∷ others)) (sym (inserted_before row other others less)) (IsPermutation-refl (row ∷ other ∷ others)))
    (cases_Bool (holds_more other row))

pub Falls-ranked : (rows : List Row) → Falls holds_more (ranked rows)
unfolding ranked
Falls-ranked [] = tt
Falls-ranked (row ∷ rows) = Falls-inserted row (ranked rows) (Falls-ranked rows)

pub filter-ranked : (rows : List Row) (x : Row) → filter (ties holds_more x) (ranked rows) ≡ filter (ties holds_more x) rows
unfolding ranked
filter-ranked [] x = refl
filter-ranked (row ∷ rows) x =
    filter-inserted x row (ranked rows)
    ∙ ap (λ t. cond (ties holds_more x row) (row ∷ t) t) (filter-ranked rows x)

pub IsPermutation-ranked : (rows : List Row) → IsPermutation rows (ranked rows)
unfolding ranked
IsPermutation-ranked [] = IsPermutation-refl []
IsPermutation-ranked (row ∷ rows) =
    IsPermutation-trans (row ∷ rows) (row ∷ ranked rows) (inserted row (ranked rows))
    (IsPermutation-cons row rows (ranked rows) (IsPermutation-ranked rows))
    (IsPermutation-inserted row (ranked rows))

-- `ranked` gives a ranking
pub IsRanking-ranked : (rows : List Row) → IsRanking rows (ranked rows)
IsRanking-ranked rows = record {
  same_rows = IsPermutation-ranked rows;
  falls = sorted_from_Falls holds_more holds_more-order (ranked rows) (Falls-ranked rows);
  ties_stay = filter-ranked rows;
}

-- and there is no other ranking
pub ranked_from_sorted : (rows ranking : List Row) → IsSortedBy holds_more ranking → IsStableBy holds_more rows ranking → ranking ≡ ranked rows
ranked_from_sorted rows ranking falls stays =
    same_ranking holds_more holds_more-order ranking (ranked rows)
    (Falls-from_sorted holds_more holds_more-order ranking falls) (Falls-ranked rows)
    (λ x. stays x ∙ sym (filter-ranked rows x))
