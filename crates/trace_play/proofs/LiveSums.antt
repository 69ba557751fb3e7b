-- Sums over entries by rising key, when one is put or taken away.
use Rattle.std.proofs.Common.{◌≡◌, ℕ, ◌+◌, ◌≤◌, Bool, true, false, cond, not, T, eqb, List, [], ◌∷◌, Option, Some, None, nat_cmp, Less, Equal, Greater, is_lt, is_eq, eq-eqb, ne_eqb, refl, sym, ap, ◌∙◌, subst, arith}
use Rattle.std.specs.Prelude.{◌&&◌, sum_by}
use Rattle.std.specs.Cmp.{unsigned_tied}
use Rattle.std.specs.FinMap.Entries.{find, put, where_key, is_sorted, below_all, by_order}
use Rattle.std.proofs.lemmas.Cmp.{nat_cmp_total}
use Rattle.std.proofs.lemmas.Bool.{eqb-true, eqb-false}
use Rattle.std.proofs.lemmas.List.Sums.{sum_by-cons}
use Rattle.trace_play.proofs.Entries.{first_true, second_true, less, find_below}

module _ {X : Type 0} (weight : X → ℕ) where
  abbrev pub found_weight : Option X → ℕ
  found_weight None = 0
  found_weight (Some x) = weight x

  abbrev pub entries_sum : List (ℕ × X) → ℕ
  entries_sum es = sum_by (λ (e : ℕ × X). weight e.1) es

  entries_cons : (e : ℕ × X) (es : List (ℕ × X)) → entries_sum (e ∷ es) ≡ weight e.1 + entries_sum es
  entries_cons e es = sum_by-cons (λ (e : ℕ × X). weight e.1) e es

  below_less : (x y : ℕ) (es : List (ℕ × X)) → nat_cmp x y ≡ Less → T (below_all nat_cmp y es) → T (below_all nat_cmp x es)
  below_less x y [] p h = tt
  below_less x y (e ∷ es) p h = both_T _ _ (subst (λ r. T (is_lt r)) (sym (nat_cmp_total.trans x y e.0 p (less _ (first_true _ _ h)))) tt) (below_less x y es p (second_true _ _ h))
    where
      both_T : (a b : Bool) → T a → T b → T (a && b)
      both_T true b p q = q
      both_T false b p q = p

  pub sum_put : (key : ℕ) (x : X) (es : List (ℕ × X)) → T (is_sorted nat_cmp es) → entries_sum (put nat_cmp key x es) + found_weight (find nat_cmp key es) ≡ entries_sum es + weight x
  sum_put key x [] r = omega arith
  sum_put key x (e ∷ es) r =
      elim (nat_cmp key e.0) as (λ o. nat_cmp key e.0 ≡ o → entries_sum (by_order o ((key, x) ∷ e ∷ es) ((e.0, x) ∷ es) (e ∷ put nat_cmp key x es)) + found_weight (cond (is_eq o) (Some e.1) (find nat_cmp key es)) ≡ entries_sum (e ∷ es) + weight x) [
        | Less ↦ λ p. let none : found_weight (find nat_cmp key es) ≡ 0 = ap found_weight (find_below key es (below_less key e.0 es p (first_true _ _ r))) in omega (arith, entries_cons (key, x) (e ∷ es))
        | Equal ↦ λ p. omega (arith, entries_cons (e.0, x) es, entries_cons e es)
        | Greater ↦ λ p. omega (arith, entries_cons e (put nat_cmp key x es), entries_cons e es, sum_put key x es (second_true _ _ r))
      ] refl

  pub sum_without : (key : ℕ) (es : List (ℕ × X)) → T (is_sorted nat_cmp es) → entries_sum (where_key nat_cmp (λ other. not (eqb other key)) es) + found_weight (find nat_cmp key es) ≡ entries_sum es
  sum_without key [] r = refl
  sum_without key (e ∷ es) r = by (eqb e.0 key) refl (sum_without key es (second_true _ _ r))
    where
      by : (b : Bool) → eqb e.0 key ≡ b → entries_sum (where_key nat_cmp (λ other. not (eqb other key)) es) + found_weight (find nat_cmp key es) ≡ entries_sum es
          → entries_sum (cond (not b) (e ∷ where_key nat_cmp (λ other. not (eqb other key)) es) (where_key nat_cmp (λ other. not (eqb other key)) es)) + found_weight (cond (is_eq (nat_cmp key e.0)) (Some e.1) (find nat_cmp key es)) ≡ entries_sum (e ∷ es)
      by true t later =
          let same : e.0 ≡ key = eqb-true e.0 key t in
          let tied : is_eq (nat_cmp key e.0) ≡ true = unsigned_tied key e.0 ∙ ap (λ k. eqb key k) same ∙ eq-eqb key key refl in
          let none : find nat_cmp key es ≡ None = subst (λ k. find nat_cmp k es ≡ None) same (find_below e.0 es (first_true _ _ r)) in
          subst (λ b. entries_sum (where_key nat_cmp (λ other. not (eqb other key)) es) + found_weight (cond b (Some e.1) (find nat_cmp key es)) ≡ entries_sum (e ∷ es)) (sym tied)
          (omega (arith, entries_cons e es, ap found_weight none))
      by false t later =
          let tied : is_eq (nat_cmp key e.0) ≡ false = unsigned_tied key e.0 ∙ ne_eqb key e.0 (λ h. eqb-false e.0 key t (sym h)) in
          subst (λ b. entries_sum (e ∷ where_key nat_cmp (λ other. not (eqb other key)) es) + found_weight (cond b (Some e.1) (find nat_cmp key es)) ≡ entries_sum (e ∷ es)) (sym tied)
          (omega (arith, entries_cons e es, entries_cons e (where_key nat_cmp (λ other. not (eqb other key)) es)))

  -- an entry is one of them
  pub sum_found : (key : ℕ) (es : List (ℕ × X)) → T (is_sorted nat_cmp es) → found_weight (find nat_cmp key es) ≤ entries_sum es
  sum_found key es r = let s = sum_without key es r in omega arith
