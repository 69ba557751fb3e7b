-- Live lists: what is on one once a place holds something else, and what it holds in all.
use Rattle.std.proofs.Common.{◌≡◌, ◌≢◌, ℕ, ◌+◌, ◌<◌, ◌≤◌, ◌==◌, not, Bool, true, false, cond, T, ◌&&◌, [], ◌∷◌, Some, None, sum_by, count_by, IsTrue, unwrap_or, refl, ap, sym, ◌∙◌, subst, arith}
use Rattle.std.proofs.lemmas.Grind.{common_steps}
use Rattle.std.proofs.lemmas.Cmp.{nat_cmp_total}
use Rattle.std.proofs.lemmas.List.Sums.{sum_by-cons}
use Rattle.std.specs.Cmp.{ranks}
use Rattle.std.specs.Ordering.{nat_cmp, MatchOrdering, is_lt, is_eq}
use Rattle.std.specs.declared.cmp.Ordering.{Ordering}
use Rattle.std.specs.declared.cmp.Ordering.TheVariants.{Less, Equal, Greater}
use Rattle.std.specs.FinMap.Entries.{put, find, is_sorted, below_all, by_order, is_sorted-put, is_sorted-where_key, find-put, find-where_key}
use Rattle.tag_model.specs.declared.state.Held.{Held}
use Rattle.tag_model.specs.declared.state.Held.TheVariants as held
use Rattle.tag_model.specs.declared.state.Kind.{Kind}
use Rattle.tag_model.specs.Reference.{held_counts, live_total}
use Rattle.tag_model.specs.ListMachine.{Live, in_order, held_at, without, with_held}

ranked : (x y : ℕ) (r : Ordering) → nat_cmp x y ≡ r → MatchOrdering r (x < y) (x ≡ y) (y < x)
ranked x y r e = subst (λ o. MatchOrdering o (x < y) (x ≡ y) (y < x)) e (ranks x y)

left : (a b : Bool) → T (a && b) → T a
left true b h = tt
left false b h = absurd h

right : (a b : Bool) → T (a && b) → T b
right true b h = h
right false b h = absurd h

is_below : (k x : ℕ) → T (is_lt (nat_cmp k x)) → k < x
is_below k x h = elim (nat_cmp k x) as (λ o. nat_cmp k x ≡ o → T (is_lt o) → k < x) [
  | Less ↦ λ e _. ranked k x Less e
  | Equal ↦ λ e h. absurd h
  | Greater ↦ λ e h. absurd h
] refl h

apart_by : (k x : ℕ) → k < x → is_eq (nat_cmp k x) ≡ false
apart_by k x h = elim (nat_cmp k x) as (λ o. nat_cmp k x ≡ o → is_eq o ≡ false) [
  | Less ↦ λ e. refl
  | Equal ↦ λ e. absurd (omega (arith, h, ranked k x Equal e))
  | Greater ↦ λ e. refl
] refl

-- ---- a place below all others isn't on the list

none_below : (k low : ℕ) (es : Live) → k ≤ low → T (below_all nat_cmp low es) → find nat_cmp k es ≡ None
none_below k low [] le h = refl
none_below k low (e ∷ es) le h =
    let above = is_below low e.0 (left _ _ h) in
    ap (λ b. cond b (Some e.1) (find nat_cmp k es)) (apart_by k e.0 (omega (arith, le, above))) ∙ none_below k low es le (right _ _ h)

-- ---- what the list holds in all

pub total : (Held → ℕ) → Live → ℕ
total f es = sum_by (λ (e : ℕ × Held). f e.1) es

total-cons : (f : Held → ℕ) (e : ℕ × Held) (es : Live) → total f (e ∷ es) ≡ f e.1 + total f es
unfolding total
total-cons f e es = sum_by-cons (λ (e : ℕ × Held). f e.1) e es

total-nil : (f : Held → ℕ) → total f [] ≡ 0
unfolding total
total-nil f = refl

-- a place that gets this: what it held before goes, and this comes
put_totals : (f : Held → ℕ) → f held.None ≡ 0 → (k : ℕ) (h : Held) (es : Live) → T (in_order es) → total f (put nat_cmp k h es) + f (held_at k es) ≡ total f es + f h
put_totals f zero k h [] o = omega (arith, total-cons f (k, h) [], total-nil f, zero)
put_totals f zero k h (e ∷ es) o =
    let later : total f (put nat_cmp k h es) + f (held_at k es) ≡ total f es + f h = put_totals f zero k h es (right (below_all nat_cmp e.0 es) (is_sorted nat_cmp es) o) in
    elim (nat_cmp k e.0) as (λ r. nat_cmp k e.0 ≡ r → total f (by_order r ((k, h) ∷ e ∷ es) ((e.0, h) ∷ es) (e ∷ put nat_cmp k h es)) + f (unwrap_or (cond (is_eq r) (Some e.1) (find nat_cmp k es)) held.None) ≡ total f (e ∷ es) + f h) [
      | Less ↦ λ r.
          let gone : f (held_at k es) ≡ 0 = ap (λ found. f (unwrap_or found held.None)) (none_below k e.0 es (omega (arith, ranked k e.0 Less r)) (left _ _ o)) ∙ zero in
          omega (arith, total-cons f (k, h) (e ∷ es), gone)
      | Equal ↦ λ r. omega (arith, total-cons f (e.0, h) es, total-cons f e es)
      | Greater ↦ λ r. omega (arith, total-cons f e (put nat_cmp k h es), total-cons f e es, later)
    ] refl

is_same : (x k : ℕ) → x ≡ k → (x == k) ≡ true
is_same x k e = grind arith

is_other : (x k : ℕ) → x ≢ k → (x == k) ≡ false
is_other x k ne = grind arith

without_totals : (f : Held → ℕ) → f held.None ≡ 0 → (k : ℕ) (es : Live) → T (in_order es) → total f (without k es) + f (held_at k es) ≡ total f es
without_totals f zero k [] o = omega (arith, total-nil f, zero)
without_totals f zero k (e ∷ es) o =
    let later : total f (without k es) + f (held_at k es) ≡ total f es = without_totals f zero k es (right (below_all nat_cmp e.0 es) (is_sorted nat_cmp es) o) in
    elim (nat_cmp k e.0) as (λ r. nat_cmp k e.0 ≡ r → total f (cond (not (e.0 == k)) (e ∷ without k es) (without k es)) + f (unwrap_or (cond (is_eq r) (Some e.1) (find nat_cmp k es)) held.None) ≡ total f (e ∷ es)) [
      | Less ↦ λ r. rw (is_other e.0 k (λ same. omega (arith, same, ranked k e.0 Less r))) (omega (arith, total-cons f e (without k es), total-cons f e es, later))
      | Equal ↦ λ r.
          let gone : f (held_at k es) ≡ 0 = ap (λ found. f (unwrap_or found held.None)) (none_below k e.0 es (omega (arith, ranked k e.0 Equal r)) (left _ _ o)) ∙ zero in
          rw (is_same e.0 k (sym (ranked k e.0 Equal r))) (omega (arith, total-cons f e es, later, gone))
      | Greater ↦ λ r. rw (is_other e.0 k (λ same. omega (arith, same, ranked k e.0 Greater r))) (omega (arith, total-cons f e (without k es), total-cons f e es, later))
    ] refl

held_totals : (f : Held → ℕ) → f held.None ≡ 0 → (k : ℕ) (h : Held) (es : Live) → T (in_order es) → total f (with_held k h es) + f (held_at k es) ≡ total f es + f h
held_totals f zero k held.None es o = omega (arith, without_totals f zero k es o, zero)
held_totals f zero k held.Empty es o = put_totals f zero k held.Empty es o
held_totals f zero k (held.Counted tag size) es o = put_totals f zero k (held.Counted tag size) es o

-- ---- it stays in order

pub held_in_order : (k : ℕ) (h : Held) (es : Live) → T (in_order es) → T (in_order (with_held k h es))
held_in_order k held.None es o = is_sorted-where_key nat_cmp (λ other. not (other == k)) es o
held_in_order k held.Empty es o = is_sorted-put nat_cmp nat_cmp_total k held.Empty es o
held_in_order k (held.Counted tag size) es o = is_sorted-put nat_cmp nat_cmp_total k (held.Counted tag size) es o

-- ---- what a place holds then

tied : (q x k : ℕ) → nat_cmp q x ≡ Equal → not (x == k) ≡ not (q == k)
tied q x k e = ap (λ n. not (n == k)) (sym (ranked q x Equal e))

apart : (q k : ℕ) → q ≢ k → is_eq (nat_cmp q k) ≡ false
apart q k ne = elim (nat_cmp q k) as (λ o. nat_cmp q k ≡ o → is_eq o ≡ false) [
  | Less ↦ λ e. refl
  | Equal ↦ λ e. absurd (ne (ranked q k Equal e))
  | Greater ↦ λ e. refl
] refl

put_elsewhere : (q k : ℕ) (h : Held) (es : Live) → q ≢ k → held_at q (put nat_cmp k h es) ≡ held_at q es
put_elsewhere q k h es ne = ap (λ found. unwrap_or found held.None) (find-put nat_cmp nat_cmp_total q k h es ∙ ap (λ b. cond b (Some h) (find nat_cmp q es)) (apart q k ne))

pub held_elsewhere : (q k : ℕ) (h : Held) (es : Live) → q ≢ k → held_at q (with_held k h es) ≡ held_at q es
held_elsewhere q k held.None es ne =
    ap (λ found. unwrap_or found held.None) (find-where_key nat_cmp (λ other. not (other == k)) q (λ x e. tied q x k e) es ∙ ap (λ b. cond (not b) (find nat_cmp q es) None) (is_other q k ne))
held_elsewhere q k held.Empty es ne = put_elsewhere q k held.Empty es ne
held_elsewhere q k (held.Counted tag size) es ne = put_elsewhere q k (held.Counted tag size) es ne

same_rank : (k : ℕ) → is_eq (nat_cmp k k) ≡ true
same_rank k = elim (nat_cmp k k) as (λ o. nat_cmp k k ≡ o → is_eq o ≡ true) [
  | Less ↦ λ e. absurd (omega (arith, ranked k k Less e))
  | Equal ↦ λ e. refl
  | Greater ↦ λ e. absurd (omega (arith, ranked k k Greater e))
] refl

put_here : (k : ℕ) (h : Held) (es : Live) → held_at k (put nat_cmp k h es) ≡ h
put_here k h es = ap (λ found. unwrap_or found held.None) (find-put nat_cmp nat_cmp_total k k h es ∙ ap (λ b. cond b (Some h) (find nat_cmp k es)) (same_rank k))

pub held_here : (k : ℕ) (h : Held) (es : Live) → held_at k (with_held k h es) ≡ h
held_here k held.None es = ap (λ found. unwrap_or found held.None) (find-where_key nat_cmp (λ other. not (other == k)) k (λ x e. tied k x k e) es ∙ ap (λ b. cond (not b) (find nat_cmp k es) None) (is_same k k refl))
held_here k held.Empty es = put_here k held.Empty es
held_here k (held.Counted tag size) es = put_here k (held.Counted tag size) es

-- ---- the bytes and the calls under a tag

pub counts_with : (kind : Kind) (t k : ℕ) (h : Held) (es : Live) → T (in_order es) → live_total kind t (with_held k h es) + held_counts kind t (held_at k es) ≡ live_total kind t es + held_counts kind t h
unfolding total
counts_with kind t k h es o = held_totals (held_counts kind t) refl k h es o

pub in_order_is : (b : Bool) → IsTrue b → T b
in_order_is b e = subst T (sym e) tt

pub in_order_so : (b : Bool) → T b → IsTrue b
in_order_so true h = refl
in_order_so false h = absurd h

-- ---- no place twice, and none that holds nothing

none_counted : (k low : ℕ) (es : Live) → k ≤ low → T (below_all nat_cmp low es) → count_by (λ (e : ℕ × Held). e.0 == k) es ≡ 0
none_counted k low [] le h = refl
none_counted k low (e ∷ es) le h =
    let above = is_below low e.0 (left _ _ h) in
    let later : count_by (λ (e : ℕ × Held). e.0 == k) es ≡ 0 = none_counted k low es le (right (is_lt (nat_cmp low e.0)) (below_all nat_cmp low es) h) in
    let other : (e.0 == k) ≡ false = is_other e.0 k (λ same. omega (arith, same, le, above)) in
    grind (arith, common_steps, later, other)

pub none_twice : (k : ℕ) (es : Live) → T (in_order es) → count_by (λ (e : ℕ × Held). e.0 == k) es ≤ 1
none_twice k [] o = omega arith
none_twice k (e ∷ es) o =
    let later : count_by (λ (e : ℕ × Held). e.0 == k) es ≤ 1 = none_twice k es (right (below_all nat_cmp e.0 es) (is_sorted nat_cmp es) o) in
    let alone : e.0 ≡ k → count_by (λ (e : ℕ × Held). e.0 == k) es ≡ 0 = λ same. none_counted k e.0 es (omega (arith, same)) (left (below_all nat_cmp e.0 es) (is_sorted nat_cmp es) o) in
    grind (arith, common_steps, later, alone)
