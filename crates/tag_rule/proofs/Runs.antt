-- Sets of cells, and runs of them.
use Rattle.std.proofs.Common.{◌≡◌, ℕ, ◌+◌, ◌<◌, ◌≤◌, ◌==◌, ◌&&◌, ◌||◌, ◌⊎◌, zero, suc, List, [], ◌∷◌, filter, sum_by, count_by, sym, refl, ap, subst, ◌∙◌, arith, cond, not, Bool, true, false, inl, inr, eq-eqb, ne_eqb}
use Rattle.std.specs.List.{list_any, list_all, range_with_len}
use Rattle.std.proofs.lemmas.Bool.{cases_eq, and_parts, and_from, or_cases, false≢true, eqb-true}
use Rattle.std.proofs.lemmas.Bool.Decides.{nat_tests}
use Rattle.std.proofs.lemmas.List.Sums.{sum_by-cons}
use Rattle.std.proofs.lemmas.List.Filters.{sum_by-filter_both}
use Rattle.tag_model.specs.WordState.{in_range}
use Rattle.tag_model.proofs.Found.{found_any, count_at}

-- ---- the sum over the cells of a run that a set has

chosen : (b : Bool) (x : ℕ) (xs ys : List ℕ) (g : ℕ → ℕ) → sum_by g ys ≡ sum_by g xs → sum_by g (cond b (x ∷ xs) ys) ≡ cond b (g x) 0 + sum_by g xs
chosen true x xs ys g e = sum_by-cons g x xs
chosen false x xs ys g e = omega (arith, e)

sum_filter : (p : ℕ → Bool) (g : ℕ → ℕ) (xs : List ℕ) → sum_by g (filter p xs) ≡ sum_by (λ x. cond (p x) (g x) 0) xs
sum_filter p g [] = refl
sum_filter p g (x ∷ xs) = omega (arith, chosen (p x) x (filter p xs) (filter p xs) g refl, sum_filter p g xs, sum_by-cons (λ (y : ℕ). cond (p y) (g y) 0) x xs)

-- a run of one cell more: its first cell, and the others
one_more : (first c n : ℕ) (x : ℕ) → cond (in_range first (suc c) n) x 0 ≡ cond (n == first) x 0 + cond (in_range (first + 1) c n) x 0
one_more first c n x = grind (arith, nat_tests)

sum_split : (first c : ℕ) (g : ℕ → ℕ) (xs : List ℕ) → sum_by (λ n. cond (in_range first (suc c) n) (g n) 0) xs ≡ sum_by (λ n. cond (n == first) (g n) 0) xs + sum_by (λ n. cond (in_range (first + 1) c n) (g n) 0) xs
sum_split first c g [] = refl
sum_split first c g (x ∷ xs) = omega (
  arith,
  sum_split first c g xs,
  one_more first c x (g x),
  sum_by-cons (λ (n : ℕ). cond (in_range first (suc c) n) (g n) 0) x xs,
  sum_by-cons (λ (n : ℕ). cond (n == first) (g n) 0) x xs,
  sum_by-cons (λ (n : ℕ). cond (in_range (first + 1) c n) (g n) 0) x xs,
)

-- a cell that stands once among others
at_most : (b : Bool) (x : ℕ) → cond {A = ℕ} b 1 0 ≡ 0 → cond {A = ℕ} b x 0 ≡ 0
at_most true x e = absurd (omega arith)
at_most false x e = refl

none_of : (first : ℕ) (g : ℕ → ℕ) (xs : List ℕ) → count_by (λ n. n == first) xs ≡ 0 → sum_by (λ n. cond (n == first) (g n) 0) xs ≡ 0
none_of first g [] e = refl
none_of first g (x ∷ xs) e =
    let counted = sum_by-cons (λ (n : ℕ). cond {A = ℕ} (n == first) 1 0) x xs in
    let here : cond {A = ℕ} (x == first) 1 0 ≡ 0 = omega arith in
    let behind : count_by (λ n. n == first) xs ≡ 0 = omega arith in
    omega (arith, at_most (x == first) (g x) here, none_of first g xs behind, sum_by-cons (λ (n : ℕ). cond (n == first) (g n) 0) x xs)

once_of : (first : ℕ) (g : ℕ → ℕ) (xs : List ℕ) → count_by (λ n. n == first) xs ≡ 1 → sum_by (λ n. cond (n == first) (g n) 0) xs ≡ g first
once_of first g [] e = absurd (omega arith)
once_of first g (x ∷ xs) e = go (λ h. once_of first g xs h) (cases_eq x first)
  where
    go : (count_by (λ n. n == first) xs ≡ 1 → sum_by (λ n. cond (n == first) (g n) 0) xs ≡ g first) → (x ≡ first) ⊎ (x ≡ first → ⊥) → sum_by (λ n. cond (n == first) (g n) 0) (x ∷ xs) ≡ g first
    go later (inl is) =
        let counted = sum_by-cons (λ (n : ℕ). cond {A = ℕ} (n == first) 1 0) x xs in
        let one : cond {A = ℕ} (x == first) 1 0 ≡ 1 = rw (eq-eqb x first is) refl in
        let here : cond {A = ℕ} (x == first) (g x) 0 ≡ g first = rw (eq-eqb x first is) (ap g is) in
        let behind : count_by (λ n. n == first) xs ≡ 0 = omega arith in
        omega (arith, none_of first g xs behind, sum_by-cons (λ (n : ℕ). cond (n == first) (g n) 0) x xs)
    go later (inr ne) =
        let counted = sum_by-cons (λ (n : ℕ). cond {A = ℕ} (n == first) 1 0) x xs in
        let one : cond {A = ℕ} (x == first) 1 0 ≡ 0 = rw (ne_eqb x first ne) refl in
        let here : cond {A = ℕ} (x == first) (g x) 0 ≡ 0 = rw (ne_eqb x first ne) refl in
        let behind : count_by (λ n. n == first) xs ≡ 1 = omega arith in
        omega (arith, later behind, sum_by-cons (λ (n : ℕ). cond (n == first) (g n) 0) x xs)

empty_range : (first n x : ℕ) → cond (in_range first 0 n) x 0 ≡ 0
empty_range first n x = grind (arith, nat_tests)

sum_nothing : (first : ℕ) (g : ℕ → ℕ) (xs : List ℕ) → sum_by (λ n. cond (in_range first 0 n) (g n) 0) xs ≡ 0
sum_nothing first g [] = refl
sum_nothing first g (x ∷ xs) = omega (arith, sum_nothing first g xs, empty_range first x (g x), sum_by-cons (λ (n : ℕ). cond (in_range first 0 n) (g n) 0) x xs)

-- where each cell of the run stands once in the set, the cells of the set that lie in the run are the run
sum_run : (first count : ℕ) (g : ℕ → ℕ) (xs : List ℕ) → ((n : ℕ) → first ≤ n → n < first + count → count_by (λ m. m == n) xs ≡ 1) → sum_by (λ n. cond (in_range first count n) (g n) 0) xs ≡ sum_by g (range_with_len first count)
sum_run first zero g xs once = sum_nothing first g xs
sum_run first (suc count) g xs once =
    omega (arith, sum_split first count g xs, once_of first g xs (once first (omega arith) (omega arith)), sum_run (first + 1) count g xs (λ n low high. once n (omega arith) (omega arith)), sum_by-cons g first (range_with_len (first + 1) count))

-- ---- taken out

pub outside : ℕ → ℕ → List ℕ → List ℕ
outside first count xs = filter (λ n. not (in_range first count n)) xs

pub sum_outside : (first count : ℕ) (g : ℕ → ℕ) (xs : List ℕ) → ((n : ℕ) → first ≤ n → n < first + count → count_by (λ m. m == n) xs ≡ 1) → sum_by g xs ≡ sum_by g (outside first count xs) + sum_by g (range_with_len first count)
unfolding outside
sum_outside first count g xs once =
    omega (arith, sum_by-filter_both (λ n. in_range first count n) (λ n. not (in_range first count n)) (λ n. refl) g xs, sum_filter (λ n. in_range first count n) g xs, sum_run first count g xs once)

any_filter : (n : ℕ) (p : ℕ → Bool) (xs : List ℕ) → list_any (λ m. m == n) (filter p xs) ≡ (list_any (λ m. m == n) xs && p n)
any_filter n p [] = refl
any_filter n p (x ∷ xs) = go (any_filter n p xs) (p x) refl (cases_eq x n)
  where
    go : list_any (λ m. m == n) (filter p xs) ≡ (list_any (λ m. m == n) xs && p n) → (b : Bool) → p x ≡ b → (x ≡ n) ⊎ (x ≡ n → ⊥) → list_any (λ m. m == n) (cond b (x ∷ filter p xs) (filter p xs)) ≡ (((x == n) || list_any (λ m. m == n) xs) && p n)
    go later true e (inl is) = rw (eq-eqb x n is) (sym e ∙ ap p is)
    go later true e (inr ne) = rw (ne_eqb x n ne) later
    go later false e (inl is) =
        let fails : p n ≡ false = ap p (sym is) ∙ e in
        rw (eq-eqb x n is) (later ∙ (rw fails (both (list_any (λ m. m == n) xs))))
      where
        both : (b : Bool) → (b && false) ≡ false
        both true = refl
        both false = refl
    go later false e (inr ne) = rw (ne_eqb x n ne) later

pub has_outside : (n first count : ℕ) (xs : List ℕ) → list_any (λ m. m == n) (outside first count xs) ≡ (list_any (λ m. m == n) xs && not (in_range first count n))
unfolding outside
has_outside n first count xs = any_filter n (λ m. not (in_range first count m)) xs

step_range : (n first c : ℕ) → (first == n) || in_range (first + 1) c n ≡ in_range first (suc c) n
step_range n first c = grind (arith, nat_tests)

pub has_range : (n first count : ℕ) → list_any (λ m. m == n) (range_with_len first count) ≡ in_range first count n
has_range n first zero = grind (arith, nat_tests)
has_range n first (suc count) = ap (λ (b : Bool). (first == n) || b) (has_range n (first + 1) count) ∙ step_range n first count

-- ---- counts and tests of a set

all_filter : (p q : ℕ → Bool) (xs : List ℕ) → list_all p xs ≡ true → list_all p (filter q xs) ≡ true
all_filter p q [] e = refl
all_filter p q (x ∷ xs) e = let both = and_parts (p x) (list_all p xs) e in go (q x) both.0 (all_filter p q xs both.1)
  where
    go : (b : Bool) → p x ≡ true → list_all p (filter q xs) ≡ true → list_all p (cond b (x ∷ filter q xs) (filter q xs)) ≡ true
    go true here behind = and_from _ _ here behind
    go false here behind = behind

pub all_outside : (p : ℕ → Bool) (first count : ℕ) (xs : List ℕ) → list_all p xs ≡ true → list_all p (outside first count xs) ≡ true
unfolding outside
all_outside p first count xs e = all_filter p (λ n. not (in_range first count n)) xs e

pub count_outside : (p : ℕ → Bool) (first count : ℕ) (xs : List ℕ) → count_by p (outside first count xs) ≤ count_by p xs
unfolding outside
count_outside p first count xs =
    omega (arith, sum_by-filter_both (λ n. in_range first count n) (λ n. not (in_range first count n)) (λ n. refl) (λ (n : ℕ). cond {A = ℕ} (p n) 1 0) xs)

-- a set that has a cell at most once, and has it, has it once
pub has_once : (n : ℕ) (xs : List ℕ) → count_by (λ m. m == n) xs ≤ 1 → list_any (λ m. m == n) xs ≡ true → count_by (λ m. m == n) xs ≡ 1
has_once n xs few any =
    let f = found_any (λ m. m == n) xs any in
    let some : 0 < count_by (λ m. m == n) xs = subst (λ (ys : List ℕ). 0 < count_by (λ m. m == n) ys) (sym f.is) (count_at (λ m. m == n) f.front f.item f.back f.passes) in
    omega arith

pub all_has : (p : ℕ → Bool) (n : ℕ) (xs : List ℕ) → list_all p xs ≡ true → list_any (λ m. m == n) xs ≡ true → p n ≡ true
all_has p n [] all any = absurd (false≢true any)
all_has p n (x ∷ xs) all any =
    let both = and_parts (p x) (list_all p xs) all in
    go (λ all any. all_has p n xs all any) both.0 both.1 (or_cases (x == n) (list_any (λ m. m == n) xs) any)
  where
    go : (list_all p xs ≡ true → list_any (λ m. m == n) xs ≡ true → p n ≡ true) → p x ≡ true → list_all p xs ≡ true → ((x == n) ≡ true) ⊎ (list_any (λ m. m == n) xs ≡ true) → p n ≡ true
    go later here behind (inl e) = subst (λ (y : ℕ). p y ≡ true) (eqb-true x n e) here
    go later here behind (inr any) = later behind any
