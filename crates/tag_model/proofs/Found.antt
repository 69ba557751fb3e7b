-- What a count or a test over a list finds: an element, and what stands before it and behind it.
use Rattle.std.proofs.Common.{◌≡◌, ℕ, ◌+◌, ◌<◌, ◌≤◌, List, [], ◌∷◌, ◌++◌, Bool, true, false, cond, not, count_by, sum_by, refl, ap, arith}
use Rattle.std.specs.List.{list_any, list_all}
use Rattle.std.proofs.lemmas.Bool.{and_parts, false≢true, or_right}
use Rattle.std.proofs.lemmas.List.Sums.{sum_by-cons, sum_by-append, sum_by-le-sum_by}
use Rattle.std.proofs.lemmas.List.Folds.{list_any-append, list_all-append}
use Rattle.tag_model.specs.WordState.{one_if}

-- a number that is 1 where the test holds
pub none_fails : (b : Bool) → one_if (not b) ≡ 0 → b ≡ true
none_fails true e = refl
none_fails false e = absurd (omega arith)

pub fails_none : (b : Bool) → b ≡ true → one_if (not b) ≡ 0
fails_none true e = refl
fails_none false e = absurd (false≢true e)

pub record Found {X : Type 0} (test : X → Bool) (xs : List X) : Type 0 where
  pub front : List X
  pub item : X
  pub back : List X
  pub is : xs ≡ front ++ item ∷ back
  pub passes : test item ≡ true

found_later : {X : Type 0} (test : X → Bool) (x : X) (xs : List X) → Found test xs → Found test (x ∷ xs)
found_later test x xs f = record { front = x ∷ f.front; item = f.item; back = f.back; is = ap (λ ys. x ∷ ys) f.is; passes = f.passes }

found_head : {X : Type 0} (test : X → Bool) (x : X) (xs : List X) (b : Bool) → test x ≡ b → (b ≡ false → Found test xs) → Found test (x ∷ xs)
found_head test x xs true e later = record { front = []; item = x; back = xs; is = refl; passes = e }
found_head test x xs false e later = found_later test x xs (later refl)

counted_later : {X : Type 0} (test : X → Bool) (x : X) (xs : List X) → 0 < count_by test (x ∷ xs) → test x ≡ false → 0 < count_by test xs
counted_later {X} test x xs h e =
    let here : cond {A = ℕ} (test x) 1 0 ≡ 0 = rw e refl in
    omega (arith, sum_by-cons (λ (y : X). cond (test y) 1 0) x xs)

pub found : {X : Type 0} (test : X → Bool) (xs : List X) → 0 < count_by test xs → Found test xs
found test [] h = absurd (omega arith)
found test (x ∷ xs) h = found_head test x xs (test x) refl (λ e. found test xs (counted_later test x xs h e))

pub found_any : {X : Type 0} (test : X → Bool) (xs : List X) → list_any test xs ≡ true → Found test xs
found_any test [] h = absurd (false≢true h)
found_any test (x ∷ xs) h = found_head test x xs (test x) refl (λ e. found_any test xs (rw e at h))

-- what a test or a count says at a list in which an element stands
pub all_at : {X : Type 0} (test : X → Bool) (front : List X) (x : X) (back : List X) → list_all test (front ++ x ∷ back) ≡ true → test x ≡ true
all_at test front x back h = (and_parts _ _ (and_parts _ _ (rw list_all-append at h)).1).0

pub any_at : {X : Type 0} (test : X → Bool) (front : List X) (x : X) (back : List X) → test x ≡ true → list_any test (front ++ x ∷ back) ≡ true
any_at test front x back e = rw (list_any-append, e) (or_right _ _ refl)

pub sum_at : {X : Type 0} (f : X → ℕ) (front : List X) (x : X) (back : List X) → sum_by f (front ++ x ∷ back) ≡ sum_by f front + (f x + sum_by f back)
sum_at f front x back = omega (arith, sum_by-append f front (x ∷ back), sum_by-cons f x back)

pub count_at : {X : Type 0} (test : X → Bool) (front : List X) (x : X) (back : List X) → test x ≡ true → 0 < count_by test (front ++ x ∷ back)
count_at {X} test front x back e =
    let here : cond {A = ℕ} (test x) 1 0 ≡ 1 = rw e refl in
    omega (arith, sum_at (λ (y : X). cond (test y) 1 0) front x back)

-- a test that holds wherever another does finds at least as many
pub cond_more : (a b : Bool) → (a ≡ true → b ≡ true) → cond a 1 0 ≤ cond b 1 0
cond_more true b h = rw (h refl) (omega arith)
cond_more false b h = omega arith

pub count_more : {X : Type 0} (p q : X → Bool) (xs : List X) → ((x : X) → p x ≡ true → q x ≡ true) → count_by p xs ≤ count_by q xs
count_more {X} p q xs h = sum_by-le-sum_by (λ (x : X). cond (p x) 1 0) (λ (x : X). cond (q x) 1 0) xs (λ x. cond_more (p x) (q x) (h x))

-- two tests that never hold together find no more than a test that holds wherever one of them does
cond_apart : (a b c : Bool) → (a ≡ true → c ≡ true) → (b ≡ true → c ≡ true) → (a ≡ true → b ≡ true → ⊥) → cond a 1 0 + cond b 1 0 ≤ cond c 1 0
cond_apart true true c h k apart = absurd (apart refl refl)
cond_apart true false c h k apart = rw (h refl) (omega arith)
cond_apart false b c h k apart = omega (arith, cond_more b c k)

pub count_apart : {X : Type 0} (p q r : X → Bool) (xs : List X) → ((x : X) → p x ≡ true → r x ≡ true) → ((x : X) → q x ≡ true → r x ≡ true) → ((x : X) → p x ≡ true → q x ≡ true → ⊥) → count_by p xs + count_by q xs ≤ count_by r xs
count_apart p q r [] h k apart = omega arith
count_apart {X} p q r (x ∷ xs) h k apart =
    omega (arith, count_apart p q r xs h k apart, cond_apart (p x) (q x) (r x) (h x) (k x) (apart x), sum_by-cons (λ (y : X). cond (p y) 1 0) x xs, sum_by-cons (λ (y : X). cond (q y) 1 0) x xs, sum_by-cons (λ (y : X). cond (r y) 1 0) x xs)
