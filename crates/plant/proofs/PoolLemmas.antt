-- Cells that pools have.
use Rattle.std.proofs.Common.{◌≡◌, ◌≢◌, ◌+◌, ◌<◌, ◌≤◌, ℕ, zero, suc, Bool, true, false, List, [], ◌∷◌, Option, Some, None, arith, ap, length, map, refl, replicate, ◌∙◌}
use Rattle.std.specs.Prelude.{◌==◌, ◌||◌, is_none}
use Rattle.std.specs.Bool.{IsTrue}
use Rattle.std.proofs.lemmas.Bool.{eqb-false}
use Rattle.std.specs.List.{list_any, range_with_len}
use Rattle.tag_model.specs.Index.{page_index}
use Rattle.tag_rule.specs.Made.{fresh_vectors, pages_of}
use Rattle.tag_rule.specs.Shown.{Board, PoolShown, has}
use Rattle.slab_ext.proofs.Made.{count_vectors}

has_at : (first size n : ℕ) → first ≤ n → n < first + size → list_any (λ (cell : ℕ). cell == n) (range_with_len first size) ≡ true
has_at first zero n low high = absurd (omega (arith, low, high))
has_at first (suc size) n low high = by_test (first == n) refl (λ apart. has_at (first + 1) size n (omega (arith, low, apart)) (omega (arith, high)))
  where
    by_test : (b : Bool) → (first == n) ≡ b → (first ≢ n → list_any (λ (cell : ℕ). cell == n) (range_with_len (first + 1) size) ≡ true)
        → ((first == n) || list_any (λ (cell : ℕ). cell == n) (range_with_len (first + 1) size)) ≡ true
    by_test true is rest = rw is refl
    by_test false is rest = rw is (rest (eqb-false first n is))

-- the page cells of a CPU
pub has_page : (b : Board) (cpu frames frame : ℕ) → frames ≤ b.shape.frames → frame < frames → IsTrue (has (pages_of b cpu) (page_index b.shape cpu frame))
has_page b cpu frames frame few below =
    let first = page_index b.shape cpu 0 in
    has_at first b.shape.frames (page_index b.shape cpu frame) (omega arith) (omega (arith, few, below))

-- ---- what the meaning reads

pub all_in : {A : Type 0} (pools : List A) → map (λ (o : Option A). is_none o) (map (λ (pool : A). Some pool) pools) ≡ replicate (length pools) false
all_in [] = refl
all_in (pool ∷ pools) = ap (λ (rest : List Bool). false ∷ rest) (all_in pools)

pub none_still : {A B : Type 0} (f : Option A → Option B) → f None ≡ None → (n : ℕ) → map f (replicate n None) ≡ replicate n None
none_still f is zero = refl
none_still f is (suc n) = λ i. is i ∷ none_still f is n i

pub enough : (b : Board) (cpu vectors : ℕ) (pools : List PoolShown) → vectors ≤ b.shape.vectors → pools ≡ fresh_vectors b cpu → vectors ≤ length pools
enough b cpu vectors pools few are = omega (arith, few, ap (λ (ps : List PoolShown). length ps) are ∙ count_vectors b cpu)
