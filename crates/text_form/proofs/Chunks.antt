-- A test of each byte, chunk by chunk.
use Rattle.std.proofs.Common.{◌≡◌, ℕ, zero, suc, ◌+◌, ◌*◌, Bool, true, false, ◌&&◌, List, take, drop, refl, sym, ap, ◌∙◌, arith}
use Rattle.std.specs.List.{list_all}
use Rattle.std.specs.Simd.{first_chunks}
use Rattle.std.proofs.lemmas.List.{take-append-drop, drop-drop}
use Rattle.std.proofs.lemmas.List.Folds.{list_all-append}

and_groups : (a b c : Bool) → (a && (b && c)) ≡ ((a && b) && c)
and_groups true b c = refl
and_groups false b c = refl

-- the first n bytes and those behind them
at_seam : (p : ℕ → Bool) (n : ℕ) (xs : List ℕ) → list_all p xs ≡ (list_all p (take n xs) && list_all p (drop n xs))
at_seam p n xs = sym (ap (list_all p) (take-append-drop n xs)) ∙ list_all-append p (take n xs) (drop n xs)

-- some chunks of n bytes, and what is behind them
pub by_chunks : (p : ℕ → Bool) (n count : ℕ) (xs : List ℕ) → list_all p xs ≡ (list_all (λ chunk. list_all p chunk) (first_chunks n count xs) && list_all p (drop (count * n) xs))
by_chunks p n zero xs = ap (λ k. list_all p (drop k xs)) (let same : 0 ≡ 0 * n = omega arith in same)
by_chunks p n (suc count) xs =
    let behind : drop (count * n) (drop n xs) ≡ drop (suc count * n) xs = drop-drop (count * n) n xs ∙ ap (λ k. drop k xs) (let same : n + count * n ≡ suc count * n = omega arith in same) in
    at_seam p n xs
    ∙ ap (λ b. list_all p (take n xs) && b) (by_chunks p n count (drop n xs) ∙ ap (λ ys. list_all (λ chunk. list_all p chunk) (first_chunks n count (drop n xs)) && list_all p ys) behind)
    ∙ and_groups (list_all p (take n xs)) (list_all (λ chunk. list_all p chunk) (first_chunks n count (drop n xs))) (list_all p (drop (suc count * n) xs))
