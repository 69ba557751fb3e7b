-- Pools that are dealt one after the other.
use Rattle.std.proofs.Common.{◌≡◌, ◌+◌, ◌-◌, ◌<◌, ◌++◌, ℕ, suc, List, [], ◌∷◌, arith, ap, drop, length, map, take, ◌∙◌}
use Rattle.std.specs.Prelude.{slice_index_or}
use Rattle.std.specs.List.{range_with_len}

-- the numbers from one on, up to an end
pub from_next : (n end : ℕ) → n < end → range_with_len n (end - n) ≡ n ∷ range_with_len (n + 1) (end - (n + 1))
from_next n end below = let more : end - n ≡ suc (end - (n + 1)) = omega arith in ap (range_with_len n) more

-- the first goes out: what it is, and what is left
pub record FirstOut {A B : Type 0} (f : A → B) (first : B) (rest : List B) (left : List A) (out : A) : Type 0 where
  pub is : f out ≡ first
  pub stays : map f left ≡ rest

pub first_out : {A B : Type 0} (f : A → B) (first : B) (rest : List B) (xs left : List A) (out : A) → map f xs ≡ first ∷ rest → out ≡ slice_index_or xs 0 out → left ≡ take 0 xs ++ drop (0 + 1) xs → FirstOut f first rest left out
first_out f first rest [] left out is at left_is = absurd (cc)
first_out f first rest (x ∷ xs) left out is at left_is = record {
  is = ap f at ∙ ap (λ ys. slice_index_or ys 0 first) is;
  stays = ap (map f) left_is ∙ ap (λ ys. drop 1 ys) is;
}

pub some_there : {A B : Type 0} (f : A → B) (first : B) (rest : List B) (xs : List A) → map f xs ≡ first ∷ rest → 0 < length xs
some_there f first rest [] is = absurd (cc)
some_there f first rest (x ∷ xs) is = omega arith

-- the same of a list itself
pub record HeadOut {A : Type 0} (first : A) (rest left : List A) (out : A) : Type 0 where
  pub is : out ≡ first
  pub stays : left ≡ rest

pub head_out : {A : Type 0} (first : A) (rest xs left : List A) (out : A) → xs ≡ first ∷ rest → out ≡ slice_index_or xs 0 out → left ≡ take 0 xs ++ drop (0 + 1) xs → HeadOut first rest left out
head_out first rest xs left out is at left_is = record {
  is = at ∙ ap (λ ys. slice_index_or ys 0 out) is;
  stays = left_is ∙ ap (λ ys. drop 1 ys) is;
}

pub head_there : {A : Type 0} (first : A) (rest xs : List A) → xs ≡ first ∷ rest → 0 < length xs
head_there first rest xs is = omega (arith, ap (λ ys. length ys) is)
