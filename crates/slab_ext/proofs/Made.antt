-- The pools that a table is made with have all cells of their vectors.
use Rattle.std.proofs.Common.{ℕ, zero, suc, ◌≡◌, ◌+◌, ◌<◌, List, [], ◌∷◌, length, take, slice_get, map, Option, option_map, unwrap_or, Some, sym, ap, ◌∙◌, subst, arith}
use Rattle.std.specs.List.{range_with_len}
use Rattle.std.proofs.lemmas.Bool.{and_from, le-leb, lt-ltb}
use Rattle.std.proofs.lemmas.List.FromFn.{length-map-range_with_len, get_or-map-range_with_len}
use Rattle.std.proofs.lemmas.Option.{get_or_from_slice_get, slice_get-map, slice_get_within}
use Rattle.tag_model.specs.Index.{object_index}
use Rattle.tag_rule.specs.Made.{fresh_vectors}
use Rattle.tag_rule.specs.Shown.{Board, PoolShown}
use Rattle.tag_rule.proofs.Runs.{has_range}
use Rattle.slab_ext.specs.Vectors.{IsWhole}

abbrev pub vector_of : Board → ℕ → ℕ → PoolShown
vector_of b cpu number = record { board = b; cells = range_with_len (object_index b.shape cpu number 0) 64 }

pub count_vectors : (b : Board) (cpu : ℕ) → length (fresh_vectors b cpu) ≡ b.shape.vectors
count_vectors b cpu = length-map-range_with_len (vector_of b cpu) 0 b.shape.vectors

pub of_board : (b : Board) (cpu number : ℕ) (pool : PoolShown) → slice_get (fresh_vectors b cpu) number ≡ Some pool → pool.board ≡ b
of_board b cpu number pool here =
    let within : number < b.shape.vectors = omega (arith, slice_get_within (fresh_vectors b cpu) number pool here, count_vectors b cpu) in
    let same : vector_of b cpu number ≡ pool = sym (get_or-map-range_with_len (vector_of b cpu) 0 b.shape.vectors number number pool within (omega arith)) ∙ get_or_from_slice_get (fresh_vectors b cpu) number pool pool here in
    ap (λ (p : PoolShown). p.board) (sym same)

-- what is in, of the first so many pools
pub inside_first : (count : ℕ) (pools : List PoolShown) (number : ℕ) (pool : PoolShown) → slice_get (map (λ (p : PoolShown). Some p) (take count pools)) number ≡ Some (Some pool) → slice_get pools number ≡ Some pool
inside_first zero pools number pool is = absurd (none_at number is)
  where
    none_at : (n : ℕ) → slice_get [] n ≡ Some (Some pool) → ⊥
    none_at zero e = cc
    none_at (suc n) e = cc
inside_first (suc count) [] number pool is = absurd (none_at number is)
  where
    none_at : (n : ℕ) → slice_get [] n ≡ Some (Some pool) → ⊥
    none_at zero e = cc
    none_at (suc n) e = cc
inside_first (suc count) (p ∷ pools) zero pool is = ap (λ (o : Option (Option PoolShown)). unwrap_or o (Some pool)) is
inside_first (suc count) (p ∷ pools) (suc number) pool is = inside_first count pools number pool is

pub made_whole : (b : Board) (cpu number : ℕ) (pool : PoolShown) → cpu < b.shape.cpus → slice_get (fresh_vectors b cpu) number ≡ Some pool → IsWhole cpu number pool
made_whole b cpu number pool one here =
    let made : ℕ → PoolShown = λ v. record { board = b; cells = range_with_len (object_index b.shape cpu v 0) 64 } in
    let within : number < b.shape.vectors = omega (arith, slice_get_within (fresh_vectors b cpu) number pool here, length-map-range_with_len made 0 b.shape.vectors) in
    let same : made number ≡ pool = sym (get_or-map-range_with_len made 0 b.shape.vectors number number pool within (omega arith)) ∙ get_or_from_slice_get (fresh_vectors b cpu) number pool pool here in
    subst (λ p. IsWhole cpu number p) same
    (record {
      one = one;
      in_shape = within;
      cells = λ place below.
          let first = object_index b.shape cpu number 0 in
          let cell = object_index b.shape cpu number place in
          has_range cell first 64 ∙ and_from _ _ (le-leb first cell (omega arith)) (lt-ltb cell (first + 64) (omega arith));
    })

-- the pools of one CPU, among those that are made for all
pub pools_of : {V : Type 0} (items : V → List PoolShown) (b : Board) (made : List V) (cpu : ℕ) (own : V) → map items made ≡ map (fresh_vectors b) (range_with_len 0 b.shape.cpus) → slice_get made cpu ≡ Some own
    → (cpu < b.shape.cpus) × (items own ≡ fresh_vectors b cpu)
pools_of items b made cpu own all here =
    let vectors : ℕ → List PoolShown = λ n. fresh_vectors b n in
    let there : slice_get (map vectors (range_with_len 0 b.shape.cpus)) cpu ≡ Some (items own) = ap (λ ps. slice_get ps cpu) (sym all) ∙ slice_get-map items made cpu ∙ ap (option_map items) here in
    let within : cpu < b.shape.cpus = omega (arith, slice_get_within _ cpu (items own) there, length-map-range_with_len vectors 0 b.shape.cpus) in
    (within, sym (get_or_from_slice_get _ cpu (items own) (items own) there) ∙ get_or-map-range_with_len vectors 0 b.shape.cpus cpu cpu (items own) within (omega arith))
