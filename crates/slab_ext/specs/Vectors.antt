-- Vectors of cells, which a CPU has by number: each is in, or out.
use Rattle.std.specs.Prelude.{ℕ, ◌≡◌, ◌<◌, ◌≤◌, IsTrue, is_some, Option, Some, None, List, length, position, slice_get, slice_set}
use Rattle.tag_model.specs.Index.{object_index}
use Rattle.tag_rule.specs.Shown.{PoolShown, has}

-- a vector that is out, with the cells of it that are in its pool
pub record VectorShown : Type 0 where
  pub number : ℕ
  pub pool : PoolShown

-- a CPU's vectors by number: each that is in has its pool here
pub record VectorsShown : Type 0 where
  pub cpu : ℕ
  pub pools : List (Option PoolShown)

-- the number is of the shape, and the pool has all 64 cells of the CPU's vector of that number
pub record IsWhole (cpu number : ℕ) (pool : PoolShown) : Type 0 where
  pub one : cpu < pool.board.shape.cpus
  pub in_shape : number < pool.board.shape.vectors
  pub cells : (place : ℕ) → place < 64 → IsTrue (has pool (object_index pool.board.shape cpu number place))

-- the number of the lowest vector that is in, if one is
abbrev pub lowest : VectorsShown → Option ℕ
lowest vectors = position is_some vectors.pools

-- one of them is out, or in with its pool
abbrev pub with_vector : ℕ → Option PoolShown → VectorsShown → VectorsShown
with_vector number pool vectors = record vectors { pools = slice_set vectors.pools number pool }

-- the vector goes out
pub record Takes (vectors after : VectorsShown) (vector : VectorShown) : Type 0 where
  pub is_lowest : lowest vectors ≡ Some vector.number
  pub own : slice_get vectors.pools vector.number ≡ Some (Some vector.pool)
  pub whole : IsWhole vectors.cpu vector.number vector.pool
  pub out : after ≡ with_vector vector.number None vectors

-- what holds of all of them: each that is in is whole
pub record AreVectors (vectors : VectorsShown) : Type 0 where
  pub few : length vectors.pools ≤ 64
  pub whole : (number : ℕ) (pool : PoolShown) → slice_get vectors.pools number ≡ Some (Some pool) → IsWhole vectors.cpu number pool
