-- A vector whose pool is lent ends with the pool that is left there.
use Rattle.std.specs.Borrow.{Lends, MutBor, Fml}
use Rattle.tag_rule.specs.Shown.{PoolShown}
use Rattle.tag_rule.specs.contracts.cells.CellPool.{the_row as pool_row}
use Rattle.slab_ext.specs.Vectors.{VectorShown}
use Rattle.slab_ext.specs.contracts.vectors.Vector.{the_row}

abbrev pub with_pool : VectorShown → PoolShown → VectorShown
with_pool vector pool = record vector { pool = pool }

abbrev pub LendsPool : MutBor VectorShown → MutBor PoolShown → Fml
LendsPool vector pool = Lends the_row pool_row vector pool (with_pool vector.now)
