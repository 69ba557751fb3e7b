-- A CPU's hooks and the modules that it is inside.
use Rattle.std.specs.Prelude.{ℕ, List}

-- the sections of the tags of the hooks that are out, the last one at the end; the sections of the modules
pub record CpuState : Type 0 where
  pub hooks : List ℕ
  pub inside : List ℕ
