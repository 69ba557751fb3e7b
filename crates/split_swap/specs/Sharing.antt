-- When a reference can be shared out to two cells.
use Rattle.std.specs.Prelude.{◌≡◌, ◌%◌, ◌<◌, ⊤}
use Rattle.tag_model.specs.declared.limits.TheConstants.{SIZE_END}
use Rattle.tag_model.specs.declared.state.Held.{Held}
use Rattle.tag_model.specs.declared.state.Held.TheVariants as held

-- it is the mark, or has an even number of bytes
abbrev pub CanHalve : Held → Type 0
CanHalve held.None = ⊥
CanHalve held.Empty = ⊤
CanHalve (held.Counted tag size) = (size % 2 ≡ 0) × (0 < size) × (size < SIZE_END)
