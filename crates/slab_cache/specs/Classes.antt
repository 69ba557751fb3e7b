-- The classes of objects by size, and the slabs of each.
use Rattle.std.specs.Prelude.{ℕ, ◌/◌, nat_le, nat_lt, min, Option, List, [], ◌∷◌, unwrap_or, if◌then◌else◌}
use Rattle.std.specs.List.{find, range_with_len}
use Rattle.page_ext.specs.Blocks.{page_bytes}

-- the bytes of the classes
abbrev pub classes : List ℕ
classes = 8 ∷ 16 ∷ 32 ∷ 64 ∷ 96 ∷ 128 ∷ 192 ∷ 256 ∷ 512 ∷ 1024 ∷ 2048 ∷ 4096 ∷ 8192 ∷ []

-- the least class of at least the size; a size above the greatest has none
abbrev pub class_of : ℕ → Option ℕ
class_of size = find (nat_le size) classes

-- the order of the block that is a slab of the class
abbrev pub slab_order : ℕ → ℕ
slab_order class = if nat_lt class 1024 then 0 else 3

-- how many objects a slab of the class has
abbrev pub objects_in : ℕ → ℕ
objects_in class = min 64 (page_bytes (slab_order class) / class)

-- the least order whose block has at least so many bytes, from 0 to 10
abbrev pub order_of : ℕ → ℕ
order_of size = unwrap_or (find (λ order. nat_le size (page_bytes order)) (range_with_len 0 11)) 10
