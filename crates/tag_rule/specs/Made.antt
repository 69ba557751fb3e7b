-- The seats of a table that was just made.
use Rattle.std.specs.Prelude.{◌≡◌, ℕ, ◌+◌, ◌*◌, List, map}
use Rattle.std.specs.List.{range_with_len}
use Rattle.tag_model.specs.declared.shape.Shape.{Shape}
use Rattle.tag_model.specs.Index.{page_index, object_index}
use Rattle.tag_rule.specs.Fresh.{fresh_cpu, fresh_list}
use Rattle.tag_rule.specs.Shown.{Board, CpuShown, PoolShown}
use Rattle.tag_rule.specs.declared.making.Seats.{Seats}

-- so many pools of so many cells each, from the cell `first` on
abbrev pub pools : Board → ℕ → ℕ → ℕ → List PoolShown
pools b first count size = map (λ n. record { board = b; cells = range_with_len (first + n * size) size }) (range_with_len 0 count)

-- the first CPUs, so many
abbrev pub seats_to : Board → ℕ → List CpuShown
seats_to b count = map (λ n. record { board = b; part = fresh_cpu b.shape n }) (range_with_len 0 count)

abbrev pub fresh_seats : Board → List CpuShown
fresh_seats b = seats_to b b.shape.cpus

-- the page cells of a CPU
abbrev pub pages_of : Board → ℕ → PoolShown
pages_of b n = record { board = b; cells = range_with_len (page_index b.shape n 0) b.shape.frames }

abbrev pub fresh_pages : Board → List PoolShown
fresh_pages b = map (pages_of b) (range_with_len 0 b.shape.cpus)

-- the cells of each vector of a CPU
abbrev pub fresh_vectors : Board → ℕ → List PoolShown
fresh_vectors b n = map (λ v. record { board = b; cells = range_with_len (object_index b.shape n v 0) 64 }) (range_with_len 0 b.shape.vectors)

-- all tokens of one table of the shape: words of 0, no hand, cells that hold nothing, an empty list, and 1 as the next id
pub record AreFresh (k : Shape) (s : Seats) : Type 0 where
  pub board : Board
  pub shape : board.shape ≡ k
  pub cpus : s.cpus.items ≡ fresh_seats board
  pub pages : s.pages.items ≡ fresh_pages board
  pub objects : map (λ v. v.items) s.objects.items ≡ map (fresh_vectors board) (range_with_len 0 board.shape.cpus)
  pub list : s.list ≡ record { board = board; part = fresh_list }
  pub loads : s.loads ≡ record { board = board; next = 1 }
