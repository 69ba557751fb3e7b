-- What stands in a new table: the CPUs, the list and the pools of page cells.
use Rattle.std.proofs.Common.{◌≡◌, ℕ, ◌<◌, ◌≤◌, IsTrue, List, length, slice_index_or, refl, ap, sym, ◌∙◌, subst, arith}
use Rattle.std.proofs.lemmas.Grind.{common_steps}
use Rattle.std.proofs.lemmas.List.FromFn.{get_or-map-range_with_len, length-map-range_with_len}
use Rattle.std.specs.List.{range_with_len}
use Rattle.tag_model.specs.declared.shape.Shape.{Shape}
use Rattle.tag_model.specs.Index.{page_index}
use Rattle.tag_model.specs.WordState.{in_range}
use Rattle.tag_rule.specs.declared.making.Seats.{Seats}
use Rattle.tag_rule.specs.Fresh.{fresh_cpu}
use Rattle.tag_rule.specs.Made.{AreFresh}
use Rattle.tag_rule.specs.Shown.{CellShown, CpuShown, ListShown, PoolShown, has}
use Rattle.tag_rule.proofs.Runs.{has_range}

some_cpu : (k : Shape) (s : Seats) (f : AreFresh k s) → 0 < k.cpus → 0 < f.board.shape.cpus
some_cpu k s f some = subst (λ (shape : Shape). 0 < shape.cpus) (sym f.shape) some

-- the first CPU's pool of page cells
pub first_pool : (k : Shape) (s : Seats) (f : AreFresh k s) (p : PoolShown) → 0 < k.cpus → p ≡ slice_index_or s.pages.items 0 p
    → p ≡ record { board = f.board; cells = range_with_len (page_index f.board.shape 0 0) f.board.shape.frames }
first_pool k s f p some is =
    is ∙ ap (λ (pools : List PoolShown). slice_index_or pools 0 p) f.pages
    ∙ get_or-map-range_with_len (λ n. record { board = f.board; cells = range_with_len (page_index f.board.shape n 0) f.board.shape.frames }) 0 f.board.shape.cpus 0 0 p (some_cpu k s f some) refl

longer : (first count all n : ℕ) → count ≤ all → IsTrue (in_range first count n) → IsTrue (in_range first all n)
longer first count all n le h = grind (arith, common_steps)

pub pool_has : (k : Shape) (s : Seats) (f : AreFresh k s) (p : PoolShown) (first count n : ℕ) → 0 < k.cpus → p ≡ slice_index_or s.pages.items 0 p → first ≡ page_index k 0 0 → count ≤ k.frames
    → IsTrue (in_range first count n) → IsTrue (has p n)
pool_has k s f p first count n some is at le h =
    let there : IsTrue (in_range (page_index k 0 0) k.frames n) = longer (page_index k 0 0) count k.frames n le (subst (λ x. IsTrue (in_range x count n)) at h) in
    let shown : IsTrue (in_range (page_index f.board.shape 0 0) f.board.shape.frames n) = subst (λ (shape : Shape). IsTrue (in_range (page_index shape 0 0) shape.frames n)) (sym f.shape) there in
    ap (λ (pool : PoolShown). has pool n) (first_pool k s f p some is) ∙ has_range n (page_index f.board.shape 0 0) f.board.shape.frames ∙ shown

pub cpu_at : (k : Shape) (s : Seats) (f : AreFresh k s) (i : ℕ) (d : CpuShown) → i < length s.cpus.items → slice_index_or s.cpus.items i d ≡ record { board = f.board; part = fresh_cpu f.board.shape i }
cpu_at k s f i d low =
    let all : length s.cpus.items ≡ f.board.shape.cpus = ap length f.cpus ∙ length-map-range_with_len (λ n. record { board = f.board; part = fresh_cpu f.board.shape n }) 0 f.board.shape.cpus in
    ap (λ (cpus : List CpuShown). slice_index_or cpus i d) f.cpus ∙ get_or-map-range_with_len (λ n. record { board = f.board; part = fresh_cpu f.board.shape n }) 0 f.board.shape.cpus i i d (omega (arith, all, low)) (omega arith)

pub cpus_long : (k : Shape) (s : Seats) (f : AreFresh k s) → length s.cpus.items ≡ k.cpus
cpus_long k s f =
    ap length f.cpus ∙ length-map-range_with_len (λ n. record { board = f.board; part = fresh_cpu f.board.shape n }) 0 f.board.shape.cpus ∙ ap (λ (shape : Shape). shape.cpus) f.shape

pub list_there : (k : Shape) (s : Seats) (f : AreFresh k s) → s.list.board ≡ f.board
list_there k s f = ap (λ (l : ListShown). l.board) f.list

pub pages_long : (k : Shape) (s : Seats) (f : AreFresh k s) → length s.pages.items ≡ k.cpus
pages_long k s f =
    ap length f.pages ∙ length-map-range_with_len (λ n. record { board = f.board; cells = range_with_len (page_index f.board.shape n 0) f.board.shape.frames }) 0 f.board.shape.cpus
    ∙ ap (λ (shape : Shape). shape.cpus) f.shape

-- a run out of the first CPU's pool is of the table
pub run_there : (k : Shape) (s : Seats) (f : AreFresh k s) (p : PoolShown) (run : CellShown) → 0 < k.cpus → p ≡ slice_index_or s.pages.items 0 p → run.board ≡ p.board → run.board ≡ s.list.board
run_there k s f p run some is out = out ∙ ap (λ (pool : PoolShown). pool.board) (first_pool k s f p some is) ∙ sym (list_there k s f)
