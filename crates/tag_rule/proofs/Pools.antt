-- Base moves of cells: out of a pool, back into one, and a run cut in two.
use Rattle.std.proofs.Common.{◌≡◌, ℕ, ◌+◌, ◌-◌, ◌<◌, ◌≤◌, ◌==◌, ◌&&◌, ◌||◌, ◌⊎◌, zero, suc, List, [], ◌∷◌, ◌++◌, take, drop, sum_by, count_by, sym, refl, ap, subst, ◌∙◌, arith, cond, not, Bool, true, false, nat_le, nat_lt, inl, inr, leb-true, ltb-true, le-leb, lt-ltb}
use Rattle.std.specs.List.{list_any, range_with_len}
use Rattle.std.proofs.lemmas.Bool.{cases_Bool, and_parts, and_from}
use Rattle.std.proofs.lemmas.List.{map-append}
use Rattle.std.proofs.lemmas.List.Folds.{list_any-append, list_all-append}
use Rattle.std.proofs.lemmas.List.FromFn.{take-map-range_with_len}
use Rattle.std.proofs.lemmas.List.Sums.{sum_by-append, sum_by-cons}
use Rattle.tag_model.specs.declared.shape.Shape.{Shape}
use Rattle.tag_model.specs.declared.state.Held.{Held}
use Rattle.tag_model.specs.declared.state.Held.TheVariants as held
use Rattle.tag_model.specs.declared.state.Part.{Part}
use Rattle.tag_model.specs.declared.state.Part.TheVariants.{Place}
use Rattle.tag_model.specs.Index.{first_cell, word_count}
use Rattle.tag_model.specs.WordState.{in_range, is_place_at}
use Rattle.tag_model.proofs.Found.{count_at, found_any}
use Rattle.tag_model.proofs.Lists.{in_range_from}
use Rattle.atomic_table.specs.Table.{Me}
use Rattle.std.specs.Arc.{arc_value}
use Rattle.tag_rule.specs.declared.cells.CellPool.TheInside as pool
use Rattle.tag_rule.specs.declared.view.View.{View}
use Rattle.tag_rule.specs.declared.words.Words.{Words}
use Rattle.tag_rule.specs.Shown.{Board, CellShown, PoolShown, has}
use Rattle.tag_rule.specs.Tokens.{board_of, IsCellPool}
use Rattle.tag_rule.specs.Fresh.{empty_cell, places}
use Rattle.tag_rule.specs.Rule.{view_of, Moves, Tells}
use Rattle.tag_rule.specs.Seated.{cells_in, cell_parts, CellHolds, CellsHold}
use Rattle.tag_rule.proofs.Keeps.{same_parts}
use Rattle.tag_rule.proofs.Runs.{outside, sum_outside, has_outside, has_range, all_outside, count_outside, has_once, all_has}
use Rattle.tag_model.proofs.Lists.{all_range}

-- ---- the cells of a seat

pub cells_of : (xs : List ℕ) → cells_in (places xs) ≡ xs
cells_of [] = refl
cells_of (x ∷ xs) = ap (λ (ys : List ℕ). x ∷ ys) (cells_of xs)

pub sum_places : (f : Part → ℕ) (xs : List ℕ) → sum_by f (places xs) ≡ sum_by (λ n. f (empty_cell n)) xs
sum_places f [] = refl
sum_places f (x ∷ xs) = omega (arith, sum_places f xs, sum_by-cons f (empty_cell x) (places xs), sum_by-cons (λ (n : ℕ). f (empty_cell n)) x xs)

-- a run of cells none of which holds anything
pub empty_run : (first count : ℕ) → 0 < count → cell_parts first count held.None ≡ places (range_with_len first count)
empty_run first zero h = absurd (omega arith)
empty_run first (suc count) h = let e : suc count - 1 ≡ count = omega arith in ap (λ (c : ℕ). empty_cell first ∷ places (range_with_len (first + 1) c)) e

-- ---- out of a pool

-- the cells that are left
abbrev pub left_of : ℕ → ℕ → List Part → List Part
left_of first count parts = places (outside first count (cells_in parts))

module _ (k : Shape) (first count : ℕ) (cells : List ℕ) (some : 0 < count) (holds : CellsHold k cells) (there : (n : ℕ) → in_range first count n ≡ true → list_any (λ m. m == n) cells ≡ true) where
  once : (n : ℕ) → first ≤ n → n < first + count → count_by (λ m. m == n) cells ≡ 1
  once n low high = has_once n cells (holds.once n) (there n (in_range_from first count n low high))

  pub part_moves : Moves k (places cells) (places (outside first count cells) ++ cell_parts first count held.None)
  part_moves = same_parts k (places cells) (places (outside first count cells) ++ cell_parts first count held.None) (λ f.
      let run : sum_by f (cell_parts first count held.None) ≡ sum_by f (places (range_with_len first count)) = ap (λ (ps : List Part). sum_by f ps) (empty_run first count some) in
      omega (
        arith,
        sum_by-append f (places (outside first count cells)) (cell_parts first count held.None),
        sum_outside first count (λ n. f (empty_cell n)) cells once,
        sum_places f cells,
        sum_places f (outside first count cells),
        sum_places f (range_with_len first count),
      ))

  within : (n : ℕ) → first ≤ n → n < first + count → (first_cell k ≤ n) × (n < word_count k)
  within n low high =
      let both = and_parts (nat_le (first_cell k) n) (nat_lt n (word_count k)) (all_has (λ m. nat_le (first_cell k) m && nat_lt m (word_count k)) n cells holds.within (there n (in_range_from first count n low high))) in
      (leb-true (first_cell k) n both.0, ltb-true n (word_count k) both.1)

  pub part_cell : CellHolds k first count held.None
  part_cell =
      let last : ℕ = first + (count - 1) in
      let low = within first (omega arith) (omega arith) in
      let high = within last (omega arith) (omega arith) in
      record { some = some; low = low.0; high = omega arith; held = refl; in_tags = refl }

  pub part_pool : CellsHold k (outside first count cells)
  part_pool = record { once = λ n. omega (arith, holds.once n, count_outside (λ m. m == n) first count cells); within = all_outside _ first count cells holds.within }

-- ---- the same, by what the pool shows: `w` is the table that a call found behind its share, which is `own`
module _ (w own : Words) (v : View) (shown : PoolShown) (first count : ℕ) (same : w ≡ own) (is : v ≡ view_of (places (cells_in v.parts))) (view : record { board = board_of own; cells = cells_in v.parts } ≡ shown)
    (holds : CellsHold own.shape (cells_in v.parts)) (some : 0 < count) (there : (n : ℕ) → in_range first count n ≡ true → has shown n ≡ true) where
  there_in : (n : ℕ) → in_range first count n ≡ true → list_any (λ m. m == n) (cells_in v.parts) ≡ true
  there_in n e = subst (λ (x : PoolShown). has x n ≡ true) (sym view) (there n e)

  pub part_moves_shown : Moves w.shape v.parts (left_of first count v.parts ++ cell_parts first count held.None)
  part_moves_shown = subst (λ (x : Words). Moves x.shape v.parts (left_of first count v.parts ++ cell_parts first count held.None)) (sym same)
      (subst (λ (ps : List Part). Moves own.shape ps (left_of first count v.parts ++ cell_parts first count held.None)) (ap (λ (x : View). x.parts) (sym is)) (part_moves own.shape first count (cells_in v.parts) some holds there_in))

  pub part_cell_shown : CellHolds own.shape first count held.None
  part_cell_shown = part_cell own.shape first count (cells_in v.parts) some holds there_in

  pub part_pool_shown : CellsHold own.shape (outside first count (cells_in v.parts))
  part_pool_shown = part_pool own.shape first count (cells_in v.parts) some holds there_in

-- ---- a pool after a move

pub pool_after : (s : pool.Inside) (xs : List ℕ) (slots : List (ℕ × Unit {0})) → s.seat.table_id ≡ (arc_value s.words).table.shared.table_id → s.seat.me ≡ (view_of (places xs), slots) → slots ≡ [] → CellsHold (arc_value s.words).shape xs → IsCellPool s
pool_after s xs slots table me bare holds =
    let cells : cells_in s.seat.me.0.parts ≡ xs = ap (λ (m : Me (Unit {0}) View). cells_in m.0.parts) me ∙ cells_of xs in
    record {
      table = table;
      me = me ∙ (λ i. (view_of (places (sym cells i)), bare i));
      holds = subst (λ (ys : List ℕ). CellsHold (arc_value s.words).shape ys) (sym cells) holds;
    }

-- what the pool shows then
pub pool_has : (own : Words) (m : Me (Unit {0}) View) (shown : PoolShown) (v : View) (slots : List (ℕ × Unit {0})) (first count n : ℕ) → m ≡ (view_of (left_of first count v.parts), slots) → record { board = board_of own; cells = cells_in v.parts } ≡ shown
    → list_any (λ x. x == n) (cells_in m.0.parts) ≡ (has shown n && not (in_range first count n))
pool_has own m shown v slots first count n me view =
    let cells : cells_in m.0.parts ≡ outside first count (cells_in v.parts) = ap (λ (x : Me (Unit {0}) View). cells_in x.0.parts) me ∙ cells_of (outside first count (cells_in v.parts)) in
    let was : list_any (λ x. x == n) (cells_in v.parts) ≡ has shown n = ap (λ (x : PoolShown). has x n) view in
    ap (λ (ys : List ℕ). list_any (λ x. x == n) ys) cells ∙ (has_outside n first count (cells_in v.parts) ∙ ap (λ (b : Bool). b && not (in_range first count n)) was)

-- ---- back into a pool

-- no place stands twice among the parts
abbrev pub Apart : List Part → Type 0
Apart parts = (n : ℕ) → sum_by (is_place_at n) parts ≤ 1

pub stand_apart : (k : Shape) (v : List Part) → Tells k v (Apart v)
stand_apart k v ps ok b safe n = omega (arith, b.before (is_place_at n), safe.each.places n)

some_count : (n : ℕ) (xs : List ℕ) → list_any (λ m. m == n) xs ≡ true → 0 < count_by (λ m. m == n) xs
some_count n xs any =
    let f = found_any (λ m. m == n) xs any in
    subst (λ (ys : List ℕ). 0 < count_by (λ m. m == n) ys) (sym f.is) (count_at (λ m. m == n) f.front f.item f.back f.passes)

-- the pool's cells and a run behind them
joined_cells : (xs : List ℕ) (first count : ℕ) → 0 < count → places xs ++ cell_parts first count held.None ≡ places (xs ++ range_with_len first count)
joined_cells xs first count some = ap (λ (ps : List Part). places xs ++ ps) (empty_run first count some) ∙ sym (map-append empty_cell xs (range_with_len first count))

count_places : (n : ℕ) (xs : List ℕ) → sum_by (is_place_at n) (places xs) ≡ count_by (λ m. m == n) xs
count_places n xs = sum_places (is_place_at n) xs

module _ (own : Words) (v w now : View) (cell : CellShown) (shown : PoolShown) (is : v ≡ view_of (places (cells_in v.parts))) (view : record { board = board_of own; cells = cells_in v.parts } ≡ shown) (holds : CellsHold own.shape (cells_in v.parts))
    (cell_is : w ≡ view_of (cell_parts cell.first cell.count cell.held)) (fits : CellHolds cell.board.shape cell.first cell.count cell.held) (board : cell.board ≡ shown.board) (none : cell.held ≡ held.None)
    (now_is : now ≡ view_of (v.parts ++ w.parts)) (apart : Apart now.parts) where
  abbrev pub both_cells : List ℕ
  both_cells = cells_in v.parts ++ range_with_len cell.first cell.count

  pub united : now ≡ view_of (places both_cells)
  united =
      now_is ∙ (λ i. view_of ((ap (λ (x : View). x.parts) is) i ++ (ap (λ (x : View). x.parts) cell_is) i))
      ∙ ap (λ (h : Held). view_of (places (cells_in v.parts) ++ cell_parts cell.first cell.count h)) none
      ∙ ap (λ (ps : List Part). view_of ps) (joined_cells (cells_in v.parts) cell.first cell.count fits.some)

  few : (n : ℕ) → count_by (λ m. m == n) both_cells ≤ 1
  few n = omega (arith, count_places n both_cells, subst (λ (x : View). sum_by (is_place_at n) x.parts ≤ 1) united (apart n))

  shape : cell.board.shape ≡ own.shape
  shape = ap (λ (b : Board). b.shape) board ∙ ap (λ (x : PoolShown). x.board.shape) (sym view)

  pub united_holds : CellsHold own.shape both_cells
  united_holds = record {
    once = few;
    within = list_all-append (λ n. nat_le (first_cell own.shape) n && nat_lt n (word_count own.shape)) (cells_in v.parts) (range_with_len cell.first cell.count) ∙ and_from _ _ holds.within
        (all_range (λ n. nat_le (first_cell own.shape) n && nat_lt n (word_count own.shape)) cell.first cell.count (λ n low high.
        let bound = subst (λ (k : Shape). CellHolds k cell.first cell.count cell.held) shape fits in
        and_from _ _ (le-leb (first_cell own.shape) n (omega (arith, bound.low))) (lt-ltb n (word_count own.shape) (omega (arith, bound.high)))));
  }

  pub united_has : (n : ℕ) → list_any (λ m. m == n) (cells_in now.parts) ≡ (has shown n || in_range cell.first cell.count n)
  united_has n =
      let are : cells_in now.parts ≡ both_cells = ap (λ (x : View). cells_in x.parts) united ∙ cells_of both_cells in
      let was : list_any (λ m. m == n) (cells_in v.parts) ≡ has shown n = ap (λ (x : PoolShown). has x n) view in
      ap (λ (ys : List ℕ). list_any (λ m. m == n) ys) are ∙ list_any-append (λ m. m == n) (cells_in v.parts) (range_with_len cell.first cell.count) ∙ (λ i. was i || has_range n cell.first cell.count i)

  -- the pool had none of these cells
  pub united_apart : (n : ℕ) → in_range cell.first cell.count n ≡ true → has shown n ≡ false
  united_apart n inside = go (cases_Bool (has shown n))
    where
      go : (has shown n ≡ true) ⊎ (has shown n ≡ false) → has shown n ≡ false
      go (inr e) = e
      go (inl e) =
          let had : list_any (λ m. m == n) (cells_in v.parts) ≡ true = ap (λ (x : PoolShown). has x n) view ∙ e in
          let there : list_any (λ m. m == n) (range_with_len cell.first cell.count) ≡ true = has_range n cell.first cell.count ∙ inside in
          absurd (omega (arith, few n, some_count n (cells_in v.parts) had, some_count n (range_with_len cell.first cell.count) there, sum_by-append (λ (m : ℕ). cond {A = ℕ} (m == n) 1 0) (cells_in v.parts) (range_with_len cell.first cell.count)))

-- ---- a run cut in two

pub drop_places : (n a m : ℕ) → drop n (places (range_with_len a m)) ≡ places (range_with_len (a + n) (m - n))
drop_places zero a m = λ i. places (range_with_len (plus i) (minus i))
  where
    plus : a ≡ a + 0
    plus = omega arith

    minus : m ≡ m - 0
    minus = omega arith
drop_places (suc n) a zero = let none : zero - suc n ≡ 0 = omega arith in ap (λ (x : ℕ). places (range_with_len (a + suc n) x)) (sym none)
drop_places (suc n) a (suc m) =
    let more : a + 1 + n ≡ a + suc n = omega arith in
    let less : m - n ≡ suc m - suc n = omega arith in
    drop_places n (a + 1) m ∙ (λ i. places (range_with_len (more i) (less i)))

pub front_run : (first all count : ℕ) (h : Held) → 0 < count → count < all → take count (cell_parts first all h) ≡ cell_parts first count h
front_run first all zero h some less = absurd (omega arith)
front_run first all (suc n) h some less =
    let e : suc n - 1 ≡ n = omega arith in
    ap (λ (ps : List Part). Place first h ∷ ps) (take-map-range_with_len empty_cell (first + 1) (all - 1) n (omega arith) ∙ ap (λ (c : ℕ). places (range_with_len (first + 1) c)) (sym e))

pub back_run : (first all count : ℕ) (h : Held) → 0 < count → count < all → drop count (cell_parts first all h) ≡ cell_parts (first + count) (all - count) held.None
back_run first all zero h some less = absurd (omega arith)
back_run first all (suc n) h some less =
    let from : first + 1 + n ≡ first + suc n = omega arith in
    let long : all - 1 - n ≡ all - suc n = omega arith in
    drop_places n (first + 1) (all - 1) ∙ (λ i. places (range_with_len (from i) (long i))) ∙ sym (empty_run (first + suc n) (all - suc n) (omega arith))

pub front_holds : (k : Shape) (first all count : ℕ) (h : Held) → CellHolds k first all h → 0 < count → count < all → CellHolds k first count h
front_holds k first all count h holds some less = record { some = some; low = holds.low; high = omega (arith, holds.high); held = holds.held; in_tags = holds.in_tags }

pub back_holds : (k : Shape) (first all count : ℕ) (h : Held) → CellHolds k first all h → 0 < count → count < all → CellHolds k (first + count) (all - count) held.None
back_holds k first all count h holds some less = record { some = omega arith; low = omega (arith, holds.low); high = omega (arith, holds.high); held = refl; in_tags = refl }

abbrev Known : Type 0
Known = Me (Unit {0}) View

pub front_me : (m old : Known) (first all count : ℕ) (h : Held) → old ≡ (view_of (cell_parts first all h), []) → m ≡ (view_of (take count old.0.parts), old.1) → 0 < count → count < all → m ≡ (view_of (cell_parts first count h), [])
front_me m old first all count h is cut some less = cut ∙ (λ i. (view_of (take count (is i).0.parts), (is i).1)) ∙ ap (λ (ps : List Part). (view_of ps, [])) (front_run first all count h some less)

pub back_me : (m old : Known) (first all count : ℕ) (h : Held) → old ≡ (view_of (cell_parts first all h), []) → m ≡ (view_of (drop count old.0.parts), []) → 0 < count → count < all → m ≡ (view_of (cell_parts (first + count) (all - count) held.None), [])
back_me m old first all count h is cut some less = cut ∙ (λ i. (view_of (drop count (is i).0.parts), [])) ∙ ap (λ (ps : List Part). (view_of ps, [])) (back_run first all count h some less)
