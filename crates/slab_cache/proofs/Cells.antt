-- The cells of a slab's vector: which are in its pool as places are taken and freed.
use Rattle.std.proofs.Common.{ℕ, ◌≡◌, ◌≢◌, ◌+◌, ◌<◌, ◌||◌, false, not, IsTrue, sym, ap, ◌∙◌, subst, inl, inr, arith}
use Rattle.std.specs.Int.{bit_at}
use Rattle.std.proofs.lemmas.Bool.{and_from, cases_eq, cases_lt, le-leb, lt-ltb, or_left, or_right}
use Rattle.tag_model.specs.Index.{object_index}
use Rattle.tag_model.specs.WordState.{in_range}
use Rattle.tag_rule.specs.Shown.{Board, has}
use Rattle.page_ext.proofs.Cells.{out_of_range}
use Rattle.slab_ext.specs.Vectors.{IsWhole, VectorShown}
use Rattle.tag_model.specs.Shape.{IsChecked}
use Rattle.slab_cache.specs.Tables.{GivesCell, HasFree, HasCell, TakesCell}
use Rattle.slab_cache.specs.declared.place.PlaceCell.{PlaceCell}
use Rattle.slab_cache.proofs.Places.{Takes, Gives}

pub one_in : (first : ℕ) → IsTrue (in_range first 1 first)
one_in first = and_from _ _ (le-leb first first (omega arith)) (lt-ltb first (first + 1) (omega arith))

pub not_in_one : (first n : ℕ) → n ≢ first → in_range first 1 n ≡ false
not_in_one first n ne = out_of_range first 1 n (elim (cases_lt n first) [ inl low ↦ inl low | inr high ↦ inr (omega arith) ])

-- ---- a vector's cells

pub has_cell : (board : Board) (home objects free place : ℕ) (v : VectorShown) → HasFree board home objects free v → IsChecked board.shape → home < board.shape.cpus → place < 64 → bit_at free place ≡ 1 → HasCell home place v
has_cell board home objects free place v has_free checked one short set =
    record {
      checked = subst (λ (b : Board). IsChecked b.shape) (sym has_free.table) checked;
      one = subst (λ (b : Board). home < b.shape.cpus) (sym has_free.table) one;
      in_shape = subst (λ (b : Board). v.number < b.shape.vectors) (sym has_free.table) has_free.in_shape;
      there = subst (λ (b : Board). IsTrue (has v.pool (object_index b.shape home v.number place))) (sym has_free.table) (has_free.cells place short (inl set));
    }

-- two places have two cells
apart : (board : Board) (home number a b : ℕ) → a ≢ b → object_index board.shape home number a ≢ object_index board.shape home number b
apart board home number a b ne e = ne (omega (arith, e))

pub free_after_take : (board : Board) (home objects free left place : ℕ) (v after : VectorShown) (cell : PlaceCell) → HasFree board home objects free v → TakesCell home place v after cell → Takes objects free left place → place < objects
    → HasFree board home objects left after
free_after_take board home objects free left place v after cell has_free takes bits within = record {
  table = takes.board ∙ has_free.table;
  in_shape = subst (λ n. n < board.shape.vectors) (sym takes.number) has_free.in_shape;
  cells = λ p short free_there.
      let ne : p ≢ place = λ same. elim free_there [ inl one ↦ (let none = subst (λ k. bit_at left k ≡ 0) (sym same) bits.here in absurd (omega arith)) | inr past ↦ absurd (omega (arith, same)) ] in
      let was = has_free.cells p short (elim free_there [ inl one ↦ inl (sym (bits.other p short ne) ∙ one) | inr past ↦ inr past ]) in
      let index : ℕ → ℕ = λ k. object_index board.shape home v.number k in
      let out : in_range (object_index v.pool.board.shape home v.number place) 1 (index p) ≡ false =
      subst (λ (b : Board). in_range (object_index b.shape home v.number place) 1 (index p) ≡ false) (sym has_free.table) (not_in_one (index place) (index p) (apart board home v.number p place ne)) in
      subst (λ n. IsTrue (has after.pool (object_index board.shape home n p))) (sym takes.number) (takes.cells (index p) ∙ and_from _ _ was (ap not out));
}

pub free_after_give : (board : Board) (home objects free left place : ℕ) (v after : VectorShown) (cell : PlaceCell) → HasFree board home objects free v → GivesCell v cell after → Gives objects free left place
    → cell.seat.first ≡ object_index board.shape home v.number place → cell.seat.count ≡ 1 → HasFree board home objects left after
free_after_give board home objects free left place v after cell has_free gives bits first count = record {
  table = gives.board ∙ has_free.table;
  in_shape = subst (λ n. n < board.shape.vectors) (sym gives.number) has_free.in_shape;
  cells = λ p short free_there.
      let index : ℕ → ℕ = λ k. object_index board.shape home v.number k in
      let here : IsTrue (has v.pool (index p) || in_range cell.seat.first cell.seat.count (index p)) =
      elim (cases_eq p place) [
        | inl same ↦ or_right _ _ (subst (λ c. IsTrue (in_range cell.seat.first c (index p))) (sym count) (subst (λ f. IsTrue (in_range f 1 (index p))) (sym first) (subst (λ k. IsTrue (in_range (index k) 1 (index p))) same (one_in (index p)))))
        | inr ne ↦ or_left _ _ (has_free.cells p short (elim free_there [ inl one ↦ inl (sym (bits.other p ne) ∙ one) | inr past ↦ inr past ]))
      ] in
      subst (λ n. IsTrue (has after.pool (object_index board.shape home n p))) (sym gives.number) (gives.cells (index p) ∙ here);
}

pub all_in : (board : Board) (home objects free : ℕ) (v : VectorShown) → HasFree board home objects free v → home < board.shape.cpus → ((i : ℕ) → i < objects → bit_at free i ≡ 1) → IsWhole home v.number v.pool
all_in board home objects free v has_free one set =
    subst (λ (b : Board). (home < b.shape.cpus) × (v.number < b.shape.vectors) × ((place : ℕ) → place < 64 → IsTrue (has v.pool (object_index b.shape home v.number place))) → IsWhole home v.number v.pool) has_free.table
    (λ parts. record { one = parts.0; in_shape = parts.1; cells = parts.2 })
    (one, has_free.in_shape, λ place short. has_free.cells place short (elim (cases_lt place objects) [ inl inside ↦ inl (set place inside) | inr past ↦ inr past ]))

pub whole_free : (board : Board) (home objects free : ℕ) (v : VectorShown) → IsWhole home v.number v.pool → v.pool.board ≡ board → HasFree board home objects free v
whole_free board home objects free v whole table = record {
  table = table;
  in_shape = subst (λ (b : Board). v.number < b.shape.vectors) table whole.in_shape;
  cells = λ place short unused. subst (λ (b : Board). IsTrue (has v.pool (object_index b.shape home v.number place))) table (whole.cells place short);
}
