-- The cells of frames in a node's pool, and the bounds of blocks.
use Rattle.std.proofs.Common.{ℕ, zero, suc, ◌≡◌, ◌+◌, ◌-◌, ◌%◌, ◌^◌, ◌<◌, ◌≤◌, ◌⊎◌, ◌&&◌, Bool, true, false, not, nat_le, nat_lt, IsTrue, List, length, slice_get, Some, inl, inr, refl, sym, ap, ◌∙◌, subst, arith, leb-true}
use Rattle.std.proofs.lemmas.Bool.{and_parts, and_from, and_left, and_right, cases_lt, lt-leb, le-ltb, ltb-true, both_ways}
use Rattle.std.proofs.lemmas.Option.{same_Some}
use Rattle.tag_model.specs.Index.{page_index}
use Rattle.tag_model.specs.WordState.{in_range}
use Rattle.tag_rule.specs.Shown.{PoolShown, has}
use Rattle.buddy.specs.Frames.{marked, AllAre}
use Rattle.buddy.proofs.FrameLemmas.{all_within, length-marked, marked_at, unmarked_at}
use Rattle.page_ext.specs.Shown.{IsNode, IsBlock}

-- ---- a block's bounds

-- half of an order's frames, for each order but 0
pub record Halves (frame order : ℕ) : Type 0 where
  pub twice : 2 ^ order ≡ 2 ^ (order - 1) + 2 ^ (order - 1)
  pub some : 0 < 2 ^ (order - 1)
  pub few : 2 ^ (order - 1) ≤ 512
  pub low : frame % 2 ^ (order - 1) ≡ 0
  pub high : (frame + 2 ^ (order - 1)) % 2 ^ (order - 1) ≡ 0

pub halves : (frame order : ℕ) → 0 < order → order ≤ 10 → frame % 2 ^ order ≡ 0 → Halves frame order
halves frame (suc zero) s l e = record { twice = refl; some = omega arith; few = omega arith; low = omega arith; high = omega arith }
halves frame (suc (suc zero)) s l e = record { twice = refl; some = omega arith; few = omega arith; low = omega arith; high = omega arith }
halves frame (suc (suc (suc zero))) s l e = record { twice = refl; some = omega arith; few = omega arith; low = omega arith; high = omega arith }
halves frame (suc (suc (suc (suc zero)))) s l e = record { twice = refl; some = omega arith; few = omega arith; low = omega arith; high = omega arith }
halves frame (suc (suc (suc (suc (suc zero))))) s l e = record { twice = refl; some = omega arith; few = omega arith; low = omega arith; high = omega arith }
halves frame (suc (suc (suc (suc (suc (suc zero)))))) s l e = record { twice = refl; some = omega arith; few = omega arith; low = omega arith; high = omega arith }
halves frame (suc (suc (suc (suc (suc (suc (suc zero))))))) s l e = record { twice = refl; some = omega arith; few = omega arith; low = omega arith; high = omega arith }
halves frame (suc (suc (suc (suc (suc (suc (suc (suc zero)))))))) s l e = record { twice = refl; some = omega arith; few = omega arith; low = omega arith; high = omega arith }
halves frame (suc (suc (suc (suc (suc (suc (suc (suc (suc zero))))))))) s l e = record { twice = refl; some = omega arith; few = omega arith; low = omega arith; high = omega arith }
halves frame (suc (suc (suc (suc (suc (suc (suc (suc (suc (suc zero)))))))))) s l e = record { twice = refl; some = omega arith; few = omega arith; low = omega arith; high = omega arith }
halves frame order s l e = absurd (omega arith)

pub low_is_block : (frame order : ℕ) → 0 < order → IsBlock frame order → IsBlock frame (order - 1)
low_is_block frame order some block =
    let h = halves frame order some block.small block.aligned in
    let within = block.within in
    let small = block.small in
    record { small = omega arith; aligned = h.low; within = omega (arith, h.twice) }

pub high_is_block : (frame order count : ℕ) → 0 < order → IsBlock frame order → count ≡ 2 ^ (order - 1) → IsBlock (frame + count) (order - 1)
high_is_block frame order count some block is =
    let h = halves frame order some block.small block.aligned in
    let within = block.within in
    let small = block.small in
    record {
      small = omega arith;
      aligned = subst (λ n. (frame + n) % 2 ^ (order - 1) ≡ 0) (sym is) h.high;
      within = omega (arith, h.twice, is);
    }

-- ---- cells in a node's pool

pub range_low : (first count n : ℕ) → IsTrue (in_range first count n) → first ≤ n
range_low first count n inside = leb-true first n (and_parts (nat_le first n) (nat_lt n (first + count)) inside).0

pub range_high : (first count n : ℕ) → IsTrue (in_range first count n) → n < first + count
range_high first count n inside = ltb-true n (first + count) (and_parts (nat_le first n) (nat_lt n (first + count)) inside).1

pub out_of_range : (first count n : ℕ) → (n < first) ⊎ (first + count ≤ n) → in_range first count n ≡ false
out_of_range first count n (inl low) = and_left _ _ (lt-leb first n low)
out_of_range first count n (inr high) = and_right _ _ (le-ltb n (first + count) high)

-- the pool has the cells of frames that are free
pub free_cells : (cpu start order first n : ℕ) (frames : List Bool) (pool : PoolShown) → IsNode cpu frames pool → AllAre false frames start order → first ≡ page_index pool.board.shape cpu start
    → IsTrue (in_range first (2 ^ order) n) → IsTrue (has pool n)
free_cells cpu start order first n frames pool node free is inside =
    let low = range_low first (2 ^ order) n inside in
    let high = range_high first (2 ^ order) n inside in
    let place : page_index pool.board.shape cpu (start + (n - first)) ≡ n = omega arith in
    subst (λ m. IsTrue (has pool m)) place (node.cells (start + (n - first)) (free (start + (n - first)) (omega arith) (omega arith)))

-- once they are parted off and the frames are taken, the node is whole again
pub node_taken : (cpu start order first count : ℕ) (frames : List Bool) (pool new : PoolShown) → IsNode cpu frames pool → AllAre false frames start order → first ≡ page_index pool.board.shape cpu start → count ≡ 2 ^ order
    → new.board ≡ pool.board → ((n : ℕ) → has new n ≡ (has pool n && not (in_range first count n)))
    → IsNode cpu (marked true start order frames) new
node_taken cpu start order first count frames pool new node free is is_count board cells =
    let within = all_within false frames start order free in
    subst (λ b. IsNode cpu (marked true start order frames) (record { board = b; cells = new.cells })) (sym board)
    (record {
      one = node.one;
      few = (let f = node.few in omega (arith, length-marked true start order frames within));
      cells = λ frame unused.
          let out = outside frame within unused in
          let was : slice_get frames frame ≡ Some false = sym (unmarked_at true start order frames frame within out) ∙ unused in
          let here = node.cells frame was in
          let past : in_range first count (page_index pool.board.shape cpu frame) ≡ false =
          out_of_range first count _ (elim out [ inl l ↦ inl (omega arith) | inr l ↦ inr (omega arith) ]) in
          cells (page_index pool.board.shape cpu frame) ∙ and_from _ _ here (ap not past);
    })
  where
    outside : (frame : ℕ) → start + 2 ^ order ≤ length frames → slice_get (marked true start order frames) frame ≡ Some false → (frame < start) ⊎ (start + 2 ^ order ≤ frame)
    outside frame within unused = elim (cases_lt frame start) [
      | inl low ↦ inl low
      | inr high ↦ elim (cases_lt frame (start + 2 ^ order)) [
        | inl low ↦ absurd (both_ways true (same_Some true false (sym (marked_at true start order frames frame within high low) ∙ unused)) refl)
        | inr past ↦ inr past
      ]
    ]
