-- The workers so far, and the pools that are left for those that come.
use Rattle.std.proofs.Common.{◌≡◌, ◌+◌, ◌-◌, ◌<◌, ◌++◌, ℕ, List, [], ◌∷◌, ap, drop, length, map, sym, take, zero-add, ◌∙◌}
use Rattle.std.proofs.lemmas.List.FromFn.{map-range_with_len_more}
use Rattle.std.specs.Prelude.{slice_index_or}
use Rattle.tag_rule.specs.Made.{fresh_vectors, pages_of}
use Rattle.tag_rule.specs.Shown.{Board, PoolShown}
use Rattle.round_worker.specs.Shown.{WorkerShown}
use Rattle.plant.specs.Fresh.{fresh_worker, fresh_workers, pages_from, vectors_from}
use Rattle.plant.proofs.Dealt.{FirstOut, HeadOut, first_out, from_next, head_out, head_there}

-- ---- pools

module _ (b : Board) (cpu end : ℕ) (below : cpu < end) where
  pages_next : pages_from b cpu (end - cpu) ≡ pages_of b cpu ∷ pages_from b (cpu + 1) (end - (cpu + 1))
  pages_next = ap (λ (numbers : List ℕ). map (pages_of b) numbers) (from_next cpu end below)

  vectors_next : vectors_from b cpu (end - cpu) ≡ fresh_vectors b cpu ∷ vectors_from b (cpu + 1) (end - (cpu + 1))
  vectors_next = ap (λ (numbers : List ℕ). map (fresh_vectors b) numbers) (from_next cpu end below)

  pub some_pages : (xs : List PoolShown) → xs ≡ pages_from b cpu (end - cpu) → 0 < length xs
  some_pages xs is = head_there (pages_of b cpu) (pages_from b (cpu + 1) (end - (cpu + 1))) xs (is ∙ pages_next)

  pub page_out : (xs left : List PoolShown) (out : PoolShown) → xs ≡ pages_from b cpu (end - cpu) → out ≡ slice_index_or xs 0 out → left ≡ take 0 xs ++ drop (0 + 1) xs
      → HeadOut (pages_of b cpu) (pages_from b (cpu + 1) (end - (cpu + 1))) left out
  page_out xs left out is at left_is = head_out (pages_of b cpu) (pages_from b (cpu + 1) (end - (cpu + 1))) xs left out (is ∙ pages_next) at left_is

  pub vectors_out : {V : Type 0} (items : V → List PoolShown) (xs left : List V) (out : V) → map items xs ≡ vectors_from b cpu (end - cpu) → out ≡ slice_index_or xs 0 out → left ≡ take 0 xs ++ drop (0 + 1) xs
      → FirstOut items (fresh_vectors b cpu) (vectors_from b (cpu + 1) (end - (cpu + 1))) left out
  vectors_out items xs left out is at left_is = first_out items (fresh_vectors b cpu) (vectors_from b (cpu + 1) (end - (cpu + 1))) xs left out (is ∙ vectors_next) at left_is

-- ---- workers

-- one worker more
pub workers_more : (b board : Board) (frames vectors cpu : ℕ) (before : List WorkerShown) (worker : WorkerShown) → before ≡ fresh_workers b frames vectors cpu → worker ≡ fresh_worker board frames vectors cpu → board ≡ b
    → before ++ worker ∷ [] ≡ fresh_workers b frames vectors (cpu + 1)
workers_more b board frames vectors cpu before worker is one same =
    ap (λ (ws : List WorkerShown). ws ++ worker ∷ []) is
    ∙ ap (λ (w : WorkerShown). fresh_workers b frames vectors cpu ++ w ∷ []) (one ∙ ap (λ (x : Board). fresh_worker x frames vectors cpu) same)
    ∙ sym (map-range_with_len_more (fresh_worker b frames vectors) 0 cpu cpu (zero-add cpu))
