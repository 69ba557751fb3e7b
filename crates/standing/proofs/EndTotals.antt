-- The words of all CPUs of a table, added, where they are what a machine's moves make of words of 0.
use Rattle.std.proofs.Common.{◌≡◌, ℕ, ◌+◌, ◌<◌, ◌≤◌, Bool, true, false, cond, ltb, List, [], ◌∷◌, length, map, refl, sym, ap, ◌∙◌, arith, le-ltb, ⊎_elim}
use Rattle.std.specs.Prelude.{slice_index, slice_set, ◌*◌, ◌==◌, replicate, sum_by}
use Rattle.std.specs.List.{range_with_len}
use Rattle.std.proofs.lemmas.Bool.{cases_lt}
use Rattle.std.proofs.lemmas.List.{get_or-replicate, get_or_past, length-replicate, length-set}
use Rattle.std.proofs.lemmas.List.Sums.{sum_by-cons}
use Rattle.trace_play.proofs.RangeSums.{zeros, zeros_beyond}
use Rattle.tag_model.specs.declared.state.Kind.{Kind}
use Rattle.tag_model.specs.Moves.{Move, moved_word}
use Rattle.tag_model.specs.RefMoves.{words_after_move, words_after_moves}
use Rattle.tag_model.specs.WordState.{word_place}
use Rattle.tag_model.specs.Wrap.{wrap, wrap_minus}
use Rattle.tag_model.proofs.MovedWords.{follows}
use Rattle.tag_rule.specs.Shown.{Board, CpuShown}
use Rattle.percpu_words.specs.CpuWords.{word_in}
use Rattle.reclaim.specs.Quiet.{total}
use Rattle.round_modules.specs.Inside.{outside}
use Rattle.trace_play.specs.Machine.{Machine}
use Rattle.trace_play.specs.Totals.{words_total}
use Rattle.trace_play.proofs.WordsTotal.{AreLow}
use Rattle.standing.specs.Standing.{CpusStand, standing_cpu}
use Rattle.standing.proofs.CpusMoved.{none_of}

-- ---- sums

sum_map : {X Y : Type 0} (f : Y → ℕ) (g : X → Y) (xs : List X) → sum_by f (map g xs) ≡ sum_by (λ x. f (g x)) xs
sum_map f g [] = refl
sum_map f g (x ∷ xs) = sum_by-cons f (g x) (map g xs) ∙ ap (λ n. f (g x) + n) (sum_map f g xs) ∙ sym (sum_by-cons (λ y. f (g y)) x xs)

-- ---- one CPU's words

zero_word : (n i : ℕ) → slice_index (replicate {A = ℕ} n 0) i ≡ 0
zero_word n i = ⊎_elim (λ low. get_or-replicate n i 0 0 low) (λ high. get_or_past (replicate n 0) i 0 (omega (arith, high, length-replicate {A = ℕ} n 0))) (cases_lt i n)

long_after : (n : ℕ) (words : List ℕ) (moves : List Move) → length (words_after_moves n words moves) ≡ length words
long_after n words [] = refl
long_after n words (m ∷ moves) = long_after n (words_after_move n words m) moves ∙ one (m.cpu == n)
  where
    one : (b : Bool) → length (cond b (slice_set words (word_place m.kind m.tag) (wrap_minus (slice_index words (word_place m.kind m.tag) + m.up) m.down)) words) ≡ length words
    one true = length-set words (word_place m.kind m.tag) _
    one false = refl

module _ (b : Board) (m : Machine) (kind : Kind) (t : ℕ) where
  abbrev word_at : ℕ → ℕ
  word_at n = word_in kind t (standing_cpu b m n)

  pub moved_at : t < b.shape.tags → (n : ℕ) → word_at n ≡ moved_word m.tally.moves n kind t
  moved_at low n =
      follows n b.shape.tags (replicate (2 * b.shape.tags) 0) [] m.tally.moves (length-replicate {A = ℕ} (2 * b.shape.tags) 0) (λ k tag below. zero_word (2 * b.shape.tags) (word_place k tag)) kind t low

  past_at : b.shape.tags ≤ t → (n : ℕ) → word_at n ≡ 0
  past_at high n =
      let long : length (words_after_moves n (replicate (2 * b.shape.tags) 0) m.tally.moves) ≡ 2 * b.shape.tags = long_after n (replicate (2 * b.shape.tags) 0) m.tally.moves ∙ length-replicate {A = ℕ} (2 * b.shape.tags) 0 in
      get_or_past (words_after_moves n (replicate (2 * b.shape.tags) 0) m.tally.moves) (word_place kind t) 0 (omega (arith, long, high))

  -- of a CPU that made no move
  still_at : AreLow (length m.seats) m.tally.moves → (n : ℕ) → length m.seats ≤ n → word_at n ≡ 0
  still_at low n high =
      ap (λ ws. slice_index ws (word_place kind t)) (none_of n (λ cpu. ltb cpu (length m.seats)) (le-ltb n (length m.seats) high) (replicate (2 * b.shape.tags) 0) m.tally.moves low)
      ∙ zero_word (2 * b.shape.tags) (word_place kind t)

  -- ---- all CPUs

  stand_sum : (cpus : List CpuShown) → CpusStand b m cpus → sum_by (word_in kind t) cpus ≡ sum_by word_at (range_with_len 0 b.shape.cpus)
  stand_sum cpus s = sym (sum_map (word_in kind t) outside cpus) ∙ ap (sum_by (word_in kind t)) s ∙ sum_map (word_in kind t) (standing_cpu b m) (range_with_len 0 b.shape.cpus)

  pub total_is : (cpus : List CpuShown) → CpusStand b m cpus → length m.seats ≤ b.shape.cpus → AreLow (length m.seats) m.tally.moves → t < b.shape.tags → total kind t cpus ≡ wrap (words_total m kind t)
  total_is cpus s few low below =
      ap wrap (stand_sum cpus s
      ∙ zeros_beyond word_at 0 (length m.seats) b.shape.cpus few (λ n high. still_at low n (omega (arith, high)))
      ∙ ap (λ (f : ℕ → ℕ). sum_by f (range_with_len 0 (length m.seats))) (λ i n. moved_at below n i))

  pub total_past : (cpus : List CpuShown) → CpusStand b m cpus → b.shape.tags ≤ t → total kind t cpus ≡ 0
  total_past cpus s high = ap wrap (stand_sum cpus s ∙ zeros word_at 0 b.shape.cpus (λ n from. past_at high n))
