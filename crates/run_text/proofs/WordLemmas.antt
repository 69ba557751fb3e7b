-- The words of all CPUs of a table, where they are what a checked trace's moves give, add up to what is live.
use Rattle.std.proofs.Common.{◌≡◌, ℕ, ◌+◌, ◌<◌, ◌≤◌, true, false, cond, eqb, ltb, List, [], ◌∷◌, ◌++◌, map, length, Option, Ok, sum_by, refl, sym, ap, ap₂, ◌∙◌, subst, arith, ltb-true}
use Rattle.std.specs.Prelude.{◌&&◌}
use Rattle.std.specs.List.{list_all, range_with_len}
use Rattle.std.proofs.lemmas.Bool.{ne_eqb, and_parts}
use Rattle.std.proofs.lemmas.List.Sums.{sum_by-cons}
use Rattle.trace_play.proofs.RangeSums.{zeros_beyond}
use Rattle.tag_model.specs.declared.state.Kind.{Kind}
use Rattle.tag_model.specs.Laws.{same_kind}
use Rattle.tag_model.specs.Moves.{Move, is_on, moved_word}
use Rattle.tag_model.specs.Reference.{live_total}
use Rattle.tag_model.specs.Wrap.{wrap, wrap_minus}
use Rattle.tag_rule.specs.Shown.{CpuShown}
use Rattle.percpu_words.specs.CpuWords.{word_in}
use Rattle.round_check.specs.Walk.{rounds_of}
use Rattle.trace.specs.Formed.{IsFormedTrace}
use Rattle.trace.specs.declared.traces.Item.{Item}
use Rattle.trace.specs.declared.traces.Trace.{Trace}
use Rattle.trace_play.specs.Machine.{live_cells}
use Rattle.trace_play.specs.Play.{played_so_far}
use Rattle.trace_play.specs.Totals.{IsAccounted, words_total}
use Rattle.trace_play.proofs.TotalsHold.{accounted, totals_after}
use Rattle.trace_play.proofs.WordsTotal.{AreLow, low_after, words_are_live}
use Rattle.run_text.specs.Rows.{AreMoved, TotalsAreLive}

-- ---- sums

sum_of_map : {X : Type 0} (f : X → ℕ) (xs : List X) → sum_by f xs ≡ sum_by (λ n. n) (map f xs)
sum_of_map f [] = refl
sum_of_map f (x ∷ xs) = sum_by-cons f x xs ∙ ap (λ n. f x + n) (sum_of_map f xs) ∙ sym (sum_by-cons (λ n. n) (f x) (map f xs))

-- ---- a CPU that made no move

module _ (kind : Kind) (t count cpu : ℕ) (beyond : count ≤ cpu) where
  abbrev moved : (Move → ℕ) → Move → ℕ
  moved share mv = cond (is_on cpu kind t mv) (share mv) 0

  not_on : (share : Move → ℕ) (mv : Move) → ltb mv.cpu count ≡ true → moved share mv ≡ 0
  not_on share mv low =
      let less : mv.cpu < count = ltb-true mv.cpu count low in
      let other : eqb mv.cpu cpu ≡ false = ne_eqb mv.cpu cpu (λ same. omega (arith, same, less, beyond)) in
      ap (λ b. cond (b && same_kind kind mv.kind && eqb mv.tag t) (share mv) 0) other

  none_on : (share : Move → ℕ) (moves : List Move) → AreLow count moves → sum_by (moved share) moves ≡ 0
  none_on share [] low = refl
  none_on share (mv ∷ moves) low =
      let b = and_parts (ltb mv.cpu count) (list_all (λ (x : Move). ltb x.cpu count) moves) low in
      sum_by-cons (moved share) mv moves ∙ ap₂ (λ x y. x + y) (not_on share mv b.0) (none_on share moves b.1)

  pub no_word : (moves : List Move) → AreLow count moves → moved_word moves cpu kind t ≡ 0
  no_word moves low = ap₂ wrap_minus (none_on (λ (mv : Move). mv.up) moves low) (none_on (λ (mv : Move). mv.down) moves low)

-- ---- all CPUs

pub moved_are_live : (trace : Trace) (top : Option ℕ) → IsFormedTrace trace → rounds_of trace ≡ Ok tt → (front back : List Item) → trace.body ≡ front ++ back
    → (tags : ℕ) (cpus : List CpuShown) → trace.cpus ≤ length cpus → AreMoved tags cpus (played_so_far trace top front).played.machine → TotalsAreLive tags cpus (played_so_far trace top front).played.machine
moved_are_live trace top formed passes front back stands tags cpus enough are kind t within =
    let m = (played_so_far trace top front).played.machine in
    let l = low_after trace top formed passes front back stands in
    let low : AreLow (length m.seats) m.tally.moves = subst (λ n. AreLow n m.tally.moves) (sym l.seats) l.low in
    let accounts : IsAccounted m = λ kind tag. accounted kind tag m (totals_after kind tag trace top formed passes front back stands) in
    let word : ℕ → ℕ = λ cpu. moved_word m.tally.moves cpu kind t in
    let sums : sum_by (word_in kind t) cpus ≡ words_total m kind t =
    sum_of_map (word_in kind t) cpus
    ∙ ap (sum_by (λ n. n)) (are kind t within)
    ∙ sym (sum_of_map word (range_with_len 0 (length cpus)))
    ∙ zeros_beyond word 0 (length m.seats) (length cpus) (omega (arith, l.seats, enough)) (λ cpu beyond. no_word kind t (length m.seats) cpu (omega (arith, beyond)) m.tally.moves low) in
    ap wrap sums ∙ words_are_live m accounts low kind t (live_total kind t (live_cells m)) (accounts kind t)
