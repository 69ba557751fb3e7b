-- Through the items of a trace, one after the other.
use Rattle.std.proofs.Common.{◌≡◌, ◌<◌, ◌+◌, ℕ, suc, List, [], ◌∷◌, ◌++◌, length, get_or, take, drop, Bool, true, false, ◌≤◌, Option, None, Some, is_some, refl, sym, ap, ◌∙◌, subst}
use Rattle.std.proofs.Math.Seq.{drop-cons}
use Rattle.std.specs.Option.{option_map}
use Rattle.std.proofs.lemmas.List.{take-append-drop, take_all, take_more}
use Rattle.input_form.specs.declared.code.Code.{Code}
use Rattle.trace.specs.declared.traces.Item.{Item}
use Rattle.trace_play.specs.Play.{Outcome, nothing_played, played_so_far, trace_played}
use Rattle.rounds.specs.Places.{Place}
use Rattle.rounds.specs.Turns.{StandsAt}
use Rattle.rounds.specs.declared.desk.Desk.{Desk}
use Rattle.trace_run.specs.Items.{Begins, IsNext, IsPlayed, line_code, next_played, played_at}
use Rattle.trace_run.specs.declared.outcome.Outcome as came
use Rattle.trace_run.proofs.Played.{play_more, play_stop}

there_is : {X : Type 0} (o : Option X) → is_some o ≡ true → (x : X) × (o ≡ Some x)
there_is None e = let no : ⊥ = cc in absurd no
there_is (Some x) e = (x, refl)

there_is_none : {X : Type 0} (o : Option X) → is_some o ≡ false → o ≡ None
there_is_none None e = refl
there_is_none (Some x) e = let no : ⊥ = cc in absurd no

module _ (top : Option ℕ) (items : List Item) (kept : Bool) (d : Desk) (s : Begins items kept d) where
  -- what the first items come to
  abbrev pub reached : ℕ → Outcome
  reached i = played_so_far s.trace top (take i items)

  abbrev pub place_at : ℕ → Place
  place_at i = record { board = s.board; trace = s.trace; top = top; front = take i items; back = drop i items; formed = s.formed; passes = s.passes; stands = s.items_are ∙ sym (take-append-drop i items) }

  behind_it : (i : ℕ) (what : Item) → i < length items → get_or items i what ≡ what → drop i items ≡ what ∷ drop (suc i) items
  behind_it i what low is = drop-cons items i what low ∙ ap (λ x. x ∷ drop (suc i) items) is

  pub next_at : (i : ℕ) (what : Item) → i < length items → get_or items i what ≡ what → (reached i).refused ≡ None → IsNext what (place_at i)
  next_at i what low is none = record { rest = drop (suc i) items; next = behind_it i what low is; none = none }

  -- with one more
  pub one_more : (i : ℕ) (what : Item) → i < length items → get_or items i what ≡ what → (reached i).refused ≡ None → reached (i + 1) ≡ next_played what (place_at i)
  one_more i what low is none =
      ap (λ xs. played_so_far s.trace top xs) (take_more items i what low ∙ ap (λ x. take i items ++ x ∷ []) is)
      ∙ play_more s.trace top (take i items) (what ∷ []) (nothing_played s.trace) none

  -- where that one is refused nothing comes behind it
  pub stopped : (i : ℕ) (what : Item) (w : ℕ × Code) → i < length items → get_or items i what ≡ what → (reached i).refused ≡ None → (next_played what (place_at i)).refused ≡ Some w → trace_played s.trace top ≡ next_played what (place_at i)
  stopped i what w low is none some =
      ap (λ xs. played_so_far s.trace top xs) (s.items_are ∙ sym (take-append-drop i items) ∙ ap (λ xs. take i items ++ xs) (behind_it i what low is))
      ∙ play_more s.trace top (take i items) (what ∷ drop (suc i) items) (nothing_played s.trace) none
      ∙ play_stop s.trace top what (drop (suc i) items) (reached i).played w some

  -- ---- what an item leaves

  module _ (i : ℕ) (what : Item) (low : i < length items) (is : get_or items i what ≡ what) (none : (reached i).refused ≡ None) (old here new : List ℕ) (after : came.Outcome) (first : old ≡ [] → here ≡ (played_at (place_at i)).text) (played : IsPlayed s.board s.trace (next_played what (place_at i)) here (played_at (place_at i)).text new after) where
    pub ended : is_some after.refused ≡ true → IsPlayed s.board s.trace (trace_played s.trace top) old [] new after
    ended some =
        let why = there_is after.refused some in
        let whole = stopped i what (line_code why.0) low is none (sym played.refused ∙ ap (option_map line_code) why.1) in
        subst (λ (o : Outcome). IsPlayed s.board s.trace o old [] new after) (sym whole)
        (record { stands = played.stands; refused = played.refused; text_is = λ empty. played.text_is (first empty) })

    pub gone_on : is_some after.refused ≡ false → StandsAt s.board s.trace (reached (i + 1)).played.machine after.desk × ((reached (i + 1)).refused ≡ None) × (old ≡ [] → new ≡ (reached (i + 1)).played.text)
    gone_on not_some =
        let still = sym played.refused ∙ ap (option_map line_code) (there_is_none after.refused not_some) in
        subst (λ (o : Outcome). StandsAt s.board s.trace o.played.machine after.desk × (o.refused ≡ None) × (old ≡ [] → new ≡ o.played.text)) (sym (one_more i what low is none))
        (played.stands, still, λ empty. played.text_is (first empty))

  -- behind the last one
  pub all_played : (i : ℕ) → length items ≤ i → reached i ≡ trace_played s.trace top
  all_played i past = ap (λ xs. played_so_far s.trace top xs) (take_all i items past ∙ sym s.items_are)
