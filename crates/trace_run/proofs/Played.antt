-- The next item of a trace, played.
use Rattle.std.proofs.Common.{◌≡◌, ℕ, List, [], ◌∷◌, ◌++◌, Option, Some, None, Result, Ok, Err, OnOk, OnErr, refl, sym, ap, ◌∙◌, subst}
use Rattle.input_form.specs.declared.code.Code.{Code}
use Rattle.input_form.proofs.Judged.{bind_ok}
use Rattle.trace.specs.declared.traces.Item.{Item}
use Rattle.trace.specs.declared.traces.Item.TheVariants as item
use Rattle.trace.specs.declared.traces.OnOp.{OnOp}
use Rattle.trace.specs.declared.traces.Trace.{Trace}
use Rattle.round_check.specs.declared.walk.Walk.{Walk}
use Rattle.round_check.specs.Walk.{begun, rounds_of, start, walk_item, walk_items, walk_ops}
use Rattle.round_check.proofs.Pairs.{items_behind}
use Rattle.trace_play.specs.Play.{Outcome, Played, item_played, play, refusal_of}
use Rattle.rounds.specs.Places.{IsLoad, IsThere, Place, loaded_here, refusal_here}
use Rattle.rounds.specs.Turns.{StandsAt, Turn}
use Rattle.rounds.specs.declared.desk.Desk.{Desk}
use Rattle.rounds.proofs.LoadsAt.{front_walk}
use Rattle.trace_run.specs.Items.{IsNext, IsPlayed, next_played, played_at}
use Rattle.trace_run.specs.declared.outcome.Refusal.{Refusal}

-- what is said of Ok, and of Err
pub on_ok : {T E A : Type 0} (r : Result T E) (x : T) → r ≡ Ok x → OnOk r A → A
on_ok {T} {E} {A} r x e a = subst (λ (s : Result T E). OnOk s A) e a

pub on_err : {T E A : Type 0} (r : Result T E) (y : E) → r ≡ Err y → OnErr r A → A
on_err {T} {E} {A} r y e a = subst (λ (s : Result T E). OnErr s A) e a

-- ---- what the meaning makes of items

module _ (trace : Trace) (top : Option ℕ) where
  pub play_none : (what : Item) (items : List Item) (p : Played) → refusal_of trace what p ≡ None → play trace top (what ∷ items) p ≡ play trace top items (item_played trace top what p)
  play_none what items p e = ap (λ (why : Option (ℕ × Code)). elim why as (λ _. Outcome) [ None ↦ play trace top items (item_played trace top what p) | Some w ↦ record { played = p; refused = Some w } ]) e

  pub play_some : (what : Item) (items : List Item) (p : Played) (w : ℕ × Code) → refusal_of trace what p ≡ Some w → play trace top (what ∷ items) p ≡ record { played = p; refused = Some w }
  play_some what items p w e = ap (λ (why : Option (ℕ × Code)). elim why as (λ _. Outcome) [ None ↦ play trace top items (item_played trace top what p) | Some w ↦ record { played = p; refused = Some w } ]) e

  -- items behind those of which none is refused
  pub play_more : (items more : List Item) (p : Played) → (play trace top items p).refused ≡ None → play trace top (items ++ more) p ≡ play trace top more (play trace top items p).played
  play_more [] more p none = refl
  play_more (what ∷ items) more p none =
      elim (refusal_of trace what p) as (λ (why : Option (ℕ × Code)). (elim why as (λ _. Outcome) [ None ↦ play trace top items (item_played trace top what p) | Some w ↦ record { played = p; refused = Some w } ]).refused ≡ None
      → (elim why as (λ _. Outcome) [ None ↦ play trace top (items ++ more) (item_played trace top what p) | Some w ↦ record { played = p; refused = Some w } ])
      ≡ play trace top more (elim why as (λ _. Outcome) [ None ↦ play trace top items (item_played trace top what p) | Some w ↦ record { played = p; refused = Some w } ]).played) [
        | None ↦ λ h. play_more items more (item_played trace top what p) h
        | Some w ↦ λ h. let no : ⊥ = cc in absurd no
      ] none

  -- the items behind one that is refused aren't played
  pub play_stop : (what : Item) (more : List Item) (p : Played) (w : ℕ × Code) → (play trace top (what ∷ []) p).refused ≡ Some w → play trace top (what ∷ more) p ≡ play trace top (what ∷ []) p
  play_stop what more p w e =
      elim (refusal_of trace what p) as (λ (why : Option (ℕ × Code)). (elim why as (λ _. Outcome) [ None ↦ play trace top [] (item_played trace top what p) | Some v ↦ record { played = p; refused = Some v } ]).refused ≡ Some w
      → (elim why as (λ _. Outcome) [ None ↦ play trace top more (item_played trace top what p) | Some v ↦ record { played = p; refused = Some v } ])
      ≡ (elim why as (λ _. Outcome) [ None ↦ play trace top [] (item_played trace top what p) | Some v ↦ record { played = p; refused = Some v } ])) [
        | None ↦ λ h. let no : ⊥ = cc in absurd no
        | Some v ↦ λ h. refl
      ] e

-- ---- a round

module _ (p : Place) (ops : List OnOp) (n : IsNext (item.Round ops) p) where
  pub stands : p.trace.body ≡ p.front ++ item.Round ops ∷ n.rest
  stands = p.stands ∙ ap (λ back. p.front ++ back) n.next

  pub walks : (mid : Walk) × (after : Walk) × (walk_items p.front start ≡ Ok mid) × (walk_ops ops (begun mid) ≡ Ok after)
  unfolding rounds_of walk_item
  walks =
      let end = bind_ok (walk_items p.trace.body start) (λ walk. Ok tt) tt p.passes in
      let walked : walk_items (p.front ++ item.Round ops ∷ n.rest) start ≡ Ok end.0 = subst (λ xs. walk_items xs start ≡ Ok end.0) stands end.1 in
      let mid = front_walk p.front (item.Round ops ∷ n.rest) start end.0 walked in
      let behind = items_behind p.front (item.Round ops ∷ n.rest) start mid.0 end.0 mid.1 walked in
      let next = bind_ok (walk_item (item.Round ops) mid.0) (λ x. walk_items n.rest x) end.0 behind in
      (mid.0, next.0, mid.1, next.1)

  abbrev pub turn_at : Turn
  turn_at = record {
    ops = ops;
    board = p.board;
    trace = p.trace;
    top = p.top;
    round = record {
      before = begun walks.0;
      after = walks.1;
      formed = p.formed;
      passes = p.passes;
      round = record { front = p.front; back = n.rest; stands = stands; left = walks.0; walked = walks.2; begins = refl };
      none = n.none;
      walked = walks.3;
    };
  }

-- ---- a load

module _ (p : Place) (line section : ℕ) (n : IsNext (item.Load line section) p) where
  abbrev pub load_at : IsLoad section p
  load_at = record { line = line; rest = n.rest; next = n.next; none = n.none }

  pub load_played : (text : List ℕ) (d : Desk) → refusal_here section p load_at ≡ None → StandsAt p.board p.trace (loaded_here section p) d
      → IsPlayed p.board p.trace (next_played (item.Load line section) p) text (played_at p).text text (record { desk = d; refused = None })
  load_played text d none there =
      subst (λ (o : Outcome). IsPlayed p.board p.trace o text (played_at p).text text (record { desk = d; refused = None })) (sym (play_none p.trace p.top (item.Load line section) [] (played_at p) none))
      (record { stands = there; refused = refl; text_is = λ same. same })

  pub load_refused : (text : List ℕ) (d : Desk) (why : Refusal) → refusal_here section p load_at ≡ Some (line, why.code) → why.line ≡ line → IsThere p d
      → IsPlayed p.board p.trace (next_played (item.Load line section) p) text (played_at p).text text (record { desk = d; refused = Some why })
  load_refused text d why some at there =
      subst (λ (o : Outcome). IsPlayed p.board p.trace o text (played_at p).text text (record { desk = d; refused = Some why })) (sym (play_some p.trace p.top (item.Load line section) [] (played_at p) (line, why.code) some))
      (record { stands = there; refused = ap (λ l. Some (l, why.code)) at; text_is = λ same. same })
