-- A load: the list and the right to give the next id stand together for it.
use Rattle.std.proofs.Common.{◌≡◌, ℕ, ◌+◌, ◌<◌, nat_lt, ◌&&◌, Bool, false, List, [], ◌∷◌, ◌++◌, map, refl, sym, ap, subst, ◌∙◌, arith, true}
use Rattle.std.specs.List.{list_all}
use Rattle.std.specs.Arc.{arc_value}
use Rattle.atomic_table.specs.Table.{Me}
use Rattle.tag_model.specs.declared.shape.Shape.{Shape}
use Rattle.tag_model.specs.declared.state.ListPart.{ListPart}
use Rattle.tag_model.specs.declared.state.Part.{Part}
use Rattle.tag_model.specs.declared.state.Part.TheVariants.{Modules, NextId}
use Rattle.tag_model.specs.declared.state.Record.{Record}
use Rattle.tag_model.specs.Laws.{Safe}
use Rattle.tag_model.specs.Shape.{IsChecked}
use Rattle.tag_model.specs.StepRules.{Becomes, Loads}
use Rattle.tag_model.proofs.Lent.{next_above_zero, next_is, stand_back, stand_front}
use Rattle.tag_model.proofs.ListTells.{ids_below}
use Rattle.tag_model.proofs.LoadRow.{safe-loads}
use Rattle.tag_model.proofs.Parts.{stand_before}
use Rattle.module_list.specs.Listing.{Listing, bare_record, listing_of}
use Rattle.module_list.proofs.Changes.{row-loads}
use Rattle.tag_rule.specs.declared.modules.ListSeat.TheInside as list
use Rattle.tag_rule.specs.declared.modules.LoadPass.TheInside as pass
use Rattle.tag_rule.specs.declared.view.View.{View}
use Rattle.tag_rule.specs.declared.words.Words.{Words}
use Rattle.tag_rule.specs.Listed.{MayLoad, with_loaded}
use Rattle.tag_rule.specs.Rule.{Moves, Tells, view_of}
use Rattle.tag_rule.specs.Seated.{ListHolds, list_in}
use Rattle.tag_rule.specs.Shown.{ListShown, PassShown}
use Rattle.tag_rule.specs.Tokens.{IsListSeat, IsLoadPass, list_shown, pass_shown}
use Rattle.tag_rule.proofs.Tellings.{tells_after, tells_list}

-- the id is above 0 and above all others of the list
abbrev pub IsAbove : ℕ → List Record → Type 0
IsAbove id records = (0 < id) × (list_all (λ (r : Record). nat_lt r.id id) records ≡ true)

abbrev pub after_load : Record → ListPart → ListPart
after_load r l = with_loaded r.id r.section r.start r.length l

abbrev pub new_record : ℕ → ℕ → ℕ → ℕ → Record
new_record id section start size = record { id = id; section = section; start = start; length = size; dead = false; users = 0 }

above_bare : (id : ℕ) (records : List Record) → list_all (λ (r : Record). nat_lt r.id id) (map bare_record records) ≡ list_all (λ (r : Record). nat_lt r.id id) records
above_bare id [] = refl
above_bare id (r ∷ records) = ap (λ (b : Bool). nat_lt r.id id && b) (above_bare id records)

pub row_of_load : (k : Shape) (r : Record) (l : ListPart) → MayLoad k r.start r.length l.records → Loads k r.section r.start r.length r.id l (after_load r l)
row_of_load k r l may = row-loads k (listing_of l) l.reads r.id r.section r.start r.length l.away (omega (arith, may.some)) may.above_kernel may.within may.clear

pub above_told : (k : Shape) (id : ℕ) (l : ListPart) → Tells k (Modules l ∷ NextId id ∷ []) (IsAbove id l.records)
above_told k id l ps ok b safe =
    let s = stand_before (Modules l ∷ NextId id ∷ []) (Modules l ∷ NextId id ∷ []) ps ps b in
    let last = stand_back (Modules l ∷ []) (NextId id ∷ []) ps s in (
      next_above_zero k id ps last safe,
      subst (λ (next : ℕ). list_all (λ (x : Record). nat_lt x.id next) l.records ≡ true) (next_is k id ps last safe) (ids_below k l ps (stand_front (Modules l ∷ []) (NextId id ∷ []) ps s) safe),
    )

-- what the load tells
abbrev pub told_of_load : Shape → Record → ListPart → Type 0
told_of_load k r l = ListHolds k (after_load r l) × IsAbove r.id l.records

module _ (k : Shape) (r : Record) (l : ListPart) (may : MayLoad k r.start r.length l.records) where
  safe : (ps qs : List Part) → IsChecked k → Becomes (Modules l ∷ NextId r.id ∷ []) (Modules (after_load r l) ∷ NextId (r.id + 1) ∷ []) ps qs → Safe k ps → Safe k qs
  safe ps qs ok b is_safe = safe-loads k r.section r.start r.length r.id l (after_load r l) ps qs ok (row_of_load k r l may) b is_safe

  pub moves : Moves k (Modules l ∷ NextId r.id ∷ []) (Modules (after_load r l) ∷ NextId (r.id + 1) ∷ [])
  moves = record { owned = λ q. refl; exact = λ q. refl; safe = safe }

  pub tells : Tells k (Modules l ∷ NextId r.id ∷ []) (told_of_load k r l)
  tells ps ok b is_safe = (
    tells_after k (Modules l ∷ NextId r.id ∷ []) (Modules (after_load r l) ∷ NextId (r.id + 1) ∷ []) (ListHolds k (after_load r l)) safe (tells_list k (after_load r l) (NextId (r.id + 1) ∷ [])) ps ok b is_safe,
    above_told k r.id l ps ok b is_safe,
  )

-- ---- the same, by what the tokens show
module _ (w : Words) (s : list.Inside) (p : pass.Inside) (shown : ListShown) (next : PassShown) (r : Record) (same : w ≡ arc_value s.words) (mine : IsListSeat s) (there : IsLoadPass p) (view : list_shown s ≡ shown) (other : pass_shown p ≡ next)
    (board : next.board ≡ shown.board) (id : r.id ≡ p.next) (may : MayLoad shown.board.shape r.start r.length shown.part.records) where
  l : ListPart
  l = list_in s.seat.me.0.parts

  may_here : MayLoad w.shape r.start r.length l.records
  unfolding l
  may_here = subst (λ (x : Words). MayLoad x.shape r.start r.length (list_in s.seat.me.0.parts).records) (sym same) (subst (λ (x : ListShown). MayLoad x.board.shape r.start r.length x.part.records) (sym view) may)

  together : s.seat.me.0.parts ++ p.seat.me.0.parts ≡ Modules l ∷ NextId r.id ∷ []
  unfolding l
  together = λ i. (ap (λ (m : Me (Unit {0}) View). m.0.parts) mine.me) i ++ (ap (λ (m : Me (Unit {0}) View). m.0.parts) there.me ∙ ap (λ (n : ℕ). NextId n ∷ []) (sym id)) i

  pub load_moves : Moves w.shape (s.seat.me.0.parts ++ p.seat.me.0.parts) (Modules (after_load r (list_in s.seat.me.0.parts)) ∷ NextId (r.id + 1) ∷ [])
  unfolding l
  load_moves = subst (λ (ps : List Part). Moves w.shape ps (Modules (after_load r l) ∷ NextId (r.id + 1) ∷ [])) (sym together) (moves w.shape r l may_here)

  pub load_tells : Tells w.shape (s.seat.me.0.parts ++ p.seat.me.0.parts) (told_of_load w.shape r (list_in s.seat.me.0.parts))
  unfolding l
  load_tells = subst (λ (ps : List Part). Tells w.shape ps (told_of_load w.shape r l)) (sym together) (tells w.shape r l may_here)

  -- the id is above all others of what is kept
  pub above_kept : IsAbove r.id (list_in s.seat.me.0.parts).records → list_all (λ (x : Record). nat_lt x.id r.id) s.kept.records ≡ true
  above_kept above = ap (λ (y : Listing). list_all (λ (x : Record). nat_lt x.id r.id) y.records) mine.kept ∙ (above_bare r.id (list_in s.seat.me.0.parts).records ∙ above.1)

  pub row_shown : (m : Me (Unit {0}) View) → m ≡ (view_of (Modules (after_load r (list_in s.seat.me.0.parts)) ∷ []), []) → Loads shown.board.shape r.section r.start r.length r.id shown.part (list_in m.0.parts)
  unfolding l
  row_shown m me =
      subst (λ (x : ListPart). Loads shown.board.shape r.section r.start r.length r.id shown.part x) (sym (ap (λ (x : Me (Unit {0}) View). list_in x.0.parts) me))
      (subst (λ (x : ListShown). Loads shown.board.shape r.section r.start r.length r.id shown.part (after_load r x.part)) (sym view) (row_of_load shown.board.shape r shown.part may))
