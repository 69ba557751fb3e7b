-- Parts that stand in some safe state: what becomes of them, and what the state tells of them.
use Rattle.std.proofs.Common.{◌≡◌, ℕ, ◌+◌, ◌-◌, List, [], ◌∷◌, ◌++◌, subst, arith, true}
use Rattle.std.specs.List.{range_with_len}
use Rattle.std.proofs.lemmas.List.Sums.{sum_by-append, sum_by-cons}
use Rattle.atomic_table.specs.Table.{Me}
use Rattle.tag_model.specs.declared.shape.Shape.{Shape}
use Rattle.tag_model.specs.declared.state.Held.{Held}
use Rattle.tag_model.specs.declared.state.Held.TheVariants as held
use Rattle.tag_model.specs.declared.state.ListPart.{ListPart}
use Rattle.tag_model.specs.declared.state.Part.{Part}
use Rattle.tag_model.specs.declared.state.Part.TheVariants.{Place, Modules}
use Rattle.tag_model.specs.declared.state.Tag.{Tag}
use Rattle.tag_model.specs.StepRules.{Stands}
use Rattle.tag_model.specs.Telling.{is_covered_by}
use Rattle.tag_model.proofs.Lent.{stand_back}
use Rattle.tag_model.proofs.PartTells.{place_covered}
use Rattle.tag_rule.specs.declared.view.View.{View}
use Rattle.tag_rule.specs.declared.words.Words.{Words}
use Rattle.tag_rule.specs.Fresh.{places}
use Rattle.tag_rule.specs.Meeting.{StandSafe}
use Rattle.tag_rule.specs.Rule.{Moves, Tells, view_of}
use Rattle.tag_rule.specs.Seated.{ListHolds, cell_parts, list_in}
use Rattle.tag_rule.specs.Shown.{ListShown}
use Rattle.tag_rule.specs.Tokens.{board_of}
use Rattle.tag_rule.proofs.Tellings.{list_holds, tells_after}

-- what a seat knows
abbrev pub Own : Type 0
Own = Me (Unit {0}) View

pub tells_all : (k : Shape) (v : List Part) → Tells k v (StandSafe k v)
tells_all k v ps ok b safe = record { state = ps; checked = ok; stands = record { rest = b.rest; among = b.before }; safe = safe }

-- what the parts are that become others
pub tells_moved : (k : Shape) (v w : List Part) → Moves k v w → Tells k v (StandSafe k w)
tells_moved k v w m = tells_after k v w (StandSafe k w) m.safe (tells_all k w)

-- ---- a cell and the list

first_stands : (p : Part) (behind : List Part) (q : Part) (ps : List Part) → Stands (p ∷ behind ++ q ∷ []) ps → Stands (p ∷ q ∷ []) ps
first_stands p behind q ps s = record {
  rest = s.rest ++ behind;
  among = λ f. omega (arith, s.among f, sum_by-append f s.rest behind, sum_by-cons f p (behind ++ q ∷ []), sum_by-append f behind (q ∷ []), sum_by-cons f p (q ∷ []));
}

cell_covered : (k : Shape) (first count : ℕ) (h : Held) (l : ListPart) (tag : Tag) (size : ℕ) → StandSafe k (cell_parts first count h ++ Modules l ∷ []) → h ≡ held.Counted tag size → is_covered_by k l.records tag ≡ true
cell_covered k first count h l tag size s is =
    place_covered k first tag size l s.state (subst (λ (x : Held). Stands (Place first x ∷ Modules l ∷ []) s.state) is (first_stands (Place first h) (places (range_with_len (first + 1) (count - 1))) (Modules l) s.state s.stands)) s.safe

-- by what the tokens show: `w` is the table that a call found behind the list's share, which is `own`
pub meet_covers : (w own : Words) (cell list : View) (first count : ℕ) (h : Held) (shown : ListShown) (tag : Tag) (size : ℕ) → w ≡ own → cell ≡ view_of (cell_parts first count h) → list ≡ view_of (Modules (list_in list.parts) ∷ [])
    → record { board = board_of own; part = list_in list.parts } ≡ shown → StandSafe w.shape (cell.parts ++ list.parts) → h ≡ held.Counted tag size → is_covered_by shown.board.shape shown.part.records tag ≡ true
meet_covers w own cell list first count h shown tag size same cell_is list_is view s is =
    subst (λ (x : ListShown). is_covered_by x.board.shape x.part.records tag ≡ true) view
    (cell_covered own.shape first count h (list_in list.parts) tag size (subst (λ (x : Words). StandSafe x.shape (cell_parts first count h ++ Modules (list_in list.parts) ∷ [])) same
    (subst (λ (x : List Part). StandSafe w.shape x) (λ i. (cell_is i).parts ++ (list_is i).parts) s)) is)

-- ---- the list alone

-- the list that stands last
pub list_tells : (k : Shape) (v : List Part) (l : ListPart) → StandSafe k (v ++ Modules l ∷ []) → ListHolds k l
list_tells k v l s = list_holds k l s.state (stand_back v (Modules l ∷ []) s.state s.stands) s.safe
