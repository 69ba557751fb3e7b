-- What a step tells of the parts that it leaves.
use Rattle.std.proofs.Common.{◌≡◌, List, [], ◌∷◌, ◌++◌, sym, ap, subst, ◌∙◌}
use Rattle.std.proofs.lemmas.List.Sums.{sum_by-append}
use Rattle.std.specs.Arc.{arc_value}
use Rattle.atomic_table.specs.Table.{Me}
use Rattle.tag_model.specs.declared.shape.Shape.{Shape}
use Rattle.tag_model.specs.declared.state.ListPart.{ListPart}
use Rattle.tag_model.specs.declared.state.Part.{Part}
use Rattle.tag_model.specs.declared.state.Part.TheVariants.{Modules}
use Rattle.tag_model.specs.Laws.{Safe}
use Rattle.tag_model.specs.Shape.{IsChecked}
use Rattle.tag_model.specs.StepRules.{Becomes, Stands}
use Rattle.tag_model.proofs.Lent.{stand_front}
use Rattle.tag_model.proofs.ListTells.{away_is_loaded, few_users, list_laws_of, sweep_in_bounds}
use Rattle.tag_model.proofs.Parts.{standing, stand_after, stand_before}
use Rattle.module_list.specs.Listing.{bare, listing_of}
use Rattle.tag_rule.specs.declared.modules.ListSeat.TheInside as list
use Rattle.tag_rule.specs.declared.view.View.{View}
use Rattle.tag_rule.specs.Rule.{Tells, view_of}
use Rattle.tag_rule.specs.Seated.{ListHolds, list_in}
use Rattle.tag_rule.specs.Tokens.{IsListSeat}

-- a state safe with the list among its parts
pub list_holds : (k : Shape) (l : ListPart) (ps : List Part) → Stands (Modules l ∷ []) ps → Safe k ps → ListHolds k l
list_holds k l ps s safe =
    let laws = list_laws_of k l ps s safe in
    let bounds = sweep_in_bounds k l ps s safe in
    record {
      rises = bounds.1;
      in_area = laws.records_fit;
      apart = laws.ranges;
      sweep = bounds.0;
      users = few_users k l ps s safe;
      away = λ ahead run behind is. away_is_loaded k l ps s safe ahead run behind is;
    }

pub instead : (v w ps : List Part) (b : Becomes v v ps ps) → Becomes v w ps (b.rest ++ w)
instead v w ps b = record { rest = b.rest; before = b.before; after = λ f. sum_by-append f b.rest w }

-- what the parts tell that a step leaves, the step tells
pub tells_after : (k : Shape) (v w : List Part) (told : Type 0) → ((ps qs : List Part) → IsChecked k → Becomes v w ps qs → Safe k ps → Safe k qs) → Tells k w told → Tells k v told
tells_after k v w told safe tells ps ok b is_safe =
    let qs : List Part = b.rest ++ w in
    let c = instead v w ps b in
    tells qs ok (standing w qs (stand_after v w ps qs c)) (safe ps qs ok c is_safe)

-- the list that stands first
pub tells_list : (k : Shape) (l : ListPart) (more : List Part) → Tells k (Modules l ∷ more) (ListHolds k l)
tells_list k l more ps ok b safe = list_holds k l ps (stand_front (Modules l ∷ []) more ps (stand_before _ _ ps ps b)) safe

-- the seat of a list
pub list_seat : (s : list.Inside) (l : ListPart) → s.seat.table_id ≡ (arc_value s.words).table.shared.table_id → s.seat.me ≡ (view_of (Modules l ∷ []), []) → ListHolds (arc_value s.words).shape l → s.kept ≡ bare (listing_of l) → IsListSeat s
list_seat s l table me holds kept =
    let is : list_in s.seat.me.0.parts ≡ l = ap (λ (m : Me (Unit {0}) View). list_in m.0.parts) me in
    record {
      table = table;
      me = me ∙ ap (λ (x : ListPart). (view_of (Modules x ∷ []), [])) (sym is);
      holds = subst (λ (x : ListPart). ListHolds (arc_value s.words).shape x) (sym is) holds;
      kept = kept ∙ ap (λ (x : ListPart). bare (listing_of x)) (sym is);
    }
