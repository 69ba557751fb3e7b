-- A record that goes is dead, and no place and no hand holds its id or a tag of its range.
use Rattle.std.proofs.Common.{◌≡◌, ℕ, ◌+◌, ◌-◌, ◌<◌, ◌≤◌, ◌==◌, ◌&&◌, ◌⊎◌, List, [], ◌∷◌, ◌++◌, sum_by, count_by, refl, sym, ap, ◌∙◌, subst, inl, inr, arith, Bool, true, false, not, cond, Some, eq-eqb, eqb-true, ne_eqb}
use Rattle.std.proofs.lemmas.Bool.{and_parts, and_from, cases_Bool, cases_eq, cases_lt, false≢true}
use Rattle.std.proofs.lemmas.List.Sums.{sum_by-append}
use Rattle.tag_model.specs.declared.shape.Shape.{Shape}
use Rattle.tag_model.specs.declared.state.CpuPart.{CpuPart}
use Rattle.tag_model.specs.declared.state.Hand.{Hand}
use Rattle.tag_model.specs.declared.state.Held.TheVariants as held
use Rattle.tag_model.specs.declared.state.Kind.TheVariants.{Calls}
use Rattle.tag_model.specs.declared.state.ListPart.{ListPart}
use Rattle.tag_model.specs.declared.state.Part.{Part}
use Rattle.tag_model.specs.declared.state.Part.TheVariants.{Cpu, Place, Modules}
use Rattle.tag_model.specs.declared.state.Record.{Record}
use Rattle.tag_model.specs.declared.state.Tag.{Tag}
use Rattle.tag_model.specs.Histories.{Leads}
use Rattle.tag_model.specs.Laws.{Safe}
use Rattle.tag_model.specs.Plainly.{RecordGoes}
use Rattle.tag_model.specs.Reference.{hand_counts_of, held_counts_of, held_counts, hand_counts, hand_fits}
use Rattle.tag_model.specs.Shape.{IsChecked}
use Rattle.tag_model.specs.StepRules.{BaseMove, Becomes, Releases, Row, Stands}
use Rattle.tag_model.specs.WordState.{counted, counted_of, in_range, part_fits, records_with}
use Rattle.tag_model.proofs.Alike.{of_records}
use Rattle.tag_model.proofs.CpuFits.{counts_here, cpu_fits_means, hand_fits_means, hand_is_counted, same_tag_refl}
use Rattle.tag_model.proofs.Found.{count_apart, count_at, found, found_any, sum_at}
use Rattle.tag_model.proofs.Lent.{the_list_of}
use Rattle.tag_model.proofs.ListRows.{OneList}
use Rattle.tag_model.proofs.Lists.{in_range_from}
use Rattle.tag_model.proofs.Parts.{becomes_same, stand_before}
use Rattle.tag_model.proofs.PartTells.{holds}
use Rattle.tag_model.proofs.Records.{count_swap}
use Rattle.tag_model.proofs.ReleaseRow.{release_in_range, release_is_dead, release_of_module, sum_others_same}
use Rattle.tag_model.proofs.StopLaw.{leads_safe}
use Rattle.tag_model.proofs.Swept.{Holds, part_passes}

-- a part of a list of parts stands in it
stands_in : (ahead : List Part) (p : Part) (behind ps : List Part) → ps ≡ ahead ++ p ∷ behind → Stands (p ∷ []) ps
stands_in ahead p behind ps is = record {
  rest = ahead ++ behind;
  among = λ f. let all : sum_by f ps ≡ sum_by f (ahead ++ p ∷ behind) = ap (sum_by f) is in omega (arith, all, sum_at f ahead p behind, sum_by-append f ahead behind);
}

-- ---- only a release takes a record of an id away

abbrev of_id : ℕ → Record → Bool
of_id id r = r.id == id

same_records : (id : ℕ) (old new d : ListPart) → new ≡ d → count_by (of_id id) old.records ≤ count_by (of_id id) d.records → count_by (of_id id) old.records ≤ count_by (of_id id) new.records
same_records id old new d is few = subst (λ (l : ListPart). count_by (of_id id) old.records ≤ count_by (of_id id) l.records) (sym is) few

list_keeps : (id : ℕ) (old new : ListPart) (ps qs : List Part) → Becomes (Modules old ∷ []) (Modules new ∷ []) ps qs → count_by (of_id id) old.records ≤ count_by (of_id id) new.records → sum_by (records_with (of_id id)) ps ≤ sum_by (records_with (of_id id)) qs
list_keeps id old new ps qs b few = omega (arith, b.before (records_with (of_id id)), b.after (records_with (of_id id)))

swapped : (id : ℕ) (records front : List Record) (r s : Record) (back : List Record) → records ≡ front ++ r ∷ back → s.id ≡ r.id → count_by (of_id id) records ≤ count_by (of_id id) (front ++ s ∷ back)
swapped id records front r s back is same =
    let all : count_by (of_id id) records ≡ count_by (of_id id) (front ++ r ∷ back) = ap (count_by (of_id id)) is in
    omega (arith, all, count_swap (of_id id) front r s back (ap (λ i. i == id) same))

-- a step is a release of the id, or leaves its record there
data Kept (k : Shape) (id : ℕ) (ps qs : List Part) : Type 0 where
  stays : sum_by (records_with (of_id id)) ps ≤ sum_by (records_with (of_id id)) qs → Kept k id ps qs
  released : {left : List ℕ} {from to : ListPart} → Releases left id from to → Becomes (Modules from ∷ []) (Modules to ∷ []) ps qs → Kept k id ps qs

same_sum : (f : Part → ℕ) (ps qs : List Part) → sum_by f qs ≡ sum_by f ps → sum_by f ps ≤ sum_by f qs
same_sum f ps qs e = omega arith

row_kept : (k : Shape) (id : ℕ) (v w ps qs : List Part) → Row k v w → Becomes v w ps qs → Kept k id ps qs
row_kept k id v w ps qs (Row.begins_allocation r) b = stays (same_sum _ ps qs (becomes_same (records_with (of_id id)) v w ps qs b refl))
row_kept k id v w ps qs (Row.adds_call r) b = stays (same_sum _ ps qs (becomes_same (records_with (of_id id)) v w ps qs b refl))
row_kept k id v w ps qs (Row.adds_bytes r) b = stays (same_sum _ ps qs (becomes_same (records_with (of_id id)) v w ps qs b refl))
row_kept k id v w ps qs (Row.subtracts_bytes r) b = stays (same_sum _ ps qs (becomes_same (records_with (of_id id)) v w ps qs b refl))
row_kept k id v w ps qs (Row.subtracts_call r) b = stays (same_sum _ ps qs (becomes_same (records_with (of_id id)) v w ps qs b refl))
row_kept k id v w ps qs (Row.writes_place r) b = stays (same_sum _ ps qs (becomes_same (records_with (of_id id)) v w ps qs b refl))
row_kept k id v w ps qs (Row.scans {left} {r} {cpu} {old} {new} s) b =
    let same : count_by (of_id id) new.records ≡ count_by (of_id id) old.records = ap (λ (l : ListPart). count_by (of_id id) l.records) s.after in
    stays (omega (arith, same, b.before (records_with (of_id id)), b.after (records_with (of_id id))))
row_kept k id v w ps qs (Row.loads {section} {start} {length} {id = next} {old} {new} r) b =
    let fresh : Record = record { id = next; section = section; start = start; length = length; dead = false; users = 0 } in
    let grown : count_by (of_id id) new.records ≡ count_by (of_id id) (old.records ++ fresh ∷ []) = ap (λ (l : ListPart). count_by (of_id id) l.records) r.after in
    stays (omega (arith, grown, sum_by-append (λ (x : Record). cond {A = ℕ} (of_id id x) 1 0) old.records (fresh ∷ []), b.before (records_with (of_id id)), b.after (records_with (of_id id))))
row_kept k id v w ps qs (Row.enters {old} {new} r) b = stays (list_keeps id old new ps qs b (same_records id old new _ r.after (swapped id old.records r.front r.entry (record r.entry { users = r.entry.users + 1 }) r.back r.there refl)))
row_kept k id v w ps qs (Row.leaves {old} {new} r) b = stays (list_keeps id old new ps qs b (same_records id old new _ r.after (swapped id old.records r.front r.entry (record r.entry { users = r.entry.users - 1 }) r.back r.there refl)))
row_kept k id v w ps qs (Row.marks_dead {old} {new} r) b = stays (list_keeps id old new ps qs b (same_records id old new _ r.after (swapped id old.records r.front r.entry (record r.entry { dead = true }) r.back r.there refl)))
row_kept k id v w ps qs (Row.sweeps {old} {new} r) b = stays (list_keeps id old new ps qs b (same_records id old new _ r.after (omega arith)))
row_kept k id v w ps qs (Row.releases {left} {id = gone} {old} {new} r) b = go (cases_eq gone id)
  where
    go : (gone ≡ id) ⊎ (gone ≡ id → ⊥) → Kept k id ps qs
    go (inl is) = released (subst (λ x. Releases left x old new) is r) b
    go (inr other) =
        let none : (x : Record) → x.id ≡ gone → cond {A = ℕ} (of_id id x) 1 0 ≡ 0 = λ x is. ap (λ c. cond {A = ℕ} c 1 0) (ne_eqb x.id id (λ e. other (sym is ∙ e))) in
        let same = sum_others_same (λ (x : Record). cond {A = ℕ} (of_id id x) 1 0) gone old.records none in
        stays (list_keeps id old new ps qs b (same_records id old new _ r.after (omega (arith, same))))

base_kept : (k : Shape) (id : ℕ) (v w ps qs : List Part) → BaseMove v w → Becomes v w ps qs → Kept k id ps qs
base_kept k id v w ps qs (BaseMove.gives_run {old} {new} {from} {to} r) b =
    let same : count_by (of_id id) to.records ≡ count_by (of_id id) from.records = ap (λ (l : ListPart). count_by (of_id id) l.records) r.list in
    stays (omega (arith, same, b.before (records_with (of_id id)), b.after (records_with (of_id id))))
base_kept k id v w ps qs (BaseMove.takes_run {old} {new} {from} {to} r) b =
    let same : count_by (of_id id) to.records ≡ count_by (of_id id) from.records = ap (λ (l : ListPart). count_by (of_id id) l.records) r.list in
    stays (omega (arith, same, b.before (records_with (of_id id)), b.after (records_with (of_id id))))
base_kept k id v w ps qs (BaseMove.notes_record r) b = stays (same_sum _ ps qs (becomes_same (records_with (of_id id)) v w ps qs b refl))
base_kept k id v w ps qs (BaseMove.reorders_runs {old} {new} r) b = stays (list_keeps id old new ps qs b (same_records id old new _ r.after (omega arith)))

leads_kept : (k : Shape) (id : ℕ) (ps qs : List Part) → Leads k ps qs → Kept k id ps qs
leads_kept k id ps qs (Leads.step m) = row_kept k id m.v m.w ps qs m.row m.becomes
leads_kept k id ps qs (Leads.base_move {v} {w} m b) = base_kept k id v w ps qs m b

-- ---- what the release finds

pub record Release (id : ℕ) (ps qs : List Part) : Type 0 where
  pub left : List ℕ
  pub from : ListPart
  pub to : ListPart
  pub row : Releases left id from to
  pub becomes : Becomes (Modules from ∷ []) (Modules to ∷ []) ps qs

pub is_release : (k : Shape) (r : Record) (ps qs : List Part) → IsChecked k → Safe k ps → RecordGoes k r ps qs → Release r.id ps qs
is_release k r ps qs ok safe goes = go (leads_kept k r.id ps qs goes.leads)
  where
    one : OneList goes.was ps
    one = the_list_of k goes.was ps (stands_in goes.ahead (Modules goes.was) goes.behind ps goes.old_list) safe

    other : OneList goes.is qs
    other = the_list_of k goes.is qs (stands_in goes.before (Modules goes.is) goes.after qs goes.new_list) (leads_safe k ps qs ok goes.leads safe)

    had : 0 < count_by (of_id r.id) goes.was.records
    had = subst (λ xs. 0 < count_by (of_id r.id) xs) (sym goes.there) (count_at (of_id r.id) goes.front r goes.back (eq-eqb r.id r.id refl))

    none : count_by (of_id r.id) goes.is.records ≡ 0
    none = count (cases_lt 0 (count_by (of_id r.id) goes.is.records))
      where
        count : (0 < count_by (of_id r.id) goes.is.records) ⊎ (count_by (of_id r.id) goes.is.records ≤ 0) → count_by (of_id r.id) goes.is.records ≡ 0
        count (inr few) = omega arith
        count (inl some) = let f = found (of_id r.id) goes.is.records some in absurd (goes.gone f.front f.back f.item f.is (eqb-true f.item.id r.id f.passes))

    go : Kept k r.id ps qs → Release r.id ps qs
    go (released {left} {from} {to} row b) = record { left = left; from = from; to = to; row = row; becomes = b }
    go (stays more) = absurd (omega (arith, more, had, none, one.only (records_with (of_id r.id)) (of_records (of_id r.id)), other.only (records_with (of_id r.id)) (of_records (of_id r.id))))

-- a count over the records of the list is that over those that the release finds
same_count : (k : Shape) (r : Record) (ps qs : List Part) → Safe k ps → (goes : RecordGoes k r ps qs) → (release : Release r.id ps qs) → (test : Record → Bool) → count_by test release.from.records ≡ count_by test goes.was.records
same_count k r ps qs safe goes release test =
    let one = the_list_of k goes.was ps (stands_in goes.ahead (Modules goes.was) goes.behind ps goes.old_list) safe in
    let from = the_list_of k release.from ps (stand_before (Modules release.from ∷ []) (Modules release.to ∷ []) ps qs release.becomes) safe in
    omega (arith, one.only (records_with test) (of_records test), from.only (records_with test) (of_records test))

pub gone_is_dead : (k : Shape) (r : Record) (ps qs : List Part) → IsChecked k → Safe k ps → RecordGoes k r ps qs → r.dead ≡ true
gone_is_dead k r ps qs ok safe goes = go (cases_Bool r.dead)
  where
    release : Release r.id ps qs
    release = is_release k r ps qs ok safe goes

    go : (r.dead ≡ true) ⊎ (r.dead ≡ false) → r.dead ≡ true
    go (inl is) = is
    go (inr loaded) =
        let f = found_any (λ (x : Record). (x.id == r.id) && x.dead) release.from.records (release_is_dead k release.left r.id release.from release.to ps qs release.row release.becomes safe) in
        let dead = subst (λ xs. 0 < count_by (λ (x : Record). (x.id == r.id) && x.dead) xs) (sym f.is) (count_at (λ (x : Record). (x.id == r.id) && x.dead) f.front f.item f.back f.passes) in
        let live = subst (λ xs. 0 < count_by (λ (x : Record). (x.id == r.id) && not x.dead) xs) (sym goes.there) (count_at (λ (x : Record). (x.id == r.id) && not x.dead) goes.front r goes.back (and_from _ _ (eq-eqb r.id r.id refl) (ap not loaded))) in
        let apart = count_apart (λ (x : Record). (x.id == r.id) && x.dead) (λ (x : Record). (x.id == r.id) && not x.dead) (of_id r.id) goes.was.records
        (λ x e. (and_parts (x.id == r.id) x.dead e).0) (λ x e. (and_parts (x.id == r.id) (not x.dead) e).0) (λ x e d. never x.dead (and_parts (x.id == r.id) x.dead e).1 (and_parts (x.id == r.id) (not x.dead) d).1) in
        let one = (the_list_of k goes.was ps (stands_in goes.ahead (Modules goes.was) goes.behind ps goes.old_list) safe).only (records_with (of_id r.id)) (of_records (of_id r.id)) in
        absurd (omega (arith, dead, live, apart, one, safe.cover.ids_apart r.id, same_count k r ps qs safe goes release (λ (x : Record). (x.id == r.id) && x.dead)))
      where
        never : (b : Bool) → b ≡ true → not b ≡ true → ⊥
        never true e d = false≢true d
        never false e d = false≢true e

-- nothing is counted under a tag of its module, nor under a number of its range
none_of_module : (k : Shape) (r : Record) (ps qs : List Part) → IsChecked k → Safe k ps → RecordGoes k r ps qs → (tag : Tag) → tag.module ≡ r.id → sum_by (counted_of Calls tag) ps ≡ 0
none_of_module k r ps qs ok safe goes tag is =
    let release = is_release k r ps qs ok safe goes in
    release_of_module k release.left r.id release.from release.to ps qs release.row release.becomes safe tag is

none_in_range : (k : Shape) (r : Record) (ps qs : List Part) → IsChecked k → Safe k ps → RecordGoes k r ps qs → (t : ℕ) → r.start ≤ t → t < r.start + r.length → sum_by (counted Calls t) ps ≡ 0
none_in_range k r ps qs ok safe goes t low high =
    let release = is_release k r ps qs ok safe goes in
    let test : Record → Bool = λ x. (x.id == r.id) && in_range x.start x.length t in
    let here : 0 < count_by test goes.was.records = subst (λ xs. 0 < count_by test xs) (sym goes.there) (count_at test goes.front r goes.back (and_from _ _ (eq-eqb r.id r.id refl) (in_range_from r.start r.length t low high))) in
    release_in_range k release.left r.id release.from release.to ps qs release.row release.becomes safe Calls t (omega (arith, here, same_count k r ps qs safe goes release test))

pub gone_from_places : (k : Shape) (r : Record) (ps qs : List Part) → IsChecked k → Safe k ps → RecordGoes k r ps qs → (ahead : List Part) (n : ℕ) (tag : Tag) (size : ℕ) (behind : List Part) → ps ≡ ahead ++ Place n (held.Counted tag size) ∷ behind
    → (tag.module ≡ r.id → ⊥) × (r.start ≤ tag.number → tag.number < r.start + r.length → ⊥)
gone_from_places k r ps qs ok safe goes ahead n tag size behind is = (
  λ e. omega (arith, there (counted_of Calls tag), of_tag, none_of_module k r ps qs ok safe goes tag e),
  λ low high. omega (arith, there (counted Calls tag.number), of_number, none_in_range k r ps qs ok safe goes tag.number low high),
)
  where
    there : Holds ps (Place n (held.Counted tag size))
    there = holds (Place n (held.Counted tag size)) ps (stands_in ahead (Place n (held.Counted tag size)) behind ps is)

    of_tag : held_counts_of Calls tag (held.Counted tag size) ≡ 1
    of_tag = rw (same_tag_refl tag) refl

    of_number : held_counts Calls tag.number (held.Counted tag size) ≡ 1
    of_number = rw (eq-eqb tag.number tag.number refl) refl

pub gone_from_hands : (k : Shape) (r : Record) (ps qs : List Part) → IsChecked k → Safe k ps → RecordGoes k r ps qs → (ahead : List Part) (c : CpuPart) (hand : Hand) (behind : List Part) → ps ≡ ahead ++ Cpu c ∷ behind → c.hand ≡ Some hand
    → (hand.tag.module ≡ r.id → ⊥) × (r.start ≤ hand.tag.number → hand.tag.number < r.start + r.length → ⊥)
gone_from_hands k r ps qs ok safe goes ahead c hand behind is held = (
  λ e. omega (arith, there (counted_of Calls hand.tag), of_tag, some, none_of_module k r ps qs ok safe goes hand.tag e),
  λ low high. omega (arith, there (counted Calls hand.tag.number), of_number, some, none_in_range k r ps qs ok safe goes hand.tag.number low high),
)
  where
    there : Holds ps (Cpu c)
    there = holds (Cpu c) ps (stands_in ahead (Cpu c) behind ps is)

    some : 0 < hand.calls
    some = (hand_fits_means hand (subst (λ o. hand_fits o ≡ true) held (cpu_fits_means k c (part_passes (part_fits k) ps (Cpu c) there safe.fits)).hand)).some

    of_tag : hand_counts_of Calls hand.tag c.hand ≡ hand.calls
    of_tag = rw held (hand_is_counted hand)

    of_number : hand_counts Calls hand.tag.number c.hand ≡ hand.calls
    of_number = rw held (counts_here Calls hand)
