-- What a safe state tells of a CPU, a place and the module list: the tags that they count under and the notes.
use Rattle.std.proofs.Common.{◌≡◌, ℕ, ◌<◌, ◌==◌, ◌&&◌, ◌||◌, nat_lt, List, [], ◌∷◌, ◌++◌, sum_by, count_by, refl, sym, ◌∙◌, subst, inl, inr, arith, Bool, true, false, not, Some, eqb-true, eq-eqb, lt-ltb, if◌then◌else◌}
use Rattle.std.specs.List.{list_any, list_all}
use Rattle.std.proofs.lemmas.Bool.{and_parts, and_from, false≢true}
use Rattle.tag_model.specs.declared.shape.Shape.{Shape}
use Rattle.tag_model.specs.declared.state.CpuPart.{CpuPart}
use Rattle.tag_model.specs.declared.state.Hand.{Hand}
use Rattle.tag_model.specs.declared.state.Held.TheVariants as held
use Rattle.tag_model.specs.declared.state.Kind.TheVariants.{Calls}
use Rattle.tag_model.specs.declared.state.ListPart.{ListPart}
use Rattle.tag_model.specs.declared.state.Note.{Note}
use Rattle.tag_model.specs.declared.state.Part.{Part}
use Rattle.tag_model.specs.declared.state.Part.TheVariants.{Cpu, Place, Modules}
use Rattle.tag_model.specs.declared.state.Record.{Record}
use Rattle.tag_model.specs.declared.state.Run.{Run}
use Rattle.tag_model.specs.declared.state.Tag.{Tag}
use Rattle.tag_model.specs.Laws.{Safe, CoverLaw, IsCovered, contradicts, same_note}
use Rattle.tag_model.specs.Reference.{held_counts_of}
use Rattle.tag_model.specs.StepRules.{BeginsAllocation, Stands}
use Rattle.tag_model.specs.Telling.{is_as_noted, is_covered_by, is_live_by}
use Rattle.tag_model.specs.WordState.{counted_of, in_range, records_with, notes_with, hand_may_open, record_fits, part_fits, next_id}
use Rattle.tag_model.proofs.Alike.{of_records}
use Rattle.tag_model.proofs.CpuFits.{cpu_fits_means, hand_covered, same_tag_refl}
use Rattle.tag_model.proofs.Found.{found, all_at, count_at, count_more}
use Rattle.tag_model.proofs.Lent.{stand_back, stand_front, the_list_of}
use Rattle.tag_model.proofs.ListRows.{OneList}
use Rattle.tag_model.proofs.ListTells.{list_laws_of}
use Rattle.tag_model.proofs.Lists.{record_fits_means}
use Rattle.tag_model.proofs.Parts.{standing}
use Rattle.tag_model.proofs.Swept.{Holds, ListLaws, holds_first, part_passes, run_on_loaded}
use Rattle.tag_model.proofs.Told.{none_fail, some_passes}

pub holds : (p : Part) (ps : List Part) → Stands (p ∷ []) ps → Holds ps p
holds p ps s = holds_first p [] (p ∷ []) ps ps (standing (p ∷ []) ps s)

-- ---- tags

-- no record has the id 0
kernel_has_no_record : (k : Shape) (l : ListPart) → ListLaws k l → (tag : Tag) → tag.module ≡ 0 → 0 < count_by (λ (r : Record). (r.id == tag.module) && in_range r.start r.length tag.number) l.records → ⊥
kernel_has_no_record k l laws tag is some =
    let f = found (λ (r : Record). (r.id == tag.module) && in_range r.start r.length tag.number) l.records some in
    let fit = record_fits_means k f.item (all_at (record_fits k) f.front f.item f.back (subst (λ xs. list_all (record_fits k) xs ≡ true) f.is laws.records_fit)) in
    omega (arith, fit.id_above, is, eqb-true f.item.id tag.module (and_parts (f.item.id == tag.module) (in_range f.item.start f.item.length tag.number) f.passes).0)

pub covered_by : (k : Shape) (l : ListPart) (ps : List Part) → OneList l ps → ListLaws k l → (tag : Tag) → IsCovered k ps tag → is_covered_by k l.records tag ≡ true
covered_by k l ps one laws tag covered = go (tag.module == 0) refl covered
  where
    here : 0 < sum_by (records_with (λ r. (r.id == tag.module) && in_range r.start r.length tag.number)) ps → 0 < count_by (λ (r : Record). (r.id == tag.module) && in_range r.start r.length tag.number) l.records
    here h = omega (arith, h, one.only (records_with (λ r. (r.id == tag.module) && in_range r.start r.length tag.number)) (of_records _))

    go : (b : Bool) → (tag.module == 0) ≡ b → IsCovered k ps tag → (if b then nat_lt tag.number k.kernel_tags else list_any (λ (r : Record). (r.id == tag.module) && in_range r.start r.length tag.number) l.records) ≡ true
    go true is (inl h) = lt-ltb tag.number k.kernel_tags h.1
    go true is (inr h) = absurd (kernel_has_no_record k l laws tag (eqb-true tag.module 0 is) (here h))
    go false is (inl h) = absurd (false≢true (sym is ∙ eq-eqb tag.module 0 h.0))
    go false is (inr h) = some_passes (λ (r : Record). (r.id == tag.module) && in_range r.start r.length tag.number) l.records (here h)

-- a reference's tag is covered
pub place_covered : (k : Shape) (n : ℕ) (tag : Tag) (size : ℕ) (l : ListPart) (ps : List Part) → Stands (Place n (held.Counted tag size) ∷ Modules l ∷ []) ps → Safe k ps → is_covered_by k l.records tag ≡ true
place_covered k n tag size l ps s safe =
    let list = stand_back (Place n (held.Counted tag size) ∷ []) (Modules l ∷ []) ps s in
    let counts : held_counts_of Calls tag (held.Counted tag size) ≡ 1 = rw (same_tag_refl tag) refl in
    covered_by k l ps (the_list_of k l ps list safe) (list_laws_of k l ps list safe) tag
    (safe.cover.named tag (omega (arith, counts, holds (Place n (held.Counted tag size)) ps (stand_front (Place n (held.Counted tag size) ∷ []) (Modules l ∷ []) ps s) (counted_of Calls tag))))

-- a hand's tag is covered
pub hand_covered_by : (k : Shape) (c : CpuPart) (l : ListPart) (ps : List Part) (h : Hand) → Stands (Cpu c ∷ Modules l ∷ []) ps → Safe k ps → c.hand ≡ Some h → is_covered_by k l.records h.tag ≡ true
hand_covered_by k c l ps h s safe is =
    let list = stand_back (Cpu c ∷ []) (Modules l ∷ []) ps s in
    covered_by k l ps (the_list_of k l ps list safe) (list_laws_of k l ps list safe) h.tag
    (hand_covered k c h ps (holds (Cpu c) ps (stand_front (Cpu c ∷ []) (Modules l ∷ []) ps s)) safe.fits safe.cover is)

-- ---- an allocation that begins, or has begun

live_from_runs : (k : Shape) (c : CpuPart) (l : ListPart) (ps : List Part) (tag : Tag) → Holds ps (Cpu c) → OneList l ps → CoverLaw k ps → list_any (λ (r : Run). (r.id == tag.module) && in_range r.start r.length tag.number) c.runs ≡ true
    → list_any (λ (r : Record). (r.id == tag.module) && in_range r.start r.length tag.number && not r.dead) l.records ≡ true
live_from_runs k c l ps tag stands one cover ran =
    some_passes (λ (r : Record). (r.id == tag.module) && in_range r.start r.length tag.number && not r.dead) l.records
    (omega (arith, run_on_loaded k c ps tag stands cover ran, one.only (records_with (λ r. (r.id == tag.module) && in_range r.start r.length tag.number && not r.dead)) (of_records _)))

-- the tag of an allocation that begins is the kernel's, or of a module that is loaded
pub begins_live_by : (k : Shape) (tag : Tag) (c d : CpuPart) (l : ListPart) (ps : List Part) → BeginsAllocation k tag c d → Stands (Cpu c ∷ Modules l ∷ []) ps → Safe k ps → is_live_by k l.records tag ≡ true
begins_live_by k tag c d l ps row s safe = go (tag.module == 0) row.allowed
  where
    go : (b : Bool) → (if b then nat_lt tag.number k.kernel_tags else list_any (λ (r : Run). (r.id == tag.module) && in_range r.start r.length tag.number) c.runs) ≡ true
        → (if b then nat_lt tag.number k.kernel_tags else list_any (λ (r : Record). (r.id == tag.module) && in_range r.start r.length tag.number && not r.dead) l.records) ≡ true
    go true e = e
    go false e = live_from_runs k c l ps tag (holds (Cpu c) ps (stand_front (Cpu c ∷ []) (Modules l ∷ []) ps s)) (the_list_of k l ps (stand_back (Cpu c ∷ []) (Modules l ∷ []) ps s) safe) safe.cover e

-- so is that of one that has begun and isn't written yet
pub opens_live_by : (k : Shape) (c : CpuPart) (l : ListPart) (ps : List Part) (h : Hand) → Stands (Cpu c ∷ Modules l ∷ []) ps → Safe k ps → c.hand ≡ Some h → h.opening ≡ true → is_live_by k l.records h.tag ≡ true
opens_live_by k c l ps h s safe is opens = go (h.tag.module == 0) refl (hand_covered_by k c l ps h s safe is) may
  where
    stands : Holds ps (Cpu c)
    stands = holds (Cpu c) ps (stand_front (Cpu c ∷ []) (Modules l ∷ []) ps s)

    may : ((h.tag.module == 0) || list_any (λ (r : Run). (r.id == h.tag.module) && in_range r.start r.length h.tag.number) c.runs) ≡ true
    may = subst (λ b. (not b || (h.tag.module == 0) || list_any (λ (r : Run). (r.id == h.tag.module) && in_range r.start r.length h.tag.number) c.runs) ≡ true) opens
        (subst (λ o. hand_may_open o c.runs ≡ true) is (cpu_fits_means k c (part_passes (part_fits k) ps (Cpu c) stands safe.fits)).may_open)

    go : (b : Bool) → (h.tag.module == 0) ≡ b → (if b then nat_lt h.tag.number k.kernel_tags else list_any (λ (r : Record). (r.id == h.tag.module) && in_range r.start r.length h.tag.number) l.records) ≡ true
        → (b || list_any (λ (r : Run). (r.id == h.tag.module) && in_range r.start r.length h.tag.number) c.runs) ≡ true
        → (if b then nat_lt h.tag.number k.kernel_tags else list_any (λ (r : Record). (r.id == h.tag.module) && in_range r.start r.length h.tag.number && not r.dead) l.records) ≡ true
    go true e covered ran = covered
    go false e covered ran = live_from_runs k c l ps h.tag stands (the_list_of k l ps (stand_back (Cpu c ∷ []) (Modules l ∷ []) ps s) safe) safe.cover ran

-- ---- notes

same_note_refl : (n : Note) → same_note n n ≡ true
same_note_refl n = and_from _ _ (and_from _ _ (and_from _ _ (and_from _ _ (and_from _ _ (eq-eqb n.id n.id refl) (eq-eqb n.section n.section refl)) (eq-eqb n.start n.start refl)) (eq-eqb n.length n.length refl)) (left n.seen_dead)) (right n.seen_dead)
  where
    left : (b : Bool) → not (not b && b) ≡ true
    left true = refl
    left false = refl

    right : (b : Bool) → not (b && not b) ≡ true
    right true = refl
    right false = refl

pub noted : (c : CpuPart) (ps : List Part) (n : Note) (front back : List Note) → Stands (Cpu c ∷ []) ps → c.notes ≡ front ++ n ∷ back → 0 < sum_by (notes_with (same_note n)) ps
noted c ps n front back s is =
    let here : 0 < count_by (same_note n) c.notes = subst (λ xs. 0 < count_by (same_note n) xs) (sym is) (count_at (same_note n) front n back (same_note_refl n)) in
    omega (arith, holds (Cpu c) ps s (notes_with (same_note n)))

-- a note's id was given
pub note_given : (k : Shape) (c : CpuPart) (ps : List Part) (front : List Note) (n : Note) (back : List Note) → Stands (Cpu c ∷ []) ps → Safe k ps → c.notes ≡ front ++ n ∷ back → n.id < sum_by next_id ps
note_given k c ps front n back s safe is = safe.cover.notes_known n (noted c ps n front back s is)

told_wrong : (a b s d : Bool) → not (not a || (b && (not s || d))) ≡ (a && (not b || (s && not d)))
told_wrong false b s d = refl
told_wrong true false s d = refl
told_wrong true true false d = refl
told_wrong true true true d = refl

-- the records are as the note tells
pub notes_agree_by : (k : Shape) (c : CpuPart) (l : ListPart) (ps : List Part) (front : List Note) (n : Note) (back : List Note) → Stands (Cpu c ∷ Modules l ∷ []) ps → Safe k ps → c.notes ≡ front ++ n ∷ back → list_all (is_as_noted n) l.records ≡ true
notes_agree_by k c l ps front n back s safe is =
    let one = the_list_of k l ps (stand_back (Cpu c ∷ []) (Modules l ∷ []) ps s) safe in
    let none = safe.cover.notes_agree n (noted c ps n front back (stand_front (Cpu c ∷ []) (Modules l ∷ []) ps s) is) in
    let few = count_more (λ (r : Record). not (is_as_noted n r)) (contradicts n) l.records
    (λ r e. sym (told_wrong (r.id == n.id) ((r.section == n.section) && (r.start == n.start) && (r.length == n.length)) n.seen_dead r.dead) ∙ e) in
    none_fail (is_as_noted n) l.records (omega (arith, few, none, one.only (records_with (contradicts n)) (of_records _)))
