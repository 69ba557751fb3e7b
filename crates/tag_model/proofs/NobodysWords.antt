-- No step changes a word of a tag that lies above the kernel's and in no record's range.
use Rattle.std.proofs.Common.{◌≡◌, ◌≢◌, ℕ, ◌==◌, ◌&&◌, List, [], ◌∷◌, sum_by, slice_index, Some, refl, ap, ◌∙◌, subst, inl, inr, arith}
use Rattle.std.proofs.lemmas.Bool.{and_parts}
use Rattle.tag_model.specs.declared.shape.Shape.{Shape}
use Rattle.tag_model.specs.declared.state.CpuPart.{CpuPart}
use Rattle.tag_model.specs.declared.state.Hand.{Hand}
use Rattle.tag_model.specs.declared.state.Kind.{Kind}
use Rattle.tag_model.specs.declared.state.Kind.TheVariants.{Bytes, Calls}
use Rattle.tag_model.specs.declared.state.ListPart.{ListPart}
use Rattle.tag_model.specs.declared.state.Part.{Part}
use Rattle.tag_model.specs.declared.state.Part.TheVariants.{Cpu, Place, Modules}
use Rattle.tag_model.specs.declared.state.Tag.{Tag}
use Rattle.tag_model.specs.Histories.{IsHistory, Leads, last_state}
use Rattle.tag_model.specs.Laws.{Safe, IsCovered}
use Rattle.tag_model.specs.Shape.{IsChecked}
use Rattle.tag_model.specs.StepRules.{BaseMove, Becomes, Row, lowered, raised}
use Rattle.tag_model.specs.Telling.{AreNobodys, IsNobodys, own_word}
use Rattle.tag_model.specs.WordState.{in_range, records_with, word_place}
use Rattle.tag_model.proofs.CpuFits.{hand_covered}
use Rattle.tag_model.proofs.Lists.{records_more}
use Rattle.tag_model.proofs.Parts.{becomes_same}
use Rattle.tag_model.proofs.StopLaw.{leads_safe}
use Rattle.tag_model.proofs.Swept.{begins_live, holds_first}
use Rattle.tag_model.proofs.Words.{lowered_elsewhere, raised_elsewhere}

-- a covered tag isn't nobody's
covered_apart : (k : Shape) (t : ℕ) (ps : List Part) (tag : Tag) → IsNobodys k t ps → IsCovered k ps tag → t ≢ tag.number
covered_apart k t ps tag free (inl h) is = omega (arith, free.above, h.1)
covered_apart k t ps tag free (inr h) is =
    let more = records_more (λ r. (r.id == tag.module) && in_range r.start r.length tag.number) (λ r. in_range r.start r.length tag.number) ps
    (λ r e. (and_parts (r.id == tag.module) (in_range r.start r.length tag.number) e).1) in
    let none = subst (λ u. sum_by (records_with (λ r. in_range r.start r.length u)) ps ≡ 0) is free.free in
    omega arith

-- words of two tags stand apart
places_apart : (kind other : Kind) (t u : ℕ) → t ≢ u → word_place kind t ≢ word_place other u
places_apart Bytes Bytes t u ne e = ne (omega arith)
places_apart Bytes Calls t u ne e = omega arith
places_apart Calls Bytes t u ne e = omega arith
places_apart Calls Calls t u ne e = ne (omega arith)

-- a CPU whose word stays has it after the step
word_stays : (n : ℕ) (kind : Kind) (t : ℕ) (c d : CpuPart) (ps qs : List Part) → Becomes (Cpu c ∷ []) (Cpu d ∷ []) ps qs → d.number ≡ c.number → slice_index d.words (word_place kind t) ≡ slice_index c.words (word_place kind t)
    → sum_by (own_word n kind t) qs ≡ sum_by (own_word n kind t) ps
word_stays n kind t c d ps qs b number word =
    let same : own_word n kind t (Cpu c) ≡ own_word n kind t (Cpu d) = rw (number, word) refl in
    becomes_same (own_word n kind t) (Cpu c ∷ []) (Cpu d ∷ []) ps qs b (omega (arith, same))

rises : (n : ℕ) (kind other : Kind) (t u by : ℕ) (c d : CpuPart) (ps qs : List Part) → t ≢ u → Becomes (Cpu c ∷ []) (Cpu d ∷ []) ps qs → d.number ≡ c.number → d.words ≡ raised other u by c.words → sum_by (own_word n kind t) qs ≡ sum_by (own_word n kind t) ps
rises n kind other t u by c d ps qs apart b number words =
    word_stays n kind t c d ps qs b number (ap (λ ws. slice_index ws (word_place kind t)) words ∙ raised_elsewhere other u by c.words (word_place kind t) (places_apart kind other t u apart))

falls : (n : ℕ) (kind other : Kind) (t u by : ℕ) (c d : CpuPart) (ps qs : List Part) → t ≢ u → Becomes (Cpu c ∷ []) (Cpu d ∷ []) ps qs → d.number ≡ c.number → d.words ≡ lowered other u by c.words → sum_by (own_word n kind t) qs ≡ sum_by (own_word n kind t) ps
falls n kind other t u by c d ps qs apart b number words =
    word_stays n kind t c d ps qs b number (ap (λ ws. slice_index ws (word_place kind t)) words ∙ lowered_elsewhere other u by c.words (word_place kind t) (places_apart kind other t u apart))

-- the tag of a hand is another one
hand_apart : (k : Shape) (t : ℕ) (c : CpuPart) (h : Hand) (w ps qs : List Part) → IsNobodys k t ps → Becomes (Cpu c ∷ []) w ps qs → Safe k ps → c.hand ≡ Some h → t ≢ h.tag.number
hand_apart k t c h w ps qs free b safe is = covered_apart k t ps h.tag free (hand_covered k c h ps (holds_first (Cpu c) [] w ps qs b) safe.fits safe.cover is)

row_stays : (k : Shape) (n : ℕ) (kind : Kind) (t : ℕ) (v w ps qs : List Part) → Row k v w → Becomes v w ps qs → Safe k ps → IsNobodys k t ps → sum_by (own_word n kind t) qs ≡ sum_by (own_word n kind t) ps
row_stays k n kind t v w ps qs (Row.begins_allocation {tag} {old} {new} r) b safe free =
    rises n kind Calls t tag.number 1 old new ps qs (covered_apart k t ps tag free (begins_live k old ps tag (holds_first (Cpu old) [] (Cpu new ∷ []) ps qs b) safe.cover r.allowed).1) b (ap (λ (x : CpuPart). x.number) r.after) (ap (λ (x : CpuPart). x.words) r.after)
row_stays k n kind t v w ps qs (Row.adds_call {hand} {old} {new} r) b safe free = rises n kind Calls t hand.tag.number 1 old new ps qs (hand_apart k t old hand _ ps qs free b safe r.held) b (ap (λ (x : CpuPart). x.number) r.after) (ap (λ (x : CpuPart). x.words) r.after)
row_stays k n kind t v w ps qs (Row.adds_bytes {size} {hand} {old} {new} r) b safe free = rises n kind Bytes t hand.tag.number size old new ps qs (hand_apart k t old hand _ ps qs free b safe r.held) b (ap (λ (x : CpuPart). x.number) r.after) (ap (λ (x : CpuPart). x.words) r.after)
row_stays k n kind t v w ps qs (Row.subtracts_bytes {bytes} {hand} {old} {new} r) b safe free =
    falls n kind Bytes t hand.tag.number bytes old new ps qs (hand_apart k t old hand _ ps qs free b safe r.held) b (ap (λ (x : CpuPart). x.number) r.after) (ap (λ (x : CpuPart). x.words) r.after)
row_stays k n kind t v w ps qs (Row.subtracts_call {hand} {old} {new} r) b safe free = falls n kind Calls t hand.tag.number 1 old new ps qs (hand_apart k t old hand _ ps qs free b safe r.held) b (ap (λ (x : CpuPart). x.number) r.after) (ap (λ (x : CpuPart). x.words) r.after)
row_stays k n kind t v w ps qs (Row.writes_place {n = m} {old} {new} {was} {next} r) b safe free =
    becomes_same (own_word n kind t) (Cpu old ∷ Place m was ∷ []) (Cpu (record old { hand = new.hand }) ∷ Place m next ∷ []) ps qs (subst (λ y. Becomes (Cpu old ∷ Place m was ∷ []) (Cpu y ∷ Place m next ∷ []) ps qs) r.after b) refl
row_stays k n kind t v w ps qs (Row.scans r) b safe free = becomes_same (own_word n kind t) v w ps qs b refl
row_stays k n kind t v w ps qs (Row.loads r) b safe free = becomes_same (own_word n kind t) v w ps qs b refl
row_stays k n kind t v w ps qs (Row.enters r) b safe free = becomes_same (own_word n kind t) v w ps qs b refl
row_stays k n kind t v w ps qs (Row.leaves r) b safe free = becomes_same (own_word n kind t) v w ps qs b refl
row_stays k n kind t v w ps qs (Row.marks_dead r) b safe free = becomes_same (own_word n kind t) v w ps qs b refl
row_stays k n kind t v w ps qs (Row.sweeps r) b safe free = becomes_same (own_word n kind t) v w ps qs b refl
row_stays k n kind t v w ps qs (Row.releases r) b safe free = becomes_same (own_word n kind t) v w ps qs b refl

-- a base move leaves a CPU's number and words
cpu_stays : (n : ℕ) (kind : Kind) (t : ℕ) (c d : CpuPart) (from to : ListPart) (ps qs : List Part) → Becomes (Cpu c ∷ Modules from ∷ []) (Cpu d ∷ Modules to ∷ []) ps qs → d.number ≡ c.number → d.words ≡ c.words
    → sum_by (own_word n kind t) qs ≡ sum_by (own_word n kind t) ps
cpu_stays n kind t c d from to ps qs b number words =
    let same : own_word n kind t (Cpu c) ≡ own_word n kind t (Cpu d) = rw (number, words) refl in
    becomes_same (own_word n kind t) (Cpu c ∷ Modules from ∷ []) (Cpu d ∷ Modules to ∷ []) ps qs b (omega (arith, same))

base_stays : (n : ℕ) (kind : Kind) (t : ℕ) (v w ps qs : List Part) → BaseMove v w → Becomes v w ps qs → sum_by (own_word n kind t) qs ≡ sum_by (own_word n kind t) ps
base_stays n kind t v w ps qs (BaseMove.gives_run {old} {new} {from} {to} r) b = cpu_stays n kind t old new from to ps qs b (ap (λ (x : CpuPart). x.number) r.cpu) (ap (λ (x : CpuPart). x.words) r.cpu)
base_stays n kind t v w ps qs (BaseMove.takes_run {old} {new} {from} {to} r) b = cpu_stays n kind t old new from to ps qs b (ap (λ (x : CpuPart). x.number) r.cpu) (ap (λ (x : CpuPart). x.words) r.cpu)
base_stays n kind t v w ps qs (BaseMove.notes_record {old} {new} {list} r) b = cpu_stays n kind t old new list list ps qs b (ap (λ (x : CpuPart). x.number) r.after) (ap (λ (x : CpuPart). x.words) r.after)
base_stays n kind t v w ps qs (BaseMove.reorders_runs r) b = becomes_same (own_word n kind t) v w ps qs b refl

pub leads_stays : (k : Shape) (n : ℕ) (kind : Kind) (t : ℕ) (ps qs : List Part) → Leads k ps qs → Safe k ps → IsNobodys k t ps → sum_by (own_word n kind t) qs ≡ sum_by (own_word n kind t) ps
leads_stays k n kind t ps qs (Leads.step m) safe free = row_stays k n kind t m.v m.w ps qs m.row m.becomes safe free
leads_stays k n kind t ps qs (Leads.base_move {v} {w} m b) safe free = base_stays n kind t v w ps qs m b

-- a word stays over a history in which its tag is nobody's
pub history_stays : (k : Shape) (n : ℕ) (kind : Kind) (t : ℕ) (first : List Part) (later : List (List Part)) → IsChecked k → Safe k first → IsHistory k first later → AreNobodys k t first later → sum_by (own_word n kind t) (last_state first later) ≡ sum_by (own_word n kind t) first
history_stays k n kind t first [] ok safe h free = refl
history_stays k n kind t first (next ∷ later) ok safe h free = history_stays k n kind t next later ok (leads_safe k first next ok h.0 safe) h.1 free.1 ∙ leads_stays k n kind t first next h.0 safe free.0
