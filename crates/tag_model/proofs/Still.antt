-- A tag of a dead range under which nothing is counted: nothing will be, while its words stand still, so a pass that reads it finds 0.
use Rattle.std.proofs.Common.{◌≡◌, ℕ, ◌+◌, ◌<◌, ◌≤◌, nat_le, List, [], ◌∷◌, sum_by, slice_index, refl, sym, ap, ◌∙◌, subst, arith, Bool, true, false, cond, Option}
use Rattle.tag_model.specs.declared.shape.Shape.{Shape}
use Rattle.tag_model.specs.declared.state.CpuPart.{CpuPart}
use Rattle.tag_model.specs.declared.state.Hand.{Hand}
use Rattle.tag_model.specs.declared.state.Kind.{Kind}
use Rattle.tag_model.specs.declared.state.ListPart.{ListPart}
use Rattle.tag_model.specs.declared.state.Part.{Part}
use Rattle.tag_model.specs.declared.state.Part.TheVariants.{Cpu}
use Rattle.tag_model.specs.declared.state.Reader.{Reader}
use Rattle.tag_model.specs.declared.state.Sweep.{Sweep}
use Rattle.tag_model.specs.declared.state.Sweep.TheVariants as sweep
use Rattle.tag_model.specs.Laws.{Safe, is_reading, of_reader, reader_number, same_kind, tag_read, cpu_read}
use Rattle.tag_model.specs.StepRules.{Becomes, raised, lowered}
use Rattle.tag_model.specs.Wrap.{wrap, wrap_minus}
use Rattle.tag_model.specs.WordState.{one_if, word_place, word_of, word_from, counted, records_with}
use Rattle.tag_model.proofs.Alike.{Alike, alike_after, alike_cpu, of_records, of_field, of_reading}
use Rattle.tag_model.proofs.Bounds.{from_first_at, sum_same}
use Rattle.tag_model.proofs.CpuRows.{RiseStep, FallStep}
use Rattle.tag_model.proofs.ListRows.{OneList, same_kind_means, same_kind_refl}
use Rattle.tag_model.proofs.Lists.{dead_at}
use Rattle.tag_model.proofs.Parts.{the_list}
use Rattle.tag_model.proofs.Swept.{list_laws, reading_is_dead}
use Rattle.tag_model.proofs.Words.{by_word, raised_elsewhere, lowered_here, lowered_elsewhere}

-- of a pass of this kind: nothing is counted under the tag where a dead range has it, and what is read of it with what is still to read comes to 0
pub record Still (kind : Kind) (t : ℕ) (ps : List Part) : Type 0 where
  pub nothing : 0 < sum_by (records_with (dead_at t)) ps → sum_by (counted kind t) ps ≡ 0
  pub own_pass : (other : Kind) → 0 < sum_by (is_reading other) ps → other ≡ kind
  pub reads : 0 < sum_by (is_reading kind) ps → tag_read ps ≡ t → wrap (sum_by (of_reader (λ r. r.sum)) ps + sum_by (word_from (cpu_read ps) kind t) ps) ≡ 0

-- the tag that is read lies in a dead range
pub read_tag_dead : (k : Shape) (ps : List Part) → Safe k ps → (kind : Kind) → 0 < sum_by (is_reading kind) ps → 0 < sum_by (records_with (dead_at (tag_read ps))) ps
read_tag_dead k ps safe kind reads =
    let t = the_list ps safe.each.list in
    let laws = list_laws k ps t safe.fits safe.cover safe.sweep.fits in
    omega (arith, reading_is_dead k ps t laws kind reads, t.only (records_with (dead_at (tag_read ps))) (of_records _))

-- ---- steps that leave the sweep as it is

pub record StaysStill (kind : Kind) (t : ℕ) (ps qs : List Part) : Type 0 where
  pub dead : sum_by (records_with (dead_at t)) qs ≤ sum_by (records_with (dead_at t)) ps
  pub field : (f : Reader → ℕ) → sum_by (of_reader f) qs ≡ sum_by (of_reader f) ps
  pub counts : 0 < sum_by (records_with (dead_at t)) ps → sum_by (counted kind t) ps ≡ 0 → sum_by (counted kind t) qs ≡ 0
  pub words : 0 < sum_by (records_with (dead_at t)) ps → sum_by (counted kind t) ps ≡ 0 → (s i : ℕ) → wrap (s + sum_by (word_from i kind t) qs) ≡ wrap (s + sum_by (word_from i kind t) ps)

pub still_stays : (k : Shape) (kind : Kind) (t : ℕ) (ps qs : List Part) → Safe k ps → StaysStill kind t ps qs → Still kind t ps → Still kind t qs
still_stays k kind t ps qs safe same s = record {
  nothing = λ dead. let was : 0 < sum_by (records_with (dead_at t)) ps = omega (arith, same.dead) in same.counts was (s.nothing was);
  own_pass = λ other reads. s.own_pass other (omega (arith, same.field (λ r. one_if (same_kind other r.pass))));
  reads = λ reads is.
      let read : 0 < sum_by (is_reading kind) ps = omega (arith, same.field (λ r. one_if (same_kind kind r.pass))) in
      let tag : tag_read ps ≡ t = sym (same.field (λ r. r.tag)) ∙ is in
      let dead : 0 < sum_by (records_with (dead_at t)) ps = subst (λ u. 0 < sum_by (records_with (dead_at u)) ps) tag (read_tag_dead k ps safe kind read) in
      rw (same.field (λ r. r.sum), same.field (λ r. r.cpu)) (same.words dead (s.nothing dead) (sum_by (of_reader (λ r. r.sum)) ps) (cpu_read ps) ∙ s.reads read tag);
}

-- states that are alike but for words and counts
pub stays_alike : (kind : Kind) (t : ℕ) (ps qs : List Part) → Alike ps qs
    → (0 < sum_by (records_with (dead_at t)) ps → sum_by (counted kind t) ps ≡ 0 → sum_by (counted kind t) qs ≡ 0)
    → (0 < sum_by (records_with (dead_at t)) ps → sum_by (counted kind t) ps ≡ 0 → (s i : ℕ) → wrap (s + sum_by (word_from i kind t) qs) ≡ wrap (s + sum_by (word_from i kind t) ps))
    → StaysStill kind t ps qs
stays_alike kind t ps qs a counts words = record { dead = omega (arith, a.list (records_with (dead_at t)) (of_records _)); field = λ f. sym (a.list (of_reader f) (of_field f)); counts = counts; words = words }

-- a word that rises is another one
pub rise_stays : (k : Shape) (kind other : Kind) (t u n : ℕ) (c : CpuPart) (hand : Option Hand) (ps qs : List Part) → RiseStep k ps other u n c hand
    → Becomes (Cpu c ∷ []) (Cpu (record c { words = raised other u n c.words; hand = hand }) ∷ []) ps qs → StaysStill kind t ps qs
rise_stays k kind other t u n c hand ps qs step b =
    stays_alike kind t ps qs (alike_after (Cpu c ∷ []) (Cpu (record c { words = raised other u n c.words; hand = hand }) ∷ []) ps qs (alike_cpu c (raised other u n c.words) hand) b)
    (λ dead none. (both kind t dead none).0) (λ dead none. (both kind t dead none).1)
  where
    both : (kind : Kind) (t : ℕ) → 0 < sum_by (records_with (dead_at t)) ps → sum_by (counted kind t) ps ≡ 0
        → (sum_by (counted kind t) qs ≡ 0) × ((s i : ℕ) → wrap (s + sum_by (word_from i kind t) qs) ≡ wrap (s + sum_by (word_from i kind t) ps))
    both = by_word (λ kind t. 0 < sum_by (records_with (dead_at t)) ps → sum_by (counted kind t) ps ≡ 0 → (sum_by (counted kind t) qs ≡ 0) × ((s i : ℕ) → wrap (s + sum_by (word_from i kind t) qs) ≡ wrap (s + sum_by (word_from i kind t) ps))) other u
        (λ dead none. absurd (omega (arith, step.held dead)))
        (λ kind t ne dead none. (
          omega (arith, b.before (counted kind t), b.after (counted kind t), step.rises.elsewhere kind t ne),
          λ s i.
              let same : cond {A = ℕ} (nat_le i c.number) (slice_index (raised other u n c.words) (word_place kind t)) 0 ≡ cond (nat_le i c.number) (slice_index c.words (word_place kind t)) 0 = ap (λ x. cond {A = ℕ} (nat_le i c.number) x 0) (raised_elsewhere other u n c.words (word_place kind t) ne) in
              let words : sum_by (word_from i kind t) qs ≡ sum_by (word_from i kind t) ps = omega (arith, b.before (word_from i kind t), b.after (word_from i kind t)) in
              ap (λ x. wrap (s + x)) words,
        ))

lowered_nothing : (b : Bool) (s w x n : ℕ) → n ≡ 0 → wrap (s + (w + cond b (wrap_minus x n) 0)) ≡ wrap (s + (w + cond b x 0))
lowered_nothing true s w x n e = omega arith
lowered_nothing false s w x n e = refl

-- a word that falls is another one, or falls by nothing
pub fall_stays : (k : Shape) (kind other : Kind) (t u n : ℕ) (c : CpuPart) (hand : Option Hand) (ps qs : List Part) → FallStep k ps other u n c hand
    → Becomes (Cpu c ∷ []) (Cpu (record c { words = lowered other u n c.words; hand = hand }) ∷ []) ps qs → StaysStill kind t ps qs
fall_stays k kind other t u n c hand ps qs step b =
    stays_alike kind t ps qs (alike_after (Cpu c ∷ []) (Cpu (record c { words = lowered other u n c.words; hand = hand }) ∷ []) ps qs (alike_cpu c (lowered other u n c.words) hand) b)
    (λ dead none. (both kind t none).0) (λ dead none. (both kind t none).1)
  where
    both : (kind : Kind) (t : ℕ) → sum_by (counted kind t) ps ≡ 0 → (sum_by (counted kind t) qs ≡ 0) × ((s i : ℕ) → wrap (s + sum_by (word_from i kind t) qs) ≡ wrap (s + sum_by (word_from i kind t) ps))
    both = by_word (λ kind t. sum_by (counted kind t) ps ≡ 0 → (sum_by (counted kind t) qs ≡ 0) × ((s i : ℕ) → wrap (s + sum_by (word_from i kind t) qs) ≡ wrap (s + sum_by (word_from i kind t) ps))) other u
        (λ none.
        let nothing : n ≡ 0 = omega (arith, b.before (counted other u), step.falls.here) in (
          omega (arith, b.before (counted other u), b.after (counted other u), step.falls.here),
          λ s i.
              let fallen : cond {A = ℕ} (nat_le i c.number) (slice_index (lowered other u n c.words) (word_place other u)) 0 ≡ cond (nat_le i c.number) (wrap_minus (slice_index c.words (word_place other u)) n) 0 = ap (λ x. cond {A = ℕ} (nat_le i c.number) x 0) (lowered_here other u n c.words step.falls.within) in
              let now : sum_by (word_from i other u) qs ≡ sum_by (word_from i other u) b.rest + cond (nat_le i c.number) (wrap_minus (slice_index c.words (word_place other u)) n) 0 = omega (arith, b.after (word_from i other u)) in
              let was : sum_by (word_from i other u) ps ≡ sum_by (word_from i other u) b.rest + cond (nat_le i c.number) (slice_index c.words (word_place other u)) 0 = omega (arith, b.before (word_from i other u)) in
              rw (now, was) (lowered_nothing (nat_le i c.number) s (sum_by (word_from i other u) b.rest) (slice_index c.words (word_place other u)) n nothing),
        ))
        (λ kind t ne none. (
          omega (arith, b.before (counted kind t), b.after (counted kind t), step.falls.elsewhere kind t ne),
          λ s i.
              let same : cond {A = ℕ} (nat_le i c.number) (slice_index (lowered other u n c.words) (word_place kind t)) 0 ≡ cond (nat_le i c.number) (slice_index c.words (word_place kind t)) 0 = ap (λ x. cond {A = ℕ} (nat_le i c.number) x 0) (lowered_elsewhere other u n c.words (word_place kind t) ne) in
              let words : sum_by (word_from i kind t) qs ≡ sum_by (word_from i kind t) ps = omega (arith, b.before (word_from i kind t), b.after (word_from i kind t)) in
              ap (λ x. wrap (s + x)) words,
        ))

-- ---- the sweep of a state, by its list part

abbrev pub ReadsNothing : Kind → ℕ → Sweep → List Part → Type 0
ReadsNothing kind t sweep.None ps = Unit {0}
ReadsNothing kind t (sweep.Done left) ps = Unit {0}
ReadsNothing kind t (sweep.Reading left r) ps = (r.pass ≡ kind) × (r.tag ≡ t → wrap (r.sum + sum_by (word_from r.cpu kind t) ps) ≡ 0)

-- a pass of the kind stands at the first CPU of a tag, or the sweep doesn't read
abbrev pub AtStart : Kind → Sweep → Type 0
AtStart kind sweep.None = Unit {0}
AtStart kind (sweep.Done left) = Unit {0}
AtStart kind (sweep.Reading left r) = (r.pass ≡ kind) × (r.cpu ≡ 0) × (r.sum ≡ 0)

-- the words from the first CPU on are all words: where nothing is counted they come to 0
start_of_nothing : (k : Shape) (ps : List Part) → Safe k ps → (kind : Kind) (t s cpu : ℕ) → s ≡ 0 → cpu ≡ 0 → sum_by (counted kind t) ps ≡ 0 → wrap (s + sum_by (word_from cpu kind t) ps) ≡ 0
start_of_nothing k ps safe kind t s cpu none first nothing =
    let all = sum_same (word_from 0 kind t) (word_of kind t) ps (from_first_at kind t) in
    let same : sum_by (word_from cpu kind t) ps ≡ sum_by (word_of kind t) ps = ap (λ i. sum_by (word_from i kind t) ps) first ∙ all in
    rw same (omega (arith, safe.sums.sums kind t))

-- a sweep's numbers, where it is so
pub still_by_sweep : (kind : Kind) (t : ℕ) (l : ListPart) (ps : List Part) → OneList l ps → (0 < sum_by (records_with (dead_at t)) ps → sum_by (counted kind t) ps ≡ 0) → ReadsNothing kind t l.sweep ps → Still kind t ps
still_by_sweep kind t l ps o nothing reads = record {
  nothing = nothing;
  own_pass = λ other h. own l.sweep reads other (omega (arith, o.only (is_reading other) (of_reading other)));
  reads = λ h is.
      rw (o.only (of_reader (λ r. r.sum)) (of_field _), o.only (of_reader (λ r. r.cpu)) (of_field _))
      (read l.sweep reads (omega (arith, o.only (is_reading kind) (of_reading kind))) (sym (o.only (of_reader (λ r. r.tag)) (of_field _)) ∙ is));
}
  where
    own : (s : Sweep) → ReadsNothing kind t s ps → (other : Kind) → 0 < reader_number (λ r. one_if (same_kind other r.pass)) s → other ≡ kind
    own sweep.None e other h = absurd (omega arith)
    own (sweep.Done left) e other h = absurd (omega arith)
    own (sweep.Reading left r) e other h = same_kind_means other r.pass h ∙ e.0

    read : (s : Sweep) → ReadsNothing kind t s ps → 0 < reader_number (λ r. one_if (same_kind kind r.pass)) s → reader_number (λ r. r.tag) s ≡ t → wrap (reader_number (λ r. r.sum) s + sum_by (word_from (reader_number (λ r. r.cpu) s) kind t) ps) ≡ 0
    read sweep.None e h is = absurd (omega arith)
    read (sweep.Done left) e h is = absurd (omega arith)
    read (sweep.Reading left r) e h is = e.1 is

pub sweep_of_still : (kind : Kind) (t : ℕ) (l : ListPart) (left : List ℕ) (r : Reader) (ps : List Part) → OneList l ps → l.sweep ≡ sweep.Reading left r → Still kind t ps → ReadsNothing kind t (sweep.Reading left r) ps
sweep_of_still kind t l left r ps o is s =
    let own : r.pass ≡ kind = s.own_pass r.pass (reads r.pass refl) in (
      own,
      λ here.
          subst (λ x. wrap (x + sum_by (word_from r.cpu kind t) ps) ≡ 0) (number (λ x. x.sum))
          (subst (λ i. wrap (sum_by (of_reader (λ x. x.sum)) ps + sum_by (word_from i kind t) ps) ≡ 0) (number (λ x. x.cpu)) (s.reads (reads kind own) (number (λ x. x.tag) ∙ here))),
    )
  where
    number : (f : Reader → ℕ) → sum_by (of_reader f) ps ≡ f r
    number f = o.only (of_reader f) (of_field f) ∙ ap (reader_number f) is

    reads : (other : Kind) → r.pass ≡ other → 0 < sum_by (is_reading other) ps
    reads other same =
        let one : one_if (same_kind other r.pass) ≡ 1 = subst (λ x. one_if (same_kind x r.pass) ≡ 1) same (rw (same_kind_refl r.pass) refl) in
        omega (arith, number (λ x. one_if (same_kind other x.pass)))

-- a pass that stands at the first CPU of a tag reads nothing, where nothing is counted
pub still_start : (k : Shape) (kind : Kind) (t : ℕ) (l : ListPart) (ps : List Part) → Safe k ps → OneList l ps → (0 < sum_by (records_with (dead_at t)) ps → sum_by (counted kind t) ps ≡ 0) → AtStart kind l.sweep → Still kind t ps
still_start k kind t l ps safe o nothing start = record {
  nothing = nothing;
  own_pass = λ other h. own l.sweep start other (omega (arith, o.only (is_reading other) (of_reading other)));
  reads = λ reads is.
      let dead = subst (λ u. 0 < sum_by (records_with (dead_at u)) ps) is (read_tag_dead k ps safe kind reads) in
      start_of_nothing k ps safe kind t (sum_by (of_reader (λ r. r.sum)) ps) (cpu_read ps) (o.only (of_reader (λ r. r.sum)) (of_field _) ∙ (numbers l.sweep start).0) (o.only (of_reader (λ r. r.cpu)) (of_field _) ∙ (numbers l.sweep start).1) (nothing dead);
}
  where
    own : (s : Sweep) → AtStart kind s → (other : Kind) → 0 < reader_number (λ r. one_if (same_kind other r.pass)) s → other ≡ kind
    own sweep.None e other h = absurd (omega arith)
    own (sweep.Done left) e other h = absurd (omega arith)
    own (sweep.Reading left r) e other h = same_kind_means other r.pass h ∙ e.0

    numbers : (s : Sweep) → AtStart kind s → (reader_number (λ r. r.sum) s ≡ 0) × (reader_number (λ r. r.cpu) s ≡ 0)
    numbers sweep.None e = (refl, refl)
    numbers (sweep.Done left) e = (refl, refl)
    numbers (sweep.Reading left r) e = (e.2, e.1)
