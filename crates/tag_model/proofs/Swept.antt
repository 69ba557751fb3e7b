-- A tag that a CPU may count anew under lies in no range that is swept.
use Rattle.std.proofs.Common.{◌≡◌, ℕ, ◌<◌, ◌≤◌, ◌==◌, ◌&&◌, ◌⊎◌, nat_lt, List, ◌∷◌, sum_by, count_by, refl, sym, subst, inl, inr, arith, Bool, true, false, not, eqb-true, ltb-true, eq-eqb, if◌then◌else◌, ◌∙◌}
use Rattle.std.specs.List.{list_any, list_all}
use Rattle.std.proofs.lemmas.Bool.{and_parts, and_from}
use Rattle.std.proofs.lemmas.List.Sums.{sum_by-cons}
use Rattle.tag_model.specs.declared.shape.Shape.{Shape}
use Rattle.tag_model.specs.declared.state.Kind.{Kind}
use Rattle.tag_model.specs.declared.state.Kind.TheVariants.{Bytes, Calls}
use Rattle.tag_model.specs.declared.state.CpuPart.{CpuPart}
use Rattle.tag_model.specs.declared.state.ListPart.{ListPart}
use Rattle.tag_model.specs.declared.state.Part.{Part}
use Rattle.tag_model.specs.declared.state.Part.TheVariants.{Cpu, Modules}
use Rattle.tag_model.specs.declared.state.Reader.{Reader}
use Rattle.tag_model.specs.declared.state.Record.{Record}
use Rattle.tag_model.specs.declared.state.Run.{Run}
use Rattle.tag_model.specs.declared.state.Sweep.{Sweep}
use Rattle.tag_model.specs.declared.state.Sweep.TheVariants as sweep
use Rattle.tag_model.specs.declared.state.Tag.{Tag}
use Rattle.tag_model.specs.Laws.{CoverLaw, IsCovered, is_loaded_as, same_run, is_listed, covers_listed, is_calls, has_cleared, are_dead, rises_from, ids_of, sweep_fits, list_fits, cleared, is_reading, of_reader, reader_number, same_kind, tag_read}
use Rattle.tag_model.specs.Shape.{IsChecked}
use Rattle.tag_model.specs.StepRules.{Becomes, may_begin}
use Rattle.tag_model.specs.WordState.{one_if, Every, in_range, records_with, runs_with, record_fits, part_fits}
use Rattle.tag_model.proofs.Found.{found, found_any, none_fails, all_at, any_at, count_at}
use Rattle.tag_model.proofs.Parts.{TheList}
use Rattle.tag_model.proofs.Alike.{of_records, of_reading, of_cleared, of_fits, of_field}
use Rattle.tag_model.specs.Sweeping.{ids_left}
use Rattle.tag_model.proofs.Lists.{dead_at, loaded_at, in_range_means, in_range_from, apart_counts, dead_above_kernel, Apart, left_fits, cleared_is_listed, covered_is_dead, read_is_dead, records_more, record_fits_means}

-- the part stands among the parts
abbrev pub Holds : List Part → Part → Type 0
Holds ps part = (f : Part → ℕ) → f part ≤ sum_by f ps

pub holds_first : (part : Part) (more w ps qs : List Part) → Becomes (part ∷ more) w ps qs → Holds ps part
holds_first part more w ps qs b f = omega (arith, b.before f, sum_by-cons f part more)

pub part_passes : (test : Part → Bool) (ps : List Part) (part : Part) → Holds ps part → Every test ps → test part ≡ true
part_passes test ps part h e = none_fails (test part) (omega (arith, h (λ p. one_if (not (test p)))))

-- ---- the list part of a state, as the laws tell it

pub record ListLaws (k : Shape) (l : ListPart) : Type 0 where
  pub records_fit : list_all (record_fits k) l.records ≡ true
  pub rise : rises_from 0 (ids_of l.records) ≡ true
  pub apart : Apart l.records
  pub ranges : (t : ℕ) → count_by (λ (r : Record). in_range r.start r.length t) l.records ≤ 1
  pub sweep : sweep_fits k l.sweep l.records ≡ true

pub list_laws : (k : Shape) (ps : List Part) (t : TheList ps) → Every (part_fits k) ps → CoverLaw k ps → Every (list_fits k) ps → ListLaws k t.l
list_laws k ps t fits cover list =
    let both = and_parts (rises_from 0 (ids_of t.l.records)) (sweep_fits k t.l.sweep t.l.records) (none_fails (list_fits k (Modules t.l)) (omega (arith, t.only (λ p. one_if (not (list_fits k p))) (of_fits k)))) in
    record {
      records_fit = part_passes (part_fits k) ps (Modules t.l) t.stands fits;
      rise = both.0;
      apart = λ id. omega (arith, t.only (records_with (λ r. r.id == id)) (of_records _), cover.ids_apart id);
      ranges = λ u. omega (arith, t.only (records_with (λ r. in_range r.start r.length u)) (of_records _), cover.ranges_apart u);
      sweep = both.1;
    }

-- ---- what is swept is dead

reader_is_dead : (k : Shape) (kind : Kind) (s : Sweep) (records : List Record) → Apart records → sweep_fits k s records ≡ true → 0 < reader_number (λ r. one_if (same_kind kind r.pass)) s → 0 < count_by (dead_at (reader_number (λ r. r.tag) s)) records
reader_is_dead k kind sweep.None records apart fits h = absurd (omega arith)
reader_is_dead k kind (sweep.Done left) records apart fits h = absurd (omega arith)
reader_is_dead k kind (sweep.Reading left reader) records apart fits h = read_is_dead k left reader records apart fits

pub reading_is_dead : (k : Shape) (ps : List Part) (t : TheList ps) → ListLaws k t.l → (kind : Kind) → 0 < sum_by (is_reading kind) ps → 0 < count_by (dead_at (tag_read ps)) t.l.records
reading_is_dead k ps t laws kind h =
    subst (λ u. 0 < count_by (dead_at u) t.l.records) (sym (t.only (of_reader (λ r. r.tag)) (of_field _)))
    (reader_is_dead k kind t.l.sweep t.l.records laws.apart laws.sweep (omega (arith, t.only (is_reading kind) (of_reading kind))))

pub one_if_true : (b : Bool) → 0 < one_if b → b ≡ true
one_if_true true h = refl
one_if_true false h = absurd (omega arith)

pub cleared_is_dead : (k : Shape) (ps : List Part) (t : TheList ps) → ListLaws k t.l → (kind : Kind) (u : ℕ) → 0 < sum_by (cleared kind u) ps → 0 < count_by (dead_at u) t.l.records
cleared_is_dead k ps t laws kind u h =
    covered_is_dead (ids_left t.l.sweep) u t.l.records laws.apart (left_fits k t.l.sweep t.l.records laws.sweep).1
    (cleared_is_listed t.l.sweep kind u t.l.records (one_if_true (has_cleared t.l.sweep kind u t.l.records) (omega (arith, t.only (cleared kind u) (of_cleared kind u)))))

-- ---- while calls are read, no bytes are counted under the tag that is read

same_calls : (pass : Kind) → 0 < one_if (same_kind Calls pass) → is_calls pass ≡ true
same_calls Bytes h = absurd (omega arith)
same_calls Calls h = refl

reader_is_listed : (k : Shape) (left : List ℕ) (reader : Reader) (records : List Record) → sweep_fits k (sweep.Reading left reader) records ≡ true → covers_listed left reader.tag records ≡ true
reader_is_listed k left reader records e =
    let back = and_parts (rises_from 0 left && are_dead left records && is_listed left reader.id) (list_any (λ (r : Record). (r.id == reader.id) && in_range r.start r.length reader.tag) records) (and_parts _ (nat_lt reader.cpu k.cpus) e).0 in
    let listed = (and_parts (rises_from 0 left && are_dead left records) (is_listed left reader.id) back.0).1 in
    let f = found_any (λ (r : Record). (r.id == reader.id) && in_range r.start r.length reader.tag) records back.1 in
    let here = and_parts (f.item.id == reader.id) (in_range f.item.start f.item.length reader.tag) f.passes in
    subst (λ xs. covers_listed left reader.tag xs ≡ true) (sym f.is)
    (any_at (λ (r : Record). is_listed left r.id && in_range r.start r.length reader.tag) f.front f.item f.back
    (and_from _ _ (subst (λ id. is_listed left id ≡ true) (sym (eqb-true f.item.id reader.id here.0)) listed) here.1))

reader_has_cleared : (k : Shape) (s : Sweep) (records : List Record) → sweep_fits k s records ≡ true → 0 < reader_number (λ r. one_if (same_kind Calls r.pass)) s → has_cleared s Bytes (reader_number (λ r. r.tag) s) records ≡ true
reader_has_cleared k sweep.None records e h = absurd (omega arith)
reader_has_cleared k (sweep.Done left) records e h = absurd (omega arith)
reader_has_cleared k (sweep.Reading left reader) records e h = rw (same_calls reader.pass h) (reader_is_listed k left reader records e)

pub reading_calls_cleared : (k : Shape) (ps : List Part) (t : TheList ps) → ListLaws k t.l → 0 < sum_by (is_reading Calls) ps → 0 < sum_by (cleared Bytes (tag_read ps)) ps
reading_calls_cleared k ps t laws h =
    let same : tag_read ps ≡ reader_number (λ r. r.tag) t.l.sweep = t.only (of_reader (λ r. r.tag)) (of_field _) in
    let is : has_cleared t.l.sweep Bytes (tag_read ps) t.l.records ≡ true =
    subst (λ u. has_cleared t.l.sweep Bytes u t.l.records ≡ true) (sym same) (reader_has_cleared k t.l.sweep t.l.records laws.sweep (omega (arith, t.only (is_reading Calls) (of_reading Calls)))) in
    let one : one_if (has_cleared t.l.sweep Bytes (tag_read ps) t.l.records) ≡ 1 = rw is refl in
    omega (arith, t.only (cleared Bytes (tag_read ps)) (of_cleared Bytes (tag_read ps)))

-- ---- what may be counted anew is live

abbrev pub IsLive : Shape → List Part → ℕ → Type 0
IsLive k ps t = (t < k.kernel_tags) ⊎ (0 < sum_by (records_with (loaded_at t)) ps)

pub live_not_dead : (k : Shape) (ps : List Part) (t : TheList ps) → ListLaws k t.l → (u : ℕ) → IsLive k ps u → 0 < count_by (dead_at u) t.l.records → ⊥
live_not_dead k ps t laws u (inl h) dead = omega (arith, dead_above_kernel k u t.l.records laws.records_fit dead)
live_not_dead k ps t laws u (inr h) dead = apart_counts u t.l.records (laws.ranges u) dead (omega (arith, t.only (records_with (loaded_at u)) (of_records _)))

pub same_run_refl : (run : Run) → same_run run run ≡ true
same_run_refl run = and_from _ _ (and_from _ _ (and_from _ _ (eq-eqb run.id run.id refl) (eq-eqb run.section run.section refl)) (eq-eqb run.start run.start refl)) (eq-eqb run.length run.length refl)

-- what it is for a record to be the loaded record of a run
pub record LoadedAs (run : Run) (r : Record) : Type 0 where
  pub id : r.id ≡ run.id
  pub section : r.section ≡ run.section
  pub start : r.start ≡ run.start
  pub length : r.length ≡ run.length
  pub loaded : not r.dead ≡ true

pub loaded_as_means : (run : Run) (r : Record) → is_loaded_as run r ≡ true → LoadedAs run r
loaded_as_means run r e =
    let d = and_parts ((r.id == run.id) && (r.section == run.section) && (r.start == run.start) && (r.length == run.length)) (not r.dead) e in
    let c = and_parts ((r.id == run.id) && (r.section == run.section) && (r.start == run.start)) (r.length == run.length) d.0 in
    let b = and_parts ((r.id == run.id) && (r.section == run.section)) (r.start == run.start) c.0 in
    let a = and_parts (r.id == run.id) (r.section == run.section) b.0 in
    record { id = eqb-true _ _ a.0; section = eqb-true _ _ a.1; start = eqb-true _ _ b.1; length = eqb-true _ _ c.1; loaded = d.1 }

-- a run of a CPU on the tag's module has the tag in its range: so has the loaded record of the module
pub run_on_loaded : (k : Shape) (c : CpuPart) (ps : List Part) (tag : Tag) → Holds ps (Cpu c) → CoverLaw k ps
    → list_any (λ (r : Run). (r.id == tag.module) && in_range r.start r.length tag.number) c.runs ≡ true
    → 0 < sum_by (records_with (λ r. ((r.id == tag.module) && in_range r.start r.length tag.number) && not r.dead)) ps
run_on_loaded k c ps tag stands cover e =
    let f = found_any (λ (r : Run). (r.id == tag.module) && in_range r.start r.length tag.number) c.runs e in
    let here = and_parts (f.item.id == tag.module) (in_range f.item.start f.item.length tag.number) f.passes in
    let runs : 0 < count_by (same_run f.item) c.runs = subst (λ xs. 0 < count_by (same_run f.item) xs) (sym f.is) (count_at (same_run f.item) f.front f.item f.back (same_run_refl f.item)) in
    let loaded = cover.runs f.item (omega (arith, stands (runs_with (same_run f.item)))) in
    let more = records_more (is_loaded_as f.item) (λ r. ((r.id == tag.module) && in_range r.start r.length tag.number) && not r.dead) ps
    (λ r h. let like = loaded_as_means f.item r h in
    let within = in_range_means f.item.start f.item.length tag.number here.1 in
    and_from _ _ (and_from _ _ (eq-eqb r.id tag.module (like.id ∙ eqb-true f.item.id tag.module here.0))
    (in_range_from r.start r.length tag.number (omega (arith, like.start, within)) (omega (arith, like.start, like.length, within)))) like.loaded) in
    omega arith

pub live_from_run : (k : Shape) (ps : List Part) (tag : Tag) → 0 < sum_by (records_with (λ r. ((r.id == tag.module) && in_range r.start r.length tag.number) && not r.dead)) ps → IsLive k ps tag.number
live_from_run k ps tag h =
    let more = records_more (λ r. ((r.id == tag.module) && in_range r.start r.length tag.number) && not r.dead) (loaded_at tag.number) ps
    (λ r e. let both = and_parts ((r.id == tag.module) && in_range r.start r.length tag.number) (not r.dead) e in
    and_from _ _ both.1 (and_parts (r.id == tag.module) (in_range r.start r.length tag.number) both.0).1) in
    inr (omega arith)

pub covered_from_run : (k : Shape) (ps : List Part) (tag : Tag) → 0 < sum_by (records_with (λ r. ((r.id == tag.module) && in_range r.start r.length tag.number) && not r.dead)) ps → IsCovered k ps tag
covered_from_run k ps tag h =
    let more = records_more (λ r. ((r.id == tag.module) && in_range r.start r.length tag.number) && not r.dead) (λ r. (r.id == tag.module) && in_range r.start r.length tag.number) ps
    (λ r e. (and_parts ((r.id == tag.module) && in_range r.start r.length tag.number) (not r.dead) e).0) in
    inr (omega arith)

-- a CPU may begin an allocation under a live and covered tag
pub begins_live : (k : Shape) (c : CpuPart) (ps : List Part) (tag : Tag) → Holds ps (Cpu c) → CoverLaw k ps → may_begin k tag c.runs ≡ true → IsLive k ps tag.number × IsCovered k ps tag
begins_live k c ps tag stands cover e = go (tag.module == 0) refl e
  where
    go : (b : Bool) → (tag.module == 0) ≡ b → (if b then nat_lt tag.number k.kernel_tags else list_any (λ (r : Run). (r.id == tag.module) && in_range r.start r.length tag.number) c.runs) ≡ true → IsLive k ps tag.number × IsCovered k ps tag
    go true is h = let below = ltb-true tag.number k.kernel_tags h in (inl below, inl (eqb-true tag.module 0 is, below))
    go false is h = let loaded = run_on_loaded k c ps tag stands cover h in (live_from_run k ps tag loaded, covered_from_run k ps tag loaded)

-- a covered tag is one of the shape's
pub covered_below : (k : Shape) (ps : List Part) (t : TheList ps) → IsChecked k → ListLaws k t.l → (tag : Tag) → IsCovered k ps tag → tag.number < k.tags
covered_below k ps t ok laws tag (inl h) = omega (arith, h, ok.few_kernel_tags)
covered_below k ps t ok laws tag (inr h) =
    let f = found (λ (r : Record). (r.id == tag.module) && in_range r.start r.length tag.number) t.l.records (omega (arith, t.only (records_with (λ r. (r.id == tag.module) && in_range r.start r.length tag.number)) (of_records _))) in
    let fit = record_fits_means k f.item (all_at (record_fits k) f.front f.item f.back (subst (λ xs. list_all (record_fits k) xs ≡ true) f.is laws.records_fit)) in
    let within = in_range_means f.item.start f.item.length tag.number (and_parts (f.item.id == tag.module) (in_range f.item.start f.item.length tag.number) f.passes).1 in
    omega (arith, fit, within)
