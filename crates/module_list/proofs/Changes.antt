-- Each change of the list is a step of the step rules.
use Rattle.std.proofs.Common.{◌≡◌, ℕ, ◌+◌, ◌-◌, ◌<◌, ◌≤◌, ◌||◌, ◌⊎◌, nat_le, List, [], ◌∷◌, ◌++◌, count_by, slice_index, Some, refl, sym, ap, ◌∙◌, subst, inl, inr, arith, true, false, leb-true, lt-ltb, append-nil, nat_lt, None}
use Rattle.std.specs.List.{list_all}
use Rattle.std.proofs.lemmas.Bool.{or_cases, cases_lt}
use Rattle.tag_model.specs.declared.shape.Shape.{Shape}
use Rattle.tag_model.specs.declared.state.CpuPart.{CpuPart}
use Rattle.tag_model.specs.declared.state.Kind.TheVariants.{Bytes}
use Rattle.tag_model.specs.declared.state.ListPart.{ListPart}
use Rattle.tag_model.specs.declared.state.Reader.{Reader}
use Rattle.tag_model.specs.declared.state.Record.{Record}
use Rattle.tag_model.specs.declared.state.Run.{Run}
use Rattle.tag_model.specs.declared.state.Sweep.TheVariants as sweep
use Rattle.tag_model.specs.Laws.{ids_of, is_listed, rises_from}
use Rattle.tag_model.specs.StepRules.{Enters, Leaves, Loads, MarksDead, Releases, Scans, begins_pass, run_on}
use Rattle.tag_model.specs.WordState.{in_range, word_place}
use Rattle.tag_model.proofs.Found.{found, all_at}
use Rattle.tag_model.proofs.Lists.{in_range_means}
use Rattle.module_list.specs.Listing.{Listing, dead_record, entered, entered_record, left, left_record, list_part, found_at, loaded, marked_dead, read_to, read_to_at, record_in, released, released_at, scanned, scanned_at, sum_read}
use Rattle.module_list.proofs.At.{record_at}

-- ranges that a load stays clear of don't have its tags
clear_of : (records : List Record) (start size t : ℕ) → list_all (λ (r : Record). nat_le (r.start + r.length) start || nat_le (start + size) r.start) records ≡ true → start ≤ t → t < start + size → count_by (λ (r : Record). in_range r.start r.length t) records ≡ 0
clear_of records start size t clear low high = go (cases_lt 0 (count_by (λ (r : Record). in_range r.start r.length t) records))
  where
    go : (0 < count_by (λ (r : Record). in_range r.start r.length t) records) ⊎ (count_by (λ (r : Record). in_range r.start r.length t) records ≤ 0) → count_by (λ (r : Record). in_range r.start r.length t) records ≡ 0
    go (inr none) = omega arith
    go (inl some) =
        let f = found (λ (r : Record). in_range r.start r.length t) records some in
        let within = in_range_means f.item.start f.item.length t f.passes in
        let apart = all_at (λ (r : Record). nat_le (r.start + r.length) start || nat_le (start + size) r.start) f.front f.item f.back (subst (λ rs. list_all (λ (r : Record). nat_le (r.start + r.length) start || nat_le (start + size) r.start) rs ≡ true) f.is clear) in
        absurd (elim (or_cases (nat_le (f.item.start + f.item.length) start) (nat_le (start + size) f.item.start) apart) [
          | inl below ↦ omega (arith, within, leb-true (f.item.start + f.item.length) start below)
          | inr above ↦ omega (arith, within, leb-true (start + size) f.item.start above)
        ])

pub row-loads : (k : Shape) (l : Listing) (reads id section start size : ℕ) (away : List Run) → 1 ≤ size → k.kernel_tags ≤ start → start + size ≤ k.tags → list_all (λ (r : Record). nat_le (r.start + r.length) start || nat_le (start + size) r.start) l.records ≡ true
    → Loads k section start size id (list_part reads away l) (list_part reads away (loaded id section start size l))
row-loads k l reads id section start size away some low high clear = record { some = omega arith; above_kernel = low; within = high; clear = λ t from to. clear_of l.records start size t clear from to; after = refl }

pub row-enters : (l : Listing) (reads id : ℕ) (r : Record) (away : List Run) → rises_from 0 (ids_of l.records) ≡ true → record_in id l.records ≡ Some r → r.dead ≡ false → Enters (list_part reads away l) (list_part reads (run_on r ∷ away) (entered id l))
row-enters l reads id r away rises found is_loaded =
    let at = record_at l.records id r rises found in
    let part : List Record → ListPart = λ rs. record { records = rs; sweep = l.sweep; stops = l.stops; reads = reads; away = run_on r ∷ away } in
    record { front = at.front; entry = r; back = at.back; there = at.is; loaded = is_loaded; after = ap part (at.changed entered_record) }

-- the record that it counts a user of
pub enters_entry : (l : Listing) (reads id : ℕ) (r : Record) (away : List Run) (rises : rises_from 0 (ids_of l.records) ≡ true) (found : record_in id l.records ≡ Some r) (is_loaded : r.dead ≡ false) → (row-enters l reads id r away rises found is_loaded).entry ≡ r
unfolding row-enters
enters_entry l reads id r away rises found is_loaded = refl

pub row-leaves : (l : Listing) (reads id : ℕ) (r : Record) (ahead behind : List Run) → rises_from 0 (ids_of l.records) ≡ true → record_in id l.records ≡ Some r
    → Leaves (list_part reads (ahead ++ run_on r ∷ behind) l) (list_part reads (ahead ++ behind) (left id l))
row-leaves l reads id r ahead behind rises found =
    let at = record_at l.records id r rises found in
    let part : List Record → ListPart = λ rs. record { records = rs; sweep = l.sweep; stops = l.stops; reads = reads; away = ahead ++ behind } in
    record { front = at.front; entry = r; back = at.back; ahead = ahead; behind = behind; there = at.is; running = refl; after = ap part (at.changed left_record) }

-- the record that it takes a user of, and what it leaves
pub leaves_entry : (l : Listing) (reads id : ℕ) (r : Record) (ahead behind : List Run) (rises : rises_from 0 (ids_of l.records) ≡ true) (found : record_in id l.records ≡ Some r) → (row-leaves l reads id r ahead behind rises found).entry ≡ r
unfolding row-leaves
leaves_entry l reads id r ahead behind rises found = refl

pub leaves_after : (l : Listing) (reads id : ℕ) (r : Record) (ahead behind : List Run) (rises : rises_from 0 (ids_of l.records) ≡ true) (found : record_in id l.records ≡ Some r) → let base = row-leaves l reads id r ahead behind rises found in
    list_part reads (ahead ++ behind) (left id l) ≡ record { records = base.front ++ record base.entry { users = base.entry.users - 1 } ∷ base.back; sweep = l.sweep; stops = l.stops; reads = reads; away = ahead ++ behind }
unfolding row-leaves
leaves_after l reads id r ahead behind rises found = (row-leaves l reads id r ahead behind rises found).after

pub row-marks_dead : (l : Listing) (reads id : ℕ) (r : Record) (away : List Run) → rises_from 0 (ids_of l.records) ≡ true → record_in id l.records ≡ Some r → r.dead ≡ false → r.users ≡ 0 → MarksDead (list_part reads away l) (list_part reads away (marked_dead id l))
row-marks_dead l reads id r away rises found is_loaded unused =
    let at = record_at l.records id r rises found in
    let part : List Record → ℕ → ListPart = λ rs i. record { records = rs; sweep = begins_pass Bytes (i ∷ []) rs; stops = []; reads = reads; away = away } in
    record {
      front = at.front;
      entry = r;
      back = at.back;
      there = at.is;
      loaded = is_loaded;
      unused = unused;
      after = ap (λ rs. part rs id) (at.changed dead_record) ∙ ap (part (at.front ++ dead_record r ∷ at.back)) (sym at.same_id);
    }

-- the record that it marks
pub marks_id : (l : Listing) (reads id : ℕ) (r : Record) (away : List Run) (rises : rises_from 0 (ids_of l.records) ≡ true) (found : record_in id l.records ≡ Some r) (is_loaded : r.dead ≡ false) (unused : r.users ≡ 0) → (row-marks_dead l reads id r away rises found is_loaded unused).entry.id ≡ id
unfolding row-marks_dead
marks_id l reads id r away rises found is_loaded unused = (record_at l.records id r rises found).same_id

pub row-scans : (k : Shape) (l : Listing) (reads : ℕ) (away : List Run) (ids : List ℕ) (r : Reader) (cpu : CpuPart) → l.sweep ≡ sweep.Reading ids r → cpu.number ≡ r.cpu
    → Scans k ids r cpu (list_part reads away l) (list_part (reads + 1) away (scanned k (slice_index cpu.words (word_place r.pass r.tag)) l))
row-scans k l reads away ids r cpu reading next =
    record { reading = reading; next = next; after = ap (λ s. list_part (reads + 1) away (scanned_at k (slice_index cpu.words (word_place r.pass r.tag)) l s)) reading }

-- ---- a read of a word that isn't the last CPU's

pub scan_goes_on : (k : Shape) (word : ℕ) (l : Listing) (ids : List ℕ) (r : Reader) → l.sweep ≡ sweep.Reading ids r → r.cpu + 1 < k.cpus → scanned k word l ≡ read_to (r.cpu + 1) (sum_read r word) l
scan_goes_on k word l ids r reading more =
    let before : nat_lt (r.cpu + 1) k.cpus ≡ true = lt-ltb (r.cpu + 1) k.cpus more in
    subst (λ s. scanned_at k word l s ≡ read_to_at (r.cpu + 1) (sum_read r word) l s) (sym reading) (rw (before, append-nil) refl)

pub scan_finds_nothing : (k : Shape) (word : ℕ) (ids : List ℕ) (r : Reader) → r.cpu + 1 < k.cpus → found_at k word (sweep.Reading ids r) ≡ None
scan_finds_nothing k word ids r more = rw (lt-ltb (r.cpu + 1) k.cpus more) refl

pub row-releases : (l : Listing) (reads id : ℕ) (away : List Run) (ids : List ℕ) → l.sweep ≡ sweep.Done ids → is_listed ids id ≡ true → Releases ids id (list_part reads away l) (list_part reads away (released id l))
row-releases l reads id away ids done listed = record { done = done; listed = listed; after = ap (λ s. list_part reads away (released_at id l s)) done }
