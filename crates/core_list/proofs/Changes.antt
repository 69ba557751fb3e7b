-- Each change of the list is a step of the step rules.
use Rattle.std.proofs.Common.{◌≡◌, ℕ, ◌+◌, ◌≤◌, List, ◌∷◌, ◌++◌, slice_index, Some, None, refl, sym, ap, ◌∙◌, subst, arith, eq-eqb, ◌<◌, nat_lt, lt-ltb, true, append-nil}
use Rattle.std.proofs.lemmas.Bool.{or_left}
use Rattle.tag_model.specs.declared.shape.Shape.{Shape}
use Rattle.tag_model.specs.declared.state.CpuPart.{CpuPart}
use Rattle.tag_model.specs.declared.state.Reader.{Reader}
use Rattle.tag_model.specs.declared.state.Run.{Run}
use Rattle.tag_model.specs.declared.state.Sweep.TheVariants as sweep
use Rattle.tag_model.specs.StepRules.{Enters, Leaves, Loads, MarksDead, Releases, Scans, run_on}
use Rattle.tag_model.specs.WordState.{word_place}
use Rattle.module_area.specs.declared.entry.Entry.{Entry}
use Rattle.module_area.specs.declared.entry.State.TheVariants.{Loaded}
use Rattle.module_area.specs.Entries.{entry_of, is_dead}
use Rattle.module_area.specs.Area.{least_start}
use Rattle.module_list.specs.Listing as listing
use Rattle.module_list.specs.Listing.{Listing}
use Rattle.module_list.proofs.Changes as row
use Rattle.core_list.specs.ListState.{ListState, IsList, record_of, dead_list, entered_list, left_list, list_part, listed, load_refusal, loaded, or_zero, read_to, read_to_at, released, run_of, scanned, scanned_at, sum_read}
use Rattle.core_list.proofs.Listed.{listed_dead, listed_entered, listed_left, listed_loaded, listed_released, listed_scanned, record_found}
use Rattle.core_list.proofs.Split.{book_rises}
use Rattle.core_list.proofs.Room.{may_load, least_is_free, unmet_clear}

pub row-enters : (l : ListState) (n id : ℕ) (e : Entry) (away : List Run) → IsList l → entry_of l.area.entries id ≡ Some e → e.state ≡ Loaded → Enters (list_part n away l) (list_part n (run_of e ∷ away) (entered_list id l))
row-enters l n id e away ok found is_loaded =
    let base = row.row-enters (listed l) n id (record_of e) away (book_rises l.area ok.book) (record_found l.area.entries id e found) (ap is_dead is_loaded) in
    record { front = base.front; entry = base.entry; back = base.back; there = base.there; loaded = base.loaded; after = ap (listing.list_part n (run_of e ∷ away)) (listed_entered l id) ∙ base.after }

-- the run that it puts on its way is the entry's
pub enters_run : (l : ListState) (n id : ℕ) (e : Entry) (away : List Run) (ok : IsList l) (found : entry_of l.area.entries id ≡ Some e) (is_loaded : e.state ≡ Loaded) → run_of e ≡ run_on (row-enters l n id e away ok found is_loaded).entry
unfolding row-enters
enters_run l n id e away ok found is_loaded = ap run_on (sym (row.enters_entry (listed l) n id (record_of e) away (book_rises l.area ok.book) (record_found l.area.entries id e found) (ap is_dead is_loaded)))

pub row-leaves : (l : ListState) (n id : ℕ) (e : Entry) (run : Run) (ahead behind : List Run) → IsList l → entry_of l.area.entries id ≡ Some e → run ≡ run_of e → Leaves (list_part n (ahead ++ run ∷ behind) l) (list_part n (ahead ++ behind) (left_list id l))
row-leaves l n id e run ahead behind ok found is =
    let base = row.row-leaves (listed l) n id (record_of e) ahead behind (book_rises l.area ok.book) (record_found l.area.entries id e found) in
    record {
      front = base.front;
      entry = base.entry;
      back = base.back;
      ahead = ahead;
      behind = behind;
      there = base.there;
      running = ap (λ (x : Run). ahead ++ x ∷ behind) (is ∙ ap run_on (sym (row.leaves_entry (listed l) n id (record_of e) ahead behind (book_rises l.area ok.book) (record_found l.area.entries id e found))));
      after = ap (listing.list_part n (ahead ++ behind)) (listed_left l id) ∙ row.leaves_after (listed l) n id (record_of e) ahead behind (book_rises l.area ok.book) (record_found l.area.entries id e found);
    }

-- the run that ends is the entry's
pub leaves_run : (l : ListState) (n id : ℕ) (e : Entry) (run : Run) (ahead behind : List Run) (ok : IsList l) (found : entry_of l.area.entries id ≡ Some e) (is : run ≡ run_of e) → run ≡ run_on (row-leaves l n id e run ahead behind ok found is).entry
unfolding row-leaves
leaves_run l n id e run ahead behind ok found is = is ∙ ap run_on (sym (row.leaves_entry (listed l) n id (record_of e) ahead behind (book_rises l.area ok.book) (record_found l.area.entries id e found)))

pub row-loads : (k : Shape) (l : ListState) (n section size : ℕ) (away : List Run) → IsList l → k.kernel_tags ≤ l.area.first → l.area.first + l.area.tags ≤ k.tags → 1 ≤ size → load_refusal section size l ≡ None
    → Loads k section (or_zero (least_start l.area size)) size (l.last_id + 1) (list_part n away l) (list_part n away (loaded section size l))
row-loads k l n section size away ok low high some none =
    let may = may_load section size l none in
    let free = least_is_free l.area size may.start may.is in
    let is : or_zero (least_start l.area size) ≡ may.start = ap or_zero may.is in
    record {
      some = omega arith;
      above_kernel = omega (arith, free.low);
      within = omega (arith, free.high);
      clear = λ t from to. unmet_clear l.area.entries may.start size t free.unmet (omega arith) (omega arith);
      after = ap (listing.list_part n away) (listed_loaded l section size);
    }

pub row-marks_dead : (l : ListState) (n id : ℕ) (e : Entry) (away : List Run) → IsList l → entry_of l.area.entries id ≡ Some e → e.state ≡ Loaded → e.users ≡ 0 → MarksDead (list_part n away l) (list_part n away (dead_list id l))
row-marks_dead l n id e away ok found is_loaded unused =
    let base = row.row-marks_dead (listed l) n id (record_of e) away (book_rises l.area ok.book) (record_found l.area.entries id e found) (ap is_dead is_loaded) unused in
    record { front = base.front; entry = base.entry; back = base.back; there = base.there; loaded = base.loaded; unused = base.unused; after = ap (listing.list_part n away) (listed_dead l id) ∙ base.after }

-- the record that is marked is that of the id
pub marks_id : (l : ListState) (n id : ℕ) (e : Entry) (away : List Run) (ok : IsList l) (found : entry_of l.area.entries id ≡ Some e) (is_loaded : e.state ≡ Loaded) (unused : e.users ≡ 0) → (row-marks_dead l n id e away ok found is_loaded unused).entry.id ≡ id
unfolding row-marks_dead
marks_id l n id e away ok found is_loaded unused = row.marks_id (listed l) n id (record_of e) away (book_rises l.area ok.book) (record_found l.area.entries id e found) (ap is_dead is_loaded) unused

pub row-scans : (k : Shape) (l : ListState) (n : ℕ) (away : List Run) (left : List ℕ) (r : Reader) (cpu : CpuPart) → l.sweep ≡ sweep.Reading left r → cpu.number ≡ r.cpu
    → Scans k left r cpu (list_part n away l) (list_part (n + 1) away (scanned k (slice_index cpu.words (word_place r.pass r.tag)) l))
row-scans k l n away left r cpu reading next =
    let base = row.row-scans k (listed l) n away left r cpu reading next in
    record { reading = base.reading; next = base.next; after = ap (listing.list_part (n + 1) away) (listed_scanned k (slice_index cpu.words (word_place r.pass r.tag)) l) ∙ base.after }

-- a read of a word that isn't the last CPU's
pub scan_goes_on : (k : Shape) (word : ℕ) (l : ListState) (ids : List ℕ) (r : Reader) → l.sweep ≡ sweep.Reading ids r → r.cpu + 1 < k.cpus → scanned k word l ≡ read_to (r.cpu + 1) (sum_read r word) l
scan_goes_on k word l ids r reading more =
    let before : nat_lt (r.cpu + 1) k.cpus ≡ true = lt-ltb (r.cpu + 1) k.cpus more in
    subst (λ s. scanned_at k word l s ≡ read_to_at (r.cpu + 1) (sum_read r word) l s) (sym reading) (rw (before, append-nil) refl)

pub row-releases : (l : ListState) (n id : ℕ) (away : List Run) (left : List ℕ) → l.sweep ≡ sweep.Done (id ∷ left) → Releases (id ∷ left) id (list_part n away l) (list_part n away (released l))
row-releases l n id away left done =
    let base = row.row-releases (listed l) n id away (id ∷ left) done (or_left _ _ (eq-eqb id id refl)) in
    record { done = base.done; listed = base.listed; after = ap (listing.list_part n away) (listed_released l id left done) ∙ base.after }
