-- Each change of the core's list is that change of what it lists.
use Rattle.std.proofs.Common.{◌≡◌, ℕ, ◌+◌, ◌==◌, List, [], ◌∷◌, map, Some, refl, sym, ap, ◌∙◌, Bool, true, false, cond}
use Rattle.std.proofs.lemmas.List.{map-append}
use Rattle.tag_model.specs.declared.shape.Shape.{Shape}
use Rattle.tag_model.specs.declared.state.Kind.TheVariants.{Bytes}
use Rattle.tag_model.specs.declared.state.Record.{Record}
use Rattle.tag_model.specs.declared.state.Sweep.{Sweep}
use Rattle.tag_model.specs.declared.state.Sweep.TheVariants as sweep
use Rattle.tag_model.specs.StepRules.{begins_pass, without_id}
use Rattle.module_area.specs.declared.entry.Entry.{Entry}
use Rattle.module_area.specs.Entries.{entry_of, entered, kept, left, with_entry}
use Rattle.module_area.specs.Area.{least_start}
use Rattle.module_list.specs.Listing as listing
use Rattle.module_list.specs.Listing.{Listing, dead_record, entered_record, left_record, record_in, with_record}
use Rattle.core_list.specs.ListState.{ListState, dead_list, entered_list, left_list, listed, loaded, new_entry, or_zero, record_of, released, released_at, scanned, scanned_at, read_to, read_to_at}
use Rattle.core_list.proofs.Split.{records_without}

-- ---- records

records_with : (id : ℕ) (change : Entry → Entry) (as_record : Record → Record) (entries : List Entry) → ((e : Entry) → record_of (change e) ≡ as_record (record_of e)) → map record_of (with_entry id change entries) ≡ with_record id as_record (map record_of entries)
records_with id change as_record [] same = refl
records_with id change as_record (e ∷ es) same =
    let rest = with_record id as_record (map record_of es) in
    ap (λ rs. record_of (cond (e.id == id) (change e) e) ∷ rs) (records_with id change as_record es same) ∙ ap (λ r. r ∷ rest) (go (e.id == id))
  where
    go : (b : Bool) → record_of (cond b (change e) e) ≡ cond b (as_record (record_of e)) (record_of e)
    go true = same e
    go false = refl

-- the record of an id is that of its entry
pub record_found : (entries : List Entry) (id : ℕ) (e : Entry) → entry_of entries id ≡ Some e → record_in id (map record_of entries) ≡ Some (record_of e)
record_found [] id e is = absurd (cc)
record_found (x ∷ xs) id e is = go (x.id == id) is (λ later. record_found xs id e later)
  where
    go : (b : Bool) → cond b (Some x) (entry_of xs id) ≡ Some e → (entry_of xs id ≡ Some e → record_in id (map record_of xs) ≡ Some (record_of e)) → cond b (Some (record_of x)) (record_in id (map record_of xs)) ≡ Some (record_of e)
    go true is later = let same : x ≡ e = cc in ap (λ y. Some (record_of y)) same
    go false is later = later is

-- ---- the changes

of_records : Listing → List Record → Listing
of_records l rs = record { records = rs; sweep = l.sweep; stops = l.stops }

pub listed_loaded : (l : ListState) (section size : ℕ) → listed (loaded section size l) ≡ listing.loaded (l.last_id + 1) section (or_zero (least_start l.area size)) size (listed l)
unfolding of_records
listed_loaded l section size = ap (of_records (listed l)) (map-append record_of l.area.entries (new_entry section size l ∷ []))

pub listed_entered : (l : ListState) (id : ℕ) → listed (entered_list id l) ≡ listing.entered id (listed l)
unfolding of_records
listed_entered l id = ap (of_records (listed l)) (records_with id entered entered_record l.area.entries (λ e. refl))

pub listed_left : (l : ListState) (id : ℕ) → listed (left_list id l) ≡ listing.left id (listed l)
unfolding of_records
listed_left l id = ap (of_records (listed l)) (records_with id left left_record l.area.entries (λ e. refl))

pub listed_dead : (l : ListState) (id : ℕ) → listed (dead_list id l) ≡ listing.marked_dead id (listed l)
listed_dead l id =
    let of : List Record → Listing = λ rs. record { records = rs; sweep = begins_pass Bytes (id ∷ []) rs; stops = [] } in
    ap of (records_with id kept dead_record l.area.entries (λ e. refl))

pub listed_scanned : (k : Shape) (word : ℕ) (l : ListState) → listed (scanned k word l) ≡ listing.scanned k word (listed l)
listed_scanned k word l = go l.sweep
  where
    go : (s : Sweep) → listed (scanned_at k word l s) ≡ listing.scanned_at k word (listed l) s
    go sweep.None = refl
    go (sweep.Done ids) = refl
    go (sweep.Reading ids r) = refl

pub listed_read_to : (cpu sum : ℕ) (l : ListState) → listed (read_to cpu sum l) ≡ listing.read_to cpu sum (listed l)
listed_read_to cpu sum l = go l.sweep
  where
    go : (s : Sweep) → listed (read_to_at cpu sum l s) ≡ listing.read_to_at cpu sum (listed l) s
    go sweep.None = refl
    go (sweep.Done ids) = refl
    go (sweep.Reading ids r) = refl

pub listed_released : (l : ListState) (id : ℕ) (ids : List ℕ) → l.sweep ≡ sweep.Done (id ∷ ids) → listed (released l) ≡ listing.released id (listed l)
listed_released l id ids is =
    let of : List Record → Listing = λ rs. record { records = rs; sweep = sweep.Done (without_id id (id ∷ ids)); stops = l.stops } in
    ap (λ s. listed (released_at l s)) is ∙ (ap of (records_without id l.area.entries) ∙ ap (λ s. listing.released_at id (listed l) s) (sym is))
