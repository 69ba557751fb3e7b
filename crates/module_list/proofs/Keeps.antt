-- Each change leaves a list that is one: ids rise, ranges end below 2^32, and records, stops and the ids that are left are few.
use Rattle.std.proofs.Common.{◌≡◌, ℕ, ◌+◌, ◌<◌, ◌≤◌, ◌==◌, nat_le, nat_lt, List, [], ◌∷◌, ◌++◌, length, filter, refl, sym, ap, ◌∙◌, subst, arith, Bool, true, false, not, ltb-true, lt-ltb, le-leb, if◌then◌else◌}
use Rattle.std.specs.List.{list_all}
use Rattle.std.proofs.lemmas.Bool.{and_parts, and_from}
use Rattle.std.proofs.lemmas.List.{length-map, length-append}
use Rattle.std.proofs.lemmas.List.Folds.{list_all-append}
use Rattle.std.proofs.lemmas.List.Sums.{length-filter, count_by-le-length}
use Rattle.tag_model.specs.declared.shape.Shape.{Shape}
use Rattle.tag_model.specs.declared.state.Kind.TheVariants.{Bytes}
use Rattle.tag_model.specs.declared.state.Record.{Record}
use Rattle.tag_model.specs.declared.state.Reader.{Reader}
use Rattle.tag_model.specs.declared.state.Sweep.{Sweep}
use Rattle.tag_model.specs.declared.state.Sweep.TheVariants as sweep
use Rattle.tag_model.specs.Laws.{ids_of, is_listed, rises_from, sweep_fits}
use Rattle.tag_model.specs.StepRules.{begins_pass, dead_ids, stop_after, sweep_after}
use Rattle.tag_model.specs.Sweeping.{ids_left}
use Rattle.tag_model.proofs.Accounted.{ScanLeaves, scan_leaves}
use Rattle.tag_model.proofs.Ids.{all_filter, rises_cons, rises_without}
use Rattle.tag_model.proofs.ReleaseRow.{ids_others}
use Rattle.tag_model.proofs.ScanRow.{reading_fits}
use Rattle.tag_model.proofs.SweepSteps.{left_begins_pass, without_not_longer, without_shorter}
use Rattle.module_list.specs.Listing.{Listing, IsListing, dead_record, loaded, marked_dead, record_limit, released, released_at, scanned, scanned_at, sum_read, swept, with_record}

-- ---- a load

rises_push : (low : ℕ) (records : List Record) (r : Record) → low < r.id → rises_from low (ids_of records) ≡ true → list_all (λ (x : Record). nat_lt x.id r.id) records ≡ true → rises_from low (ids_of (records ++ r ∷ [])) ≡ true
rises_push low [] r below rises all = and_from _ _ (lt-ltb low r.id below) refl
rises_push low (x ∷ xs) r below rises all =
    let both = rises_cons low x.id (ids_of xs) rises in
    let here = and_parts (nat_lt x.id r.id) (list_all (λ (y : Record). nat_lt y.id r.id) xs) all in
    and_from _ _ (lt-ltb low x.id both.0) (rises_push x.id xs r (ltb-true x.id r.id here.0) both.1 here.1)

pub keeps_loaded : (l : Listing) (id section start size : ℕ) → IsListing l → length l.records < record_limit → 0 < id → list_all (λ (r : Record). nat_lt r.id id) l.records ≡ true → start + size ≤ 4294967295 → IsListing (loaded id section start size l)
keeps_loaded l id section start size ok room above_zero above end =
    let fresh : Record = record { id = id; section = section; start = start; length = size; dead = false; users = 0 } in
    record {
      few = omega (arith, length-append l.records (fresh ∷ []));
      rises = rises_push 0 l.records fresh above_zero ok.rises above;
      ends = list_all-append (λ (r : Record). nat_le (r.start + r.length) 4294967295) l.records (fresh ∷ []) ∙ and_from _ _ ok.ends (and_from _ _ (le-leb (start + size) 4294967295 end) refl);
      room = ok.room;
    }

-- ---- a dead mark, and a sweep

ids_with : (id : ℕ) (change : Record → Record) (records : List Record) → ((r : Record) → (change r).id ≡ r.id) → ids_of (with_record id change records) ≡ ids_of records
ids_with id change [] same = refl
ids_with id change (r ∷ records) same = ap (λ ids. (if r.id == id then change r else r).id ∷ ids) (ids_with id change records same) ∙ ap (λ i. i ∷ ids_of records) (go (r.id == id))
  where
    go : (b : Bool) → (if b then change r else r).id ≡ r.id
    go true = same r
    go false = refl

all_with : (p : Record → Bool) (id : ℕ) (change : Record → Record) (records : List Record) → ((r : Record) → p (change r) ≡ p r) → list_all p records ≡ true → list_all p (with_record id change records) ≡ true
all_with p id change [] same e = refl
all_with p id change (r ∷ records) same e =
    let both = and_parts (p r) (list_all p records) e in
    and_from _ _ (go (r.id == id) ∙ both.0) (all_with p id change records same both.1)
  where
    go : (b : Bool) → p (if b then change r else r) ≡ p r
    go true = same r
    go false = refl

pub keeps_marked_dead : (l : Listing) (id : ℕ) → IsListing l → IsListing (marked_dead id l)
keeps_marked_dead l id ok = record {
  few = omega (arith, length-map l.records (λ (r : Record). if r.id == id then dead_record r else r), ok.few);
  rises = subst (λ ids. rises_from 0 ids ≡ true) (sym (ids_with id dead_record l.records (λ r. refl))) ok.rises;
  ends = all_with (λ (r : Record). nat_le (r.start + r.length) 4294967295) id dead_record l.records (λ r. refl) ok.ends;
  room = omega arith;
}

pub dead_not_more : (records : List Record) → length (dead_ids records) ≤ length records
dead_not_more records =
    let ids : Record → ℕ = λ r. r.id in
    omega (arith, length-map (filter (λ (r : Record). r.dead) records) ids, length-filter (λ (r : Record). r.dead) records, count_by-le-length (λ (r : Record). r.dead) records)

pub keeps_swept : (l : Listing) → IsListing l → IsListing (swept l)
keeps_swept l ok =
    let ids = dead_ids l.records in
    let same : length (ids_left (begins_pass Bytes ids l.records)) ≡ length ids = ap length (left_begins_pass Bytes ids l.records) in
    record { few = ok.few; rises = ok.rises; ends = ok.ends; room = omega (arith, ok.few, dead_not_more l.records) }

-- ---- a read

-- a stop is added only where an id goes
pub scan_few : (k : Shape) (records : List Record) (left : List ℕ) (r : Reader) (sum : ℕ) → is_listed left r.id ≡ true → length (stop_after k r sum) + length (ids_left (sweep_after k records left r sum)) ≤ length left
scan_few k records left r sum listed = go (scan_leaves k records left r sum)
  where
    go : ScanLeaves k records left r sum → length (stop_after k r sum) + length (ids_left (sweep_after k records left r sum)) ≤ length left
    go (ScanLeaves.goes_on stays none) =
        let stops : length (stop_after k r sum) ≡ 0 = ap length none in
        omega (arith, ap length stays)
    go (ScanLeaves.drops goes stop some) =
        let stops : length (stop_after k r sum) ≡ 1 = ap length stop in
        omega (arith, ap length goes, without_shorter r.id left listed)

pub keeps_scanned : (k : Shape) (word : ℕ) (l : Listing) → IsListing l → sweep_fits k l.sweep l.records ≡ true → IsListing (scanned k word l)
keeps_scanned k word l ok fits = go l.sweep ok.room fits
  where
    go : (s : Sweep) → length l.stops + length (ids_left s) ≤ record_limit → sweep_fits k s l.records ≡ true → IsListing (scanned_at k word l s)
    go sweep.None room fits = ok
    go (sweep.Done left) room fits = ok
    go (sweep.Reading left r) room fits =
        let sum = sum_read r word in
        record {
          few = ok.few;
          rises = ok.rises;
          ends = ok.ends;
          room = omega (arith, length-append l.stops (stop_after k r sum), scan_few k l.records left r sum (reading_fits k left r l.records fits).listed);
        }

-- ---- a release

pub keeps_released : (l : Listing) (id : ℕ) → IsListing l → IsListing (released id l)
keeps_released l id ok = go l.sweep ok.room
  where
    go : (s : Sweep) → length l.stops + length (ids_left s) ≤ record_limit → IsListing (released_at id l s)
    go sweep.None room = ok
    go (sweep.Reading left r) room = ok
    go (sweep.Done left) room = record {
      few = omega (arith, ok.few, length-filter (λ (r : Record). not (r.id == id)) l.records, count_by-le-length (λ (r : Record). not (r.id == id)) l.records);
      rises = subst (λ ids. rises_from 0 ids ≡ true) (sym (ids_others id l.records)) (rises_without id 0 (ids_of l.records) ok.rises);
      ends = all_filter (λ (r : Record). nat_le (r.start + r.length) 4294967295) (λ (r : Record). not (r.id == id)) l.records ok.ends;
      room = omega (arith, without_not_longer id left);
    }
