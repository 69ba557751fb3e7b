-- What the reads of a sweep keep, and what they come to.
use Rattle.std.proofs.Common.{◌≡◌, ℕ, ◌+◌, ◌<◌, ◌≤◌, ◌==◌, ◌&&◌, nat_lt, not, if◌then◌else◌, List, [], ◌∷◌, All, length, slice_index, IsSome, refl, sym, ap, ◌∙◌, subst, arith, Bool, true, false}
use Rattle.std.specs.List.{list_any}
use Rattle.std.proofs.lemmas.Bool.{both_ways, false≢true}
use Rattle.std.proofs.lemmas.List.{length-append}
use Rattle.std.proofs.lemmas.List.Elements.{All-append, All-cons, All-nil}
use Rattle.tag_model.specs.declared.shape.Shape.{Shape}
use Rattle.tag_model.specs.declared.state.ListPart.{ListPart}
use Rattle.tag_model.specs.declared.state.Reader.{Reader}
use Rattle.tag_model.specs.declared.state.Record.{Record}
use Rattle.tag_model.specs.declared.state.Stop.{Stop}
use Rattle.tag_model.specs.declared.state.Sweep.{Sweep}
use Rattle.tag_model.specs.declared.state.Sweep.TheVariants as sweep
use Rattle.tag_model.specs.StepRules.{stop_after}
use Rattle.tag_model.specs.WordState.{in_range, word_place}
use Rattle.module_list.specs.Listing.{reader_of, sum_read}
use Rattle.tag_model.specs.Sweeping.{are_above_zero, ids_left, is_accounted, is_off, reads_left}
use Rattle.tag_model.specs.Laws.{ids_of, rises_from, sweep_fits}
use Rattle.tag_model.proofs.Found.{any_at}
use Rattle.tag_model.proofs.ScanRow.{reading_fits}
use Rattle.tag_model.proofs.SweepSteps.{scans_fall}
use Rattle.tag_model.proofs.Accounted.{scans_above_zero, scans_account, scans_off}
use Rattle.module_list.proofs.Keeps.{scan_few}
use Rattle.tag_rule.specs.Reads.{ReadsWord}
use Rattle.reclaim.specs.State.{is_still}
use Rattle.reclaim.specs.Steps.{Reads, ScansOne, no_read, then_read}

-- the records and the runs on their way stay; each word read is one fewer to read
pub record ReadsKeep (k : Shape) (old new : ListPart) : Type 0 where
  pub records : new.records ≡ old.records
  pub away : new.away ≡ old.away
  pub bound : new.reads + reads_left k new.records new.sweep ≤ old.reads + reads_left k old.records old.sweep
  pub more : old.reads ≤ new.reads
  pub few : length new.stops + length (ids_left new.sweep) ≤ length old.stops + length (ids_left old.sweep)

one_more : (k : Shape) (old new : ListPart) → ScansOne k old new → new.reads ≡ old.reads + 1
one_more k old new one = ap (λ (l : ListPart). l.reads) one.row.after

one_few : (k : Shape) (old new : ListPart) → ScansOne k old new → length new.stops + length (ids_left new.sweep) ≤ length old.stops + length (ids_left old.sweep)
one_few k old new one =
    let sum = sum_read one.reader (slice_index one.cpu.words (word_place one.reader.pass one.reader.tag)) in
    omega (arith, scan_few k old.records one.left one.reader sum one.listed, ap (λ (l : ListPart). length l.stops) one.row.after, length-append old.stops (stop_after k one.reader sum), ap (λ (l : ListPart). length (ids_left l.sweep)) one.row.after, ap (λ s. length (ids_left s)) one.row.reading)

one_keeps : (k : Shape) (old new : ListPart) → ScansOne k old new → ReadsKeep k old new
one_keeps k old new one = record {
  records = ap (λ (l : ListPart). l.records) one.row.after;
  away = ap (λ (l : ListPart). l.away) one.row.after;
  bound = omega (arith, one_more k old new one, one.falls);
  more = omega (arith, one_more k old new one);
  few = one_few k old new one;
}

pub reads_keep : (k : Shape) (old new : ListPart) → Reads k old new → ReadsKeep k old new
reads_keep k old new no_read = record { records = refl; away = refl; bound = omega arith; more = omega arith; few = omega arith }
reads_keep k old new (then_read {mid} before one) =
    let a = reads_keep k old mid before in
    let b = one_keeps k mid new one in
    record { records = b.records ∙ a.records; away = b.away ∙ a.away; bound = omega (arith, a.bound, b.bound); more = omega (arith, a.more, b.more); few = omega (arith, a.few, b.few) }

pub reads_account : (k : Shape) (old new : ListPart) (id : ℕ) → Reads k old new → is_accounted id old ≡ true → is_accounted id new ≡ true
reads_account k old new id no_read was = was
reads_account k old new id (then_read {mid} before one) was = scans_account k one.left one.reader one.cpu mid new id one.row (reads_account k old mid id before was)

pub reads_off : (k : Shape) (old new : ListPart) (id : ℕ) → Reads k old new → is_off id old ≡ true → is_off id new ≡ true
reads_off k old new id no_read was = was
reads_off k old new id (then_read {mid} before one) was = scans_off k one.left one.reader one.cpu mid new id one.row (reads_off k old mid id before was)

pub reads_above_zero : (k : Shape) (old new : ListPart) → Reads k old new → are_above_zero old.stops ≡ true → are_above_zero new.stops ≡ true
reads_above_zero k old new no_read was = was
reads_above_zero k old new (then_read {mid} before one) was = scans_above_zero k one.left one.reader one.cpu mid new one.row (reads_above_zero k old mid before was)

-- the stop is of a record, and its tag is one of the record's range
abbrev pub IsInRecord : List Record → Stop → Type 0
IsInRecord records s = list_any (λ (r : Record). (r.id == s.id) && in_range r.start r.length s.tag) records ≡ true

stop_within : (k : Shape) (records : List Record) (r : Reader) (sum : ℕ) → list_any (λ (x : Record). (x.id == r.id) && in_range x.start x.length r.tag) records ≡ true → All (IsInRecord records) (stop_after k r sum)
stop_within k records r sum there = go (not (nat_lt (r.cpu + 1) k.cpus) && not (sum == 0))
  where
    stop : Stop
    stop = record { id = r.id; tag = r.tag; kind = r.pass; sum = sum }

    go : (b : Bool) → All (IsInRecord records) (if b then stop ∷ [] else [])
    go true = All-cons (IsInRecord records) stop [] there (All-nil (IsInRecord records))
    go false = All-nil (IsInRecord records)

pub reads_within : (k : Shape) (old new : ListPart) → Reads k old new → All (IsInRecord old.records) old.stops → All (IsInRecord new.records) new.stops
reads_within k old new no_read was = was
reads_within k old new (then_read {mid} before one) was =
    let sum = sum_read one.reader (slice_index one.cpu.words (word_place one.reader.pass one.reader.tag)) in
    subst (λ (l : ListPart). All (IsInRecord l.records) l.stops) (sym one.row.after)
    (All-append (IsInRecord mid.records) mid.stops (stop_after k one.reader sum) (reads_within k old mid before was) (stop_within k mid.records one.reader sum one.within))

-- a sweep that reads, and then doesn't, has read a word
pub reads_some : (k : Shape) (old new : ListPart) → Reads k old new → is_still old.sweep ≡ false → is_still new.sweep ≡ true → old.reads < new.reads
reads_some k old new no_read reading still = absurd (both_ways (is_still old.sweep) reading still)
reads_some k old new (then_read {mid} before one) reading still = omega (arith, (reads_keep k old mid before).more, one_more k mid new one)

-- reads go on
pub reads_on : (k : Shape) (old between new : ListPart) → Reads k old between → Reads k between new → Reads k old new
reads_on k old between new first no_read = first
reads_on k old between new first (then_read {mid} before one) = then_read (reads_on k old between mid first before) one

-- ---- a read, from what the call says of its word

-- a record has the tag in its range that is read next
pub tag_within : (k : Shape) (left : List ℕ) (r : Reader) (records : List Record) → sweep_fits k (sweep.Reading left r) records ≡ true → list_any (λ (x : Record). (x.id == r.id) && in_range x.start x.length r.tag) records ≡ true
tag_within k left r records fits =
    let test : Record → Bool = λ x. (x.id == r.id) && in_range x.start x.length r.tag in
    let f = reading_fits k left r records fits in
    subst (λ xs. list_any test xs ≡ true) (sym f.at.is) (any_at test f.at.front f.at.item f.at.back f.at.passes)

pub scans_one : (k : Shape) (old new : ListPart) (word : ℕ) → rises_from 0 (ids_of old.records) ≡ true → sweep_fits k old.sweep old.records ≡ true → IsSome (reader_of old.sweep)
    → ((left : List ℕ) (r : Reader) → old.sweep ≡ sweep.Reading left r → ReadsWord k left r word old new) → ScansOne k old new
scans_one k old new word rises fits reading row = go old.sweep refl reading
  where
    go : (s : Sweep) → old.sweep ≡ s → IsSome (reader_of s) → ScansOne k old new
    go sweep.None is some = absurd (false≢true some)
    go (sweep.Done left) is some = absurd (false≢true some)
    go (sweep.Reading left r) is some =
        let w = row left r is in
        let fit = subst (λ s. sweep_fits k s old.records ≡ true) is fits in
        record { left = left; reader = r; cpu = w.cpu; row = w.row; listed = (reading_fits k left r old.records fit).listed; within = tag_within k left r old.records fit; falls = (scans_fall k left r w.cpu old new rises fits w.row).0 }
