-- The module list's records: which range a tag lies in, and that a swept tag lies in a dead record's range.
use Rattle.std.proofs.Common.{◌≡◌, ℕ, ◌+◌, ◌<◌, ◌≤◌, ◌==◌, ◌&&◌, ◌||◌, nat_lt, nat_le, List, sum_by, count_by, refl, sym, ap, subst, arith, Bool, true, false, not, eqb-true, ltb-true, leb-true, eq-eqb, le-leb, lt-ltb, if◌then◌else◌, zero, suc, inl, inr, ◌∙◌}
use Rattle.std.specs.List.{list_any, list_all, range_with_len}
use Rattle.std.proofs.lemmas.Bool.{and_parts, and_from, cases_eq, false≢true, true_from_ne_false}
use Rattle.std.proofs.lemmas.List.Sums.{sum_by-le-sum_by}
use Rattle.tag_model.specs.declared.shape.Shape.{Shape}
use Rattle.tag_model.specs.declared.state.Kind.{Kind}
use Rattle.tag_model.specs.declared.state.Kind.TheVariants.{Bytes, Calls}
use Rattle.tag_model.specs.declared.state.Part.{Part}
use Rattle.tag_model.specs.declared.state.Part.TheVariants.{Cpu, Place, Modules, NextId}
use Rattle.tag_model.specs.declared.state.Reader.{Reader}
use Rattle.tag_model.specs.declared.state.Record.{Record}
use Rattle.tag_model.specs.declared.state.Sweep.{Sweep}
use Rattle.tag_model.specs.declared.state.Sweep.TheVariants as sweep
use Rattle.tag_model.specs.Laws.{is_listed, covers_listed, covers_read, is_calls, has_cleared, are_dead, rises_from, sweep_fits}
use Rattle.tag_model.specs.Sweeping.{ids_left}
use Rattle.tag_model.specs.WordState.{in_range, records_with, record_fits}
use Rattle.tag_model.proofs.Found.{found, found_any, all_at, any_at, count_at, count_more, count_apart}

-- ---- a record in whose range a tag lies

abbrev pub dead_at : ℕ → Record → Bool
dead_at t r = r.dead && in_range r.start r.length t

abbrev pub loaded_at : ℕ → Record → Bool
loaded_at t r = not r.dead && in_range r.start r.length t

pub in_range_from : (start length t : ℕ) → start ≤ t → t < start + length → in_range start length t ≡ true
in_range_from start length t h e = and_from _ _ (le-leb start t h) (lt-ltb t (start + length) e)

pub in_range_means : (start length t : ℕ) → in_range start length t ≡ true → (start ≤ t) × (t < start + length)
in_range_means start length t e = let both = and_parts _ _ e in (leb-true _ _ both.0, ltb-true _ _ both.1)

pub never_both : (b : Bool) → b ≡ true → not b ≡ true → ⊥
never_both true e h = false≢true h
never_both false e h = false≢true e

pub apart_counts : (t : ℕ) (records : List Record) → count_by (λ (r : Record). in_range r.start r.length t) records ≤ 1 → 0 < count_by (dead_at t) records → 0 < count_by (loaded_at t) records → ⊥
apart_counts t records one dead loaded =
    omega (
      arith,
      count_apart (dead_at t) (loaded_at t) (λ (r : Record). in_range r.start r.length t) records (λ r e. (and_parts _ _ e).1) (λ r e. (and_parts _ _ e).1)
          (λ r e f. never_both r.dead (and_parts _ _ e).0 (and_parts _ _ f).0),
    )

-- what it is for a record to fit
pub record RecordFits (k : Shape) (r : Record) : Type 0 where
  pub id_above : 0 < r.id
  pub some : 0 < r.length
  pub above_kernel : k.kernel_tags ≤ r.start
  pub within : r.start + r.length ≤ k.tags

pub record_fits_means : (k : Shape) (r : Record) → record_fits k r ≡ true → RecordFits k r
record_fits_means k r e =
    let back = and_parts (nat_lt 0 r.id && nat_lt 0 r.length && nat_le k.kernel_tags r.start) (nat_le (r.start + r.length) k.tags) e in
    let middle = and_parts (nat_lt 0 r.id && nat_lt 0 r.length) (nat_le k.kernel_tags r.start) back.0 in
    let front = and_parts (nat_lt 0 r.id) (nat_lt 0 r.length) middle.0 in
    record { id_above = ltb-true 0 r.id front.0; some = ltb-true 0 r.length front.1; above_kernel = leb-true k.kernel_tags r.start middle.1; within = leb-true (r.start + r.length) k.tags back.1 }

pub record_fits_from : (k : Shape) (r : Record) → RecordFits k r → record_fits k r ≡ true
record_fits_from k r h = and_from _ _ (and_from _ _ (and_from _ _ (lt-ltb 0 r.id h.id_above) (lt-ltb 0 r.length h.some)) (le-leb k.kernel_tags r.start h.above_kernel)) (le-leb (r.start + r.length) k.tags h.within)

-- a dead record's range lies above the kernel's tags
pub dead_above_kernel : (k : Shape) (t : ℕ) (records : List Record) → list_all (record_fits k) records ≡ true → 0 < count_by (dead_at t) records → k.kernel_tags ≤ t
dead_above_kernel k t records fits h =
    let f = found (dead_at t) records h in
    let fit = record_fits_means k f.item (all_at (record_fits k) f.front f.item f.back (subst (λ xs. list_all (record_fits k) xs ≡ true) f.is fits)) in
    let within = in_range_means f.item.start f.item.length t (and_parts f.item.dead (in_range f.item.start f.item.length t) f.passes).1 in
    omega (arith, fit, within)

-- ---- the sweep's list

pub left_fits : (k : Shape) (s : Sweep) (records : List Record) → sweep_fits k s records ≡ true → (rises_from 0 (ids_left s) ≡ true) × (are_dead (ids_left s) records ≡ true)
left_fits k sweep.None records e = (refl, refl)
left_fits k (sweep.Done left) records e = and_parts _ _ e
left_fits k (sweep.Reading left reader) records e =
    let front = and_parts _ _ (and_parts _ _ (and_parts _ _ e).0).0 in and_parts _ _ front.0

-- a tag that is read is one of a listed record
pub read_is_listed : (left : List ℕ) (reader : Reader) (t : ℕ) (records : List Record) → covers_read left reader t records ≡ true → covers_listed left t records ≡ true
read_is_listed left reader t records e =
    let f = found_any (λ (r : Record). is_listed left r.id && in_range r.start r.length t && (nat_lt r.id reader.id || ((r.id == reader.id) && nat_lt t reader.tag))) records e in
    subst (λ xs. covers_listed left t xs ≡ true) (sym f.is) (any_at (λ (r : Record). is_listed left r.id && in_range r.start r.length t) f.front f.item f.back (and_parts _ _ f.passes).0)

-- what is cleared lies in the range of a listed record
pub cleared_is_listed : (s : Sweep) (kind : Kind) (t : ℕ) (records : List Record) → has_cleared s kind t records ≡ true → covers_listed (ids_left s) t records ≡ true
cleared_is_listed sweep.None kind t records e = absurd (false≢true e)
cleared_is_listed (sweep.Done left) kind t records e = e
cleared_is_listed (sweep.Reading left reader) Calls t records e = read_is_listed left reader t records (and_parts _ _ e).1
cleared_is_listed (sweep.Reading left reader) Bytes t records e = go (is_calls reader.pass) e
  where
    go : (b : Bool) → (if b then covers_listed left t records else covers_read left reader t records) ≡ true → covers_listed left t records ≡ true
    go true h = h
    go false h = read_is_listed left reader t records h

-- ids stand once
abbrev pub Apart : List Record → Type 0
Apart records = (id : ℕ) → count_by (λ (r : Record). r.id == id) records ≤ 1

-- the record of an id on the list is dead
pub listed_is_dead : (left : List ℕ) (records : List Record) (id : ℕ) → are_dead left records ≡ true → is_listed left id ≡ true → list_any (λ (r : Record). (r.id == id) && r.dead) records ≡ true
listed_is_dead left records id dead listed =
    let f = found_any (λ other. other == id) left listed in
    let h = all_at (λ other. list_any (λ (r : Record). (r.id == other) && r.dead) records) f.front f.item f.back (subst (λ xs. list_all (λ other. list_any (λ (r : Record). (r.id == other) && r.dead) records) xs ≡ true) f.is dead) in
    subst (λ other. list_any (λ (r : Record). (r.id == other) && r.dead) records ≡ true) (eqb-true _ _ f.passes) h

pub dead_in_range : (t id : ℕ) (records : List Record) → Apart records → list_any (λ (r : Record). (r.id == id) && r.dead) records ≡ true → list_any (λ (r : Record). (r.id == id) && in_range r.start r.length t) records ≡ true → 0 < count_by (dead_at t) records
dead_in_range t id records apart dead ranged =
    let d = found_any (λ (r : Record). (r.id == id) && r.dead) records dead in
    let f = found_any (λ (r : Record). (r.id == id) && in_range r.start r.length t) records ranged in
    let one_dead : 0 < count_by (λ (r : Record). (r.id == id) && r.dead) records = subst (λ xs. 0 < count_by (λ (r : Record). (r.id == id) && r.dead) xs) (sym d.is) (count_at (λ (r : Record). (r.id == id) && r.dead) d.front d.item d.back d.passes) in
    let parts = and_parts _ _ f.passes in
    let is_dead : f.item.dead ≡ true = true_from_ne_false _ (λ e.
    let one_live : 0 < count_by (λ (r : Record). (r.id == id) && not r.dead) records = subst (λ xs. 0 < count_by (λ (r : Record). (r.id == id) && not r.dead) xs) (sym f.is) (count_at (λ (r : Record). (r.id == id) && not r.dead) f.front f.item f.back (and_from _ _ parts.0 (ap not e))) in
    omega (
      arith,
      apart id,
      count_apart (λ (r : Record). (r.id == id) && r.dead) (λ (r : Record). (r.id == id) && not r.dead) (λ (r : Record). r.id == id) records (λ r e. (and_parts _ _ e).0) (λ r e. (and_parts _ _ e).0)
          (λ r e f. never_both r.dead (and_parts _ _ e).1 (and_parts _ _ f).1),
    )) in
    subst (λ xs. 0 < count_by (dead_at t) xs) (sym f.is) (count_at (dead_at t) f.front f.item f.back (and_from _ _ is_dead parts.1))

-- a tag of a listed record lies in a dead record's range
pub covered_is_dead : (left : List ℕ) (t : ℕ) (records : List Record) → Apart records → are_dead left records ≡ true → covers_listed left t records ≡ true → 0 < count_by (dead_at t) records
covered_is_dead left t records apart dead covers =
    let f = found_any (λ (r : Record). is_listed left r.id && in_range r.start r.length t) records covers in
    let parts = and_parts _ _ f.passes in
    dead_in_range t f.item.id records apart (listed_is_dead left records f.item.id dead parts.0)
    (subst (λ xs. list_any (λ (r : Record). (r.id == f.item.id) && in_range r.start r.length t) xs ≡ true) (sym f.is)
    (any_at (λ (r : Record). (r.id == f.item.id) && in_range r.start r.length t) f.front f.item f.back (and_from _ _ (eq-eqb f.item.id f.item.id refl) parts.1)))

-- so does the tag that is read
pub read_is_dead : (k : Shape) (left : List ℕ) (reader : Reader) (records : List Record) → Apart records → sweep_fits k (sweep.Reading left reader) records ≡ true → 0 < count_by (dead_at reader.tag) records
read_is_dead k left reader records apart e =
    let back = and_parts _ _ (and_parts _ _ e).0 in
    let front = and_parts _ _ back.0 in
    dead_in_range reader.tag reader.id records apart (listed_is_dead left records reader.id (and_parts _ _ front.0).1 front.1) back.1

-- ---- sums over the state

records_more_at : (p q : Record → Bool) → ((r : Record) → p r ≡ true → q r ≡ true) → (part : Part) → records_with p part ≤ records_with q part
records_more_at p q h (Cpu c) = omega arith
records_more_at p q h (Place n held) = omega arith
records_more_at p q h (Modules l) = count_more p q l.records h
records_more_at p q h (NextId id) = omega arith

pub records_more : (p q : Record → Bool) (ps : List Part) → ((r : Record) → p r ≡ true → q r ≡ true) → sum_by (records_with p) ps ≤ sum_by (records_with q) ps
records_more p q ps h = sum_by-le-sum_by (records_with p) (records_with q) ps (records_more_at p q h)

-- what holds of each number of a range, and the other way
pub all_range : (p : ℕ → Bool) (first count : ℕ) → ((n : ℕ) → first ≤ n → n < first + count → p n ≡ true) → list_all p (range_with_len first count) ≡ true
all_range p first zero h = refl
all_range p first (suc count) h = and_from _ _ (h first (omega arith) (omega arith)) (all_range p (first + 1) count (λ n low high. h n (omega arith) (omega arith)))

pub range_at : (p : ℕ → Bool) (first count n : ℕ) → list_all p (range_with_len first count) ≡ true → first ≤ n → n < first + count → p n ≡ true
range_at p first zero n all above below = absurd (omega arith)
range_at p first (suc count) n all above below =
    let both = and_parts (p first) (list_all p (range_with_len (first + 1) count)) all in
    elim (cases_eq first n) [
      | inl same ↦ ap p (sym same) ∙ both.0
      | inr apart ↦ range_at p (first + 1) count n both.1 (omega arith) (omega arith)
    ]
