-- Where a pass begins, goes on to the next record, and ends: the sweep law holds of the sweep that is then reached.
use Rattle.std.proofs.Common.{◌≡◌, ℕ, ◌+◌, ◌<◌, ◌≤◌, ◌==◌, ◌&&◌, ◌||◌, ◌⊎◌, nat_lt, nat_le, List, [], ◌∷◌, sum_by, find, refl, sym, subst, inl, inr, arith, Bool, true, Option, Some, None, ltb-true, eq-eqb, le-leb, lt-ltb}
use Rattle.std.specs.List.{list_any, list_all}
use Rattle.std.proofs.lemmas.Bool.{and_parts, and_from, or_cases, or_left, false≢true}
use Rattle.tag_model.specs.declared.shape.Shape.{Shape}
use Rattle.tag_model.specs.declared.state.Kind.{Kind}
use Rattle.tag_model.specs.declared.state.Kind.TheVariants.{Bytes, Calls}
use Rattle.tag_model.specs.declared.state.Part.{Part}
use Rattle.tag_model.specs.declared.state.Record.{Record}
use Rattle.tag_model.specs.declared.state.Sweep.{Sweep}
use Rattle.tag_model.specs.declared.state.Sweep.TheVariants as sweep
use Rattle.tag_model.specs.Laws.{is_listed, covers_listed, covers_read, is_calls, has_cleared, are_dead, rises_from, sweep_fits}
use Rattle.tag_model.specs.StepRules.{start_of, reads_from, begins_pass, after_pass, goes_on, passes_record}
use Rattle.tag_model.specs.Wrap.{wrap}
use Rattle.tag_model.specs.WordState.{word_from, counted, in_range, record_fits}
use Rattle.tag_model.proofs.Found.{Found, found_any, all_at, any_at}
use Rattle.tag_model.proofs.Ids.{rises_above, rises_cons, listed_cons, find_none, find_some, range_of}
use Rattle.tag_model.proofs.Lists.{Apart, in_range_means, in_range_from, listed_is_dead, record_fits_means}

-- what is read of a tag and still to read is at least what is counted under it
abbrev pub ReadsEnough : Sweep → List Part → Type 0
ReadsEnough sweep.None ps = Unit {0}
ReadsEnough (sweep.Done left) ps = Unit {0}
ReadsEnough (sweep.Reading left reader) ps = sum_by (counted reader.pass reader.tag) ps ≤ wrap (reader.sum + sum_by (word_from reader.cpu reader.pass reader.tag) ps)

-- the sweep law, of a sweep and its records
pub record SweepOk (k : Shape) (s : Sweep) (records : List Record) (ps : List Part) : Type 0 where
  pub fits : sweep_fits k s records ≡ true
  pub reading : ReadsEnough s ps
  pub cleared : (kind : Kind) (t : ℕ) → has_cleared s kind t records ≡ true → sum_by (counted kind t) ps ≡ 0

-- what each pass rests on
pub record PassBase (k : Shape) (records : List Record) (ps : List Part) : Type 0 where
  pub some_cpu : 0 < k.cpus
  pub fit : list_all (record_fits k) records ≡ true
  pub apart : Apart records
  pub fresh : (kind : Kind) (t : ℕ) → sum_by (counted kind t) ps ≤ wrap (0 + sum_by (word_from 0 kind t) ps)

pub nothing_swept : (k : Shape) (records : List Record) (ps : List Part) → SweepOk k sweep.None records ps
nothing_swept k records ps = record { fits = refl; reading = tt; cleared = λ kind t e. absurd (false≢true e) }

-- ---- a listed record with a tag in its range

pub record ListedWith (left : List ℕ) (t : ℕ) (more : Record → Bool) (records : List Record) : Type 0 where
  pub at : Found (λ (r : Record). is_listed left r.id && in_range r.start r.length t && more r) records
  pub listed : is_listed left at.item.id ≡ true
  pub ranged : in_range at.item.start at.item.length t ≡ true
  pub more_holds : more at.item ≡ true

pub listed_with : (left : List ℕ) (t : ℕ) (more : Record → Bool) (records : List Record) → list_any (λ (r : Record). is_listed left r.id && in_range r.start r.length t && more r) records ≡ true → ListedWith left t more records
listed_with left t more records e =
    let f = found_any (λ (r : Record). is_listed left r.id && in_range r.start r.length t && more r) records e in
    let back = and_parts (is_listed left f.item.id && in_range f.item.start f.item.length t) (more f.item) f.passes in
    let front = and_parts (is_listed left f.item.id) (in_range f.item.start f.item.length t) back.0 in
    record { at = f; listed = front.0; ranged = front.1; more_holds = back.1 }

-- a tag of a listed record whose id is at most this one
abbrev pub covers_upto : List ℕ → ℕ → ℕ → List Record → Bool
covers_upto left id t records = list_any (λ (r : Record). is_listed left r.id && in_range r.start r.length t && nat_le r.id id) records

-- ---- a pass stands at the first tag of a record

record_of : (left : List ℕ) (records : List Record) (id : ℕ) → are_dead left records ≡ true → is_listed left id ≡ true → Found (λ (r : Record). r.id == id) records
record_of left records id dead listed =
    let f = found_any (λ (r : Record). (r.id == id) && r.dead) records (listed_is_dead left records id dead listed) in
    record { front = f.front; item = f.item; back = f.back; is = f.is; passes = (and_parts (f.item.id == id) f.item.dead f.passes).0 }

pub reads_from_ok : (k : Shape) (pass : Kind) (left : List ℕ) (records : List Record) (id : ℕ) (ps : List Part) → PassBase k records ps → rises_from 0 left ≡ true → are_dead left records ≡ true → is_listed left id ≡ true
    → ((kind : Kind) (t : ℕ) → has_cleared (reads_from pass left records id) kind t records ≡ true → sum_by (counted kind t) ps ≡ 0)
    → SweepOk k (reads_from pass left records id) records ps
reads_from_ok k pass left records id ps base rises dead listed cleared =
    let f = record_of left records id dead listed in
    let range = range_of id records base.apart f in
    let fit = record_fits_means k f.item (all_at (record_fits k) f.front f.item f.back (subst (λ xs. list_all (record_fits k) xs ≡ true) f.is base.fit)) in
    let first : in_range f.item.start f.item.length (start_of id records) ≡ true = in_range_from f.item.start f.item.length (start_of id records) (omega (arith, range.start)) (omega (arith, range.start, fit.some)) in
    let there : list_any (λ (r : Record). (r.id == id) && in_range r.start r.length (start_of id records)) records ≡ true =
    subst (λ xs. list_any (λ (r : Record). (r.id == id) && in_range r.start r.length (start_of id records)) xs ≡ true) (sym f.is)
    (any_at (λ (r : Record). (r.id == id) && in_range r.start r.length (start_of id records)) f.front f.item f.back (and_from _ _ f.passes first)) in
    record {
      fits = and_from _ _ (and_from _ _ (and_from _ _ (and_from _ _ rises dead) listed) there) (lt-ltb 0 k.cpus base.some_cpu);
      reading = base.fresh pass (start_of id records);
      cleared = cleared;
    }

-- what such a pass has read lies in earlier records
pub read_before : (pass : Kind) (left : List ℕ) (records : List Record) (id t : ℕ) → Apart records
    → covers_read left (record { pass = pass; id = id; tag = start_of id records; cpu = 0; sum = 0 }) t records ≡ true
    → Found (λ (r : Record). is_listed left r.id && in_range r.start r.length t && nat_lt r.id id) records
read_before pass left records id t apart e =
    let w = listed_with left t (λ r. nat_lt r.id id || ((r.id == id) && nat_lt t (start_of id records))) records e in
    go w (or_cases (nat_lt w.at.item.id id) ((w.at.item.id == id) && nat_lt t (start_of id records)) w.more_holds)
  where
    go : (w : ListedWith left t (λ r. nat_lt r.id id || ((r.id == id) && nat_lt t (start_of id records))) records)
        → (nat_lt w.at.item.id id ≡ true) ⊎ (((w.at.item.id == id) && nat_lt t (start_of id records)) ≡ true) → Found (λ (r : Record). is_listed left r.id && in_range r.start r.length t && nat_lt r.id id) records
    go w (inl below) = record { front = w.at.front; item = w.at.item; back = w.at.back; is = w.at.is; passes = and_from _ _ (and_from _ _ w.listed w.ranged) below }
    go w (inr same) =
        let both = and_parts (w.at.item.id == id) (nat_lt t (start_of id records)) same in
        let range = range_of id records apart (record { front = w.at.front; item = w.at.item; back = w.at.back; is = w.at.is; passes = both.0 }) in
        absurd (omega (arith, ltb-true t (start_of id records) both.1, range.start, in_range_means w.at.item.start w.at.item.length t w.ranged))

-- ---- a pass begins

pub begins_pass_ok : (k : Shape) (pass : Kind) (left : List ℕ) (records : List Record) (ps : List Part) → PassBase k records ps → rises_from 0 left ≡ true → are_dead left records ≡ true
    → (is_calls pass ≡ true → (t : ℕ) → covers_listed left t records ≡ true → sum_by (counted Bytes t) ps ≡ 0)
    → SweepOk k (begins_pass pass left records) records ps
begins_pass_ok k pass [] records ps base rises dead bytes = nothing_swept k records ps
begins_pass_ok k pass (id ∷ left) records ps base rises dead bytes =
    reads_from_ok k pass (id ∷ left) records id ps base rises dead (or_left _ _ (eq-eqb id id refl)) (cleared pass bytes)
  where
    none_read : (pass : Kind) (t : ℕ) → covers_read (id ∷ left) (record { pass = pass; id = id; tag = start_of id records; cpu = 0; sum = 0 }) t records ≡ true → ⊥
    none_read pass t e =
        let f = read_before pass (id ∷ left) records id t base.apart e in
        let parts = and_parts (is_listed (id ∷ left) f.item.id && in_range f.item.start f.item.length t) (nat_lt f.item.id id) f.passes in
        let listed = (and_parts (is_listed (id ∷ left) f.item.id) (in_range f.item.start f.item.length t) parts.0).0 in
        let below = ltb-true f.item.id id parts.1 in
        elim (listed_cons id left f.item.id listed) [ inl here ↦ omega (arith, here, below) | inr there ↦ omega (arith, below, rises_above id left f.item.id (rises_cons 0 id left rises).1 there) ]

    cleared : (pass : Kind) → (is_calls pass ≡ true → (t : ℕ) → covers_listed (id ∷ left) t records ≡ true → sum_by (counted Bytes t) ps ≡ 0)
        → (kind : Kind) (t : ℕ) → has_cleared (reads_from pass (id ∷ left) records id) kind t records ≡ true → sum_by (counted kind t) ps ≡ 0
    cleared Bytes bytes Bytes t e = absurd (none_read Bytes t e)
    cleared Bytes bytes Calls t e = absurd (false≢true e)
    cleared Calls bytes Bytes t e = bytes refl t e
    cleared Calls bytes Calls t e = absurd (none_read Calls t e)

-- ---- a pass is through with its last record

pub after_pass_ok : (k : Shape) (pass : Kind) (left : List ℕ) (records : List Record) (ps : List Part) → PassBase k records ps → rises_from 0 left ≡ true → are_dead left records ≡ true
    → ((t : ℕ) → covers_listed left t records ≡ true → sum_by (counted pass t) ps ≡ 0)
    → (is_calls pass ≡ true → (t : ℕ) → covers_listed left t records ≡ true → sum_by (counted Bytes t) ps ≡ 0)
    → SweepOk k (after_pass pass left records) records ps
after_pass_ok k pass [] records ps base rises dead passed bytes = nothing_swept k records ps
after_pass_ok k Bytes (id ∷ left) records ps base rises dead passed bytes = begins_pass_ok k Calls (id ∷ left) records ps base rises dead (λ e. passed)
after_pass_ok k Calls (id ∷ left) records ps base rises dead passed bytes = record { fits = and_from _ _ rises dead; reading = tt; cleared = cleared }
  where
    cleared : (kind : Kind) (t : ℕ) → has_cleared (sweep.Done (id ∷ left)) kind t records ≡ true → sum_by (counted kind t) ps ≡ 0
    cleared Bytes t e = bytes refl t e
    cleared Calls t e = passed t e

-- ---- a pass is through with a record: nothing is counted under the tags of the listed records up to it

pub passes_record_ok : (k : Shape) (pass : Kind) (left : List ℕ) (records : List Record) (id : ℕ) (ps : List Part) → PassBase k records ps → rises_from 0 left ≡ true → are_dead left records ≡ true
    → ((t : ℕ) → covers_upto left id t records ≡ true → sum_by (counted pass t) ps ≡ 0)
    → (is_calls pass ≡ true → (t : ℕ) → covers_listed left t records ≡ true → sum_by (counted Bytes t) ps ≡ 0)
    → SweepOk k (passes_record pass left records id) records ps
passes_record_ok k pass left records id ps base rises dead upto bytes = go (find (nat_lt id) left) refl
  where
    within : (t : ℕ) (f : Found (λ (r : Record). is_listed left r.id && in_range r.start r.length t) records) → f.item.id ≤ id → sum_by (counted pass t) ps ≡ 0
    within t f below = upto t (subst (λ xs. covers_upto left id t xs ≡ true) (sym f.is) (any_at (λ (r : Record). is_listed left r.id && in_range r.start r.length t && nat_le r.id id) f.front f.item f.back (and_from _ _ f.passes (le-leb f.item.id id below))))

    all_passed : find (nat_lt id) left ≡ None → (t : ℕ) → covers_listed left t records ≡ true → sum_by (counted pass t) ps ≡ 0
    all_passed none t e =
        let f = found_any (λ (r : Record). is_listed left r.id && in_range r.start r.length t) records e in
        within t f (find_none id left f.item.id none (and_parts (is_listed left f.item.id) (in_range f.item.start f.item.length t) f.passes).0)

    before : (next : ℕ) → find (nat_lt id) left ≡ Some next → (t : ℕ) → covers_read left (record { pass = pass; id = next; tag = start_of next records; cpu = 0; sum = 0 }) t records ≡ true → sum_by (counted pass t) ps ≡ 0
    before next some t e =
        let f = read_before pass left records next t base.apart e in
        let parts = and_parts (is_listed left f.item.id && in_range f.item.start f.item.length t) (nat_lt f.item.id next) f.passes in
        let listed = (and_parts (is_listed left f.item.id) (in_range f.item.start f.item.length t) parts.0).0 in
        within t (record { front = f.front; item = f.item; back = f.back; is = f.is; passes = parts.0 }) ((find_some 0 id left next rises some).1 f.item.id listed (ltb-true f.item.id next parts.1))

    cleared : (pass : Kind) (next : ℕ) → ((t : ℕ) → covers_read left (record { pass = pass; id = next; tag = start_of next records; cpu = 0; sum = 0 }) t records ≡ true → sum_by (counted pass t) ps ≡ 0)
        → (is_calls pass ≡ true → (t : ℕ) → covers_listed left t records ≡ true → sum_by (counted Bytes t) ps ≡ 0)
        → (kind : Kind) (t : ℕ) → has_cleared (reads_from pass left records next) kind t records ≡ true → sum_by (counted kind t) ps ≡ 0
    cleared Bytes next read bytes Bytes t e = read t e
    cleared Bytes next read bytes Calls t e = absurd (false≢true e)
    cleared Calls next read bytes Bytes t e = bytes refl t e
    cleared Calls next read bytes Calls t e = read t e

    go : (next : Option ℕ) → find (nat_lt id) left ≡ next → SweepOk k (goes_on next pass left records) records ps
    go None e = after_pass_ok k pass left records ps base rises dead (all_passed e) bytes
    go (Some next) e = reads_from_ok k pass left records next ps base rises dead (find_some 0 id left next rises e).0 (cleared pass next (before next e) bytes)
