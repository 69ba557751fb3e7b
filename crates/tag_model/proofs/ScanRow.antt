-- A read of the sweep keeps all the laws.
use Rattle.std.proofs.Common.{◌≡◌, ℕ, ◌+◌, ◌^◌, ◌<◌, ◌≤◌, ◌≢◌, ◌==◌, ◌&&◌, ◌||◌, ◌⊎◌, nat_lt, nat_le, List, [], ◌∷◌, ◌++◌, sum_by, slice_index, refl, sym, subst, inl, inr, arith, Bool, true, false, not, cond, eqb-true, ltb-true, ltb-false, leb-true, eq-eqb, le-leb, lt-ltb, if◌then◌else◌}
use Rattle.std.specs.List.{list_any}
use Rattle.std.proofs.lemmas.Bool.{and_parts, and_from, or_cases, or_left, or_right, false≢true, not-false, lt-leb, cases_eq}
use Rattle.tag_model.specs.declared.shape.Shape.{Shape}
use Rattle.tag_model.specs.declared.state.CpuPart.{CpuPart}
use Rattle.tag_model.specs.declared.state.Kind.{Kind}
use Rattle.tag_model.specs.declared.state.Kind.TheVariants.{Bytes, Calls}
use Rattle.tag_model.specs.declared.state.ListPart.{ListPart}
use Rattle.tag_model.specs.declared.state.Part.{Part}
use Rattle.tag_model.specs.declared.state.Part.TheVariants.{Cpu, Modules}
use Rattle.tag_model.specs.declared.state.Reader.{Reader}
use Rattle.tag_model.specs.declared.state.Record.{Record}
use Rattle.tag_model.specs.declared.state.Stop.{Stop}
use Rattle.tag_model.specs.declared.state.Sweep.{Sweep}
use Rattle.tag_model.specs.declared.state.Sweep.TheVariants as sweep
use Rattle.tag_model.specs.Laws.{Safe, is_listed, covers_listed, covers_read, is_calls, has_cleared, are_dead, rises_from, sweep_fits}
use Rattle.tag_model.specs.Shape.{IsChecked}
use Rattle.tag_model.specs.StepRules.{Scans, Becomes, sweep_after, stop_after, end_of, passes_record, without_id}
use Rattle.tag_model.specs.Wrap.{wrap}
use Rattle.tag_model.specs.WordState.{one_if, Every, word_place, word_of, word_from, counted, counted_of, is_cpu, in_range, part_fits}
use Rattle.tag_model.proofs.Alike.{AlikeBook, book_after, each_alike, cover_alike}
use Rattle.tag_model.proofs.Bounds.{next_from, none_from}
use Rattle.tag_model.proofs.Found.{Found, found_any, any_at}
use Rattle.tag_model.proofs.Ids.{rises_without, dead_without, listed_without, range_of, RangeOf}
use Rattle.tag_model.proofs.ListRows.{OneList, list_with_cpu, one_before, one_after, the_one, sweep_ok, sweep_from, sweep_ok_after, pass_base}
use Rattle.tag_model.proofs.Lists.{in_range_means, in_range_from}
use Rattle.tag_model.proofs.Parts.{becomes_same, every_after, every_before}
use Rattle.tag_model.proofs.Passes.{SweepOk, ReadsEnough, PassBase, ListedWith, listed_with, covers_upto, passes_record_ok}
use Rattle.tag_model.proofs.Swept.{ListLaws, list_laws}

-- ---- the parts of a sweep that reads

pub record ReadingFits (k : Shape) (left : List ℕ) (r : Reader) (records : List Record) : Type 0 where
  pub rises : rises_from 0 left ≡ true
  pub dead : are_dead left records ≡ true
  pub listed : is_listed left r.id ≡ true
  pub at : Found (λ (x : Record). (x.id == r.id) && in_range x.start x.length r.tag) records
  pub cpu : r.cpu < k.cpus

pub reading_fits : (k : Shape) (left : List ℕ) (r : Reader) (records : List Record) → sweep_fits k (sweep.Reading left r) records ≡ true → ReadingFits k left r records
reading_fits k left r records e =
    let a = and_parts (rises_from 0 left && are_dead left records && is_listed left r.id && list_any (λ (x : Record). (x.id == r.id) && in_range x.start x.length r.tag) records) (nat_lt r.cpu k.cpus) e in
    let b = and_parts (rises_from 0 left && are_dead left records && is_listed left r.id) (list_any (λ (x : Record). (x.id == r.id) && in_range x.start x.length r.tag) records) a.0 in
    let c = and_parts (rises_from 0 left && are_dead left records) (is_listed left r.id) b.0 in
    let d = and_parts (rises_from 0 left) (are_dead left records) c.0 in
    record { rises = d.0; dead = d.1; listed = c.1; at = found_any (λ (x : Record). (x.id == r.id) && in_range x.start x.length r.tag) records b.1; cpu = ltb-true r.cpu k.cpus a.1 }

pub reading_fits_from : (k : Shape) (left : List ℕ) (r : Reader) (records : List Record) → rises_from 0 left ≡ true → are_dead left records ≡ true → is_listed left r.id ≡ true
    → list_any (λ (x : Record). (x.id == r.id) && in_range x.start x.length r.tag) records ≡ true → r.cpu < k.cpus → sweep_fits k (sweep.Reading left r) records ≡ true
reading_fits_from k left r records rises dead listed there cpu = and_from _ _ (and_from _ _ (and_from _ _ (and_from _ _ rises dead) listed) there) (lt-ltb r.cpu k.cpus cpu)

-- what is read, from a record and a tag in it
pub read_from : (left : List ℕ) (r : Reader) (t : ℕ) (records : List Record) (f : Found (λ (x : Record). is_listed left x.id && in_range x.start x.length t) records)
    → (f.item.id < r.id) ⊎ ((f.item.id ≡ r.id) × (t < r.tag)) → covers_read left r t records ≡ true
read_from left r t records f h =
    subst (λ xs. covers_read left r t xs ≡ true) (sym f.is)
    (any_at (λ (x : Record). is_listed left x.id && in_range x.start x.length t && (nat_lt x.id r.id || ((x.id == r.id) && nat_lt t r.tag))) f.front f.item f.back
    (and_from _ _ f.passes (go h)))
  where
    go : (f.item.id < r.id) ⊎ ((f.item.id ≡ r.id) × (t < r.tag)) → (nat_lt f.item.id r.id || ((f.item.id == r.id) && nat_lt t r.tag)) ≡ true
    go (inl below) = or_left _ _ (lt-ltb f.item.id r.id below)
    go (inr same) = or_right _ _ (and_from _ _ (eq-eqb f.item.id r.id same.0) (lt-ltb t r.tag same.1))

-- ---- the sweep after a read, in the state before it: the counts and words are the same

-- what the law says of the pass that reads
pub record PassSoFar (k : Shape) (left : List ℕ) (r : Reader) (records : List Record) (ps : List Part) : Type 0 where
  pub fits : ReadingFits k left r records
  pub read : (t : ℕ) → covers_read left r t records ≡ true → sum_by (counted r.pass t) ps ≡ 0
  pub bytes : is_calls r.pass ≡ true → (t : ℕ) → covers_listed left t records ≡ true → sum_by (counted Bytes t) ps ≡ 0

pub pass_so_far : (k : Shape) (left : List ℕ) (r : Reader) (records : List Record) (ps : List Part) → SweepOk k (sweep.Reading left r) records ps → PassSoFar k left r records ps
pass_so_far k left r records ps ok = record { fits = reading_fits k left r records ok.fits; read = λ t e. read r.pass refl t e; bytes = λ calls t e. ok.cleared Bytes t (rw calls e) }
  where
    read : (pass : Kind) → r.pass ≡ pass → (t : ℕ) → covers_read left r t records ≡ true → sum_by (counted pass t) ps ≡ 0
    read Bytes is t e = ok.cleared Bytes t (rw is e)
    read Calls is t e = ok.cleared Calls t (rw is e)

-- the sweep law at another reader of the same pass
pub reads_on : (k : Shape) (left : List ℕ) (r s : Reader) (records : List Record) (ps : List Part) → s.pass ≡ r.pass → sweep_fits k (sweep.Reading left s) records ≡ true → ReadsEnough (sweep.Reading left s) ps
    → ((t : ℕ) → covers_read left s t records ≡ true → sum_by (counted r.pass t) ps ≡ 0)
    → (is_calls r.pass ≡ true → (t : ℕ) → covers_listed left t records ≡ true → sum_by (counted Bytes t) ps ≡ 0)
    → SweepOk k (sweep.Reading left s) records ps
reads_on k left r s records ps same fits reads read bytes = record { fits = fits; reading = reads; cleared = go r.pass same read bytes }
  where
    go : (pass : Kind) → s.pass ≡ pass → ((t : ℕ) → covers_read left s t records ≡ true → sum_by (counted pass t) ps ≡ 0)
        → (is_calls pass ≡ true → (t : ℕ) → covers_listed left t records ≡ true → sum_by (counted Bytes t) ps ≡ 0)
        → (kind : Kind) (t : ℕ) → has_cleared (sweep.Reading left s) kind t records ≡ true → sum_by (counted kind t) ps ≡ 0
    go Bytes is read bytes Bytes t e = read t (rw is at e)
    go Bytes is read bytes Calls t e = absurd (false≢true (rw is at e))
    go Calls is read bytes Bytes t e = bytes refl t (rw is at e)
    go Calls is read bytes Calls t e = read t (rw is at e)

-- the sum that a read leaves covers what is counted, but for the words still to read
pub scan_ok : (k : Shape) (left : List ℕ) (r : Reader) (sum : ℕ) (records : List Record) (ps : List Part) → PassBase k records ps → Every (part_fits k) ps → SweepOk k (sweep.Reading left r) records ps
    → sum < 2 ^ 64 → sum_by (counted r.pass r.tag) ps ≤ wrap (sum + sum_by (word_from (r.cpu + 1) r.pass r.tag) ps) → SweepOk k (sweep_after k records left r sum) records ps
scan_ok k left r sum records ps base fits ok small enough = at_cpu (nat_lt (r.cpu + 1) k.cpus) refl
  where
    so_far : PassSoFar k left r records ps
    so_far = pass_so_far k left r records ps ok

    fit : ReadingFits k left r records
    fit = so_far.fits

    here : (fit.at.item.id ≡ r.id) × (in_range fit.at.item.start fit.at.item.length r.tag ≡ true)
    here = let both = and_parts (fit.at.item.id == r.id) (in_range fit.at.item.start fit.at.item.length r.tag) fit.at.passes in (eqb-true fit.at.item.id r.id both.0, both.1)

    there : (t : ℕ) → in_range fit.at.item.start fit.at.item.length t ≡ true → list_any (λ (x : Record). (x.id == r.id) && in_range x.start x.length t) records ≡ true
    there t e = subst (λ xs. list_any (λ (x : Record). (x.id == r.id) && in_range x.start x.length t) xs ≡ true) (sym fit.at.is)
        (any_at (λ (x : Record). (x.id == r.id) && in_range x.start x.length t) fit.at.front fit.at.item fit.at.back (and_from _ _ (eq-eqb fit.at.item.id r.id here.0) e))

    range : RangeOf r.id records fit.at.item
    range = range_of r.id records base.apart (record { front = fit.at.front; item = fit.at.item; back = fit.at.back; is = fit.at.is; passes = eq-eqb fit.at.item.id r.id here.0 })

    -- a record of the id has the range of this one
    same_range : (t : ℕ) (w : Found (λ (x : Record). is_listed left x.id && in_range x.start x.length t) records) → w.item.id ≡ r.id → t < end_of r.id records
    same_range t w same =
        let other = range_of r.id records base.apart (record { front = w.front; item = w.item; back = w.back; is = w.is; passes = eq-eqb w.item.id r.id same }) in
        omega (arith, other.end, in_range_means w.item.start w.item.length t (and_parts (is_listed left w.item.id) (in_range w.item.start w.item.length t) w.passes).1)

    at_tag : sum ≡ 0 → k.cpus ≤ r.cpu + 1 → sum_by (counted r.pass r.tag) ps ≡ 0
    at_tag none last = omega (arith, none_from k (r.cpu + 1) r.pass r.tag ps last fits)

    -- on to the record's next tag
    next_tag : sum_by (counted r.pass r.tag) ps ≡ 0 → r.tag + 1 < end_of r.id records → SweepOk k (sweep.Reading left (record r { tag = r.tag + 1; cpu = 0; sum = 0 })) records ps
    next_tag none within =
        reads_on k left r (record r { tag = r.tag + 1; cpu = 0; sum = 0 }) records ps refl
        (reading_fits_from k left (record r { tag = r.tag + 1; cpu = 0; sum = 0 }) records fit.rises fit.dead fit.listed
        (there (r.tag + 1) (in_range_from fit.at.item.start fit.at.item.length (r.tag + 1) (omega (arith, in_range_means fit.at.item.start fit.at.item.length r.tag here.1)) (omega (arith, range.end)))) base.some_cpu)
        (base.fresh r.pass (r.tag + 1)) read so_far.bytes
      where
        read : (t : ℕ) → covers_read left (record r { tag = r.tag + 1; cpu = 0; sum = 0 }) t records ≡ true → sum_by (counted r.pass t) ps ≡ 0
        read t e = go (cases_eq t r.tag) (listed_with left t (λ x. nat_lt x.id r.id || ((x.id == r.id) && nat_lt t (r.tag + 1))) records e)
          where
            go : (t ≡ r.tag) ⊎ (t ≡ r.tag → ⊥) → ListedWith left t (λ x. nat_lt x.id r.id || ((x.id == r.id) && nat_lt t (r.tag + 1))) records → sum_by (counted r.pass t) ps ≡ 0
            go (inl is) w = rw is none
            go (inr ne) w = so_far.read t (read_from left r t records (record { front = w.at.front; item = w.at.item; back = w.at.back; is = w.at.is; passes = and_from _ _ w.listed w.ranged })
                (elim (or_cases (nat_lt w.at.item.id r.id) ((w.at.item.id == r.id) && nat_lt t (r.tag + 1)) w.more_holds) [
                  | inl below ↦ inl (ltb-true w.at.item.id r.id below)
                  | inr same ↦ (let both = and_parts (w.at.item.id == r.id) (nat_lt t (r.tag + 1)) same in inr (eqb-true w.at.item.id r.id both.0, omega (arith, ltb-true t (r.tag + 1) both.1)))
                ]))

    -- through with the record, whose further tags are none
    next_record : sum_by (counted r.pass r.tag) ps ≡ 0 → end_of r.id records ≤ r.tag + 1 → SweepOk k (passes_record r.pass left records r.id) records ps
    next_record none last = passes_record_ok k r.pass left records r.id ps base fit.rises fit.dead upto so_far.bytes
      where
        upto : (t : ℕ) → covers_upto left r.id t records ≡ true → sum_by (counted r.pass t) ps ≡ 0
        upto t e =
            let w = listed_with left t (λ x. nat_le x.id r.id) records e in
            let f : Found (λ (x : Record). is_listed left x.id && in_range x.start x.length t) records = record { front = w.at.front; item = w.at.item; back = w.at.back; is = w.at.is; passes = and_from _ _ w.listed w.ranged } in
            go f (cases_eq t r.tag) (cases_eq f.item.id r.id) (leb-true w.at.item.id r.id w.more_holds)
          where
            go : (f : Found (λ (x : Record). is_listed left x.id && in_range x.start x.length t) records) → (t ≡ r.tag) ⊎ (t ≡ r.tag → ⊥) → (f.item.id ≡ r.id) ⊎ (f.item.id ≡ r.id → ⊥) → f.item.id ≤ r.id → sum_by (counted r.pass t) ps ≡ 0
            go f (inl is) own below = rw is none
            go f (inr ne) (inl same) below = so_far.read t (read_from left r t records f (inr (same, omega (arith, same_range t f same))))
            go f (inr ne) (inr other) below = so_far.read t (read_from left r t records f (inl (omega arith)))

    -- the record leaves the list, where the sum isn't 0
    record_left : SweepOk k (passes_record r.pass (without_id r.id left) records r.id) records ps
    record_left = passes_record_ok k r.pass (without_id r.id left) records r.id ps base (rises_without r.id 0 left fit.rises) (dead_without r.id left records fit.dead) upto bytes
      where
        upto : (t : ℕ) → covers_upto (without_id r.id left) r.id t records ≡ true → sum_by (counted r.pass t) ps ≡ 0
        upto t e =
            let w = listed_with (without_id r.id left) t (λ x. nat_le x.id r.id) records e in
            let was = listed_without r.id left w.at.item.id w.listed in
            let other : w.at.item.id ≢ r.id = was.1 in
            so_far.read t (read_from left r t records (record { front = w.at.front; item = w.at.item; back = w.at.back; is = w.at.is; passes = and_from _ _ was.0 w.ranged })
            (inl (omega (arith, leb-true w.at.item.id r.id w.more_holds))))

        bytes : is_calls r.pass ≡ true → (t : ℕ) → covers_listed (without_id r.id left) t records ≡ true → sum_by (counted Bytes t) ps ≡ 0
        bytes calls t e =
            let f = found_any (λ (x : Record). is_listed (without_id r.id left) x.id && in_range x.start x.length t) records e in
            let both = and_parts (is_listed (without_id r.id left) f.item.id) (in_range f.item.start f.item.length t) f.passes in
            so_far.bytes calls t (subst (λ xs. covers_listed left t xs ≡ true) (sym f.is) (any_at (λ (x : Record). is_listed left x.id && in_range x.start x.length t) f.front f.item f.back (and_from _ _ (listed_without r.id left f.item.id both.0).0 both.1)))

    at_end : (b : Bool) → nat_lt (r.tag + 1) (end_of r.id records) ≡ b → sum_by (counted r.pass r.tag) ps ≡ 0
        → SweepOk k (if b then sweep.Reading left (record r { tag = r.tag + 1; cpu = 0; sum = 0 }) else passes_record r.pass left records r.id) records ps
    at_end true is none = next_tag none (ltb-true (r.tag + 1) (end_of r.id records) is)
    at_end false is none = next_record none (ltb-false (r.tag + 1) (end_of r.id records) is)

    at_sum : (b : Bool) → not (sum == 0) ≡ b → k.cpus ≤ r.cpu + 1
        → SweepOk k (if b then passes_record r.pass (without_id r.id left) records r.id
        else (if nat_lt (r.tag + 1) (end_of r.id records) then sweep.Reading left (record r { tag = r.tag + 1; cpu = 0; sum = 0 }) else passes_record r.pass left records r.id)) records ps
    at_sum true is last = record_left
    at_sum false is last = at_end (nat_lt (r.tag + 1) (end_of r.id records)) refl (at_tag (eqb-true sum 0 (not-false (sum == 0) is)) last)

    at_cpu : (b : Bool) → nat_lt (r.cpu + 1) k.cpus ≡ b
        → SweepOk k (if b then sweep.Reading left (record r { cpu = r.cpu + 1; sum = sum })
        else (if not (sum == 0) then passes_record r.pass (without_id r.id left) records r.id
        else (if nat_lt (r.tag + 1) (end_of r.id records) then sweep.Reading left (record r { tag = r.tag + 1; cpu = 0; sum = 0 }) else passes_record r.pass left records r.id))) records ps
    at_cpu true is =
        reads_on k left r (record r { cpu = r.cpu + 1; sum = sum }) records ps refl
        (reading_fits_from k left (record r { cpu = r.cpu + 1; sum = sum }) records fit.rises fit.dead fit.listed (there r.tag here.1) (ltb-true (r.cpu + 1) k.cpus is)) enough so_far.read so_far.bytes
    at_cpu false is = at_sum (not (sum == 0)) refl (ltb-false (r.cpu + 1) k.cpus is)

-- ---- the row

-- all but the sweep stays
pub book_scan : (c : CpuPart) (l : ListPart) (s : Sweep) (stops : List Stop) (reads : ℕ) → AlikeBook (Cpu c ∷ Modules l ∷ []) (Cpu c ∷ Modules (record l { sweep = s; stops = stops; reads = reads }) ∷ [])
book_scan c l s stops reads = record {
  cpus = λ n. refl;
  pass = refl;
  places = λ n. refl;
  few_places = refl;
  runs = λ test. refl;
  notes = λ test. refl;
  next = refl;
  one_run = λ id. refl;
  list = refl;
  records = λ test. refl;
  users = λ id. refl;
  high = λ next. refl;
}

-- the words from the read CPU on are its word and those from the next CPU on
read_word : (a i x : ℕ) → a ≡ i → (cond {A = ℕ} (nat_le i a) x 0 ≡ x) × (cond {A = ℕ} (nat_le (i + 1) a) x 0 ≡ 0)
read_word a i x is = (rw (le-leb i a (omega arith)) refl, rw (lt-leb (i + 1) a (omega arith)) refl)

pub word_and_next : (cpu : CpuPart) (l : ListPart) (w ps qs : List Part) (i : ℕ) (kind : Kind) (t : ℕ) → Becomes (Cpu cpu ∷ Modules l ∷ []) w ps qs → cpu.number ≡ i → sum_by (is_cpu i) ps ≡ 1
    → sum_by (word_from i kind t) ps ≡ slice_index cpu.words (word_place kind t) + sum_by (word_from (i + 1) kind t) ps
word_and_next cpu l w ps qs i kind t b is once =
    let here : one_if (cpu.number == i) ≡ 1 = rw (eq-eqb cpu.number i is) refl in
    let others : sum_by (is_cpu i) b.rest ≡ 0 = omega (arith, b.before (is_cpu i)) in
    let read = read_word cpu.number i (slice_index cpu.words (word_place kind t)) is in
    omega (arith, read.0, read.1, next_from i kind t b.rest others, b.before (word_from i kind t), b.before (word_from (i + 1) kind t))

wrap_small : (n : ℕ) → wrap n < 2 ^ 64
wrap_small n = omega arith

pub safe-scans : (k : Shape) (left : List ℕ) (r : Reader) (cpu : CpuPart) (old new : ListPart) (ps qs : List Part) → IsChecked k → Scans k left r cpu old new → Becomes (Cpu cpu ∷ Modules old ∷ []) (Cpu cpu ∷ Modules new ∷ []) ps qs → Safe k ps → Safe k qs
safe-scans k left r cpu old new ps qs checked row steps safe = record {
  fits = every_after (part_fits k) v w ps qs b (every_before (part_fits k) v w ps qs b safe.fits) safe.fits;
  each = each_alike k ps qs book safe.each;
  sums = record { sums = λ kind t. rw (becomes_same (word_of kind t) v w ps qs b refl, counts kind t) (safe.sums.sums kind t) };
  cover = cover_alike k ps qs book safe.cover (λ tag h. safe.cover.named tag (omega (arith, becomes_same (counted_of Calls tag) v w ps qs b refl)));
  sweep = sweep_from k d qs (one_after v w ps qs old d (list_with_cpu cpu old) (list_with_cpu cpu d) b safe.each.list) laws.rise
      (sweep_ok_after k d.sweep old.records ps qs counts (λ i kind t. becomes_same (word_from i kind t) v w ps qs b refl) (scan_ok k left r sum old.records ps (pass_base k old ps checked laws safe) safe.fits ok (wrap_small (r.sum + x)) enough));
}
  where
    x : ℕ
    x = slice_index cpu.words (word_place r.pass r.tag)

    sum : ℕ
    sum = wrap (r.sum + x)

    d : ListPart
    d = record old { sweep = sweep_after k old.records left r sum; stops = old.stops ++ stop_after k r sum; reads = old.reads + 1 }

    v : List Part
    v = Cpu cpu ∷ Modules old ∷ []

    w : List Part
    w = Cpu cpu ∷ Modules d ∷ []

    b : Becomes v w ps qs
    b = subst (λ y. Becomes (Cpu cpu ∷ Modules old ∷ []) (Cpu cpu ∷ Modules y ∷ []) ps qs) row.after steps

    book : AlikeBook ps qs
    book = book_after v w ps qs (book_scan cpu old (sweep_after k old.records left r sum) (old.stops ++ stop_after k r sum) (old.reads + 1)) b

    counts : (kind : Kind) (t : ℕ) → sum_by (counted kind t) qs ≡ sum_by (counted kind t) ps
    counts kind t = becomes_same (counted kind t) v w ps qs b refl

    one : OneList old ps
    one = one_before v w ps qs old (list_with_cpu cpu old) b safe.each.list

    laws : ListLaws k old
    laws = list_laws k ps (the_one one) safe.fits safe.cover safe.sweep.fits

    ok : SweepOk k (sweep.Reading left r) old.records ps
    ok = subst (λ s. SweepOk k s old.records ps) row.reading (sweep_ok k old ps one laws safe.sweep)

    enough : sum_by (counted r.pass r.tag) ps ≤ wrap (sum + sum_by (word_from (r.cpu + 1) r.pass r.tag) ps)
    enough =
        read_on (sum_by (counted r.pass r.tag) ps) r.sum x (sum_by (word_from r.cpu r.pass r.tag) ps) (sum_by (word_from (r.cpu + 1) r.pass r.tag) ps)
        (word_and_next cpu old w ps qs r.cpu r.pass r.tag b row.next (safe.each.cpus r.cpu (reading_fits k left r old.records ok.fits).cpu)) ok.reading
      where
        read_on : (c s y from next : ℕ) → from ≡ y + next → c ≤ wrap (s + from) → c ≤ wrap (wrap (s + y) + next)
        read_on c s y from next e h = omega arith
