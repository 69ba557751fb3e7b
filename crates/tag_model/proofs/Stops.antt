-- A sweep gets a stop at a tag only where something was counted under it as its pass began.
use Rattle.std.proofs.Common.{◌≡◌, ℕ, ◌+◌, ◌-◌, ◌<◌, ◌≤◌, ◌==◌, ◌&&◌, ◌⊎◌, nat_lt, List, [], ◌∷◌, ◌++◌, sum_by, count_by, slice_index, find, refl, sym, ap, ◌∙◌, subst, inl, inr, arith, Bool, true, false, not, cond, ltb-true, ltb-false, Option, Some, None, if◌then◌else◌}
use Rattle.std.proofs.lemmas.Bool.{and_from, false≢true}
use Rattle.tag_model.specs.declared.shape.Shape.{Shape}
use Rattle.tag_model.specs.declared.state.CpuPart.{CpuPart}
use Rattle.tag_model.specs.declared.state.Kind.{Kind}
use Rattle.tag_model.specs.declared.state.Kind.TheVariants.{Bytes, Calls}
use Rattle.tag_model.specs.declared.state.ListPart.{ListPart}
use Rattle.tag_model.specs.declared.state.Part.{Part}
use Rattle.tag_model.specs.declared.state.Part.TheVariants.{Cpu, Place, Modules, NextId}
use Rattle.tag_model.specs.declared.state.Reader.{Reader}
use Rattle.tag_model.specs.declared.state.Record.{Record}
use Rattle.tag_model.specs.declared.state.Sweep.{Sweep}
use Rattle.tag_model.specs.declared.state.Sweep.TheVariants as sweep
use Rattle.tag_model.specs.Histories.{reads_calls, pass_begun}
use Rattle.tag_model.specs.Laws.{Safe, is_calls, of_reader, sweep_fits}
use Rattle.tag_model.specs.Shape.{IsChecked}
use Rattle.tag_model.specs.StepRules.{Row, Becomes, sweep_after, stop_after, begins_pass, after_pass, goes_on, passes_record, without_id, end_of, run_on}
use Rattle.tag_model.specs.Wrap.{wrap}
use Rattle.tag_model.specs.WordState.{word_place, word_from, counted, records_with}
use Rattle.tag_model.proofs.CpuRows.{seen, rise-begins_allocation, rise-adds_bytes, rise-adds_call, fall-subtracts_bytes, fall-subtracts_call}
use Rattle.tag_model.proofs.ListRows.{OneList, list_alone, list_with_cpu, one_before, one_after, the_one}
use Rattle.tag_model.proofs.Lists.{dead_at}
use Rattle.tag_model.proofs.LoadRow.{count_push}
use Rattle.tag_model.proofs.Parts.{becomes_same}
use Rattle.tag_model.proofs.PlaceRow.{counts_stay}
use Rattle.tag_model.proofs.Records.{count_swap}
use Rattle.tag_model.proofs.ReleaseRow.{others, sum_others}
use Rattle.tag_model.proofs.ScanRow.{reading_fits, word_and_next}
use Rattle.tag_model.proofs.Still.{Still, StaysStill, still_stays, rise_stays, fall_stays, ReadsNothing, AtStart, still_by_sweep, sweep_of_still, still_start}
use Rattle.tag_model.proofs.Swept.{list_laws}

-- ---- where a pass stands after it begins, and after a read

pub begins_at_start : (pass : Kind) (left : List ℕ) (records : List Record) → AtStart pass (begins_pass pass left records)
begins_at_start pass [] records = tt
begins_at_start pass (id ∷ left) records = (refl, refl, refl)

-- through with a record the pass stands at the next one, is over, or is followed by that of calls
passes_at_start : (pass : Kind) (left : List ℕ) (records : List Record) (id : ℕ) → AtStart pass (passes_record pass left records id) ⊎ ((pass ≡ Bytes) × AtStart Calls (passes_record pass left records id))
passes_at_start pass left records id = go (find (nat_lt id) left)
  where
    after : (pass : Kind) (left : List ℕ) → AtStart pass (after_pass pass left records) ⊎ ((pass ≡ Bytes) × AtStart Calls (after_pass pass left records))
    after pass [] = inl tt
    after Bytes (first ∷ rest) = inr (refl, begins_at_start Calls (first ∷ rest) records)
    after Calls (first ∷ rest) = inl tt

    go : (next : Option ℕ) → AtStart pass (goes_on next pass left records) ⊎ ((pass ≡ Bytes) × AtStart Calls (goes_on next pass left records))
    go None = after pass left
    go (Some next) = inl (refl, refl, refl)

-- a read goes on to the next CPU, to the first of a tag, or into the pass of calls
pub data AfterRead (k : Shape) (left : List ℕ) (r : Reader) (sum : ℕ) (s : Sweep) : Type 0 where
  next_cpu : r.cpu + 1 < k.cpus → s ≡ sweep.Reading left (record r { cpu = r.cpu + 1; sum = sum }) → AfterRead k left r sum s
  next_tag : k.cpus ≤ r.cpu + 1 → AtStart r.pass s → AfterRead k left r sum s
  to_calls : k.cpus ≤ r.cpu + 1 → r.pass ≡ Bytes → AtStart Calls s → AfterRead k left r sum s

pub after_read : (k : Shape) (records : List Record) (left : List ℕ) (r : Reader) (sum : ℕ) → AfterRead k left r sum (sweep_after k records left r sum)
after_read k records left r sum = at_cpu (nat_lt (r.cpu + 1) k.cpus) refl
  where
    through : (s : Sweep) → k.cpus ≤ r.cpu + 1 → AtStart r.pass s ⊎ ((r.pass ≡ Bytes) × AtStart Calls s) → AfterRead k left r sum s
    through s last (inl start) = AfterRead.next_tag last start
    through s last (inr calls) = AfterRead.to_calls last calls.0 calls.1

    at_end : (b : Bool) → k.cpus ≤ r.cpu + 1 → AfterRead k left r sum (if b then sweep.Reading left (record r { tag = r.tag + 1; cpu = 0; sum = 0 }) else passes_record r.pass left records r.id)
    at_end true last = AfterRead.next_tag last (refl, refl, refl)
    at_end false last = through (passes_record r.pass left records r.id) last (passes_at_start r.pass left records r.id)

    at_sum : (b : Bool) → k.cpus ≤ r.cpu + 1
        → AfterRead k left r sum (if b then passes_record r.pass (without_id r.id left) records r.id
        else (if nat_lt (r.tag + 1) (end_of r.id records) then sweep.Reading left (record r { tag = r.tag + 1; cpu = 0; sum = 0 }) else passes_record r.pass left records r.id))
    at_sum true last = through (passes_record r.pass (without_id r.id left) records r.id) last (passes_at_start r.pass (without_id r.id left) records r.id)
    at_sum false last = at_end (nat_lt (r.tag + 1) (end_of r.id records)) last

    at_cpu : (b : Bool) → nat_lt (r.cpu + 1) k.cpus ≡ b
        → AfterRead k left r sum (if b then sweep.Reading left (record r { cpu = r.cpu + 1; sum = sum })
        else (if not (sum == 0) then passes_record r.pass (without_id r.id left) records r.id
        else (if nat_lt (r.tag + 1) (end_of r.id records) then sweep.Reading left (record r { tag = r.tag + 1; cpu = 0; sum = 0 }) else passes_record r.pass left records r.id)))
    at_cpu true is = AfterRead.next_cpu (ltb-true (r.cpu + 1) k.cpus is) refl
    at_cpu false is = at_sum (not (sum == 0)) (ltb-false (r.cpu + 1) k.cpus is)

-- a pass of calls that begins would show
calls_show : (pass : Kind) (s : Sweep) → pass ≡ Bytes → AtStart Calls s → (not (is_calls pass) && reads_calls s) ≡ false → (kind : Kind) → AtStart kind s
calls_show pass sweep.None is start e kind = tt
calls_show pass (sweep.Done left) is start e kind = tt
calls_show pass (sweep.Reading left r) is start e kind = absurd (false≢true (sym e ∙ and_from _ _ (ap (λ x. not (is_calls x)) is) (ap is_calls start.0)))

-- where calls are read after a read of bytes, the pass of calls begins
pub calls_begin : (k : Shape) (left : List ℕ) (r : Reader) (sum : ℕ) (s : Sweep) → AfterRead k left r sum s → is_calls r.pass ≡ false → reads_calls s ≡ true → AtStart Calls s
calls_begin k left r sum s (AfterRead.next_cpu within is) bytes calls = absurd (false≢true (sym bytes ∙ subst (λ x. reads_calls x ≡ true) is calls))
calls_begin k left r sum s (AfterRead.next_tag last start) bytes calls = absurd (same s start calls)
  where
    same : (s : Sweep) → AtStart r.pass s → reads_calls s ≡ true → ⊥
    same sweep.None start calls = false≢true calls
    same (sweep.Done left) start calls = false≢true calls
    same (sweep.Reading left x) start calls = false≢true (sym bytes ∙ (ap is_calls (sym start.0) ∙ calls))
calls_begin k left r sum s (AfterRead.to_calls last is start) bytes calls = start

-- ---- each step that begins no pass

-- the parts that become others keep the dead ranges, the sweep, the counts and the words
pub quiet_stays : (kind : Kind) (t : ℕ) (v w ps qs : List Part) → Becomes v w ps qs → sum_by (records_with (dead_at t)) w ≤ sum_by (records_with (dead_at t)) v → ((f : Reader → ℕ) → sum_by (of_reader f) v ≡ sum_by (of_reader f) w)
    → sum_by (counted kind t) v ≡ sum_by (counted kind t) w → ((i : ℕ) → sum_by (word_from i kind t) v ≡ sum_by (word_from i kind t) w) → StaysStill kind t ps qs
quiet_stays kind t v w ps qs b dead field counts words = record {
  dead = omega (arith, b.before (records_with (dead_at t)), b.after (records_with (dead_at t)));
  field = λ f. becomes_same (of_reader f) v w ps qs b (field f);
  counts = λ here none. omega (arith, becomes_same (counted kind t) v w ps qs b counts);
  words = λ here none s i. ap (λ x. wrap (s + x)) (becomes_same (word_from i kind t) v w ps qs b (words i));
}

cond_none : (b : Bool) → (if b then Some Calls else None) ≡ None → b ≡ false
cond_none true e = cc
cond_none false e = refl

pub cond_some : (b : Bool) (kind : Kind) → (if b then Some Calls else None) ≡ Some kind → (b ≡ true) × (kind ≡ Calls)
cond_some true kind e = (refl, cc)
cond_some false kind e = cc

-- the sum that a read leaves, and the list part
abbrev pub sum_read : CpuPart → Reader → ℕ
sum_read cpu r = wrap (r.sum + slice_index cpu.words (word_place r.pass r.tag))

abbrev pub list_read : Shape → List ℕ → Reader → CpuPart → ListPart → ListPart
list_read k left r cpu old = record old { sweep = sweep_after k old.records left r (sum_read cpu r); stops = old.stops ++ stop_after k r (sum_read cpu r); reads = old.reads + 1 }

-- what a read finds of a tag of the pass that is still
pub scan_finds : (k : Shape) (kind : Kind) (t : ℕ) (left : List ℕ) (r : Reader) (cpu : CpuPart) (old : ListPart) (w ps qs : List Part) → old.sweep ≡ sweep.Reading left r → cpu.number ≡ r.cpu → Becomes (Cpu cpu ∷ Modules old ∷ []) w ps qs → Safe k ps → Still kind t ps
    → (r.pass ≡ kind) × (r.tag ≡ t → wrap (sum_read cpu r + sum_by (word_from (r.cpu + 1) kind t) ps) ≡ 0)
scan_finds k kind t left r cpu old w ps qs reading number b safe s =
    let one = one_before (Cpu cpu ∷ Modules old ∷ []) w ps qs old (list_with_cpu cpu old) b safe.each.list in
    let laws = list_laws k ps (the_one one) safe.fits safe.cover safe.sweep.fits in
    let fit = reading_fits k left r old.records (subst (λ x. sweep_fits k x old.records ≡ true) reading laws.sweep) in
    let found = sweep_of_still kind t old left r ps one reading s in (
      found.0,
      λ here.
          let next = word_and_next cpu old w ps qs r.cpu kind t b number (safe.each.cpus r.cpu fit.cpu) in
          let word : slice_index cpu.words (word_place kind t) ≡ slice_index cpu.words (word_place r.pass r.tag) =
          subst (λ x. slice_index cpu.words (word_place x t) ≡ slice_index cpu.words (word_place r.pass r.tag)) found.0 (subst (λ x. slice_index cpu.words (word_place r.pass x) ≡ slice_index cpu.words (word_place r.pass r.tag)) here refl) in
          read_on r.sum (slice_index cpu.words (word_place r.pass r.tag)) (sum_by (word_from r.cpu kind t) ps) (sum_by (word_from (r.cpu + 1) kind t) ps) (omega (arith, next, word)) (found.1 here),
    )
  where
    read_on : (s x from next : ℕ) → from ≡ x + next → wrap (s + from) ≡ 0 → wrap (wrap (s + x) + next) ≡ 0
    read_on s x from next e h = omega arith

scan_still : (k : Shape) (kind : Kind) (t : ℕ) (left : List ℕ) (r : Reader) (cpu : CpuPart) (old : ListPart) (ps qs : List Part) → old.sweep ≡ sweep.Reading left r → cpu.number ≡ r.cpu → Becomes (Cpu cpu ∷ Modules old ∷ []) (Cpu cpu ∷ Modules (list_read k left r cpu old) ∷ []) ps qs → Safe k ps → Safe k qs
    → (not (is_calls r.pass) && reads_calls (list_read k left r cpu old).sweep) ≡ false → Still kind t ps → Still kind t qs
scan_still k kind t left r cpu old ps qs reading number b safe after none s = go (after_read k old.records left r (sum_read cpu r))
  where
    d : ListPart
    d = list_read k left r cpu old

    v : List Part
    v = Cpu cpu ∷ Modules old ∷ []

    w : List Part
    w = Cpu cpu ∷ Modules d ∷ []

    one : OneList d qs
    one = one_after v w ps qs old d (list_with_cpu cpu old) (list_with_cpu cpu d) b safe.each.list

    nothing : 0 < sum_by (records_with (dead_at t)) qs → sum_by (counted kind t) qs ≡ 0
    nothing dead = becomes_same (counted kind t) v w ps qs b refl ∙ s.nothing (omega (arith, becomes_same (records_with (dead_at t)) v w ps qs b refl))

    found : (r.pass ≡ kind) × (r.tag ≡ t → wrap (sum_read cpu r + sum_by (word_from (r.cpu + 1) kind t) ps) ≡ 0)
    found = scan_finds k kind t left r cpu old w ps qs reading number b safe s

    go : AfterRead k left r (sum_read cpu r) d.sweep → Still kind t qs
    go (AfterRead.next_cpu within is) = still_by_sweep kind t d qs one nothing
        (subst (λ x. ReadsNothing kind t x qs) (sym is) (found.0, λ here. ap (λ x. wrap (sum_read cpu r + x)) (becomes_same (word_from (r.cpu + 1) kind t) v w ps qs b refl) ∙ found.1 here))
    go (AfterRead.next_tag last start) = still_start k kind t d qs after one nothing (subst (λ x. AtStart x d.sweep) found.0 start)
    go (AfterRead.to_calls last bytes start) = still_start k kind t d qs after one nothing (calls_show r.pass d.sweep bytes start none kind)

-- each step that begins no pass leaves the tag still
pub row_still : (k : Shape) (kind : Kind) (t : ℕ) (v w ps qs : List Part) → IsChecked k → (row : Row k v w) → Becomes v w ps qs → Safe k ps → Safe k qs → pass_begun row ≡ None → Still kind t ps → Still kind t qs
row_still k kind t v w ps qs ok (Row.begins_allocation {tag} {old} {new} r) b safe after none s =
    still_stays k kind t ps qs safe (rise_stays k kind Calls t tag.number 1 old _ ps qs (rise-begins_allocation k tag old new ps ok r (seen k old [] (Cpu new ∷ []) ps qs b safe) safe) (subst (λ x. Becomes (Cpu old ∷ []) (Cpu x ∷ []) ps qs) r.after b)) s
row_still k kind t v w ps qs ok (Row.adds_call {hand} {old} {new} r) b safe after none s =
    still_stays k kind t ps qs safe (rise_stays k kind Calls t hand.tag.number 1 old _ ps qs (rise-adds_call k hand old new ps ok r (seen k old [] (Cpu new ∷ []) ps qs b safe) safe) (subst (λ x. Becomes (Cpu old ∷ []) (Cpu x ∷ []) ps qs) r.after b)) s
row_still k kind t v w ps qs ok (Row.adds_bytes {size} {hand} {old} {new} r) b safe after none s =
    still_stays k kind t ps qs safe (rise_stays k kind Bytes t hand.tag.number size old _ ps qs (rise-adds_bytes k size hand old new ps ok r (seen k old [] (Cpu new ∷ []) ps qs b safe) safe) (subst (λ x. Becomes (Cpu old ∷ []) (Cpu x ∷ []) ps qs) r.after b)) s
row_still k kind t v w ps qs ok (Row.subtracts_bytes {bytes} {hand} {old} {new} r) b safe after none s =
    still_stays k kind t ps qs safe (fall_stays k kind Bytes t hand.tag.number bytes old _ ps qs (fall-subtracts_bytes k bytes hand old new ps ok r (seen k old [] (Cpu new ∷ []) ps qs b safe) safe) (subst (λ x. Becomes (Cpu old ∷ []) (Cpu x ∷ []) ps qs) r.after b)) s
row_still k kind t v w ps qs ok (Row.subtracts_call {hand} {old} {new} r) b safe after none s =
    still_stays k kind t ps qs safe (fall_stays k kind Calls t hand.tag.number 1 old _ ps qs (fall-subtracts_call k hand old new ps ok r (seen k old [] (Cpu new ∷ []) ps qs b safe) safe) (subst (λ x. Becomes (Cpu old ∷ []) (Cpu x ∷ []) ps qs) r.after b)) s
row_still k kind t v w ps qs ok (Row.writes_place {n} {old} {new} {was} {next} r) b safe after none s =
    let moved = subst (λ x. Becomes (Cpu old ∷ Place n was ∷ []) (Cpu x ∷ Place n next ∷ []) ps qs) r.after b in
    still_stays k kind t ps qs safe
    (quiet_stays kind t (Cpu old ∷ Place n was ∷ []) (Cpu (record old { hand = new.hand }) ∷ Place n next ∷ []) ps qs moved (omega arith) (λ f. refl) (omega (arith, counts_stay old.hand new.hand was next r.stays kind t)) (λ i. refl)) s
row_still k kind t v w ps qs ok (Row.scans {left} {r} {cpu} {old} {new} row) b safe after none s =
    scan_still k kind t left r cpu old ps qs row.reading row.next (subst (λ y. Becomes (Cpu cpu ∷ Modules old ∷ []) (Cpu cpu ∷ Modules y ∷ []) ps qs) row.after b) safe after
    (subst (λ y. (not (is_calls r.pass) && reads_calls y.sweep) ≡ false) row.after (cond_none (not (is_calls r.pass) && reads_calls new.sweep) none)) s
row_still k kind t v w ps qs ok (Row.loads {section} {start} {length} {id} {old} {new} r) b safe after none s =
    let fresh : Record = record { id = id; section = section; start = start; length = length; dead = false; users = 0 } in
    let moved = subst (λ y. Becomes (Modules old ∷ NextId id ∷ []) (Modules y ∷ NextId (id + 1) ∷ []) ps qs) r.after b in
    still_stays k kind t ps qs safe
    (quiet_stays kind t (Modules old ∷ NextId id ∷ []) (Modules (record old { records = old.records ++ fresh ∷ [] }) ∷ NextId (id + 1) ∷ []) ps qs moved (omega (arith, count_push (dead_at t) old.records fresh)) (λ f. refl) refl (λ i. refl)) s
row_still k kind t v w ps qs ok (Row.enters {old} {new} r) b safe after none s =
    let changed : Record = record r.entry { users = r.entry.users + 1 } in
    let moved = subst (λ y. Becomes (Modules old ∷ []) (Modules y ∷ []) ps qs) r.after b in
    still_stays k kind t ps qs safe
    (quiet_stays kind t (Modules old ∷ []) (Modules (record old { records = r.front ++ changed ∷ r.back; away = run_on r.entry ∷ old.away }) ∷ []) ps qs moved
    (omega (arith, count_swap (dead_at t) r.front r.entry changed r.back refl, ap (λ xs. count_by (dead_at t) xs) r.there)) (λ f. refl) refl (λ i. refl)) s
row_still k kind t v w ps qs ok (Row.leaves {old} {new} r) b safe after none s =
    let changed : Record = record r.entry { users = r.entry.users - 1 } in
    let moved = subst (λ y. Becomes (Modules old ∷ []) (Modules y ∷ []) ps qs) r.after b in
    still_stays k kind t ps qs safe
    (quiet_stays kind t (Modules old ∷ []) (Modules (record old { records = r.front ++ changed ∷ r.back; away = r.ahead ++ r.behind }) ∷ []) ps qs moved
    (omega (arith, count_swap (dead_at t) r.front r.entry changed r.back refl, ap (λ xs. count_by (dead_at t) xs) r.there)) (λ f. refl) refl (λ i. refl)) s
row_still k kind t v w ps qs ok (Row.marks_dead {old} {new} r) b safe after none s = cc
row_still k kind t v w ps qs ok (Row.sweeps {old} {new} r) b safe after none s = cc
row_still k kind t v w ps qs ok (Row.releases {left} {id} {old} {new} r) b safe after none s =
    let d : ListPart = record old { records = others id old.records; sweep = sweep.Done (without_id id left) } in
    let moved = subst (λ y. Becomes (Modules old ∷ []) (Modules y ∷ []) ps qs) r.after b in
    still_by_sweep kind t d qs (one_after (Modules old ∷ []) (Modules d ∷ []) ps qs old d (list_alone old) (list_alone d) moved safe.each.list)
    (λ dead. becomes_same (counted kind t) (Modules old ∷ []) (Modules d ∷ []) ps qs moved refl ∙ s.nothing (omega (arith, moved.before (records_with (dead_at t)), moved.after (records_with (dead_at t)), sum_others (λ (x : Record). cond {A = ℕ} (dead_at t x) 1 0) id old.records))) tt
