-- The law of stops, over histories.
use Rattle.std.proofs.Common.{◌≡◌, ℕ, ◌+◌, ◌<◌, ◌≤◌, ◌==◌, ◌&&◌, ◌⊎◌, nat_lt, List, [], ◌∷◌, ◌++◌, sum_by, count_by, slice_index, eq-eqb, refl, sym, ◌∙◌, subst, inl, inr, arith, Bool, true, false, not, cond, eqb-true, ltb-false, Some, None, if◌then◌else◌}
use Rattle.std.proofs.lemmas.Bool.{and_parts, false≢true, not-true, cases_lt}
use Rattle.std.proofs.lemmas.List.Sums.{sum_by-append}
use Rattle.tag_model.specs.declared.shape.Shape.{Shape}
use Rattle.tag_model.specs.declared.state.CpuPart.{CpuPart}
use Rattle.tag_model.specs.declared.state.Kind.{Kind}
use Rattle.tag_model.specs.declared.state.Kind.TheVariants.{Bytes}
use Rattle.tag_model.specs.declared.state.ListPart.{ListPart}
use Rattle.tag_model.specs.declared.state.Part.{Part}
use Rattle.tag_model.specs.declared.state.Part.TheVariants.{Cpu, Place, Modules, NextId}
use Rattle.tag_model.specs.declared.state.Reader.{Reader}
use Rattle.tag_model.specs.declared.state.Record.{Record}
use Rattle.tag_model.specs.declared.state.Stop.{Stop}
use Rattle.tag_model.specs.declared.state.Sweep.TheVariants as sweep
use Rattle.tag_model.specs.Histories.{Leads, IsHistory, last_state, reads_calls, pass_begun, begun_by, NoneBegins, PassHistory, stops_at}
use Rattle.tag_model.specs.Laws.{Safe, is_calls, same_kind}
use Rattle.tag_model.specs.Shape.{IsChecked}
use Rattle.tag_model.specs.StepRules.{Row, BaseMove, Becomes, stop_after, begins_pass, dead_ids}
use Rattle.tag_model.specs.Wrap.{wrap}
use Rattle.tag_model.specs.WordState.{word_place, word_from, counted}
use Rattle.tag_model.proofs.Bounds.{none_from}
use Rattle.tag_model.proofs.ListRows.{list_alone, list_with_cpu, one_after}
use Rattle.tag_model.proofs.Steps.{step_is_safe, base_move_is_safe}
use Rattle.tag_model.proofs.Still.{Still, AtStart, still_stays, still_start}
use Rattle.tag_model.proofs.Stops.{begins_at_start, after_read, calls_begin, cond_some, quiet_stays, sum_read, list_read, scan_finds, row_still}

-- ---- safe along a history

pub leads_safe : (k : Shape) (ps qs : List Part) → IsChecked k → Leads k ps qs → Safe k ps → Safe k qs
leads_safe k ps qs ok (Leads.step s) safe = step_is_safe k ps qs ok s safe
leads_safe k ps qs ok (Leads.base_move {v} {w} m b) safe = base_move_is_safe k v w ps qs m b safe

pub history_safe : (k : Shape) (first : List Part) (later : List (List Part)) → IsChecked k → IsHistory k first later → Safe k first → Safe k (last_state first later)
history_safe k first [] ok h safe = safe
history_safe k first (next ∷ later) ok h safe = history_safe k next later ok h.1 (leads_safe k first next ok h.0 safe)

-- ---- still along a history in which no pass begins

base_still : (k : Shape) (kind : Kind) (t : ℕ) (v w ps qs : List Part) → BaseMove v w → Becomes v w ps qs → Safe k ps → Still kind t ps → Still kind t qs
base_still k kind t v w ps qs (BaseMove.gives_run {old} {new} {from} {to} r) b safe s =
    let moved = subst (λ y. Becomes (Cpu old ∷ Modules from ∷ []) (Cpu y ∷ Modules (record from { away = r.ahead ++ r.behind }) ∷ []) ps qs) r.cpu (subst (λ y. Becomes (Cpu old ∷ Modules from ∷ []) (Cpu new ∷ Modules y ∷ []) ps qs) r.list b) in
    still_stays k kind t ps qs safe (quiet_stays kind t (Cpu old ∷ Modules from ∷ []) (Cpu (record old { runs = r.front ++ r.run ∷ r.back }) ∷ Modules (record from { away = r.ahead ++ r.behind }) ∷ []) ps qs moved (omega arith) (λ f. refl) refl (λ i. refl)) s
base_still k kind t v w ps qs (BaseMove.takes_run {old} {new} {from} {to} r) b safe s =
    let moved = subst (λ y. Becomes (Cpu old ∷ Modules from ∷ []) (Cpu y ∷ Modules (record from { away = r.run ∷ from.away }) ∷ []) ps qs) r.cpu (subst (λ y. Becomes (Cpu old ∷ Modules from ∷ []) (Cpu new ∷ Modules y ∷ []) ps qs) r.list b) in
    still_stays k kind t ps qs safe (quiet_stays kind t (Cpu old ∷ Modules from ∷ []) (Cpu (record old { runs = r.front ++ r.back }) ∷ Modules (record from { away = r.run ∷ from.away }) ∷ []) ps qs moved (omega arith) (λ f. refl) refl (λ i. refl)) s
base_still k kind t v w ps qs (BaseMove.notes_record {old} {new} {list} r) b safe s =
    let moved = subst (λ y. Becomes (Cpu old ∷ Modules list ∷ []) (Cpu y ∷ Modules list ∷ []) ps qs) r.after b in
    still_stays k kind t ps qs safe (quiet_stays kind t (Cpu old ∷ Modules list ∷ []) (Cpu (record old { notes = record { id = r.entry.id; section = r.entry.section; start = r.entry.start; length = r.entry.length; seen_dead = r.entry.dead } ∷ old.notes }) ∷ Modules list ∷ []) ps qs moved (omega arith) (λ f. refl) refl (λ i. refl)) s
base_still k kind t v w ps qs (BaseMove.reorders_runs {old} {new} r) b safe s =
    let moved = subst (λ y. Becomes (Modules old ∷ []) (Modules y ∷ []) ps qs) r.after b in
    still_stays k kind t ps qs safe (quiet_stays kind t (Modules old ∷ []) (Modules (record old { away = new.away }) ∷ []) ps qs moved (omega arith) (λ f. refl) refl (λ i. refl)) s

leads_still : (k : Shape) (kind : Kind) (t : ℕ) (ps qs : List Part) → IsChecked k → (m : Leads k ps qs) → Safe k ps → begun_by m ≡ None → Still kind t ps → Still kind t qs
leads_still k kind t ps qs ok (Leads.step m) safe none s = row_still k kind t m.v m.w ps qs ok m.row m.becomes safe (step_is_safe k ps qs ok m safe) none s
leads_still k kind t ps qs ok (Leads.base_move {v} {w} m b) safe none s = base_still k kind t v w ps qs m b safe s

history_still : (k : Shape) (kind : Kind) (t : ℕ) (first : List Part) (later : List (List Part)) → IsChecked k → (h : IsHistory k first later) → NoneBegins k first later h → Safe k first → Still kind t first → Still kind t (last_state first later)
history_still k kind t first [] ok h none safe s = s
history_still k kind t first (next ∷ later) ok h none safe s = history_still k kind t next later ok h.1 none.1 (leads_safe k first next ok h.0 safe) (leads_still k kind t first next ok h.0 safe none.0 s)

-- ---- a pass begins

-- the step on the list alone after which a pass stands at its first tag
start_alone : (k : Shape) (kind : Kind) (t : ℕ) (old d : ListPart) (ps qs : List Part) → Becomes (Modules old ∷ []) (Modules d ∷ []) ps qs → Safe k ps → Safe k qs → AtStart kind d.sweep → sum_by (counted kind t) qs ≡ 0 → Still kind t qs
start_alone k kind t old d ps qs b safe after start none =
    still_start k kind t d qs after (one_after (Modules old ∷ []) (Modules d ∷ []) ps qs old d (list_alone old) (list_alone d) b safe.each.list) (λ dead. none) start

pub begun_still : (k : Shape) (kind : Kind) (t : ℕ) (v w ps qs : List Part) → (row : Row k v w) → Becomes v w ps qs → Safe k ps → Safe k qs → pass_begun row ≡ Some kind → sum_by (counted kind t) qs ≡ 0 → Still kind t qs
begun_still k kind t v w ps qs (Row.marks_dead {old} {new} r) b safe after is none =
    let own : Bytes ≡ kind = cc in
    let records : List Record = r.front ++ record r.entry { dead = true } ∷ r.back in
    let d : ListPart = record old { records = records; sweep = begins_pass Bytes (r.entry.id ∷ []) records; stops = [] } in
    start_alone k kind t old d ps qs (subst (λ y. Becomes (Modules old ∷ []) (Modules y ∷ []) ps qs) r.after b) safe after (subst (λ x. AtStart x d.sweep) own (begins_at_start Bytes (r.entry.id ∷ []) records)) none
begun_still k kind t v w ps qs (Row.sweeps {old} {new} r) b safe after is none =
    let own : Bytes ≡ kind = cc in
    let d : ListPart = record old { sweep = begins_pass Bytes (dead_ids old.records) old.records; stops = [] } in
    start_alone k kind t old d ps qs (subst (λ y. Becomes (Modules old ∷ []) (Modules y ∷ []) ps qs) r.after b) safe after (subst (λ x. AtStart x d.sweep) own (begins_at_start Bytes (dead_ids old.records) old.records)) none
begun_still k kind t v w ps qs (Row.scans {left} {r} {cpu} {old} {new} row) b safe after is none =
    let shows = cond_some (not (is_calls r.pass) && reads_calls new.sweep) kind is in
    let d : ListPart = list_read k left r cpu old in
    let moved = subst (λ y. Becomes (Cpu cpu ∷ Modules old ∷ []) (Cpu cpu ∷ Modules y ∷ []) ps qs) row.after b in
    let both = and_parts (not (is_calls r.pass)) (reads_calls d.sweep) (subst (λ y. (not (is_calls r.pass) && reads_calls y.sweep) ≡ true) row.after shows.0) in
    let start = calls_begin k left r (sum_read cpu r) d.sweep (after_read k old.records left r (sum_read cpu r)) (not-true (is_calls r.pass) both.0) both.1 in
    still_start k kind t d qs after (one_after (Cpu cpu ∷ Modules old ∷ []) (Cpu cpu ∷ Modules d ∷ []) ps qs old d (list_with_cpu cpu old) (list_with_cpu cpu d) moved safe.each.list) (λ dead. none) (subst (λ x. AtStart x d.sweep) (sym shows.1) start)
begun_still k kind t v w ps qs (Row.begins_allocation r) b safe after is none = cc
begun_still k kind t v w ps qs (Row.adds_call r) b safe after is none = cc
begun_still k kind t v w ps qs (Row.adds_bytes r) b safe after is none = cc
begun_still k kind t v w ps qs (Row.subtracts_bytes r) b safe after is none = cc
begun_still k kind t v w ps qs (Row.subtracts_call r) b safe after is none = cc
begun_still k kind t v w ps qs (Row.writes_place r) b safe after is none = cc
begun_still k kind t v w ps qs (Row.loads r) b safe after is none = cc
begun_still k kind t v w ps qs (Row.enters r) b safe after is none = cc
begun_still k kind t v w ps qs (Row.leaves r) b safe after is none = cc
begun_still k kind t v w ps qs (Row.releases r) b safe after is none = cc

-- ---- no stop comes at a tag that is still

-- the stop of a read at a tag of the pass that is still would have the sum 0
scan_no_stop : (k : Shape) (kind : Kind) (t : ℕ) (left : List ℕ) (r : Reader) (cpu : CpuPart) (old : ListPart) (w ps qs : List Part) → old.sweep ≡ sweep.Reading left r → cpu.number ≡ r.cpu → Becomes (Cpu cpu ∷ Modules old ∷ []) w ps qs → Safe k ps → Still kind t ps
    → count_by (λ (s : Stop). same_kind s.kind kind && (s.tag == t)) (stop_after k r (sum_read cpu r)) ≡ 0
scan_no_stop k kind t left r cpu old w ps qs reading number b safe s = go (not (nat_lt (r.cpu + 1) k.cpus) && not (sum_read cpu r == 0)) refl
  where
    here : (c : Bool) → (r.tag == t) ≡ c → (k.cpus ≤ r.cpu + 1) → (sum_read cpu r == 0) ≡ false → cond {A = ℕ} (same_kind r.pass kind && c) 1 0 ≡ 0
    here false e last some = nothing (same_kind r.pass kind)
      where
        nothing : (x : Bool) → cond {A = ℕ} (x && false) 1 0 ≡ 0
        nothing true = refl
        nothing false = refl
    here true e last some =
        let found = scan_finds k kind t left r cpu old w ps qs reading number b safe s in
        let zero_sum : sum_read cpu r ≡ 0 = finds_zero (r.sum + slice_index cpu.words (word_place r.pass r.tag)) (sum_by (word_from (r.cpu + 1) kind t) ps) (none_from k (r.cpu + 1) kind t ps last safe.fits) (found.1 (eqb-true r.tag t e)) in
        absurd (false≢true (sym some ∙ eq-eqb (sum_read cpu r) 0 zero_sum))
      where
        finds_zero : (n next : ℕ) → next ≡ 0 → wrap (wrap n + next) ≡ 0 → wrap n ≡ 0
        finds_zero n next e h = omega arith

    go : (c : Bool) → (not (nat_lt (r.cpu + 1) k.cpus) && not (sum_read cpu r == 0)) ≡ c
        → count_by (λ (s : Stop). same_kind s.kind kind && (s.tag == t)) (if c then record { id = r.id; tag = r.tag; kind = r.pass; sum = sum_read cpu r } ∷ [] else []) ≡ 0
    go false e = refl
    go true e =
        let both = and_parts (not (nat_lt (r.cpu + 1) k.cpus)) (not (sum_read cpu r == 0)) e in
        let none = here (r.tag == t) refl (ltb-false (r.cpu + 1) k.cpus (not-true (nat_lt (r.cpu + 1) k.cpus) both.0)) (not-true (sum_read cpu r == 0) both.1) in
        omega arith

-- the parts that become others get no stop
no_more : (kind : Kind) (t : ℕ) (v w ps qs : List Part) → Becomes v w ps qs → sum_by (stops_at kind t) w ≤ sum_by (stops_at kind t) v → sum_by (stops_at kind t) ps < sum_by (stops_at kind t) qs → ⊥
no_more kind t v w ps qs b few more = omega (arith, b.before (stops_at kind t), b.after (stops_at kind t))

no_more_list : (kind : Kind) (t : ℕ) (old new d : ListPart) (ps qs : List Part) → Becomes (Modules old ∷ []) (Modules new ∷ []) ps qs → new ≡ d → count_by (λ (s : Stop). same_kind s.kind kind && (s.tag == t)) d.stops ≤ count_by (λ (s : Stop). same_kind s.kind kind && (s.tag == t)) old.stops
    → sum_by (stops_at kind t) ps < sum_by (stops_at kind t) qs → ⊥
no_more_list kind t old new d ps qs b is few more = no_more kind t (Modules old ∷ []) (Modules d ∷ []) ps qs (subst (λ y. Becomes (Modules old ∷ []) (Modules y ∷ []) ps qs) is b) (omega arith) more

row_no_stop : (k : Shape) (kind : Kind) (t : ℕ) (v w ps qs : List Part) → Row k v w → Becomes v w ps qs → Safe k ps → Still kind t ps → sum_by (stops_at kind t) ps < sum_by (stops_at kind t) qs → ⊥
row_no_stop k kind t v w ps qs (Row.begins_allocation {tag} {old} {new} r) b safe s more = no_more kind t (Cpu old ∷ []) (Cpu new ∷ []) ps qs b (omega arith) more
row_no_stop k kind t v w ps qs (Row.adds_call {hand} {old} {new} r) b safe s more = no_more kind t (Cpu old ∷ []) (Cpu new ∷ []) ps qs b (omega arith) more
row_no_stop k kind t v w ps qs (Row.adds_bytes {size} {hand} {old} {new} r) b safe s more = no_more kind t (Cpu old ∷ []) (Cpu new ∷ []) ps qs b (omega arith) more
row_no_stop k kind t v w ps qs (Row.subtracts_bytes {bytes} {hand} {old} {new} r) b safe s more = no_more kind t (Cpu old ∷ []) (Cpu new ∷ []) ps qs b (omega arith) more
row_no_stop k kind t v w ps qs (Row.subtracts_call {hand} {old} {new} r) b safe s more = no_more kind t (Cpu old ∷ []) (Cpu new ∷ []) ps qs b (omega arith) more
row_no_stop k kind t v w ps qs (Row.writes_place {n} {old} {new} {was} {next} r) b safe s more = no_more kind t (Cpu old ∷ Place n was ∷ []) (Cpu new ∷ Place n next ∷ []) ps qs b (omega arith) more
row_no_stop k kind t v w ps qs (Row.scans {left} {r} {cpu} {old} {new} row) b safe s more =
    no_more kind t (Cpu cpu ∷ Modules old ∷ []) (Cpu cpu ∷ Modules (list_read k left r cpu old) ∷ []) ps qs (subst (λ y. Becomes (Cpu cpu ∷ Modules old ∷ []) (Cpu cpu ∷ Modules y ∷ []) ps qs) row.after b)
    (omega (arith, sum_by-append (λ (x : Stop). cond {A = ℕ} (same_kind x.kind kind && (x.tag == t)) 1 0) old.stops (stop_after k r (sum_read cpu r)), scan_no_stop k kind t left r cpu old _ ps qs row.reading row.next b safe s)) more
row_no_stop k kind t v w ps qs (Row.loads {section} {start} {length} {id} {old} {new} r) b safe s more =
    no_more kind t (Modules old ∷ NextId id ∷ []) (Modules (record old { records = old.records ++ record { id = id; section = section; start = start; length = length; dead = false; users = 0 } ∷ [] }) ∷ NextId (id + 1) ∷ []) ps qs
    (subst (λ y. Becomes (Modules old ∷ NextId id ∷ []) (Modules y ∷ NextId (id + 1) ∷ []) ps qs) r.after b) (omega arith) more
row_no_stop k kind t v w ps qs (Row.enters {old} {new} r) b safe s more = no_more_list kind t old new _ ps qs b r.after (omega arith) more
row_no_stop k kind t v w ps qs (Row.leaves {old} {new} r) b safe s more = no_more_list kind t old new _ ps qs b r.after (omega arith) more
row_no_stop k kind t v w ps qs (Row.marks_dead {old} {new} r) b safe s more = no_more_list kind t old new _ ps qs b r.after (omega arith) more
row_no_stop k kind t v w ps qs (Row.sweeps {old} {new} r) b safe s more = no_more_list kind t old new _ ps qs b r.after (omega arith) more
row_no_stop k kind t v w ps qs (Row.releases {left} {id} {old} {new} r) b safe s more = no_more_list kind t old new _ ps qs b r.after (omega arith) more

base_no_stop : (kind : Kind) (t : ℕ) (v w ps qs : List Part) → BaseMove v w → Becomes v w ps qs → sum_by (stops_at kind t) ps < sum_by (stops_at kind t) qs → ⊥
base_no_stop kind t v w ps qs (BaseMove.gives_run {old} {new} {from} {to} r) b more =
    no_more kind t (Cpu old ∷ Modules from ∷ []) (Cpu new ∷ Modules (record from { away = r.ahead ++ r.behind }) ∷ []) ps qs (subst (λ y. Becomes (Cpu old ∷ Modules from ∷ []) (Cpu new ∷ Modules y ∷ []) ps qs) r.list b) (omega arith) more
base_no_stop kind t v w ps qs (BaseMove.takes_run {old} {new} {from} {to} r) b more =
    no_more kind t (Cpu old ∷ Modules from ∷ []) (Cpu new ∷ Modules (record from { away = r.run ∷ from.away }) ∷ []) ps qs (subst (λ y. Becomes (Cpu old ∷ Modules from ∷ []) (Cpu new ∷ Modules y ∷ []) ps qs) r.list b) (omega arith) more
base_no_stop kind t v w ps qs (BaseMove.notes_record {old} {new} {list} r) b more = no_more kind t (Cpu old ∷ Modules list ∷ []) (Cpu new ∷ Modules list ∷ []) ps qs b (omega arith) more
base_no_stop kind t v w ps qs (BaseMove.reorders_runs {old} {new} r) b more = no_more_list kind t old new (record old { away = new.away }) ps qs b r.after (omega arith) more

leads_no_stop : (k : Shape) (kind : Kind) (t : ℕ) (ps qs : List Part) → Leads k ps qs → Safe k ps → Still kind t ps → sum_by (stops_at kind t) ps < sum_by (stops_at kind t) qs → ⊥
leads_no_stop k kind t ps qs (Leads.step m) safe s more = row_no_stop k kind t m.v m.w ps qs m.row m.becomes safe s more
leads_no_stop k kind t ps qs (Leads.base_move {v} {w} m b) safe s more = base_no_stop kind t v w ps qs m b more

leads_begun : (k : Shape) (kind : Kind) (t : ℕ) (ps qs : List Part) → IsChecked k → (m : Leads k ps qs) → Safe k ps → begun_by m ≡ Some kind → sum_by (counted kind t) qs ≡ 0 → Still kind t qs
leads_begun k kind t ps qs ok (Leads.step m) safe is none = begun_still k kind t m.v m.w ps qs m.row m.becomes safe (step_is_safe k ps qs ok m safe) is none
leads_begun k kind t ps qs ok (Leads.base_move m b) safe is none = cc

-- ---- the law of stops

pub stop_was_counted : (k : Shape) (kind : Kind) (t : ℕ) (first begun last new : List Part) → IsChecked k → Safe k first → PassHistory k kind first begun last → Leads k last new → sum_by (stops_at kind t) last < sum_by (stops_at kind t) new → 0 < sum_by (counted kind t) begun
stop_was_counted k kind t first begun last new ok safe h m more = go (cases_lt 0 (sum_by (counted kind t) begun))
  where
    before : Safe k (last_state first h.before)
    before = history_safe k first h.before ok h.led safe

    safe_begun : Safe k begun
    safe_begun = leads_safe k (last_state first h.before) begun ok h.start before

    safe_last : Safe k last
    safe_last = subst (λ x. Safe k x) h.ends (history_safe k begun h.later ok h.goes_on safe_begun)

    go : (0 < sum_by (counted kind t) begun) ⊎ (sum_by (counted kind t) begun ≤ 0) → 0 < sum_by (counted kind t) begun
    go (inl some) = some
    go (inr few) =
        let none : sum_by (counted kind t) begun ≡ 0 = omega arith in
        let still = history_still k kind t begun h.later ok h.goes_on h.none_begins safe_begun (leads_begun k kind t (last_state first h.before) begun ok h.start before h.begins none) in
        absurd (leads_no_stop k kind t last new m safe_last (subst (λ x. Still kind t x) h.ends still) more)
