-- Each dead record that a sweep listed is still on its list or has a stop, and a stop's sum isn't 0.
use Rattle.std.proofs.Common.{◌≡◌, ℕ, ◌+◌, ◌-◌, ◌==◌, ◌&&◌, ◌||◌, ◌⊎◌, nat_lt, List, [], ◌∷◌, ◌++◌, filter, refl, sym, ap, ◌∙◌, subst, inl, inr, Bool, true, false, not, cond, eqb-true, eq-eqb}
use Rattle.std.specs.List.{list_any}
use Rattle.std.proofs.lemmas.Bool.{and_parts, and_from, or_cases, or_left, or_right, both_ways, false≢true, not-true, cases_Bool, cases_eq}
use Rattle.std.proofs.lemmas.List.Folds.{list_any-append, list_all-append}
use Rattle.tag_model.specs.declared.shape.Shape.{Shape}
use Rattle.tag_model.specs.declared.state.Kind.TheVariants.{Bytes}
use Rattle.tag_model.specs.declared.state.CpuPart.{CpuPart}
use Rattle.tag_model.specs.declared.state.ListPart.{ListPart}
use Rattle.tag_model.specs.declared.state.Reader.{Reader}
use Rattle.tag_model.specs.declared.state.Record.{Record}
use Rattle.tag_model.specs.declared.state.Stop.{Stop}
use Rattle.tag_model.specs.declared.state.Sweep.{Sweep}
use Rattle.tag_model.specs.declared.state.Sweep.TheVariants as sweep
use Rattle.tag_model.specs.Laws.{is_listed}
use Rattle.tag_model.specs.StepRules.{Enters, Leaves, Loads, MarksDead, Releases, Scans, Sweeps, begins_pass, dead_ids, end_of, passes_record, run_on, stop_after, sweep_after, without_id}
use Rattle.tag_model.specs.Sweeping.{are_above_zero, has_stop, ids_left, is_accounted, is_off}
use Rattle.tag_model.proofs.Found.{found_any, any_at}
use Rattle.tag_model.proofs.Ids.{filter_any, any_filter, listed_without}
use Rattle.tag_model.proofs.Records.{any_swap}
use Rattle.tag_model.proofs.Stops.{sum_read}
use Rattle.tag_model.proofs.SweepSteps.{left_begins_pass, left_passes_record}

-- ---- what a read leaves on the list

abbrev pub stop_of : Reader → ℕ → Stop
stop_of r sum = record { id = r.id; tag = r.tag; kind = r.pass; sum = sum }

-- the list stays and there is no stop, or the record leaves the list with a stop whose sum isn't 0
pub data ScanLeaves (k : Shape) (records : List Record) (left : List ℕ) (r : Reader) (sum : ℕ) : Type 0 where
  goes_on : ids_left (sweep_after k records left r sum) ≡ left → stop_after k r sum ≡ [] → ScanLeaves k records left r sum
  drops : ids_left (sweep_after k records left r sum) ≡ without_id r.id left → stop_after k r sum ≡ stop_of r sum ∷ [] → not (sum == 0) ≡ true → ScanLeaves k records left r sum

pub scan_leaves : (k : Shape) (records : List Record) (left : List ℕ) (r : Reader) (sum : ℕ) → ScanLeaves k records left r sum
scan_leaves k records left r sum = go (cases_Bool (nat_lt (r.cpu + 1) k.cpus)) (cases_Bool (not (sum == 0)))
  where
    at_end : (b : Bool) → ids_left (cond b (sweep.Reading left (record r { tag = r.tag + 1; cpu = 0; sum = 0 })) (passes_record r.pass left records r.id)) ≡ left
    at_end true = refl
    at_end false = left_passes_record r.pass left records r.id

    go : (nat_lt (r.cpu + 1) k.cpus ≡ true) ⊎ (nat_lt (r.cpu + 1) k.cpus ≡ false) → (not (sum == 0) ≡ true) ⊎ (not (sum == 0) ≡ false) → ScanLeaves k records left r sum
    go (inl more) any = goes_on (rw more refl) (rw more refl)
    go (inr last) (inl some) = drops (rw (last, some) (left_passes_record r.pass (without_id r.id left) records r.id)) (rw (last, some) refl) some
    go (inr last) (inr none) = goes_on (rw (last, none) (at_end (nat_lt (r.tag + 1) (end_of r.id records)))) (rw (last, none) refl)

-- ---- accounted

-- what a list says of an id: dead, on the sweep's list, with a stop
abbrev pub dead_in : ℕ → List Record → Bool
dead_in id records = list_any (λ (r : Record). (r.id == id) && r.dead) records

-- one of three tests holds, where the first holds after only if it did before
accounts : (d e l m s t : Bool) → (e ≡ true → d ≡ true) → (l ≡ true → (m || t) ≡ true) → (s ≡ true → t ≡ true) → (not d || l || s) ≡ true → (not e || m || t) ≡ true
accounts d false l m s t dead listed stop h = refl
accounts false true l m s t dead listed stop h = absurd (false≢true (dead refl))
accounts true true true m s t dead listed stop h = listed refl
accounts true true false true s t dead listed stop h = refl
accounts true true false false s t dead listed stop h = stop h

account : (id : ℕ) (old new : ListPart) → (dead_in id new.records ≡ true → dead_in id old.records ≡ true) → (is_listed (ids_left old.sweep) id ≡ true → (is_listed (ids_left new.sweep) id || has_stop id new.stops) ≡ true)
    → (has_stop id old.stops ≡ true → has_stop id new.stops ≡ true) → is_accounted id old ≡ true → is_accounted id new ≡ true
account id old new dead listed stop h = accounts (dead_in id old.records) (dead_in id new.records) (is_listed (ids_left old.sweep) id) (is_listed (ids_left new.sweep) id) (has_stop id old.stops) (has_stop id new.stops) dead listed stop h

-- what is dead is on the list of a sweep of all that begins
listed_dead : (id : ℕ) (records : List Record) → dead_in id records ≡ true → is_listed (dead_ids records) id ≡ true
listed_dead id [] e = absurd (false≢true e)
listed_dead id (r ∷ records) e = go r.dead refl (or_cases ((r.id == id) && r.dead) (dead_in id records) e) (λ later. listed_dead id records later)
  where
    go : (b : Bool) → r.dead ≡ b → (((r.id == id) && r.dead) ≡ true) ⊎ (dead_in id records ≡ true) → (dead_in id records ≡ true → is_listed (dead_ids records) id ≡ true) → is_listed (dead_ids (r ∷ records)) id ≡ true
    go true is (inl here) later = rw is (or_left _ _ (and_parts (r.id == id) r.dead here).0)
    go true is (inr there) later = rw is (or_right _ _ (later there))
    go false is (inl here) later = absurd (both_ways r.dead is (and_parts (r.id == id) r.dead here).1)
    go false is (inr there) later = rw is (later there)

listed_of : (id : ℕ) (s : Sweep) (ids : List ℕ) → ids_left s ≡ ids → is_listed ids id ≡ true → is_listed (ids_left s) id ≡ true
listed_of id s ids is e = subst (λ xs. is_listed xs id ≡ true) (sym is) e

any_two : (d l s : Bool) → (d ≡ true → l ≡ true) → (not d || l || s) ≡ true
any_two false l s h = refl
any_two true true s h = refl
any_two true false s h = absurd (false≢true (h refl))

pub sweeps_account : (old new : ListPart) (id : ℕ) → Sweeps old new → is_accounted id new ≡ true
sweeps_account old new id row = subst (λ (l : ListPart). is_accounted id l ≡ true) (sym row.after)
    (any_two (dead_in id old.records) (is_listed (ids_left (begins_pass Bytes (dead_ids old.records) old.records)) id) false
    (λ e. listed_of id (begins_pass Bytes (dead_ids old.records) old.records) (dead_ids old.records) (left_begins_pass Bytes (dead_ids old.records) old.records) (listed_dead id old.records e)))

pub marks_account : (old new : ListPart) (row : MarksDead old new) → is_accounted row.entry.id new ≡ true
marks_account old new row = subst (λ (l : ListPart). is_accounted row.entry.id l ≡ true) (sym row.after)
    (any_two (dead_in row.entry.id records) (is_listed (ids_left (begins_pass Bytes (row.entry.id ∷ []) records)) row.entry.id) false
    (λ e. or_left _ _ (eq-eqb row.entry.id row.entry.id refl)))
  where
    records : List Record
    records = row.front ++ record row.entry { dead = true } ∷ row.back

stop_appended : (id : ℕ) (stops more : List Stop) → has_stop id stops ≡ true → has_stop id (stops ++ more) ≡ true
stop_appended id stops more e = list_any-append (λ (s : Stop). s.id == id) stops more ∙ or_left _ _ e

stop_added : (id : ℕ) (stops : List Stop) (s : Stop) → s.id ≡ id → has_stop id (stops ++ s ∷ []) ≡ true
stop_added id stops s is = any_at (λ (x : Stop). x.id == id) stops s [] (eq-eqb s.id id is)

listed_still : (id other : ℕ) (left : List ℕ) → is_listed left other ≡ true → (other ≡ id → ⊥) → is_listed (without_id id left) other ≡ true
listed_still id other left e apart =
    filter_any (λ x. x == other) (λ x. not (x == id)) left
    (let f = found_any (λ (x : ℕ). x == other) left e in
    let same = eqb-true f.item other f.passes in
    subst (λ xs. list_any (λ (x : ℕ). (x == other) && not (x == id)) xs ≡ true) (sym f.is)
    (any_at (λ (x : ℕ). (x == other) && not (x == id)) f.front f.item f.back (and_from _ _ f.passes (differs (f.item == id) refl (λ is. apart (sym same ∙ is))))))
  where
    differs : {a b : ℕ} (c : Bool) → (a == b) ≡ c → (a ≡ b → ⊥) → not (a == b) ≡ true
    differs {a} {b} true is ne = absurd (ne (eqb-true a b is))
    differs {a} {b} false is ne = ap not is

pub scans_account : (k : Shape) (left : List ℕ) (r : Reader) (cpu : CpuPart) (old new : ListPart) (id : ℕ) → Scans k left r cpu old new → is_accounted id old ≡ true → is_accounted id new ≡ true
scans_account k left r cpu old new id row h =
    subst (λ (l : ListPart). is_accounted id l ≡ true) (sym row.after)
    (account id old after (λ e. e) (λ e. listed (scan_leaves k old.records left r sum) (subst (λ s. is_listed (ids_left s) id ≡ true) row.reading e)) (stop_appended id old.stops (stop_after k r sum)) h)
  where
    sum : ℕ
    sum = sum_read cpu r

    after : ListPart
    after = record old { sweep = sweep_after k old.records left r sum; stops = old.stops ++ stop_after k r sum; reads = old.reads + 1 }

    listed : ScanLeaves k old.records left r sum → is_listed left id ≡ true → (is_listed (ids_left after.sweep) id || has_stop id after.stops) ≡ true
    listed (ScanLeaves.goes_on stays none) e = or_left _ _ (listed_of id after.sweep left stays e)
    listed (ScanLeaves.drops goes stop some) e = elim (cases_eq id r.id) [
      | inl is ↦ or_right _ _ (subst (λ xs. has_stop id (old.stops ++ xs) ≡ true) (sym stop) (stop_added id old.stops (stop_of r sum) (sym is)))
      | inr apart ↦ or_left _ _ (listed_of id after.sweep (without_id r.id left) goes (listed_still r.id id left e apart))
    ]

-- a record that stays was there
any_before : (id gone : ℕ) (records : List Record) → dead_in id (filter (λ (r : Record). not (r.id == gone)) records) ≡ true → (dead_in id records ≡ true) × (id ≡ gone → ⊥)
any_before id gone records e =
    let f = found_any (λ (r : Record). ((r.id == id) && r.dead) && not (r.id == gone)) records (any_filter (λ (r : Record). (r.id == id) && r.dead) (λ r. not (r.id == gone)) records e) in
    let both = and_parts ((f.item.id == id) && f.item.dead) (not (f.item.id == gone)) f.passes in
    let same = eqb-true f.item.id id (and_parts (f.item.id == id) f.item.dead both.0).0 in (
      subst (λ rs. dead_in id rs ≡ true) (sym f.is) (any_at (λ (r : Record). (r.id == id) && r.dead) f.front f.item f.back both.0),
      λ is. both_ways (f.item.id == gone) (not-true (f.item.id == gone) both.1) (eq-eqb f.item.id gone (same ∙ is)),
    )

pub releases_account : (left : List ℕ) (gone : ℕ) (old new : ListPart) (id : ℕ) → Releases left gone old new → is_accounted id old ≡ true → is_accounted id new ≡ true
releases_account left gone old new id row h =
    subst (λ (l : ListPart). is_accounted id l ≡ true) (sym row.after) (go (cases_Bool (dead_in id after.records)))
  where
    after : ListPart
    after = record old { records = filter (λ (r : Record). not (r.id == gone)) old.records; sweep = sweep.Done (without_id gone left) }

    go : (dead_in id after.records ≡ true) ⊎ (dead_in id after.records ≡ false) → is_accounted id after ≡ true
    go (inr none) = rw none refl
    go (inl dead) =
        let was = any_before id gone old.records dead in
        account id old after (λ e. was.0) (λ e. or_left _ _ (listed_still gone id left (subst (λ s. is_listed (ids_left s) id ≡ true) row.done e) was.1)) (λ e. e) h

-- a load, an enter and a leave make nothing dead
pub loads_account : (k : Shape) (section start length next : ℕ) (old new : ListPart) (id : ℕ) → Loads k section start length next old new → is_accounted id old ≡ true → is_accounted id new ≡ true
loads_account k section start length next old new id row h = subst (λ (l : ListPart). is_accounted id l ≡ true) (sym row.after) (account id old after dead (λ e. or_left _ _ e) (λ e. e) h)
  where
    fresh : Record
    fresh = record { id = next; section = section; start = start; length = length; dead = false; users = 0 }

    after : ListPart
    after = record old { records = old.records ++ fresh ∷ [] }

    dead : dead_in id after.records ≡ true → dead_in id old.records ≡ true
    dead e = elim (or_cases (dead_in id old.records) (dead_in id (fresh ∷ [])) (sym (list_any-append (λ (r : Record). (r.id == id) && r.dead) old.records (fresh ∷ [])) ∙ e)) [
      | inl there ↦ there
      | inr here ↦ elim (or_cases ((next == id) && false) false here) [ inl both ↦ absurd (false≢true (and_parts (next == id) false both).1) | inr none ↦ absurd (false≢true none) ]
    ]

users_account : (old : ListPart) (front : List Record) (entry : Record) (back : List Record) (users : ℕ) (id : ℕ) → old.records ≡ front ++ entry ∷ back → dead_in id (front ++ record entry { users = users } ∷ back) ≡ true → dead_in id old.records ≡ true
users_account old front entry back users id there e =
    subst (λ rs. dead_in id rs ≡ true) (sym there) (sym (any_swap (λ (r : Record). (r.id == id) && r.dead) front entry (record entry { users = users }) back refl) ∙ e)

pub enters_account : (old new : ListPart) (id : ℕ) → Enters old new → is_accounted id old ≡ true → is_accounted id new ≡ true
enters_account old new id row h =
    subst (λ (l : ListPart). is_accounted id l ≡ true) (sym row.after)
    (account id old (record old { records = row.front ++ record row.entry { users = row.entry.users + 1 } ∷ row.back; away = run_on row.entry ∷ old.away }) (users_account old row.front row.entry row.back (row.entry.users + 1) id row.there) (λ e. or_left _ (has_stop id old.stops) e) (λ e. e) h)

pub leaves_account : (old new : ListPart) (id : ℕ) → Leaves old new → is_accounted id old ≡ true → is_accounted id new ≡ true
leaves_account old new id row h =
    subst (λ (l : ListPart). is_accounted id l ≡ true) (sym row.after)
    (account id old (record old { records = row.front ++ record row.entry { users = row.entry.users - 1 } ∷ row.back; away = row.ahead ++ row.behind }) (users_account old row.front row.entry row.back (row.entry.users - 1) id row.there) (λ e. or_left _ (has_stop id old.stops) e) (λ e. e) h)

-- ---- off the list

not_both : (l s m t : Bool) → (m ≡ true → t ≡ true → (l ≡ true) × (s ≡ true)) → not (l && s) ≡ true → not (m && t) ≡ true
not_both l s false t h e = refl
not_both l s true false h e = refl
not_both l s true true h e = let was = h refl refl in absurd (both_ways (l && s) (not-true (l && s) e) (and_from l s was.0 was.1))

pub begins_off : (old new : ListPart) (id : ℕ) → new.stops ≡ [] → is_off id new ≡ true
begins_off old new id none = subst (λ xs. not (is_listed (ids_left new.sweep) id && has_stop id xs) ≡ true) (sym none) (nothing (is_listed (ids_left new.sweep) id))
  where
    nothing : (b : Bool) → not (b && false) ≡ true
    nothing true = refl
    nothing false = refl

pub scans_off : (k : Shape) (left : List ℕ) (r : Reader) (cpu : CpuPart) (old new : ListPart) (id : ℕ) → Scans k left r cpu old new → is_off id old ≡ true → is_off id new ≡ true
scans_off k left r cpu old new id row h =
    subst (λ (l : ListPart). is_off id l ≡ true) (sym row.after)
    (not_both (is_listed (ids_left old.sweep) id) (has_stop id old.stops) (is_listed (ids_left after.sweep) id) (has_stop id after.stops) (was (scan_leaves k old.records left r sum)) h)
  where
    sum : ℕ
    sum = sum_read cpu r

    after : ListPart
    after = record old { sweep = sweep_after k old.records left r sum; stops = old.stops ++ stop_after k r sum; reads = old.reads + 1 }

    was_listed : is_listed left id ≡ true → is_listed (ids_left old.sweep) id ≡ true
    was_listed e = subst (λ s. is_listed (ids_left s) id ≡ true) (sym row.reading) e

    was : ScanLeaves k old.records left r sum → is_listed (ids_left after.sweep) id ≡ true → has_stop id after.stops ≡ true → (is_listed (ids_left old.sweep) id ≡ true) × (has_stop id old.stops ≡ true)
    was (ScanLeaves.goes_on stays none) e s = (
      was_listed (subst (λ xs. is_listed xs id ≡ true) stays e),
      elim (or_cases (has_stop id old.stops) false (sym (list_any-append (λ (x : Stop). x.id == id) old.stops []) ∙ subst (λ xs. has_stop id (old.stops ++ xs) ≡ true) none s)) [ inl there ↦ there | inr no_one ↦ absurd (false≢true no_one) ],
    )
    was (ScanLeaves.drops goes stop some) e s =
        let there = listed_without r.id left id (subst (λ xs. is_listed xs id ≡ true) goes e) in (
          was_listed there.0,
          elim (or_cases (has_stop id old.stops) (has_stop id (stop_of r sum ∷ [])) (sym (list_any-append (λ (x : Stop). x.id == id) old.stops (stop_of r sum ∷ [])) ∙ subst (λ xs. has_stop id (old.stops ++ xs) ≡ true) stop s)) [
            | inl there ↦ there
            | inr here ↦ elim (or_cases (r.id == id) false here) [ inl same ↦ absurd (there.1 (sym (eqb-true r.id id same))) | inr no_one ↦ absurd (false≢true no_one) ]
          ],
        )

pub releases_off : (left : List ℕ) (gone : ℕ) (old new : ListPart) (id : ℕ) → Releases left gone old new → is_off id old ≡ true → is_off id new ≡ true
releases_off left gone old new id row h =
    subst (λ (l : ListPart). is_off id l ≡ true) (sym row.after)
    (not_both (is_listed (ids_left old.sweep) id) (has_stop id old.stops) (is_listed (without_id gone left) id) (has_stop id old.stops)
    (λ e s. (subst (λ x. is_listed (ids_left x) id ≡ true) (sym row.done) (listed_without gone left id e).0, s)) h)

-- ---- sums

pub scans_above_zero : (k : Shape) (left : List ℕ) (r : Reader) (cpu : CpuPart) (old new : ListPart) → Scans k left r cpu old new → are_above_zero old.stops ≡ true → are_above_zero new.stops ≡ true
scans_above_zero k left r cpu old new row h =
    subst (λ (l : ListPart). are_above_zero l.stops ≡ true) (sym row.after)
    (list_all-append (λ (s : Stop). not (s.sum == 0)) old.stops (stop_after k r sum) ∙ and_from _ _ h (added (scan_leaves k old.records left r sum)))
  where
    sum : ℕ
    sum = sum_read cpu r

    added : ScanLeaves k old.records left r sum → are_above_zero (stop_after k r sum) ≡ true
    added (ScanLeaves.goes_on stays none) = subst (λ xs. are_above_zero xs ≡ true) (sym none) refl
    added (ScanLeaves.drops goes stop some) = subst (λ xs. are_above_zero xs ≡ true) (sym stop) (and_from _ _ some refl)
