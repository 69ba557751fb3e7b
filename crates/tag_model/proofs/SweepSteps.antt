-- Each step of a sweep leaves fewer reads or releases, and a sweep that begins has at most two reads for each CPU and tag.
use Rattle.std.proofs.Common.{◌≡◌, ℕ, suc, ◌+◌, ◌-◌, ◌*◌, ◌<◌, ◌≤◌, ◌==◌, ◌&&◌, ◌⊎◌, nat_lt, List, [], ◌∷◌, ◌++◌, length, sum_by, count_by, find, Option, Some, None, refl, sym, ap, ◌∙◌, subst, inl, inr, arith, Bool, true, false, not, cond, eqb-true, ltb-true, eq-eqb, if◌then◌else◌}
use Rattle.std.specs.List.{list_any}
use Rattle.std.proofs.Math.Nat.{mul-le-mul_left, mul-suc, mul_assoc}
use Rattle.std.proofs.lemmas.Bool.{and_parts, and_from, and_right, or_left, both_ways, false≢true, le-ltb, lt-ltb, ne_eqb, cond-true, cond-false, cases_Bool}
use Rattle.std.proofs.lemmas.List.Sums.{sum_by-cons, sum_by-le-sum_by, length-filter, count_by-le-length}
use Rattle.tag_model.specs.declared.shape.Shape.{Shape}
use Rattle.tag_model.specs.declared.state.Kind.{Kind}
use Rattle.tag_model.specs.declared.state.Kind.TheVariants.{Bytes, Calls}
use Rattle.tag_model.specs.declared.state.CpuPart.{CpuPart}
use Rattle.tag_model.specs.declared.state.ListPart.{ListPart}
use Rattle.tag_model.specs.declared.state.Part.TheVariants.{Modules}
use Rattle.tag_model.specs.declared.state.Reader.{Reader}
use Rattle.tag_model.specs.declared.state.Record.{Record}
use Rattle.tag_model.specs.declared.state.Sweep.{Sweep}
use Rattle.tag_model.specs.declared.state.Sweep.TheVariants as sweep
use Rattle.tag_model.specs.Laws.{is_listed, is_reading, are_dead, ids_of, rises_from, sweep_fits}
use Rattle.tag_model.specs.StepRules.{Scans, Sweeps, MarksDead, Releases, after_pass, begins_pass, dead_ids, end_of, goes_on, passes_record, reads_from, start_of, sweep_after, without_id}
use Rattle.tag_model.specs.Sweeping.{ids_left, tags_of, tags_behind, reads_behind, reads_left, steps_left}
use Rattle.tag_model.specs.WordState.{in_range}
use Rattle.tag_model.proofs.Found.{Found, found_any, any_at, sum_at}
use Rattle.tag_model.proofs.Ids.{field_here, range_of, rises_cons, find_some, listed_cons, listed_without, rises_without, dead_without}
use Rattle.tag_model.proofs.Lists.{Apart, in_range_means, listed_is_dead}
use Rattle.tag_model.proofs.Records.{dead_are_dead, ids_swap}
use Rattle.tag_model.proofs.ScanRow.{reading_fits}
use Rattle.tag_model.proofs.Stops.{sum_read}

-- ---- products

times_more : (k m n : ℕ) → m < n → k * m + k ≤ k * n
times_more k m n h = let more : k * suc m ≤ k * n = mul-le-mul_left k h in omega (arith, mul-suc k m)

-- ---- tags of the records on a list

-- where each term is at most another, and one is less by as much, so is the sum
sum_gap : (f g : Record → ℕ) (front : List Record) (r : Record) (back : List Record) (n : ℕ) → ((x : Record) → f x ≤ g x) → f r + n ≤ g r → sum_by f (front ++ r ∷ back) + n ≤ sum_by g (front ++ r ∷ back)
sum_gap f g front r back n more gap = omega (arith, sum_at f front r back, sum_at g front r back, sum_by-le-sum_by f g front more, sum_by-le-sum_by f g back more)

-- the tags of the records that pass a test
abbrev tags_if : (Record → Bool) → List Record → ℕ
tags_if test records = sum_by (λ (r : Record). if test r then r.length else 0) records

less_if : (a b : Bool) (n : ℕ) → (a ≡ true → b ≡ true) → cond {A = ℕ} a n 0 ≤ cond {A = ℕ} b n 0
less_if true b n h = omega (arith, cond-true {A = ℕ} b n 0 (h refl))
less_if false b n h = omega arith

-- a test that holds wherever another does has at least its tags
tags_more : (p q : Record → Bool) (records : List Record) → ((r : Record) → p r ≡ true → q r ≡ true) → tags_if p records ≤ tags_if q records
tags_more p q records h = sum_by-le-sum_by (λ (r : Record). if p r then r.length else 0) (λ (r : Record). if q r then r.length else 0) records (λ r. less_if (p r) (q r) r.length (h r))

-- the record of an id, and where it stands
abbrev pub HasId : ℕ → List Record → Type 0
HasId id records = Found (λ (r : Record). r.id == id) records

same_id : (id : ℕ) (records : List Record) (f : HasId id records) → f.item.id ≡ id
same_id id records f = eqb-true f.item.id id f.passes

-- and the tags of a record more, where it holds of that one alone
tags_gap : (p q : Record → Bool) (id : ℕ) (records : List Record) (f : HasId id records) → ((x : Record) → p x ≡ true → q x ≡ true) → p f.item ≡ false → q f.item ≡ true → tags_if p records + f.item.length ≤ tags_if q records
tags_gap p q id records at more out within =
    let f : Record → ℕ = λ x. if p x then x.length else 0 in
    let g : Record → ℕ = λ x. if q x then x.length else 0 in
    let none : f at.item ≡ 0 = cond-false (p at.item) at.item.length 0 out in
    let some : g at.item ≡ at.item.length = cond-true (q at.item) at.item.length 0 within in
    subst (λ xs. sum_by f xs + at.item.length ≤ sum_by g xs) (sym at.is) (sum_gap f g at.front at.item at.back at.item.length (λ x. less_if (p x) (q x) x.length (more x)) (omega arith))

-- those behind an id, and the tags of its own record, are at most those behind a lower id, or on the whole list
behind_lower : (records : List Record) (left : List ℕ) (low id : ℕ) (f : HasId id records) → low < id → is_listed left id ≡ true → tags_behind id left records + f.item.length ≤ tags_behind low left records
behind_lower records left low id f below listed =
    let same = same_id id records f in
    tags_gap (λ x. is_listed left x.id && nat_lt id x.id) (λ x. is_listed left x.id && nat_lt low x.id) id records f
    (λ x h. let both = and_parts (is_listed left x.id) (nat_lt id x.id) h in and_from _ _ both.0 (lt-ltb low x.id (omega (arith, ltb-true id x.id both.1))))
    (and_right _ _ (le-ltb id f.item.id (omega arith)))
    (and_from _ _ (subst (λ i. is_listed left i ≡ true) (sym same) listed) (lt-ltb low f.item.id (omega arith)))

behind_of : (records : List Record) (left : List ℕ) (id : ℕ) (f : HasId id records) → is_listed left id ≡ true → tags_behind id left records + f.item.length ≤ tags_of left records
behind_of records left id f listed =
    let same = same_id id records f in
    tags_gap (λ x. is_listed left x.id && nat_lt id x.id) (λ x. is_listed left x.id) id records f
    (λ x h. (and_parts (is_listed left x.id) (nat_lt id x.id) h).0)
    (and_right _ _ (le-ltb id f.item.id (omega arith)))
    (subst (λ i. is_listed left i ≡ true) (sym same) listed)

-- ---- a pass that stands at the start of a record

-- what the search for the next id finds is above
find_above : (id : ℕ) (ids : List ℕ) (next : ℕ) → find (nat_lt id) ids ≡ Some next → id < next
find_above id [] next e = cc
find_above id (x ∷ xs) next e = go (nat_lt id x) refl e (λ rest. find_above id xs next rest)
  where
    go : (b : Bool) → nat_lt id x ≡ b → cond b (Some x) (find (nat_lt id) xs) ≡ Some next → (find (nat_lt id) xs ≡ Some next → id < next) → id < next
    go true is e later = let same : x ≡ next = cc in omega (arith, ltb-true id x is)
    go false is e later = later e

dead_found : (records : List Record) (left : List ℕ) (id : ℕ) → are_dead left records ≡ true → is_listed left id ≡ true → HasId id records
dead_found records left id dead listed =
    let f = found_any (λ (r : Record). (r.id == id) && r.dead) records (listed_is_dead left records id dead listed) in
    record { front = f.front; item = f.item; back = f.back; is = f.is; passes = (and_parts (f.item.id == id) f.item.dead f.passes).0 }

starts_at_most : (k : Shape) (pass : Kind) (records : List Record) (left : List ℕ) (id most : ℕ) → Apart records → are_dead left records ≡ true → is_listed left id ≡ true
    → ((f : HasId id records) → tags_behind id left records + f.item.length ≤ most)
    → reads_left k records (reads_from pass left records id) ≤ k.cpus * most + reads_behind k pass left records
starts_at_most k pass records left id most apart dead listed few =
    let f = dead_found records left id dead listed in
    let range = range_of id records apart f in
    let tags : tags_behind id left records + (end_of id records - start_of id records) ≤ most = omega (arith, few f, range.start, range.end) in
    omega (arith, mul-le-mul_left k.cpus tags)

pub begins_at_most : (k : Shape) (pass : Kind) (records : List Record) (left : List ℕ) → Apart records → are_dead left records ≡ true → reads_left k records (begins_pass pass left records) ≤ k.cpus * tags_of left records + reads_behind k pass left records
begins_at_most k pass records [] apart dead = omega arith
begins_at_most k pass records (id ∷ left) apart dead =
    let listed : is_listed (id ∷ left) id ≡ true = or_left _ _ (eq-eqb id id refl) in
    starts_at_most k pass records (id ∷ left) id (tags_of (id ∷ left) records) apart dead listed (λ f. behind_of records (id ∷ left) id f listed)

after_at_most : (k : Shape) (pass : Kind) (records : List Record) (left : List ℕ) → Apart records → are_dead left records ≡ true → reads_left k records (after_pass pass left records) ≤ reads_behind k pass left records
after_at_most k pass records [] apart dead = omega arith
after_at_most k Bytes records (id ∷ left) apart dead = omega (arith, begins_at_most k Calls records (id ∷ left) apart dead)
after_at_most k Calls records (id ∷ left) apart dead = omega arith

passes_at_most : (k : Shape) (pass : Kind) (records : List Record) (left : List ℕ) (id : ℕ) → Apart records → rises_from 0 left ≡ true → are_dead left records ≡ true
    → reads_left k records (passes_record pass left records id) ≤ k.cpus * tags_behind id left records + reads_behind k pass left records
passes_at_most k pass records left id apart rises dead = go (find (nat_lt id) left) refl
  where
    go : (o : Option ℕ) → find (nat_lt id) left ≡ o → reads_left k records (goes_on o pass left records) ≤ k.cpus * tags_behind id left records + reads_behind k pass left records
    go None is = omega (arith, after_at_most k pass records left apart dead)
    go (Some next) is =
        let listed = (find_some 0 id left next rises is).0 in
        let above = find_above id left next is in
        starts_at_most k pass records left next (tags_behind id left records) apart dead listed (λ f. behind_lower records left id next f above listed)

-- ---- a list with fewer ids

behind_fewer : (id : ℕ) (left other : List ℕ) (records : List Record) → ((x : ℕ) → is_listed left x ≡ true → is_listed other x ≡ true) → tags_behind id left records ≤ tags_behind id other records
behind_fewer id left other records fewer = tags_more (λ x. is_listed left x.id && nat_lt id x.id) (λ x. is_listed other x.id && nat_lt id x.id) records (λ r h. let both = and_parts (is_listed left r.id) (nat_lt id r.id) h in and_from _ _ (fewer r.id both.0) both.1)

reads_fewer : (k : Shape) (pass : Kind) (left other : List ℕ) (records : List Record) → ((x : ℕ) → is_listed left x ≡ true → is_listed other x ≡ true) → reads_behind k pass left records ≤ reads_behind k pass other records
reads_fewer k Bytes left other records fewer = mul-le-mul_left k.cpus (tags_more (λ x. is_listed left x.id) (λ x. is_listed other x.id) records (λ r h. fewer r.id h))
reads_fewer k Calls left other records fewer = omega arith

-- ---- the ids that are left

pub left_after_pass : (pass : Kind) (left : List ℕ) (records : List Record) → ids_left (after_pass pass left records) ≡ left
left_after_pass pass [] records = refl
left_after_pass Bytes (id ∷ left) records = refl
left_after_pass Calls (id ∷ left) records = refl

pub left_passes_record : (pass : Kind) (left : List ℕ) (records : List Record) (id : ℕ) → ids_left (passes_record pass left records id) ≡ left
left_passes_record pass left records id = go (find (nat_lt id) left)
  where
    go : (o : Option ℕ) → ids_left (goes_on o pass left records) ≡ left
    go None = left_after_pass pass left records
    go (Some next) = refl

pub left_begins_pass : (pass : Kind) (left : List ℕ) (records : List Record) → ids_left (begins_pass pass left records) ≡ left
left_begins_pass pass [] records = refl
left_begins_pass pass (id ∷ left) records = refl

pub without_not_longer : (id : ℕ) (left : List ℕ) → length (without_id id left) ≤ length left
without_not_longer id left = omega (arith, length-filter (λ other. not (other == id)) left, count_by-le-length (λ other. not (other == id)) left)

-- a list without one of its ids is shorter
pub without_shorter : (id : ℕ) (left : List ℕ) → is_listed left id ≡ true → length (without_id id left) < length left
without_shorter id [] e = absurd (false≢true e)
without_shorter id (x ∷ xs) e = go (x == id) refl (listed_cons x xs id e) (λ later. without_shorter id xs later)
  where
    go : (b : Bool) → (x == id) ≡ b → (x ≡ id) ⊎ (is_listed xs id ≡ true) → (is_listed xs id ≡ true → length (without_id id xs) < length xs) → length (cond (not b) (x ∷ without_id id xs) (without_id id xs)) < length (x ∷ xs)
    go true is listed later = omega (arith, without_not_longer id xs)
    go false is (inl same) later = absurd (both_ways (x == id) is (eq-eqb x id same))
    go false is (inr there) later = omega (arith, later there)

-- ---- a read

-- what is left where the reader stands: at least one read of a tag
record StandsAt (k : Shape) (records : List Record) (left : List ℕ) (r : Reader) : Type 0 where
  rises : rises_from 0 left ≡ true
  dead : are_dead left records ≡ true
  listed : is_listed left r.id ≡ true
  within : r.tag < end_of r.id records
  cpu : r.cpu < k.cpus

stands_at : (k : Shape) (records : List Record) (left : List ℕ) (r : Reader) → Apart records → sweep_fits k (sweep.Reading left r) records ≡ true → StandsAt k records left r
stands_at k records left r apart fits =
    let f = reading_fits k left r records fits in
    let both = and_parts (f.at.item.id == r.id) (in_range f.at.item.start f.at.item.length r.tag) f.at.passes in
    let range = range_of r.id records apart (record { front = f.at.front; item = f.at.item; back = f.at.back; is = f.at.is; passes = both.0 }) in
    record { rises = f.rises; dead = f.dead; listed = f.listed; within = omega (arith, in_range_means f.at.item.start f.at.item.length r.tag both.1, range.end); cpu = f.cpu }

abbrev Falls : Shape → List Record → List ℕ → Reader → Sweep → Type 0
Falls k records left r after = (reads_left k records after < reads_left k records (sweep.Reading left r)) × (length (ids_left after) ≤ length left)

-- a read leaves fewer reads, and no more ids
pub read_falls : (k : Shape) (records : List Record) (left : List ℕ) (r : Reader) (sum : ℕ) → Apart records → sweep_fits k (sweep.Reading left r) records ≡ true
    → (reads_left k records (sweep_after k records left r sum) < reads_left k records (sweep.Reading left r)) × (length (ids_left (sweep_after k records left r sum)) ≤ length left)
read_falls k records left r sum apart fits = at_cpu (nat_lt (r.cpu + 1) k.cpus)
  where
    s : StandsAt k records left r
    s = stands_at k records left r apart fits

    behind : ℕ
    behind = tags_behind r.id left records

    end : ℕ
    end = end_of r.id records

    old : ℕ
    old = reads_left k records (sweep.Reading left r)

    -- the reads under the tags behind this one, and one read more
    room : k.cpus * behind + reads_behind k r.pass left records < old
    room = omega (arith, times_more k.cpus behind (behind + (end - r.tag)) (omega (arith, s.within)), s.cpu)

    through : Falls k records left r (passes_record r.pass left records r.id)
    through = (omega (arith, passes_at_most k r.pass records left r.id apart s.rises s.dead, room), omega (arith, ap length (left_passes_record r.pass left records r.id)))

    at_end : (b : Bool) → Falls k records left r (cond b (sweep.Reading left (record r { tag = r.tag + 1; cpu = 0; sum = 0 })) (passes_record r.pass left records r.id))
    at_end true = (omega (arith, times_more k.cpus (behind + (end - (r.tag + 1))) (behind + (end - r.tag)) (omega (arith, s.within)), s.cpu), omega arith)
    at_end false = through

    at_sum : (b : Bool) → Falls k records left r (cond b (passes_record r.pass (without_id r.id left) records r.id) (cond (nat_lt (r.tag + 1) (end_of r.id records)) (sweep.Reading left (record r { tag = r.tag + 1; cpu = 0; sum = 0 })) (passes_record r.pass left records r.id)))
    at_sum true =
        let fewer : (x : ℕ) → is_listed (without_id r.id left) x ≡ true → is_listed left x ≡ true = λ x h. (listed_without r.id left x h).0 in (
          omega (
            arith,
            room,
            passes_at_most k r.pass records (without_id r.id left) r.id apart (rises_without r.id 0 left s.rises) (dead_without r.id left records s.dead),
            mul-le-mul_left k.cpus (behind_fewer r.id (without_id r.id left) left records fewer),
            reads_fewer k r.pass (without_id r.id left) left records fewer,
          ),
          omega (arith, ap length (left_passes_record r.pass (without_id r.id left) records r.id), without_not_longer r.id left),
        )
    at_sum false = at_end (nat_lt (r.tag + 1) (end_of r.id records))

    at_cpu : (b : Bool) → Falls k records left r (cond b (sweep.Reading left (record r { cpu = r.cpu + 1; sum = sum }))
        (cond (not (sum == 0)) (passes_record r.pass (without_id r.id left) records r.id) (cond (nat_lt (r.tag + 1) (end_of r.id records)) (sweep.Reading left (record r { tag = r.tag + 1; cpu = 0; sum = 0 })) (passes_record r.pass left records r.id))))
    at_cpu true = (omega (arith, times_more k.cpus behind (behind + (end - r.tag)) (omega (arith, s.within)), s.cpu), omega arith)
    at_cpu false = at_sum (not (sum == 0))

-- ---- the rows

-- where ids rise, no id stands twice
pub rises_none : (low id : ℕ) (records : List Record) → id ≤ low → rises_from low (ids_of records) ≡ true → count_by (λ (r : Record). r.id == id) records ≡ 0
rises_none low id [] h e = refl
rises_none low id (r ∷ records) h e =
    let both = rises_cons low r.id (ids_of records) e in
    let here : cond {A = ℕ} (r.id == id) 1 0 ≡ 0 = cond-false (r.id == id) 1 0 (ne_eqb r.id id (λ same. omega (arith, both.0))) in
    omega (arith, sum_by-cons (λ (x : Record). cond {A = ℕ} (x.id == id) 1 0) r records, rises_none r.id id records (omega (arith, both.0)) both.1)

rises_one : (low id : ℕ) (records : List Record) → rises_from low (ids_of records) ≡ true → count_by (λ (r : Record). r.id == id) records ≤ 1
rises_one low id [] e = omega arith
rises_one low id (r ∷ records) e =
    let both = rises_cons low r.id (ids_of records) e in
    go (r.id == id) refl both.1 (rises_one r.id id records both.1) (sum_by-cons (λ (x : Record). cond {A = ℕ} (x.id == id) 1 0) r records)
  where
    go : (b : Bool) → (r.id == id) ≡ b → rises_from r.id (ids_of records) ≡ true → count_by (λ (x : Record). x.id == id) records ≤ 1
        → count_by (λ (x : Record). x.id == id) (r ∷ records) ≡ cond {A = ℕ} (r.id == id) 1 0 + count_by (λ (x : Record). x.id == id) records → count_by (λ (x : Record). x.id == id) (r ∷ records) ≤ 1
    go true is rest one sum = omega (arith, rises_none r.id id records (omega (arith, eqb-true r.id id is)) rest, cond-true {A = ℕ} (r.id == id) 1 0 is)
    go false is rest one sum = omega (arith, cond-false {A = ℕ} (r.id == id) 1 0 is)

pub rises_apart : (records : List Record) → rises_from 0 (ids_of records) ≡ true → Apart records
rises_apart records e = λ id. rises_one 0 id records e

-- a read
pub scans_fall : (k : Shape) (left : List ℕ) (r : Reader) (cpu : CpuPart) (old new : ListPart) → rises_from 0 (ids_of old.records) ≡ true → sweep_fits k old.sweep old.records ≡ true → Scans k left r cpu old new
    → (reads_left k new.records new.sweep < reads_left k old.records old.sweep) × (steps_left k new.records new.sweep < steps_left k old.records old.sweep)
scans_fall k left r cpu old new rises fits row =
    let falls = read_falls k old.records left r (sum_read cpu r) (rises_apart old.records rises) (subst (λ s. sweep_fits k s old.records ≡ true) row.reading fits) in
    subst (λ (l : ListPart). (reads_left k l.records l.sweep < reads_left k old.records old.sweep) × (steps_left k l.records l.sweep < steps_left k old.records old.sweep)) (sym row.after)
    (subst (λ s. (reads_left k old.records (sweep_after k old.records left r (sum_read cpu r)) < reads_left k old.records s) × (steps_left k old.records (sweep_after k old.records left r (sum_read cpu r)) < steps_left k old.records s)) (sym row.reading)
    (falls.0, omega (arith, falls.0, falls.1)))

-- a release
pub releases_fall : (k : Shape) (left : List ℕ) (id : ℕ) (old new : ListPart) → Releases left id old new → steps_left k new.records new.sweep < steps_left k old.records old.sweep
releases_fall k left id old new row =
    subst (λ (l : ListPart). steps_left k l.records l.sweep < steps_left k old.records old.sweep) (sym row.after)
    (subst (λ s. 0 + length (without_id id left) < steps_left k old.records s) (sym row.done) (omega (arith, without_shorter id left row.listed)))

-- a sweep of all dead records that begins
pub sweeps_at_most : (k : Shape) (old new : ListPart) → rises_from 0 (ids_of old.records) ≡ true → Sweeps old new → reads_left k new.records new.sweep ≤ 2 * k.cpus * tags_of (dead_ids old.records) old.records
sweeps_at_most k old new rises row =
    let ids = dead_ids old.records in
    subst (λ (l : ListPart). reads_left k l.records l.sweep ≤ 2 * k.cpus * tags_of ids old.records) (sym row.after)
    (omega (arith, begins_at_most k Bytes old.records ids (rises_apart old.records rises) (dead_are_dead old.records), mul_assoc 2 k.cpus (tags_of ids old.records)))

-- it has all the dead on its list
pub sweeps_list_all : (old new : ListPart) → Sweeps old new → ids_left new.sweep ≡ dead_ids old.records
sweeps_list_all old new row = ap (λ (l : ListPart). ids_left l.sweep) row.after ∙ left_begins_pass Bytes (dead_ids old.records) old.records

-- the tags of one record
pub tags_of_one : (records : List Record) (id : ℕ) (f : HasId id records) → Apart records → tags_of (id ∷ []) records ≤ f.item.length
tags_of_one records id f apart =
    let one = subst (λ xs. count_by (λ (x : Record). x.id == id) xs ≤ 1) f.is (apart id) in
    let field = subst (λ xs. sum_by (λ (x : Record). if x.id == id then x.length else 0) xs ≡ f.item.length) (sym f.is) (field_here (λ (x : Record). x.length) f.front f.item f.back id (same_id id records f) one) in
    omega (arith, field, sum_by-le-sum_by (λ (x : Record). if is_listed (id ∷ []) x.id then x.length else 0) (λ (x : Record). if x.id == id then x.length else 0) records (λ x. less_if (is_listed (id ∷ []) x.id) (x.id == id) x.length (alone x)))
  where
    alone : (x : Record) → is_listed (id ∷ []) x.id ≡ true → (x.id == id) ≡ true
    alone x e = elim (listed_cons id [] x.id e) [ inl is ↦ eq-eqb x.id id (sym is) | inr none ↦ absurd (false≢true none) ]

-- a sweep of one record that is marked dead
pub marks_at_most : (k : Shape) (old new : ListPart) → rises_from 0 (ids_of old.records) ≡ true → (row : MarksDead old new) → reads_left k new.records new.sweep ≤ 2 * k.cpus * row.entry.length
marks_at_most k old new rises row =
    let dead : Record = record row.entry { dead = true } in
    let records = row.front ++ dead ∷ row.back in
    let rise : rises_from 0 (ids_of records) ≡ true = subst (λ ids. rises_from 0 ids ≡ true) (sym (ids_swap row.front row.entry dead row.back refl)) (subst (λ rs. rises_from 0 (ids_of rs) ≡ true) row.there rises) in
    let f : HasId row.entry.id records = record { front = row.front; item = dead; back = row.back; is = refl; passes = eq-eqb row.entry.id row.entry.id refl } in
    let marked : are_dead (row.entry.id ∷ []) records ≡ true = and_from _ _ (any_at (λ (r : Record). (r.id == row.entry.id) && r.dead) row.front dead row.back (and_from _ _ (eq-eqb row.entry.id row.entry.id refl) refl)) refl in
    let tags = mul-le-mul_left k.cpus (tags_of_one records row.entry.id f (rises_apart records rise)) in
    subst (λ (l : ListPart). reads_left k l.records l.sweep ≤ 2 * k.cpus * row.entry.length) (sym row.after)
    (omega (arith, begins_at_most k Bytes records (row.entry.id ∷ []) (rises_apart records rise) marked, tags, mul_assoc 2 k.cpus row.entry.length))

-- a sweep of all that begins where one is dead reads
some_dead : (records : List Record) → list_any (λ (r : Record). r.dead) records ≡ true → is_reading Bytes (Modules (record { records = records; sweep = begins_pass Bytes (dead_ids records) records; stops = []; reads = 0; away = [] })) ≡ 1
some_dead records e = go (dead_ids records) (first records e)
  where
    first : (rs : List Record) → list_any (λ (r : Record). r.dead) rs ≡ true → 0 < length (dead_ids rs)
    first [] e = absurd (false≢true e)
    first (r ∷ rs) e = at (cases_Bool r.dead) (λ later. first rs later)
      where
        at : (r.dead ≡ true) ⊎ (r.dead ≡ false) → (list_any (λ (x : Record). x.dead) rs ≡ true → 0 < length (dead_ids rs)) → 0 < length (dead_ids (r ∷ rs))
        at (inl is) later = rw is (omega arith)
        at (inr is) later = rw is (later (rw is at e))

    go : (ids : List ℕ) → 0 < length ids → is_reading Bytes (Modules (record { records = records; sweep = begins_pass Bytes ids records; stops = []; reads = 0; away = [] })) ≡ 1
    go [] h = absurd (omega arith)
    go (id ∷ ids) h = refl

pub sweeps_read : (old new : ListPart) → Sweeps old new → list_any (λ (r : Record). r.dead) old.records ≡ true → is_reading Bytes (Modules new) ≡ 1
sweeps_read old new row e = ap (λ (l : ListPart). is_reading Bytes (Modules l)) row.after ∙ some_dead old.records e
