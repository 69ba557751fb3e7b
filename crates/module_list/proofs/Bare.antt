-- What is kept at run time, the list without its users, goes along with each change of the list.
use Rattle.std.proofs.Common.{◌≡◌, ℕ, ◌+◌, ◌==◌, ◌||◌, ◌&&◌, nat_lt, List, [], ◌∷◌, ◌++◌, map, filter, find, sum_by, Option, None, Some, refl, sym, ap, ◌∙◌, arith, Bool, true, false, not, cond, if◌then◌else◌}
use Rattle.std.specs.List.{list_any}
use Rattle.std.proofs.lemmas.List.{map-append}
use Rattle.std.proofs.lemmas.List.Sums.{sum_by-cons}
use Rattle.tag_model.specs.declared.shape.Shape.{Shape}
use Rattle.tag_model.specs.declared.state.Kind.{Kind}
use Rattle.tag_model.specs.declared.state.Kind.TheVariants.{Bytes, Calls}
use Rattle.tag_model.specs.declared.state.Reader.{Reader}
use Rattle.tag_model.specs.declared.state.Record.{Record}
use Rattle.tag_model.specs.declared.state.Sweep.{Sweep}
use Rattle.tag_model.specs.declared.state.Sweep.TheVariants as sweep
use Rattle.tag_model.specs.Laws.{are_dead, is_listed, rises_from, sweep_fits}
use Rattle.tag_model.specs.WordState.{in_range}
use Rattle.tag_model.specs.StepRules.{after_pass, begins_pass, dead_ids, end_of, goes_on, passes_record, start_of, stop_after, sweep_after, without_id}
use Rattle.module_list.specs.Listing.{Listing, bare, bare_record, dead_record, entered, entered_record, left, left_record, loaded, marked_dead, read_to, read_to_at, released, released_at, scanned, scanned_at, sum_read, swept, with_record}

-- ---- sums and filters over the bare records

sum_bare : (f : Record → ℕ) (records : List Record) → ((r : Record) → f (bare_record r) ≡ f r) → sum_by f (map bare_record records) ≡ sum_by f records
sum_bare f [] same = refl
sum_bare f (r ∷ records) same = omega (arith, sum_by-cons f (bare_record r) (map bare_record records), sum_by-cons f r records, same r, sum_bare f records same)

filter_bare : (p : Record → Bool) (records : List Record) → ((r : Record) → p (bare_record r) ≡ p r) → filter p (map bare_record records) ≡ map bare_record (filter p records)
filter_bare p [] same = refl
filter_bare p (r ∷ records) same = ap (λ b. cond b (bare_record r ∷ filter p (map bare_record records)) (filter p (map bare_record records))) (same r) ∙ go (p r) (filter_bare p records same)
  where
    go : (b : Bool) → filter p (map bare_record records) ≡ map bare_record (filter p records) → cond b (bare_record r ∷ filter p (map bare_record records)) (filter p (map bare_record records)) ≡ map bare_record (cond b (r ∷ filter p records) (filter p records))
    go true e = ap (λ rs. bare_record r ∷ rs) e
    go false e = e

-- a change of each record, and what it is without the users
map_bare : (f g : Record → Record) (records : List Record) → ((r : Record) → bare_record (f r) ≡ g (bare_record r)) → map bare_record (map f records) ≡ map g (map bare_record records)
map_bare f g [] same = refl
map_bare f g (r ∷ records) same = ap (λ rs. bare_record (f r) ∷ rs) (map_bare f g records same) ∙ ap (λ x. x ∷ map g (map bare_record records)) (same r)

with_bare : (id : ℕ) (change : Record → Record) (records : List Record) → ((r : Record) → bare_record (change r) ≡ change (bare_record r)) → map bare_record (with_record id change records) ≡ with_record id change (map bare_record records)
with_bare id change records same = map_bare (λ r. if r.id == id then change r else r) (λ r. if r.id == id then change r else r) records (λ r. go r (r.id == id))
  where
    go : (r : Record) (b : Bool) → bare_record (if b then change r else r) ≡ (if b then change (bare_record r) else bare_record r)
    go r true = same r
    go r false = refl

-- a change that only the users see
users_bare : (id : ℕ) (change : Record → Record) (records : List Record) → ((r : Record) → bare_record (change r) ≡ bare_record r) → map bare_record (with_record id change records) ≡ map bare_record records
users_bare id change [] same = refl
users_bare id change (r ∷ records) same = ap (λ rs. bare_record (if r.id == id then change r else r) ∷ rs) (users_bare id change records same) ∙ ap (λ x. x ∷ map bare_record records) (go (r.id == id))
  where
    go : (b : Bool) → bare_record (if b then change r else r) ≡ bare_record r
    go true = same r
    go false = refl

pub dead_bare : (records : List Record) → dead_ids (map bare_record records) ≡ dead_ids records
dead_bare [] = refl
dead_bare (r ∷ records) = go r.dead (dead_bare records)
  where
    go : (b : Bool) → dead_ids (map bare_record records) ≡ dead_ids records
        → map (λ (x : Record). x.id) (cond b (bare_record r ∷ filter (λ (x : Record). x.dead) (map bare_record records)) (filter (λ (x : Record). x.dead) (map bare_record records))) ≡ map (λ (x : Record). x.id) (cond b (r ∷ filter (λ (x : Record). x.dead) records) (filter (λ (x : Record). x.dead) records))
    go true e = ap (λ ids. r.id ∷ ids) e
    go false e = e

-- ---- a sweep over the bare records

start_bare : (id : ℕ) (records : List Record) → start_of id (map bare_record records) ≡ start_of id records
start_bare id records = sum_bare (λ (r : Record). if r.id == id then r.start else 0) records (λ r. refl)

end_bare : (id : ℕ) (records : List Record) → end_of id (map bare_record records) ≡ end_of id records
end_bare id records = sum_bare (λ (r : Record). if r.id == id then r.start + r.length else 0) records (λ r. refl)

reading_from : Kind → List ℕ → ℕ → ℕ → Sweep
reading_from pass left id tag = sweep.Reading left (record { pass = pass; id = id; tag = tag; cpu = 0; sum = 0 })

begins_bare : (pass : Kind) (left : List ℕ) (records : List Record) → begins_pass pass left (map bare_record records) ≡ begins_pass pass left records
unfolding reading_from
begins_bare pass [] records = refl
begins_bare pass (id ∷ left) records = ap (reading_from pass (id ∷ left) id) (start_bare id records)

after_bare : (pass : Kind) (left : List ℕ) (records : List Record) → after_pass pass left (map bare_record records) ≡ after_pass pass left records
after_bare pass [] records = refl
after_bare Bytes (id ∷ left) records = begins_bare Calls (id ∷ left) records
after_bare Calls (id ∷ left) records = refl

passes_bare : (pass : Kind) (left : List ℕ) (records : List Record) (id : ℕ) → passes_record pass left (map bare_record records) id ≡ passes_record pass left records id
unfolding reading_from
passes_bare pass left records id = go (find (nat_lt id) left)
  where
    go : (o : Option ℕ) → goes_on o pass left (map bare_record records) ≡ goes_on o pass left records
    go None = after_bare pass left records
    go (Some next) = ap (reading_from pass left next) (start_bare next records)

after_read_bare : (k : Shape) (records : List Record) (left : List ℕ) (r : Reader) (sum : ℕ) → sweep_after k (map bare_record records) left r sum ≡ sweep_after k records left r sum
after_read_bare k records left r sum =
    rw (passes_bare r.pass (without_id r.id left) records r.id, passes_bare r.pass left records r.id, end_bare r.id records) refl

-- ---- the changes

pub bare_loaded : (l : Listing) (id section start size : ℕ) → bare (loaded id section start size l) ≡ loaded id section start size (bare l)
bare_loaded l id section start size =
    let fresh : Record = record { id = id; section = section; start = start; length = size; dead = false; users = 0 } in
    ap (λ rs. let x : Listing = record { records = rs; sweep = l.sweep; stops = l.stops } in x) (map-append bare_record l.records (fresh ∷ []))

pub bare_entered : (l : Listing) (id : ℕ) → bare (entered id l) ≡ bare l
bare_entered l id = ap (λ rs. let x : Listing = record { records = rs; sweep = l.sweep; stops = l.stops } in x) (users_bare id entered_record l.records (λ r. refl))

pub bare_left : (l : Listing) (id : ℕ) → bare (left id l) ≡ bare l
bare_left l id = ap (λ rs. let x : Listing = record { records = rs; sweep = l.sweep; stops = l.stops } in x) (users_bare id left_record l.records (λ r. refl))

pub bare_marked_dead : (l : Listing) (id : ℕ) → bare (marked_dead id l) ≡ marked_dead id (bare l)
bare_marked_dead l id =
    let of : List Record → Sweep → Listing = λ rs s. record { records = rs; sweep = s; stops = [] } in
    let same = with_bare id dead_record l.records (λ r. refl) in
    ap (of (map bare_record (with_record id dead_record l.records))) (sym (begins_bare Bytes (id ∷ []) (with_record id dead_record l.records))) ∙ ap (λ rs. of rs (begins_pass Bytes (id ∷ []) rs)) same

pub bare_swept : (l : Listing) → bare (swept l) ≡ swept (bare l)
bare_swept l =
    let of : Sweep → Listing = λ s. record { records = map bare_record l.records; sweep = s; stops = [] } in
    ap of (sym (begins_bare Bytes (dead_ids l.records) l.records)) ∙ ap (λ ids. of (begins_pass Bytes ids (map bare_record l.records))) (sym (dead_bare l.records))

pub bare_scanned : (k : Shape) (word : ℕ) (l : Listing) → bare (scanned k word l) ≡ scanned k word (bare l)
bare_scanned k word l = go l.sweep
  where
    go : (s : Sweep) → bare (scanned_at k word l s) ≡ scanned_at k word (bare l) s
    go sweep.None = refl
    go (sweep.Done left) = refl
    go (sweep.Reading left r) =
        let of : Sweep → Listing = λ s. record { records = map bare_record l.records; sweep = s; stops = l.stops ++ stop_after k r (sum_read r word) } in
        ap of (sym (after_read_bare k l.records left r (sum_read r word)))

pub bare_read_to : (cpu sum : ℕ) (l : Listing) → bare (read_to cpu sum l) ≡ read_to cpu sum (bare l)
bare_read_to cpu sum l = go l.sweep
  where
    go : (s : Sweep) → bare (read_to_at cpu sum l s) ≡ read_to_at cpu sum (bare l) s
    go sweep.None = refl
    go (sweep.Done left) = refl
    go (sweep.Reading left r) = refl

pub bare_released : (l : Listing) (id : ℕ) → bare (released id l) ≡ released id (bare l)
bare_released l id = go l.sweep
  where
    go : (s : Sweep) → bare (released_at id l s) ≡ released_at id (bare l) s
    go sweep.None = refl
    go (sweep.Reading left r) = refl
    go (sweep.Done left) =
        ap (λ rs. let x : Listing = record { records = rs; sweep = sweep.Done (without_id id left); stops = l.stops } in x) (sym (filter_bare (λ (r : Record). not (r.id == id)) l.records (λ r. refl)))

-- ---- a sweep fits the bare records where it fits the list

any_bare : (p : Record → Bool) (records : List Record) → ((r : Record) → p (bare_record r) ≡ p r) → list_any p (map bare_record records) ≡ list_any p records
any_bare p [] same = refl
any_bare p (r ∷ records) same = ap (λ b. b || list_any p (map bare_record records)) (same r) ∙ ap (λ b. p r || b) (any_bare p records same)

dead_left_bare : (left : List ℕ) (records : List Record) → are_dead left (map bare_record records) ≡ are_dead left records
dead_left_bare [] records = refl
dead_left_bare (id ∷ left) records =
    ap (λ b. b && are_dead left (map bare_record records)) (any_bare (λ (r : Record). (r.id == id) && r.dead) records (λ r. refl)) ∙ ap (λ b. list_any (λ (r : Record). (r.id == id) && r.dead) records && b) (dead_left_bare left records)

pub fits_bare : (k : Shape) (s : Sweep) (records : List Record) → sweep_fits k s (map bare_record records) ≡ sweep_fits k s records
fits_bare k sweep.None records = refl
fits_bare k (sweep.Done left) records = ap (λ b. rises_from 0 left && b) (dead_left_bare left records)
fits_bare k (sweep.Reading left reader) records =
    ap (λ b. rises_from 0 left && b && is_listed left reader.id && list_any (λ (r : Record). (r.id == reader.id) && in_range r.start r.length reader.tag) (map bare_record records) && nat_lt reader.cpu k.cpus) (dead_left_bare left records)
    ∙ ap (λ b. rises_from 0 left && are_dead left records && is_listed left reader.id && b && nat_lt reader.cpu k.cpus) (any_bare (λ (r : Record). (r.id == reader.id) && in_range r.start r.length reader.tag) records (λ r. refl))
