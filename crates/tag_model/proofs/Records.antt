-- Lists of records where one changes, joins or goes: what counts and tests over them then say.
use Rattle.std.proofs.Common.{◌≡◌, ℕ, ◌<◌, ◌≤◌, ◌==◌, ◌&&◌, ◌||◌, ◌⊎◌, nat_lt, List, [], ◌∷◌, ◌++◌, map, sum_by, count_by, filter, refl, sym, ap, ◌∙◌, subst, inl, inr, arith, Bool, true, false, cond, eq-eqb, lt-ltb, if◌then◌else◌}
use Rattle.std.specs.List.{list_any, list_all}
use Rattle.std.proofs.lemmas.Bool.{and_parts, and_from, or_left, or_right, false≢true, cases_lt}
use Rattle.std.proofs.lemmas.List.Sums.{sum_by-cons, sum_by-le-sum_by}
use Rattle.std.proofs.lemmas.List.Folds.{list_any-append, list_all-append}
use Rattle.tag_model.specs.declared.shape.Shape.{Shape}
use Rattle.tag_model.specs.declared.state.Kind.{Kind}
use Rattle.tag_model.specs.declared.state.Kind.TheVariants.{Bytes, Calls}
use Rattle.tag_model.specs.declared.state.Part.{Part}
use Rattle.tag_model.specs.declared.state.Part.TheVariants.{Cpu, Place, Modules, NextId}
use Rattle.tag_model.specs.declared.state.Reader.{Reader}
use Rattle.tag_model.specs.declared.state.Record.{Record}
use Rattle.tag_model.specs.declared.state.Run.{Run}
use Rattle.tag_model.specs.declared.state.Sweep.{Sweep}
use Rattle.tag_model.specs.declared.state.Sweep.TheVariants as sweep
use Rattle.tag_model.specs.Laws.{OneOfEach, same_run, is_listed, covers_listed, covers_read, is_calls, has_cleared, are_dead, rises_from, ids_of}
use Rattle.tag_model.specs.StepRules.{Becomes, dead_ids}
use Rattle.tag_model.specs.WordState.{in_range, runs_with, is_cpu, is_place, is_place_at, is_list, is_pass}
use Rattle.tag_model.proofs.Found.{found, sum_at, any_at, count_at, count_more}
use Rattle.tag_model.proofs.Ids.{rises_cons, rises_lower}
use Rattle.tag_model.proofs.Parts.{becomes_same}
use Rattle.tag_model.proofs.Passes.{SweepOk}
use Rattle.tag_model.proofs.ScanRow.{reading_fits, reading_fits_from}
use Rattle.tag_model.proofs.Swept.{same_run_refl}

-- ---- parts that keep the number of each kind

pub record SameEach (v w : List Part) : Type 0 where
  pub cpus : (n : ℕ) → sum_by (is_cpu n) v ≡ sum_by (is_cpu n) w
  pub list : sum_by is_list v ≡ sum_by is_list w
  pub pass : sum_by is_pass v ≡ sum_by is_pass w
  pub places : (n : ℕ) → sum_by (is_place_at n) v ≡ sum_by (is_place_at n) w
  pub few_places : sum_by is_place v ≡ sum_by is_place w

pub each_after : (k : Shape) (v w ps qs : List Part) → SameEach v w → Becomes v w ps qs → OneOfEach k ps → OneOfEach k qs
each_after k v w ps qs s b e = record {
  cpus = λ n h. omega (arith, becomes_same (is_cpu n) v w ps qs b (s.cpus n), e.cpus n h);
  list = omega (arith, becomes_same is_list v w ps qs b s.list, e.list);
  pass = omega (arith, becomes_same is_pass v w ps qs b s.pass, e.pass);
  places = λ n. omega (arith, becomes_same (is_place_at n) v w ps qs b (s.places n), e.places n);
  few_places = omega (arith, becomes_same is_place v w ps qs b s.few_places, e.few_places);
}

-- ---- one element changes

pub sum_swap : {X : Type 0} (f : X → ℕ) (front : List X) (x y : X) (back : List X) → f y ≡ f x → sum_by f (front ++ y ∷ back) ≡ sum_by f (front ++ x ∷ back)
sum_swap f front x y back e = omega (arith, sum_at f front x back, sum_at f front y back)

pub count_swap : {X : Type 0} (p : X → Bool) (front : List X) (x y : X) (back : List X) → p y ≡ p x → count_by p (front ++ y ∷ back) ≡ count_by p (front ++ x ∷ back)
count_swap {X} p front x y back e = sum_swap (λ (z : X). cond {A = ℕ} (p z) 1 0) front x y back (ap (λ b. cond {A = ℕ} b 1 0) e)

pub any_swap : {X : Type 0} (p : X → Bool) (front : List X) (x y : X) (back : List X) → p y ≡ p x → list_any p (front ++ y ∷ back) ≡ list_any p (front ++ x ∷ back)
any_swap p front x y back e = list_any-append p front (y ∷ back) ∙ (ap (λ b. list_any p front || (b || list_any p back)) e ∙ sym (list_any-append p front (x ∷ back)))

pub all_swap : {X : Type 0} (p : X → Bool) (front : List X) (x y : X) (back : List X) → p y ≡ p x → list_all p (front ++ y ∷ back) ≡ list_all p (front ++ x ∷ back)
all_swap p front x y back e = list_all-append p front (y ∷ back) ∙ (ap (λ b. list_all p front && (b && list_all p back)) e ∙ sym (list_all-append p front (x ∷ back)))

pub ids_swap : (front : List Record) (r s : Record) (back : List Record) → s.id ≡ r.id → ids_of (front ++ s ∷ back) ≡ ids_of (front ++ r ∷ back)
ids_swap [] r s back e = ap (λ id. id ∷ ids_of back) e
ids_swap (x ∷ front) r s back e = ap (λ ids. x.id ∷ ids) (ids_swap front r s back e)

pub all_weaker : {X : Type 0} (p q : X → Bool) (xs : List X) → ((x : X) → p x ≡ true → q x ≡ true) → list_all p xs ≡ true → list_all q xs ≡ true
all_weaker p q [] h e = refl
all_weaker p q (x ∷ xs) h e = let both = and_parts (p x) (list_all p xs) e in and_from _ _ (h x both.0) (all_weaker p q xs h both.1)

-- the same, of elements that stand on the list
pub all_weaker_listed : (p q : ℕ → Bool) (ids : List ℕ) → ((x : ℕ) → is_listed ids x ≡ true → p x ≡ true → q x ≡ true) → list_all p ids ≡ true → list_all q ids ≡ true
all_weaker_listed p q [] h e = refl
all_weaker_listed p q (x ∷ xs) h e =
    let both = and_parts (p x) (list_all p xs) e in
    and_from _ _ (h x (or_left _ _ (eq-eqb x x refl)) both.0) (all_weaker_listed p q xs (λ y listed. h y (or_right _ _ listed)) both.1)

-- ---- dead records

pub rises_dead : (low : ℕ) (records : List Record) → rises_from low (ids_of records) ≡ true → rises_from low (dead_ids records) ≡ true
rises_dead low [] e = refl
rises_dead low (r ∷ records) e =
    let both = rises_cons low r.id (ids_of records) e in
    go r.dead both.0 (rises_dead r.id records both.1)
  where
    go : (b : Bool) → low < r.id → rises_from r.id (dead_ids records) ≡ true → rises_from low (map (λ (x : Record). x.id) (cond b (r ∷ filter (λ (x : Record). x.dead) records) (filter (λ (x : Record). x.dead) records))) ≡ true
    go true here rest = and_from _ _ (lt-ltb low r.id here) rest
    go false here rest = rises_lower low r.id (dead_ids records) (omega arith) rest

pub dead_are_dead : (records : List Record) → are_dead (dead_ids records) records ≡ true
dead_are_dead [] = refl
dead_are_dead (r ∷ records) = go r.dead refl (all_weaker (λ id. list_any (λ (x : Record). (x.id == id) && x.dead) records) (λ id. list_any (λ (x : Record). (x.id == id) && x.dead) (r ∷ records)) (dead_ids records) (λ id e. or_right _ _ e) (dead_are_dead records))
  where
    go : (b : Bool) → r.dead ≡ b → are_dead (dead_ids records) (r ∷ records) ≡ true → are_dead (map (λ (x : Record). x.id) (cond b (r ∷ filter (λ (x : Record). x.dead) records) (filter (λ (x : Record). x.dead) records))) (r ∷ records) ≡ true
    go true is rest = and_from _ _ (or_left _ _ (and_from _ _ (eq-eqb r.id r.id refl) is)) rest
    go false is rest = rest

-- ---- a sweep's list over records that change

pub record SweepMoves (left : List ℕ) (records after : List Record) : Type 0 where
  pub dead : (id : ℕ) → is_listed left id ≡ true → list_any (λ (r : Record). (r.id == id) && r.dead) records ≡ true → list_any (λ (r : Record). (r.id == id) && r.dead) after ≡ true
  pub ranged : (id t : ℕ) → is_listed left id ≡ true → list_any (λ (r : Record). (r.id == id) && in_range r.start r.length t) records ≡ true → list_any (λ (r : Record). (r.id == id) && in_range r.start r.length t) after ≡ true
  pub covers : (t : ℕ) → covers_listed left t after ≡ true → covers_listed left t records ≡ true
  pub reads : (reader : Reader) (t : ℕ) → covers_read left reader t after ≡ true → covers_read left reader t records ≡ true

cleared_moves : (s : Sweep) (left : List ℕ) (records after : List Record) → ((t : ℕ) → covers_listed left t after ≡ true → covers_listed left t records ≡ true)
    → ((reader : Reader) (t : ℕ) → covers_read left reader t after ≡ true → covers_read left reader t records ≡ true)
    → (reader : Reader) (kind : Kind) (t : ℕ) → has_cleared (sweep.Reading left reader) kind t after ≡ true → has_cleared (sweep.Reading left reader) kind t records ≡ true
cleared_moves s left records after covers reads reader Calls t e = let both = and_parts (is_calls reader.pass) (covers_read left reader t after) e in and_from _ _ both.0 (reads reader t both.1)
cleared_moves s left records after covers reads reader Bytes t e = go (is_calls reader.pass) e
  where
    go : (b : Bool) → (if b then covers_listed left t after else covers_read left reader t after) ≡ true → (if b then covers_listed left t records else covers_read left reader t records) ≡ true
    go true e = covers t e
    go false e = reads reader t e

pub sweep_moves : (k : Shape) (s : Sweep) (records after : List Record) (ps : List Part) → ((left : List ℕ) → rises_from 0 left ≡ true → are_dead left records ≡ true → SweepMoves left records after) → SweepOk k s records ps → SweepOk k s after ps
sweep_moves k sweep.None records after ps m ok = record { fits = refl; reading = tt; cleared = λ kind t e. absurd (false≢true e) }
sweep_moves k (sweep.Done left) records after ps m ok =
    let both = and_parts (rises_from 0 left) (are_dead left records) ok.fits in
    let moves = m left both.0 both.1 in
    record {
      fits = and_from _ _ both.0 (all_weaker_listed (λ id. list_any (λ (r : Record). (r.id == id) && r.dead) records) (λ id. list_any (λ (r : Record). (r.id == id) && r.dead) after) left moves.dead both.1);
      reading = tt;
      cleared = λ kind t e. ok.cleared kind t (moves.covers t e);
    }
sweep_moves k (sweep.Reading left reader) records after ps m ok =
    let fit = reading_fits k left reader records ok.fits in
    let moves = m left fit.rises fit.dead in
    let there : list_any (λ (x : Record). (x.id == reader.id) && in_range x.start x.length reader.tag) records ≡ true =
    subst (λ xs. list_any (λ (x : Record). (x.id == reader.id) && in_range x.start x.length reader.tag) xs ≡ true) (sym fit.at.is) (any_at (λ (x : Record). (x.id == reader.id) && in_range x.start x.length reader.tag) fit.at.front fit.at.item fit.at.back fit.at.passes) in
    record {
      fits = reading_fits_from k left reader after fit.rises
          (all_weaker_listed (λ id. list_any (λ (r : Record). (r.id == id) && r.dead) records) (λ id. list_any (λ (r : Record). (r.id == id) && r.dead) after) left moves.dead fit.dead)
          fit.listed (moves.ranged reader.id reader.tag fit.listed there) fit.cpu;
      reading = ok.reading;
      cleared = λ kind t e. ok.cleared kind t (cleared_moves (sweep.Reading left reader) left records after moves.covers moves.reads reader kind t e);
    }

-- the users of a record may change
pub moves_users : (left : List ℕ) (front : List Record) (r : Record) (back : List Record) (users : ℕ) → SweepMoves left (front ++ r ∷ back) (front ++ record r { users = users } ∷ back)
moves_users left front r back users =
    let s : Record = record r { users = users } in
    record {
      dead = λ id listed e. any_swap (λ (x : Record). (x.id == id) && x.dead) front r s back refl ∙ e;
      ranged = λ id t listed e. any_swap (λ (x : Record). (x.id == id) && in_range x.start x.length t) front r s back refl ∙ e;
      covers = λ t e. sym (any_swap (λ (x : Record). is_listed left x.id && in_range x.start x.length t) front r s back refl) ∙ e;
      reads = λ reader t e. sym (any_swap (λ (x : Record). is_listed left x.id && in_range x.start x.length t && (nat_lt x.id reader.id || ((x.id == reader.id) && nat_lt t reader.tag))) front r s back refl) ∙ e;
    }

-- ---- runs

runs_more_at : (p q : Run → Bool) → ((r : Run) → p r ≡ true → q r ≡ true) → (part : Part) → runs_with p part ≤ runs_with q part
runs_more_at p q h (Cpu c) = count_more p q c.runs h
runs_more_at p q h (Place n held) = omega arith
runs_more_at p q h (Modules l) = count_more p q l.away h
runs_more_at p q h (NextId id) = omega arith

pub runs_more : (p q : Run → Bool) (ps : List Part) → ((r : Run) → p r ≡ true → q r ≡ true) → sum_by (runs_with p) ps ≤ sum_by (runs_with q) ps
runs_more p q ps h = sum_by-le-sum_by (runs_with p) (runs_with q) ps (runs_more_at p q h)

-- where some run passes a test, there is one
pub record SomeRun (test : Run → Bool) (ps : List Part) : Type 0 where
  pub run : Run
  pub passes : test run ≡ true
  pub there : 0 < sum_by (runs_with (same_run run)) ps

run_found : (test : Run → Bool) (runs : List Run) → 0 < count_by test runs → (run : Run) × (test run ≡ true) × (0 < count_by (same_run run) runs)
run_found test runs h =
    let f = found test runs h in
    (f.item, f.passes, subst (λ xs. 0 < count_by (same_run f.item) xs) (sym f.is) (count_at (same_run f.item) f.front f.item f.back (same_run_refl f.item)))

run_here : (test : Run → Bool) (part : Part) → 0 < runs_with test part → (run : Run) × (test run ≡ true) × (0 < runs_with (same_run run) part)
run_here test (Cpu c) h = run_found test c.runs h
run_here test (Place n held) h = absurd (omega arith)
run_here test (Modules l) h = run_found test l.away h
run_here test (NextId id) h = absurd (omega arith)

pub some_run : (test : Run → Bool) (ps : List Part) → 0 < sum_by (runs_with test) ps → SomeRun test ps
some_run test [] h = absurd (omega arith)
some_run test (p ∷ ps) h = go (cases_lt 0 (runs_with test p)) (λ later. some_run test ps later)
  where
    go : (0 < runs_with test p) ⊎ (runs_with test p ≤ 0) → (0 < sum_by (runs_with test) ps → SomeRun test ps) → SomeRun test (p ∷ ps)
    go (inl here) later = let r = run_here test p here in record { run = r.0; passes = r.1; there = omega (arith, sum_by-cons (runs_with (same_run r.0)) p ps, r.2) }
    go (inr none) later = let r = later (omega (arith, sum_by-cons (runs_with test) p ps)) in record { run = r.run; passes = r.passes; there = omega (arith, sum_by-cons (runs_with (same_run r.run)) p ps, r.there) }
