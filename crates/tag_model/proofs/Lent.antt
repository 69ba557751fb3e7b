-- The parts of a state: the CPU of a number, the module list, the right to give the next id; and what is left beside them all.
use Rattle.std.proofs.Common.{◌≡◌, ℕ, ◌+◌, ◌<◌, ◌≤◌, ◌==◌, ◌⊎◌, List, [], ◌∷◌, ◌++◌, sum_by, refl, inl, inr, arith, true, false, eqb-true, eq-eqb, ltb-true, nat_le, nat_lt, leb-true, count_by, not}
use Rattle.std.proofs.lemmas.Bool.{cases_Bool}
use Rattle.std.proofs.lemmas.List.Sums.{sum_by-cons, sum_by-append}
use Rattle.tag_model.specs.declared.shape.Shape.{Shape}
use Rattle.tag_model.specs.declared.state.Held.{Held}
use Rattle.tag_model.specs.declared.state.ListPart.{ListPart}
use Rattle.tag_model.specs.declared.state.Run.{Run}
use Rattle.tag_model.specs.declared.state.Part.{Part}
use Rattle.tag_model.specs.declared.state.Part.TheVariants.{Cpu, Place, Modules, NextId}
use Rattle.tag_model.specs.Laws.{Safe, runs_of_cpu}
use Rattle.tag_model.specs.StepRules.{Becomes, Stands}
use Rattle.tag_model.specs.Telling.{AreAllLent, CpuOf, ListOf, PassOf}
use Rattle.tag_model.specs.WordState.{one_if, Every, is_cpu, is_list, is_pass, next_id, part_fits, runs_with}
use Rattle.tag_model.proofs.Bounds.{every_first, every_rest, few_cpus, some_cpu}
use Rattle.tag_model.proofs.CpuFits.{cpu_fits_means}
use Rattle.tag_model.proofs.Found.{none_fails}
use Rattle.tag_model.proofs.ListRows.{OneList, list_alone, one_before}
use Rattle.tag_model.proofs.Parts.{IsOfList, standing}

-- ---- parts that stand

-- parts that stand together stand alone
pub stand_front : (v w ps : List Part) → Stands (v ++ w) ps → Stands v ps
stand_front v w ps s = record { rest = s.rest ++ w; among = λ f. omega (arith, s.among f, sum_by-append f v w, sum_by-append f s.rest w) }

pub stand_back : (v w ps : List Part) → Stands (v ++ w) ps → Stands w ps
stand_back v w ps s = record { rest = s.rest ++ v; among = λ f. omega (arith, s.among f, sum_by-append f v w, sum_by-append f s.rest v) }

-- parts that stay beside a step may be left out
pub beside_behind : (v w more old new : List Part) → Becomes (v ++ more) (w ++ more) old new → Becomes v w old new
beside_behind v w more old new b = record {
  rest = b.rest ++ more;
  before = λ f. omega (arith, b.before f, sum_by-append f v more, sum_by-append f b.rest more);
  after = λ f. omega (arith, b.after f, sum_by-append f w more, sum_by-append f b.rest more);
}

pub beside_before : (v w more old new : List Part) → Becomes (more ++ v) (more ++ w) old new → Becomes v w old new
beside_before v w more old new b = record {
  rest = b.rest ++ more;
  before = λ f. omega (arith, b.before f, sum_by-append f more v, sum_by-append f b.rest more);
  after = λ f. omega (arith, b.after f, sum_by-append f more w, sum_by-append f b.rest more);
}

stand_first : (p : Part) (ps : List Part) → Stands (p ∷ []) (p ∷ ps)
stand_first p ps = record { rest = ps; among = λ f. omega (arith, sum_by-cons f p ps) }

stand_more : (p : Part) (v ps : List Part) → Stands v ps → Stands v (p ∷ ps)
stand_more p v ps s = record { rest = p ∷ s.rest; among = λ f. omega (arith, sum_by-cons f p ps, sum_by-cons f p s.rest, s.among f) }

-- ---- one part of a kind

more_cpu : (n : ℕ) (p : Part) (ps : List Part) → CpuOf n ps → CpuOf n (p ∷ ps)
more_cpu n p ps t = record { cpu = t.cpu; number = t.number; stands = stand_more p _ ps t.stands }

pub cpu_of : (n : ℕ) (ps : List Part) → sum_by (is_cpu n) ps ≡ 1 → CpuOf n ps
cpu_of n [] e = absurd (omega arith)
cpu_of n (Place m held ∷ ps) e = more_cpu n (Place m held) ps (cpu_of n ps (omega (arith, sum_by-cons (is_cpu n) (Place m held) ps)))
cpu_of n (Modules l ∷ ps) e = more_cpu n (Modules l) ps (cpu_of n ps (omega (arith, sum_by-cons (is_cpu n) (Modules l) ps)))
cpu_of n (NextId id ∷ ps) e = more_cpu n (NextId id) ps (cpu_of n ps (omega (arith, sum_by-cons (is_cpu n) (NextId id) ps)))
cpu_of n (Cpu c ∷ ps) e = go (cases_Bool (c.number == n)) (λ later. cpu_of n ps later)
  where
    go : (c.number == n ≡ true) ⊎ (c.number == n ≡ false) → (sum_by (is_cpu n) ps ≡ 1 → CpuOf n ps) → CpuOf n (Cpu c ∷ ps)
    go (inl is) later = record { cpu = c; number = eqb-true c.number n is; stands = stand_first (Cpu c) ps }
    go (inr apart) later =
        let none : one_if (c.number == n) ≡ 0 = rw apart refl in
        more_cpu n (Cpu c) ps (later (omega (arith, sum_by-cons (is_cpu n) (Cpu c) ps)))

more_list : (p : Part) (ps : List Part) → ListOf ps → ListOf (p ∷ ps)
more_list p ps t = record { list = t.list; stands = stand_more p _ ps t.stands }

pub list_of : (ps : List Part) → sum_by is_list ps ≡ 1 → ListOf ps
list_of [] e = absurd (omega arith)
list_of (Cpu c ∷ ps) e = more_list (Cpu c) ps (list_of ps (omega (arith, sum_by-cons is_list (Cpu c) ps)))
list_of (Place m held ∷ ps) e = more_list (Place m held) ps (list_of ps (omega (arith, sum_by-cons is_list (Place m held) ps)))
list_of (Modules l ∷ ps) e = record { list = l; stands = stand_first (Modules l) ps }
list_of (NextId id ∷ ps) e = more_list (NextId id) ps (list_of ps (omega (arith, sum_by-cons is_list (NextId id) ps)))

more_pass : (p : Part) (ps : List Part) → PassOf ps → PassOf (p ∷ ps)
more_pass p ps t = record { next = t.next; stands = stand_more p _ ps t.stands }

pub pass_of : (ps : List Part) → sum_by is_pass ps ≡ 1 → PassOf ps
pass_of [] e = absurd (omega arith)
pass_of (Cpu c ∷ ps) e = more_pass (Cpu c) ps (pass_of ps (omega (arith, sum_by-cons is_pass (Cpu c) ps)))
pass_of (Place m held ∷ ps) e = more_pass (Place m held) ps (pass_of ps (omega (arith, sum_by-cons is_pass (Place m held) ps)))
pass_of (Modules l ∷ ps) e = more_pass (Modules l) ps (pass_of ps (omega (arith, sum_by-cons is_pass (Modules l) ps)))
pass_of (NextId id ∷ ps) e = record { next = id; stands = stand_first (NextId id) ps }

-- ---- beside all CPUs, the list and the pass there are places alone

places_alone : (k : Shape) (f : Part → ℕ) → ((n : ℕ) (held : Held) → f (Place n held) ≡ 0) → (rest : List Part) → Every (part_fits k) rest → ((n : ℕ) → n < k.cpus → sum_by (is_cpu n) rest ≡ 0) → sum_by is_list rest ≡ 0 → sum_by is_pass rest ≡ 0
    → sum_by f rest ≡ 0
places_alone k f zero [] fits cpus list pass = refl
places_alone k f zero (Cpu c ∷ ps) fits cpus list pass =
    let here : one_if (c.number == c.number) ≡ 1 = rw (eq-eqb c.number c.number refl) refl in
    absurd (omega (arith, sum_by-cons (is_cpu c.number) (Cpu c) ps, cpus c.number (ltb-true c.number k.cpus (cpu_fits_means k c (every_first (part_fits k) (Cpu c) ps fits)).number)))
places_alone k f zero (Place n held ∷ ps) fits cpus list pass =
    omega (
      arith,
      sum_by-cons f (Place n held) ps,
      zero n held,
      places_alone k f zero ps (every_rest (part_fits k) (Place n held) ps fits) (λ m low. omega (arith, sum_by-cons (is_cpu m) (Place n held) ps, cpus m low)) (omega (arith, sum_by-cons is_list (Place n held) ps)) (omega (arith, sum_by-cons is_pass (Place n held) ps)),
    )
places_alone k f zero (Modules l ∷ ps) fits cpus list pass = absurd (omega (arith, sum_by-cons is_list (Modules l) ps))
places_alone k f zero (NextId id ∷ ps) fits cpus list pass = absurd (omega (arith, sum_by-cons is_pass (NextId id) ps))

-- where all of them are lent, a number that no place has is that of the parts that are lent
pub all_lent : (k : Shape) (v ps : List Part) → AreAllLent k v → Stands v ps → Safe k ps → (f : Part → ℕ) → ((n : ℕ) (held : Held) → f (Place n held) ≡ 0) → sum_by f ps ≡ sum_by f v
all_lent k v ps lent s safe f zero =
    let none = places_alone k f zero s.rest (omega (arith, safe.fits, s.among (λ p. one_if (not (part_fits k p))))) (λ n low. omega (arith, s.among (is_cpu n), lent.cpus n low, safe.each.cpus n low))
    (omega (arith, s.among is_list, lent.list, safe.each.list)) (omega (arith, s.among is_pass, lent.pass, safe.each.pass)) in
    omega (arith, s.among f)

-- ---- few runs

away_on : ℕ → Part → ℕ
away_on id (Cpu c) = 0
away_on id (Place n held) = 0
away_on id (Modules l) = count_by (λ (r : Run). r.id == id) l.away
away_on id (NextId next) = 0

of_away : (id : ℕ) → IsOfList (away_on id)
unfolding away_on
of_away id = record { cpu = λ c. refl; place = λ n held. refl; pass = λ next. refl }

runs_few_at : (id : ℕ) (p : Part) → nat_le (runs_of_cpu id p) 1 ≡ true → runs_with (λ r. r.id == id) p ≤ some_cpu p + away_on id p
unfolding away_on
runs_few_at id (Cpu c) e = omega (arith, leb-true (count_by (λ (r : Run). r.id == id) c.runs) 1 e)
runs_few_at id (Place n held) e = omega arith
runs_few_at id (Modules l) e = omega arith
runs_few_at id (NextId next) e = omega arith

runs_few : (id : ℕ) (ps : List Part) → Every (λ p. nat_le (runs_of_cpu id p) 1) ps → sum_by (runs_with (λ r. r.id == id)) ps ≤ sum_by some_cpu ps + sum_by (away_on id) ps
runs_few id [] e = omega arith
runs_few id (p ∷ ps) e =
    omega (
      arith,
      sum_by-cons (runs_with (λ r. r.id == id)) p ps,
      sum_by-cons some_cpu p ps,
      sum_by-cons (away_on id) p ps,
      runs_few_at id p (every_first (λ q. nat_le (runs_of_cpu id q) 1) p ps e),
      runs_few id ps (every_rest (λ q. nat_le (runs_of_cpu id q) 1) p ps e),
    )

-- the runs on an id are at most the CPUs and those of the id on their way
pub few_runs : (k : Shape) (l : ListPart) (ps : List Part) → OneList l ps → Safe k ps → (id : ℕ) → sum_by (runs_with (λ r. r.id == id)) ps ≤ k.cpus + count_by (λ (r : Run). r.id == id) l.away
unfolding away_on
few_runs k l ps one safe id = omega (arith, runs_few id ps (safe.cover.one_run id), few_cpus k ps safe.each safe.fits, one.only (away_on id) (of_away id))

-- the list that stands in a safe state is its one list
pub the_list_of : (k : Shape) (l : ListPart) (ps : List Part) → Stands (Modules l ∷ []) ps → Safe k ps → OneList l ps
the_list_of k l ps s safe = one_before (Modules l ∷ []) (Modules l ∷ []) ps ps l (list_alone l) (standing (Modules l ∷ []) ps s) safe.each.list

-- ---- the next id

none_next : (ps : List Part) → sum_by is_pass ps ≡ 0 → sum_by next_id ps ≡ 0
none_next [] e = refl
none_next (Cpu c ∷ ps) e = omega (arith, sum_by-cons next_id (Cpu c) ps, none_next ps (omega (arith, sum_by-cons is_pass (Cpu c) ps)))
none_next (Place n held ∷ ps) e = omega (arith, sum_by-cons next_id (Place n held) ps, none_next ps (omega (arith, sum_by-cons is_pass (Place n held) ps)))
none_next (Modules l ∷ ps) e = omega (arith, sum_by-cons next_id (Modules l) ps, none_next ps (omega (arith, sum_by-cons is_pass (Modules l) ps)))
none_next (NextId id ∷ ps) e = absurd (omega (arith, sum_by-cons is_pass (NextId id) ps))

-- the next id is that of the pass that stands in the state
pub next_is : (k : Shape) (id : ℕ) (ps : List Part) → Stands (NextId id ∷ []) ps → Safe k ps → sum_by next_id ps ≡ id
next_is k id ps s safe = omega (arith, s.among next_id, none_next s.rest (omega (arith, s.among is_pass, safe.each.pass)))

pub next_above_zero : (k : Shape) (id : ℕ) (ps : List Part) → Stands (NextId id ∷ []) ps → Safe k ps → 0 < id
next_above_zero k id ps s safe = ltb-true 0 id (none_fails (nat_lt 0 id) (omega (arith, safe.fits, s.among (λ p. one_if (not (part_fits k p))))))
