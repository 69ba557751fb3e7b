-- What a safe state tells of a CPU in it and of its module list.
use Rattle.std.proofs.Common.{◌≡◌, ℕ, ◌<◌, ◌≤◌, ◌==◌, nat_lt, nat_le, List, [], ◌∷◌, ◌++◌, sum_by, count_by, refl, sym, subst, arith, Bool, true, false, not, cond, eq-eqb, leb-true, Some}
use Rattle.std.specs.List.{list_any, list_all}
use Rattle.std.proofs.lemmas.Bool.{and_from}
use Rattle.std.proofs.lemmas.List.Sums.{sum_by-cons}
use Rattle.tag_model.specs.declared.shape.Shape.{Shape}
use Rattle.tag_model.specs.declared.state.CpuPart.{CpuPart}
use Rattle.tag_model.specs.declared.state.Hand.{Hand}
use Rattle.tag_model.specs.declared.state.ListPart.{ListPart}
use Rattle.tag_model.specs.declared.state.Part.{Part}
use Rattle.tag_model.specs.declared.state.Part.TheVariants.{Cpu, Modules}
use Rattle.tag_model.specs.declared.state.Record.{Record}
use Rattle.tag_model.specs.declared.state.Run.{Run}
use Rattle.tag_model.specs.Laws.{Safe, is_loaded_as, same_run, runs_of_cpu, rises_from, ids_of, sweep_fits}
use Rattle.tag_model.specs.Shape.{IsChecked}
use Rattle.tag_model.specs.StepRules.{Becomes}
use Rattle.tag_model.specs.WordState.{records_with, runs_with, users_of, next_id}
use Rattle.tag_model.proofs.Alike.{of_records, of_users}
use Rattle.tag_model.proofs.CpuFits.{hand_covered}
use Rattle.tag_model.proofs.CpuRows.{seen}
use Rattle.tag_model.proofs.Found.{found, any_at, count_at}
use Rattle.tag_model.proofs.ListRows.{OneList, list_with_cpu, one_before, the_one}
use Rattle.tag_model.proofs.LoadRow.{none_high}
use Rattle.tag_model.proofs.Swept.{holds_first, part_passes, list_laws, same_run_refl, covered_below}

pub same_id : (run : Run) → (run.id == run.id) ≡ true
same_id run = eq-eqb run.id run.id refl

-- ---- of a CPU

-- it has at most one run on an id
pub one_run_each : (k : Shape) (c : CpuPart) (more w ps qs : List Part) → Becomes (Cpu c ∷ more) w ps qs → Safe k ps → (id : ℕ) → count_by (λ (r : Run). r.id == id) c.runs ≤ 1
one_run_each k c more w ps qs b safe id = leb-true (count_by (λ (r : Run). r.id == id) c.runs) 1 (part_passes (λ p. nat_le (runs_of_cpu id p) 1) ps (Cpu c) (holds_first (Cpu c) more w ps qs b) (safe.cover.one_run id))

-- its hand's tag is one of the shape's
pub hand_in_tags : (k : Shape) (c : CpuPart) (h : Hand) (more w ps qs : List Part) → IsChecked k → Becomes (Cpu c ∷ more) w ps qs → Safe k ps → c.hand ≡ Some h → h.tag.number < k.tags
hand_in_tags k c h more w ps qs ok b safe is =
    let s = seen k c more w ps qs b safe in
    covered_below k ps s.list ok s.laws h.tag (hand_covered k c h ps s.stands safe.fits safe.cover is)

-- ---- of the module list, the one among the parts v

-- the sweep is in its bounds, and the records stand by rising id
pub sweep_in_bounds : (k : Shape) (l : ListPart) (v w ps qs : List Part) → OneList l v → Becomes v w ps qs → Safe k ps → (sweep_fits k l.sweep l.records ≡ true) × (rises_from 0 (ids_of l.records) ≡ true)
sweep_in_bounds k l v w ps qs one b safe =
    let laws = list_laws k ps (the_one (one_before v w ps qs l one b safe.each.list)) safe.fits safe.cover safe.sweep.fits in
    (laws.sweep, laws.rise)

pub none_fail : {X : Type 0} (p : X → Bool) (xs : List X) → count_by (λ x. not (p x)) xs ≡ 0 → list_all p xs ≡ true
none_fail p [] e = refl
none_fail {X} p (x ∷ xs) e =
    let count = sum_by-cons (λ (y : X). cond {A = ℕ} (not (p y)) 1 0) x xs in
    and_from _ _ (passes (p x) (omega arith)) (none_fail p xs (omega arith))
  where
    passes : (b : Bool) → cond {A = ℕ} (not b) 1 0 ≡ 0 → b ≡ true
    passes true e = refl
    passes false e = absurd (omega arith)

-- each record's id is below the next one
pub ids_below : (k : Shape) (l : ListPart) (v w ps qs : List Part) → OneList l v → Becomes v w ps qs → Safe k ps → list_all (λ (r : Record). nat_lt r.id (sum_by next_id ps)) l.records ≡ true
ids_below k l v w ps qs one b safe =
    none_fail (λ (r : Record). nat_lt r.id (sum_by next_id ps)) l.records (none_high (sum_by next_id ps) l ps (one_before v w ps qs l one b safe.each.list) safe.cover.ids_below_next)

-- the runs on an id, those on their way among them, are the users of its record
pub users_are_runs : (k : Shape) (l : ListPart) (v w ps qs : List Part) → OneList l v → Becomes v w ps qs → Safe k ps → (id : ℕ) → sum_by (runs_with (λ r. r.id == id)) ps ≡ users_of id (Modules l)
users_are_runs k l v w ps qs one b safe id = omega (arith, safe.cover.users id, (one_before v w ps qs l one b safe.each.list).only (users_of id) (of_users id))

-- ---- of both

pub some_passes : {X : Type 0} (test : X → Bool) (xs : List X) → 0 < count_by test xs → list_any test xs ≡ true
some_passes test xs h =
    let f = found test xs h in
    subst (λ ys. list_any test ys ≡ true) (sym f.is) (any_at test f.front f.item f.back f.passes)

-- a run of the CPU has its loaded record
pub run_is_loaded : (k : Shape) (c : CpuPart) (l : ListPart) (w ps qs : List Part) → Becomes (Cpu c ∷ Modules l ∷ []) w ps qs → Safe k ps → (front : List Run) (run : Run) (back : List Run) → c.runs ≡ front ++ run ∷ back → list_any (is_loaded_as run) l.records ≡ true
run_is_loaded k c l w ps qs b safe front run back has =
    let one = one_before (Cpu c ∷ Modules l ∷ []) w ps qs l (list_with_cpu c l) b safe.each.list in
    let here : 0 < count_by (same_run run) c.runs = subst (λ xs. 0 < count_by (same_run run) xs) (sym has) (count_at (same_run run) front run back (same_run_refl run)) in
    let loaded = safe.cover.runs run (omega (arith, holds_first (Cpu c) (Modules l ∷ []) w ps qs b (runs_with (same_run run)))) in
    some_passes (is_loaded_as run) l.records (omega (arith, one.only (records_with (is_loaded_as run)) (of_records _)))
