-- Each step of the step rules, each base move, and a step with the base move that goes with it, leads from a safe state to a safe state.
use Rattle.std.proofs.Common.{◌≡◌, ℕ, ◌+◌, List, ◌∷◌, ◌++◌, count_by, ap, arith, Bool, cond}
use Rattle.std.proofs.lemmas.List.Sums.{sum_by-append, sum_by-cons}
use Rattle.tag_model.specs.declared.shape.Shape.{Shape}
use Rattle.tag_model.specs.declared.state.ListPart.{ListPart}
use Rattle.tag_model.specs.declared.state.Part.{Part}
use Rattle.tag_model.specs.declared.state.Run.{Run}
use Rattle.tag_model.specs.Laws.{Safe}
use Rattle.tag_model.specs.Shape.{IsChecked}
use Rattle.tag_model.specs.StepRules.{Row, BaseMove, Becomes, EntersCpu, LeavesCpu, Steps, StepsWith, run_on}
use Rattle.tag_model.proofs.BaseMoves.{safe-gives_run, safe-takes_run, safe-notes_record}
use Rattle.tag_model.proofs.BookRows.{safe-sweeps, safe-enters, safe-leaves, safe-reorders_runs}
use Rattle.tag_model.proofs.CpuRows.{safe-begins_allocation, safe-adds_bytes, safe-adds_call, safe-subtracts_bytes, safe-subtracts_call}
use Rattle.tag_model.proofs.DeadRow.{safe-marks_dead}
use Rattle.tag_model.proofs.Found.{sum_at}
use Rattle.tag_model.proofs.LoadRow.{safe-loads}
use Rattle.tag_model.proofs.PlaceRow.{safe-writes_place}
use Rattle.tag_model.proofs.ReleaseRow.{safe-releases}
use Rattle.tag_model.proofs.ScanRow.{safe-scans}

pub row_is_safe : (k : Shape) (v w ps qs : List Part) → IsChecked k → Row k v w → Becomes v w ps qs → Safe k ps → Safe k qs
row_is_safe k v w ps qs ok (Row.begins_allocation {tag} {old} {new} r) b safe = safe-begins_allocation k tag old new ps qs ok r b safe
row_is_safe k v w ps qs ok (Row.adds_call {hand} {old} {new} r) b safe = safe-adds_call k hand old new ps qs ok r b safe
row_is_safe k v w ps qs ok (Row.adds_bytes {size} {hand} {old} {new} r) b safe = safe-adds_bytes k size hand old new ps qs ok r b safe
row_is_safe k v w ps qs ok (Row.subtracts_bytes {bytes} {hand} {old} {new} r) b safe = safe-subtracts_bytes k bytes hand old new ps qs ok r b safe
row_is_safe k v w ps qs ok (Row.subtracts_call {hand} {old} {new} r) b safe = safe-subtracts_call k hand old new ps qs ok r b safe
row_is_safe k v w ps qs ok (Row.writes_place {n} {old} {new} {was} {next} r) b safe = safe-writes_place k n old new was next ps qs ok r b safe
row_is_safe k v w ps qs ok (Row.scans {left} {r} {cpu} {old} {new} s) b safe = safe-scans k left r cpu old new ps qs ok s b safe
row_is_safe k v w ps qs ok (Row.loads {section} {start} {length} {id} {old} {new} r) b safe = safe-loads k section start length id old new ps qs ok r b safe
row_is_safe k v w ps qs ok (Row.enters {old} {new} r) b safe = safe-enters k old new ps qs ok r b safe
row_is_safe k v w ps qs ok (Row.leaves {old} {new} r) b safe = safe-leaves k old new ps qs ok r b safe
row_is_safe k v w ps qs ok (Row.marks_dead {old} {new} r) b safe = safe-marks_dead k old new ps qs ok r b safe
row_is_safe k v w ps qs ok (Row.sweeps {old} {new} r) b safe = safe-sweeps k old new ps qs ok r b safe
row_is_safe k v w ps qs ok (Row.releases {left} {id} {old} {new} r) b safe = safe-releases k left id old new ps qs ok r b safe

pub step_is_safe : (k : Shape) (ps qs : List Part) → IsChecked k → Steps k ps qs → Safe k ps → Safe k qs
step_is_safe k ps qs ok s safe = row_is_safe k s.v s.w ps qs ok s.row s.becomes safe

pub base_move_is_safe : (k : Shape) (v w ps qs : List Part) → BaseMove v w → Becomes v w ps qs → Safe k ps → Safe k qs
base_move_is_safe k v w ps qs (BaseMove.gives_run {old} {new} {from} {to} r) b safe = safe-gives_run k old new from to ps qs r b safe
base_move_is_safe k v w ps qs (BaseMove.takes_run {old} {new} {from} {to} r) b safe = safe-takes_run k old new from to ps qs r b safe
base_move_is_safe k v w ps qs (BaseMove.notes_record {old} {new} {list} r) b safe = safe-notes_record k old new list ps qs r b safe
base_move_is_safe k v w ps qs (BaseMove.reorders_runs {old} {new} r) b safe = safe-reorders_runs k old new ps qs r b safe

pub safe-steps_with : (k : Shape) (ps qs : List Part) → IsChecked k → StepsWith k ps qs → Safe k ps → Safe k qs
safe-steps_with k ps qs ok (StepsWith.alone s) safe = step_is_safe k ps qs ok s safe
safe-steps_with k ps qs ok (StepsWith.enters_cpu s) safe = safe-gives_run k s.outside s.inside s.entered s.after s.mid qs s.gives s.gives_state (safe-enters k s.before s.entered ps s.mid ok s.enters s.enters_state safe)
safe-steps_with k ps qs ok (StepsWith.leaves_cpu s) safe = safe-leaves k s.leaving s.after s.mid qs ok s.leaves s.leaves_state (safe-takes_run k s.inside s.outside s.before s.leaving ps s.mid s.takes s.takes_state safe)

-- ---- no run is left on its way

-- the runs without the one that goes
one_out : (test : Run → Bool) (ahead : List Run) (run : Run) (behind : List Run) → count_by test (ahead ++ run ∷ behind) ≡ cond {A = ℕ} (test run) 1 0 + count_by test (ahead ++ behind)
one_out test ahead run behind = omega (arith, sum_at (λ (r : Run). cond {A = ℕ} (test r) 1 0) ahead run behind, sum_by-append (λ (r : Run). cond {A = ℕ} (test r) 1 0) ahead behind)

pub enters_away : (old new : List Part) (s : EntersCpu old new) (test : Run → Bool) → count_by test s.after.away ≡ count_by test s.before.away
enters_away old new s test =
    let entered : count_by test s.entered.away ≡ count_by test (run_on s.enters.entry ∷ s.before.away) = ap (λ (l : ListPart). count_by test l.away) s.enters.after in
    let split : count_by test s.entered.away ≡ count_by test (s.gives.ahead ++ s.gives.run ∷ s.gives.behind) = ap (count_by test) s.gives.away in
    let after : count_by test s.after.away ≡ count_by test (s.gives.ahead ++ s.gives.behind) = ap (λ (l : ListPart). count_by test l.away) s.gives.list in
    let same : cond {A = ℕ} (test s.gives.run) 1 0 ≡ cond {A = ℕ} (test (run_on s.enters.entry)) 1 0 = ap (λ r. cond {A = ℕ} (test r) 1 0) s.same_run in
    omega (arith, entered, split, after, same, one_out test s.gives.ahead s.gives.run s.gives.behind, sum_by-cons (λ (r : Run). cond {A = ℕ} (test r) 1 0) (run_on s.enters.entry) s.before.away)

pub leaves_away : (old new : List Part) (s : LeavesCpu old new) (test : Run → Bool) → count_by test s.after.away ≡ count_by test s.before.away
leaves_away old new s test =
    let taken : count_by test s.leaving.away ≡ count_by test (s.takes.run ∷ s.before.away) = ap (λ (l : ListPart). count_by test l.away) s.takes.list in
    let split : count_by test s.leaving.away ≡ count_by test (s.leaves.ahead ++ run_on s.leaves.entry ∷ s.leaves.behind) = ap (count_by test) s.leaves.running in
    let after : count_by test s.after.away ≡ count_by test (s.leaves.ahead ++ s.leaves.behind) = ap (λ (l : ListPart). count_by test l.away) s.leaves.after in
    let same : cond {A = ℕ} (test s.takes.run) 1 0 ≡ cond {A = ℕ} (test (run_on s.leaves.entry)) 1 0 = ap (λ r. cond {A = ℕ} (test r) 1 0) s.same_run in
    omega (arith, taken, split, after, same, one_out test s.leaves.ahead (run_on s.leaves.entry) s.leaves.behind, sum_by-cons (λ (r : Run). cond {A = ℕ} (test r) 1 0) s.takes.run s.before.away)
