-- The manager's step leaves fewer steps, and none is left where nothing is queued.
use Rattle.std.proofs.Common.{◌≡◌, ℕ, ◌+◌, ◌<◌, ◌≤◌, List, [], ◌∷◌, refl, sym, subst, arith, Bool, true, false, cond, Option, None}
use Rattle.tag_model.specs.declared.shape.Shape.{Shape}
use Rattle.tag_model.specs.declared.state.Sweep.{Sweep}
use Rattle.tag_model.specs.declared.state.Sweep.TheVariants as sweep
use Rattle.core_list.specs.ListState.{ListState, dead_list, loaded, most_steps, next_of, released, scanned, sweep_steps, swept_list}
use Rattle.core_list.proofs.Ends.{scan_falls, release_falls, begins_of_all, begins_of_one, most_of_all, most_of_one}
use Rattle.module_ops.specs.declared.op.ManagerOp.{ManagerOp}
use Rattle.module_ops.specs.Modules.{Managing, ModuleTable, is_nothing, managed, managed_on, manager_refusal, word_read}
use Rattle.tag_section.specs.Section.{tags_in}
use Rattle.core_steps.specs.CoreState.{CoreState, IsCore}
use Rattle.core_steps.specs.Kinds.{StepKind}
use Rattle.core_steps.specs.StepsLeft.{manager_steps_left, most_left, most_of_ops}
use Rattle.cpu_ops.proofs.LoadedEntry.{loaded_found}
use Rattle.core_steps.proofs.Managed.{sweep_told, Manages}
use Rattle.core_steps.proofs.ManagerRow.{managed_first}

-- no op is under way
left_at_rest : (k : Shape) (list : ListState) (ops : List ManagerOp) → most_left k list ops false ≡ most_of_ops k ops
left_at_rest k list [] = omega arith
left_at_rest k list (op ∷ ops) = refl

-- one op more has its first step and at most those of a sweep more
one_op_more : (k : Shape) (op : ManagerOp) (ops : List ManagerOp) → most_of_ops k (op ∷ ops) ≡ 1 + most_steps k + most_of_ops k ops
one_op_more k op ops = omega arith

-- what is left behind a step of an op, where the sweep that it leaves ends or goes on
left_behind : (k : Shape) (op : ManagerOp) (ops : List ManagerOp) (list : ListState) → most_left k list (managed_on op ops list).ops (managed_on op ops list).under_way ≤ sweep_steps k list + most_of_ops k ops
left_behind k op ops list = go (is_nothing (next_of list.sweep))
  where
    go : (b : Bool) → let m = cond {A = Managing} b (record { ops = ops; under_way = false }) (record { ops = op ∷ ops; under_way = true }) in most_left k list m.ops m.under_way ≤ sweep_steps k list + most_of_ops k ops
    go true = omega (arith, left_at_rest k list ops)
    go false = omega arith

left_after : (s : CoreState) → IsCore s → (op : ManagerOp) (ops : List ManagerOp) (kind : Option StepKind) (n : ℕ) (after : ModuleTable) → Manages s.shape s.sections s.words s.modules op ops kind n after
    → manager_steps_left s.shape after < most_left s.shape s.modules.list (op ∷ ops) s.modules.manager.under_way
left_after s core op ops kind n after (Manages.loads section starts is none) =
    rw starts (omega (arith, left_at_rest s.shape (loaded section (tags_in s.sections section) s.modules.list) ops, one_op_more s.shape op ops))
left_after s core op ops kind n after (Manages.marks_dead section e starts is unused) =
    let l = s.modules.list in
    let there = (loaded_found section l e core.modules.list is).0 in
    rw starts (omega (
      arith,
      left_behind s.shape op ops (dead_list e.id l),
      one_op_more s.shape op ops,
      begins_of_one s.shape l e.id e core.modules.list there,
      most_of_one s.shape l e.id e core.modules.list (omega (arith, core.modules.tags)) there,
    ))
left_after s core op ops kind n after (Manages.sweeps starts) =
    let l = s.modules.list in
    rw starts (omega (
      arith,
      left_behind s.shape op ops (swept_list l),
      one_op_more s.shape op ops,
      begins_of_all s.shape l core.modules.list,
      most_of_all s.shape l core.modules.list (omega (arith, core.modules.tags)),
    ))
left_after s core op ops kind n after (Manages.scans left r goes is) =
    let l = s.modules.list in
    rw goes (omega (arith, left_behind s.shape op ops (scanned s.shape (word_read s.words r) l), scan_falls s.shape l (word_read s.words r) left r core.modules.list (sweep_told s core).0 is))
left_after s core op ops kind n after (Manages.releases id left goes is) =
    let l = s.modules.list in
    rw goes (omega (arith, left_behind s.shape op ops (released l), release_falls s.shape l id left is))

pub manager_left : (s : CoreState) → IsCore s → manager_refusal s.sections s.modules ≡ None → manager_steps_left s.shape (managed s.shape s.sections s.words s.modules) < manager_steps_left s.shape s.modules
manager_left s core none =
    let first = managed_first s core none in
    subst (λ all. manager_steps_left s.shape (managed s.shape s.sections s.words s.modules) < most_left s.shape s.modules.list all s.modules.manager.under_way) (sym first.is) (left_after s core first.op first.ops _ _ _ first.step)

-- a sweep that goes on has a step left
pub some_left : (s : CoreState) → IsCore s → (x : Sweep) → s.modules.list.sweep ≡ x → is_nothing (next_of x) ≡ false → 0 < sweep_steps s.shape s.modules.list
some_left s core sweep.None is on = absurd (cc)
some_left s core (sweep.Reading left r) is on = omega (arith, scan_falls s.shape s.modules.list 0 left r core.modules.list (sweep_told s core).0 is)
some_left s core (sweep.Done []) is on = absurd (cc)
some_left s core (sweep.Done (id ∷ left)) is on = omega (arith, release_falls s.shape s.modules.list id left is)

-- ops that wait have a step left
left_of_op : (s : CoreState) → IsCore s → (op : ManagerOp) (ops : List ManagerOp) (way : Bool) → s.modules.manager.under_way ≡ way → 0 < most_left s.shape s.modules.list (op ∷ ops) way
left_of_op s core op ops true way = omega (arith, some_left s core s.modules.list.sweep refl (core.modules.goes_on way))
left_of_op s core op ops false way = omega (arith, one_op_more s.shape op ops)

pub manager_idle : (s : CoreState) → IsCore s → (manager_steps_left s.shape s.modules ≡ 0 → s.modules.manager.ops ≡ []) × (s.modules.manager.ops ≡ [] → manager_steps_left s.shape s.modules ≡ 0)
manager_idle s core = (none s.modules.manager.ops, λ e. rw e refl)
  where
    none : (ops : List ManagerOp) → most_left s.shape s.modules.list ops s.modules.manager.under_way ≡ 0 → ops ≡ []
    none [] e = refl
    none (op ∷ ops) e = absurd (omega (arith, left_of_op s core op ops s.modules.manager.under_way refl))
