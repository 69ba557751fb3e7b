-- Unloads and loads as the meaning of a trace has them.
use Rattle.std.proofs.Common.{◌≡◌, ℕ, ◌+◌, ◌==◌, Bool, true, false, cond, List, [], ◌∷◌, length, map, fold, Option, None, Some, refl, sym, ap, ◌∙◌}
use Rattle.std.specs.Option.{is_some}
use Rattle.module_area.specs.Area.{Area, least_start}
use Rattle.reclaim.specs.Loading.{loaded_as}
use Rattle.reclaim.specs.State.{LockedShown}
use Rattle.input_form.specs.declared.code.Code.TheVariants as code
use Rattle.trace.specs.declared.traces.OnOp.{OnOp}
use Rattle.trace.specs.declared.traces.TraceOp.{TraceOp}
use Rattle.trace.specs.declared.traces.TraceOp.TheVariants as op
use Rattle.trace_play.specs.Machine.{Machine}
use Rattle.trace_play.specs.Barrier.{module_done, modules_done}
use Rattle.trace_play.specs.Play.{load_refusal, loaded, unless_room}
use Rattle.round_modules.specs.declared.loading.LoadRefusal.TheVariants.{Full, NoRoom}
use Rattle.round_modules.specs.Known.{unload_in, unloaded_by}
use Rattle.round_modules.specs.Meant.{refused_as}
use Rattle.round_modules.specs.Loads.{refusal_in}

one_meant : (m : Machine) (o : TraceOp) → ◌≡◌ {A = Area} (module_done m o).area (record m.area { entries = unload_in m.area.entries o })
one_meant m (op.Page key order) = refl
one_meant m (op.Kmalloc key size) = refl
one_meant m (op.Free key) = refl
one_meant m (op.Split key order first) = refl
one_meant m (op.Swap one two) = refl
one_meant m (op.Trim key pages) = refl
one_meant m (op.Hook section index) = refl
one_meant m op.Unhook = refl
one_meant m (op.Enter section) = refl
one_meant m (op.Leave section) = refl
one_meant m (op.Unload section) = refl

all_meant : (os : List TraceOp) (m : Machine) → ◌≡◌ {A = Area} (fold module_done m os).area (record m.area { entries = fold unload_in m.area.entries os })
all_meant [] m = refl
all_meant (o ∷ os) m = all_meant os (module_done m o) ∙ ap (λ (a : Area). let b : Area = record a { entries = fold unload_in a.entries os } in b) (one_meant m o)

pub unloads_meant : (m : Machine) (ops : List OnOp) → ◌≡◌ {A = Area} (modules_done ops m).area (record m.area { entries = unloaded_by ops m.area.entries })
unloads_meant m ops = all_meant (map (λ on. on.op) ops) m

pub refusals_meant : (line size : ℕ) (m : Machine) → load_refusal line size m ≡ refused_as line (refusal_in size m.area)
refusals_meant line size m = go (length m.area.entries == 64) (least_start m.area size)
  where
    go : (b : Bool) (o : Option ℕ) → cond b (Some (line, code.Full)) (unless_room line o) ≡ refused_as line (cond b (Some Full) (cond (is_some o) None (Some NoRoom)))
    go true o = refl
    go false None = refl
    go false (Some start) = refl

pub load_meant : (section size : ℕ) (m : Machine) (l : LockedShown) → ◌≡◌ {A = Area} l.area m.area → ◌≡◌ {A = Area} (loaded section size m).area (loaded_as (m.last_id + 1) section size l).area
load_meant section size m l same = ap (λ (a : Area). (loaded section size (record m { area = a })).area) (sym same)
