-- The check of a trace's rounds: a fold over its items, each line after the other.
use Rattle.std.specs.Prelude.{ℕ, ◌≡◌, ◌+◌, ◌-◌, ◌==◌, Bool, true, false, ◌||◌, not, nat_lt, List, [], ◌∷◌, ◌++◌, length, take, Result, Ok, Err, ⊤, slice_index_or, slice_set, count_by}
use Rattle.std.specs.List.{filter, list_any}
use Rattle.input_form.specs.declared.code.Code.{Code}
use Rattle.input_form.specs.declared.code.Code.TheVariants as code
use Rattle.input_form.specs.declared.code.TextError.{TextError}
use Rattle.input_form.specs.declared.code.TextError.TheVariants as text
use Rattle.trace.specs.declared.traces.Item.{Item}
use Rattle.trace.specs.declared.traces.Item.TheVariants as item
use Rattle.trace.specs.declared.traces.OnOp.{OnOp}
use Rattle.trace.specs.declared.traces.TraceOp.{TraceOp}
use Rattle.trace.specs.declared.traces.TraceOp.TheVariants as op
use Rattle.trace.specs.declared.traces.Trace.{Trace}
use Rattle.input_form.specs.Judging.{◌>>=◌, ◌>>◌, need, at}
use Rattle.round_check.specs.declared.keys.Bound.TheVariants.{Object}
use Rattle.round_check.specs.declared.keys.KeyState.{KeyState}
use Rattle.round_check.specs.declared.keys.Turn.{Turn}
use Rattle.round_check.specs.declared.modules.ModuleState.{ModuleState}
use Rattle.round_check.specs.declared.walk.Walk.{Walk}
use Rattle.round_check.specs.Keys.{whole_block, take_key, give_key, split_key, swap_keys, trim_key}
use Rattle.round_check.specs.CpuState.{CpuState}
use Rattle.round_check.specs.Cpus.{idle_cpus, cpu_at, is_inside}
use Rattle.round_check.specs.Tables.{absent, absent_modules, unbound_keys}

-- before the first line
abbrev pub start : Walk
start = record { keys = unbound_keys 65536; modules = absent_modules 65; cpus = idle_cpus 64; round = 0 }

abbrev pub module_at : Walk → ℕ → ModuleState
module_at walk section = slice_index_or walk.modules section absent

-- the round and the CPU of a line
abbrev pub turn_of : Walk → ℕ → Turn
turn_of walk cpu = record { round = walk.round; cpu = cpu }

abbrev pub with_keys : Walk → Result (List KeyState) Code → Result Walk Code
with_keys walk keys = do
  new ← keys
  Ok (record walk { keys = new })

abbrev pub with_module : Walk → ℕ → ModuleState → Walk
with_module walk section state = record walk { modules = slice_set walk.modules section state }

abbrev pub with_cpu : Walk → ℕ → CpuState → Walk
with_cpu walk cpu state = record walk { cpus = slice_set walk.cpus cpu state }

-- whether this round has entered or left the module, or unloaded it
abbrev pub is_moved : Walk → ℕ → Bool
is_moved walk section = (module_at walk section).moved == walk.round

abbrev pub is_unloaded : Walk → ℕ → Bool
is_unloaded walk section = (module_at walk section).unloaded == walk.round

-- the module was entered or left in this round
abbrev pub moved : Walk → ℕ → Walk
moved walk section = with_module walk section (record (module_at walk section) { moved = walk.round })

-- `enter`
unfoldable pub enter_module : Walk → ℕ → ℕ → Result Walk Code
enter_module walk cpu section = do
  need (not (is_unloaded walk section)) (code.UnloadShared section)
  need (module_at walk section).loaded (code.NotLoaded section)
  need (not (is_inside section (cpu_at walk.cpus cpu))) (code.Inside section)
  Ok (with_cpu (moved walk section) cpu (record (cpu_at walk.cpus cpu) { inside = (cpu_at walk.cpus cpu).inside ++ section ∷ [] }))

-- `leave`
unfoldable pub leave_module : Walk → ℕ → ℕ → Result Walk Code
leave_module walk cpu section = do
  need (not (is_unloaded walk section)) (code.UnloadShared section)
  need (is_inside section (cpu_at walk.cpus cpu)) (code.NotInside section)
  need (not (list_any (λ other. other == section) (cpu_at walk.cpus cpu).hooks)) (code.Hooked section)
  Ok (with_cpu (moved walk section) cpu (record (cpu_at walk.cpus cpu) { inside = filter (λ other. not (other == section)) (cpu_at walk.cpus cpu).inside }))

-- `unload`
unfoldable pub unload_module : Walk → ℕ → Result Walk Code
unload_module walk section = do
  need (not (is_moved walk section || is_unloaded walk section)) (code.UnloadShared section)
  need (module_at walk section).loaded (code.NotLoaded section)
  need (count_by (is_inside section) walk.cpus == 0) (code.Busy (count_by (is_inside section) walk.cpus))
  Ok (with_module walk section (record (module_at walk section) { loaded = false; unloaded = walk.round }))

-- `hook`
unfoldable pub hook_tag : Walk → ℕ → ℕ → Result Walk Code
hook_tag walk cpu section = do
  need (section == 0 || is_inside section (cpu_at walk.cpus cpu)) (code.NotInside section)
  need (nat_lt (length (cpu_at walk.cpus cpu).hooks) 16) code.Deep
  Ok (with_cpu walk cpu (record (cpu_at walk.cpus cpu) { hooks = (cpu_at walk.cpus cpu).hooks ++ section ∷ [] }))

-- `unhook`
unfoldable pub unhook_tag : Walk → ℕ → Result Walk Code
unhook_tag walk cpu = do
  need (nat_lt 0 (length (cpu_at walk.cpus cpu).hooks)) code.NoHook
  Ok (with_cpu walk cpu (record (cpu_at walk.cpus cpu) { hooks = take (length (cpu_at walk.cpus cpu).hooks - 1) (cpu_at walk.cpus cpu).hooks }))

-- `load`
unfoldable pub load_module : Walk → ℕ → Result Walk Code
load_module walk section = do
  need (not (module_at walk section).loaded) (code.AlreadyLoaded section)
  Ok (with_module walk section (record (module_at walk section) { loaded = true }))

-- an op of a CPU
unfoldable pub walk_op : ℕ → TraceOp → Walk → Result Walk Code
walk_op cpu (op.Page key order) walk = with_keys walk (take_key walk.keys (turn_of walk cpu) key (whole_block order))
walk_op cpu (op.Kmalloc key size) walk = with_keys walk (take_key walk.keys (turn_of walk cpu) key Object)
walk_op cpu (op.Free key) walk = with_keys walk (give_key walk.keys (turn_of walk cpu) key)
walk_op cpu (op.Split key order first) walk = with_keys walk (split_key walk.keys (turn_of walk cpu) key order first)
walk_op cpu (op.Swap one two) walk = with_keys walk (swap_keys walk.keys (turn_of walk cpu) one two)
walk_op cpu (op.Trim key pages) walk = with_keys walk (trim_key walk.keys (turn_of walk cpu) key pages)
walk_op cpu (op.Hook section index) walk = hook_tag walk cpu section
walk_op cpu op.Unhook walk = unhook_tag walk cpu
walk_op cpu (op.Enter section) walk = enter_module walk cpu section
walk_op cpu (op.Leave section) walk = leave_module walk cpu section
walk_op cpu (op.Unload section) walk = unload_module walk section

-- the ops of a round, in the order of their lines
abbrev pub walk_ops : List OnOp → Walk → Result Walk (ℕ × Code)
walk_ops [] walk = Ok walk
walk_ops (on ∷ others) walk = do
  next ← at on.line (walk_op on.cpu on.op walk)
  walk_ops others next

-- the next round begins
abbrev pub begun : Walk → Walk
begun walk = record walk { round = walk.round + 1 }

unfoldable pub walk_item : Item → Walk → Result Walk (ℕ × Code)
walk_item (item.Round ops) walk = walk_ops ops (begun walk)
walk_item (item.Load line section) walk = at line (load_module walk section)
walk_item item.Print walk = Ok walk
walk_item item.Areas walk = Ok walk

abbrev pub walk_items : List Item → Walk → Result Walk (ℕ × Code)
walk_items [] walk = Ok walk
walk_items (item ∷ others) walk = do
  next ← walk_item item walk
  walk_items others next

-- What a call left is what judging several lines gives, unless memory ran out.
abbrev pub LeavesAll : {S : Type 0} → Result ⊤ TextError → S → Result S (ℕ × Code) → Type 0
LeavesAll (Ok done) new judged = judged ≡ Ok new
LeavesAll (Err (text.Refused line code)) new judged = judged ≡ Err (line, code)
LeavesAll (Err (text.Memory want)) new judged = ⊤

-- what the round check says of a trace
unfoldable pub rounds_of : Trace → Result ⊤ (ℕ × Code)
rounds_of trace = do
  walk ← walk_items trace.body start
  Ok tt
