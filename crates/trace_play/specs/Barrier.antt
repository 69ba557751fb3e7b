-- A round: the ops of each CPU, CPU after CPU; then the barrier, at which storage goes home and ranges that nothing names are released.
use Rattle.std.specs.Prelude.{ℕ, ◌==◌, ◌&&◌, Bool, not, List, [], ◌++◌, map, filter, fold, length, slice_set, if◌then◌else◌}
use Rattle.std.specs.List.{flat_map, list_any, range_with_len}
use Rattle.tag_model.specs.declared.state.Held.{Held}
use Rattle.tag_model.specs.Index.{Slot}
use Rattle.module_area.specs.declared.entry.Entry.{Entry}
use Rattle.module_area.specs.Entries.{is_loaded_as, is_dead, kept}
use Rattle.slab_cache.specs.Storage.{Storage, home_of}
use Rattle.slab_cache.specs.Homing.{come_home}
use Rattle.trace.specs.declared.traces.OnOp.{OnOp}
use Rattle.trace.specs.declared.traces.TraceOp.{TraceOp}
use Rattle.trace.specs.declared.traces.TraceOp.TheVariants as op
use Rattle.trace_play.specs.Worker.{Seat, all_done}
use Rattle.trace_play.specs.Machine.{Machine, seat_at, worker_at, with_worker, live_cells, names}

-- ---- the ops

abbrev pub ops_of : ℕ → List OnOp → List TraceOp
ops_of cpu ops = map (λ on. on.op) (filter (λ on. on.cpu == cpu) ops)

abbrev pub cpu_done : List OnOp → Machine → ℕ → Machine
cpu_done ops m cpu = with_worker cpu (all_done m.area.entries (ops_of cpu ops) (worker_at cpu m)) m

abbrev pub cpus_done : List OnOp → Machine → Machine
cpus_done ops m = fold (cpu_done ops) m (range_with_len 0 (length m.seats))

-- ---- the modules

abbrev pub with_entries : List Entry → Machine → Machine
with_entries entries m = record m { area = record m.area { entries = entries } }

-- an unload leaves the section's module dead
abbrev pub module_done : Machine → TraceOp → Machine
module_done m (op.Page key order) = m
module_done m (op.Kmalloc key size) = m
module_done m (op.Free key) = m
module_done m (op.Split key order first) = m
module_done m (op.Swap one two) = m
module_done m (op.Trim key pages) = m
module_done m (op.Hook section index) = m
module_done m op.Unhook = m
module_done m (op.Enter section) = m
module_done m (op.Leave section) = m
module_done m (op.Unload section) = with_entries (map (λ entry. if is_loaded_as section entry then kept entry else entry) m.area.entries) m

abbrev pub modules_done : List OnOp → Machine → Machine
modules_done ops m = fold module_done m (map (λ on. on.op) ops)

-- ---- storage goes home

-- by freeing CPU, and for each in the order of its frees
abbrev pub on_its_way : Machine → List Storage
on_its_way m = flat_map (λ seat. seat.returning) m.seats

abbrev pub none_returning : Seat → Seat
none_returning seat = record seat { returning = [] }

abbrev pub none_on_its_way : Machine → Machine
none_on_its_way m = record m { seats = map none_returning m.seats }

-- to its own node, which its own CPU accounts for
abbrev pub storage_home : Machine → Storage → Machine
storage_home m given =
    let seat = seat_at (home_of given) m in
    let taken = come_home given seat.node in
    record m { seats = slice_set m.seats (home_of given) (record seat { node = taken.node }); tally = record m.tally { moves = m.tally.moves ++ taken.moves } }

abbrev pub all_home : Machine → Machine
all_home m = fold storage_home (none_on_its_way m) (on_its_way m)

-- ---- ranges are released

abbrev pub is_named : ℕ → Machine → Bool
is_named id m = list_any (λ (entry : Slot × Held). names id entry.1) (live_cells m)

-- each dead one that no reference names
abbrev pub cleaned : Machine → Machine
cleaned m = with_entries (filter (λ entry. not (is_dead entry.state && not (is_named entry.id m))) m.area.entries) m

-- ---- all

abbrev pub round_done : List OnOp → Machine → Machine
round_done ops m = cleaned (all_home (modules_done ops (cpus_done ops m)))
