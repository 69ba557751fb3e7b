-- The machine of a trace: each CPU's seat, the live list, the modules, and what was done. From these the references by cell.
use Rattle.std.specs.Prelude.{ℕ, ◌==◌, Bool, false, Option, Some, None, List, [], ◌∷◌, ◌++◌, map, replicate, count_by, slice_index_or, slice_set}
use Rattle.std.specs.List.{flat_map, enumerate_from, range_with_len}
use Rattle.tag_model.specs.declared.state.Held.{Held}
use Rattle.tag_model.specs.declared.state.Held.TheVariants as held
use Rattle.tag_model.specs.Index.{Slot, Page, Object}
use Rattle.module_area.specs.Area.{Area}
use Rattle.slab_cache.specs.Slabs.{Slab, NodeState, slab_held}
use Rattle.slab_cache.specs.Storage as storage
use Rattle.slab_cache.specs.Storage.{Storage}
use Rattle.trace.specs.declared.traces.Trace.{Trace}
use Rattle.trace_play.specs.Live.{Content, Nothing, Stored, Live}
use Rattle.trace_play.specs.Worker.{Seat, Tally, WorkerState}
use Rattle.tag_model.specs.Reference.{is_counted}

pub record Machine : Type 0 where
  pub seats : List Seat
  pub live : Live
  pub area : Area
  pub last_id : ℕ
  pub tally : Tally

-- ---- a fresh one

abbrev pub fresh_node : ℕ → ℕ → ℕ → NodeState
fresh_node frames vectors cpu = record {
  node = record { cpu = cpu; frames = replicate frames false };
  slabs = replicate frames None;
  vectors = replicate vectors false;
}

abbrev pub fresh_seat : ℕ → ℕ → ℕ → Seat
fresh_seat frames vectors cpu = record { node = fresh_node frames vectors cpu; hooks = []; returning = [] }

abbrev pub nothing_done : Tally
nothing_done = record { moves = []; failed = 0; uncounted = 0 }

-- so many CPUs, tags of the area, and frames and vectors of each CPU
abbrev pub fresh_machine : ℕ → ℕ → ℕ → ℕ → Machine
fresh_machine cpus area frames vectors = record {
  seats = map (fresh_seat frames vectors) (range_with_len 0 cpus);
  live = [];
  area = record { entries = []; first = 128; tags = area };
  last_id = 0;
  tally = nothing_done;
}

abbrev pub machine_of : Trace → Machine
machine_of trace = fresh_machine trace.cpus trace.area trace.frames trace.vectors

-- ---- one CPU of it

abbrev pub seat_at : ℕ → Machine → Seat
seat_at cpu m = slice_index_or m.seats cpu (fresh_seat 0 0 cpu)

abbrev pub worker_at : ℕ → Machine → WorkerState
worker_at cpu m = record { seat = seat_at cpu m; live = m.live; tally = m.tally }

abbrev pub with_worker : ℕ → WorkerState → Machine → Machine
with_worker cpu w m = record m { seats = slice_set m.seats cpu w.seat; live = w.live; tally = w.tally }

-- ---- the references by cell: those of the bound keys, and those of the slabs

abbrev pub storage_cell : Storage → List (Slot × Held)
storage_cell (storage.Pages block) = (Page block.home block.frame, block.holds) ∷ []
storage_cell (storage.Object home frame place vector holds) = (Object home vector place, holds) ∷ []
storage_cell (storage.Uncounted home frame place) = []

abbrev pub content_cell : Content → List (Slot × Held)
content_cell (Nothing order) = []
content_cell (Stored given) = storage_cell given

abbrev pub slab_cell : ℕ → ℕ → Option Slab → List (Slot × Held)
slab_cell cpu frame None = []
slab_cell cpu frame (Some slab) = (Page cpu frame, slab_held slab.class) ∷ []

abbrev pub slab_cells : NodeState → List (Slot × Held)
slab_cells node = flat_map (λ (entry : ℕ × Option Slab). slab_cell node.node.cpu entry.0 entry.1) (enumerate_from 0 node.slabs)

abbrev pub live_cells : Machine → List (Slot × Held)
live_cells m =
    flat_map (λ (entry : ℕ × Content). content_cell entry.1) m.live ++ flat_map (λ seat. slab_cells seat.node) m.seats

-- how many references there are
abbrev pub live_count : Machine → ℕ
live_count m = count_by (λ (entry : Slot × Held). is_counted entry.1) (live_cells m)

abbrev pub names : ℕ → Held → Bool
names id held.None = false
names id held.Empty = false
names id (held.Counted tag size) = tag.module == id
