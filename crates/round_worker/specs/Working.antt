-- What a worker has, and what it shows of it.
use Rattle.std.specs.Prelude.{ℕ, ◌≡◌, ◌≤◌, All, List, length, map}
use Rattle.module_area.specs.declared.entry.Entry.{Entry}
use Rattle.tag_model.specs.declared.state.Tag.{Tag}
use Rattle.tag_rule.specs.Shown.{Board}
use Rattle.page_ext.specs.Shown.{block_of}
use Rattle.slab_cache.specs.Slabs.{NodeState}
use Rattle.slab_cache.specs.Storage.{Storage, Pages}
use Rattle.slab_cache.specs.Shown.{IsOfTable, SlabNodeShown, Stands, cell_of, state_of, storage_of}
use Rattle.round_worker.specs.Kept.{KeyList, live_of}
use Rattle.round_worker.specs.Parting.{AreKept}
use Rattle.round_worker.specs.Shown.{WorkerShown}
use Rattle.round_worker.specs.declared.worker.Going.{Going}
use Rattle.round_worker.specs.declared.worker.Going.TheVariants.{Block, Object}

-- storage on its way home
abbrev pub going_storage : Going → Storage
going_storage (Block block) = Pages (block_of block)
going_storage (Object stored) = storage_of stored

-- its cells are of the table
abbrev pub IsGoing : Board → Going → Type 0
IsGoing board (Block block) = block.cell.board ≡ board
IsGoing board (Object stored) = IsOfTable board (cell_of stored)

-- the node stands and has so many frames, few hooks are out, and all cells are of the node's table
pub record IsWorker (frames : ℕ) (node : SlabNodeShown) (hooks : List Tag) (keys : KeyList) (returning : List Going) : Type 0 where
  pub stands : Stands node
  pub frames_are : length node.slabs ≡ frames
  pub few : length hooks ≤ 16
  pub kept : AreKept node.node.board keys
  pub going : All (IsGoing node.node.board) returning

-- the worker with all of this
abbrev pub shown : SlabNodeShown → List Tag → KeyList → List Going → List Entry → ℕ → ℕ → WorkerShown
shown node hooks keys returning entries failed uncounted = record {
  board = node.node.board;
  cpu = node.node.node.cpu;
  seat = record { node = state_of node; hooks = hooks; returning = map going_storage returning };
  live = live_of keys;
  entries = entries;
  failed = failed;
  uncounted = uncounted;
}

abbrev pub with_returning : List Storage → WorkerShown → WorkerShown
with_returning returning w = record w { seat = record w.seat { returning = returning } }

abbrev pub with_node : NodeState → WorkerShown → WorkerShown
with_node node w = record w { seat = record w.seat { node = node } }
