-- Lanes by their numbers.
use Rattle.std.specs.Prelude.{ℕ, ◌≡◌, ◌<◌, List, [], length, slice_index_or}
use Rattle.tag_rule.specs.Shown.{CpuShown}
use Rattle.trace.specs.declared.traces.OnOp.{OnOp}
use Rattle.round_worker.specs.Shown.{WorkerShown}
use Rattle.lanes.specs.Lanes.{IsLaneDone, IsLaneReady}

-- the lane of a number is ready; what stands for a worker and a CPU that aren't there doesn't matter
abbrev pub IsReadyAt : List (List OnOp) → List WorkerShown → List CpuShown → WorkerShown → CpuShown → ℕ → Type 0
IsReadyAt lanes workers cpus w c number = IsLaneReady (slice_index_or lanes number []) (slice_index_or workers number w) (slice_index_or cpus number c)

pub record AllReady (lanes : List (List OnOp)) (workers : List WorkerShown) (cpus : List CpuShown) : Type 0 where
  pub a_worker_each : length workers ≡ length lanes
  pub a_cpu_each : length cpus ≡ length lanes
  pub each : (w : WorkerShown) (c : CpuShown) (number : ℕ) → number < length lanes → IsReadyAt lanes workers cpus w c number

-- the same of lanes that are done
abbrev pub IsDoneAt : List (List OnOp) → List WorkerShown → List WorkerShown → List CpuShown → List CpuShown → WorkerShown → CpuShown → ℕ → Type 0
IsDoneAt lanes workers workers_after cpus cpus_after w c number =
    IsLaneDone (slice_index_or lanes number []) (slice_index_or workers number w) (slice_index_or workers_after number w) (slice_index_or cpus number c) (slice_index_or cpus_after number c)

pub record AllDone (lanes : List (List OnOp)) (workers workers_after : List WorkerShown) (cpus cpus_after : List CpuShown) : Type 0 where
  pub a_worker_each : (length workers ≡ length lanes) × (length workers_after ≡ length lanes)
  pub a_cpu_each : (length cpus ≡ length lanes) × (length cpus_after ≡ length lanes)
  pub each : (w : WorkerShown) (c : CpuShown) (number : ℕ) → number < length lanes → IsDoneAt lanes workers workers_after cpus cpus_after w c number
