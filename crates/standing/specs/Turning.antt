-- How a round leads from what stands before it to what stands behind it.
use Rattle.std.specs.Prelude.{ℕ, ◌≡◌, Bool, List, length, map}
use Rattle.std.specs.List.{range_with_len}
use Rattle.module_area.specs.declared.entry.Entry.{Entry}
use Rattle.tag_rule.specs.Shown.{CpuShown}
use Rattle.round_modules.specs.Inside.{notes_in, runs_in}
use Rattle.round_worker.specs.Shown.{WorkerShown}
use Rattle.round_keys.specs.Handed.{handed, with_lives}
use Rattle.trace.specs.declared.traces.OnOp.{OnOp}
use Rattle.trace_play.specs.Machine.{Machine}
use Rattle.trace_play.specs.Alone.{kept, worker_done}
use Rattle.trace_play.specs.Barrier.{all_home, cpus_done, modules_done}

-- the worker that knows these modules
abbrev pub knowing : List Entry → WorkerShown → WorkerShown
knowing entries w = record w { entries = entries }

-- the workers as a round's lanes begin: each has the keys that its ops name, and knows the modules
abbrev pub dealt : List OnOp → Machine → List WorkerShown → List WorkerShown
dealt ops m workers = map (knowing m.area.entries) (with_lives (λ cpu. kept (handed ops cpu) m.live) workers)

-- the machine behind a round's ops, its unloads and the storage that came home
abbrev pub home_of_round : List OnOp → Machine → Machine
home_of_round ops m = all_home (modules_done ops (cpus_done ops m))

-- each worker has the keys that its ops have left it
abbrev pub LivesAre : (ℕ → ℕ → Bool) → List OnOp → Machine → List WorkerShown → Type 0
LivesAre own ops m workers = map (λ (w : WorkerShown). w.live) workers ≡ map (λ cpu. (worker_done own ops m cpu).live) (range_with_len 0 (length m.seats))

-- the same CPUs but for their words
abbrev pub AreSameButWords : List CpuShown → List CpuShown → Type 0
AreSameButWords old new = (map runs_in new ≡ map runs_in old) × (map notes_in new ≡ map notes_in old)
