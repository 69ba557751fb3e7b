-- Workers side by side: each CPU of a round has a lane, which is the ops of that CPU.
use Rattle.std.specs.Prelude.{ℕ, ◌≡◌, ◌+◌, ◌^◌, ◌<◌, ◌==◌, ⊤, List, [], ◌∷◌, filter, length, map}
use Rattle.std.specs.List.{range_with_len}
use Rattle.tag_rule.specs.Shown.{CpuShown}
use Rattle.trace.specs.declared.traces.OnOp.{OnOp}
use Rattle.trace_play.specs.Worker.{all_done}
use Rattle.trace_play.specs.Fitting.{Fit}
use Rattle.round_worker.specs.Shown.{Leaves, Ready, WorkerShown, at_start, may_count}

-- the ops of each of so many CPUs, in their order
abbrev pub lanes_of : ℕ → List OnOp → List (List OnOp)
lanes_of count ops = map (λ cpu. filter (λ on. on.cpu == cpu) ops) (range_with_len 0 count)

-- what a worker needs for the ops of its lane
pub record HasNeeds (ops : List OnOp) (w : WorkerShown) (c : CpuShown) : Type 0 where
  pub ready : Ready w c
  pub fits : Fit (may_count c) w.entries (map (λ on. on.op) ops) (at_start w)
  pub failed : w.failed + length ops < 2 ^ 64
  pub uncounted : w.uncounted + length ops < 2 ^ 64

-- nothing where it has no op
abbrev pub IsLaneReady : List OnOp → WorkerShown → CpuShown → Type 0
IsLaneReady [] w c = ⊤
IsLaneReady (on ∷ ops) w c = HasNeeds (on ∷ ops) w c

-- worker and CPU as the meaning of the ops leaves them, and as they were where there is no op
abbrev pub IsLaneDone : List OnOp → WorkerShown → WorkerShown → CpuShown → CpuShown → Type 0
IsLaneDone [] w v c d = (v ≡ w) × (d ≡ c)
IsLaneDone (on ∷ ops) w v c d = Leaves (all_done w.entries (map (λ on. on.op) (on ∷ ops)) (at_start w)) w v c d

-- lane by lane, a worker and a CPU for each
abbrev pub AreReady : List (List OnOp) → List WorkerShown → List CpuShown → Type 0
AreReady [] [] [] = ⊤
AreReady (ops ∷ lanes) (w ∷ workers) (c ∷ cpus) = IsLaneReady ops w c × AreReady lanes workers cpus
AreReady lanes workers cpus = ⊥

-- the workers before and after, and the CPUs before and after
abbrev pub AreDone : List (List OnOp) → List WorkerShown → List WorkerShown → List CpuShown → List CpuShown → Type 0
AreDone [] [] [] [] [] = ⊤
AreDone (ops ∷ lanes) (w ∷ workers) (v ∷ workers_after) (c ∷ cpus) (d ∷ cpus_after) = IsLaneDone ops w v c d × AreDone lanes workers workers_after cpus cpus_after
AreDone lanes workers workers_after cpus cpus_after = ⊥
