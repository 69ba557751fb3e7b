-- Keys on their way to the workers.
use Rattle.std.specs.Prelude.{ℕ, ◌≡◌, ◌==◌, List, Option, Some, None, is_some, not, if◌then◌else◌}
use Rattle.std.specs.Option.{option_or}
use Rattle.trace.specs.declared.traces.TraceOp.{TraceOp}
use Rattle.trace_play.specs.Alone.{kept}
use Rattle.trace_play.specs.Live.{Live}
use Rattle.round_worker.specs.Kept.{KeyList, live_of}
use Rattle.round_worker.specs.Shown.{WorkerShown}
use Rattle.round_keys.specs.Handed.{is_cpu, names, with_lives}

-- who gets a key, once one more is handed out, or those of one more op: who got it first keeps it
abbrev pub with_key : ℕ → ℕ → (ℕ → Option ℕ) → ℕ → Option ℕ
with_key key cpu who other = option_or (who other) (if key == other then Some cpu else None)

abbrev pub with_op : TraceOp → ℕ → (ℕ → Option ℕ) → ℕ → Option ℕ
with_op op cpu who other = option_or (who other) (if names op other then Some cpu else None)

-- of the keys of a list each worker has those that it gets, and the store has those that nobody gets
pub record HandedSo (who : ℕ → Option ℕ) (live : Live) (from : List WorkerShown) (store : KeyList) (now : List WorkerShown) : Type 0 where
  pub rest : live_of store ≡ kept (λ key. not (is_some (who key))) live
  pub given : now ≡ with_lives (λ cpu. kept (λ key. is_cpu cpu (who key)) live) from
