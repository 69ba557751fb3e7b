use Rattle.std.proofs.Common.{◌≡◌, ℕ, All}
use Rattle.tag_rule.specs.Shown.{Board}
use Rattle.trace_play.proofs.Entries.{put_all}
use Rattle.round_worker.specs.declared.keys.Kept.{Kept}
use Rattle.round_worker.specs.Kept.{IsKept}
use Rattle.round_worker.specs.Parting.{AreKept}
use Rattle.round_keys.proofs.store.KeyStore.take_all.Given as goal

abbrev pub invariant-loop-key : goal.invariant-loop-key
invariant-loop-key l = record {
  next : (goal.iterator-loop-key).can_next l.key-iterator;
  finite : (goal.iterator-loop-key).is_finite l.key-iterator;
  put : put_all l.self l.key-iterator ≡ put_all l.initial.self l.initial.key-iterator;
  kept : (board : Board) → AreKept board l.initial.self → All (λ (entry : ℕ × Kept). IsKept board entry.1) l.initial.key-iterator → AreKept board l.self × All (λ (entry : ℕ × Kept). IsKept board entry.1) l.key-iterator;
}
