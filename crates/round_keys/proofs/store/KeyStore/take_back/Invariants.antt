use Rattle.std.proofs.Common.{◌≡◌, ◌++◌, All, drop, map, take}
use Rattle.std.specs.Prelude.{fold}
use Rattle.tag_rule.specs.Shown.{Board}
use Rattle.trace_play.specs.Alone.{put_all}
use Rattle.round_worker.specs.Kept.{live_of}
use Rattle.round_worker.specs.Parting.{AreKept}
use Rattle.round_worker.specs.Shown.{WorkerShown}
use Rattle.round_keys.specs.Handed.{without_live}
use Rattle.round_keys.proofs.store.KeyStore.take_back.Given as goal

abbrev pub invariant-loop-worker : goal.invariant-loop-worker
invariant-loop-worker l = record {
  store : live_of l.self ≡ fold (λ into (w : WorkerShown). put_all into w.live) (live_of l.initial.self) (take l.worker-index l.initial.workers);
  workers : l.workers ≡ map without_live (take l.worker-index l.initial.workers) ++ drop l.worker-index l.initial.workers;
  still : (board : Board) → AreKept board l.initial.self → All (λ (w : WorkerShown). w.board ≡ board) l.initial.workers → AreKept board l.self;
}
