use Rattle.std.proofs.Common.{All, take}
use Rattle.tag_rule.specs.Shown.{Board}
use Rattle.round_worker.specs.Kept.{live_of}
use Rattle.round_worker.specs.Parting.{AreKept}
use Rattle.round_worker.specs.Shown.{WorkerShown}
use Rattle.round_keys.specs.Handed.{handed_to}
use Rattle.round_keys.specs.Handing.{HandedSo}
use Rattle.round_keys.proofs.store.KeyStore.hand_out.Given as goal

abbrev pub invariant-loop-on : goal.invariant-loop-on
invariant-loop-on l = record {
  so : HandedSo (handed_to (take l.on-index l.ops)) (live_of l.initial.self) l.initial.workers l.self l.workers;
  kept : All (λ (w : WorkerShown). AreKept w.board l.self) l.workers;
  still : (board : Board) → AreKept board l.initial.self → AreKept board l.self;
}
