use Rattle.std.proofs.Common.{ℕ, Option, subst, ◌∙◌}
use Rattle.round_worker.specs.Kept.{live_of}
use Rattle.round_worker.proofs.KeyLemmas.{live_rises}
use Rattle.round_keys.specs.Handing.{HandedSo}
use Rattle.round_keys.proofs.HandLemmas.{begins, one_more}
use Rattle.round_keys.proofs.store.KeyStore.hand_out.Goals as goal

pub loop-on-init : goal.loop-on-init
loop-on-init c = record { so = begins c.args.self.now c.args.workers.now c.requires.none; kept = c.requires.kept; still = λ board own. own }

pub loop-on-preserved : goal.loop-on-preserved
loop-on-preserved c = record {
  so =
      subst (λ (who : ℕ → Option ℕ). HandedSo who (live_of c.args.self.now) c.args.workers.now c.hand_op.new.self c.hand_op.new.workers)
      (one_more c.args.ops.now c.loop-on.on-index _ c.loop-on-test.true)
      (c.in_ok-hand_op.ensures.handed _ (live_of c.args.self.now) c.args.workers.now (live_rises c.args.self.now ∙ c.tell.ensures) c.loop-on.invariant.so);
  kept = c.in_ok-hand_op.ensures.kept;
  still = λ board own. c.in_ok-hand_op.ensures.still board (c.loop-on.invariant.still board own);
}
