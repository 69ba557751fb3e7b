use Rattle.std.proofs.Common.{◌≡◌, ◌<◌, length, get_or, set, take, sym, ap, subst, ◌∙◌, arith}
use Rattle.std.specs.Prelude.{fold}
use Rattle.std.proofs.lemmas.List.Edits.{map_over_more}
use Rattle.std.proofs.lemmas.List.Sums.{fold_more}
use Rattle.tag_rule.specs.Shown.{Board}
use Rattle.trace_play.specs.Live.{Live}
use Rattle.trace_play.specs.Alone.{put_all}
use Rattle.round_worker.specs.Kept.{live_of}
use Rattle.round_worker.specs.Parting.{AreKept}
use Rattle.round_worker.specs.Shown.{WorkerShown}
use Rattle.round_keys.specs.Handed.{without_live}
use Rattle.round_keys.proofs.StoredLemmas.{still_itself, still_there}
use Rattle.round_keys.proofs.store.KeyStore.take_back.Goals as goal

pub loop-worker-preserved : goal.loop-worker-preserved
loop-worker-preserved c =
    let ws = c.args.workers.now in
    let i = c.loop-worker.worker-index in
    let d = c.worker-item.result in
    let w = get_or c.loop-worker.workers i d in
    let held = c.loop-worker.invariant in
    let low : i < length ws = omega (arith, c.loop-worker-test.true, c.loop-worker.auto.workers) in
    let there : w ≡ get_or ws i d = still_there without_live ws c.loop-worker.workers i d low held.workers in
    let itself : w ≡ get_or c.loop-worker.workers i w = still_itself c.loop-worker.workers i d in
    let step = λ (into : Live) (x : WorkerShown). put_all into x.live in
    record {
      store =
          c.in_ok-take_from.ensures.store
          ∙ ap (λ (into : Live). put_all into w.live) held.store
          ∙ ap (λ (x : WorkerShown). put_all (fold step (live_of c.args.self.now) (take i ws)) x.live) there
          ∙ sym (fold_more step (live_of c.args.self.now) ws i d low);
      workers = ap (λ (x : WorkerShown). set c.loop-worker.workers i x) c.in_ok-take_from.ensures.worker ∙ map_over_more without_live ws c.loop-worker.workers i w low held.workers itself;
      still = λ board own all.
          let same_board : w.board ≡ board = ap (λ (x : WorkerShown). x.board) there ∙ all i d low in
          subst (λ (b : Board). AreKept b c.take_from.new.self) same_board
          (c.in_ok-take_from.ensures.still (subst (λ (b : Board). AreKept b c.loop-worker.self) (sym same_board) (held.still board own all)));
    }
