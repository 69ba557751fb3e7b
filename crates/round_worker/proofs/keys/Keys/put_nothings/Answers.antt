use Rattle.std.proofs.Common.{◌≡◌, ℕ, nat_cmp, ap, ◌∙◌, arith}
use Rattle.std.specs.FinMap.Entries.{put}
use Rattle.trace_play.specs.Live.{part_key}
use Rattle.round_worker.specs.declared.keys.Kept.TheVariants.{Nothing}
use Rattle.round_worker.proofs.KeptLemmas.{kept_put, put_next}
use Rattle.round_worker.proofs.keys.Keys.put_nothings.Goals as goal

pub loop-place-preserved : goal.loop-place-preserved
loop-place-preserved c =
    let put_there : c.put.new.self ≡ put nat_cmp (part_key c.args.key c.args.first c.loop-place.place) (Nothing c.args.order) c.loop-place.self =
    c.in_ok-put.ensures.put ∙ ap (λ (k : ℕ). put nat_cmp k (Nothing c.args.order) c.loop-place.self) c.part_key.ensures in
    record {
      put = put_next c.args.key c.args.first c.loop-place.place c.args.count (Nothing c.args.order) c.loop-place.self c.put.new.self (omega (arith, c.loop-place-test.true)) put_there ∙ c.loop-place.invariant.put;
      kept = λ board own. kept_put board c.loop-place.self c.put.new.self (part_key c.args.key c.args.first c.loop-place.place) (Nothing c.args.order) put_there (c.loop-place.invariant.kept board own) c.requires.small;
    }
