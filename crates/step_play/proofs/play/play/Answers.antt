use Rattle.std.proofs.Common.{refl}
use Rattle.step_play.specs.Playing.{own_setting}
use Rattle.step_play.proofs.Stepping.{reaches_line, sizes_kept, own_kept}
use Rattle.step_play.proofs.play.play.Goals as goal

pub loop-line-preserved : goal.loop-line-preserved
loop-line-preserved c = record {
  reaches = λ p shows. reaches_line (own_setting c.args.core.now) (own_setting c.loop-line.core) c.loop-line.core c.play_line.new.core c.loop-line.out.items c.play_line.new.out.items _ _ c.args.lines.now c.loop-line.line-index p
      (own_kept c.args.core.now c.loop-line.core c.loop-line.invariant.sizes) c.loop-line-test.true refl (c.loop-line.invariant.reaches p shows) c.in_default.ensures.meaning;
  sizes = sizes_kept c.args.core.now c.loop-line.core c.play_line.new.core c.loop-line.invariant.sizes c.in_default.ensures.sizes;
}
