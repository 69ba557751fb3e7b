use Rattle.std.proofs.Common.{arith}
use Rattle.step_play.proofs.Totals.{cpus_more}
use Rattle.step_play.proofs.print.write_words.Goals as goal

pub loop-cpu-preserved : goal.loop-cpu-preserved
loop-cpu-preserved c = λ s p shows.
    cpus_more s c.args.core.now c.args.out.now.items p c.loop-cpu.out.items c.write_cpu.new.out.items c.loop-cpu.cpu c.args.tag c.cpu_word-bytes.result.0 c.cpu_word-bytes.result.1 shows (omega arith) c.requires.tag
    (c.loop-cpu.invariant s p shows) c.cpu_word-bytes.ensures.bytes c.cpu_word-bytes.ensures.calls c.in_ok-write_cpu.ensures
