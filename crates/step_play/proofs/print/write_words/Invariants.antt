use Rattle.std.proofs.Common.{◌≡◌, ◌++◌}
use Rattle.step_play.specs.Printed.{Setting, words_text}
use Rattle.step_play.specs.Schedule.{Played}
use Rattle.step_play.specs.Playing.{Shows}
use Rattle.step_play.proofs.print.write_words.Given as goal

abbrev pub invariant-loop-cpu : goal.invariant-loop-cpu
invariant-loop-cpu l = (s : Setting) (p : Played) → Shows s l.core l.fn.out.items p → l.out.items ≡ l.fn.out.items ++ words_text l.cpu p.moves l.tag
