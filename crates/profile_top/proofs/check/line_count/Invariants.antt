use Rattle.std.proofs.Common.{◌≡◌, ◌+◌, ◌≤◌, length}
use Rattle.text_form.specs.Lines.{lines_of}
use Rattle.profile_top.proofs.check.line_count.Given as goal

abbrev pub invariant-loop-after : goal.invariant-loop-after
invariant-loop-after l = record {
  lines : l.count + length (lines_of l.rest) ≡ length (lines_of l.text);
  counted : l.count + length l.rest ≤ length l.text;
}

abbrev pub decreases-loop-after : goal.decreases-loop-after
decreases-loop-after l = length l.rest
