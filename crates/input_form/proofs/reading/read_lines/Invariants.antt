use Rattle.std.proofs.Common.{◌≡◌, ◌+◌, ◌≤◌, length}
use Rattle.text_form.specs.Lines.{lines_of, tail_of}
use Rattle.input_form.specs.Reading.{judged_lines, word_line}
use Rattle.input_form.proofs.reading.read_lines.Given as goal

-- judging what is left from here gives what judging all gives
abbrev pub invariant-loop-line : goal.invariant-loop-line
invariant-loop-line g l = record {
  judged : judged_lines (word_line g.B.Body.keywords g.B.Body.begun g.B.Body.says) l.number (lines_of l.rest) (tail_of l.rest) l.reading ≡ judged_lines (word_line g.B.Body.keywords g.B.Body.begun g.B.Body.says) 2 (lines_of l.fn.text) (tail_of l.fn.text) l.fn.reading;
  counted : l.number + length l.rest ≤ length l.fn.text + 2;
}

abbrev pub decreases-loop-line : goal.decreases-loop-line
decreases-loop-line g l = length l.rest
