use Rattle.std.proofs.Common.{◌≡◌, ◌+◌, ◌≤◌, [], length, map}
use Rattle.info_read.specs.Views.{row_view}
use Rattle.text_form.specs.Lines.{lines_of, tail_of}
use Rattle.info_read.specs.Reading.{rows_from}
use Rattle.info_read.proofs.reading.body_rows.Given as goal

-- reading what is left from here gives what reading all gives
abbrev pub invariant-loop-line : goal.invariant-loop-line
invariant-loop-line l = record {
  read : rows_from l.number (lines_of l.rest) (tail_of l.rest) (map row_view l.rows.items) ≡ rows_from 3 (lines_of l.fn.text) (tail_of l.fn.text) [];
  counted : l.number + length l.rest ≤ length l.fn.text + 3;
}

abbrev pub decreases-loop-line : goal.decreases-loop-line
decreases-loop-line l = length l.rest
