-- The lines of `areas`, and the last line.
use Rattle.std.specs.Prelude.{ℕ, List, ◌++◌, length, codes, count_by, decimal, sum_by}
use Rattle.std.specs.List.{flat_map}
use Rattle.tag_section.specs.Section.{Section}
use Rattle.module_area.specs.declared.entry.Entry.{Entry}
use Rattle.trace.specs.declared.traces.Item.{Item}
use Rattle.trace_play.specs.Machine.{Machine, live_count}
use Rattle.trace_play.specs.Play.{is_round, ops_in}
use Rattle.trace_play.specs.Printed.{area_text, dead_of}
use Rattle.run_text.specs.declared.done.Done.{Done}

-- `areas: N`, and a line for each entry
unfoldable pub area_lines : List Section → List Entry → List ℕ
area_lines sections entries = codes "areas: " ++ decimal (length entries) ++ codes "\n" ++ flat_map (area_text sections) entries

-- `done: rounds R ops O failed F uncounted U live L kept D`
unfoldable pub done_line : Done → List ℕ
done_line done =
    codes "done: rounds " ++ decimal done.rounds ++ codes " ops " ++ decimal done.ops
    ++ codes " failed " ++ decimal done.failed ++ codes " uncounted " ++ decimal done.uncounted
    ++ codes " live " ++ decimal done.live ++ codes " kept " ++ decimal done.kept ++ codes "\n"

-- the numbers of a body and the machine that it leaves
abbrev pub done_of : List Item → Machine → Done
done_of body m = record {
  rounds = count_by is_round body;
  ops = sum_by ops_in body;
  failed = m.tally.failed;
  uncounted = m.tally.uncounted;
  live = live_count m;
  kept = length (dead_of m);
}
