-- What a trace prints of a machine.
use Rattle.std.specs.Prelude.{ℕ, ◌+◌, Bool, true, false, not, Option, Some, None, List, [], ◌++◌, length, map, filter, codes, decimal, if◌then◌else◌}
use Rattle.std.specs.List.{flat_map, range_with_len}
use Rattle.tag_model.specs.declared.state.Kind.TheVariants.{Bytes, Calls}
use Rattle.tag_model.specs.Wrap.{wrap}
use Rattle.tag_section.specs.Section.{Section, section_at}
use Rattle.module_area.specs.declared.entry.Entry.{Entry}
use Rattle.module_area.specs.Entries.{is_dead}
use Rattle.allocinfo.specs.declared.rows.Row.{Row}
use Rattle.allocinfo.specs.Text.{rows_text}
use Rattle.allocinfo.specs.Rank.{top_text}
use Rattle.tag_model.specs.Reference.{live_total}
use Rattle.trace_play.specs.Machine.{Machine, live_cells}

-- ---- `print`

-- the row of a tag: the bytes and the number of the references under it
abbrev pub tag_row : Machine → ℕ → ℕ → Bool → ℕ → Row
tag_row m section start kept index = record {
  bytes = wrap (live_total Bytes (start + index) (live_cells m));
  calls = wrap (live_total Calls (start + index) (live_cells m));
  section = section;
  index = index;
  kept = kept;
}

-- those of the first tags of a section
abbrev pub section_rows : Machine → ℕ → ℕ → Bool → ℕ → List Row
section_rows m section start kept count = map (tag_row m section start kept) (range_with_len 0 count)

abbrev pub entry_rows : Machine → Entry → List Row
entry_rows m entry = section_rows m entry.section entry.start (is_dead entry.state) entry.length

abbrev pub dead_of : Machine → List Entry
dead_of m = filter (λ entry. is_dead entry.state) m.area.entries

abbrev pub loaded_of : Machine → List Entry
loaded_of m = filter (λ entry. not (is_dead entry.state)) m.area.entries

-- the kernel's, those of the loaded modules by rising id, and where kept ranges are shown those of these
abbrev pub all_rows : List Section → Bool → Machine → List Row
all_rows sections shows_kept m =
    section_rows m 0 0 false (length (section_at sections 0).tags)
    ++ flat_map (entry_rows m) (loaded_of m)
    ++ (if shows_kept then flat_map (entry_rows m) (dead_of m) else [])

-- the rows, or so many of them with the greatest numbers
abbrev pub some_rows_text : Option ℕ → List Section → List Row → List ℕ
some_rows_text None sections rows = rows_text sections rows
some_rows_text (Some top) sections rows = top_text top sections rows

abbrev pub print_text : List Section → Bool → Option ℕ → Machine → List ℕ
print_text sections shows_kept top m = some_rows_text top sections (all_rows sections shows_kept m)

-- ---- `areas`

abbrev pub state_text : Bool → List ℕ
state_text true = codes "kept"
state_text false = codes "loaded"

-- `area NAME START+LENGTH STATE`
unfoldable pub area_text : List Section → Entry → List ℕ
area_text sections entry =
    codes "area " ++ (section_at sections entry.section).name ++ codes " " ++ decimal entry.start ++ codes "+" ++ decimal entry.length
    ++ codes " " ++ state_text (is_dead entry.state) ++ codes "\n"

-- `areas: N`, and a line for each range by rising id
unfoldable pub areas_text : List Section → Machine → List ℕ
areas_text sections m = codes "areas: " ++ decimal (length m.area.entries) ++ codes "\n" ++ flat_map (area_text sections) m.area.entries
