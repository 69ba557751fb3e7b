-- What a trace means: a fold over its body that keeps the machine and the text so far, up to the first `load` that is refused.
use Rattle.std.specs.Prelude.{ℕ, ◌+◌, ◌==◌, Bool, true, false, Option, Some, None, Result, Ok, Err, List, [], ◌∷◌, ◌++◌, length, sum_by, count_by, codes, decimal, unwrap_or, if◌then◌else◌}
use Rattle.tag_section.specs.Section.{section_at}
use Rattle.module_area.specs.declared.entry.Entry.{Entry}
use Rattle.module_area.specs.declared.entry.State.TheVariants.{Loaded}
use Rattle.module_area.specs.Area.{least_start}
use Rattle.input_form.specs.declared.code.Code.{Code}
use Rattle.input_form.specs.declared.code.Code.TheVariants as code
use Rattle.trace.specs.declared.traces.Item.{Item}
use Rattle.trace.specs.declared.traces.Item.TheVariants as item
use Rattle.trace.specs.declared.traces.Trace.{Trace}
use Rattle.trace_play.specs.Machine.{Machine, machine_of, live_count}
use Rattle.trace_play.specs.Barrier.{round_done}
use Rattle.trace_play.specs.Printed.{print_text, areas_text, dead_of}

pub record Played : Type 0 where
  pub machine : Machine
  pub text : List ℕ

-- what was played, and where it is refused the line and the code
pub record Outcome : Type 0 where
  pub played : Played
  pub refused : Option (ℕ × Code)

-- ---- `load`

abbrev pub section_len : Trace → ℕ → ℕ
section_len trace section = length (section_at trace.sections section).tags

abbrev pub unless_room : ℕ → Option ℕ → Option (ℕ × Code)
unless_room line None = Some (line, code.NoRoom)
unless_room line (Some start) = None

-- there are 64 ranges, or no gap that is long enough
abbrev pub load_refusal : ℕ → ℕ → Machine → Option (ℕ × Code)
load_refusal line size m = if length m.area.entries == 64 then Some (line, code.Full) else unless_room line (least_start m.area size)

-- the module gets the next id and the least start
abbrev pub loaded : ℕ → ℕ → Machine → Machine
loaded section size m =
    let entry : Entry = record { id = m.last_id + 1; section = section; start = unwrap_or (least_start m.area size) 0; length = size; state = Loaded; users = 0 } in
    record m { area = record m.area { entries = m.area.entries ++ entry ∷ [] }; last_id = m.last_id + 1 }

-- ---- the body

abbrev pub refusal_of : Trace → Item → Played → Option (ℕ × Code)
refusal_of trace (item.Round ops) p = None
refusal_of trace (item.Load line section) p = load_refusal line (section_len trace section) p.machine
refusal_of trace item.Print p = None
refusal_of trace item.Areas p = None

abbrev pub item_played : Trace → Option ℕ → Item → Played → Played
item_played trace top (item.Round ops) p = record p { machine = round_done ops p.machine }
item_played trace top (item.Load line section) p = record p { machine = loaded section (section_len trace section) p.machine }
item_played trace top item.Print p = record p { text = p.text ++ print_text trace.sections trace.shows_kept top p.machine }
item_played trace top item.Areas p = record p { text = p.text ++ areas_text trace.sections p.machine }

abbrev pub play : Trace → Option ℕ → List Item → Played → Outcome
play trace top [] p = record { played = p; refused = None }
play trace top (item ∷ items) p = elim (refusal_of trace item p) [
  | None ↦ play trace top items (item_played trace top item p)
  | Some why ↦ record { played = p; refused = Some why }
]

-- ---- the whole

abbrev pub is_round : Item → Bool
is_round (item.Round ops) = true
is_round (item.Load line section) = false
is_round item.Print = false
is_round item.Areas = false

abbrev pub ops_in : Item → ℕ
ops_in (item.Round ops) = length ops
ops_in (item.Load line section) = 0
ops_in item.Print = 0
ops_in item.Areas = 0

-- `done: rounds R ops O failed F uncounted U live L kept D`
unfoldable pub done_text : List Item → Machine → List ℕ
done_text body m =
    codes "done: rounds " ++ decimal (count_by is_round body) ++ codes " ops " ++ decimal (sum_by ops_in body)
    ++ codes " failed " ++ decimal m.tally.failed ++ codes " uncounted " ++ decimal m.tally.uncounted
    ++ codes " live " ++ decimal (live_count m) ++ codes " kept " ++ decimal (length (dead_of m)) ++ codes "\n"

-- before the first item
abbrev pub nothing_played : Trace → Played
nothing_played trace = record { machine = machine_of trace; text = [] }

-- after some items
abbrev pub played_so_far : Trace → Option ℕ → List Item → Outcome
played_so_far trace top items = play trace top items (nothing_played trace)

abbrev pub trace_played : Trace → Option ℕ → Outcome
trace_played trace top = played_so_far trace top trace.body

-- the text of what was played, with the last line
abbrev pub run_text : Trace → Played → List ℕ
run_text trace p = p.text ++ done_text trace.body p.machine

abbrev pub unless_refused : List ℕ → Option (ℕ × Code) → Result (List ℕ) (ℕ × Code)
unless_refused text None = Ok text
unless_refused text (Some why) = Err why

-- the text of a trace, or the line and the code that refuse it
abbrev pub trace_text : Trace → Option ℕ → Result (List ℕ) (ℕ × Code)
trace_text trace top = unless_refused (run_text trace (trace_played trace top).played) (trace_played trace top).refused
