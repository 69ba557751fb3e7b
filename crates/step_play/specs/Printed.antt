-- What a schedule prints of the moves so far.
use Rattle.std.specs.Prelude.{◌+◌, Bool, true, false, ℕ, List, [], ◌++◌, length, map, sum_by, codes, decimal, if◌then◌else◌}
use Rattle.std.specs.List.{range_with_len, flat_map}
use Rattle.tag_model.specs.declared.shape.Shape.{Shape}
use Rattle.tag_model.specs.declared.state.Kind.{Kind}
use Rattle.tag_model.specs.declared.state.Kind.TheVariants.{Bytes, Calls}
use Rattle.tag_model.specs.Wrap.{wrap}
use Rattle.tag_model.specs.Moves.{Move, moved_word}
use Rattle.tag_section.specs.Section.{Section, section_at, tag_at}
use Rattle.module_area.specs.declared.entry.Entry.{Entry}
use Rattle.module_area.specs.declared.entry.State.{State}
use Rattle.module_area.specs.declared.entry.State.TheVariants.{Loaded, Dead}
use Rattle.module_ops.specs.declared.event.Cause.{Cause}
use Rattle.module_ops.specs.declared.event.Cause.TheVariants as cause
use Rattle.module_ops.specs.declared.event.Event.{Event}
use Rattle.module_ops.specs.declared.event.Event.TheVariants.{Stepped, Released, Kept}
use Rattle.allocinfo.specs.declared.rows.Row.{Row}
use Rattle.allocinfo.specs.Text.{rows_text}

-- the sizes and the sections that a schedule is about
pub record Setting : Type 0 where
  pub shape : Shape
  pub sections : List Section

-- how many tags the kernel's section has
abbrev pub kernel_len : Setting → ℕ
kernel_len s = length (section_at s.sections 0).tags

-- `cpu C bytes B calls K`
unfoldable pub cpu_text : ℕ → ℕ → ℕ → List ℕ
cpu_text cpu bytes calls = codes "cpu " ++ decimal cpu ++ codes " bytes " ++ decimal bytes ++ codes " calls " ++ decimal calls ++ codes "\n"

abbrev pub cpu_line : List Move → ℕ → ℕ → List ℕ
cpu_line moves tag cpu = cpu_text cpu (moved_word moves cpu Bytes tag) (moved_word moves cpu Calls tag)

-- each CPU's words of a tag
abbrev pub words_text : ℕ → List Move → ℕ → List ℕ
words_text cpus moves tag = flat_map (cpu_line moves tag) (range_with_len 0 cpus)

-- the words of a kind of a tag, added over the CPUs
abbrev pub total_moved : ℕ → List Move → Kind → ℕ → ℕ
total_moved cpus moves kind tag = wrap (sum_by (λ cpu. moved_word moves cpu kind tag) (range_with_len 0 cpus))

-- the rows of a section's first tags, which stand from a tag number on: for each the sums of its words
abbrev pub section_rows : Setting → List Move → ℕ → ℕ → ℕ → List Row
section_rows s moves section start count =
    map (λ index. record { bytes = total_moved s.shape.cpus moves Bytes (start + index); calls = total_moved s.shape.cpus moves Calls (start + index); section = section; index = index; kept = false }) (range_with_len 0 count)

abbrev pub is_loaded : State → Bool
is_loaded Loaded = true
is_loaded Dead = false

-- the rows of a module that is loaded
abbrev pub module_rows : Setting → List Move → Entry → List Row
module_rows s moves e = if is_loaded e.state then section_rows s moves e.section e.start e.length else []

-- the kernel's rows, and those of the loaded modules by rising id
abbrev pub all_rows : Setting → List Entry → List Move → List Row
all_rows s entries moves = section_rows s moves 0 0 (kernel_len s) ++ flat_map (module_rows s moves) entries

-- allocinfo of the sums
abbrev pub allocinfo_text : Setting → List Entry → List Move → List ℕ
allocinfo_text s entries moves = rows_text s.sections (all_rows s entries moves)

-- ---- what a sweep tells

abbrev pub cause_text : Cause → List ℕ
cause_text cause.Unload = codes "unload "
cause_text cause.Clean = codes "clean "

abbrev pub kind_text : Kind → List ℕ
kind_text Bytes = codes " bytes "
kind_text Calls = codes " calls "

-- `unload NAME: released`
unfoldable pub released_text : List Section → ℕ → Cause → List ℕ
released_text sections section by = cause_text by ++ (section_at sections section).name ++ codes ": released" ++ codes "\n"

-- `unload NAME: kept FILE:LINE bytes SUM`
unfoldable pub kept_text : List Section → ℕ → ℕ → Kind → ℕ → Cause → List ℕ
kept_text sections section index kind sum by =
    let tag = tag_at sections section index in
    cause_text by ++ (section_at sections section).name ++ codes ": kept " ++ tag.file ++ codes ":" ++ decimal tag.line ++ kind_text kind ++ decimal sum ++ codes "\n"

abbrev pub event_text : List Section → Event → List ℕ
event_text sections Stepped = []
event_text sections (Released section by) = released_text sections section by
event_text sections (Kept section index kind sum by) = kept_text sections section index kind sum by
