-- Worked rows: what lines at the limits give.
use Rattle.std.specs.Prelude.{ℕ, List, [], Result, Ok, false, codes, replicate}
use Rattle.std.specs.Option.{ok_or}
use Rattle.tag_section.specs.ModuleName.{kernel_name}
use Rattle.tag_section.specs.Section.{Section}
use Rattle.input_form.specs.declared.code.Code.{Code}
use Rattle.input_form.specs.declared.code.Code.TheVariants as code
use Rattle.input_form.specs.declared.head.Size.{Size}
use Rattle.input_form.specs.Judging.{◌>>=◌, ◌>>◌}
use Rattle.input_form.specs.Head.{size_in, size_line, begun, tag_line, empty_head}

-- the size that a line sets, as the first of an input
abbrev pub size_of : Size → List ℕ → Result ℕ Code
size_of size line = do
  head ← size_line size line empty_head
  ok_or (size_in head size) code.Word

-- some sections, all with one name and no tag
abbrev pub alike : ℕ → List Section
alike count = replicate count (record { name = kernel_name; tags = [] })

-- whether a section `ext` may follow so many
abbrev pub further : ℕ → Result ℕ Code
further count = do
  begun (codes "ext") (alike count)
  Ok count

-- whether a tag line may follow a section
abbrev pub tagged : List ℕ → Result ℕ Code
tagged line = do
  tag_line false line (record empty_head { sections = alike 1 })
  Ok 1
