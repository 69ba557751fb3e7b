-- Modules and tags, as the lines of the body name them.
use Rattle.std.specs.Prelude.{ℕ, ◌<◌, ◌≤◌, List, Result, Ok, ◌==◌, nat_lt, length}
use Rattle.std.specs.List.{before_first, after_first}
use Rattle.std.specs.Option.{ok_or}
use Rattle.tag_section.specs.Section.{Section, section_at, number_of}
use Rattle.text_form.specs.Numbers.{number_below}
use Rattle.input_form.specs.declared.code.Code.{Code}
use Rattle.input_form.specs.declared.code.Code.TheVariants as code
use Rattle.input_form.specs.Judging.{◌>>=◌, ◌>>◌, need}

-- the section of a declared module
unfoldable pub module_word : List Section → List ℕ → Result ℕ Code
module_word sections word = do
  section ← ok_or (number_of sections word) code.Module
  need (nat_lt 0 section) code.Module
  Ok section

-- `NAME:INDEX`, a section and the index of one of its tags
unfoldable pub tag_word : List Section → List ℕ → Result (ℕ × ℕ) Code
tag_word sections word = do
  section ← ok_or (number_of sections (before_first (λ b. b == 58) word)) code.Tag
  index ← ok_or (number_below (length (section_at sections section).tags) (after_first (λ b. b == 58) word)) code.Tag
  Ok (section, index)

-- a key
abbrev pub IsKey : ℕ → Type 0
IsKey key = (1 ≤ key) × (key ≤ 65535)

-- a declared section that is a module's
abbrev pub IsModule : List Section → ℕ → Type 0
IsModule sections section = (0 < section) × (section < length sections)

-- a declared section, and the index of one of its tags
abbrev pub IsTag : List Section → ℕ → ℕ → Type 0
IsTag sections section index = (section < length sections) × (index < length (section_at sections section).tags)
