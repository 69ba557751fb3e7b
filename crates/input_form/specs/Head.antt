-- The sizes and the sections, which stand before the body.
use Rattle.std.specs.Prelude.{ℕ, ◌-◌, ◌<◌, ◌==◌, Bool, ◌&&◌, not, nat_lt, List, [], length, Option, Some, None, is_none, unwrap_or, Result, Ok, Err, ⊤, codes, if◌then◌else◌}
use Rattle.std.specs.Option.{ok_or}
use Rattle.codetag.specs.Names.{is_file, is_function}
use Rattle.codetag.specs.TagParts.{TagParts}
use Rattle.tag_section.specs.ModuleName.{kernel_name, is_module_name}
use Rattle.tag_section.specs.Section.{Section, section_at, number_of, with_section, with_tag, tag_limit}
use Rattle.text_form.specs.Numbers.{number_in}
use Rattle.text_form.specs.Words.{words_of, word_at}
use Rattle.input_form.specs.declared.code.Code.{Code}
use Rattle.input_form.specs.declared.code.Code.TheVariants as code
use Rattle.input_form.specs.declared.head.Head.{Head}
use Rattle.input_form.specs.declared.head.HeadWord.{HeadWord}
use Rattle.input_form.specs.declared.head.HeadWord.TheVariants as word
use Rattle.input_form.specs.declared.head.Size.{Size}
use Rattle.input_form.specs.declared.head.Size.TheVariants as size
use Rattle.input_form.specs.Judging.{◌>>=◌, ◌>>◌, need}
use Rattle.input_form.specs.Words.{is_word, number_word}

-- what a first word of both languages says; a language may have more sizes
unfoldable pub head_word : List ℕ → Result HeadWord Code
head_word name =
    if is_word (codes "cpus") name then Ok (word.Size size.Cpus) else
    if is_word (codes "area") name then Ok (word.Size size.Area) else
    if is_word (codes "kernel") name then Ok word.Kernel else
    if is_word (codes "module") name then Ok word.Module else
    if is_word (codes "tag") name then Ok word.Tag else
    Err code.Word

-- the range of each size
abbrev pub least : Size → ℕ
least size.Cpus = 1
least size.Area = 0
least size.Frames = 1
least size.Vectors = 0

abbrev pub most : Size → ℕ
most size.Cpus = 64
most size.Area = 896
most size.Frames = 1024
most size.Vectors = 64

abbrev pub size_in : Head → Size → Option ℕ
size_in head size.Cpus = head.cpus
size_in head size.Area = head.area
size_in head size.Frames = head.frames
size_in head size.Vectors = head.vectors

abbrev pub with_size : Head → Size → ℕ → Head
with_size head size.Cpus value = record head { cpus = Some value }
with_size head size.Area value = record head { area = Some value }
with_size head size.Frames value = record head { frames = Some value }
with_size head size.Vectors value = record head { vectors = Some value }

abbrev pub with_sections : Head → Result (List Section) Code → Result Head Code
with_sections head sections = do
  new ← sections
  Ok (record head { sections = new })

-- a size, once, before the sections
unfoldable pub size_line : Size → List ℕ → Head → Result Head Code
size_line size line head = do
  need (length head.sections == 0) code.Order
  need (is_none (size_in head size)) code.Repeat
  need (length (words_of line) == 2) code.Word
  value ← number_word (least size) (most size) (word_at line 1)
  Ok (with_size head size value)

-- the kernel's section comes first
unfoldable pub kernel_line : List ℕ → Head → Result Head Code
kernel_line line head = do
  need (length head.sections == 0) code.Order
  need (length (words_of line) == 1) code.Word
  Ok (record head { sections = with_section head.sections kernel_name })

-- nothing is set, and no section is there
abbrev pub empty_head : Head
empty_head = record { cpus = None; area = None; frames = None; vectors = None; sections = [] }

-- there are 4 CPUs where no line says otherwise
abbrev pub cpus_of : Head → ℕ
cpus_of head = unwrap_or head.cpus 4

-- there is a section, and the last one has a tag
unfoldable pub section_form : List Section → Result ⊤ Code
section_form sections = do
  need (nat_lt 0 (length sections)) code.Order
  need (nat_lt 0 (length (section_at sections (length sections - 1)).tags)) code.Empty

-- a further section, of a new name
unfoldable pub begun : List ℕ → List Section → Result (List Section) Code
begun name sections = do
  need (is_module_name name) code.Name
  need (is_none (number_of sections name)) code.Name
  need (not (length sections == 65)) code.Sections
  Ok (with_section sections name)

-- `module NAME`
unfoldable pub module_line : Bool → List ℕ → Head → Result Head Code
module_line in_body line head = do
  need (not in_body) code.Order
  section_form head.sections
  need (length (words_of line) == 2) code.Word
  with_sections head (begun (word_at line 1) head.sections)

-- a tag, by its file, its line where that is a number of the range, and its function
unfoldable pub tag_of : List ℕ → Option ℕ → List ℕ → Result TagParts Code
tag_of file number function = do
  need (is_file file) code.File
  line ← ok_or number code.Number
  need (is_function function) code.Function
  Ok (record { file = file; line = line; function = function })

-- one tag more in the last section
unfoldable pub added : TagParts → List Section → Result (List Section) Code
added tag sections = do
  need (not (length (section_at sections (length sections - 1)).tags == tag_limit (length sections - 1))) code.Tags
  Ok (with_tag sections tag)

-- `tag FILE LINE FUNCTION`
unfoldable pub tag_line : Bool → List ℕ → Head → Result Head Code
tag_line in_body line head = do
  need (nat_lt 0 (length head.sections) && not in_body) code.Order
  need (length (words_of line) == 4) code.Word
  tag ← tag_of (word_at line 1) (number_in 1 4294967295 (word_at line 2)) (word_at line 3)
  with_sections head (added tag head.sections)

-- a line that stands before the body, by its first word
unfoldable pub head_line : HeadWord → Bool → List ℕ → Head → Result Head Code
head_line (word.Size size) in_body line head = size_line size line head
head_line word.Kernel in_body line head = kernel_line line head
head_line word.Module in_body line head = module_line in_body line head
head_line word.Tag in_body line head = tag_line in_body line head

-- each section has a tag
abbrev pub AreTagged : List Section → Type 0
AreTagged sections = (k : ℕ) → k < length sections → 0 < length (section_at sections k).tags
