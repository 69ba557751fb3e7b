-- What is told of a cell: the tag under which it was counted, with its text.
use Rattle.std.specs.Prelude.{◌≡◌, ℕ, ◌-◌, ◌≤◌, ◌==◌, nat_lt, if◌then◌else◌, Option, Some, None, List, ◌++◌, length}
use Rattle.tag_model.specs.declared.state.Held.{Held}
use Rattle.tag_model.specs.declared.state.Held.TheVariants as held
use Rattle.tag_model.specs.declared.state.Tag.{Tag}
use Rattle.codetag.specs.TagParts.{tag_text}
use Rattle.tag_section.specs.Section.{Section, section_at, tag_at}
use Rattle.module_area.specs.declared.entry.Entry.{Entry}
use Rattle.module_area.specs.Entries.{entry_of}
use Rattle.reclaim.specs.State.{LockedShown}

-- the text of the kernel's tag of a number, if its section has one
abbrev pub kernel_text : List Section → ℕ → Option (List ℕ)
kernel_text sections number = if nat_lt number (length (section_at sections 0).tags) then Some (tag_text (tag_at sections 0 number) None) else None

-- the text of the tag of a number in a module's range
abbrev pub entry_text : List Section → ℕ → Option Entry → Option (List ℕ)
entry_text sections number None = None
entry_text sections number (Some e) = Some (tag_text (tag_at sections e.section (number - e.start)) (Some (section_at sections e.section).name))

-- the text of a tag, by the list's sections
abbrev pub text_of : LockedShown → Tag → Option (List ℕ)
text_of l tag = if tag.module == 0 then kernel_text l.sections tag.number else entry_text l.sections tag.number (entry_of l.area.entries tag.module)

-- where there is a text, the tag is told and the text appended
abbrev pub Appends : Option (List ℕ) → Tag → Option Tag → List ℕ → List ℕ → Type 0
Appends None tag told old new = (told ≡ None) × (new ≡ old)
Appends (Some text) tag told old new = (told ≡ Some tag) × (new ≡ old ++ text)

abbrev pub TellsTag : LockedShown → Held → Option Tag → List ℕ → List ℕ → Type 0
TellsTag l held.None told old new = (told ≡ None) × (new ≡ old)
TellsTag l held.Empty told old new = (told ≡ None) × (new ≡ old)
TellsTag l (held.Counted tag size) told old new = Appends (text_of l tag) tag told old new

-- the cell isn't counted, or is counted under a number at which the kernel's section has no tag
abbrev pub IsUntold : LockedShown → Held → Type 0
IsUntold l held.None = Unit {0}
IsUntold l held.Empty = Unit {0}
IsUntold l (held.Counted tag size) = (tag.module ≡ 0) × (length (section_at l.sections 0).tags ≤ tag.number)
