-- Which refusals a call may give.
use Rattle.tag_section.specs.declared.sections.SectionError.{SectionError}
use Rattle.tag_section.specs.declared.sections.SectionError.TheVariants.{KernelFirst, BadName, SameName, TooManySections, TooManyTags, Memory}

-- a refusal of a name by its form and the sections before it
abbrev pub IsNameRefusal : SectionError → Type 0
IsNameRefusal KernelFirst = Unit {0}
IsNameRefusal BadName = Unit {0}
IsNameRefusal SameName = Unit {0}
IsNameRefusal TooManySections = Unit {0}
IsNameRefusal TooManyTags = ⊥
IsNameRefusal (Memory _) = ⊥

-- a refusal of a tag
abbrev pub IsTagRefusal : SectionError → Type 0
IsTagRefusal KernelFirst = ⊥
IsTagRefusal BadName = ⊥
IsTagRefusal SameName = ⊥
IsTagRefusal TooManySections = ⊥
IsTagRefusal TooManyTags = Unit {0}
IsTagRefusal (Memory _) = Unit {0}
