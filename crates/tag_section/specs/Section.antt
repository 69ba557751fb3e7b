-- Sections of code tags: a list, in which a section's number is its place.
use Rattle.std.specs.Prelude.{ℕ, ◌≡◌, ◌≢◌, ◌-◌, ◌<◌, ◌≤◌, ◌==◌, List, [], ◌∷◌, ◌++◌, Option, IsNone, length, map, position, slice_index_or, slice_set, if◌then◌else◌}
use Rattle.std.specs.Str.{bytes_eq}
use Rattle.codetag.specs.TagParts.{TagParts}
use Rattle.tag_section.specs.ModuleName.{kernel_name, IsModuleName}

-- a section: its name, and its tags in their order
pub record Section : Type 0 where
  pub name : List ℕ
  pub tags : List TagParts

-- what stands where no section is
abbrev pub no_section : Section
no_section = record { name = []; tags = [] }

-- what stands where no tag is
abbrev pub no_tag : TagParts
no_tag = record { file = []; line = 0; function = [] }

-- the section with the number
abbrev pub section_at : List Section → ℕ → Section
section_at sections number = slice_index_or sections number no_section

-- how many tags a section has
abbrev pub tags_in : List Section → ℕ → ℕ
tags_in sections number = length (section_at sections number).tags

-- the tag with the index in the section with the number
abbrev pub tag_at : List Section → ℕ → ℕ → TagParts
tag_at sections number index = slice_index_or (section_at sections number).tags index no_tag

-- the names of the sections, in their order
abbrev pub names_of : List Section → List (List ℕ)
names_of sections = map (λ section. section.name) sections

-- the number of the section with the name
abbrev pub number_of : List Section → List ℕ → Option ℕ
number_of sections name = position (λ other. bytes_eq other name) (names_of sections)

-- the sections with a new one at their end, which has no tags
abbrev pub with_section : List Section → List ℕ → List Section
with_section sections name = sections ++ record { name = name; tags = [] } ∷ []

-- the sections with the tag at the end of the last one
abbrev pub with_tag : List Section → TagParts → List Section
with_tag sections tag =
    let last = length sections - 1 in
    slice_set sections last (record { name = (section_at sections last).name; tags = (section_at sections last).tags ++ tag ∷ [] })

-- the most sections: the kernel's, and 64 of modules
abbrev pub section_limit : ℕ
section_limit = 65

-- the most tags of the section with the number
abbrev pub tag_limit : ℕ → ℕ
tag_limit number = if number == 0 then 128 else 896

-- what holds of every list of sections
pub record AreSections (sections : List Section) : Type 0 where
  pub few : length sections ≤ section_limit
  pub kernel_first : 0 < length sections → (section_at sections 0).name ≡ kernel_name
  pub modules_after : (k : ℕ) → 0 < k → k < length sections → IsModuleName (section_at sections k).name
  pub apart : (j k : ℕ) → j < k → k < length sections → (section_at sections j).name ≢ (section_at sections k).name
  pub within_limits : (k : ℕ) → k < length sections → length (section_at sections k).tags ≤ tag_limit k

-- a section of the name may begin: the kernel's as the first, and then modules of new names while there is room
abbrev pub MayBegin : List Section → List ℕ → Type 0
MayBegin [] name = name ≡ kernel_name
MayBegin (first ∷ others) name =
    IsModuleName name × IsNone (number_of (first ∷ others) name) × (length (first ∷ others) < section_limit)
