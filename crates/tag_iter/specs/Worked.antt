-- Worked module lists: two modules are loaded and one is dead, each with two tags, beside a kernel with one tag.
use Rattle.std.specs.Prelude.{ℕ, Bool, false, true, List, [], ◌∷◌}
use Rattle.codetag.specs.TagParts.{TagParts}
use Rattle.module_area.specs.declared.entry.Entry.{Entry}
use Rattle.module_area.specs.declared.entry.State.TheVariants.{Loaded, Dead}
use Rattle.tag_section.specs.Section.{Section}
use Rattle.reclaim.specs.State.{LockedShown}
use Rattle.tag_iter.specs.declared.place.TagPlace.{TagPlace}

-- a tag, whichever it is
abbrev pub tag : TagParts
tag = record { file = []; line = 1; function = [] }

abbrev pub worked_sections : List Section
worked_sections =
    record { name = []; tags = tag ∷ [] }
    ∷ record { name = []; tags = tag ∷ tag ∷ [] }
    ∷ record { name = []; tags = tag ∷ tag ∷ [] }
    ∷ record { name = []; tags = tag ∷ tag ∷ [] }
    ∷ []

-- the dead module has the least id; the later of the loaded ones has the lower range
abbrev pub worked_entries : List Entry
worked_entries =
    record { id = 4; section = 2; start = 130; length = 2; state = Dead; users = 0 }
    ∷ record { id = 5; section = 3; start = 132; length = 2; state = Loaded; users = 1 }
    ∷ record { id = 9; section = 1; start = 128; length = 2; state = Loaded; users = 0 }
    ∷ []

abbrev pub place : ℕ → ℕ → ℕ → ℕ → Bool → TagPlace
place id section index number kept = record { «module» = id; section = section; index = index; number = number; kept = kept }

-- the tags of the kernel and of the loaded modules
abbrev pub worked_places : List TagPlace
worked_places =
    place 0 0 0 0 false
    ∷ place 5 3 0 132 false
    ∷ place 5 3 1 133 false
    ∷ place 9 1 0 128 false
    ∷ place 9 1 1 129 false
    ∷ []

-- those of the dead one
abbrev pub worked_kept_places : List TagPlace
worked_kept_places = place 4 2 0 130 true ∷ place 4 2 1 131 true ∷ []

-- a module list with the worked sections and these entries
abbrev pub worked_list : List Entry → LockedShown → LockedShown
worked_list entries l = record l { sections = worked_sections; area = record l.area { entries = entries } }

-- the worked entries when the first of the loaded modules is unloaded
abbrev pub changed_entries : List Entry
changed_entries =
    record { id = 4; section = 2; start = 130; length = 2; state = Dead; users = 0 }
    ∷ record { id = 5; section = 3; start = 132; length = 2; state = Dead; users = 0 }
    ∷ record { id = 9; section = 1; start = 128; length = 2; state = Loaded; users = 0 }
    ∷ []

-- what a walk over all gives where they are changed after its second step
abbrev pub changed_places : List TagPlace
changed_places =
    place 0 0 0 0 false
    ∷ place 5 3 0 132 false
    ∷ place 9 1 0 128 false
    ∷ place 9 1 1 129 false
    ∷ place 4 2 0 130 true
    ∷ place 4 2 1 131 true
    ∷ place 5 3 0 132 true
    ∷ place 5 3 1 133 true
    ∷ []
