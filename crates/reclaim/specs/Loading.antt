-- What a load answers, and what it leaves.
use Rattle.std.specs.Prelude.{◌≡◌, ℕ, ◌==◌, ◌&&◌, ◌||◌, not, nat_lt, Bool, if◌then◌else◌, Option, Some, None, Result, Ok, Err, List, [], ◌∷◌, ◌++◌, length, MatchBool, MatchOption}
use Rattle.std.specs.Option.{is_some, unwrap_or}
use Rattle.tag_section.specs.Section.{Section, tags_in}
use Rattle.module_area.specs.declared.book.AreaError.{AreaError}
use Rattle.module_area.specs.declared.book.AreaError.TheVariants.{SameName, BookFull, NoRoom, NoSection}
use Rattle.module_area.specs.declared.entry.State.TheVariants.{Loaded}
use Rattle.module_area.specs.Entries.{id_loaded}
use Rattle.module_area.specs.Area.{Area, least_start}
use Rattle.reclaim.specs.State.{LockedShown}
use Rattle.reclaim.specs.Sweeps.{Cleaned, with_entries}

-- it is a module's section, and has a tag
abbrev pub has_tags : List Section → ℕ → Bool
has_tags sections section = nat_lt 0 section && nat_lt section (length sections) && nat_lt 0 (tags_in sections section)

-- why a load is refused at once
abbrev pub early_refusal : ℕ → LockedShown → Option AreaError
early_refusal section l =
    if not (has_tags l.sections section) then Some NoSection
    else (if is_some (id_loaded l.area.entries section) then Some SameName else None)

-- there are 64 entries, or no gap for so many tags
abbrev pub is_cramped : ℕ → Area → Bool
is_cramped size area = (length area.entries == 64) || not (is_some (least_start area size))

-- where that is so, it was cleaned once; else nothing changed
abbrev pub IsPrepared : ℕ → LockedShown → LockedShown → Type 0
IsPrepared size old mid = MatchBool (is_cramped size old.area) ((count : ℕ) × Cleaned old mid count) (mid ≡ old)

-- why a load is refused after that: there are 64 entries, or no id is left; there is no gap
abbrev pub late_refusal : ℕ → ℕ → Area → Option AreaError
late_refusal size next area =
    if (length area.entries == 64) || nat_lt 4294967295 next then Some BookFull
    else (if is_some (least_start area size) then None else Some NoRoom)

-- the module is loaded at the least start
abbrev pub loaded_as : ℕ → ℕ → ℕ → LockedShown → LockedShown
loaded_as id section size l =
    record l { area = with_entries (l.area.entries ++ record { id = id; section = section; start = unwrap_or (least_start l.area size) 0; length = size; state = Loaded; users = 0 } ∷ []) l }

-- a load of a section that isn't refused at once
pub record LoadEnds (section size next : ℕ) (old new : LockedShown) (answer : Result ℕ AreaError) : Type 0 where
  pub mid : LockedShown
  pub prepared : IsPrepared size old mid
  pub ends : MatchOption (late_refusal size next mid.area) ((answer ≡ Ok next) × (new ≡ loaded_as next section size mid)) (λ why. (answer ≡ Err why) × (new ≡ mid))
