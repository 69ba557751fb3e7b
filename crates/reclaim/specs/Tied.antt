-- What ties the fields of a Locked.
use Rattle.std.specs.Prelude.{◌≡◌, List}
use Rattle.std.specs.Arc.{arc_value}
use Rattle.module_area.specs.Area.{Area}
use Rattle.tag_rule.specs.Shown.{ListShown}
use Rattle.tag_section.specs.Section.{Section}
use Rattle.reclaim.specs.State.{LockedShown, IsLocked, part_of}
use Rattle.reclaim.specs.declared.locked.Locked.TheInside.{Inside}

abbrev pub shown : Area → ListShown → List Section → LockedShown
shown book list sections = record { board = list.board; area = book; sections = sections; sweep = list.part.sweep; stops = list.part.stops; reads = list.part.reads }

abbrev pub locked_shown : Inside → LockedShown
locked_shown s = shown s.book s.list (arc_value s.sections)

-- the list's share of the word state is that of the book
pub record AreTied (book : Area) (list : ListShown) (sections : List Section) : Type 0 where
  pub part : list.part ≡ part_of (shown book list sections)
  pub locked : IsLocked (shown book list sections)

abbrev pub IsTied : Inside → Type 0
IsTied s = AreTied s.book s.list (arc_value s.sections)
