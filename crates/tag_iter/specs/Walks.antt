-- Many steps of a walk.
use Rattle.std.specs.Prelude.{List, [], ◌∷◌, ◌++◌, filter}
use Rattle.std.specs.Option.{option_to_list}
use Rattle.reclaim.specs.State.{LockedShown}
use Rattle.tag_iter.specs.Places.{after_place, is_above, next_place, places_of}
use Rattle.tag_iter.specs.declared.iter.TagIter.{TagIter}
use Rattle.tag_iter.specs.declared.place.TagPlace.{TagPlace}

-- what an iterator gives over one call after the other, each at the module list as it then is
abbrev pub given : TagIter → List LockedShown → List TagPlace
given iter [] = []
given iter (l ∷ later) = option_to_list (next_place iter l) ++ given (after_place iter (next_place iter l)) later

-- the places that an iterator has still to give
abbrev pub places_left : TagIter → LockedShown → List TagPlace
places_left iter l = filter (is_above iter.last) (places_of iter.all l)
