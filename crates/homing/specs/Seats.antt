-- Storage goes home, by the seats of all CPUs alone.
use Rattle.std.specs.Prelude.{ℕ, ◌≡◌, ◌<◌, ⊤, List, [], ◌∷◌, ◌++◌, map, fold, length, slice_set, slice_index_or}
use Rattle.std.specs.List.{flat_map}
use Rattle.tag_model.specs.Moves.{Move}
use Rattle.slab_cache.specs.Calls.{IsOf}
use Rattle.slab_cache.specs.Homing.{Taken, come_home}
use Rattle.slab_cache.specs.Storage.{Storage, home_of}
use Rattle.trace_play.specs.Worker.{Seat}
use Rattle.trace_play.specs.Machine.{Machine, fresh_seat}
use Rattle.trace_play.specs.Barrier.{none_returning}

abbrev pub seat_in : ℕ → List Seat → Seat
seat_in cpu seats = slice_index_or seats cpu (fresh_seat 0 0 cpu)

-- ---- storage, one after the other

-- its node after it, and that CPU's moves
abbrev pub taken_in : List Seat → Storage → Taken
taken_in seats given = come_home given (seat_in (home_of given) seats).node

abbrev pub one_in : List Seat → Storage → List Seat
one_in seats given = slice_set seats (home_of given) (record (seat_in (home_of given) seats) { node = (taken_in seats given).node })

abbrev pub all_in : List Seat → List Storage → List Seat
all_in seats storage = fold one_in seats storage

abbrev pub moves_in : List Seat → List Storage → List Move
moves_in seats [] = []
moves_in seats (given ∷ rest) = (taken_in seats given).moves ++ moves_in (one_in seats given) rest

-- the storage's CPU is there, its node is its own, and the storage is of it
pub record Finds (seats : List Seat) (given : Storage) : Type 0 where
  pub low : home_of given < length seats
  pub own : (seat_in (home_of given) seats).node.node.cpu ≡ home_of given
  pub there : IsOf (seat_in (home_of given) seats).node given

-- each in its turn
abbrev pub AllFind : List Seat → List Storage → Type 0
AllFind seats [] = ⊤
AllFind seats (given ∷ rest) = Finds seats given × AllFind (one_in seats given) rest

-- ---- all that is on its way

-- by freeing CPU, and for each in the order of its frees
abbrev pub sent : List Seat → List Storage
sent seats = flat_map (λ (seat : Seat). seat.returning) seats

abbrev pub settled : List Seat → List Seat
settled seats = map none_returning seats

abbrev pub seats_home : List Seat → List Seat
seats_home seats = all_in (settled seats) (sent seats)

abbrev pub home_moves : List Seat → List Move
home_moves seats = moves_in (settled seats) (sent seats)

abbrev pub FindsHome : List Seat → Type 0
FindsHome seats = AllFind (settled seats) (sent seats)

-- the machine with these seats, and these moves behind what was done
abbrev pub with_home : List Seat → List Move → Machine → Machine
with_home seats moves m = record m { seats = seats; tally = record m.tally { moves = m.tally.moves ++ moves } }
