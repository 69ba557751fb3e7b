-- The rows of a module list's tags, by the words of CPUs.
use Rattle.std.specs.Prelude.{ℕ, ◌≡◌, ◌<◌, Bool, List, length, map}
use Rattle.std.specs.List.{range_with_len}
use Rattle.tag_model.specs.declared.state.Kind.{Kind}
use Rattle.tag_model.specs.declared.state.Kind.TheVariants.{Bytes, Calls}
use Rattle.tag_model.specs.Moves.{moved_word}
use Rattle.tag_model.specs.Reference.{live_total}
use Rattle.tag_model.specs.Wrap.{wrap}
use Rattle.tag_rule.specs.Shown.{CpuShown}
use Rattle.percpu_words.specs.CpuWords.{word_in}
use Rattle.reclaim.specs.Quiet.{total}
use Rattle.reclaim.specs.State.{LockedShown}
use Rattle.tag_iter.specs.Places.{places_of}
use Rattle.tag_iter.specs.declared.place.TagPlace.{TagPlace}
use Rattle.allocinfo.specs.declared.rows.Row.{Row}
use Rattle.trace_play.specs.Machine.{Machine, live_cells}

-- the row of a place: the words of its tag, added over the CPUs
abbrev pub quiet_row : List CpuShown → TagPlace → Row
quiet_row cpus place = record { bytes = total Bytes place.number cpus; calls = total Calls place.number cpus; section = place.section; index = place.index; kept = place.kept }

-- those of the places of a walk, in its order
abbrev pub quiet_rows : Bool → LockedShown → List CpuShown → List Row
quiet_rows kept l cpus = map (quiet_row cpus) (places_of kept l)

-- the words of the CPUs for each of the first tags add up to what is live under it
abbrev pub TotalsAreLive : ℕ → List CpuShown → Machine → Type 0
TotalsAreLive tags cpus m = (kind : Kind) (t : ℕ) → t < tags → total kind t cpus ≡ wrap (live_total kind t (live_cells m))

-- the words of the CPUs, by number, for each of the first tags are what the machine's moves give
abbrev pub AreMoved : ℕ → List CpuShown → Machine → Type 0
AreMoved tags cpus m = (kind : Kind) (t : ℕ) → t < tags → map (word_in kind t) cpus ≡ map (λ cpu. moved_word m.tally.moves cpu kind t) (range_with_len 0 (length cpus))
