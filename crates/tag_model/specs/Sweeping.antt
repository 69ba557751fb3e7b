-- How long a sweep still takes, and what becomes of each dead record that it listed.
use Rattle.std.specs.Prelude.{ℕ, ◌+◌, ◌-◌, ◌*◌, ◌==◌, ◌&&◌, ◌||◌, not, nat_lt, Bool, if◌then◌else◌, List, [], length, sum_by}
use Rattle.std.specs.List.{list_any, list_all}
use Rattle.tag_model.specs.declared.shape.Shape.{Shape}
use Rattle.tag_model.specs.declared.state.Kind.{Kind}
use Rattle.tag_model.specs.declared.state.Kind.TheVariants.{Bytes, Calls}
use Rattle.tag_model.specs.declared.state.Record.{Record}
use Rattle.tag_model.specs.declared.state.Reader.{Reader}
use Rattle.tag_model.specs.declared.state.Stop.{Stop}
use Rattle.tag_model.specs.declared.state.Sweep.{Sweep}
use Rattle.tag_model.specs.declared.state.Sweep.TheVariants as sweep
use Rattle.tag_model.specs.declared.state.ListPart.{ListPart}
use Rattle.tag_model.specs.Laws.{is_listed}
use Rattle.tag_model.specs.StepRules.{end_of}

-- the ids that a sweep has still on its list
abbrev pub ids_left : Sweep → List ℕ
ids_left sweep.None = []
ids_left (sweep.Done left) = left
ids_left (sweep.Reading left reader) = left

-- ---- reads and steps

-- the tags of the records on a list of ids
abbrev pub tags_of : List ℕ → List Record → ℕ
tags_of ids records = sum_by (λ (r : Record). if is_listed ids r.id then r.length else 0) records

-- those behind an id
abbrev pub tags_behind : ℕ → List ℕ → List Record → ℕ
tags_behind id ids records = sum_by (λ (r : Record). if is_listed ids r.id && nat_lt id r.id then r.length else 0) records

-- reads of the pass that is under way
abbrev pub reads_in_pass : Shape → List ℕ → Reader → List Record → ℕ
reads_in_pass k left r records = k.cpus * (tags_behind r.id left records + (end_of r.id records - r.tag)) - r.cpu

-- reads of the pass of calls, which comes behind that of bytes
abbrev pub reads_behind : Shape → Kind → List ℕ → List Record → ℕ
reads_behind k Bytes left records = k.cpus * tags_of left records
reads_behind k Calls left records = 0

-- at most so many words are still to be read
abbrev pub reads_left : Shape → List Record → Sweep → ℕ
reads_left k records sweep.None = 0
reads_left k records (sweep.Done left) = 0
reads_left k records (sweep.Reading left r) = reads_in_pass k left r records + reads_behind k r.pass left records

-- at most so many steps are left: the reads, and a release of each record on the list
abbrev pub steps_left : Shape → List Record → Sweep → ℕ
steps_left k records s = reads_left k records s + length (ids_left s)

-- ---- what becomes of a dead record

abbrev pub has_stop : ℕ → List Stop → Bool
has_stop id stops = list_any (λ (s : Stop). s.id == id) stops

-- the record of the id is gone or not dead, or it is still on the sweep's list, or it has a stop
abbrev pub is_accounted : ℕ → ListPart → Bool
is_accounted id l = not (list_any (λ (r : Record). (r.id == id) && r.dead) l.records) || is_listed (ids_left l.sweep) id || has_stop id l.stops

-- an id with a stop is off the sweep's list
abbrev pub is_off : ℕ → ListPart → Bool
is_off id l = not (is_listed (ids_left l.sweep) id && has_stop id l.stops)

-- no stop has the sum 0
abbrev pub are_above_zero : List Stop → Bool
are_above_zero stops = list_all (λ (s : Stop). not (s.sum == 0)) stops
