-- The laws that every state of the machine meets, between any two steps of any CPUs.
use Rattle.std.specs.Prelude.{◌≡◌, ℕ, ◌+◌, ◌*◌, ◌<◌, ◌≤◌, ◌==◌, ◌&&◌, ◌||◌, ◌⊎◌, not, nat_lt, nat_le, Bool, true, false, if◌then◌else◌, Option, Some, None, List, [], ◌∷◌, length, count_by, sum_by}
use Rattle.std.specs.List.{list_any, list_all, flat_map}
use Rattle.tag_model.specs.declared.shape.Shape.{Shape}
use Rattle.tag_model.specs.declared.state.Tag.{Tag}
use Rattle.tag_model.specs.declared.state.Hand.{Hand}
use Rattle.tag_model.specs.declared.state.Held.{Held}
use Rattle.tag_model.specs.declared.state.Held.TheVariants as held
use Rattle.tag_model.specs.declared.state.Kind.{Kind}
use Rattle.tag_model.specs.declared.state.Kind.TheVariants.{Bytes, Calls}
use Rattle.tag_model.specs.declared.state.Run.{Run}
use Rattle.tag_model.specs.declared.state.Note.{Note}
use Rattle.tag_model.specs.declared.state.Record.{Record}
use Rattle.tag_model.specs.declared.state.Reader.{Reader}
use Rattle.tag_model.specs.declared.state.Sweep.{Sweep}
use Rattle.tag_model.specs.declared.state.Sweep.TheVariants as sweep
use Rattle.tag_model.specs.declared.state.Part.{Part}
use Rattle.tag_model.specs.declared.state.Part.TheVariants.{Cpu, Place, Modules, NextId}
use Rattle.tag_model.specs.declared.limits.TheConstants.{MAX_PLACES}
use Rattle.tag_model.specs.Wrap.{wrap}
use Rattle.tag_model.specs.WordState.{one_if, Every, word_of, word_from, counted, counted_of, is_cpu, is_place, is_place_at, is_list, is_pass, in_range, records_with, runs_with, notes_with, users_of, next_id, part_fits}

-- ---- the sum law: each word kind of each tag, added over the CPUs, is what places and hands count, modulo 2^64

pub record SumLaw (parts : List Part) : Type 0 where
  pub sums : (kind : Kind) (t : ℕ) → wrap (sum_by (word_of kind t) parts) ≡ wrap (sum_by (counted kind t) parts)

-- ---- one part of each kind

pub record OneOfEach (k : Shape) (parts : List Part) : Type 0 where
  pub cpus : (n : ℕ) → n < k.cpus → sum_by (is_cpu n) parts ≡ 1
  pub list : sum_by is_list parts ≡ 1
  pub pass : sum_by is_pass parts ≡ 1
  pub places : (n : ℕ) → sum_by (is_place_at n) parts ≤ 1
  pub few_places : sum_by is_place parts ≤ MAX_PLACES

-- ---- the cover law

-- the record of the run: loaded, and alike in section, start and length
abbrev pub is_loaded_as : Run → Record → Bool
is_loaded_as run r = (r.id == run.id) && (r.section == run.section) && (r.start == run.start) && (r.length == run.length) && not r.dead

abbrev pub same_run : Run → Run → Bool
same_run a b = (a.id == b.id) && (a.section == b.section) && (a.start == b.start) && (a.length == b.length)

-- what a CPU notes of a record
abbrev pub note_of : Record → Note
note_of r = record { id = r.id; section = r.section; start = r.start; length = r.length; seen_dead = r.dead }

abbrev pub same_note : Note → Note → Bool
same_note a b = (a.id == b.id) && (a.section == b.section) && (a.start == b.start) && (a.length == b.length) && not (not (a.seen_dead) && b.seen_dead) && not (a.seen_dead && not b.seen_dead)

-- a record of the note's id that the note doesn't tell: another section or range, or loaded where it was seen dead
abbrev pub contradicts : Note → Record → Bool
contradicts n r = (r.id == n.id) && (not ((r.section == n.section) && (r.start == n.start) && (r.length == n.length)) || (n.seen_dead && not r.dead))

-- the runs of a CPU on an id
abbrev pub runs_of_cpu : ℕ → Part → ℕ
runs_of_cpu id (Cpu c) = count_by (λ (r : Run). r.id == id) c.runs
runs_of_cpu id (Place number held) = 0
runs_of_cpu id (Modules l) = 0
runs_of_cpu id (NextId next) = 0

-- a tag is the kernel's, or the record of its module has it in its range
abbrev pub IsCovered : Shape → List Part → Tag → Type 0
IsCovered k parts tag = ((tag.module ≡ 0) × (tag.number < k.kernel_tags)) ⊎ (0 < sum_by (records_with (λ r. (r.id == tag.module) && in_range r.start r.length tag.number)) parts)

pub record CoverLaw (k : Shape) (parts : List Part) : Type 0 where
  pub ids_below_next : Every (λ p. (records_with (λ r. not (nat_lt r.id (sum_by next_id parts))) p == 0)) parts
  pub ids_apart : (id : ℕ) → sum_by (records_with (λ r. r.id == id)) parts ≤ 1
  pub ranges_apart : (t : ℕ) → sum_by (records_with (λ r. in_range r.start r.length t)) parts ≤ 1
  pub named : (tag : Tag) → 0 < sum_by (counted_of Calls tag) parts → IsCovered k parts tag
  pub runs : (run : Run) → 0 < sum_by (runs_with (same_run run)) parts → 0 < sum_by (records_with (is_loaded_as run)) parts
  pub one_run : (id : ℕ) → Every (λ p. nat_le (runs_of_cpu id p) 1) parts
  pub users : (id : ℕ) → sum_by (runs_with (λ r. r.id == id)) parts ≡ sum_by (users_of id) parts
  pub notes_known : (n : Note) → 0 < sum_by (notes_with (same_note n)) parts → n.id < sum_by next_id parts
  pub notes_agree : (n : Note) → 0 < sum_by (notes_with (same_note n)) parts → sum_by (records_with (contradicts n)) parts ≡ 0

-- ---- the sweep law

-- the sweep's list has the id
abbrev pub is_listed : List ℕ → ℕ → Bool
is_listed left id = list_any (λ other. other == id) left

-- a record of the list whose range has the tag
abbrev pub covers_listed : List ℕ → ℕ → List Record → Bool
covers_listed left t records = list_any (λ (r : Record). is_listed left r.id && in_range r.start r.length t) records

-- the same, read in this pass: an earlier record, or an earlier tag of the one at which the pass stands
abbrev pub covers_read : List ℕ → Reader → ℕ → List Record → Bool
covers_read left reader t records =
    list_any (λ (r : Record). is_listed left r.id && in_range r.start r.length t && (nat_lt r.id reader.id || ((r.id == reader.id) && nat_lt t reader.tag))) records

abbrev pub is_calls : Kind → Bool
is_calls Bytes = false
is_calls Calls = true

-- the sweep has found that nothing of this kind is counted under the tag: all bytes are read before the first call
abbrev pub has_cleared : Sweep → Kind → ℕ → List Record → Bool
has_cleared sweep.None kind t records = false
has_cleared (sweep.Done left) kind t records = covers_listed left t records
has_cleared (sweep.Reading left reader) Calls t records = is_calls reader.pass && covers_read left reader t records
has_cleared (sweep.Reading left reader) Bytes t records = if is_calls reader.pass then covers_listed left t records else covers_read left reader t records

abbrev pub cleared : Kind → ℕ → Part → ℕ
cleared kind t (Cpu c) = 0
cleared kind t (Place number held) = 0
cleared kind t (Modules l) = one_if (has_cleared l.sweep kind t l.records)
cleared kind t (NextId id) = 0

-- a number of the sweep that reads, 0 where none does
abbrev pub reader_number : (Reader → ℕ) → Sweep → ℕ
reader_number field sweep.None = 0
reader_number field (sweep.Done left) = 0
reader_number field (sweep.Reading left reader) = field reader

abbrev pub of_reader : (Reader → ℕ) → Part → ℕ
of_reader field (Cpu c) = 0
of_reader field (Place number held) = 0
of_reader field (Modules l) = reader_number field l.sweep
of_reader field (NextId id) = 0

abbrev pub same_kind : Kind → Kind → Bool
same_kind Bytes Bytes = true
same_kind Bytes Calls = false
same_kind Calls Bytes = false
same_kind Calls Calls = true

-- the sweep reads words of this kind
abbrev pub is_reading : Kind → Part → ℕ
is_reading kind p = of_reader (λ r. one_if (same_kind kind r.pass)) p

-- a list of ids rises
abbrev pub rises_from : ℕ → List ℕ → Bool
rises_from low [] = true
rises_from low (id ∷ ids) = nat_lt low id && rises_from id ids

abbrev pub ids_of : List Record → List ℕ
ids_of [] = []
ids_of (r ∷ records) = r.id ∷ ids_of records

-- each id on the list is that of a dead record
abbrev pub are_dead : List ℕ → List Record → Bool
are_dead left records = list_all (λ id. list_any (λ (r : Record). (r.id == id) && r.dead) records) left

-- the list rises and has ids of dead records alone; the record read is on it, the tag in its range, the CPU one of the shape
abbrev pub sweep_fits : Shape → Sweep → List Record → Bool
sweep_fits k sweep.None records = true
sweep_fits k (sweep.Done left) records = rises_from 0 left && are_dead left records
sweep_fits k (sweep.Reading left reader) records =
    rises_from 0 left && are_dead left records && is_listed left reader.id
    && list_any (λ (r : Record). (r.id == reader.id) && in_range r.start r.length reader.tag) records && nat_lt reader.cpu k.cpus

abbrev pub list_fits : Shape → Part → Bool
list_fits k (Cpu c) = true
list_fits k (Place number held) = true
list_fits k (Modules l) = rises_from 0 (ids_of l.records) && sweep_fits k l.sweep l.records
list_fits k (NextId id) = true

-- the tag and the CPU that the sweep reads next
abbrev pub tag_read : List Part → ℕ
tag_read parts = sum_by (of_reader (λ r. r.tag)) parts

abbrev pub cpu_read : List Part → ℕ
cpu_read parts = sum_by (of_reader (λ r. r.cpu)) parts

pub record SweepLaw (k : Shape) (parts : List Part) : Type 0 where
  pub fits : Every (list_fits k) parts
  -- what is read so far and the words still to read are together at least what is counted
  pub reading : (kind : Kind) → 0 < sum_by (is_reading kind) parts →
      sum_by (counted kind (tag_read parts)) parts ≤ wrap (sum_by (of_reader (λ r. r.sum)) parts + sum_by (word_from (cpu_read parts) kind (tag_read parts)) parts)
  pub cleared : (kind : Kind) (t : ℕ) → 0 < sum_by (cleared kind t) parts → sum_by (counted kind t) parts ≡ 0

-- ---- all of them

pub record Safe (k : Shape) (parts : List Part) : Type 0 where
  pub fits : Every (part_fits k) parts
  pub each : OneOfEach k parts
  pub sums : SumLaw parts
  pub cover : CoverLaw k parts
  pub sweep : SweepLaw k parts

-- no CPU has a hand, and the sweep isn't reading
abbrev pub hand_number : Option Hand → ℕ
hand_number None = 0
hand_number (Some h) = 1

abbrev pub has_hand : Part → ℕ
has_hand (Cpu c) = hand_number c.hand
has_hand (Place number held) = 0
has_hand (Modules l) = 0
has_hand (NextId id) = 0

pub record Quiet (parts : List Part) : Type 0 where
  pub no_hand : sum_by has_hand parts ≡ 0
  pub not_reading : sum_by (of_reader (λ r. 1)) parts ≡ 0

-- ---- the live list

abbrev pub is_held : Held → Bool
is_held held.None = false
is_held held.Empty = true
is_held (held.Counted tag size) = true

-- a place that holds something, with what it holds
abbrev pub live_pair : Part → List (ℕ × Held)
live_pair (Cpu c) = []
live_pair (Place number held) = if is_held held then (number, held) ∷ [] else []
live_pair (Modules l) = []
live_pair (NextId id) = []

-- the live list of a state
abbrev pub live_of : List Part → List (ℕ × Held)
live_of parts = flat_map live_pair parts

-- ---- a fresh state

abbrev pub is_idle : Sweep → Bool
is_idle sweep.None = true
is_idle (sweep.Done left) = false
is_idle (sweep.Reading left reader) = false

-- words of 0, no hand, run or note; no place that holds something; no record, no sweep and no stop; the first id is 1
abbrev pub is_fresh : Shape → Part → Bool
is_fresh k (Cpu c) =
    nat_lt c.number k.cpus && (length c.words == 2 * k.tags) && list_all (λ w. w == 0) c.words && (hand_number c.hand == 0) && (length c.runs == 0) && (length c.notes == 0)
is_fresh k (Place number held) = not (is_held held)
is_fresh k (Modules l) = (length l.records == 0) && (length l.away == 0) && is_idle l.sweep && (length l.stops == 0)
is_fresh k (NextId id) = id == 1
