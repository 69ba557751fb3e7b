-- The steps that a machine may take. Each is a relation between the parts that it touches, before it and after it; no other part changes.
use Rattle.std.specs.Prelude.{◌≡◌, ℕ, ◌+◌, ◌-◌, ◌<◌, ◌≤◌, ◌==◌, ◌&&◌, ◌⊎◌, not, nat_lt, Bool, true, false, IsTrue, if◌then◌else◌, Option, Some, None, List, [], ◌∷◌, ◌++◌, map, filter, find, count_by, sum_by, slice_index, slice_set}
use Rattle.std.specs.List.{list_any}
use Rattle.tag_model.specs.declared.shape.Shape.{Shape}
use Rattle.tag_model.specs.declared.state.Tag.{Tag}
use Rattle.tag_model.specs.declared.state.Hand.{Hand}
use Rattle.tag_model.specs.declared.state.Held.{Held}
use Rattle.tag_model.specs.declared.state.Kind.{Kind}
use Rattle.tag_model.specs.declared.state.Kind.TheVariants.{Bytes, Calls}
use Rattle.tag_model.specs.declared.state.Run.{Run}
use Rattle.tag_model.specs.declared.state.Record.{Record}
use Rattle.tag_model.specs.declared.state.Reader.{Reader}
use Rattle.tag_model.specs.declared.state.Stop.{Stop}
use Rattle.tag_model.specs.declared.state.Sweep.{Sweep}
use Rattle.tag_model.specs.declared.state.Sweep.TheVariants as sweep
use Rattle.tag_model.specs.declared.state.CpuPart.{CpuPart}
use Rattle.tag_model.specs.declared.state.ListPart.{ListPart}
use Rattle.tag_model.specs.declared.state.Part.{Part}
use Rattle.tag_model.specs.declared.state.Part.TheVariants.{Cpu, Place, Modules, NextId}
use Rattle.tag_model.specs.declared.limits.TheConstants.{SIZE_END, MAX_HAND_CALLS}
use Rattle.tag_model.specs.Wrap.{wrap, wrap_minus}
use Rattle.tag_model.specs.Reference.{held_counts_of, hand_counts_of, held_fits, hand_fits, is_settled}
use Rattle.tag_model.specs.WordState.{word_place, in_range}

-- the CPU's words with this kind's word of the tag raised by n, or lowered
abbrev pub raised : Kind → ℕ → ℕ → List ℕ → List ℕ
raised kind t n words = slice_set words (word_place kind t) (wrap (slice_index words (word_place kind t) + n))

abbrev pub lowered : Kind → ℕ → ℕ → List ℕ → List ℕ
lowered kind t n words = slice_set words (word_place kind t) (wrap_minus (slice_index words (word_place kind t)) n)

-- ---- the words

-- the CPU may begin an allocation under the tag: the tag is the kernel's, or of a module that the CPU runs inside
abbrev pub may_begin : Shape → Tag → List Run → Bool
may_begin k tag runs = if tag.module == 0 then nat_lt tag.number k.kernel_tags else list_any (λ (r : Run). (r.id == tag.module) && in_range r.start r.length tag.number) runs

-- add-call: an allocation begins, with no hand out, and counts its call
pub record BeginsAllocation (k : Shape) (tag : Tag) (old new : CpuPart) : Type 0 where
  pub free : old.hand ≡ None
  pub allowed : IsTrue (may_begin k tag old.runs)
  pub after : new ≡ record old { words = raised Calls tag.number 1 old.words; hand = Some (record { tag = tag; bytes = 0; calls = 1; opening = true }) }

-- add-call: a split counts one call more for a reference that it holds
pub record AddsCall (hand : Hand) (old new : CpuPart) : Type 0 where
  pub held : old.hand ≡ Some hand
  pub settled : hand.opening ≡ false
  pub counted : 0 < hand.bytes
  pub room : hand.calls < MAX_HAND_CALLS
  pub after : new ≡ record old { words = raised Calls hand.tag.number 1 old.words; hand = Some (record hand { calls = hand.calls + 1 }) }

-- add-bytes: the allocation counts its bytes
pub record AddsBytes (size : ℕ) (hand : Hand) (old new : CpuPart) : Type 0 where
  pub held : old.hand ≡ Some hand
  pub opening : hand.opening ≡ true
  pub none_yet : hand.bytes ≡ 0
  pub some : 0 < size
  pub fits : size < SIZE_END
  pub after : new ≡ record old { words = raised Bytes hand.tag.number size old.words; hand = Some (record hand { bytes = size }) }

-- sub-bytes: a free or a trim takes bytes from those it holds
pub record SubtractsBytes (bytes : ℕ) (hand : Hand) (old new : CpuPart) : Type 0 where
  pub held : old.hand ≡ Some hand
  pub settled : hand.opening ≡ false
  pub within : bytes ≤ hand.bytes
  pub after : new ≡ record old { words = lowered Bytes hand.tag.number bytes old.words; hand = Some (record hand { bytes = hand.bytes - bytes }) }

-- a hand with a call less, or none where that was its last
abbrev pub without_call : Hand → Option Hand
without_call hand = if hand.calls == 1 then None else Some (record hand { calls = hand.calls - 1 })

-- sub-call: a free takes a call, its last touch of the tag, once no byte is left
pub record SubtractsCall (hand : Hand) (old new : CpuPart) : Type 0 where
  pub held : old.hand ≡ Some hand
  pub settled : hand.opening ≡ false
  pub some : 0 < hand.calls
  pub bytes_first : hand.calls ≡ 1 → hand.bytes ≡ 0
  pub after : new ≡ record old { words = lowered Calls hand.tag.number 1 old.words; hand = without_call hand }

-- write-cell: a place of the CPU's is written. Bytes and calls under each tag of each module stay, over the place and the hand
pub record WritesPlace (old new : CpuPart) (was next : Held) : Type 0 where
  pub place_fits : IsTrue (held_fits next)
  pub hand_fits : IsTrue (hand_fits new.hand)
  pub stays : (kind : Kind) (tag : Tag) → hand_counts_of kind tag old.hand + held_counts_of kind tag was ≡ hand_counts_of kind tag new.hand + held_counts_of kind tag next
  pub settled : (new.hand ≡ old.hand) ⊎ IsTrue (is_settled new.hand)
  pub after : new ≡ record old { hand = new.hand }

-- ---- the sweep

-- the first tag of the record of an id, and the tag behind its last
abbrev pub start_of : ℕ → List Record → ℕ
start_of id records = sum_by (λ (r : Record). if r.id == id then r.start else 0) records

abbrev pub end_of : ℕ → List Record → ℕ
end_of id records = sum_by (λ (r : Record). if r.id == id then r.start + r.length else 0) records

-- a pass stands at the first tag of a record, at CPU 0
abbrev pub reads_from : Kind → List ℕ → List Record → ℕ → Sweep
reads_from pass left records id = sweep.Reading left (record { pass = pass; id = id; tag = start_of id records; cpu = 0; sum = 0 })

-- a pass over a list of ids begins at its first; over an empty list there is no sweep
abbrev pub begins_pass : Kind → List ℕ → List Record → Sweep
begins_pass pass [] records = sweep.None
begins_pass pass (id ∷ left) records = reads_from pass (id ∷ left) records id

-- behind the last record the pass of bytes goes to that of calls, and the pass of calls is done, unless no record is left
abbrev pub after_pass : Kind → List ℕ → List Record → Sweep
after_pass pass [] records = sweep.None
after_pass Bytes (id ∷ left) records = begins_pass Calls (id ∷ left) records
after_pass Calls (id ∷ left) records = sweep.Done (id ∷ left)

-- a pass is through with a record: it goes to the next one on its list, by rising id
abbrev pub goes_on : Option ℕ → Kind → List ℕ → List Record → Sweep
goes_on None pass left records = after_pass pass left records
goes_on (Some next) pass left records = reads_from pass left records next

abbrev pub passes_record : Kind → List ℕ → List Record → ℕ → Sweep
passes_record pass left records id = goes_on (find (nat_lt id) left) pass left records

abbrev pub without_id : ℕ → List ℕ → List ℕ
without_id id left = filter (λ other. not (other == id)) left

-- the sweep after a read: on to the next CPU; at the last CPU, where the sum isn't 0, the record leaves the list; where it is 0, on to the record's next tag
abbrev pub sweep_after : Shape → List Record → List ℕ → Reader → ℕ → Sweep
sweep_after k records left r sum =
    if nat_lt (r.cpu + 1) k.cpus then sweep.Reading left (record r { cpu = r.cpu + 1; sum = sum })
    else (if not (sum == 0) then passes_record r.pass (without_id r.id left) records r.id
    else (if nat_lt (r.tag + 1) (end_of r.id records) then sweep.Reading left (record r { tag = r.tag + 1; cpu = 0; sum = 0 })
    else passes_record r.pass left records r.id))

-- the stop that a read adds: at the last CPU, where the sum isn't 0
abbrev pub stop_after : Shape → Reader → ℕ → List Stop
stop_after k r sum = if not (nat_lt (r.cpu + 1) k.cpus) && not (sum == 0) then record { id = r.id; tag = r.tag; kind = r.pass; sum = sum } ∷ [] else []

-- scan-byte in the pass of bytes, scan-call in that of calls: the sweep reads the next CPU's word and adds it to its sum
pub record Scans (k : Shape) (left : List ℕ) (r : Reader) (cpu : CpuPart) (old new : ListPart) : Type 0 where
  pub reading : old.sweep ≡ sweep.Reading left r
  pub next : cpu.number ≡ r.cpu
  pub after : let sum = wrap (r.sum + slice_index cpu.words (word_place r.pass r.tag)) in
      new ≡ record old { sweep = sweep_after k old.records left r sum; stops = old.stops ++ stop_after k r sum; reads = old.reads + 1 }

-- ---- changes of the module list. Records stand by rising id

-- a run on a record
abbrev pub run_on : Record → Run
run_on r = record { id = r.id; section = r.section; start = r.start; length = r.length }

abbrev pub dead_ids : List Record → List ℕ
dead_ids records = map (λ (r : Record). r.id) (filter (λ (r : Record). r.dead) records)

-- load: the next id goes to a loaded record with no users, over a range of the area that meets no record
pub record Loads (k : Shape) (section start length id : ℕ) (old new : ListPart) : Type 0 where
  pub some : 0 < length
  pub above_kernel : k.kernel_tags ≤ start
  pub within : start + length ≤ k.tags
  pub clear : (t : ℕ) → start ≤ t → t < start + length → count_by (λ (r : Record). in_range r.start r.length t) old.records ≡ 0
  pub after : new ≡ record old { records = old.records ++ record { id = id; section = section; start = start; length = length; dead = false; users = 0 } ∷ [] }

-- enter: a loaded record gets a user, and a run on it is on its way
pub record Enters (old new : ListPart) : Type 0 where
  pub front : List Record
  pub entry : Record
  pub back : List Record
  pub there : old.records ≡ front ++ entry ∷ back
  pub loaded : entry.dead ≡ false
  pub after : new ≡ record old { records = front ++ record entry { users = entry.users + 1 } ∷ back; away = run_on entry ∷ old.away }

-- leave: a run on a record, anywhere among those on their way, ends, and the record has a user less
pub record Leaves (old new : ListPart) : Type 0 where
  pub front : List Record
  pub entry : Record
  pub back : List Record
  pub ahead : List Run
  pub behind : List Run
  pub there : old.records ≡ front ++ entry ∷ back
  pub running : old.away ≡ ahead ++ run_on entry ∷ behind
  pub after : new ≡ record old { records = front ++ record entry { users = entry.users - 1 } ∷ back; away = ahead ++ behind }

-- mark dead: a loaded record with no users is dead, and a sweep of it alone begins
pub record MarksDead (old new : ListPart) : Type 0 where
  pub front : List Record
  pub entry : Record
  pub back : List Record
  pub there : old.records ≡ front ++ entry ∷ back
  pub loaded : entry.dead ≡ false
  pub unused : entry.users ≡ 0
  pub after : let records = front ++ record entry { dead = true } ∷ back in
      new ≡ record old { records = records; sweep = begins_pass Bytes (entry.id ∷ []) records; stops = [] }

-- begin a sweep of all dead records, by rising id
pub record Sweeps (old new : ListPart) : Type 0 where
  pub after : new ≡ record old { sweep = begins_pass Bytes (dead_ids old.records) old.records; stops = [] }

-- release: the sweep is done and has the record on its list; the record is gone, and off the list
pub record Releases (left : List ℕ) (id : ℕ) (old new : ListPart) : Type 0 where
  pub done : old.sweep ≡ sweep.Done left
  pub listed : IsTrue (list_any (λ other. other == id) left)
  pub after : new ≡ record old { records = filter (λ (r : Record). not (r.id == id)) old.records; sweep = sweep.Done (without_id id left) }

-- ---- base moves, which change no word, no place, no record and no sweep

-- a run, anywhere among those on their way, goes to a CPU that has none on its record, and stands anywhere among the CPU's runs
pub record GivesRun (old new : CpuPart) (from to : ListPart) : Type 0 where
  pub front : List Run
  pub run : Run
  pub back : List Run
  pub ahead : List Run
  pub behind : List Run
  pub away : from.away ≡ ahead ++ run ∷ behind
  pub first : count_by (λ (r : Run). r.id == run.id) old.runs ≡ 0
  pub had : old.runs ≡ front ++ back
  pub cpu : new ≡ record old { runs = front ++ run ∷ back }
  pub list : to ≡ record from { away = ahead ++ behind }

-- a run leaves a CPU that is between no allocation's steps
pub record TakesRun (old new : CpuPart) (from to : ListPart) : Type 0 where
  pub front : List Run
  pub run : Run
  pub back : List Run
  pub settled : IsTrue (is_settled old.hand)
  pub has : old.runs ≡ front ++ run ∷ back
  pub cpu : new ≡ record old { runs = front ++ back }
  pub list : to ≡ record from { away = run ∷ from.away }

-- a CPU notes a record
pub record NotesRecord (old new : CpuPart) (list : ListPart) : Type 0 where
  pub front : List Record
  pub entry : Record
  pub back : List Record
  pub there : list.records ≡ front ++ entry ∷ back
  pub after : new ≡ record old { notes = record { id = entry.id; section = entry.section; start = entry.start; length = entry.length; seen_dead = entry.dead } ∷ old.notes }

-- the runs on their way stand in another order
pub record ReordersRuns (old new : ListPart) : Type 0 where
  pub same : (test : Run → Bool) → count_by test new.away ≡ count_by test old.away
  pub after : new ≡ record old { away = new.away }

-- ---- one step of the machine, by the parts that it touches

pub data Row (k : Shape) : List Part → List Part → Type 0 where
  begins_allocation : {tag : Tag} {old new : CpuPart} → BeginsAllocation k tag old new → Row k (Cpu old ∷ []) (Cpu new ∷ [])
  adds_call : {hand : Hand} {old new : CpuPart} → AddsCall hand old new → Row k (Cpu old ∷ []) (Cpu new ∷ [])
  adds_bytes : {size : ℕ} {hand : Hand} {old new : CpuPart} → AddsBytes size hand old new → Row k (Cpu old ∷ []) (Cpu new ∷ [])
  subtracts_bytes : {bytes : ℕ} {hand : Hand} {old new : CpuPart} → SubtractsBytes bytes hand old new → Row k (Cpu old ∷ []) (Cpu new ∷ [])
  subtracts_call : {hand : Hand} {old new : CpuPart} → SubtractsCall hand old new → Row k (Cpu old ∷ []) (Cpu new ∷ [])
  writes_place : {n : ℕ} {old new : CpuPart} {was next : Held} → WritesPlace old new was next → Row k (Cpu old ∷ Place n was ∷ []) (Cpu new ∷ Place n next ∷ [])
  scans : {left : List ℕ} {r : Reader} {cpu : CpuPart} {old new : ListPart} → Scans k left r cpu old new → Row k (Cpu cpu ∷ Modules old ∷ []) (Cpu cpu ∷ Modules new ∷ [])
  loads : {section start length id : ℕ} {old new : ListPart} → Loads k section start length id old new → Row k (Modules old ∷ NextId id ∷ []) (Modules new ∷ NextId (id + 1) ∷ [])
  enters : {old new : ListPart} → Enters old new → Row k (Modules old ∷ []) (Modules new ∷ [])
  leaves : {old new : ListPart} → Leaves old new → Row k (Modules old ∷ []) (Modules new ∷ [])
  marks_dead : {old new : ListPart} → MarksDead old new → Row k (Modules old ∷ []) (Modules new ∷ [])
  sweeps : {old new : ListPart} → Sweeps old new → Row k (Modules old ∷ []) (Modules new ∷ [])
  releases : {left : List ℕ} {id : ℕ} {old new : ListPart} → Releases left id old new → Row k (Modules old ∷ []) (Modules new ∷ [])

pub data BaseMove : List Part → List Part → Type 0 where
  gives_run : {old new : CpuPart} {from to : ListPart} → GivesRun old new from to → BaseMove (Cpu old ∷ Modules from ∷ []) (Cpu new ∷ Modules to ∷ [])
  takes_run : {old new : CpuPart} {from to : ListPart} → TakesRun old new from to → BaseMove (Cpu old ∷ Modules from ∷ []) (Cpu new ∷ Modules to ∷ [])
  notes_record : {old new : CpuPart} {list : ListPart} → NotesRecord old new list → BaseMove (Cpu old ∷ Modules list ∷ []) (Cpu new ∷ Modules list ∷ [])
  reorders_runs : {old new : ListPart} → ReordersRuns old new → BaseMove (Modules old ∷ []) (Modules new ∷ [])

-- these parts, wherever they stand among the others, become those
pub record Becomes (v w old new : List Part) : Type 0 where
  pub rest : List Part
  pub before : (weight : Part → ℕ) → sum_by weight old ≡ sum_by weight rest + sum_by weight v
  pub after : (weight : Part → ℕ) → sum_by weight new ≡ sum_by weight rest + sum_by weight w

-- one step of the step rules leads from the state to the next
pub record Steps (k : Shape) (old new : List Part) : Type 0 where
  pub v : List Part
  pub w : List Part
  pub row : Row k v w
  pub becomes : Becomes v w old new

-- these parts stand among the parts of the state
pub record Stands (v parts : List Part) : Type 0 where
  pub rest : List Part
  pub among : (weight : Part → ℕ) → sum_by weight parts ≡ sum_by weight rest + sum_by weight v

-- an enter, and the CPU gets the very run that it put on its way
pub record EntersCpu (old new : List Part) : Type 0 where
  pub mid : List Part
  pub outside : CpuPart
  pub inside : CpuPart
  pub before : ListPart
  pub entered : ListPart
  pub after : ListPart
  pub enters : Enters before entered
  pub enters_state : Becomes (Modules before ∷ []) (Modules entered ∷ []) old mid
  pub gives : GivesRun outside inside entered after
  pub gives_state : Becomes (Cpu outside ∷ Modules entered ∷ []) (Cpu inside ∷ Modules after ∷ []) mid new
  pub same_run : gives.run ≡ run_on enters.entry

-- a run leaves the CPU, and a leave ends that very run
pub record LeavesCpu (old new : List Part) : Type 0 where
  pub mid : List Part
  pub inside : CpuPart
  pub outside : CpuPart
  pub before : ListPart
  pub leaving : ListPart
  pub after : ListPart
  pub takes : TakesRun inside outside before leaving
  pub takes_state : Becomes (Cpu inside ∷ Modules before ∷ []) (Cpu outside ∷ Modules leaving ∷ []) old mid
  pub leaves : Leaves leaving after
  pub leaves_state : Becomes (Modules leaving ∷ []) (Modules after ∷ []) mid new
  pub same_run : takes.run ≡ run_on leaves.entry

-- one step of the step rules, with the base move that may go with it: a run comes to a CPU after its enter, or leaves it before its leave
pub data StepsWith (k : Shape) (old new : List Part) : Type 0 where
  alone : Steps k old new → StepsWith k old new
  enters_cpu : EntersCpu old new → StepsWith k old new
  leaves_cpu : LeavesCpu old new → StepsWith k old new
