-- A history of the machine: a list of states, each led to from the one before it by a step of the step rules or by a base move.
use Rattle.std.specs.Prelude.{◌≡◌, ℕ, ◌==◌, ◌&&◌, not, Bool, false, if◌then◌else◌, Option, Some, None, List, [], ◌∷◌, count_by}
use Rattle.tag_model.specs.declared.shape.Shape.{Shape}
use Rattle.tag_model.specs.declared.state.Kind.{Kind}
use Rattle.tag_model.specs.declared.state.Kind.TheVariants.{Bytes, Calls}
use Rattle.tag_model.specs.declared.state.Part.{Part}
use Rattle.tag_model.specs.declared.state.Part.TheVariants.{Cpu, Place, Modules, NextId}
use Rattle.tag_model.specs.declared.state.Stop.{Stop}
use Rattle.tag_model.specs.declared.state.Sweep.{Sweep}
use Rattle.tag_model.specs.declared.state.Sweep.TheVariants as sweep
use Rattle.tag_model.specs.Laws.{is_calls, same_kind}
use Rattle.tag_model.specs.StepRules.{Row, BaseMove, Becomes, Steps}

-- one state leads to the next
pub data Leads (k : Shape) (old new : List Part) : Type 0 where
  step : Steps k old new → Leads k old new
  base_move : {v w : List Part} → BaseMove v w → Becomes v w old new → Leads k old new

-- the states that follow a state
abbrev pub IsHistory : Shape → List Part → List (List Part) → Type 0
IsHistory k state [] = Unit {0}
IsHistory k state (next ∷ later) = Leads k state next × IsHistory k next later

abbrev pub last_state : List Part → List (List Part) → List Part
last_state state [] = state
last_state state (next ∷ later) = last_state next later

-- the sweep reads calls
abbrev pub reads_calls : Sweep → Bool
reads_calls sweep.None = false
reads_calls (sweep.Done left) = false
reads_calls (sweep.Reading left reader) = is_calls reader.pass

-- the pass that a step begins: that of bytes where a sweep begins, that of calls where a read is the last one of bytes
abbrev pub pass_begun : {k : Shape} {v w : List Part} → Row k v w → Option Kind
pass_begun (Row.marks_dead row) = Some Bytes
pass_begun (Row.sweeps row) = Some Bytes
pass_begun (Row.scans {left} {r} {cpu} {old} {new} row) = if not (is_calls r.pass) && reads_calls new.sweep then Some Calls else None
pass_begun (Row.begins_allocation row) = None
pass_begun (Row.adds_call row) = None
pass_begun (Row.adds_bytes row) = None
pass_begun (Row.subtracts_bytes row) = None
pass_begun (Row.subtracts_call row) = None
pass_begun (Row.writes_place row) = None
pass_begun (Row.loads row) = None
pass_begun (Row.enters row) = None
pass_begun (Row.leaves row) = None
pass_begun (Row.releases row) = None

abbrev pub begun_by : {k : Shape} {old new : List Part} → Leads k old new → Option Kind
begun_by (Leads.step s) = pass_begun s.row
begun_by (Leads.base_move move becomes) = None

-- no step of the history begins a pass
abbrev pub NoneBegins : (k : Shape) (state : List Part) (later : List (List Part)) → IsHistory k state later → Type 0
NoneBegins k state [] history = Unit {0}
NoneBegins k state (next ∷ later) history = (begun_by history.0 ≡ None) × NoneBegins k next later history.1

-- a history holds the step that began a pass of this kind, and none begins after it: the state right after that step, and the last state
pub record PassHistory (k : Shape) (kind : Kind) (first begun last : List Part) : Type 0 where
  pub before : List (List Part)
  pub led : IsHistory k first before
  pub start : Leads k (last_state first before) begun
  pub begins : begun_by start ≡ Some kind
  pub later : List (List Part)
  pub goes_on : IsHistory k begun later
  pub none_begins : NoneBegins k begun later goes_on
  pub ends : last_state begun later ≡ last

-- the stops that a sweep has at a tag and a kind
abbrev pub stops_at : Kind → ℕ → Part → ℕ
stops_at kind t (Cpu c) = 0
stops_at kind t (Place number held) = 0
stops_at kind t (Modules l) = count_by (λ (s : Stop). same_kind s.kind kind && (s.tag == t)) l.stops
stops_at kind t (NextId id) = 0
