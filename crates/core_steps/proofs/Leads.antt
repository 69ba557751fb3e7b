-- A row of the step rules on the parts of one CPU, or of one CPU and one place, leads the whole state on.
use Rattle.std.proofs.Common.{◌≡◌, ℕ, ◌+◌, ◌<◌, List, [], ◌∷◌, ◌++◌, length, get_or, set, arith, Option, Some, None}
use Rattle.tag_model.specs.declared.shape.Shape.{Shape}
use Rattle.tag_model.specs.declared.state.Hand.{Hand}
use Rattle.tag_model.specs.declared.state.Held.{Held}
use Rattle.tag_model.specs.declared.state.Run.{Run}
use Rattle.tag_model.specs.declared.state.Held.TheVariants as held
use Rattle.tag_model.specs.declared.state.Part.{Part}
use Rattle.tag_model.specs.declared.state.Part.TheVariants.{Cpu, Place}
use Rattle.tag_model.specs.declared.state.Sweep.{Sweep}
use Rattle.tag_model.specs.Histories.{pass_begun}
use Rattle.tag_model.specs.StepRules.{Becomes, Row}
use Rattle.tag_model.specs.Laws.{Safe}
use Rattle.core_steps.specs.Kinds.{StepKind, begins_as, row_kind}
use Rattle.core_steps.proofs.ByKind.{GoesBy}
use Rattle.core_steps.specs.CoreState.{cpu_part, cpu_parts, place_parts}
use Rattle.core_steps.proofs.Parts.{becomes_first, becomes_both, length-cpu_parts, get_or-cpu_parts, cpu_parts-set, length-place_parts, get_or-place_parts, place_parts-set}

-- one step of the rules leads on, and from a safe state to a safe state
pub record Leads (k : Shape) (kind : StepKind) (old new : List Part) : Type 0 where
  pub goes : (after : Sweep) → GoesBy k kind after old new
  pub safe : Safe k old → Safe k new

-- these parts become those by a row that keeps the laws
pub record Keeps (k : Shape) (kind : StepKind) (v w : List Part) : Type 0 where
  pub row : Row k v w
  pub of_kind : row_kind row ≡ kind
  pub begins : (after : Sweep) → pass_begun row ≡ begins_as (Some kind) after
  pub safe : (old new : List Part) → Becomes v w old new → Safe k old → Safe k new

leads : (k : Shape) (kind : StepKind) (v w old new : List Part) → Keeps k kind v w → Becomes v w old new → Leads k kind old new
leads k kind v w old new keeps becomes = record { goes = λ after. GoesBy.alone (record { v = v; w = w; row = keeps.row; becomes = becomes }) keeps.of_kind (keeps.begins after); safe = keeps.safe old new becomes }

pub leads_cpu : (k : Shape) (kind : StepKind) (hands : List (Option Hand)) (words : List (List ℕ)) (runs : ℕ → List Run) (rest : List Part) (cpu : ℕ) (hand : Option Hand) (own : List ℕ)
    → length hands ≡ length words → cpu < length hands
    → Keeps k kind (Cpu (cpu_part (0 + cpu) (get_or hands cpu None) (get_or words cpu []) (runs (0 + cpu))) ∷ []) (Cpu (cpu_part (0 + cpu) hand own (runs (0 + cpu))) ∷ [])
    → Leads k kind (cpu_parts 0 hands words runs ++ rest) (cpu_parts 0 (set hands cpu hand) (set words cpu own) runs ++ rest)
leads_cpu k kind hands words runs rest cpu hand own len below keeps =
    let old = Cpu (cpu_part (0 + cpu) (get_or hands cpu None) (get_or words cpu []) (runs (0 + cpu))) in
    let new = Cpu (cpu_part (0 + cpu) hand own (runs (0 + cpu))) in
    let there = length-cpu_parts 0 hands words runs len in
    rw (cpu_parts-set 0 hands words runs cpu hand own len below)
    (leads k kind (old ∷ []) (new ∷ []) _ _ keeps (becomes_first (cpu_parts 0 hands words runs) rest cpu old new (omega arith) (get_or-cpu_parts 0 hands words runs cpu old len below)))

pub leads_place : (k : Shape) (kind : StepKind) (hands : List (Option Hand)) (words : List (List ℕ)) (runs : ℕ → List Run) (places : List Held) (rest : List Part) (cpu key : ℕ) (hand : Option Hand) (own : List ℕ) (next : Held)
    → length hands ≡ length words → cpu < length hands → key < length places
    → Keeps k kind (Cpu (cpu_part (0 + cpu) (get_or hands cpu None) (get_or words cpu []) (runs (0 + cpu))) ∷ Place (0 + key) (get_or places key held.None) ∷ []) (Cpu (cpu_part (0 + cpu) hand own (runs (0 + cpu))) ∷ Place (0 + key) next ∷ [])
    → Leads k kind (cpu_parts 0 hands words runs ++ (place_parts 0 places ++ rest)) (cpu_parts 0 (set hands cpu hand) (set words cpu own) runs ++ (place_parts 0 (set places key next) ++ rest))
leads_place k kind hands words runs places rest cpu key hand own next len below within keeps =
    let old = Cpu (cpu_part (0 + cpu) (get_or hands cpu None) (get_or words cpu []) (runs (0 + cpu))) in
    let new = Cpu (cpu_part (0 + cpu) hand own (runs (0 + cpu))) in
    let was = Place (0 + key) (get_or places key held.None) in
    let will = Place (0 + key) next in
    let there = length-cpu_parts 0 hands words runs len in
    let there' = length-place_parts 0 places in
    rw (cpu_parts-set 0 hands words runs cpu hand own len below, place_parts-set 0 places key next within)
    (leads k kind (old ∷ was ∷ []) (new ∷ will ∷ []) _ _ keeps
    (becomes_both (cpu_parts 0 hands words runs) (place_parts 0 places) rest cpu key old new was will (omega arith) (get_or-cpu_parts 0 hands words runs cpu old len below)
    (omega arith) (get_or-place_parts 0 places key was within)))
