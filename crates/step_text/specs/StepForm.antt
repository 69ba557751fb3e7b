-- What holds of every schedule that is read.
use Rattle.std.specs.Prelude.{ℕ, ◌≢◌, ◌+◌, ◌-◌, ◌^◌, ◌<◌, ◌≤◌, Bool, true, false, List, length, IfSome, IsTrue, not, count_by, map, ⊤}
use Rattle.std.specs.List.{AllByRecursion}
use Rattle.tag_section.specs.Section.{Section, AreSections}
use Rattle.input_form.specs.Forms.{AreLineNumbers}
use Rattle.input_form.specs.Head.{AreTagged}
use Rattle.input_form.specs.Places.{IsKey, IsModule, IsTag}
use Rattle.step_text.specs.declared.steps.StepAct.{StepAct}
use Rattle.step_text.specs.declared.steps.StepAct.TheVariants as act
use Rattle.step_text.specs.declared.steps.StepActor.{StepActor}
use Rattle.step_text.specs.declared.steps.StepActor.TheVariants as actor
use Rattle.step_text.specs.declared.steps.StepLine.{StepLine}
use Rattle.step_text.specs.declared.steps.StepOp.{StepOp}
use Rattle.step_text.specs.declared.steps.StepOp.TheVariants as op
use Rattle.step_text.specs.declared.steps.Steps.{Steps}

-- the bytes of an allocation, or of a trim
abbrev pub IsBytes : ℕ → Type 0
IsBytes bytes = (1 ≤ bytes) × (bytes < 2 ^ 44)

-- one of the CPUs, or the manager
abbrev pub IsStepActor : ℕ → StepActor → Type 0
IsStepActor cpus (actor.Cpu n) = n < cpus
IsStepActor cpus actor.Manager = ⊤

-- the manager's ops; the others are the CPUs'
abbrev pub is_managers_op : StepOp → Bool
is_managers_op (op.Load section) = true
is_managers_op (op.Unload section) = true
is_managers_op op.Clean = true
is_managers_op _ = false

-- an op of the actor's own
abbrev pub IsOwnOp : StepActor → StepOp → Type 0
IsOwnOp (actor.Cpu n) op = IsTrue (not (is_managers_op op))
IsOwnOp actor.Manager op = IsTrue (is_managers_op op)

-- the new keys of a split, one less than its parts, are keys from the first on, and not the split one
abbrev pub AreNewKeys : ℕ → ℕ → ℕ → Type 0
AreNewKeys key parts first =
    let last = first + parts - 2 in
    (last ≤ 65535) × ¬ ((first ≤ key) × (key ≤ last))

-- an op whose words are in their ranges
abbrev pub IsStepOp : List Section → StepOp → Type 0
IsStepOp sections (op.Open key section index size) = IsKey key × IsTag sections section index × IsBytes size
IsStepOp sections (op.Close key) = IsKey key
IsStepOp sections (op.Split key parts first) =
    IsKey key × (2 ≤ parts) × (parts ≤ 1024) × IsKey first × AreNewKeys key parts first
IsStepOp sections (op.Swap one two) = IsKey one × IsKey two × (one ≢ two)
IsStepOp sections (op.Trim key bytes) = IsKey key × IsBytes bytes
IsStepOp sections (op.Enter section) = IsModule sections section
IsStepOp sections (op.Leave section) = IsModule sections section
IsStepOp sections (op.Load section) = IsModule sections section
IsStepOp sections (op.Unload section) = IsModule sections section
IsStepOp sections op.Clean = ⊤

-- what a body line may ask for, with so many CPUs and these sections
abbrev pub IsStepAct : ℕ → List Section → StepAct → Type 0
IsStepAct cpus sections (act.Do actor op) = IsStepActor cpus actor × IsOwnOp actor op × IsStepOp sections op
IsStepAct cpus sections (act.Go actor count) = IsStepActor cpus actor × IfSome count (λ n. (1 ≤ n) × (n ≤ 1048576))
IsStepAct cpus sections act.Print = ⊤
IsStepAct cpus sections (act.Words section index) = IsTag sections section index

-- `print` and `words`
abbrev pub is_printing : StepAct → Bool
is_printing act.Print = true
is_printing (act.Words section index) = true
is_printing _ = false

-- how many body lines print
abbrev pub prints_of : List StepLine → ℕ
prints_of body = count_by (λ line. is_printing line.act) body

-- the line numbers of the body
abbrev pub numbers_of : List StepLine → List ℕ
numbers_of body = map (λ line. line.line) body

-- what holds of every schedule that is read
pub record AreSteps (s : Steps) : Type 0 where
  pub some_cpu : 1 ≤ s.cpus
  pub few_cpus : s.cpus ≤ 64
  pub small_area : s.area ≤ 896
  pub some_section : 0 < length s.sections
  pub sections : AreSections s.sections
  pub tagged : AreTagged s.sections
  pub acts : AllByRecursion (λ line. IsStepAct s.cpus s.sections line.act) s.body
  pub lines : AreLineNumbers (numbers_of s.body)
  pub few_lines : length s.body ≤ 131072
  pub few_prints : prints_of s.body ≤ 64
