-- A step of the core by its kind: it is one of the step rules, of this kind, and begins a pass as this kind does.
use Rattle.std.proofs.Common.{◌≡◌, ℕ, zero, suc, ◌+◌, ◌-◌, ◌<◌, ◌==◌, ◌&&◌, nat_lt, List, ◌++◌, length, replicate, refl, sym, ap, ◌∙◌, arith, true, false, not, cond, Option, Some, None, IsSomeAnd, lt-ltb, le-ltb, ne_eqb, inl, inr}
use Rattle.std.specs.Prelude.{slice_get}
use Rattle.std.proofs.lemmas.Bool.{cases_lt}
use Rattle.tag_model.specs.declared.shape.Shape.{Shape}
use Rattle.tag_model.specs.declared.state.Hand.{Hand}
use Rattle.tag_model.specs.declared.state.Held.{Held}
use Rattle.tag_model.specs.declared.state.Kind.{Kind}
use Rattle.tag_model.specs.declared.state.Kind.TheVariants.{Bytes, Calls}
use Rattle.tag_model.specs.declared.state.Part.{Part}
use Rattle.tag_model.specs.declared.state.Run.{Run}
use Rattle.tag_model.specs.declared.state.Sweep.{Sweep}
use Rattle.tag_model.specs.Histories.{reads_calls}
use Rattle.tag_model.specs.Histories as history
use Rattle.tag_model.specs.Laws.{is_calls}
use Rattle.tag_model.specs.StepRules.{EntersCpu, LeavesCpu, Steps, StepsWith}
use Rattle.cpu_ops.specs.declared.op.CpuOp.{CpuOp}
use Rattle.cpu_ops.specs.declared.op.CpuOp.TheVariants.{Open, Close, Split, Swap, Trim, Enter, Leave}
use Rattle.cpu_ops.specs.declared.step.WordStep.{WordStep}
use Rattle.cpu_ops.specs.declared.step.WordStep.TheVariants.{BeginAllocation, AddBytes, AddCall, SubtractBytes, SubtractCall, Write, GoIn, GoOut}
use Rattle.cpu_ops.specs.Machine.{share_step, step_count, step_of, part_key}
use Rattle.core_steps.specs.Kinds.{StepKind, GoesAs, begins_as, row_kind, scan_of, steps_of}

pub data GoesBy (k : Shape) (kind : StepKind) (after : Sweep) (old new : List Part) : Type 0 where
  alone : (steps : Steps k old new) → row_kind steps.row ≡ kind → history.pass_begun steps.row ≡ begins_as (Some kind) after → GoesBy k kind after old new
  enters_cpu : EntersCpu old new → kind ≡ StepKind.Enter → GoesBy k kind after old new
  leaves_cpu : LeavesCpu old new → kind ≡ StepKind.Leave → GoesBy k kind after old new

pub goes_as : (k : Shape) (kind : StepKind) (after : Sweep) (old new : List Part) → GoesBy k kind after old new → GoesAs k kind old new
goes_as k kind after old new (GoesBy.alone steps is begins) = GoesAs.alone steps is
goes_as k kind after old new (GoesBy.enters_cpu enters is) = GoesAs.enters_cpu enters is
goes_as k kind after old new (GoesBy.leaves_cpu leaves is) = GoesAs.leaves_cpu leaves is

pub goes_with : (k : Shape) (kind : StepKind) (after : Sweep) (old new : List Part) → GoesBy k kind after old new → StepsWith k old new
goes_with k kind after old new (GoesBy.alone steps is begins) = StepsWith.alone steps
goes_with k kind after old new (GoesBy.enters_cpu enters is) = StepsWith.enters_cpu enters
goes_with k kind after old new (GoesBy.leaves_cpu leaves is) = StepsWith.leaves_cpu leaves

-- of a kind that may be there
pub kind_goes : (k : Shape) (o : Option StepKind) (after : Sweep) (old new : List Part) → IsSomeAnd o (λ kind. GoesBy k kind after old new) → IsSomeAnd o (λ kind. GoesAs k kind old new)
kind_goes k None after old new h = h
kind_goes k (Some kind) after old new h = goes_as k kind after old new h

pub kind_with : (k : Shape) (o : Option StepKind) (after : Sweep) (old new : List Part) → IsSomeAnd o (λ kind. GoesBy k kind after old new) → StepsWith k old new
kind_with k None after old new h = absurd h
kind_with k (Some kind) after old new h = goes_with k kind after old new h

-- a read begins a pass as its kind does
pub scan_begins : (pass : Kind) (after : Sweep) → cond (not (is_calls pass) && reads_calls after) (Some Calls) None ≡ begins_as (Some (scan_of pass)) after
scan_begins Bytes after = refl
scan_begins Calls after = refl

-- ---- the kinds of a CPU's steps

abbrev pub word_kind : WordStep → StepKind
word_kind (BeginAllocation tag) = StepKind.AddCall
word_kind (AddBytes size) = StepKind.AddBytes
word_kind AddCall = StepKind.AddCall
word_kind (SubtractBytes bytes) = StepKind.SubBytes
word_kind SubtractCall = StepKind.SubCall
word_kind (Write key held next) = StepKind.WriteCell
word_kind (GoIn section) = StepKind.Enter
word_kind (GoOut section) = StepKind.Leave

-- ---- the table

get_replicate : (n i : ℕ) (x : StepKind) → i < n → slice_get (replicate n x) i ≡ Some x
get_replicate zero i x h = absurd (omega arith)
get_replicate (suc n) zero x h = refl
get_replicate (suc n) (suc i) x h = get_replicate n i x (omega arith)

get_both : (n m i : ℕ) (x y : StepKind) → i < n + m → slice_get (replicate n x ++ replicate m y) i ≡ Some (cond (nat_lt i n) x y)
get_both zero m i x y h = let none : nat_lt i 0 ≡ false = le-ltb i 0 (omega arith) in rw none (get_replicate m i y (omega arith))
get_both (suc n) m zero x y h = let some : nat_lt 0 (suc n) ≡ true = lt-ltb 0 (suc n) (omega arith) in rw some refl
get_both (suc n) m (suc i) x y h =
    let same : nat_lt (suc i) (suc n) ≡ nat_lt i n = elim (cases_lt i n) [
      | inl less ↦ lt-ltb (suc i) (suc n) (omega arith) ∙ sym (lt-ltb i n less)
      | inr more ↦ le-ltb (suc i) (suc n) (omega arith) ∙ sym (le-ltb i n more)
    ] in
    rw same (get_both n m i x y (omega arith))

shared : (key : ℕ) (hand : Option Hand) → word_kind (share_step key hand) ≡ StepKind.WriteCell
shared key None = refl
shared key (Some h) = refl

-- the next step of an op is of the kind that the table gives
pub of_table : (op : CpuOp) (done : ℕ) (hand : Option Hand) (places : List Held) (inside : List (Option Run)) → 0 < step_count op → done < step_count op → slice_get (steps_of op) done ≡ Some (word_kind (step_of op done hand places inside))
of_table (Open key section index size) zero hand places inside some within = refl
of_table (Open key section index size) (suc zero) hand places inside some within = refl
of_table (Open key section index size) (suc (suc zero)) hand places inside some within = refl
of_table (Open key section index size) (suc (suc (suc n))) hand places inside some within = absurd (omega arith)
of_table (Close key) zero hand places inside some within = refl
of_table (Close key) (suc zero) hand places inside some within = refl
of_table (Close key) (suc (suc zero)) hand places inside some within = refl
of_table (Close key) (suc (suc (suc n))) hand places inside some within = absurd (omega arith)
of_table (Split key parts first) zero hand places inside some within = refl
of_table (Split key parts first) (suc n) hand places inside some within =
    let later : (suc n == 0) ≡ false = ne_eqb (suc n) 0 (λ e. omega arith) in
    get_both (parts - 1) parts n StepKind.AddCall StepKind.WriteCell (omega arith) ∙ elim (cases_lt (suc n) parts) [
      | inl more ↦ (let here : nat_lt n (parts - 1) ≡ true = lt-ltb n (parts - 1) (omega arith) in let there : nat_lt (suc n) parts ≡ true = lt-ltb (suc n) parts more in rw (here, later, there) refl)
      | inr past ↦ (let here : nat_lt n (parts - 1) ≡ false = le-ltb n (parts - 1) (omega arith) in let there : nat_lt (suc n) parts ≡ false = le-ltb (suc n) parts past in
          rw (here, later, there) (ap (λ x. Some x) (sym (shared (part_key key first (suc n - parts)) hand))))
    ]
of_table (Swap one two) zero hand places inside some within = refl
of_table (Swap one two) (suc zero) hand places inside some within = refl
of_table (Swap one two) (suc (suc zero)) hand places inside some within = refl
of_table (Swap one two) (suc (suc (suc n))) hand places inside some within = absurd (omega arith)
of_table (Trim key bytes) zero hand places inside some within = refl
of_table (Trim key bytes) (suc zero) hand places inside some within = refl
of_table (Trim key bytes) (suc (suc zero)) hand places inside some within = refl
of_table (Trim key bytes) (suc (suc (suc n))) hand places inside some within = absurd (omega arith)
of_table (Enter section) zero hand places inside some within = refl
of_table (Enter section) (suc n) hand places inside some within = absurd (omega arith)
of_table (Leave section) zero hand places inside some within = refl
of_table (Leave section) (suc n) hand places inside some within = absurd (omega arith)

-- the table has as many steps as the op takes
pub table_length : (op : CpuOp) → 0 < step_count op → length (steps_of op) ≡ step_count op
table_length (Open key section index size) some = refl
table_length (Close key) some = refl
table_length (Split key parts first) some = omega (arith, length_both (parts - 1) parts)
  where
    one_kind : (n : ℕ) (x : StepKind) → length (replicate n x) ≡ n
    one_kind zero x = refl
    one_kind (suc n) x = ap suc (one_kind n x)

    length_both : (n m : ℕ) → length (replicate n StepKind.AddCall ++ replicate m StepKind.WriteCell) ≡ n + m
    length_both zero m = one_kind m StepKind.WriteCell ∙ omega arith
    length_both (suc n) m = ap suc (length_both n m) ∙ omega arith
table_length (Swap one two) some = refl
table_length (Trim key bytes) some = refl
table_length (Enter section) some = refl
table_length (Leave section) some = refl
