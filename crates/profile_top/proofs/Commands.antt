-- What the words ask for, and what is served for it.
use Rattle.std.proofs.Common.{◌≡◌, ℕ, ◌<◌, ◌≤◌, ◌⊎◌, inl, inr, Bool, false, List, length, Option, Some, None, refl, sym, ap, ◌∙◌, subst, arith}
use Rattle.std.specs.Prelude.{if◌then◌else◌, option_map}
use Rattle.std.specs.Io.KnownBytes.{Consumes, IsAtEnd}
use Rattle.outside.specs.Bytes.{AppendsPrefix}
use Rattle.plant.specs.Table.{PlantShown}
use Rattle.trace_play.specs.Answer.{run_answer}
use Rattle.profile_top.specs.declared.answer.Answer.{Answer}
use Rattle.profile_top.specs.declared.mode.Mode.{Mode}
use Rattle.profile_top.specs.Answers.{Gives, Served, ServedInPart, Written, input_limit, mode_of}
use Rattle.profile_top.specs.Commands.{Command, Still, Run, CommandServed, CommandServedInPart, RunLeaves, command_answer, command_in, command_of, is_run, written_of}
use Rattle.profile_top.proofs.Serving.{short_answer}

-- ---- words

pub still_asked : (words : List (List ℕ)) → is_run words ≡ false → command_of words ≡ option_map Still (mode_of words)
still_asked words e = ap (λ (b : Bool). if b then Some Run else option_map Still (mode_of words)) e

-- where the words aren't `run`, what they ask for is what `memprof_still` serves
pub record IsStill (words : List (List ℕ)) (command : Command) : Type 0 where
  pub mode : Mode
  pub is : Still mode ≡ command
  pub asked : mode_of words ≡ Some mode

pub is_still : (words : List (List ℕ)) → is_run words ≡ false → (command : Command) → command_of words ≡ Some command → IsStill words command
is_still words e command asked = by_mode (mode_of words) refl (sym (still_asked words e) ∙ asked)
  where
    by_mode : (mode : Option Mode) → mode_of words ≡ mode → option_map Still mode ≡ Some command → IsStill words command
    by_mode None is none = let no : None ≡ Some command = none in cc
    by_mode (Some mode) is some = let one : Some (Still mode) ≡ Some command = some in record { mode = mode; is = cc; asked = is }

-- ---- what is served

pub still_served : (mode : Mode) (status : ℕ) (left left_after taken taken_after : Option (List ℕ)) (p : PlantShown) → Served mode status left left_after taken taken_after
    → CommandServed (Still mode) status left left_after taken taken_after p p
still_served mode status left left_after taken taken_after p served = record { input = served.input; is_input = served.is_input; told = served.told; written = served.written; leaves = refl }

pub still_in_part : (mode : Mode) (left left_after taken taken_after : Option (List ℕ)) (p : PlantShown) → ServedInPart mode left left_after taken taken_after
    → CommandServedInPart (Still mode) left left_after taken taken_after p p
still_in_part mode left left_after taken taken_after p served = record { input = served.input; is_input = served.is_input; written = served.written; leaves = refl }

-- of a text whose status isn't 5, a front went out where the answer is 5
pub went_in_part : {A B : Type 0} (status : ℕ) → status < 2 → (status ≡ 5) ⊎ (A × B) → B
went_in_part status below (inl five) = absurd (omega (arith, below, five))
went_in_part status below (inr both) = both.1

pub run_in_part_read : (left left_after taken taken_after : Option (List ℕ)) (read : List ℕ) (answer : Answer) (old new : PlantShown) → Consumes left left_after read → IsAtEnd left_after → length read ≤ input_limit
    → Gives answer (written_of (run_answer None read)) → RunLeaves read old new → AppendsPrefix taken taken_after answer.text.items → CommandServedInPart Run left left_after taken taken_after old new
run_in_part_read left left_after taken taken_after read answer old new consumes end within gives leaves part =
    let is : command_answer Run read ≡ command_in Run read = short_answer (command_in Run) read within in
    record {
      input = read;
      is_input = record { taken = consumes; whole = inl end };
      written = subst (AppendsPrefix taken taken_after) (gives.text ∙ sym (ap (λ (w : Written). w.text) is)) part;
      leaves = leaves;
    }

-- ---- the plant behind a `run`

-- what was read to the end is what was there, so the plant is that of it
pub read_leaves : (read input : List ℕ) (old new : PlantShown) → read ≡ input → RunLeaves read old new → RunLeaves input old new
read_leaves read input old new e leaves = subst (λ (bytes : List ℕ). RunLeaves bytes old new) e leaves
