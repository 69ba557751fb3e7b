-- The states that a schedule passes through.
use Rattle.std.specs.Prelude.{◌≡◌, ℕ, None, Ok, List, ◌++◌}
use Rattle.tag_model.specs.Shape.{IsChecked}
use Rattle.core_steps.specs.declared.op.Actor.{Actor}
use Rattle.core_steps.specs.declared.op.Op.{Op}
use Rattle.core_steps.specs.CoreState.{IsActor, IsOpOf, SectionsFitShape, refused}
use Rattle.step_text.specs.declared.steps.StepLine.{StepLine}
use Rattle.step_text.specs.declared.steps.Steps.{Steps}
use Rattle.step_play.specs.Printed.{Setting}
use Rattle.step_play.specs.Schedule.{Played, core_played, nothing_played, play, setting_of, steps_taken, with_step, with_queued, with_text}
use Rattle.step_play.specs.Playing.{IsAct}

-- from nothing played on, by steps that aren't refused, by ops that are queued, and by text that is printed
pub data Reached (s : Setting) : Played → Type 0 where
  first : Reached s (nothing_played s)
  steps : {p : Played} (who : Actor) → Reached s p → refused (core_played s p) who ≡ None → Reached s (with_step s who p)
  queues : {p : Played} (who : Actor) (op : Op) → Reached s p → IsActor (core_played s p) who → IsOpOf s.sections who op → Reached s (with_queued s who op p)
  prints : {p : Played} (more : List ℕ) → Reached s p → Reached s (with_text more p)

-- the sizes are in their limits, and the sections fit them
pub record IsSetting (s : Setting) : Type 0 where
  pub shape : IsChecked s.shape
  pub sections : SectionsFitShape s.shape s.sections

-- a line asks for what the setting has
abbrev pub IsLineOf : Setting → StepLine → Type 0
IsLineOf s line = IsAct (core_played s (nothing_played s)) line.act

-- the schedule passes through the state: after some of its first lines, and then some steps of an actor
pub record PassesThrough (steps : Steps) (q : Played) : Type 0 where
  pub front : List StepLine
  pub back : List StepLine
  pub split : steps.body ≡ front ++ back
  pub before : Played
  pub lines : play (setting_of steps) front (nothing_played (setting_of steps)) ≡ Ok before
  pub who : Actor
  pub count : ℕ
  pub on : steps_taken (setting_of steps) who count before ≡ Ok q
