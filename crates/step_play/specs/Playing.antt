-- What a core that plays a schedule has of its meaning.
use Rattle.std.specs.Prelude.{◌≡◌, ℕ, ◌+◌, ◌<◌, Result, Ok, Err, List, length, ⊤}
use Rattle.tag_section.specs.Section.{tags_in}
use Rattle.core_steps.specs.CoreState.{CoreState, IsActor, IsOpOf}
use Rattle.input_form.specs.declared.code.Code.{Code}
use Rattle.input_form.specs.declared.code.TextError.{TextError}
use Rattle.input_form.specs.declared.code.TextError.TheVariants as text
use Rattle.step_text.specs.declared.steps.StepAct.{StepAct}
use Rattle.step_text.specs.declared.steps.StepAct.TheVariants as act
use Rattle.step_text.specs.declared.steps.StepLine.{StepLine}
use Rattle.step_play.specs.Acts.{actor_of, op_of}
use Rattle.input_form.specs.declared.line_error.LineError.{LineError}
use Rattle.input_form.specs.declared.line_error.LineError.TheVariants as error
use Rattle.step_play.specs.declared.schedule.End.{End}
use Rattle.step_play.specs.declared.schedule.End.TheVariants as end
use Rattle.step_play.specs.Printed.{Setting}
use Rattle.core_steps.specs.declared.op.Actor.{Actor}
use Rattle.step_play.specs.Schedule.{Played, all_taken, core_played, setting, steps_taken}

-- the core and the text are those of what was played
pub record Shows (s : Setting) (now : CoreState) (written : List ℕ) (p : Played) : Type 0 where
  pub core : now ≡ core_played s p
  pub text : written ≡ p.text

-- A call left what the meaning says, unless memory ran out; a refusal is the meaning's.
abbrev pub Follows : {X : Type 0} → Setting → Result X LineError → CoreState → List ℕ → Result Played Code → Type 0
Follows s (Ok x) core text (Ok p) = Shows s core text p
Follows s (Ok x) core text (Err why) = ⊥
Follows s (Err (error.Refused why)) core text meant = meant ≡ Err why
Follows s (Err (error.Memory want)) core text meant = ⊤

-- the sizes and the sections stay
pub record SameSizes (old new : CoreState) : Type 0 where
  pub shape : new.shape ≡ old.shape
  pub sections : new.sections ≡ old.sections

-- So many steps of the actor lead from what was played to what the core shows, and whatever takes so many more goes on
-- from there.
pub record StepsOn (s : Setting) (who : Actor) (n : ℕ) (now : CoreState) (text : List ℕ) (p : Played) : Type 0 where
  pub played : Played
  pub shows : Shows s now text played
  pub steps : (more : ℕ) → steps_taken s who (n + more) p ≡ steps_taken s who more played
  pub all : (more : ℕ) → all_taken s who (n + more) p ≡ all_taken s who more played

-- a core's own setting
abbrev pub own_setting : CoreState → Setting
own_setting core = setting core.shape core.sections

-- what a line needs of the core
abbrev pub IsAct : CoreState → StepAct → Type 0
IsAct core (act.Do who what) = IsActor core (actor_of who) × IsOpOf core.sections (actor_of who) (op_of what)
IsAct core (act.Go who count) = ⊤
IsAct core act.Print = ⊤
IsAct core (act.Words section index) = (section < length core.sections) × (index < tags_in core.sections section)

-- A call left what the meaning of lines says, unless memory ran out.
abbrev pub Plays : Setting → Result ⊤ TextError → CoreState → List ℕ → Result Played (ℕ × Code) → Type 0
Plays s (Ok done) core text (Ok p) = Shows s core text p
Plays s (Ok done) core text (Err why) = ⊥
Plays s (Err (text.Refused line code)) core written meant = meant ≡ Err (line, code)
Plays s (Err (text.Memory want)) core written meant = ⊤

abbrev pub IsLine : CoreState → StepLine → Type 0
IsLine core line = IsAct core line.act

-- A schedule that was played ended as its meaning says: the core and the text are those that its lines come to, or the
-- line and the code are those of the first that is refused.
abbrev pub Ends : Setting → CoreState → End → Result Played (ℕ × Code) → Type 0
Ends s core (end.Text text) (Ok p) = Shows s core text.items p
Ends s core (end.Text text) (Err why) = ⊥
Ends s core (end.Refused line code) meant = meant ≡ Err (line, code)
