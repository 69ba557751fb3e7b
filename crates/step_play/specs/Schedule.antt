-- What a schedule means: a fold over its lines that keeps the machine, the modules, the moves of all steps so far and the text so far. It has no words: a word is the sum of the moves on it.
use Rattle.std.specs.Prelude.{ℕ, zero, suc, ◌+◌, ◌==◌, nat_lt, Option, Some, None, Result, Ok, Err, List, [], ◌∷◌, ◌++◌, length, if◌then◌else◌, Bool}
use Rattle.tag_model.specs.declared.shape.Shape.{Shape}
use Rattle.tag_model.specs.Moves.{Move}
use Rattle.tag_section.specs.Section.{Section}
use Rattle.module_area.specs.declared.entry.Entry.{Entry}
use Rattle.core_list.specs.ListState.{loaded_entry}
use Rattle.cpu_ops.specs.declared.refused.StepRefused.{StepRefused}
use Rattle.core_steps.specs.declared.op.Actor.{Actor}
use Rattle.core_steps.specs.declared.op.Op.{Op}
use Rattle.cpu_ops.specs.Machine.{Machine, fresh_machine}
use Rattle.module_ops.specs.Modules.{ModuleTable, fresh_modules}
use Rattle.core_steps.specs.CoreState.{CoreState, refused, stepped, event_of, queued, ops_of}
use Rattle.core_steps.specs.Laws.{moves_of_actor}
use Rattle.core_steps.specs.Moved.{core_of}
use Rattle.core_steps.specs.StepsLeft.{steps_left}
use Rattle.input_form.specs.declared.code.Code.{Code}
use Rattle.input_form.specs.declared.code.Code.TheVariants as code
use Rattle.step_text.specs.declared.steps.StepAct.{StepAct}
use Rattle.step_text.specs.declared.steps.StepAct.TheVariants as act
use Rattle.step_text.specs.declared.steps.StepLine.{StepLine}
use Rattle.step_text.specs.declared.steps.Steps.{Steps}
use Rattle.input_form.specs.Judging.{◌>>=◌, at}
use Rattle.step_play.specs.Acts.{actor_of, op_of, code_of}
use Rattle.step_play.specs.Printed.{Setting, allocinfo_text, words_text, event_text}

pub record Played : Type 0 where
  pub machine : Machine
  pub modules : ModuleTable
  pub moves : List Move
  pub text : List ℕ

-- the core that this comes to: each word is the sum of the moves on it
abbrev pub core_played : Setting → Played → CoreState
core_played s p = core_of s.shape s.sections p.machine p.modules p.moves

-- ---- steps

-- an actor's step, with its moves and with what it tells
abbrev pub with_step : Setting → Actor → Played → Played
with_step s who p = let now = core_played s p in record {
  machine = (stepped now who).machine;
  modules = (stepped now who).modules;
  moves = p.moves ++ moves_of_actor now who;
  text = p.text ++ event_text s.sections (event_of now who);
}

abbrev pub unless_refused : Option StepRefused → Played → Result Played Code
unless_refused None p = Ok p
unless_refused (Some why) p = Err (code_of why)

-- one step of an actor
abbrev pub one_step : Setting → Actor → Played → Result Played Code
one_step s who p = unless_refused (refused (core_played s p) who) (with_step s who p)

-- so many steps, up to the first that is refused
abbrev pub steps_taken : Setting → Actor → ℕ → Played → Result Played Code
steps_taken s who zero p = Ok p
steps_taken s who (suc n) p = one_step s who p >>= steps_taken s who n

-- the actor has nothing queued or under way
abbrev pub is_idle : Setting → Actor → Played → Bool
is_idle s who p = length (ops_of (core_played s p) who) == 0

-- steps until the actor is idle, at most so many, up to the first that is refused
abbrev pub all_taken : Setting → Actor → ℕ → Played → Result Played Code
all_taken s who zero p = Ok p
all_taken s who (suc n) p = if is_idle s who p then Ok p else one_step s who p >>= all_taken s who n

-- ---- lines

-- the op is the last of the actor's
abbrev pub with_queued : Setting → Actor → Op → Played → Played
with_queued s who op p = let next = queued (core_played s p) who op in record p { machine = next.machine; modules = next.modules }

-- unless its queue is full
abbrev pub queues_on : Setting → Actor → Op → Played → Result Played Code
queues_on s who op p = if nat_lt (length (ops_of (core_played s p) who)) 65536 then Ok (with_queued s who op p) else Err code.Queue

-- `all` takes at most as many as the actor has left
abbrev pub steps_on : Setting → Actor → Option ℕ → Played → Result Played Code
steps_on s who None p = all_taken s who (steps_left (core_played s p) who) p
steps_on s who (Some n) p = steps_taken s who n p

abbrev pub with_text : List ℕ → Played → Played
with_text more p = record p { text = p.text ++ more }

-- the number of a module's tag
abbrev pub module_number : ℕ → Option Entry → Option ℕ
module_number index None = None
module_number index (Some e) = Some (e.start + index)

-- the number of a tag: none of a module that isn't loaded
abbrev pub number_of : ℕ → ℕ → Played → Option ℕ
number_of section index p = if section == 0 then Some index else module_number index (loaded_entry section p.modules.list)

abbrev pub words_of : Setting → ℕ → Option ℕ → Played → Result Played Code
words_of s section None p = Err (code.NotLoaded section)
words_of s section (Some number) p = Ok (with_text (words_text s.shape.cpus p.moves number) p)

-- what a line does
abbrev pub act_on : Setting → StepAct → Played → Result Played Code
act_on s (act.Do who what) p = queues_on s (actor_of who) (op_of what) p
act_on s (act.Go who count) p = steps_on s (actor_of who) count p
act_on s act.Print p = Ok (with_text (allocinfo_text s p.modules.list.area.entries p.moves) p)
act_on s (act.Words section index) p = words_of s section (number_of section index p) p

infixl 10 ◌then◌
abbrev pub ◌then◌ : Result Played (ℕ × Code) → (Played → Result Played (ℕ × Code)) → Result Played (ℕ × Code)
(Ok p) then f = f p
(Err why) then f = Err why

-- the lines in their order, up to the first that is refused
abbrev pub play : Setting → List StepLine → Played → Result Played (ℕ × Code)
play s [] p = Ok p
play s (line ∷ lines) p = at line.line (act_on s line.act p) then (play s lines)

-- ---- a whole schedule

-- one CPU and 128 kernel tags at least; frames and vectors aren't used
abbrev pub shape_of : ℕ → ℕ → Shape
shape_of cpus area = record { cpus = cpus; tags = 128 + area; kernel_tags = 128; frames = 0; vectors = 0 }

abbrev pub setting : Shape → List Section → Setting
setting shape sections = record { shape = shape; sections = sections }

abbrev pub setting_of : Steps → Setting
setting_of steps = setting (shape_of steps.cpus steps.area) steps.sections

-- before the first line
abbrev pub nothing_played : Setting → Played
nothing_played s = record { machine = fresh_machine s.shape.cpus; modules = fresh_modules s.shape (length s.sections); moves = []; text = [] }

-- what a schedule's lines come to
abbrev pub schedule_of : Steps → Result Played (ℕ × Code)
schedule_of steps = let s = setting_of steps in play s steps.body (nothing_played s)
