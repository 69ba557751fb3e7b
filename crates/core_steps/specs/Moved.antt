-- The core that a machine and the moves of its CPUs so far give: each word is the sum of the moves on it.
use Rattle.std.specs.Prelude.{◌≡◌, ℕ, ◌++◌, ◌*◌, ◌/◌, ◌%◌, ◌==◌, if◌then◌else◌, List, map}
use Rattle.std.specs.List.{range_with_len}
use Rattle.tag_model.specs.declared.shape.Shape.{Shape}
use Rattle.tag_model.specs.declared.state.Kind.{Kind}
use Rattle.tag_model.specs.declared.state.Kind.TheVariants.{Bytes, Calls}
use Rattle.tag_model.specs.Moves.{Move, moved_word}
use Rattle.core_steps.specs.declared.op.Actor.{Actor}
use Rattle.core_steps.specs.declared.op.Actor.TheVariants as actor
use Rattle.cpu_ops.specs.Machine.{Machine, after_step, moves_of_step}
use Rattle.module_ops.specs.Modules.{ModuleTable, inside_at, managed}
use Rattle.core_steps.specs.CoreState.{CoreState, modules_after_step}
use Rattle.tag_section.specs.Section.{Section}

-- the kind of the word at a place of a CPU
abbrev pub kind_at : ℕ → Kind
kind_at place = if place % 2 == 0 then Bytes else Calls

-- one CPU's words
abbrev pub own_moved : ℕ → List Move → ℕ → List ℕ
own_moved tags moves cpu = map (λ place. moved_word moves cpu (kind_at place) (place / 2)) (range_with_len 0 (2 * tags))

unfoldable pub words_moved : ℕ → ℕ → List Move → List (List ℕ)
words_moved cpus tags moves = map (own_moved tags moves) (range_with_len 0 cpus)

abbrev pub core_of : Shape → List Section → Machine → ModuleTable → List Move → CoreState
core_of shape sections machine modules moves = record { shape = shape; sections = sections; machine = machine; words = words_moved shape.cpus shape.tags moves; modules = modules }

-- the core's words are the sums of these moves
abbrev pub HasMoved : CoreState → List Move → Type 0
HasMoved s moves = s ≡ core_of s.shape s.sections s.machine s.modules moves

-- the core after the actor's next step, by its moves; the manager makes none, and reads what the moves come to
abbrev pub moved_on : CoreState → Actor → List Move → CoreState
moved_on s (actor.Cpu cpu) moves =
    core_of s.shape s.sections (after_step s.machine (inside_at s.modules cpu) cpu) (modules_after_step s.machine s.modules cpu) (moves ++ moves_of_step s.machine (inside_at s.modules cpu) cpu)
moved_on s actor.Manager moves = core_of s.shape s.sections s.machine (managed s.shape s.sections (words_moved s.shape.cpus s.shape.tags moves) s.modules) moves
