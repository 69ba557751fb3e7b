-- A task's current tag and how many hooks are out; what a hook keeps.
use Rattle.std.specs.Prelude.{ℕ, ◌+◌, ◌-◌, Option, Some, None}
use Rattle.tag_model.specs.declared.state.Tag.{Tag}

pub record TaskShown : Type 0 where
  pub current : Option Tag
  pub depth : ℕ

-- what a hook keeps: the tag that was current before it, and its place among the hooks, the outermost being 1
pub record Kept : Type 0 where
  pub tag : Option Tag
  pub depth : ℕ

-- the task with no hook out
abbrev pub unhooked : TaskShown
unhooked = record { current = None; depth = 0 }

-- the task with one more hook out
abbrev pub hooked : Tag → TaskShown → TaskShown
hooked tag task = record { current = Some tag; depth = task.depth + 1 }

-- what that hook keeps
abbrev pub kept_of : TaskShown → Kept
kept_of task = record { tag = task.current; depth = task.depth + 1 }

-- the task with its innermost hook taken off, of which this was kept
abbrev pub restored : Kept → TaskShown → TaskShown
restored kept task = record { current = kept.tag; depth = task.depth - 1 }

-- the most hooks that are out at once
abbrev pub most_hooks : ℕ
most_hooks = 32
