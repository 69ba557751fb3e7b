-- A task and the hooks that are out on it.
use Rattle.std.specs.Prelude.{◌≡◌, List, [], ◌∷◌}
use Rattle.tag_model.specs.declared.state.Tag.{Tag}
use Rattle.current_tag.specs.Hooks.{TaskShown, hooked, restored, unhooked}
use Rattle.round_worker.specs.declared.hooks.Hook.{Hook}

abbrev pub tag_of : Hook → Tag
tag_of hook = hook.tag

-- the last one first: the task is hooked with its tag, it is the innermost, and those before it are the hooks of the task without it
abbrev pub AreHooks : TaskShown → List Hook → Type 0
AreHooks task [] = task ≡ unhooked
AreHooks task (hook ∷ hooks) = (task ≡ hooked hook.tag (restored hook.saved task)) × (hook.saved.depth ≡ task.depth) × AreHooks (restored hook.saved task) hooks
