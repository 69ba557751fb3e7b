-- A tag is put on a task, and taken off again.
use Rattle.std.proofs.Common.{◌≡◌, ℕ, ◌+◌, ◌-◌, arith, ap}
use Rattle.tag_model.specs.declared.state.Tag.{Tag}
use Rattle.current_tag.specs.Hooks.{TaskShown, hooked, kept_of, restored}

pub unhooked : (tag : Tag) (task : TaskShown) → restored (kept_of task) (hooked tag task) ≡ task
unhooked tag task =
    let same : task.depth + 1 - 1 ≡ task.depth = omega arith in
    let with_depth : ℕ → TaskShown = λ d. record { current = task.current; depth = d } in
    ap with_depth same
