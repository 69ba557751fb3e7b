use Rattle.std.proofs.Common.{◌-◌, sym, ap, ◌∙◌, subst, refl}
use Rattle.std.specs.Fn.{FnOnceReturnsAtMut}
use Rattle.current_tag.specs.Hooks.{hooked, kept_of, restored}
use Rattle.current_tag.proofs.task.Task.with_tag.Goals as goal
use Rattle.current_tag.proofs.Unhooked.{unhooked}

-- the task as the function leaves it is as it found it
pub restore-requires : goal.restore-requires
restore-requires g c =
    let called : FnOnceReturnsAtMut g.F.FnOnce c.args.f (hooked c.args.tag c.args.self.now) c.f-answer.result c.f-answer.new.arg2 =
    record { shown = _; shows = c.save-saved.ensures.hooked; left = _; met = c.f-answer.ensures; leaves = refl } in
    ap (λ kept. kept.depth) c.save-saved.ensures.kept ∙ sym (ap (λ task. task.depth) (c.requires.leaves c.f-answer.result c.f-answer.new.arg2 called))

pub returns-clause-same : goal.returns-clause-same
returns-clause-same g c =
    let called : FnOnceReturnsAtMut g.F.FnOnce c.args.f (hooked c.args.tag c.args.self.now) c.f-answer.result c.f-answer.new.arg2 =
    record { shown = _; shows = c.save-saved.ensures.hooked; left = _; met = c.f-answer.ensures; leaves = refl } in
    c.restore.ensures
    ∙ ap (λ kept. restored kept c.f-answer.new.arg2) c.save-saved.ensures.kept
    ∙ ap (restored (kept_of c.args.self.now)) (c.requires.leaves c.f-answer.result c.f-answer.new.arg2 called)
    ∙ unhooked c.args.tag c.args.self.now

pub returns-clause-answer : goal.returns-clause-answer
returns-clause-answer g c =
    let called : FnOnceReturnsAtMut g.F.FnOnce c.args.f (hooked c.args.tag c.args.self.now) c.f-answer.result c.f-answer.new.arg2 =
    record { shown = _; shows = c.save-saved.ensures.hooked; left = _; met = c.f-answer.ensures; leaves = refl } in
    subst (FnOnceReturnsAtMut g.F.FnOnce c.args.f (hooked c.args.tag c.args.self.now) c.f-answer.result) (c.requires.leaves c.f-answer.result c.f-answer.new.arg2 called) called
