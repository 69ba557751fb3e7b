use Rattle.std.proofs.Common.{refl, subst, ap, ◌∙◌}
use Rattle.std.specs.Arc.{arc_value}
use Rattle.tag_rule.specs.Shown.{ListShown}
use Rattle.module_area.specs.Area.{IsBook}
use Rattle.reclaim.specs.State.{left_locked}
use Rattle.reclaim.specs.Tied.{locked_shown}
use Rattle.reclaim.proofs.Enter.{found_run, leave_has, leave_part, leave_used, locked_left}
use Rattle.reclaim.proofs.Tying.{shows, ties}
use Rattle.reclaim.proofs.entering.leave_locked.Goals as goal

pub change_list-requires : goal.change_list-requires
change_list-requires c =
    let l = locked_shown c.locked.inside in
    let f = found_run c.args.id c.args.cpu.now.part.runs c.requires.inside in
    leave_has l c.args.id f.run c.locked.inside.list c.take_run.new.list f.on_id c.locked.invariant.part (c.take_run.ensures.list f.run f.is)

pub leave-requires : goal.leave-requires
leave-requires c =
    let l = locked_shown c.locked.inside in
    let f = found_run c.args.id c.args.cpu.now.part.runs c.requires.inside in
    leave_used l c.locked.inside.list.board.shape c.args.id f.run c.locked.inside.list c.take_run.new.list c.take_run.new.cpu.part c.locked.invariant.locked f.on_id c.locked.invariant.part (c.take_run.ensures.list f.run f.is) (c.take_run.ensures.covered f.run f.is)

pub invariant_of-locked : goal.invariant_of-locked
invariant_of-locked c =
    let l = locked_shown c.locked.inside in
    let f = found_run c.args.id c.args.cpu.now.part.runs c.requires.inside in
    let board = ap (λ (x : ListShown). x.board) c.change_list.ensures.list ∙ ap (λ (x : ListShown). x.board) (c.take_run.ensures.list f.run f.is) in
    ties (left_locked c.args.id l) c.leave.new.self c.change_list.new.list (arc_value c.locked.inside.sections) (locked_left l c.args.id c.locked.invariant.locked (subst IsBook c.leave.ensures.after c.leave.ensures.formed)) c.leave.ensures.after board refl
    (leave_part l c.args.id f.run c.locked.inside.list c.take_run.new.list c.change_list.new.list f.on_id c.locked.invariant.part (c.take_run.ensures.list f.run f.is) c.change_list.ensures.list)

pub returns-clause-left : goal.returns-clause-left
returns-clause-left c =
    let l = locked_shown c.locked.inside in
    let f = found_run c.args.id c.args.cpu.now.part.runs c.requires.inside in
    let board = ap (λ (x : ListShown). x.board) c.change_list.ensures.list ∙ ap (λ (x : ListShown). x.board) (c.take_run.ensures.list f.run f.is) in
    shows (left_locked c.args.id l) c.leave.new.self c.change_list.new.list (arc_value c.locked.inside.sections) c.leave.ensures.after board refl
    (leave_part l c.args.id f.run c.locked.inside.list c.take_run.new.list c.change_list.new.list f.on_id c.locked.invariant.part (c.take_run.ensures.list f.run f.is) c.change_list.ensures.list)
    ∙ ap (left_locked c.args.id) c.locked.view_is
