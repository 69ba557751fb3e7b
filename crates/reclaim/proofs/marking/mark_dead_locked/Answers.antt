use Rattle.std.proofs.Common.{IsSomeAnd, refl, sym, subst}
use Rattle.std.specs.Arc.{arc_value}
use Rattle.module_area.specs.Entries.{entry_of}
use Rattle.module_area.specs.Area.{IsBook}
use Rattle.reclaim.specs.State.{LockedShown}
use Rattle.reclaim.specs.Tied.{locked_shown}
use Rattle.reclaim.proofs.Clean.{locked_with, with_part}
use Rattle.reclaim.proofs.Gone.{some_and}
use Rattle.reclaim.proofs.Tying.{ties}
use Rattle.reclaim.proofs.Unload.{IsReady, locked_marked, marked, unload_read, unused_there}
use Rattle.reclaim.proofs.marking.mark_dead_locked.Goals as goal

pub change_list-requires : goal.change_list-requires
change_list-requires c =
    let s = c.locked.inside in
    let l = locked_shown s in
    let ready = subst (λ (x : LockedShown). IsSomeAnd (entry_of x.area.entries c.args.id) IsReady) (sym c.locked.view_is) c.requires in
    let e = some_and (entry_of l.area.entries c.args.id) IsReady ready in
    unused_there l c.args.id e.entry s.list.part c.locked.invariant.locked e.is e.holds.0 e.holds.1 c.locked.invariant.part

pub invariant_of-locked : goal.invariant_of-locked
invariant_of-locked c =
    let s = c.locked.inside in
    let l = locked_shown s in
    let ready = subst (λ (x : LockedShown). IsSomeAnd (entry_of x.area.entries c.args.id) IsReady) (sym c.locked.view_is) c.requires in
    let e = some_and (entry_of l.area.entries c.args.id) IsReady ready in
    let r = unload_read l c.args.id e.entry s.list c.change_list.new.list c.read_all.new.list c.locked.invariant.locked e.is e.holds refl c.locked.invariant.part c.change_list.ensures.list c.read_all.ensures.board c.read_all.ensures.reads c.read_all.ensures.still in
    let ok = locked_with (marked c.args.id l) c.read_all.new.list.part (locked_marked l c.args.id c.locked.invariant.locked (subst IsBook c.set_dead.ensures.after c.set_dead.ensures.formed)) c.read_all.ensures.still in
    ties (with_part c.read_all.new.list.part (marked c.args.id l)) c.set_dead.new.self c.read_all.new.list (arc_value s.sections) ok c.set_dead.ensures.after r.board refl r.swept.part
