use Rattle.std.proofs.Common.{IsSomeAnd, refl, sym, ◌∙◌, subst}
use Rattle.std.specs.Arc.{arc_value}
use Rattle.tag_rule.specs.Shown.{Board}
use Rattle.module_area.specs.Entries.{entry_of}
use Rattle.module_area.specs.Area.{IsBook}
use Rattle.reclaim.specs.State.{LockedShown}
use Rattle.reclaim.specs.Steps.{Reads}
use Rattle.reclaim.specs.Tied.{locked_shown}
use Rattle.reclaim.proofs.Clean.{locked_with, with_part}
use Rattle.reclaim.proofs.Gone.{some_and}
use Rattle.reclaim.proofs.Reading.{reads_on}
use Rattle.reclaim.proofs.Tying.{ties}
use Rattle.reclaim.proofs.Unload.{IsReady, locked_marked, marked, unload_read, unused_there}
use Rattle.reclaim.proofs.tests.race.unload_around.Goals as goal

pub change_list-requires : goal.change_list-requires
change_list-requires c =
    let s = c.locked.inside in
    let l = locked_shown s in
    let ready = subst (λ (x : LockedShown). IsSomeAnd (entry_of x.area.entries c.args.id) IsReady) (sym c.locked.view_is) c.requires.ready in
    let e = some_and (entry_of l.area.entries c.args.id) IsReady ready in
    unused_there l c.args.id e.entry s.list.part c.locked.invariant.locked e.is e.holds.0 e.holds.1 c.locked.invariant.part

pub invariant_of-locked : goal.invariant_of-locked
invariant_of-locked c =
    let s = c.locked.inside in
    let l = locked_shown s in
    let ready = subst (λ (x : LockedShown). IsSomeAnd (entry_of x.area.entries c.args.id) IsReady) (sym c.locked.view_is) c.requires.ready in
    let e = some_and (entry_of l.area.entries c.args.id) IsReady ready in
    let begun = c.change_list.new.list in
    let one = c.read_one.new.list in
    let read = c.read_all.new.list in
    let rest : Reads begun.board.shape one.part read.part = subst (λ (b : Board). Reads b.shape one.part read.part) c.read_one.ensures.board c.read_all.ensures.reads in
    let reads = reads_on begun.board.shape begun.part one.part read.part c.read_one.ensures.reads rest in
    let r = unload_read l c.args.id e.entry s.list begun read c.locked.invariant.locked e.is e.holds refl c.locked.invariant.part c.change_list.ensures.list (c.read_all.ensures.board ∙ c.read_one.ensures.board) reads c.read_all.ensures.still in
    let ok = locked_with (marked c.args.id l) read.part (locked_marked l c.args.id c.locked.invariant.locked (subst IsBook c.set_dead.ensures.after c.set_dead.ensures.formed)) c.read_all.ensures.still in
    ties (with_part read.part (marked c.args.id l)) c.set_dead.new.self read (arc_value s.sections) ok c.set_dead.ensures.after r.board refl r.swept.part
