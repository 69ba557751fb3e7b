use Rattle.std.proofs.Common.{◌≡◌, IsSomeAnd, None, Some, refl, sym, subst, ap, ◌∙◌, slice_get}
use Rattle.std.specs.Arc.{arc_value}
use Rattle.module_area.specs.declared.entry.Entry.{Entry}
use Rattle.module_area.specs.Entries.{entry_of}
use Rattle.reclaim.specs.State.{LockedShown}
use Rattle.reclaim.specs.Tied.{locked_shown}
use Rattle.module_area.specs.Area.{IsBook}
use Rattle.reclaim.specs.Sweeps.{released}
use Rattle.reclaim.proofs.Clean.{locked_with, with_part}
use Rattle.reclaim.proofs.Gone.{some_and}
use Rattle.reclaim.proofs.Tying.{shows, ties}
use Rattle.reclaim.proofs.Unload.{IsReady, gone_as, kept_as, locked_marked, marked, ready_at, release_first, unload_read, unused_there}
use Rattle.reclaim.proofs.locked.Locked.unload.Goals as goal

pub change_list-requires : goal.change_list-requires
change_list-requires c =
    let s = c.self.inside in
    let l = locked_shown s in
    let ready = subst (λ (x : LockedShown). IsSomeAnd (entry_of x.area.entries c.args.id) IsReady) (sym c.self.view_is) c.requires in
    let e = some_and (entry_of l.area.entries c.args.id) IsReady ready in
    unused_there l c.args.id e.entry s.list.part c.self.invariant.locked e.is e.holds.0 e.holds.1 c.self.invariant.part

pub invariant_of-self : goal.invariant_of-self
invariant_of-self c =
    let s = c.self.inside in
    let l = locked_shown s in
    let ready = subst (λ (x : LockedShown). IsSomeAnd (entry_of x.area.entries c.args.id) IsReady) (sym c.self.view_is) c.requires in
    let e = some_and (entry_of l.area.entries c.args.id) IsReady ready in
    let r = unload_read l c.args.id e.entry s.list c.change_list.new.list c.read_all.new.list c.self.invariant.locked e.is e.holds refl c.self.invariant.part c.change_list.ensures.list c.read_all.ensures.board c.read_all.ensures.reads c.read_all.ensures.still in
    let ok = locked_with (marked c.args.id l) c.read_all.new.list.part (locked_marked l c.args.id c.self.invariant.locked (subst IsBook c.set_dead.ensures.after c.set_dead.ensures.formed)) c.read_all.ensures.still in
    ties (with_part c.read_all.new.list.part (marked c.args.id l)) c.set_dead.new.self c.read_all.new.list (arc_value s.sections) ok c.set_dead.ensures.after r.board refl r.swept.part

pub invariant_of-self-in-None : goal.invariant_of-self-in-None
invariant_of-self-in-None c =
    let s = c.self.inside in
    let l = locked_shown s in
    let ready = subst (λ (x : LockedShown). IsSomeAnd (entry_of x.area.entries c.args.id) IsReady) (sym c.self.view_is) c.requires in
    let e = some_and (entry_of l.area.entries c.args.id) IsReady ready in
    let r = unload_read l c.args.id e.entry s.list c.change_list.new.list c.read_all.new.list c.self.invariant.locked e.is e.holds refl c.self.invariant.part c.change_list.ensures.list c.read_all.ensures.board c.read_all.ensures.reads c.read_all.ensures.still in
    let ok = locked_with (marked c.args.id l) c.read_all.new.list.part (locked_marked l c.args.id c.self.invariant.locked (subst IsBook c.set_dead.ensures.after c.set_dead.ensures.formed)) c.read_all.ensures.still in
    ties (with_part c.read_all.new.list.part (marked c.args.id l)) c.set_dead.new.self c.read_all.new.list (arc_value s.sections) ok c.set_dead.ensures.after r.board refl r.swept.part

pub release-requires : goal.release-requires
release-requires c =
    let s = c.self.inside in
    let l = locked_shown s in
    let ready = subst (λ (x : LockedShown). IsSomeAnd (entry_of x.area.entries c.args.id) IsReady) (sym c.self.view_is) c.requires in
    let e = some_and (entry_of l.area.entries c.args.id) IsReady ready in
    let r = unload_read l c.args.id e.entry s.list c.change_list.new.list c.read_all.new.list c.self.invariant.locked e.is e.holds refl c.self.invariant.part c.change_list.ensures.list c.read_all.ensures.board c.read_all.ensures.reads c.read_all.ensures.still in
    release_first c.args.id c.read_all.new.list.part r.swept.ends (sym (ap (λ xs. slice_get xs 0) c.stops.ensures) ∙ (sym c.first.ensures.value ∙ (sym c.copied.ensures ∙ c.in-None.is)))

pub returns-in-Some : goal.returns-in-Some
returns-in-Some c =
    let s = c.self.inside in
    let l = locked_shown s in
    let ready = subst (λ (x : LockedShown). IsSomeAnd (entry_of x.area.entries c.args.id) IsReady) (sym c.self.view_is) c.requires in
    let read = λ (e : Entry) (found : entry_of l.area.entries c.args.id ≡ Some e). unload_read l c.args.id e s.list c.change_list.new.list c.read_all.new.list c.self.invariant.locked found (ready_at l c.args.id e found ready) refl c.self.invariant.part c.change_list.ensures.list c.read_all.ensures.board c.read_all.ensures.reads c.read_all.ensures.still in
    let e = some_and (entry_of l.area.entries c.args.id) IsReady ready in
    let first : slice_get c.read_all.new.list.part.stops 0 ≡ Some c.in-Some.stop = sym (ap (λ xs. slice_get xs 0) c.stops.ensures) ∙ (sym c.first.ensures.value ∙ (sym c.copied.ensures ∙ c.in-Some.is)) in
    let r = read e.entry e.is in
    kept_as c.args.self.now l _ c.args.id c.read_all.new.list.part c.in-Some.stop c.self.view_is first
    (shows (with_part c.read_all.new.list.part (marked c.args.id l)) c.set_dead.new.self c.read_all.new.list (arc_value s.sections) c.set_dead.ensures.after r.board refl r.swept.part) (λ x found. (read x found).swept)

pub returns-in-None : goal.returns-in-None
returns-in-None c =
    let s = c.self.inside in
    let l = locked_shown s in
    let ready = subst (λ (x : LockedShown). IsSomeAnd (entry_of x.area.entries c.args.id) IsReady) (sym c.self.view_is) c.requires in
    let read = λ (e : Entry) (found : entry_of l.area.entries c.args.id ≡ Some e). unload_read l c.args.id e s.list c.change_list.new.list c.read_all.new.list c.self.invariant.locked found (ready_at l c.args.id e found ready) refl c.self.invariant.part c.change_list.ensures.list c.read_all.ensures.board c.read_all.ensures.reads c.read_all.ensures.still in
    let e = some_and (entry_of l.area.entries c.args.id) IsReady ready in
    let first : slice_get c.read_all.new.list.part.stops 0 ≡ None = sym (ap (λ xs. slice_get xs 0) c.stops.ensures) ∙ (sym c.first.ensures.value ∙ (sym c.copied.ensures ∙ c.in-None.is)) in
    let r = read e.entry e.is in
    let mid = shows (with_part c.read_all.new.list.part (marked c.args.id l)) c.set_dead.new.self c.read_all.new.list (arc_value s.sections) c.set_dead.ensures.after r.board refl r.swept.part in
    gone_as c.args.self.now l c.release.new.self c.args.id c.read_all.new.list.part c.self.view_is first (c.release.ensures.after ∙ ap (released c.args.id) mid) (λ x found. (read x found).swept)
