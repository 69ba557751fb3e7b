use Rattle.std.proofs.Common.{◌≡◌, ◌<◌, true, IsSomeAnd, Some, refl, sym, subst, ap, arith}
use Rattle.std.specs.Arc.{arc_value}
use Rattle.std.specs.List.{list_any}
use Rattle.tag_rule.specs.Listed.{is_loaded}
use Rattle.tag_rule.specs.Shown.{Board}
use Rattle.module_area.specs.declared.book.TheConstants.{USER_LIMIT}
use Rattle.tag_model.specs.declared.state.ListPart.{ListPart}
use Rattle.module_area.specs.declared.entry.Entry.{Entry}
use Rattle.module_area.specs.declared.entry.State.TheVariants.{Loaded}
use Rattle.module_area.specs.Entries.{entry_of}
use Rattle.module_area.specs.Area.{IsBook}
use Rattle.core_list.specs.ListState.{run_of}
use Rattle.reclaim.specs.Refusals.{HasLoaded}
use Rattle.tag_rule.specs.Runs.{covers_run}
use Rattle.reclaim.specs.State.{LockedShown, entered_locked}
use Rattle.reclaim.specs.Tied.{locked_shown}
use Rattle.reclaim.proofs.Enter.{enter_parts, few_users, id_of, loaded_there, locked_entered}
use Rattle.reclaim.proofs.Gone.{some_and}
use Rattle.reclaim.proofs.Tying.{ties}
use Rattle.reclaim.proofs.locked.Locked.enter.Goals as goal

pub change_list-requires : goal.change_list-requires
change_list-requires c =
    let l = locked_shown c.self.inside in
    let e = some_and (entry_of l.area.entries c.args.id) (λ e. e.state ≡ Loaded) (subst (λ (x : LockedShown). HasLoaded c.args.id x.area.entries) (sym c.self.view_is) c.requires.loaded) in
    subst (λ (x : ListPart). is_loaded c.args.id x.records ≡ true) (sym c.self.invariant.part) (loaded_there l c.args.id e.entry c.self.invariant.locked e.is e.holds)

pub enter-requires : goal.enter-requires
enter-requires c =
    let l = locked_shown c.self.inside in
    let e = some_and (entry_of l.area.entries c.args.id) (λ e. e.state ≡ Loaded) (subst (λ (x : LockedShown). HasLoaded c.args.id x.area.entries) (sym c.self.view_is) c.requires.loaded) in
    let one = c.change_list.new.list in
    let two = c.give_run.new.list in
    let p = enter_parts l c.args.id e.entry c.self.inside.list one two e.is refl c.self.invariant.part c.change_list.ensures.list c.give_run.ensures.list in
    let k = one.board.shape in
    let few = few_users k l c.args.id e.entry two.part c.give_run.new.cpu.part c.self.invariant.locked e.is (id_of l c.args.id e.entry e.is) (ap (λ (x : ListPart). x.away) p.part)
    (subst (λ rs. list_any (covers_run k (run_of e.entry) two.part c.give_run.new.cpu.part) rs ≡ true) p.records (c.give_run.ensures.covered (run_of e.entry) p.found)) in
    subst (λ o. IsSomeAnd o (λ (x : Entry). (x.state ≡ Loaded) × (x.users < USER_LIMIT))) (sym e.is) (e.holds, omega (arith, few, c.self.invariant.locked.checked.few_cpus, ap (λ (b : Board). b.shape.cpus) p.board_one))

pub invariant_of-self : goal.invariant_of-self
invariant_of-self c =
    let l = locked_shown c.self.inside in
    let e = some_and (entry_of l.area.entries c.args.id) (λ e. e.state ≡ Loaded) (subst (λ (x : LockedShown). HasLoaded c.args.id x.area.entries) (sym c.self.view_is) c.requires.loaded) in
    let p = enter_parts l c.args.id e.entry c.self.inside.list c.change_list.new.list c.give_run.new.list e.is refl c.self.invariant.part c.change_list.ensures.list c.give_run.ensures.list in
    ties (entered_locked c.args.id l) c.enter.new.self c.give_run.new.list (arc_value c.self.inside.sections) (locked_entered l c.args.id c.self.invariant.locked (subst IsBook c.enter.ensures.after c.enter.ensures.formed)) c.enter.ensures.after p.board refl p.part

pub returns-clause-inside : goal.returns-clause-inside
returns-clause-inside c entry found =
    let l = locked_shown c.self.inside in
    let found_l = subst (λ (x : LockedShown). entry_of x.area.entries c.args.id ≡ Some entry) (sym c.self.view_is) found in
    let p = enter_parts l c.args.id entry c.self.inside.list c.change_list.new.list c.give_run.new.list found_l refl c.self.invariant.part c.change_list.ensures.list c.give_run.ensures.list in
    c.give_run.ensures.cpu (run_of entry) p.found
