use Rattle.std.proofs.Common.{◌≡◌, IsSomeAnd, sym, subst}
use Rattle.module_area.specs.declared.entry.Entry.{Entry}
use Rattle.module_area.specs.declared.entry.State.TheVariants.{Loaded}
use Rattle.module_area.specs.Entries.{entry_of}
use Rattle.module_list.specs.Listing as listing
use Rattle.module_list.proofs.Bare.{bare_marked_dead}
use Rattle.core_list.specs.ListState.{ListState, IsList, dead_list, listed}
use Rattle.core_list.proofs.Kept.{list_dead_marked}
use Rattle.core_list.proofs.Listed.{listed_dead}
use Rattle.core_list.proofs.Methods.{fields_are, goes_along, has_record, kept_is, state_of, still_kept}
use Rattle.core_list.proofs.list.CoreList.mark_dead.Goals as goal

pub mark_dead-requires : goal.mark_dead-requires
mark_dead-requires c =
    let idle : Entry → Type 0 = λ e. (e.state ≡ Loaded) × (e.users ≡ 0) in
    has_record c.self.inside.book c.self.inside.list c.args.id c.self.invariant.1 idle (subst (λ (l : ListState). IsSomeAnd (entry_of l.area.entries c.args.id) idle) (sym c.self.view_is) c.requires)

pub invariant_of-self : goal.invariant_of-self
invariant_of-self c =
    let s = c.self.inside in
    let l = state_of s.book s.last_id s.list in
    let m = dead_list c.args.id l in
    let same = goes_along l m s.list c.mark_dead.new.self (listing.marked_dead c.args.id) (kept_is s.book s.last_id s.list c.self.invariant.1) c.mark_dead.ensures (listed_dead l c.args.id) (bare_marked_dead (listed l) c.args.id) in (
      subst IsList (sym (fields_are m c.set_dead.new.self s.last_id c.mark_dead.new.self c.set_dead.ensures.after (λ i. s.last_id) same)) (list_dead_marked l c.args.id c.self.invariant.0),
      still_kept m c.set_dead.new.self c.mark_dead.new.self c.set_dead.ensures.after same,
    )
