use Rattle.std.proofs.Common.{◌≡◌, IsSomeAnd, refl, subst, ap, ◌∙◌}
use Rattle.tag_rule.specs.Shown.{ListShown}
use Rattle.module_area.specs.Entries.{entry_of}
use Rattle.module_area.specs.declared.entry.State.TheVariants.{Dead}
use Rattle.module_list.specs.Listing as listing
use Rattle.module_list.specs.Listing.{releasable}
use Rattle.core_list.proofs.Fits.{left_dead}
use Rattle.reclaim.specs.Steps.{with_listing}
use Rattle.reclaim.specs.State.{LockedShown}
use Rattle.reclaim.specs.Sweeps.{released}
use Rattle.reclaim.specs.Tied.{locked_shown}
use Rattle.reclaim.proofs.Tying.{dead_first, locked_released, may_release_it, part_released, ties}
use Rattle.reclaim.proofs.locked.Locked.release.Goals as goal

pub release-requires : goal.release-requires
release-requires c =
    let l = locked_shown c.self.inside in
    dead_first l c.self.inside.list.part c.args.id c.self.invariant.locked c.self.invariant.part (left_dead c.self.inside.list.board.shape c.self.inside.list.part.sweep c.self.inside.list.part.records c.tell.ensures.holds.sweep) (ap (λ (x : LockedShown). releasable x.sweep) c.self.view_is ∙ c.requires)

pub change_list-requires : goal.change_list-requires
change_list-requires c = may_release_it (locked_shown c.self.inside) c.self.inside.list.part c.args.id c.self.invariant.part (ap (λ (x : LockedShown). releasable x.sweep) c.self.view_is ∙ c.requires)

pub invariant_of-self : goal.invariant_of-self
invariant_of-self c =
    let l = locked_shown c.self.inside in
    let first = ap (λ (x : LockedShown). releasable x.sweep) c.self.view_is ∙ c.requires in
    ties (released c.args.id l) _ _ _ (locked_released l c.args.id c.self.invariant.locked) c.release.ensures.after (ap (λ (x : ListShown). x.board) c.change_list.ensures.list) refl
    (ap (λ (x : ListShown). x.part) c.change_list.ensures.list ∙ (ap (with_listing (listing.released c.args.id)) c.self.invariant.part ∙ part_released l c.args.id first))

pub returns-clause-dead : goal.returns-clause-dead
returns-clause-dead c =
    let l = locked_shown c.self.inside in
    let dead = dead_first l c.self.inside.list.part c.args.id c.self.invariant.locked c.self.invariant.part (left_dead c.self.inside.list.board.shape c.self.inside.list.part.sweep c.self.inside.list.part.records c.tell.ensures.holds.sweep) (ap (λ (x : LockedShown). releasable x.sweep) c.self.view_is ∙ c.requires) in
    subst (λ (x : LockedShown). IsSomeAnd (entry_of x.area.entries c.args.id) (λ e. e.state ≡ Dead)) c.self.view_is dead
