use Rattle.std.proofs.Common.{sym, ◌∙◌, subst, IsTrue}
use Rattle.tag_model.specs.Laws.{are_dead}
use Rattle.module_list.specs.Listing as listing
use Rattle.module_list.specs.Listing.{releasable}
use Rattle.module_list.proofs.Bare.{bare_released}
use Rattle.core_list.specs.ListState.{ListState, IsList, left_ids, listed, records_of, released}
use Rattle.core_list.proofs.Kept.{list_released}
use Rattle.core_list.proofs.Listed.{listed_released}
use Rattle.core_list.proofs.Methods.{area_released, fields_are, goes_along, kept_is, last_released, may_release_first, releases_dead, releasing, state_of, still_kept}
use Rattle.core_list.proofs.list.CoreList.release.Goals as goal

pub release-requires : goal.release-requires
release-requires c =
    let s = c.self.inside in
    let dead = subst (λ (l : ListState). IsTrue (are_dead (left_ids l.sweep) (records_of l))) (sym c.self.view_is) c.requires in
    let first = releasing s.list.sweep c.in-Some.id (sym c.in-Some.is ∙ c.releasable.ensures) in
    releases_dead s.book s.list.sweep c.in-Some.id first.rest c.self.invariant.0.book first.done dead

pub release-requires-in-Some : goal.release-requires-in-Some
release-requires-in-Some c = may_release_first c.self.inside.list.sweep c.in-Some.id (sym c.in-Some.is ∙ c.releasable.ensures)

pub invariant_of-self : goal.invariant_of-self
invariant_of-self c =
    let s = c.self.inside in
    let l = state_of s.book s.last_id s.list in
    let first = releasing s.list.sweep c.in-Some.id (sym c.in-Some.is ∙ c.releasable.ensures) in
    let area = c.release.ensures.after ∙ sym (area_released l c.in-Some.id first.rest first.done) in
    let same = goes_along l (released l) s.list c.release-in-Some.new.self (listing.released c.in-Some.id) (kept_is s.book s.last_id s.list c.self.invariant.1) c.release-in-Some.ensures (listed_released l c.in-Some.id first.rest first.done) (bare_released (listed l) c.in-Some.id) in (
      subst IsList (sym (fields_are (released l) c.release.new.self s.last_id c.release-in-Some.new.self area (sym (last_released l)) same)) (list_released l c.self.invariant.0),
      still_kept (released l) c.release.new.self c.release-in-Some.new.self area same,
    )
