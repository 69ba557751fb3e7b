use Rattle.std.proofs.Common.{◌≡◌, refl, ap, ◌∙◌, subst}
use Rattle.std.specs.Arc.{arc_value}
use Rattle.tag_model.specs.declared.state.ListPart.{ListPart}
use Rattle.tag_rule.specs.Shown.{Board, ListShown}
use Rattle.module_list.specs.Listing.{swept}
use Rattle.reclaim.specs.State.{LockedShown, part_of}
use Rattle.reclaim.specs.Steps.{Reads, with_listing}
use Rattle.reclaim.specs.Sweeps.{Cleaned}
use Rattle.reclaim.specs.Tied.{locked_shown, shown}
use Rattle.reclaim.proofs.Clean.{cleaned, swept_ties}
use Rattle.reclaim.proofs.cleaning.clean_locked.Goals as goal

pub invariant_of-locked : goal.invariant_of-locked
invariant_of-locked c =
    let s = c.locked.inside in
    let l = locked_shown s in
    let part = ap (λ (x : ListShown). x.part) c.change_list.ensures.list in
    swept_ties l s.book c.change_list.new.list c.read_all.new.list (arc_value s.sections) c.locked.invariant.locked refl refl (ap (λ (x : ListShown). x.board) c.change_list.ensures.list)
    (ap (λ (x : ListPart). x.records) (part ∙ ap (with_listing swept) c.locked.invariant.part))
    (ap (λ (x : ListPart). x.away) (part ∙ ap (with_listing swept) c.locked.invariant.part))
    c.read_all.ensures.board c.read_all.ensures.reads c.read_all.ensures.still

pub returns : goal.returns
returns c =
    let s = c.locked.inside in
    let l = locked_shown s in
    let begun = c.change_list.new.list in
    let read = c.read_all.new.list in
    let part : begun.part ≡ with_listing swept (part_of l) = ap (λ (x : ListShown). x.part) c.change_list.ensures.list ∙ ap (with_listing swept) c.locked.invariant.part in
    let board : begun.board ≡ l.board = ap (λ (x : ListShown). x.board) c.change_list.ensures.list in
    let reads : Reads l.board.shape (with_listing swept (part_of l)) read.part = subst (λ (x : ListPart). Reads l.board.shape x read.part) part (subst (λ (b : Board). Reads b.shape begun.part read.part) board c.read_all.ensures.reads) in
    subst (λ (x : LockedShown). Cleaned x c.release_all.new.self c.release_all.result) c.locked.view_is
    (cleaned l (shown s.book read (arc_value s.sections)) c.release_all.new.self c.release_all.result read.part c.locked.invariant.locked reads c.read_all.ensures.still
    (λ i. shown s.book (record { board = (c.read_all.ensures.board ∙ board) i; part = read.part }) (arc_value s.sections)) c.release_all.ensures.releases c.release_all.ensures.all)
