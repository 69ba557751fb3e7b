use Rattle.std.proofs.Common.{◌≡◌, filter, map, refl, sym, ap, ◌∙◌, subst}
use Rattle.std.specs.Arc.{arc_value}
use Rattle.std.specs.List.{list_all, range_with_len}
use Rattle.tag_model.specs.declared.state.ListPart.{ListPart}
use Rattle.tag_model.specs.WordState.{record_fits}
use Rattle.tag_rule.specs.Shown.{Board, ListShown}
use Rattle.module_area.specs.Area.{Area}
use Rattle.module_list.specs.Listing.{swept}
use Rattle.reclaim.specs.Quiet.{OwnReads, is_unquiet}
use Rattle.reclaim.specs.State.{LockedShown, part_of}
use Rattle.reclaim.specs.Steps.{with_listing}
use Rattle.reclaim.specs.Sweeps.{Cleaned, with_entries}
use Rattle.reclaim.specs.Tied.{locked_shown, shown}
use Rattle.reclaim.proofs.Clean.{swept_ties}
use Rattle.reclaim.proofs.QuietClean.{cleaned_quietly}
use Rattle.reclaim.proofs.QuietSums.{number}
use Rattle.reclaim.proofs.QuietSweep.{own_reads}
use Rattle.reclaim.proofs.quiet.clean_quiet_locked.Goals as goal

pub invariant_of-locked : goal.invariant_of-locked
invariant_of-locked c =
    let s = c.locked.inside in
    let l = locked_shown s in
    let begun = c.change_list.new.list in
    let part = ap (λ (x : ListShown). x.part) c.change_list.ensures.list ∙ ap (with_listing swept) c.locked.invariant.part in
    swept_ties l s.book begun c.read_own_all.new.list (arc_value s.sections) c.locked.invariant.locked refl refl (ap (λ (x : ListShown). x.board) c.change_list.ensures.list)
    (ap (λ (x : ListPart). x.records) part) (ap (λ (x : ListPart). x.away) part)
    c.read_own_all.ensures.board (own_reads begun.board.shape c.args.cpus.now begun.part c.read_own_all.new.list.part c.read_own_all.ensures.reads) c.read_own_all.ensures.still

pub returns-clause-cleaned : goal.returns-clause-cleaned
returns-clause-cleaned c =
    let s = c.locked.inside in
    let l = locked_shown s in
    let begun = c.change_list.new.list in
    let read = c.read_own_all.new.list in
    let board : begun.board ≡ l.board = ap (λ (x : ListShown). x.board) c.change_list.ensures.list in
    let part : begun.part ≡ with_listing swept (part_of l) = ap (λ (x : ListShown). x.part) c.change_list.ensures.list ∙ ap (with_listing swept) c.locked.invariant.part in
    let own : OwnReads l.board.shape c.args.cpus.now (with_listing swept (part_of l)) read.part = subst (λ (x : ListPart). OwnReads l.board.shape c.args.cpus.now x read.part) part (subst (λ (b : Board). OwnReads b.shape c.args.cpus.now begun.part read.part) board c.read_own_all.ensures.reads) in
    let all : map number c.args.cpus.now ≡ range_with_len 0 l.board.shape.cpus = c.requires.all ∙ ap (λ (x : LockedShown). range_with_len 0 x.board.shape.cpus) (sym c.locked.view_is) in
    let fit = ap (λ (x : ListPart). list_all (record_fits l.board.shape) x.records) (sym c.locked.invariant.part) ∙ c.tell.ensures.holds.in_area in
    let done = cleaned_quietly c.args.cpus.now l (shown s.book read (arc_value s.sections)) c.release_all.new.self c.release_all.result read.part c.locked.invariant.locked all fit own c.read_own_all.ensures.still
    (λ i. shown s.book (record { board = (c.read_own_all.ensures.board ∙ board) i; part = read.part }) (arc_value s.sections)) c.release_all.ensures.releases c.release_all.ensures.all in
    subst (λ (x : LockedShown). Cleaned x c.release_all.new.self c.release_all.result) c.locked.view_is done.clean

pub returns-clause-exact : goal.returns-clause-exact
returns-clause-exact c =
    let s = c.locked.inside in
    let l = locked_shown s in
    let begun = c.change_list.new.list in
    let read = c.read_own_all.new.list in
    let board : begun.board ≡ l.board = ap (λ (x : ListShown). x.board) c.change_list.ensures.list in
    let part : begun.part ≡ with_listing swept (part_of l) = ap (λ (x : ListShown). x.part) c.change_list.ensures.list ∙ ap (with_listing swept) c.locked.invariant.part in
    let own : OwnReads l.board.shape c.args.cpus.now (with_listing swept (part_of l)) read.part = subst (λ (x : ListPart). OwnReads l.board.shape c.args.cpus.now x read.part) part (subst (λ (b : Board). OwnReads b.shape c.args.cpus.now begun.part read.part) board c.read_own_all.ensures.reads) in
    let all : map number c.args.cpus.now ≡ range_with_len 0 l.board.shape.cpus = c.requires.all ∙ ap (λ (x : LockedShown). range_with_len 0 x.board.shape.cpus) (sym c.locked.view_is) in
    let fit = ap (λ (x : ListPart). list_all (record_fits l.board.shape) x.records) (sym c.locked.invariant.part) ∙ c.tell.ensures.holds.in_area in
    let done = cleaned_quietly c.args.cpus.now l (shown s.book read (arc_value s.sections)) c.release_all.new.self c.release_all.result read.part c.locked.invariant.locked all fit own c.read_own_all.ensures.still
    (λ i. shown s.book (record { board = (c.read_own_all.ensures.board ∙ board) i; part = read.part }) (arc_value s.sections)) c.release_all.ensures.releases c.release_all.ensures.all in
    subst (λ (x : LockedShown). ◌≡◌ {A = Area} c.release_all.new.self.area (with_entries (filter (is_unquiet c.args.cpus.now) x.area.entries) x)) c.locked.view_is done.exact
