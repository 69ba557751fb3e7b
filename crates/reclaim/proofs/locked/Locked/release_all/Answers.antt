use Rattle.std.proofs.Common.{◌+◌, length, sym, ap, ◌∙◌, subst, arith}
use Rattle.reclaim.specs.State.{LockedShown}
use Rattle.reclaim.specs.Sweeps.{Releases, no_release, then_release}
use Rattle.tag_model.specs.Sweeping.{ids_left}
use Rattle.module_list.specs.Listing.{releasable}
use Rattle.reclaim.proofs.Gone.{release_shorter, releases_fewer}
use Rattle.reclaim.proofs.locked.Locked.release_all.Goals as goal

pub loop-id-init : goal.loop-id-init
loop-id-init c = no_release

pub overflow_add-count : goal.overflow_add-count
overflow_add-count c =
    let few = releases_fewer c.args.self.now c.loop-id.self c.loop-id.count c.tell.ensures.book c.loop-id.invariant in
    omega (arith, few.fewer, c.tell.ensures.book.few)

pub loop-id-smaller : goal.loop-id-smaller
loop-id-smaller c =
    let first = sym (ap (λ (x : LockedShown). releasable x.sweep) c.self-in-loop-id.view_is) ∙ (sym c.releasable.ensures ∙ c.in-Some.is) in
    omega (arith, release_shorter c.loop-id.self c.in-Some.id first, ap (λ (x : LockedShown). length (ids_left x.sweep)) c.release.ensures.after)

pub loop-id-preserved : goal.loop-id-preserved
loop-id-preserved c =
    let first = sym (ap (λ (x : LockedShown). releasable x.sweep) c.self-in-loop-id.view_is) ∙ (sym c.releasable.ensures ∙ c.in-Some.is) in
    subst (λ (x : LockedShown). Releases c.args.self.now (c.loop-id.count + 1) x) (sym c.release.ensures.after) (then_release c.in-Some.id c.loop-id.invariant first c.release.ensures.dead)
