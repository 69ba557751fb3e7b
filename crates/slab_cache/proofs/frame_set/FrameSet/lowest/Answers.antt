use Rattle.std.proofs.Common.{MatchOption, position, ap, ◌∙◌, subst}
use Rattle.buddy.specs.Bits.{HasNoRun, IsLeastRun}
use Rattle.slab_cache.proofs.FrameSets.{lowest_is}
use Rattle.slab_cache.proofs.frame_set.FrameSet.lowest.Goals as goal

pub returns : goal.returns
returns c =
    lowest_is c.self.inside.words.items c.self.inside.frames c.least_run.result c.self.invariant
    (subst (λ ws. MatchOption c.least_run.result (HasNoRun ws 0) (IsLeastRun ws 0)) c.deref.ensures.value c.least_run.ensures)
    ∙ ap (position (λ inside. inside)) c.self.view_is
