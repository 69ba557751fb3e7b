use Rattle.std.proofs.Common.{Option, All, IfSome, subst, sym, arith}
use Rattle.reclaim.specs.State.{LockedShown}
use Rattle.round_worker.specs.declared.keys.Kept.{Kept}
use Rattle.round_worker.specs.Kept.{IsKept}
use Rattle.round_keys.proofs.PageLemmas.{rest_of}
use Rattle.round_keys.proofs.meeting.+meet_slots.Goals as goal

pub meet_slots-requires : goal.meet_slots-requires
meet_slots-requires t c =
    let rest = rest_of (λ (slot : Option Kept). IfSome slot (IsKept c.args.locked.now.board)) c.in-Some.slot.now c.in-Some.rest.now c.args.slots.now c.in-Some.ensures.cases.0 c.requires.kept in
    (omega (arith, c.in-Some.ensures.cases.1, c.decreases), subst (λ (l : LockedShown). All (λ (slot : Option Kept). IfSome slot (IsKept l.board)) c.in-Some.rest.now) (sym c.meet_slot.ensures.same.1) rest)
