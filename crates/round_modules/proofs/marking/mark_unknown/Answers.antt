use Rattle.std.proofs.Common.{length, arith, ap}
use Rattle.module_area.specs.Area.{Area}
use Rattle.round_modules.proofs.Marks.{marks_all, marks_more}
use Rattle.round_modules.proofs.marking.mark_unknown.Goals as goal

pub loop-place-preserved : goal.loop-place-preserved
loop-place-preserved c =
    let count = ap (λ (a : Area). length a.entries) c.book.ensures.value in
    marks_more c.args.known.now c.loop-place.place c.args.locked.now c.loop-place.locked c.mark_at.new.locked c.loop-place.invariant (omega (arith, c.loop-place-test.true, c.count-count.ensures.value, count)) c.mark_at.ensures.same.0 c.mark_at.ensures.same.1 c.mark_at.ensures.area

pub returns-clause-area : goal.returns-clause-area
returns-clause-area c =
    let count = ap (λ (a : Area). length a.entries) c.book.ensures.value in
    marks_all c.args.known.now c.loop-place.place c.args.locked.now c.loop-place.locked c.loop-place.invariant (omega (arith, c.loop-place-test.false, c.count-count.ensures.value, count))
