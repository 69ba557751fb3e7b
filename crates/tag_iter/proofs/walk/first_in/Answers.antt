use Rattle.std.proofs.Common.{◌∙◌, refl, sym, arith}
use Rattle.tag_iter.proofs.Found.{found_here, found_later}
use Rattle.tag_iter.proofs.walk.first_in.Goals as goal

pub returns-then-is_some : goal.returns-then-is_some
returns-then-is_some c =
    found_here c.args.last c.args.state c.args.book.now.entries c.loop-place.place c.at.result c.first_of-found.result c.at.ensures.value c.first_of-found.ensures (sym c.if-is_some.ensures)
    ∙ c.loop-place.invariant.0

pub loop-place-preserved : goal.loop-place-preserved
loop-place-preserved c = (
  found_later c.args.last c.args.state c.args.book.now.entries c.loop-place.place c.at.result c.first_of-found.result c.at.ensures.value c.first_of-found.ensures (sym c.if-is_some.ensures)
      ∙ c.loop-place.invariant.0,
  omega (arith, c.loop-place-test.true, c.count-place-end.ensures.value),
  refl,
  refl,
  refl,
)
