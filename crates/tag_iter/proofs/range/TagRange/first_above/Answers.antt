use Rattle.std.proofs.Common.{◌∙◌, sym, ap, arith, Some}
use Rattle.tag_iter.specs.Places.{is_above, place_at}
use Rattle.tag_iter.proofs.Found.{find_none, find_past, find_there}
use Rattle.tag_iter.proofs.range.TagRange.first_above.Goals as goal

pub returns-then-first-self : goal.returns-then-first-self
returns-then-first-self c =
    ap (λ place. Some place) c.place.ensures
    ∙ sym (find_there (is_above c.args.last) (place_at c.args.self.now) c.in-Some.first c.in-Some.ensures 0 c.args.self.now.size (omega arith) (omega (arith, c.if-first-self.true)))

pub returns-else-first-self : goal.returns-else-first-self
returns-else-first-self c = sym (find_past (is_above c.args.last) (place_at c.args.self.now) c.in-Some.first c.in-Some.ensures 0 c.args.self.now.size (omega (arith, c.if-first-self.false)))

pub returns-in_default : goal.returns-in_default
returns-in_default c =
    sym (find_none (is_above c.args.last) (place_at c.args.self.now) 0 c.args.self.now.size (λ index from inside. c.in_default.ensures index (omega (arith, inside))))
