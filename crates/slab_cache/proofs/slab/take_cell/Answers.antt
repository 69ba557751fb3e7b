use Rattle.std.proofs.Common.{Some, None, sym, subst}
use Rattle.slab_cache.specs.Tables.{NoCell, OneCell, TakesOne}
use Rattle.slab_cache.proofs.slab.take_cell.Goals as goal

pub take_of-requires-clause-there : goal.take_of-requires-clause-there
take_of-requires-clause-there c = c.requires.there c.in-Some.vector c.in-Some.is

pub returns-in-Some : goal.returns-in-Some
returns-in-Some c = subst (λ v. TakesOne c.args.home c.args.place v (Some c.take_of.new.vector) (Some c.take_of.result)) (sym c.in-Some.is) (OneCell c.take_of.ensures)

pub returns-in-None : goal.returns-in-None
returns-in-None c = subst (λ v. TakesOne c.args.home c.args.place v v None) (sym c.in-None.is) NoCell
