use Rattle.std.proofs.Common.{Some, sym, subst}
use Rattle.slab_cache.specs.Tables.{GivesOne, OneGiven}
use Rattle.slab_cache.proofs.SlabLemmas.{nothing_given}
use Rattle.slab_cache.proofs.slab.give_cell.Goals as goal

pub returns-in-Some-vector : goal.returns-in-Some-vector
returns-in-Some-vector c =
    subst (λ v. GivesOne v c.args.cell (Some c.give_of.new.vector)) (sym c.in-Some-vector.is)
    (subst (λ o. GivesOne (Some c.in-Some-vector.vector) o (Some c.give_of.new.vector)) (sym c.in-Some.is) (OneGiven c.give_of.ensures))

pub returns-in_default : goal.returns-in_default
returns-in_default c = nothing_given c.requires c.in_default.is
