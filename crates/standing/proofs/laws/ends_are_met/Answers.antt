use Rattle.standing.proofs.EndMet.{book, kept, met}
use Rattle.standing.proofs.laws.ends_are_met.Goals as goal

pub returns-clause-book : goal.returns-clause-book
returns-clause-book c = λ trace top ops r b room. book trace top ops r b room

pub returns-clause-met : goal.returns-clause-met
returns-clause-met c = λ trace top ops r b cpus l keys room board s live told. met trace top ops r b room cpus s l keys live told

pub returns-clause-kept : goal.returns-clause-kept
returns-clause-kept c = λ trace top ops r b cpus room s. kept trace top ops r b room cpus s
