use Rattle.tag_model.proofs.Lent.{cpu_of, list_of, pass_of}
use Rattle.tag_model.proofs.part_laws.the_one_of_a_kind_stands.Goals as goal

pub returns-clause-cpu : goal.returns-clause-cpu
returns-clause-cpu c n parts one = cpu_of n parts one

pub returns-clause-list : goal.returns-clause-list
returns-clause-list c parts one = list_of parts one

pub returns-clause-pass : goal.returns-clause-pass
returns-clause-pass c parts one = pass_of parts one
