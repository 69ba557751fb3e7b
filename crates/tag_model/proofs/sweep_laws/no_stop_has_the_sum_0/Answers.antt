use Rattle.std.proofs.Common.{ap}
use Rattle.tag_model.specs.declared.state.ListPart.{ListPart}
use Rattle.tag_model.proofs.Accounted.{scans_above_zero}
use Rattle.tag_model.proofs.sweep_laws.no_stop_has_the_sum_0.Goals as goal

pub returns-clause-scans : goal.returns-clause-scans
returns-clause-scans c k left r cpu old new row was = scans_above_zero k left r cpu old new row was

pub returns-clause-of_all : goal.returns-clause-of_all
returns-clause-of_all c old new row = ap (λ (l : ListPart). l.stops) row.after

pub returns-clause-of_one : goal.returns-clause-of_one
returns-clause-of_one c old new row = ap (λ (l : ListPart). l.stops) row.after

pub returns-clause-releases : goal.returns-clause-releases
returns-clause-releases c left gone old new row = ap (λ (l : ListPart). l.stops) row.after

pub returns-clause-loads : goal.returns-clause-loads
returns-clause-loads c k section start length next old new row = ap (λ (l : ListPart). l.stops) row.after

pub returns-clause-enters : goal.returns-clause-enters
returns-clause-enters c old new row = ap (λ (l : ListPart). l.stops) row.after

pub returns-clause-leaves : goal.returns-clause-leaves
returns-clause-leaves c old new row = ap (λ (l : ListPart). l.stops) row.after
