use Rattle.std.proofs.Common.{◌∙◌, List, Some, ap₂}
use Rattle.tag_rule.specs.Shown.{CpuShown}
use Rattle.plant.specs.Table.{PlantShown}
use Rattle.plant.specs.declared.left.Left.{Left}
use Rattle.rounds.specs.Places.{machine_at}
use Rattle.trace_run.proofs.Ran.{has_printed, has_run, is_left}
use Rattle.trace_run.proofs.running.finish.Goals as goal

pub end-ended-requires : goal.end-ended-requires
end-ended-requires c = record { somewhere = record { place = c.requires.ended.place; there = c.requires.ended.there } }

pub settle-requires-clause-left : goal.settle-requires-clause-left
settle-requires-clause-left c =
    let e = c.requires.ended in
    is_left e.place c.args.outcome.desk c.args.plant.now.shape _ _ e.there e.shape c.into_left-cpus.ensures.left c.into_left-cpus.ensures.cpus

pub returns-clause-plant : goal.returns-clause-plant
returns-clause-plant c = λ p at shape.
    has_run p.board p.trace (machine_at p) c.args.outcome.desk c.args.plant.now c.settle.new.self shape at
    (c.settle.ensures ∙ ap₂ (λ (cpus : List CpuShown) (left : Left). let p : PlantShown = record c.args.plant.now { cpus = cpus; left = Some left } in p) c.into_left-cpus.ensures.cpus c.into_left-cpus.ensures.left) c.requires.used

pub returns-clause-printed : goal.returns-clause-printed
returns-clause-printed c = λ p at kept top.
    has_printed p c.args.outcome.desk c.args.plant.now c.settle.new.self at c.into_left-cpus.ensures.locked
    (c.settle.ensures ∙ ap₂ (λ (cpus : List CpuShown) (left : Left). let p : PlantShown = record c.args.plant.now { cpus = cpus; left = Some left } in p) c.into_left-cpus.ensures.cpus c.into_left-cpus.ensures.left) kept top
