use Rattle.std.proofs.Common.{◌≡◌, length, refl, arith, subst, Option, None, Ok}
use Rattle.std.proofs.lemmas.Option.{slice_get_past}
use Rattle.core_steps.specs.declared.op.Actor.{Actor}
use Rattle.module_ops.specs.declared.event.Event.{Event}
use Rattle.cpu_ops.specs.declared.refused.StepRefused.{StepRefused}
use Rattle.core_steps.specs.CoreState.{CoreState, refused, event_of}
use Rattle.core_steps.specs.Release.{IfReleases}
use Rattle.core_steps.proofs.Kept.{Answers, result_none}
use Rattle.core_steps.proofs.Runs.{ran_none, ran_more}
use Rattle.core_steps.proofs.run.run_steps.Goals as goal

-- what the event that was told says, said of the step
finds : (s : CoreState) (a : Actor) (e : Event) → Answers (refused s a) (event_of s a) (Ok e) → IfReleases s e → IfReleases s (event_of s a)
finds s a e answer told =
    let none = result_none _ _ e answer in
    let same : Answers None (event_of s a) (Ok e) = subst (λ (o : Option StepRefused). Answers o (event_of s a) (Ok e)) none answer in
    subst (IfReleases s) (let is : e ≡ event_of s a = cc in is) told

pub loop-taken-init : goal.loop-taken-init
loop-taken-init c = ran_none c.args.core.now c.args.actors.now c.tell.ensures

pub loop-taken-preserved : goal.loop-taken-preserved
loop-taken-preserved c =
    ran_more c.args.core.now c.loop-taken.core c.go.new.self c.args.actors.now c.loop-taken.taken _ _ c.loop-taken-test.true refl c.loop-taken.invariant
    (result_none _ _ c.in_default.field-0 (rw c.in_default.is at c.go.ensures.answer))
    (finds c.loop-taken.core _ c.in_default.field-0 (rw c.in_default.is at c.go.ensures.answer) (rw c.in_default.is at c.go.ensures.released))
    (rw c.in_default.is at c.go.ensures.ok) c.go.ensures.safe

pub returns-clause-stopped : goal.returns-clause-stopped
returns-clause-stopped c = rw (slice_get_past c.args.actors.now (length c.args.actors.now) (omega arith)) tt
