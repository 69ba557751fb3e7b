use Rattle.std.proofs.Common.{◌≡◌, ℕ, List, sym, subst}
use Rattle.core_steps.specs.declared.op.Actor.{Actor}
use Rattle.core_steps.specs.CoreState.{CoreState}
use Rattle.step_play.specs.Playing.{SameSizes, StepsOn, own_setting}
use Rattle.step_play.proofs.ReadOn.{reads_none, reads_on, sizes_after}
use Rattle.step_play.proofs.play.play_reads.Goals as goal

pub returns-in-Cpu-clause-meaning : goal.returns-in-Cpu-clause-meaning
returns-in-Cpu-clause-meaning c = λ text p shows. reads_none (own_setting c.args.core.now) c.args.actor c.args.core.now text p shows

pub returns-in-Manager-clause-meaning : goal.returns-in-Manager-clause-meaning
returns-in-Manager-clause-meaning c = λ text p shows.
    let s = own_setting c.args.core.now in
    let n = c.read_on.result in
    subst (λ (a : Actor). StepsOn s a n c.read_on.new.self text p) (sym c.in-Manager.is)
    (subst (λ (x : CoreState). StepsOn s Actor.Manager n x text p) (sym c.read_on.ensures.state) (reads_on n s c.args.core.now text p shows c.read_on.ensures.quiet))

pub returns-in-Manager-clause-sizes : goal.returns-in-Manager-clause-sizes
returns-in-Manager-clause-sizes c = subst (SameSizes c.args.core.now) (sym c.read_on.ensures.state) (sizes_after c.read_on.result c.args.core.now)
