use Rattle.std.proofs.Common.{List, ℕ, Result, subst}
use Rattle.core_steps.specs.StepsLeft.{steps_left}
use Rattle.step_play.specs.Printed.{Setting}
use Rattle.step_play.specs.Schedule.{Played, core_played, one_step}
use Rattle.step_play.specs.Playing.{Shows, Follows, StepsOn, own_setting}
use Rattle.step_play.proofs.ReadOn.{all_over}
use Rattle.step_play.proofs.Stepping.{sizes_kept, own_kept, all_first, all_on, all_err, all_end}
use Rattle.step_play.proofs.play.play_all.Goals as goal

pub loop-actor-init : goal.loop-actor-init
loop-actor-init c = record {
  goes = λ p shows.
      let s = own_setting c.args.core.now in
      let first = all_first s c.args.actor c.args.core.now c.args.out.now.items p shows in
      all_over s c.args.actor c.args.core.now c.play_reads.new.core c.args.out.now.items c.play_reads.result (steps_left (core_played s p) c.args.actor) p c.play_reads.ensures.left first (c.play_reads.ensures.meaning c.args.out.now.items first.played first.shows);
  sizes = c.play_reads.ensures.sizes;
}

pub loop-actor-preserved : goal.loop-actor-preserved
loop-actor-preserved c = record {
  goes = λ p shows.
      let s = own_setting c.args.core.now in
      let g = c.loop-actor.invariant.goes p shows in
      let same = own_kept c.args.core.now c.loop-actor.core c.loop-actor.invariant.sizes in
      let meant = subst (λ (x : Setting). (q : Played) → Shows x c.loop-actor.core c.loop-actor.out.items q → Follows x (Result.Ok c.in_default.field-0) c.play_step.new.core c.play_step.new.out.items (one_step x c.args.actor q)) same c.in_default.ensures.meaning in
      let after = all_on s c.args.actor c.loop-actor.core c.play_step.new.core c.loop-actor.out.items c.play_step.new.out.items (steps_left (core_played s p) c.args.actor) p c.idle.result _ c.in_default.field-0
      c.idle.ensures.empty c.loop-actor-test.true c.in_default.ensures.left g (meant g.played g.shows) in
      let sizes = sizes_kept c.args.core.now c.loop-actor.core c.play_step.new.core c.loop-actor.invariant.sizes c.in_default.ensures.sizes in
      let read = c.play_reads-in-loop-actor in
      let on = subst (λ (x : Setting). (text : List ℕ) (q : Played) → Shows x c.play_step.new.core text q → StepsOn x c.args.actor read.result read.new.core text q) (own_kept c.args.core.now c.play_step.new.core sizes) read.ensures.meaning in
      all_over s c.args.actor c.play_step.new.core read.new.core c.play_step.new.out.items read.result (steps_left (core_played s p) c.args.actor) p read.ensures.left after (on c.play_step.new.out.items after.played after.shows);
  sizes = sizes_kept c.args.core.now c.play_step.new.core c.play_reads-in-loop-actor.new.core (sizes_kept c.args.core.now c.loop-actor.core c.play_step.new.core c.loop-actor.invariant.sizes c.in_default.ensures.sizes) c.play_reads-in-loop-actor.ensures.sizes;
}

pub returns-in-Err-clause-meaning : goal.returns-in-Err-clause-meaning
returns-in-Err-clause-meaning c = λ p shows.
    let s = own_setting c.args.core.now in
    let g = c.loop-actor.invariant.goes p shows in
    let same = own_kept c.args.core.now c.loop-actor.core c.loop-actor.invariant.sizes in
    let meant = subst (λ (x : Setting). (q : Played) → Shows x c.loop-actor.core c.loop-actor.out.items q → Follows {X = Unit {0}} x (Result.Err c.in-Err.error) c.play_step.new.core c.play_step.new.out.items (one_step x c.args.actor q)) same c.in-Err.ensures.meaning in
    all_err s c.args.actor c.loop-actor.core c.play_step.new.core c.loop-actor.out.items c.play_step.new.out.items (steps_left (core_played s p) c.args.actor) p c.idle.result (Unit {0}) (Unit {0}) c.in-Err.error
    c.idle.ensures.empty c.idle.ensures.left c.loop-actor-test.true g (meant g.played g.shows)

pub returns-clause-meaning : goal.returns-clause-meaning
returns-clause-meaning c = λ p shows.
    let s = own_setting c.args.core.now in
    all_end s c.args.actor c.loop-actor.core c.loop-actor.out.items (steps_left (core_played s p) c.args.actor) p c.idle.result (Unit {0}) tt c.idle.ensures.empty c.loop-actor-test.false (c.loop-actor.invariant.goes p shows)
