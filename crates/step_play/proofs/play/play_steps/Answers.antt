use Rattle.std.proofs.Common.{◌≡◌, ◌+◌, ◌-◌, ◌<◌, ℕ, List, arith, Result, subst}
use Rattle.step_play.specs.Printed.{Setting}
use Rattle.step_play.specs.Schedule.{Played, one_step}
use Rattle.step_play.specs.Playing.{Shows, Follows, StepsOn, own_setting}
use Rattle.step_play.proofs.ReadOn.{goes_over}
use Rattle.step_play.proofs.Stepping.{same_sizes, sizes_kept, own_kept, goes_first, goes_on, goes_err, goes_end}
use Rattle.step_play.proofs.play.play_steps.Goals as goal

pub loop-left-init : goal.loop-left-init
loop-left-init c = record {
  goes = λ p shows. goes_first (own_setting c.args.core.now) c.args.actor c.args.core.now c.args.out.now.items c.args.count c.args.count p (omega arith) shows;
  sizes = same_sizes c.args.core.now;
}

pub loop-left-preserved : goal.loop-left-preserved
loop-left-preserved c =
    let read = c.play_reads-left.result in
    let sizes = sizes_kept c.args.core.now c.loop-left.core c.play_reads-left.new.core c.loop-left.invariant.sizes c.play_reads-left.ensures.sizes in
    record {
      goes = λ p shows.
          let s = own_setting c.args.core.now in
          let g = c.loop-left.invariant.goes p shows in
          let on = subst (λ (x : Setting). (text : List ℕ) (q : Played) → Shows x c.loop-left.core text q → StepsOn x c.args.actor read c.play_reads-left.new.core text q) (own_kept c.args.core.now c.loop-left.core c.loop-left.invariant.sizes) c.play_reads-left.ensures.meaning in
          let read_on = goes_over s c.args.actor c.loop-left.core c.play_reads-left.new.core c.loop-left.out.items read c.loop-left.left c.args.count p (omega (arith, c.play_reads-left.ensures.within)) g (on c.loop-left.out.items g.played g.shows) in
          let meant = subst (λ (x : Setting). (q : Played) → Shows x c.play_reads-left.new.core c.loop-left.out.items q → Follows x (Result.Ok c.in_default.field-0) c.play_step.new.core c.play_step.new.out.items (one_step x c.args.actor q)) (own_kept c.args.core.now c.play_reads-left.new.core sizes) c.in_default.ensures.meaning in
          goes_on s c.args.actor c.play_reads-left.new.core c.play_step.new.core c.loop-left.out.items c.play_step.new.out.items (c.loop-left.left - read) (c.loop-left.left - read - 1) c.args.count p _ c.in_default.field-0 (omega (arith, c.play_reads-left.ensures.within, c.loop-left-test.true)) read_on
          (meant read_on.played read_on.shows);
      sizes = sizes_kept c.args.core.now c.play_reads-left.new.core c.play_step.new.core sizes c.in_default.ensures.sizes;
    }

pub returns-in-Err-clause-meaning : goal.returns-in-Err-clause-meaning
returns-in-Err-clause-meaning c = λ p shows.
    let read = c.play_reads-left.result in
    let sizes = sizes_kept c.args.core.now c.loop-left.core c.play_reads-left.new.core c.loop-left.invariant.sizes c.play_reads-left.ensures.sizes in
    let s = own_setting c.args.core.now in
    let g = c.loop-left.invariant.goes p shows in
    let on = subst (λ (x : Setting). (text : List ℕ) (q : Played) → Shows x c.loop-left.core text q → StepsOn x c.args.actor read c.play_reads-left.new.core text q) (own_kept c.args.core.now c.loop-left.core c.loop-left.invariant.sizes) c.play_reads-left.ensures.meaning in
    let read_on = goes_over s c.args.actor c.loop-left.core c.play_reads-left.new.core c.loop-left.out.items read c.loop-left.left c.args.count p (omega (arith, c.play_reads-left.ensures.within)) g (on c.loop-left.out.items g.played g.shows) in
    let meant = subst (λ (x : Setting). (q : Played) → Shows x c.play_reads-left.new.core c.loop-left.out.items q → Follows {X = Unit {0}} x (Result.Err c.in-Err.error) c.play_step.new.core c.play_step.new.out.items (one_step x c.args.actor q)) (own_kept c.args.core.now c.play_reads-left.new.core sizes) c.in-Err.ensures.meaning in
    goes_err s c.args.actor c.play_reads-left.new.core c.play_step.new.core c.loop-left.out.items c.play_step.new.out.items (c.loop-left.left - read) c.args.count p (Unit {0}) (Unit {0}) c.in-Err.error (omega (arith, c.play_reads-left.ensures.within, c.loop-left-test.true)) read_on (meant read_on.played read_on.shows)

pub returns-clause-meaning : goal.returns-clause-meaning
returns-clause-meaning c = λ p shows.
    goes_end (own_setting c.args.core.now) c.args.actor c.loop-left.core c.loop-left.out.items c.loop-left.left c.args.count p (Unit {0}) tt (omega (arith, c.loop-left-test.false)) (c.loop-left.invariant.goes p shows)
