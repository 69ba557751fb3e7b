use Rattle.std.proofs.Common.{arith}
use Rattle.round_modules.proofs.Stepping.{MayLeave, may_leave_on}
use Rattle.round_modules.proofs.leaving.+leave_each.Goals as goal

pub leave_each-requires : goal.leave_each-requires
leave_each-requires t c =
    let may : MayLeave c.args.locked.now c.args.cpu.now c.args.known.now = record { table = c.requires.table; no_hand = c.requires.no_hand; rising = c.requires.rising; inside = c.requires.inside } in
    let on = may_leave_on c.args.locked.now c.leave_one.new.locked c.args.cpu.now c.leave_one.new.cpu c.in-Some.first.now c.in-Some.rest.now c.args.known.now c.in-Some.ensures.cases.0 may c.leave_one.ensures.cpu c.leave_one.ensures.same in
    (omega (arith, c.in-Some.ensures.cases.1, c.decreases), (on.table, (on.no_hand, (on.rising, on.inside))))
