use Rattle.std.proofs.Common.{arith}
use Rattle.round_modules.proofs.Stepping.{MayCome, may_come_on}
use Rattle.round_modules.proofs.entering.+enter_each.Goals as goal

pub enter_each-requires : goal.enter_each-requires
enter_each-requires t c =
    let may : MayCome c.args.locked.now c.args.cpu.now c.args.known.now = record { table = c.requires.table; outside = c.requires.outside; room = c.requires.room; rising = c.requires.rising; loaded = c.requires.loaded } in
    let on = may_come_on c.args.locked.now c.enter_one.new.locked c.args.cpu.now c.enter_one.new.cpu c.in-Some.first.now c.in-Some.rest.now c.args.known.now c.in-Some.ensures.cases.0 may c.enter_one.ensures.cpu c.enter_one.ensures.same in
    (omega (arith, c.in-Some.ensures.cases.1, c.decreases), (on.table, (on.outside, (on.room, (on.rising, on.loaded)))))
