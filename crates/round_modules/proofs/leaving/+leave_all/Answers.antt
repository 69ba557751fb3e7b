use Rattle.std.proofs.Common.{◌≡◌, None, arith}
use Rattle.tag_rule.specs.Shown.{CpuShown}
use Rattle.round_modules.specs.Known.{runs_of}
use Rattle.round_modules.proofs.Stepping.{boards_on, rest_on}
use Rattle.round_modules.proofs.leaving.+leave_all.Goals as goal

pub leave_all-requires : goal.leave_all-requires
leave_all-requires t c =
    let is = c.in-Some.ensures.cases.0 in (
      omega (arith, c.in-Some.ensures.cases.1, c.decreases),
      (
        boards_on c.args.locked.now.board c.leave_each.new.locked.board c.in-Some.first.now c.in-Some.rest.now c.args.cpus.now is c.leave_each.ensures.same.board c.requires.tables,
        (rest_on (λ (x : CpuShown). x.part.hand ≡ None) c.in-Some.first.now c.in-Some.rest.now c.args.cpus.now is c.requires.hands, (c.requires.rising, rest_on (λ (x : CpuShown). x.part.runs ≡ runs_of c.args.known.now) c.in-Some.first.now c.in-Some.rest.now c.args.cpus.now is c.requires.inside)),
      ),
    )
