use Rattle.std.proofs.Common.{◌≡◌, [], arith}
use Rattle.tag_rule.specs.Shown.{CpuShown}
use Rattle.round_modules.proofs.Alike.{all_loaded_alike}
use Rattle.round_modules.proofs.Stepping.{boards_on, rest_on}
use Rattle.round_modules.proofs.entering.+enter_all.Goals as goal

pub enter_all-requires : goal.enter_all-requires
enter_all-requires t c =
    let is = c.in-Some.ensures.cases.0 in
    let same = c.enter_each.ensures.same in (
      omega (arith, c.in-Some.ensures.cases.1, c.decreases),
      (
        boards_on c.args.locked.now.board c.enter_each.new.locked.board c.in-Some.first.now c.in-Some.rest.now c.args.cpus.now is same.board c.requires.tables,
        (rest_on (λ (x : CpuShown). x.part.runs ≡ []) c.in-Some.first.now c.in-Some.rest.now c.args.cpus.now is c.requires.outside, (c.requires.few, (c.requires.rising, all_loaded_alike c.args.locked.now.area.entries c.enter_each.new.locked.area.entries c.args.known.now same.entries c.requires.loaded))),
      ),
    )
