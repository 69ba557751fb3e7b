use Rattle.std.proofs.Common.{ap, arith, ◌≡◌, ◌+◌}
use Rattle.tag_rule.specs.Shown.{PassShown}
use Rattle.rounds.specs.Places.{machine_at}
use Rattle.rounds.proofs.LoadsAt.{early, few_ids}
use Rattle.rounds.proofs.desk.Desk.load.Goals as goal

-- src/loading.rt:20:9
pub load-requires-clause-early : goal.load-requires-clause-early
load-requires-clause-early c =
    let r = c.requires in
    early c.args.section r.place r.load c.args.self.now.locked r.there.list.sections_are r.there.list.area

-- src/loading.rt:20:9
pub load-requires-clause-id : goal.load-requires-clause-id
load-requires-clause-id c =
    let r = c.requires in
    let few = few_ids c.args.section r.place r.load in
    let next : c.args.self.now.pass.next ≡ (machine_at r.place).last_id + 1 = ap (λ (x : PassShown). x.next) r.there.list.next in
    omega (arith, few, next)
