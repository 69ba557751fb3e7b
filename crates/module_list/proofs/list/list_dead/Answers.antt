use Rattle.std.proofs.Common.{◌≤◌, length, take, ap, arith}
use Rattle.std.proofs.lemmas.List.{length-take}
use Rattle.module_list.proofs.Keeps.{dead_not_more}
use Rattle.module_list.proofs.list.list_dead.Goals as goal

pub unwrap-requires : goal.unwrap-requires
unwrap-requires c =
    let records = take c.loop-place.place c.args.records.now in
    let few : length c.loop-place.left.items ≤ length records = omega (arith, ap length c.loop-place.invariant.ids, dead_not_more records) in
    let place : length records ≤ c.loop-place.place = omega (arith, length-take c.loop-place.place c.args.records.now) in
    c.push.ensures.succeeds (omega (arith, c.loop-place.invariant.room, c.loop-place-test.true, c.requires.few))
