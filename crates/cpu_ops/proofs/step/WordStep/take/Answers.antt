use Rattle.std.proofs.Common.{length}
use Rattle.cpu_ops.proofs.step.WordStep.take.Goals as goal

pub count-requires : goal.count-requires
count-requires c = (length c.args.places.now, c.requires)

pub hand_after-requires : goal.hand_after-requires
hand_after-requires c = (length c.args.words.now, length c.args.places.now, c.requires)
