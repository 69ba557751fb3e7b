use Rattle.std.proofs.Common.{◌≡◌, arith, subst}
use Rattle.cpu_ops.specs.Reserved.{FlaggedFrom}
use Rattle.cpu_ops.proofs.reserved.set_from.Goals as goal

pub returns : goal.returns
returns c = let end : c.loop-key.key ≡ c.args.end = omega arith in subst (λ n. FlaggedFrom c.args.first n c.args.flag c.args.flags.now c.loop-key.flags) end c.loop-key.invariant
