use Rattle.std.proofs.Common.{◌+◌, ◌-◌, sym, ◌∙◌, ap, arith}
use Rattle.std.specs.List.{range_with_len}
use Rattle.round_check.specs.Keys.{bind_all}
use Rattle.round_check.proofs.Ranges.{bind_more}
use Rattle.round_check.proofs.key_checks.bind_all.Goals as goal

pub loop-key-preserved : goal.loop-key-preserved
loop-key-preserved c =
    let last = c.args.first + c.args.count in
    let step = bind_more c.loop-key.keys c.args.turn c.args.bound c.loop-key.key last (omega arith) in
    ap (λ keys. bind_all keys c.args.turn c.args.bound (range_with_len (c.loop-key.key + 1) (last - (c.loop-key.key + 1)))) c.bind.ensures
    ∙ sym step
    ∙ c.loop-key.invariant
