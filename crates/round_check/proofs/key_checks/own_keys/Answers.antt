use Rattle.std.proofs.Common.{◌+◌, sym, ◌∙◌, arith}
use Rattle.round_check.proofs.Ranges.{own_more, own_stops}
use Rattle.round_check.proofs.key_checks.own_keys.Goals as goal

pub loop-key-preserved : goal.loop-key-preserved
loop-key-preserved c =
    sym (own_more c.args.keys.now c.args.turn c.loop-key.key (c.args.first + c.args.count) (omega arith) (sym c.own_key.ensures ∙ c.in_default.is)) ∙ c.loop-key.invariant

pub returns-in-Err : goal.returns-in-Err
returns-in-Err c =
    sym (own_stops c.args.keys.now c.args.turn c.loop-key.key (c.args.first + c.args.count) c.in-Err.code (omega arith) (sym c.own_key.ensures ∙ c.in-Err.is)) ∙ c.loop-key.invariant
