use Rattle.std.proofs.Common.{◌+◌, sym, ◌∙◌, arith}
use Rattle.round_check.proofs.Ranges.{free_more, free_stops}
use Rattle.round_check.proofs.key_checks.free_keys.Goals as goal

pub loop-key-preserved : goal.loop-key-preserved
loop-key-preserved c =
    sym (free_more c.args.keys.now c.loop-key.key (c.args.first + c.args.count) (omega arith) (sym c.free_key.ensures ∙ c.in_default.is)) ∙ c.loop-key.invariant

pub returns-in-Err : goal.returns-in-Err
returns-in-Err c =
    sym (free_stops c.args.keys.now c.loop-key.key (c.args.first + c.args.count) c.in-Err.code (omega arith) (sym c.free_key.ensures ∙ c.in-Err.is)) ∙ c.loop-key.invariant
