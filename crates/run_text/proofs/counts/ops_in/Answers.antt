use Rattle.std.proofs.Common.{◌≤◌, List, sum_by, sym, subst}
use Rattle.trace.specs.declared.traces.Item.{Item}
use Rattle.trace_play.specs.Play.{ops_in}
use Rattle.trace_play.proofs.Numbers.{few_ops}
use Rattle.run_text.proofs.counts.ops_in.Goals as goal

pub ops_among-requires : goal.ops_among-requires
ops_among-requires c = subst (λ (items : List Item). sum_by ops_in items ≤ 131071) (sym c.as_slice.ensures) (few_ops c.args.trace.now.body c.requires.lines)
