use Rattle.std.proofs.Common.{List, ap, get_or, subst, sym, ◌∙◌}
use Rattle.module_area.specs.declared.entry.Entry.{Entry}
use Rattle.trace.specs.declared.traces.OnOp.{OnOp}
use Rattle.trace.specs.declared.traces.TraceOp.TheVariants as op
use Rattle.round_modules.specs.Known.{IsKnown, unload_in}
use Rattle.round_modules.proofs.Knows.{unload_keeps, unloaded_more}
use Rattle.round_modules.proofs.knowing.unload_known.Goals as goal

pub loop-on-preserved : goal.loop-on-preserved
loop-on-preserved c =
    let any : OnOp = record { line = 0; cpu = 0; op = op.Page 0 0 } in
    let on = get_or c.args.ops.now c.loop-on.on-index any in
    record {
      marked =
          c.unload_one.ensures.marked ∙ ap (λ (entries : List Entry). unload_in entries on.op) c.loop-on.invariant.marked
          ∙ sym (unloaded_more c.args.ops.now c.args.known.now c.loop-on.on-index any c.loop-on-test.true);
      still = λ book h. subst (IsKnown book) (sym c.unload_one.ensures.marked) (unload_keeps book c.loop-on.known on.op (c.loop-on.invariant.still book h));
    }
