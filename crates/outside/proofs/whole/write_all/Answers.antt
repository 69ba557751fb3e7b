use Rattle.std.proofs.Common.{arith, take, drop, length-drop}
use Rattle.std.proofs.lemmas.List.{take_rest}
use Rattle.std.proofs.Math.Seq.{take-add}
use Rattle.std.proofs.KnownBytes.{Appends-trans}
use Rattle.outside.proofs.whole.write_all.Goals as goal

pub loop-sent-preserved : goal.loop-sent-preserved
loop-sent-preserved g c =
    let bytes = c.args.bytes.now in
    let sent = c.loop-sent.sent in
    let count = c.in_ok-sent.field-0 in
    let rest = take_rest bytes sent in
    record {
      within = omega (arith, rw rest at c.in_ok-sent.ensures.bound, length-drop sent bytes);
      out = rw (take-add sent count bytes) (Appends-trans _ _ _ (take sent bytes) (take count (drop sent bytes)) c.loop-sent.invariant.out (rw rest at c.in_ok-sent.ensures.bytes));
      steady = omega (arith, c.in_ok-sent.ensures.cause.steady);
    }
