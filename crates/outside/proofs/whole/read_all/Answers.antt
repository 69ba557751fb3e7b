use Rattle.std.proofs.Common.{arith, ◌++◌, take, length-append, length-take}
use Rattle.std.proofs.lemmas.Result.{err_from_is_err_and}
use Rattle.std.proofs.KnownBytes.{Consumes-trans, Consumes-kept}
use Rattle.outside.proofs.whole.read_all.Goals as goal

pub returns-in_err-n-clause-took : goal.returns-in_err-n-clause-took
returns-in_err-n-clause-took g c =
    let why = err_from_is_err_and c.from_residual.result c.from_residual.ensures.1 in
    rw (why.1, why.2) record {
      bytes = c.loop-turn.bytes.items;
      taken = Consumes-kept _ _ _ _ c.loop-turn.invariant.taken c.in_err-n.ensures.bytes;
      amount = omega (arith, c.loop-turn.bytes.ok.0);
    }

pub returns-then-n-limit-clause-took : goal.returns-then-n-limit-clause-took
returns-then-n-limit-clause-took g c =
    let held = c.loop-turn.bytes.items in
    let piece = take c.in_ok-n.n c.read.new.buffer in
    record {
      bytes = held ++ piece;
      taken = Consumes-trans _ _ _ held piece c.loop-turn.invariant.taken c.in_ok-n.ensures.bytes.0;
      amount = omega (arith, length-append held piece, c.loop-turn.bytes.ok.0, c.read.auto.buffer, length-take c.min-room.result c.loop-turn.buffer, c.in_ok-n.ensures.bound.0, c.in_ok-n.ensures.bound.1);
    }

pub returns-in_err-extend_from_slice-clause-took :
    goal.returns-in_err-extend_from_slice-clause-took
returns-in_err-extend_from_slice-clause-took g c =
    let held = c.loop-turn.bytes.items in
    let piece = take c.in_ok-n.n c.read.new.buffer in
    let why = err_from_is_err_and c.from_residual-in_err-extend_from_slice.result c.from_residual-in_err-extend_from_slice.ensures.1 in
    rw (why.1, why.2) record {
      bytes = held ++ piece;
      taken = Consumes-trans _ _ _ held piece c.loop-turn.invariant.taken c.in_ok-n.ensures.bytes.0;
      amount = omega (arith, length-append held piece, c.loop-turn.bytes.ok.0, c.in_ok-n.ensures.bound.0, c.in_ok-n.ensures.bound.1);
    }

pub loop-turn-preserved : goal.loop-turn-preserved
loop-turn-preserved g c =
    let held = c.loop-turn.bytes.items in
    let piece = take c.in_ok-n.n c.read.new.buffer in
    let grown = c.in_ok-extend_from_slice.ensures in
    record {
      progress = omega (arith, grown.len, c.in_ok-n.ensures.bound.1);
      within = omega (arith, grown.len, c.in_ok-n.ensures.bound.1);
      taken = rw grown.items (Consumes-trans _ _ _ held piece c.loop-turn.invariant.taken c.in_ok-n.ensures.bytes.0);
      steady = omega (arith, c.in_ok-n.ensures.cause.steady);
    }
