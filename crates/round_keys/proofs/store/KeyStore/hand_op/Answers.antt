use Rattle.std.proofs.Common.{subst, sym}
use Rattle.trace.specs.declared.traces.TraceOp.{TraceOp}
use Rattle.round_worker.proofs.KeptLemmas.{on_ok}
use Rattle.round_keys.specs.Handing.{HandedSo, with_key, with_op}
use Rattle.round_keys.proofs.HandLemmas.{after_both}
use Rattle.round_keys.proofs.store.KeyStore.hand_op.Goals as goal

pub returns-in-Page-clause-handed : goal.returns-in-Page-clause-handed
returns-in-Page-clause-handed c who live from up so =
    on_ok c.hand_key.result (subst (λ (what : TraceOp). HandedSo (with_op what c.args.cpu who) live from c.hand_key.new.self c.hand_key.new.workers) (sym c.in-Page.is)) (c.hand_key.ensures.handed who live from up so)

pub returns-in-Kmalloc-clause-handed : goal.returns-in-Kmalloc-clause-handed
returns-in-Kmalloc-clause-handed c who live from up so =
    let hand = c.hand_key-in-Kmalloc in
    on_ok hand.result (subst (λ (what : TraceOp). HandedSo (with_op what c.args.cpu who) live from hand.new.self hand.new.workers) (sym c.in-Kmalloc.is)) (hand.ensures.handed who live from up so)

pub returns-in-Free-clause-handed : goal.returns-in-Free-clause-handed
returns-in-Free-clause-handed c who live from up so =
    let hand = c.hand_key-in-Free in
    on_ok hand.result (subst (λ (what : TraceOp). HandedSo (with_op what c.args.cpu who) live from hand.new.self hand.new.workers) (sym c.in-Free.is)) (hand.ensures.handed who live from up so)

pub returns-in-Split-clause-handed : goal.returns-in-Split-clause-handed
returns-in-Split-clause-handed c who live from up so =
    let hand = c.hand_key-in-Split in
    on_ok hand.result (subst (λ (what : TraceOp). HandedSo (with_op what c.args.cpu who) live from hand.new.self hand.new.workers) (sym c.in-Split.is)) (hand.ensures.handed who live from up so)

pub returns-in_ok-hand_key-in-Swap-clause-handed : goal.returns-in_ok-hand_key-in-Swap-clause-handed
returns-in_ok-hand_key-in-Swap-clause-handed c who live from up so =
    let hand = c.hand_key-in-Swap-2 in
    let one = c.in-Swap.one in
    let two = c.in-Swap.two in
    on_ok hand.result
    (λ both. subst (λ (what : TraceOp). HandedSo (with_op what c.args.cpu who) live from hand.new.self hand.new.workers) (sym c.in-Swap.is)
    (after_both live from hand.new.self hand.new.workers who one two c.args.cpu both))
    (hand.ensures.handed (with_key one c.args.cpu who) live from up (c.in_ok-hand_key-in-Swap.ensures.handed who live from up so))

pub returns-in-Trim-clause-handed : goal.returns-in-Trim-clause-handed
returns-in-Trim-clause-handed c who live from up so =
    let hand = c.hand_key-in-Trim in
    on_ok hand.result (subst (λ (what : TraceOp). HandedSo (with_op what c.args.cpu who) live from hand.new.self hand.new.workers) (sym c.in-Trim.is)) (hand.ensures.handed who live from up so)
