use Rattle.std.proofs.Common.{◌≡◌, Result, Ok, Err, OnOk, OnErr, List, Bool, ℕ, ◌<◌, [], length, set, get_or, ap, ◌∙◌, sym, subst}
use Rattle.std.proofs.lemmas.List.{set-get_or, get_or_default}
use Rattle.tag_model.specs.declared.state.Held.{Held}
use Rattle.cpu_ops.specs.declared.op.CpuOp.{CpuOp}
use Rattle.cpu_ops.specs.Machine.{Waiting, nothing_waits, with_op, Machine}
use Rattle.cpu_ops.specs.Reserved.{AreReserved}
use Rattle.cpu_ops.proofs.Flags.{reserved_queued}
use Rattle.cpu_ops.proofs.machine.Machine.queue.Goals as goal

-- what `push` leaves, by its answer
after : {X E : Type 0} (flags : List Bool) (places : List Held) (waiting : List Waiting) (cpu : ℕ) (op : CpuOp) (w next : Waiting) (r : Result X E) → AreReserved flags places waiting → cpu < length waiting → w ≡ get_or waiting cpu w
    → ((get_or waiting cpu nothing_waits).ops ≡ [] → (get_or waiting cpu nothing_waits).done ≡ 0) → OnOk r (next ≡ with_op w op) → OnErr r (next ≡ w) → AreReserved flags places (set waiting cpu next)
after flags places waiting cpu op w next (Ok x) all below is start ok err =
    let same : w ≡ get_or waiting cpu nothing_waits = is ∙ get_or_default waiting cpu w nothing_waits below in
    rw ok (reserved_queued flags places waiting cpu w op all below same (subst (λ (x : Waiting). x.ops ≡ [] → x.done ≡ 0) (sym same) start))
after flags places waiting cpu op w next (Err e) all below is start ok err =
    rw (ap (set waiting cpu) (err ∙ is) ∙ set-get_or waiting cpu w) all

pub invariant_of-self-2 : goal.invariant_of-self-2
invariant_of-self-2 c =
    after c.self.inside.reserved c.self.inside.places.items c.self.inside.waiting.items c.args.cpu c.args.op c.index_mut-waiting.result.now c.push.new.self c.push.result c.self.invariant
    (rw (ap (λ (m : Machine). m.waiting) c.self.view_is) c.requires.cpu) c.index_mut-waiting.ensures.value
    (rw (ap (λ (m : Machine). m.waiting) c.self.view_is) c.requires.at_start) c.push.ensures.ok c.push.ensures.err
