use Rattle.std.proofs.Common.{◌≡◌, ◌==◌, cond, None, ap, ◌∙◌, sym, subst, arith, List, ◌++◌, drop, take, length}
use Rattle.tag_model.specs.declared.state.Held.{Held}
use Rattle.cpu_ops.specs.Machine.{Machine, machine_of, step_of, first_refusal}
use Rattle.cpu_ops.specs.Needs.{CanGo}
use Rattle.cpu_ops.proofs.Going.{step_takes, flags_after, length-places, written}
use Rattle.cpu_ops.proofs.machine.Machine.step.Goals as goal

pub take-requires : goal.take-requires
take-requires c =
    let m = machine_of c.self.inside.hands.items c.self.inside.places.items c.self.inside.waiting.items in
    let can : CanGo m c.args.scene.now c.args.words.now c.args.cpu = rw c.self.view_is c.requires in
    let step : c.next_step-step.result ≡ step_of c.in-Some.op c.done-done.result c.index-3.result.now c.self.inside.places.items c.args.scene.now.inside =
    c.next_step-step.ensures ∙ ap (λ (p : List Held). step_of c.in-Some.op c.done-done.result c.index-3.result.now p c.inside.result.now) c.deref.ensures.value
    ∙ ap (step_of c.in-Some.op c.done-done.result c.index-3.result.now c.self.inside.places.items) c.inside.ensures in
    rw (c.deref_mut.ensures.value)
    (step_takes m c.args.scene.now c.args.words.now c.args.cpu c.done-done.result c.index.result.now c.index-2.result.now c.in-Some.op c.first.result c.refusal.result can c.index.ensures c.index-2.ensures c.first.ensures c.in-Some.is c.done-done.ensures
    (subst (λ (x : Machine). c.refusal.result ≡ cond (c.done-done.result == 0) (first_refusal x.places x.waiting c.args.scene.now c.in-Some.op) None) (sym c.self.view_is) c.refusal.ensures) c.in_default-refusal.is
    c.next_step-step.result c.index-3.result.now c.index_mut.result.now c.index-3.ensures c.index_mut.ensures.value step)

pub invariant_of-self : goal.invariant_of-self
invariant_of-self c =
    let m = machine_of c.self.inside.hands.items c.self.inside.places.items c.self.inside.waiting.items in
    let can : CanGo m c.args.scene.now c.args.words.now c.args.cpu = rw c.self.view_is c.requires in
    let places = ap length c.take.ensures.places ∙ length-places c.next_step-step.result c.deref_mut.result.now ∙ ap length c.deref_mut.ensures.value in
    let same : take c.self.inside.places.len (c.take.new.places ++ drop (length c.take.new.places) c.self.inside.places.items) ≡ c.take.new.places =
    written c.self.inside.places.len c.take.new.places c.self.inside.places.items (omega arith) in
    rw same
    (flags_after m c.args.scene.now c.args.words.now c.args.cpu c.done-done.result c.index.result.now c.index-2.result.now c.in-Some.op c.first.result c.refusal.result can c.index.ensures c.index-2.ensures c.first.ensures c.in-Some.is c.done-done.ensures
    (subst (λ (x : Machine). c.refusal.result ≡ cond (c.done-done.result == 0) (first_refusal x.places x.waiting c.args.scene.now c.in-Some.op) None) (sym c.self.view_is) c.refusal.ensures) c.in_default-refusal.is
    c.self.inside.reserved c.note.new.self c.take.new.places c.advance.new.self c.index_mut-2.result.now c.self.invariant places c.note.ensures c.index_mut-2.ensures.value c.advance.ensures)
