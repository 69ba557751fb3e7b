-- What a step of a CPU needs, from what holds before it.
use Rattle.std.proofs.Common.{◌≡◌, ℕ, ◌<◌, ◌==◌, cond, List, [], ◌∷◌, ◌++◌, take, drop, length, slice_get, get_or, set, refl, sym, ap, ◌∙◌, subst, arith, Option, Some, None, Bool}
use Rattle.std.proofs.lemmas.Option.{none-some, same_Some}
use Rattle.std.proofs.Math.Seq.{take-append_seam}
use Rattle.std.proofs.lemmas.List.{length-set, get_or_default}
use Rattle.tag_model.specs.declared.state.Held.{Held}
use Rattle.tag_model.specs.declared.state.Hand.{Hand}
use Rattle.cpu_ops.specs.declared.refused.StepRefused.{StepRefused}
use Rattle.cpu_ops.specs.Reserved.{AreReserved, Notes}
use Rattle.cpu_ops.proofs.Flags.{reserved_after}
use Rattle.cpu_ops.specs.declared.op.CpuOp.{CpuOp}
use Rattle.cpu_ops.specs.declared.step.WordStep.{WordStep}
use Rattle.cpu_ops.specs.declared.step.WordStep.TheVariants.{BeginAllocation, AddBytes, AddCall, SubtractBytes, SubtractCall, Write, GoIn, GoOut}
use Rattle.cpu_ops.specs.Machine.{Machine, Scene, Waiting, nothing_waits, advanced, waiting_at, hand_at, step_of, step_count, first_refusal, places_after}
use Rattle.cpu_ops.specs.Needs.{KeysFit, CanTake, CanStep, CanGo}

-- what waits, where there is a first op
pub record First (w : Waiting) (op : CpuOp) : Type 0 where
  pub ops : List CpuOp
  pub is : w ≡ record { ops = op ∷ ops; done = w.done }

pub first_of : (w : Waiting) (op : CpuOp) → slice_get w.ops 0 ≡ Some op → First w op
first_of w op is = go w.ops refl is
  where
    go : (ops : List CpuOp) → w.ops ≡ ops → slice_get ops 0 ≡ Some op → First w op
    go [] e found = absurd (none-some op found)
    go (x ∷ ops) e found =
        let same : x ≡ op = same_Some x op found in
        record { ops = ops; is = ap (λ (all : List CpuOp). record { ops = all; done = w.done }) (e ∙ ap (λ (y : CpuOp). y ∷ ops) same) }

-- a step that isn't refused can be taken
pub record Takes (m : Machine) (scene : Scene) (own : List ℕ) (cpu : ℕ) (op : CpuOp) (done : ℕ) : Type 0 where
  pub keys : KeysFit op
  pub within : done < step_count op
  pub take : CanTake (step_of op done (hand_at m cpu) m.places scene.inside) (hand_at m cpu) (length own) (length m.places)

pub takes : (m : Machine) (scene : Scene) (own : List ℕ) (cpu : ℕ) (op : CpuOp) → CanGo m scene own cpu → First (waiting_at m cpu) op
    → cond ((waiting_at m cpu).done == 0) (first_refusal m.places m.waiting scene op) None ≡ None → Takes m scene own cpu op (waiting_at m cpu).done
takes m scene own cpu op can f free =
    let step : CanStep m scene own cpu (op ∷ f.ops) (waiting_at m cpu).done = subst (λ (w : Waiting). CanStep m scene own cpu w.ops w.done) f.is can.step in
    record { keys = step.0; within = step.1; take = (step.4 free).0 }

pub length-places : (step : WordStep) (places : List Held) → length (places_after step places) ≡ length places
length-places (BeginAllocation tag) places = refl
length-places (AddBytes size) places = refl
length-places AddCall places = refl
length-places (SubtractBytes bytes) places = refl
length-places SubtractCall places = refl
length-places (Write key held next) places = length-set places key held
length-places (GoIn section) places = refl
length-places (GoOut section) places = refl

-- what the code has read of the machine, before it takes a step that isn't refused
module _ (m : Machine) (scene : Scene) (own : List ℕ) (cpu done : ℕ) (w v : Waiting) (op : CpuOp) (found : Option CpuOp) (why : Option StepRefused) (can : CanGo m scene own cpu) (w_is : w ≡ get_or m.waiting cpu w) (v_is : v ≡ get_or m.waiting cpu v)
    (f_is : found ≡ slice_get w.ops 0) (is : found ≡ Some op) (done_is : done ≡ v.done) (why_is : why ≡ cond (done == 0) (first_refusal m.places m.waiting scene op) None) (none : why ≡ None) where
  pub same_done : done ≡ (waiting_at m cpu).done
  same_done = done_is ∙ ap (λ (x : Waiting). x.done) (v_is ∙ get_or_default m.waiting cpu v nothing_waits can.below)

  first_here : First (waiting_at m cpu) op
  first_here = first_of (waiting_at m cpu) op (ap (λ (x : Waiting). slice_get x.ops 0) (sym (w_is ∙ get_or_default m.waiting cpu w nothing_waits can.below)) ∙ sym f_is ∙ is)

  pub waits_here : (ops : List CpuOp) × (waiting_at m cpu ≡ record { ops = op ∷ ops; done = done })
  waits_here = let f = first_here in (f.ops, f.is ∙ ap (λ (d : ℕ). record { ops = op ∷ f.ops; done = d }) (sym same_done))

  pub takes_now : Takes m scene own cpu op done
  takes_now = subst (λ d. Takes m scene own cpu op d) (sym same_done) (takes m scene own cpu op can first_here (subst (λ (d : ℕ). cond (d == 0) (first_refusal m.places m.waiting scene op) None ≡ None) same_done (sym why_is ∙ none)))

  pub step_takes : (step : WordStep) (hand other : Option Hand) → hand ≡ get_or m.hands cpu hand → other ≡ get_or m.hands cpu other → step ≡ step_of op done hand m.places scene.inside → CanTake step other (length own) (length m.places)
  step_takes step hand other h o s =
      let hand_is : hand ≡ hand_at m cpu = h ∙ get_or_default m.hands cpu hand None (omega (arith, can.hands, can.below)) in
      let other_is : other ≡ hand_at m cpu = o ∙ get_or_default m.hands cpu other None (omega (arith, can.hands, can.below)) in
      rw (s, hand_is, other_is) takes_now.take

  pub flags_after : (flags next : List Bool) (places : List Held) (waits before : Waiting) → AreReserved flags m.places m.waiting → length places ≡ length m.places → Notes op done flags next
      → before ≡ get_or m.waiting cpu before → waits ≡ advanced before.ops before.done → AreReserved next places (set m.waiting cpu waits)
  flags_after flags next places waits before all len notes b_is adv =
      let at = waits_here in
      let before_is : before ≡ record { ops = op ∷ at.0; done = done } = b_is ∙ get_or_default m.waiting cpu before nothing_waits can.below ∙ at.1 in
      let waits_is : waits ≡ advanced (op ∷ at.0) done = adv ∙ ap (λ (x : Waiting). advanced x.ops x.done) before_is in
      rw waits_is (reserved_after flags next m.places places m.waiting cpu done op at.0 all can.below at.1 takes_now.keys takes_now.within
      (λ other key l ne mine yours. can.apart other key l ne mine yours) len notes)

-- a slice that is written whole
pub written : {A : Type 0} → (n : ℕ) (new items : List A) → length new ≡ n → take n (new ++ drop (length new) items) ≡ new
written n new items len = subst (λ (k : ℕ). take k (new ++ drop (length new) items) ≡ new) len (take-append_seam new (drop (length new) items))
