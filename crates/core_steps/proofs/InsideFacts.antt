-- The runs that stand in a CPU's slots, one slot for each section: a run that is put into a slot or taken out of it, among the others.
use Rattle.std.proofs.Common.{◌≡◌, ℕ, zero, suc, ◌<◌, List, [], ◌∷◌, ◌++◌, length, get_or, set, refl, sym, ap, subst, arith, Option, Some, None, Contains}
use Rattle.std.proofs.lemmas.List.Elements.{Contains-append_right}
use Rattle.std.proofs.lemmas.Option.{none-some, same_Some}
use Rattle.tag_model.specs.declared.state.Run.{Run}
use Rattle.cpu_ops.specs.Machine.{run_at}
use Rattle.core_steps.specs.CoreState.{runs_in}

-- the runs without one, and with it
pub record Beside (without : List (Option Run)) (r : Run) (with : List (Option Run)) : Type 0 where
  pub front : List Run
  pub back : List Run
  pub others : runs_in without ≡ front ++ back
  pub all : runs_in with ≡ front ++ r ∷ back

next_none : (without : List (Option Run)) (r : Run) (with : List (Option Run)) → Beside without r with → Beside (None ∷ without) r (None ∷ with)
next_none without r with b = record { front = b.front; back = b.back; others = b.others; all = b.all }

next_some : (x : Run) (without : List (Option Run)) (r : Run) (with : List (Option Run)) → Beside without r with → Beside (Some x ∷ without) r (Some x ∷ with)
next_some x without r with b = record { front = x ∷ b.front; back = b.back; others = ap (λ (rs : List Run). x ∷ rs) b.others; all = ap (λ (rs : List Run). x ∷ rs) b.all }

-- a run is put into a slot that has none
pub put_in : (inside : List (Option Run)) (section : ℕ) (r : Run) → section < length inside → run_at inside section ≡ None → Beside inside r (set inside section (Some r))
put_in [] section r h e = absurd (omega arith)
put_in (None ∷ inside) zero r h e = record { front = []; back = runs_in inside; others = refl; all = refl }
put_in (Some x ∷ inside) zero r h e = absurd (none-some x (sym e))
put_in (None ∷ inside) (suc section) r h e = next_none _ r _ (put_in inside section r (omega arith) e)
put_in (Some x ∷ inside) (suc section) r h e = next_some x _ r _ (put_in inside section r (omega arith) e)

-- a run is taken out of its slot
pub taken_out : (inside : List (Option Run)) (section : ℕ) (r : Run) → run_at inside section ≡ Some r → Beside (set inside section None) r inside
taken_out [] section r e = absurd (none-some r e)
taken_out (None ∷ inside) zero r e = absurd (none-some r e)
taken_out (Some x ∷ inside) zero r e = record { front = []; back = runs_in inside; others = refl; all = ap (λ (y : Run). y ∷ runs_in inside) (same_Some x r e) }
taken_out (None ∷ inside) (suc section) r e = next_none _ r _ (taken_out inside section r e)
taken_out (Some x ∷ inside) (suc section) r e = next_some x _ r _ (taken_out inside section r e)

-- the slot of a run
pub record StandsAt (inside : List (Option Run)) (r : Run) : Type 0 where
  pub section : ℕ
  pub below : section < length inside
  pub is : run_at inside section ≡ Some r

next_slot : (o : Option Run) (inside : List (Option Run)) (r : Run) → StandsAt inside r → StandsAt (o ∷ inside) r
next_slot o inside r s = record { section = suc s.section; below = omega (arith, s.below); is = s.is }

slot_of : (inside : List (Option Run)) (k : ℕ) (r : Run) → k < length (runs_in inside) → get_or (runs_in inside) k r ≡ r → StandsAt inside r
slot_of [] k r h e = absurd (omega arith)
slot_of (None ∷ inside) k r h e = next_slot None inside r (slot_of inside k r h e)
slot_of (Some x ∷ inside) zero r h e = record { section = 0; below = omega arith; is = ap (λ (y : Run). Some y) e }
slot_of (Some x ∷ inside) (suc k) r h e = next_slot (Some x) inside r (slot_of inside k r (omega arith) e)

-- each run of a CPU stands in a slot
pub stands_at : (inside : List (Option Run)) (front : List Run) (r : Run) (back : List Run) → runs_in inside ≡ front ++ r ∷ back → StandsAt inside r
stands_at inside front r back is =
    let c : Contains (runs_in inside) r = subst (λ (rs : List Run). Contains rs r) (sym is) (Contains-append_right front (r ∷ back) r (0, omega arith, refl)) in
    slot_of inside c.0 r c.1 c.2

-- the CPU is inside the section's module
pub record IsInside (inside : List (Option Run)) (section : ℕ) : Type 0 where
  pub run : Run
  pub is : run_at inside section ≡ Some run
