use Rattle.std.proofs.Common.{◌≡◌, ℕ, ◌+◌, ◌-◌, length}
use Rattle.round_keys.specs.Pages.{IsPage, slot_at}
use Rattle.round_keys.proofs.pages.grow_slots.Given as goal

abbrev pub invariant-loop-slots : goal.invariant-loop-slots
invariant-loop-slots l = record {
  same : (other : ℕ) → slot_at l.slots.items other ≡ slot_at l.initial.slots.items other;
  page : IsPage l.initial.slots.items → IsPage l.slots.items;
}

abbrev pub decreases-loop-slots : goal.decreases-loop-slots
decreases-loop-slots l = (l.place + 1) - length l.slots.items
