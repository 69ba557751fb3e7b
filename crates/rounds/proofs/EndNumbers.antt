-- What a desk at a place counts is what the meaning's last line says there.
use Rattle.std.proofs.Common.{◌≡◌, ℕ, ◌+◌, ◌≤◌, Bool, cond, List, [], ◌∷◌, length, map, Option, Some, None, length-append, refl, sym, ap, ap₂, ◌∙◌, arith}
use Rattle.std.specs.Prelude.{count_by, sum_by}
use Rattle.std.specs.List.{enumerate_from, flat_map}
use Rattle.std.proofs.lemmas.List.Concat.{length-flat_map}
use Rattle.std.proofs.lemmas.List.Sums.{count_by-le-length, length-filter, sum_by-append, sum_by-cons}
use Rattle.tag_model.specs.declared.state.Held.{Held}
use Rattle.tag_model.specs.Index.{Slot}
use Rattle.module_area.specs.Area.{Area}
use Rattle.module_area.specs.Entries.{is_dead}
use Rattle.module_area.specs.declared.entry.Entry.{Entry}
use Rattle.slab_cache.specs.Slabs.{Slab}
use Rattle.trace.specs.declared.traces.Trace.{Trace}
use Rattle.round_check.specs.Walk.{start}
use Rattle.round_check.specs.declared.walk.Walk.{Walk}
use Rattle.round_keys.specs.Stored.{counted_in}
use Rattle.round_worker.specs.Kept.{live_of}
use Rattle.round_worker.specs.Shown.{WorkerShown}
use Rattle.standing.specs.Standing.{WorkersStand}
use Rattle.tag_rule.specs.Shown.{Board}
use Rattle.trace_play.specs.Live.{Content}
use Rattle.trace_play.specs.Machine.{Machine, content_cell, live_cells, live_count, slab_cell, slab_cells}
use Rattle.tag_model.specs.Reference.{is_counted}
use Rattle.trace_play.specs.Printed.{dead_of}
use Rattle.trace_play.specs.Worker.{Seat}
use Rattle.trace_play.proofs.AloneLemmas.{holds}
use Rattle.trace_play.proofs.CellsFound.{sized_after}
use Rattle.trace_play.proofs.MachineSound.{after_items}
use Rattle.trace_play.proofs.TraceFits.{Between, begins_between, item_between}
use Rattle.trace_cover.proofs.Counts.{front_counts}
use Rattle.trace_cover.proofs.Few.{few_cells}
use Rattle.rounds.specs.Places.{IsThere, Place, machine_at}
use Rattle.rounds.specs.declared.desk.Desk.{Desk}

-- ---- the references of a machine: those of its keys that count, and one for each slab

abbrev counts : Slot × Held → Bool
counts entry = is_counted entry.1

one_slab : (cpu frame : ℕ) (slab : Option Slab) → count_by counts (slab_cell cpu frame slab) ≡ length (slab_cell cpu frame slab)
one_slab cpu frame None = refl
one_slab cpu frame (Some slab) = refl

all_count : {X : Type 0} (cells : X → List (Slot × Held)) → ((x : X) → count_by counts (cells x) ≡ length (cells x)) → (xs : List X) → count_by counts (flat_map cells xs) ≡ length (flat_map cells xs)
all_count cells each [] = refl
all_count cells each (x ∷ xs) =
    sum_by-append (λ (entry : Slot × Held). cond {A = ℕ} (counts entry) 1 0) (cells x) (flat_map cells xs)
    ∙ ap₂ (λ a b. a + b) (each x) (all_count cells each xs)
    ∙ sym (length-append (cells x) (flat_map cells xs))

slabs_count : (seats : List Seat) → count_by counts (flat_map (λ (seat : Seat). slab_cells seat.node) seats) ≡ sum_by (λ (seat : Seat). length (slab_cells seat.node)) seats
slabs_count seats =
    all_count (λ (seat : Seat). slab_cells seat.node)
    (λ seat. all_count (λ (entry : ℕ × Option Slab). slab_cell seat.node.node.cpu entry.0 entry.1) (λ entry. one_slab seat.node.node.cpu entry.0 entry.1) (enumerate_from 0 seat.node.slabs))
    seats
    ∙ length-flat_map (λ (seat : Seat). slab_cells seat.node) seats

parts_of_live : (m : Machine) → live_count m ≡ counted_in m.live + sum_by (λ (seat : Seat). length (slab_cells seat.node)) m.seats
parts_of_live m =
    sum_by-append (λ (entry : Slot × Held). cond {A = ℕ} (counts entry) 1 0) (flat_map (λ (entry : ℕ × Content). content_cell entry.1) m.live) (flat_map (λ (seat : Seat). slab_cells seat.node) m.seats)
    ∙ ap (λ n. counted_in m.live + n) (slabs_count m.seats)

-- ---- over the workers

of_seats : (count : Seat → ℕ) (workers : List WorkerShown) → sum_by count (map (λ (w : WorkerShown). w.seat) workers) ≡ sum_by (λ (w : WorkerShown). count w.seat) workers
of_seats count [] = refl
of_seats count (w ∷ workers) =
    sum_by-cons count w.seat (map (λ (w : WorkerShown). w.seat) workers)
    ∙ ap (λ n. count w.seat + n) (of_seats count workers)
    ∙ sym (sum_by-cons (λ (w : WorkerShown). count w.seat) w workers)

slabs_are : (b : Board) (m : Machine) (workers : List WorkerShown) → WorkersStand b m workers → sum_by (λ (w : WorkerShown). length (slab_cells w.seat.node)) workers ≡ sum_by (λ (seat : Seat). length (slab_cells seat.node)) m.seats
slabs_are b m workers s = sym (of_seats (λ (seat : Seat). length (slab_cells seat.node)) workers) ∙ ap (sum_by (λ (seat : Seat). length (slab_cells seat.node))) s.seats

-- ---- at a place

abbrev IsWalked : Trace → Machine → Type 0
IsWalked trace m = (walk : Walk) × Between trace walk m

module _ (p : Place) (d : Desk) (at : IsThere p d) where
  walked : IsWalked p.trace (machine_at p)
  walked =
      after_items (IsWalked p.trace) p.trace p.top (λ what walk next played fits form passed between so_far. (next, item_between p.trace p.top what walk next played fits form passed between))
      p.formed p.passes p.front p.back p.stands (start, begins_between p.trace)

  few_references : live_count (machine_at p) ≤ 131072
  few_references =
      let m = machine_at p in
      let b = walked.1 in
      let few = few_cells p.trace.cpus p.trace.frames p.trace.vectors walked.0.keys m p.formed.cpus.1 p.formed.frames.1 b.fits.keys b.agree (holds b.rise) (sized_after p.trace p.top p.front) in
      let most = count_by-le-length counts (live_cells m) in
      omega arith

  -- the keys that count and the slabs are the references
  pub live_is : counted_in (live_of d.keys) + sum_by (λ (w : WorkerShown). length (slab_cells w.seat.node)) d.workers.items ≡ live_count (machine_at p)
  live_is =
      let m = machine_at p in
      ap₂ (λ a b. a + b) (ap counted_in at.keys.live) (slabs_are p.board m d.workers.items at.workers) ∙ sym (parts_of_live m)

  pub live_few : counted_in (live_of d.keys) + sum_by (λ (w : WorkerShown). length (slab_cells w.seat.node)) d.workers.items ≤ 131072
  live_few = omega (arith, live_is, few_references)

  pub failed_few : sum_by (λ (w : WorkerShown). w.failed) d.workers.items ≤ 131072
  failed_few = omega (arith, at.workers.failed, (front_counts p.trace p.top p.front p.back p.stands p.formed.lines).0)

  pub uncounted_few : sum_by (λ (w : WorkerShown). w.uncounted) d.workers.items ≤ 131072
  uncounted_few = omega (arith, at.workers.uncounted, (front_counts p.trace p.top p.front p.back p.stands p.formed.lines).1)

  -- the dead entries of the list are the meaning's
  pub kept_is : count_by (λ (e : Entry). is_dead e.state) d.locked.area.entries ≡ length (dead_of (machine_at p))
  kept_is =
      ap (λ (area : Area). count_by (λ (e : Entry). is_dead e.state) area.entries) at.list.area
      ∙ sym (length-filter (λ (e : Entry). is_dead e.state) (machine_at p).area.entries)
