-- A worker of fresh pools has what the meaning's CPU has before the first line.
use Rattle.std.proofs.Common.{◌≡◌, ◌≤◌, ℕ, zero, suc, false, List, [], ◌∷◌, Option, Some, None, Result, Ok, Err, IfOk, arith, ap, length, map, refl, replicate, take, ◌∙◌}
use Rattle.std.specs.Prelude.{option_map}
use Rattle.tag_rule.specs.Shown.{Board, PoolShown}
use Rattle.slab_cache.specs.Shown.{SlabNodeShown, SlabShown}
use Rattle.slab_cache.specs.Slabs.{Slab}
use Rattle.trace_play.specs.Machine.{fresh_seat}
use Rattle.trace_play.specs.Worker.{Seat}
use Rattle.round_worker.specs.Shown.{WorkerShown}
use Rattle.round_worker.specs.Working.{shown}
use Rattle.plant.specs.Fresh.{fresh_worker}
use Rattle.plant.proofs.PoolLemmas.{all_in, none_still}

length_first : (count : ℕ) (pools : List PoolShown) → count ≤ length pools → length (take count pools) ≡ count
length_first zero pools few = refl
length_first (suc count) [] few = absurd (omega (arith, few))
length_first (suc count) (p ∷ pools) few = ap suc (length_first count pools (omega (arith, few)))

length_same : (count : ℕ) → length (replicate count false) ≡ count
length_same zero = refl
length_same (suc count) = ap suc (length_same count)

-- the node with all frames free, all vectors in and no slab
abbrev pub made : Board → ℕ → ℕ → ℕ → List PoolShown → SlabNodeShown
made b cpu frames vectors pools = record {
  node = record { board = b; node = record { cpu = cpu; frames = replicate frames false } };
  vectors = record { cpu = cpu; pools = map (λ (p : PoolShown). Some p) (take vectors pools) };
  slabs = replicate (length (replicate frames false)) None;
}

abbrev no_slabs : ℕ → List (Option Slab)
no_slabs n = replicate n None

pub is_fresh : (b : Board) (cpu frames vectors : ℕ) (pools : List PoolShown) → vectors ≤ length pools → shown (made b cpu frames vectors pools) [] [] [] [] 0 0 ≡ fresh_worker b frames vectors cpu
is_fresh b cpu frames vectors pools enough =
    let slabs = none_still (option_map (λ (s : SlabShown). s.slab)) refl (length (replicate frames false)) ∙ ap no_slabs (length_same frames) in
    let inside = all_in (take vectors pools) ∙ ap (λ (n : ℕ). replicate n false) (length_first vectors pools enough) in
    λ i. record {
      board = b;
      cpu = cpu;
      seat = record { node = record { node = record { cpu = cpu; frames = replicate frames false }; slabs = slabs i; vectors = inside i }; hooks = []; returning = [] };
      live = [];
      entries = [];
      failed = 0;
      uncounted = 0;
    }

-- ---- workers of all CPUs

pub seats_are : (b : Board) (frames vectors : ℕ) (numbers : List ℕ) → map (λ (w : WorkerShown). w.seat) (map (fresh_worker b frames vectors) numbers) ≡ map (fresh_seat frames vectors) numbers
seats_are b frames vectors [] = refl
seats_are b frames vectors (cpu ∷ numbers) = ap (λ (rest : List Seat). fresh_seat frames vectors cpu ∷ rest) (seats_are b frames vectors numbers)

pub on_ok : {X E : Type 0} {P Q : X → Type 0} (r : Result X E) → ((x : X) → P x → Q x) → IfOk r P → IfOk r Q
on_ok (Ok x) f p = f x p
on_ok (Err e) f p = tt
