-- What a run begins with is as the meaning's machine before the first line.
use Rattle.std.proofs.Common.{ℕ, ◌≡◌, List, [], ◌∷◌, map, get_or, None, Some, All, refl, sym, ap, ◌∙◌, subst}
use Rattle.std.specs.Prelude.{sum_by}
use Rattle.std.specs.List.{range_with_len}
use Rattle.std.proofs.lemmas.List.Elements.{All-map}
use Rattle.std.proofs.lemmas.List.FromFn.{length-map-range_with_len}
use Rattle.tag_model.specs.declared.shape.Shape.{Shape}
use Rattle.tag_rule.specs.Fresh.{fresh_cpu}
use Rattle.tag_rule.specs.Made.{fresh_seats}
use Rattle.tag_rule.specs.Shown.{Board, CpuShown}
use Rattle.plant.specs.Fresh.{FitsShape, fresh_worker, fresh_workers}
use Rattle.plant.proofs.WorkerLemmas.{seats_are}
use Rattle.round_modules.specs.Inside.{outside}
use Rattle.round_worker.specs.Shown.{WorkerShown}
use Rattle.standing.specs.Standing.{CpusStand, KeysStand, WorkersStand, standing_cpu}
use Rattle.trace.specs.declared.traces.Trace.{Trace}
use Rattle.trace_play.specs.Machine.{fresh_seat, machine_of}

every : {X : Type 0} (P : X → Type 0) (f : ℕ → X) → ((n : ℕ) → P (f n)) → (xs : List ℕ) → All P (map f xs)
every P f h xs = All-map P f xs (λ k d low. h (get_or xs k d))

module _ (b : Board) (trace : Trace) where
  all_outside : (xs : List ℕ) → map outside (map (λ n. record { board = b; part = fresh_cpu b.shape n }) xs) ≡ map (standing_cpu b (machine_of trace)) xs
  all_outside [] = refl
  all_outside (n ∷ ns) = ap (λ rest. standing_cpu b (machine_of trace) n ∷ rest) (all_outside ns)

  pub cpus_begin : CpusStand b (machine_of trace) (fresh_seats b)
  cpus_begin = all_outside (range_with_len 0 b.shape.cpus)

  pub none_inside : All (λ (c : CpuShown). c.part.runs ≡ []) (fresh_seats b)
  none_inside = every (λ (c : CpuShown). c.part.runs ≡ []) (λ n. record { board = b; part = fresh_cpu b.shape n }) (λ n. refl) (range_with_len 0 b.shape.cpus)

  numbers_are : (xs : List ℕ) → map (λ (w : WorkerShown). w.cpu) (map (fresh_worker b trace.frames trace.vectors) xs) ≡ xs
  numbers_are [] = refl
  numbers_are (n ∷ ns) = ap (λ rest. n ∷ rest) (numbers_are ns)

  no_failed : (xs : List ℕ) → sum_by (λ (w : WorkerShown). w.failed) (map (fresh_worker b trace.frames trace.vectors) xs) ≡ 0
  no_failed [] = refl
  no_failed (n ∷ ns) = no_failed ns

  none_uncounted : (xs : List ℕ) → sum_by (λ (w : WorkerShown). w.uncounted) (map (fresh_worker b trace.frames trace.vectors) xs) ≡ 0
  none_uncounted [] = refl
  none_uncounted (n ∷ ns) = none_uncounted ns

  pub workers_begin : WorkersStand b (machine_of trace) (fresh_workers b trace.frames trace.vectors trace.cpus)
  workers_begin =
      let range = range_with_len 0 trace.cpus in
      record {
        seats = seats_are b trace.frames trace.vectors range;
        boards = every (λ (w : WorkerShown). w.board ≡ b) (fresh_worker b trace.frames trace.vectors) (λ n. refl) range;
        numbers = numbers_are range ∙ ap (range_with_len 0) (sym (length-map-range_with_len (fresh_seat trace.frames trace.vectors) 0 trace.cpus));
        failed = no_failed range;
        uncounted = none_uncounted range;
      }

  pub none_live : All (λ (w : WorkerShown). w.live ≡ []) (fresh_workers b trace.frames trace.vectors trace.cpus)
  none_live = every (λ (w : WorkerShown). w.live ≡ []) (fresh_worker b trace.frames trace.vectors) (λ n. refl) (range_with_len 0 trace.cpus)

  pub keys_begin : KeysStand b (machine_of trace) []
  keys_begin = record { live = refl; kept = λ key kept at. absurd (nothing at) }
    where
      nothing : {X : Type 0} {x : X} → None ≡ Some x → ⊥
      nothing e = cc

pub same_shape : (j k : Shape) (trace : Trace) → j ≡ k → FitsShape k trace → FitsShape j trace
same_shape j k trace same fits = subst (λ (x : Shape). FitsShape x trace) (sym same) fits
