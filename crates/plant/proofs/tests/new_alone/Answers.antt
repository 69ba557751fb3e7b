use Rattle.std.proofs.Common.{◌≡◌, ◌<◌, ℕ, List, arith, ap, length, refl, subst, sym, ◌∙◌}
use Rattle.std.specs.Prelude.{slice_index_or}
use Rattle.std.proofs.lemmas.List.FromFn.{get_or-map-range_with_len, length-map-range_with_len}
use Rattle.tag_model.specs.declared.shape.Shape.{Shape}
use Rattle.tag_rule.specs.Fresh.{fresh_cpu}
use Rattle.tag_rule.specs.Made.{fresh_seats}
use Rattle.tag_rule.specs.Shown.{Board, CpuShown}
use Rattle.round_worker.specs.Shown.{Ready, WorkerShown}
use Rattle.plant.specs.Fresh.{fresh_worker, fresh_workers}
use Rattle.plant.specs.Table.{PlantShown}
use Rattle.plant.proofs.tests.new_alone.Goals as goal

module _ (b : Board) (frames vectors : ℕ) where
  worker_count : (count : ℕ) (ws : List WorkerShown) → ws ≡ fresh_workers b frames vectors count → length ws ≡ count
  worker_count count ws are = ap (λ (xs : List WorkerShown). length xs) are ∙ length-map-range_with_len (fresh_worker b frames vectors) 0 count

  first_worker : (count : ℕ) (ws : List WorkerShown) (w : WorkerShown) → 0 < count → ws ≡ fresh_workers b frames vectors count → w ≡ slice_index_or ws 0 w → w ≡ fresh_worker b frames vectors 0
  first_worker count ws w some are is =
      is ∙ ap (λ (xs : List WorkerShown). slice_index_or xs 0 w) are ∙ get_or-map-range_with_len (fresh_worker b frames vectors) 0 count 0 0 w some refl

  first_cpu : (cpus : List CpuShown) (c : CpuShown) → 0 < b.shape.cpus → cpus ≡ fresh_seats b → c ≡ slice_index_or cpus 0 c → c ≡ record { board = b; part = fresh_cpu b.shape 0 }
  first_cpu cpus c some are is =
      is ∙ ap (λ (xs : List CpuShown). slice_index_or xs 0 c) are ∙ get_or-map-range_with_len (λ n. record { board = b; part = fresh_cpu b.shape n }) 0 b.shape.cpus 0 0 c some refl

  -- they belong together
  are_ready : (w : WorkerShown) (c : CpuShown) → w ≡ fresh_worker b frames vectors 0 → c ≡ record { board = b; part = fresh_cpu b.shape 0 } → Ready w c
  are_ready w c worker cpu =
      let own : Ready (fresh_worker b frames vectors 0) (record { board = b; part = fresh_cpu b.shape 0 }) = record { table = refl; own = refl; hand = refl; allowed = refl } in
      subst (λ (x : WorkerShown). Ready x c) (sym worker) (subst (λ (x : CpuShown). Ready (fresh_worker b frames vectors 0) x) (sym cpu) own)

pub remove-worker-requires : goal.remove-worker-requires
remove-worker-requires c =
    let s = c.in_ok-cpus.ensures.started in
    let t = c.in_ok-trace.trace in
    let long = worker_count s.board t.frames t.vectors t.cpus c.in_ok-cpus.field-0.workers.items s.workers in
    omega (arith, long, c.in_ok-trace.ensures.formed.cpus.0, c.in_ok-cpus.field-0.workers.ok.0)

pub invariant_of-result : goal.invariant_of-result
invariant_of-result c =
    let s = c.in_ok-cpus.ensures.started in
    let t = c.in_ok-trace.trace in
    let some : 0 < s.board.shape.cpus =
    omega (arith, ap (λ (k : Shape). k.cpus) s.shape, ap (λ (p : PlantShown). p.shape.cpus) c.in_ok-plant.ensures.is, c.program.ensures.checked.some_cpu) in
    let worker = first_worker s.board t.frames t.vectors t.cpus c.in_ok-cpus.field-0.workers.items c.remove-worker.result c.in_ok-trace.ensures.formed.cpus.0 s.workers c.remove-worker.ensures.value in
    let cpu = first_cpu s.board t.frames t.vectors c.in_ok-cpus.field-0.cpus.items c.remove-cpu.result some s.cpus c.remove-cpu.ensures.value in
    record {
      ready = are_ready s.board t.frames t.vectors c.remove-worker.result c.remove-cpu.result worker cpu;
      none = (ap (λ (w : WorkerShown). w.failed) worker, ap (λ (w : WorkerShown). w.uncounted) worker);
    }
