use Rattle.std.proofs.Common.{◌≡◌, ◌/◌, ◌==◌, ◌∙◌, Bool, Global, List, Vec, arith, length, sym, true, vec_len}
use Rattle.std.specs.List.{list_all}
use Rattle.trace.specs.declared.traces.OnOp.{OnOp}
use Rattle.round_worker.proofs.KeptLemmas.{on_ok}
use Rattle.round_worker.proofs.Splits.{on_both}
use Rattle.lanes.proofs.LaneLemmas.{as_many, back_is_ready, front_is_ready, halves_done, none_done, one_done}
use Rattle.lanes.proofs.running.+side_by_side.Goals as goal

abbrev Ops : Type 0
Ops = Vec OnOp Global

abbrev items : Ops → List OnOp
items lane = lane.items

abbrev is_idle : Ops → Bool
is_idle lane = vec_len lane == 0

empty : (lane : Ops) → is_idle lane ≡ true → length (items lane) ≡ 0
empty lane none = grind (arith, none)

pub run_lanes-returns-then-are_idle : goal.run_lanes-returns-then-are_idle
run_lanes-returns-then-are_idle g t c =
    let idle : list_all is_idle c.args.ops.now ≡ true = sym c.are_idle.ensures ∙ c.if-are_idle.true in
    record { done = none_done items is_idle empty _ _ _ idle c.requires.ready }

pub run_lanes-returns-then-ops-lt2 : goal.run_lanes-returns-then-ops-lt2
run_lanes-returns-then-ops-lt2 g t c = record {
  done = on_ok c.run_lane.result
      (one_done items c.args.ops.now c.args.workers.now c.args.cpus.now c.index-ops-0.result c.index-workers-0.result c.run_lane.new.worker c.index-cpus-0.result c.run_lane.new.cpu
      c.if-ops-lt2.true c.index-ops-0.is c.requires.ready)
      c.run_lane.ensures.done;
}

pub run_lanes-split_at_mut-low-requires : goal.run_lanes-split_at_mut-low-requires
run_lanes-split_at_mut-low-requires g t c =
    let many = as_many items c.args.ops.now _ _ c.requires.ready in
    omega (arith, many.as_workers)

pub run_lanes-split_at_mut-low_cpus-requires : goal.run_lanes-split_at_mut-low_cpus-requires
run_lanes-split_at_mut-low_cpus-requires g t c =
    let many = as_many items c.args.ops.now _ _ c.requires.ready in
    omega (arith, many.as_cpus)

pub run_lanes-run_lanes-requires-clause-ready : goal.run_lanes-run_lanes-requires-clause-ready
run_lanes-run_lanes-requires-clause-ready g t c κs within =
    back_is_ready items (length c.args.ops.now / 2) c.args.ops.now _ c.args.workers.now _ c.args.cpus.now _ c.split_at.ensures.back c.split_at_mut-low.ensures.back c.split_at_mut-low_cpus.ensures.back c.requires.ready

pub run_lanes-returns-then-are_idle-2 : goal.run_lanes-returns-then-are_idle-2
run_lanes-returns-then-are_idle-2 g t c =
    let low =
    front_is_ready items (length c.args.ops.now / 2) c.args.ops.now _ c.args.workers.now _ c.args.cpus.now _ c.split_at.ensures.front c.split_at_mut-low.ensures.front c.split_at_mut-low_cpus.ensures.front c.requires.ready in
    let idle : list_all is_idle c.split_at.result.0.now ≡ true = sym c.are_idle-2.ensures ∙ c.if-are_idle-2.true in
    record {
      done = on_ok c.run_lanes.result
          (halves_done items c.args.ops.now c.split_at.result.0.now c.split_at.result.1.now c.args.workers.now _ _ _ _ c.args.cpus.now _ _ _ _
          c.split_at.ensures.by_index.0 c.split_at_mut-low.ensures.value c.split_at_mut-low_cpus.ensures.value (none_done items is_idle empty _ _ _ idle low))
          c.run_lanes.ensures.done;
    }

pub run_lanes-run_lanes-requires-then-are_idle-3-clause-ready : goal.run_lanes-run_lanes-requires-then-are_idle-3-clause-ready
run_lanes-run_lanes-requires-then-are_idle-3-clause-ready g t c κs within =
    front_is_ready items (length c.args.ops.now / 2) c.args.ops.now _ c.args.workers.now _ c.args.cpus.now _ c.split_at.ensures.front c.split_at_mut-low.ensures.front c.split_at_mut-low_cpus.ensures.front c.requires.ready

pub run_lanes-returns-then-are_idle-3 : goal.run_lanes-returns-then-are_idle-3
run_lanes-returns-then-are_idle-3 g t c =
    let high =
    back_is_ready items (length c.args.ops.now / 2) c.args.ops.now _ c.args.workers.now _ c.args.cpus.now _ c.split_at.ensures.back c.split_at_mut-low.ensures.back c.split_at_mut-low_cpus.ensures.back c.requires.ready in
    let idle : list_all is_idle c.split_at.result.1.now ≡ true = sym c.are_idle-3.ensures ∙ c.if-are_idle-3.true in
    record {
      done = on_ok c.run_lanes-then-are_idle-3.result
          (λ low. halves_done items c.args.ops.now c.split_at.result.0.now c.split_at.result.1.now c.args.workers.now _ _ _ _ c.args.cpus.now _ _ _ _
          c.split_at.ensures.by_index.0 c.split_at_mut-low.ensures.value c.split_at_mut-low_cpus.ensures.value low (none_done items is_idle empty _ _ _ idle high))
          c.run_lanes-then-are_idle-3.ensures.done;
    }

pub run_lanes-join_halves-requires-clause-low : goal.run_lanes-join_halves-requires-clause-low
run_lanes-join_halves-requires-clause-low g t c κs within =
    front_is_ready items (length c.args.ops.now / 2) c.args.ops.now _ c.args.workers.now _ c.args.cpus.now _ c.split_at.ensures.front c.split_at_mut-low.ensures.front c.split_at_mut-low_cpus.ensures.front c.requires.ready

pub run_lanes-join_halves-requires-clause-high : goal.run_lanes-join_halves-requires-clause-high
run_lanes-join_halves-requires-clause-high g t c κs within =
    back_is_ready items (length c.args.ops.now / 2) c.args.ops.now _ c.args.workers.now _ c.args.cpus.now _ c.split_at.ensures.back c.split_at_mut-low.ensures.back c.split_at_mut-low_cpus.ensures.back c.requires.ready

pub run_lanes-returns : goal.run_lanes-returns
run_lanes-returns g t c = record {
  done = on_both c.join_halves.result
      (halves_done items c.args.ops.now c.split_at.result.0.now c.split_at.result.1.now c.args.workers.now _ _ _ _ c.args.cpus.now _ _ _ _
      c.split_at.ensures.by_index.0 c.split_at_mut-low.ensures.value c.split_at_mut-low_cpus.ensures.value)
      c.join_halves.ensures.low c.join_halves.ensures.high;
}
