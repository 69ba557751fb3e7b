use Rattle.std.proofs.Common.{◌≤◌, ◌<◌, Global, List, Vec, ap, arith, subst, sym, ◌∙◌}
use Rattle.tag_model.specs.declared.shape.Shape.{Shape}
use Rattle.tag_rule.specs.Made.{fresh_vectors}
use Rattle.tag_rule.specs.Shown.{Board, PoolShown}
use Rattle.tag_rule.specs.Made.{pages_of}
use Rattle.plant.proofs.Dealing.{page_out, some_pages, vectors_out, workers_more}
use Rattle.plant.proofs.starting.make_workers.Goals as goal

abbrev items : Vec PoolShown Global → List PoolShown
items v = v.items

pub remove-requires : goal.remove-requires
remove-requires c =
    let below : c.loop-cpu.cpu < c.args.shape.cpus = omega (arith, c.loop-cpu-test.true, c.requires.fits.cpus) in
    let some = some_pages c.args.list.now.board c.loop-cpu.cpu c.args.shape.cpus below c.loop-cpu.pages.items c.loop-cpu.invariant.pages in
    omega (arith, some, c.loop-cpu.pages.ok.0)

pub make_worker-requires-clause-one : goal.make_worker-requires-clause-one
make_worker-requires-clause-one c =
    let below : c.loop-cpu.cpu < c.args.shape.cpus = omega (arith, c.loop-cpu-test.true, c.requires.fits.cpus) in
    let out = page_out c.args.list.now.board c.loop-cpu.cpu c.args.shape.cpus below c.loop-cpu.pages.items c.remove.new.self.items c.remove.result c.loop-cpu.invariant.pages c.remove.ensures.value c.remove.ensures.by_index.2 in
    subst (λ (b : Board). c.loop-cpu.cpu < b.shape.cpus) (sym (ap (λ (p : PoolShown). p.board) out.is)) (subst (λ (k : Shape). c.loop-cpu.cpu < k.cpus) (sym c.requires.shape) below)

pub make_worker-requires-clause-frames : goal.make_worker-requires-clause-frames
make_worker-requires-clause-frames c =
    let below : c.loop-cpu.cpu < c.args.shape.cpus = omega (arith, c.loop-cpu-test.true, c.requires.fits.cpus) in
    let out = page_out c.args.list.now.board c.loop-cpu.cpu c.args.shape.cpus below c.loop-cpu.pages.items c.remove.new.self.items c.remove.result c.loop-cpu.invariant.pages c.remove.ensures.value c.remove.ensures.by_index.2 in
    subst (λ (b : Board). c.args.trace.now.frames ≤ b.shape.frames) (sym (ap (λ (p : PoolShown). p.board) out.is)) (subst (λ (k : Shape). c.args.trace.now.frames ≤ k.frames) (sym c.requires.shape) c.requires.fits.frames)

pub make_worker-requires-clause-vectors : goal.make_worker-requires-clause-vectors
make_worker-requires-clause-vectors c =
    let below : c.loop-cpu.cpu < c.args.shape.cpus = omega (arith, c.loop-cpu-test.true, c.requires.fits.cpus) in
    let out = page_out c.args.list.now.board c.loop-cpu.cpu c.args.shape.cpus below c.loop-cpu.pages.items c.remove.new.self.items c.remove.result c.loop-cpu.invariant.pages c.remove.ensures.value c.remove.ensures.by_index.2 in
    subst (λ (b : Board). c.args.trace.now.vectors ≤ b.shape.vectors) (sym (ap (λ (p : PoolShown). p.board) out.is)) (subst (λ (k : Shape). c.args.trace.now.vectors ≤ k.vectors) (sym c.requires.shape) c.requires.fits.vectors)

pub make_worker-requires-clause-pages : goal.make_worker-requires-clause-pages
make_worker-requires-clause-pages c =
    let below : c.loop-cpu.cpu < c.args.shape.cpus = omega (arith, c.loop-cpu-test.true, c.requires.fits.cpus) in
    let out = page_out c.args.list.now.board c.loop-cpu.cpu c.args.shape.cpus below c.loop-cpu.pages.items c.remove.new.self.items c.remove.result c.loop-cpu.invariant.pages c.remove.ensures.value c.remove.ensures.by_index.2 in
    out.is ∙ sym (ap (λ (p : PoolShown). pages_of p.board c.loop-cpu.cpu) out.is)

pub make_worker-requires-clause-pools : goal.make_worker-requires-clause-pools
make_worker-requires-clause-pools c =
    let below : c.loop-cpu.cpu < c.args.shape.cpus = omega (arith, c.loop-cpu-test.true, c.requires.fits.cpus) in
    let out = page_out c.args.list.now.board c.loop-cpu.cpu c.args.shape.cpus below c.loop-cpu.pages.items c.remove.new.self.items c.remove.result c.loop-cpu.invariant.pages c.remove.ensures.value c.remove.ensures.by_index.2 in
    let pools = vectors_out c.args.list.now.board c.loop-cpu.cpu c.args.shape.cpus below items c.loop-cpu.vectors.items c.remove-in-loop-cpu.new.self.items c.remove-in-loop-cpu.result c.loop-cpu.invariant.vectors c.remove-in-loop-cpu.ensures.value c.remove-in-loop-cpu.ensures.by_index.2 in
    pools.is ∙ sym (ap (λ (p : PoolShown). fresh_vectors p.board c.loop-cpu.cpu) out.is)

pub loop-cpu-preserved : goal.loop-cpu-preserved
loop-cpu-preserved c =
    let below : c.loop-cpu.cpu < c.args.shape.cpus = omega (arith, c.loop-cpu-test.true, c.requires.fits.cpus) in
    let out = page_out c.args.list.now.board c.loop-cpu.cpu c.args.shape.cpus below c.loop-cpu.pages.items c.remove.new.self.items c.remove.result c.loop-cpu.invariant.pages c.remove.ensures.value c.remove.ensures.by_index.2 in
    let pools = vectors_out c.args.list.now.board c.loop-cpu.cpu c.args.shape.cpus below items c.loop-cpu.vectors.items c.remove-in-loop-cpu.new.self.items c.remove-in-loop-cpu.result c.loop-cpu.invariant.vectors c.remove-in-loop-cpu.ensures.value c.remove-in-loop-cpu.ensures.by_index.2 in
    record {
      workers = c.in_ok-push.ensures.items
          ∙ workers_more c.args.list.now.board c.remove.result.board c.args.trace.now.frames c.args.trace.now.vectors c.loop-cpu.cpu c.loop-cpu.workers.items c.in_ok-worker.worker
          c.loop-cpu.invariant.workers c.in_ok-worker.ensures (ap (λ (p : PoolShown). p.board) out.is);
      pages = out.stays;
      vectors = pools.stays;
    }
