use Rattle.std.proofs.Common.{arith}
use Rattle.core_list.specs.ListState.{records_of}
use Rattle.core_list.proofs.Fits.{IsWithin, fits_swept, fits_scanned, left_dead}
use Rattle.core_list.proofs.Kept.{list_swept}
use Rattle.core_list.proofs.tests.sweep.Goals as goal

pub loop-word-init : goal.loop-word-init
loop-word-init g c =
    let k = c.shape-shape.result in
    let within : IsWithin k c.args.list.now.area = record { some_cpu = c.shape-shape.ensures.checked.some_cpu; above_kernel = omega arith; within = omega arith } in
    rw c.sweep.ensures (record {
      is_list = list_swept c.args.list.now c.book.ensures.holds;
      fits = fits_swept k c.args.list.now c.book.ensures.holds within;
      first = c.requires.first;
      tags = c.requires.tags;
    })

pub loop-word-preserved : goal.loop-word-preserved
loop-word-preserved g c =
    let k = c.shape-shape.result in
    let i = c.loop-word.invariant in
    let within : IsWithin k c.loop-word.list.area = record { some_cpu = c.shape-shape.ensures.checked.some_cpu; above_kernel = omega (arith, i.first); within = omega (arith, i.first, i.tags) } in
    let kept = fits_scanned k _ c.loop-word.list c.scan.new.self i.is_list within i.fits c.scan.ensures.after in
    record { is_list = kept.is_list; fits = kept.fits; first = omega (arith, kept.first, i.first); tags = omega (arith, kept.tags, i.tags) }

pub release-requires : goal.release-requires
release-requires g c = left_dead c.shape-shape.result c.loop-word.list.sweep (records_of c.loop-word.list) c.loop-word.invariant.fits
