use Rattle.std.proofs.lemmas.List.Elements.{All-push}
use Rattle.std.proofs.Common.{arith, false}
use Rattle.allocinfo.specs.declared.rows.Row.{Row}
use Rattle.allocinfo.specs.Text.{IsRow}
use Rattle.step_play.proofs.Totals.{rows_more}
use Rattle.step_play.proofs.print.push_rows.Goals as goal

pub loop-index-preserved : goal.loop-index-preserved
loop-index-preserved c = record {
  rows = λ s text p shows.
      rw c.in_ok-push.ensures.items
      (rows_more s c.args.core.now text p c.args.rows.now.items c.loop-index.rows.items c.args.section c.args.start c.loop-index.index c.totals-bytes.result.0 c.totals-bytes.result.1 shows (omega arith)
      (c.loop-index.invariant.rows s text p shows) c.totals-bytes.ensures.bytes c.totals-bytes.ensures.calls);
  fit = λ all.
      let row : Row = record { bytes = c.totals-bytes.result.0; calls = c.totals-bytes.result.1; section = c.args.section; index = c.loop-index.index; kept = false } in
      let fits : IsRow c.args.core.now.sections row = record { in_list = c.requires.section; in_section = omega arith; of_module = λ kept. cc } in
      rw c.in_ok-push.ensures.items (All-push (IsRow c.args.core.now.sections) c.loop-index.rows.items row (c.loop-index.invariant.fit all) fits);
}
