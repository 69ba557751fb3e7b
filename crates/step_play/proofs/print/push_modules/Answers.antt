use Rattle.std.proofs.Common.{◌≡◌, ◌++◌, ◌<◌, ℕ, List, Some, ap, sym, ◌∙◌, arith, append_assoc, take, length}
use Rattle.std.specs.Prelude.{slice_get}
use Rattle.std.proofs.Math.Seq.{take-length}
use Rattle.std.specs.List.{flat_map}
use Rattle.std.proofs.lemmas.Option.{get_or_from_slice_get}
use Rattle.allocinfo.specs.declared.rows.Row.{Row}
use Rattle.module_area.specs.declared.entry.Entry.{Entry}
use Rattle.step_play.specs.Printed.{module_rows}
use Rattle.step_play.proofs.Numbers.{flat_more}
use Rattle.step_play.proofs.print.push_modules.Goals as goal

pub loop-place-preserved : goal.loop-place-preserved
loop-place-preserved c = record {
  rows = λ s text p shows.
      let entries = c.args.core.now.modules.list.area.entries in
      let here : slice_get entries c.loop-place.place ≡ Some c.at.result = rw c.book-book.ensures.value at c.at.ensures.value in
      let below : c.loop-place.place < length entries = let count : c.count-place-end.result ≡ length entries = rw c.book-book.ensures.value at c.count-place-end.ensures.value in omega arith in
      c.in_ok-push_module.ensures.rows s text p shows
      ∙ ap (λ (rows : List Row). rows ++ module_rows s p.moves c.at.result) (c.loop-place.invariant.rows s text p shows)
      ∙ append_assoc c.args.rows.now.items (flat_map (module_rows s p.moves) (take c.loop-place.place entries)) (module_rows s p.moves c.at.result)
      ∙ ap (λ (rows : List Row). c.args.rows.now.items ++ rows) (sym (flat_more (module_rows s p.moves) entries c.loop-place.place c.at.result below (get_or_from_slice_get entries c.loop-place.place c.at.result c.at.result here)));
  fit = λ all. c.in_ok-push_module.ensures.fit (c.loop-place.invariant.fit all);
}

pub returns-clause-rows : goal.returns-clause-rows
returns-clause-rows c = λ s text p shows.
    let entries = c.args.core.now.modules.list.area.entries in
    let count : c.count-place-end.result ≡ length entries = rw c.book-book.ensures.value at c.count-place-end.ensures.value in
    let all : c.loop-place.place ≡ length entries = omega arith in
    c.loop-place.invariant.rows s text p shows
    ∙ ap (λ (n : ℕ). c.args.rows.now.items ++ flat_map (module_rows s p.moves) (take n entries)) all
    ∙ ap (λ (xs : List Entry). c.args.rows.now.items ++ flat_map (module_rows s p.moves) xs) (take-length entries)
