-- Each op of a trace has a line's number of its own, so there are no more ops than lines.
use Rattle.std.proofs.Common.{◌≡◌, ◌+◌, ◌≤◌, List, [], ◌∷◌, length, length-append, sum_by, arith}
use Rattle.std.proofs.lemmas.List.{length-map}
use Rattle.std.proofs.lemmas.List.Sums.{sum_by-cons}
use Rattle.input_form.specs.Forms.{AreLineNumbers}
use Rattle.input_form.proofs.LineForm.{rising_few}
use Rattle.trace.specs.declared.traces.Item.{Item}
use Rattle.trace.specs.declared.traces.Item.TheVariants as item
use Rattle.trace.specs.declared.traces.OnOp.{OnOp}
use Rattle.trace.specs.Formed.{numbers_in, numbers_of}
use Rattle.trace_play.specs.Play.{ops_in}

ops_numbered : (items : List Item) → sum_by ops_in items ≤ length (numbers_of items)
ops_numbered [] = omega arith
ops_numbered (what ∷ items) =
    let both : length (numbers_of (what ∷ items)) ≡ length (numbers_in what) + length (numbers_of items) = length-append (numbers_in what) (numbers_of items) in
    omega (arith, sum_by-cons ops_in what items, one what, ops_numbered items, both)
  where
    one : (what : Item) → ops_in what ≤ length (numbers_in what)
    one (item.Round ops) = omega (arith, length-map ops (λ (on : OnOp). on.line))
    one (item.Load line section) = omega arith
    one item.Print = omega arith
    one item.Areas = omega arith

pub few_ops : (items : List Item) → AreLineNumbers (numbers_of items) → sum_by ops_in items ≤ 131071
few_ops items lines = omega (arith, ops_numbered items, rising_few 2 131073 (numbers_of items) lines)
