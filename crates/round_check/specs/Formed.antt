-- What fits the tables of the round check.
use Rattle.std.specs.Prelude.{◌<◌, ◌≤◌, All}
use Rattle.trace.specs.declared.traces.Item.{Item}
use Rattle.trace.specs.declared.traces.Item.TheVariants as item
use Rattle.trace.specs.declared.traces.OnOp.{OnOp}
use Rattle.trace.specs.declared.traces.TraceOp.{TraceOp}
use Rattle.trace.specs.declared.traces.TraceOp.TheVariants as op
use Rattle.input_form.specs.Places.{IsKey}

abbrev pub FitsOp : TraceOp → Type 0
FitsOp (op.Page key order) = IsKey key × (order ≤ 10)
FitsOp (op.Kmalloc key size) = IsKey key
FitsOp (op.Free key) = IsKey key
FitsOp (op.Split key order first) = IsKey key × (order ≤ 9) × IsKey first
FitsOp (op.Swap one two) = IsKey one × IsKey two
FitsOp (op.Trim key pages) = IsKey key
FitsOp (op.Hook section index) = section < 65
FitsOp op.Unhook = Unit {0}
FitsOp (op.Enter section) = section < 65
FitsOp (op.Leave section) = section < 65
FitsOp (op.Unload section) = section < 65

abbrev pub FitsOn : OnOp → Type 0
FitsOn on = (on.cpu < 64) × FitsOp on.op

abbrev pub FitsItem : Item → Type 0
FitsItem (item.Round ops) = All FitsOn ops
FitsItem (item.Load line section) = section < 65
FitsItem item.Print = Unit {0}
FitsItem item.Areas = Unit {0}
