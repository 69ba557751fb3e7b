-- An op of a CPU as one of the list machine, in which a place is a key.
use Rattle.std.specs.Prelude.{Option, Some, None, List}
use Rattle.tag_model.specs.declared.state.Run.{Run}
use Rattle.tag_model.specs.ListMachine as list
use Rattle.tag_model.specs.ListMachine.{Live, MayDo, RefOp, done}
use Rattle.cpu_ops.specs.declared.op.CpuOp.{CpuOp}
use Rattle.cpu_ops.specs.declared.op.CpuOp.TheVariants.{Open, Close, Split, Swap, Trim, Enter, Leave}
use Rattle.cpu_ops.specs.Machine.{new_keys, tag_in}

-- with the CPU's runs; an enter and a leave touch no reference
abbrev pub ref_op : List (Option Run) → CpuOp → Option RefOp
ref_op inside (Open key section index size) = Some (list.Open key (tag_in inside section index) size)
ref_op inside (Close key) = Some (list.Close key)
ref_op inside (Split key parts first) = Some (list.Split key (new_keys parts first))
ref_op inside (Swap one two) = Some (list.Swap one two)
ref_op inside (Trim key bytes) = Some (list.Trim key bytes)
ref_op inside (Enter section) = None
ref_op inside (Leave section) = None

-- what is done to a live list, if anything is
abbrev pub done_if : Option RefOp → Live → Live
done_if None live = live
done_if (Some op) live = done op live

abbrev pub MayDoIf : Option RefOp → Live → Type 0
MayDoIf None live = Unit {0}
MayDoIf (Some op) live = MayDo op live
