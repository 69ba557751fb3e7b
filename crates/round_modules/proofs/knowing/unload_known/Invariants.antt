use Rattle.std.proofs.Common.{◌≡◌, List, take}
use Rattle.module_area.specs.declared.entry.Entry.{Entry}
use Rattle.round_modules.specs.Known.{IsKnown, unloaded_by}
use Rattle.round_modules.proofs.knowing.unload_known.Given as goal

abbrev pub invariant-loop-on : goal.invariant-loop-on
invariant-loop-on l = record {
  marked : l.known ≡ unloaded_by (take l.on-index l.ops) l.initial.known;
  still : (book : List Entry) → IsKnown book l.initial.known → IsKnown book l.known;
}
