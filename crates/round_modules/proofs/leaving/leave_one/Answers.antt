use Rattle.std.proofs.Common.{refl}
use Rattle.module_area.specs.Entries.{left}
use Rattle.round_modules.proofs.Alike.{same_by}
use Rattle.round_modules.proofs.leaving.leave_one.Goals as goal

pub returns-then-is_loaded-clause-same : goal.returns-then-is_loaded-clause-same
returns-then-is_loaded-clause-same c = same_by c.args.entry.id left c.args.locked.now c.leave_locked.new.locked (λ e. refl) c.leave_locked.ensures.left
