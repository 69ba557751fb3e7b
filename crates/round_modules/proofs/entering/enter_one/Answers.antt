use Rattle.std.proofs.Common.{◌≡◌, OnOk, refl, subst}
use Rattle.module_area.specs.Entries.{entered}
use Rattle.reclaim.specs.State.{entered_locked}
use Rattle.round_modules.proofs.Alike.{same_by}
use Rattle.round_modules.proofs.entering.enter_one.Goals as goal

pub returns-then-is_loaded-clause-same : goal.returns-then-is_loaded-clause-same
returns-then-is_loaded-clause-same c =
    same_by c.args.entry.id entered c.args.locked.now c.enter_locked.new.locked (λ e. refl)
    (subst (λ r. OnOk r (c.enter_locked.new.locked ≡ entered_locked c.args.entry.id c.args.locked.now)) c.unwrap.ensures c.enter_locked.ensures.entered)
