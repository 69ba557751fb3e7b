use Rattle.std.proofs.Common.{◌≡◌, Some, sym, ap, ◌∙◌}
use Rattle.module_area.specs.Area.{Area}
use Rattle.module_area.specs.Entries.{entry_of}
use Rattle.tag_rule.specs.Shown.{CpuShown}
use Rattle.reclaim.proofs.MayTake.{entered_may}
use Rattle.reclaim.proofs.tests.plant.enter_first.Goals as goal

pub returns-in-Ok-clause-cpu : goal.returns-in-Ok-clause-cpu
returns-in-Ok-clause-cpu c =
    let found : entry_of c.args.locked.now.area.entries c.args.id ≡ Some c.in_ok-entry.entry = ap (λ (a : Area). entry_of a.entries c.args.id) (sym c.book.ensures.value) ∙ sym c.in_ok-entry.ensures.value in
    let is = c.in-Ok.ensures.inside c.in_ok-entry.entry found in
    (ap (λ (x : CpuShown). x.board) is, ap (λ (x : CpuShown). x.part.number) is, ap (λ (x : CpuShown). x.part.hand) is)

pub returns-in-Ok-clause-allowed : goal.returns-in-Ok-clause-allowed
returns-in-Ok-clause-allowed c =
    let found : entry_of c.args.locked.now.area.entries c.args.id ≡ Some c.in_ok-entry.entry = ap (λ (a : Area). entry_of a.entries c.args.id) (sym c.book.ensures.value) ∙ sym c.in_ok-entry.ensures.value in
    entered_may c.args.locked.now.area c.args.id c.in_ok-entry.entry c.args.cpu.now c.enter_locked.new.cpu c.book.ensures.holds.book c.if-id-eq0.false found c.in_ok-entry.ensures.found.1 (c.in-Ok.ensures.inside c.in_ok-entry.entry found)
