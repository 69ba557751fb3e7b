use Rattle.std.proofs.Common.{◌≡◌, ◌∷◌, sym, ap, subst, ◌∙◌}
use Rattle.core_list.specs.ListState.{loaded_entry, dead_list}
use Rattle.module_ops.specs.Modules.{ModuleTable, swept_on, unloads}
use Rattle.module_ops.proofs.Sweeping.{loaded_unused}
use Rattle.module_ops.proofs.modules.ModuleTable.unload.Goals as goal

pub mark_dead-requires : goal.mark_dead-requires
mark_dead-requires c = loaded_unused c.args.section c.self.inside.list c.in-Some.entry c.loaded.ensures.holds (sym c.loaded.ensures.value ∙ c.in-Some.is) c.if-entry-ne0.false

pub returns-clause-ok : goal.returns-clause-ok
returns-clause-ok c op ops first =
    let s = c.self.inside in
    let old : ModuleTable = record { inside = s.inside.items; list = s.list; manager = record { ops = s.ops.items; under_way = s.under_way } } in
    let is : old ≡ c.args.self.now = c.self.view_is in
    let dead : c.end_or_hold.new.self ≡ swept_on old op ops (dead_list c.in-Some.entry.id s.list) =
    c.end_or_hold.ensures op ops (subst (λ (m : ModuleTable). m.manager.ops ≡ op ∷ ops) (sym is) first) ∙ ap (λ l. swept_on old op ops l) c.mark_dead.ensures in
    let found = sym c.loaded.ensures.value ∙ c.in-Some.is in
    subst (λ (m : ModuleTable). c.end_or_hold.new.self ≡ unloads m op ops (loaded_entry c.args.section m.list)) is
    (dead ∙ ap (unloads old op ops) (sym found))
