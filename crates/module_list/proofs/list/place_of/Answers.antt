use Rattle.std.proofs.Common.{◌==◌, sym, ◌∙◌, subst, IsSome}
use Rattle.tag_model.specs.declared.state.Record.{Record}
use Rattle.module_area.proofs.EntryLemmas.{place_some, place_found}
use Rattle.module_list.proofs.list.place_of.Goals as goal

pub unwrap-requires : goal.unwrap-requires
unwrap-requires c =
    subst (λ o. IsSome o) (sym c.position_of.ensures) (place_some (λ (r : Record). r.id == c.args.id) c.args.records.now c.requires)

pub returns-clause-there : goal.returns-clause-there
returns-clause-there c =
    place_found (λ (r : Record). r.id == c.args.id) c.args.records.now _ (sym c.position_of.ensures ∙ c.unwrap.ensures)
