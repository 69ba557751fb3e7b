use Rattle.std.proofs.Common.{◌==◌, sym, ◌∙◌, subst, IsSome}
use Rattle.module_area.proofs.EntryLemmas.{place_some, place_found}
use Rattle.module_area.proofs.book.Book.place_of.Goals as goal

pub unwrap-requires : goal.unwrap-requires
unwrap-requires c =
    subst (λ o. IsSome o) (sym c.position.ensures) (place_some (λ entry. entry.id == c.args.id) c.args.self.now.entries c.requires)

pub returns-clause-there : goal.returns-clause-there
returns-clause-there c =
    place_found (λ entry. entry.id == c.args.id) c.args.self.now.entries _ (sym c.position.ensures ∙ c.unwrap.ensures)
