use Rattle.std.proofs.Common.{◌≡◌, ◌==◌, not, rules, sym, ap, subst, ◌∙◌, List, arith}
use Rattle.std.proofs.lemmas.Fn.{filter_same}
use Rattle.module_area.specs.declared.entry.Entry.{Entry}
use Rattle.module_area.specs.Entries.{without_entry}
use Rattle.module_area.specs.Area.{Area, IsBook}
use Rattle.module_area.proofs.BookLemmas.{IsBook-filter}
use Rattle.module_area.proofs.book.Book.release.Goals as goal

pub invariant_of-self : goal.invariant_of-self
invariant_of-self c =
    let left : c.retain.new.self.items ≡ without_entry c.args.id c.self.inside.entries.items =
    filter_same _ (λ (entry : Entry). not (entry.id == c.args.id)) _ (λ x b f' k. search rules) _ _ c.retain.ensures.filtered in
    let of : List Entry → Area = λ es. record { entries = es; first = c.self.inside.first; tags = c.self.inside.tags } in (
      subst (λ es. IsBook (of es)) (sym left) (IsBook-filter _ _ _ c.self.invariant.0 (λ entry. not (entry.id == c.args.id))),
      omega (arith, c.retain.ensures.capacity, c.self.invariant.1),
    )

pub returns-clause-after : goal.returns-clause-after
returns-clause-after c =
    let left : c.retain.new.self.items ≡ without_entry c.args.id c.self.inside.entries.items =
    filter_same _ (λ (entry : Entry). not (entry.id == c.args.id)) _ (λ x b f' k. search rules) _ _ c.retain.ensures.filtered in
    let of : List Entry → Area = λ es. record { entries = es; first = c.self.inside.first; tags = c.self.inside.tags } in
    let kept : Area → Area = λ a. record { entries = without_entry c.args.id a.entries; first = a.first; tags = a.tags } in
    ap of left ∙ ap kept c.self.view_is

pub returns-clause-formed : goal.returns-clause-formed
returns-clause-formed c = (invariant_of-self c).0
