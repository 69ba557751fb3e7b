use Rattle.std.proofs.Common.{◌≡◌, ◌∙◌, sym, ap, refl, List, Option, Some, None, find}
use Rattle.std.proofs.lemmas.Bool.{cond-true, cond-false}
use Rattle.module_area.specs.Area.{Area}
use Rattle.module_area.specs.declared.entry.State.{State}
use Rattle.module_area.specs.declared.entry.State.TheVariants.{Loaded, Dead}
use Rattle.tag_section.specs.Section.{Section}
use Rattle.tag_iter.specs.Places.{found_in, is_above, kernel_range, places_in}
use Rattle.tag_iter.specs.declared.place.TagPlace.{TagPlace}
use Rattle.tag_iter.specs.declared.range.TagRange.{TagRange}
use Rattle.tag_iter.proofs.Found.{found_on}
use Rattle.tag_iter.proofs.iter.TagIter.place_above.Goals as goal

-- the kernel's range and the book are those of the list
of_kernel : (last found : Option TagPlace) (range : TagRange) (lent sections : List Section) → found ≡ find (is_above last) (places_in range) → range ≡ kernel_range lent → lent ≡ sections
    → found ≡ find (is_above last) (places_in (kernel_range sections))
of_kernel last found range lent sections is kernel same = is ∙ ap (λ r. find (is_above last) (places_in r)) (kernel ∙ ap kernel_range same)

of_book : (state : State) (last found : Option TagPlace) (lent area : Area) → found ≡ found_in last state lent.entries → lent ≡ area → found ≡ found_in last state area.entries
of_book state last found lent area is same = is ∙ ap (λ (a : Area). found_in last state a.entries) same

pub returns-in-Some : goal.returns-in-Some
returns-in-Some c =
    let iter = c.args.self.now in
    let l = c.args.locked.now in
    found_on iter l (Some c.in-Some.place) (found_in iter.last Loaded l.area.entries)
    (sym c.in-Some.is ∙ of_kernel iter.last c.first_above.result c.kernel-kernel.result c.sections.result.now l.sections c.first_above.ensures c.kernel-kernel.ensures.value c.sections.ensures.value)
    refl

pub returns-in-Some-first_in : goal.returns-in-Some-first_in
returns-in-Some-first_in c =
    let iter = c.args.self.now in
    let l = c.args.locked.now in
    found_on iter l None (Some c.in-Some-first_in.place)
    (sym c.in_default.is ∙ of_kernel iter.last c.first_above.result c.kernel-kernel.result c.sections.result.now l.sections c.first_above.ensures c.kernel-kernel.ensures.value c.sections.ensures.value)
    (sym c.in-Some-first_in.is ∙ of_book Loaded iter.last c.first_in.result c.book-book.result.now l.area c.first_in.ensures c.book-book.ensures.value)

pub returns-then-self : goal.returns-then-self
returns-then-self c =
    let iter = c.args.self.now in
    let l = c.args.locked.now in
    of_book Dead iter.last c.first_in-then-self.result c.book-book.result.now l.area c.first_in-then-self.ensures c.book-book.ensures.value
    ∙ sym (cond-true iter.all (found_in iter.last Dead l.area.entries) None c.if-self.true)
    ∙ found_on iter l None None
    (sym c.in_default.is ∙ of_kernel iter.last c.first_above.result c.kernel-kernel.result c.sections.result.now l.sections c.first_above.ensures c.kernel-kernel.ensures.value c.sections.ensures.value)
    (sym c.in_default-first_in.is ∙ of_book Loaded iter.last c.first_in.result c.book-book.result.now l.area c.first_in.ensures c.book-book.ensures.value)

pub returns-else-self : goal.returns-else-self
returns-else-self c =
    let iter = c.args.self.now in
    let l = c.args.locked.now in
    sym (cond-false iter.all (found_in iter.last Dead l.area.entries) None c.if-self.false)
    ∙ found_on iter l None None
    (sym c.in_default.is ∙ of_kernel iter.last c.first_above.result c.kernel-kernel.result c.sections.result.now l.sections c.first_above.ensures c.kernel-kernel.ensures.value c.sections.ensures.value)
    (sym c.in_default-first_in.is ∙ of_book Loaded iter.last c.first_in.result c.book-book.result.now l.area c.first_in.ensures c.book-book.ensures.value)
