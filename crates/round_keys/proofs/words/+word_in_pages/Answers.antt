use Rattle.std.proofs.Common.{List, Option, subst, sym, arith}
use Rattle.round_worker.specs.declared.keys.Kept.{Kept}
use Rattle.round_worker.specs.Cells.{IsOfChecked, kept_seat}
use Rattle.round_keys.specs.Pages.{InSlots}
use Rattle.round_keys.proofs.PageLemmas.{first_of, rest_of}
use Rattle.round_keys.proofs.words.+word_in_pages.Goals as goal

pub word_in_slots-requires : goal.word_in_slots-requires
word_in_slots-requires t c =
    let page = first_of (λ page. InSlots (λ (kept : Kept). IsOfChecked (kept_seat kept)) page.items) c.in-Some.page.now c.in-Some.rest.now c.args.pages.now c.in-Some.ensures.cases.0 c.requires.checked in
    record { checked = subst (λ (slots : List (Option Kept)). InSlots (λ (kept : Kept). IsOfChecked (kept_seat kept)) slots) (sym c.as_slice.ensures.value) page }

pub word_in_pages-requires : goal.word_in_pages-requires
word_in_pages-requires t c = (
  omega (arith, c.in-Some.ensures.cases.1, c.decreases),
  rest_of (λ page. InSlots (λ (kept : Kept). IsOfChecked (kept_seat kept)) page.items) c.in-Some.page.now c.in-Some.rest.now c.args.pages.now c.in-Some.ensures.cases.0 c.requires.checked,
)
