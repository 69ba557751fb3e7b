use Rattle.std.proofs.Common.{ℕ, List, Option, All, Some, T, ◌≡◌, map, nat_cmp, subst, sym, ap, ◌∙◌}
use Rattle.std.specs.FinMap.Entries.{find}
use Rattle.trace_play.specs.Left.{word_at}
use Rattle.round_worker.specs.declared.keys.Kept.{Kept}
use Rattle.round_worker.specs.Cells.{IsOfChecked, first_some, kept_seat}
use Rattle.round_keys.specs.Stored.{bound_word}
use Rattle.round_worker.specs.Kept.{KeyList}
use Rattle.round_keys.specs.Pages.{InSlots, pages_from}
use Rattle.round_worker.specs.Parting.{AreKept}
use Rattle.round_keys.specs.Stored.{key_cells}
use Rattle.round_keys.proofs.PageLemmas.{pages_rise}
use Rattle.round_keys.proofs.StoredLemmas.{pages_hold, pages_tell, seen_word}
use Rattle.round_keys.proofs.store.KeyStore.word_at.Goals as goal

pub word_in_pages-requires : goal.word_in_pages-requires
word_in_pages-requires c =
    let checked = pages_hold (λ page. page.items) c.self.inside.pages.items (λ (kept : Kept). IsOfChecked (kept_seat kept)) c.args.self.now c.self.view_is c.self.invariant.all c.requires.checked in
    record { checked = subst (λ pages. All (λ page. InSlots (λ (kept : Kept). IsOfChecked (kept_seat kept)) page.items) pages) (sym c.as_slice.ensures.value) checked }

pub returns : goal.returns
returns c board own =
    let pages = map (λ page. page.items) c.self.inside.pages.items in
    c.word_in_pages.ensures ∙ ap (λ pages. first_some (λ page. first_some (bound_word c.args.cell) page.items) pages) c.as_slice.ensures.value
    ∙ seen_word (λ page. page.items) c.args.cell c.self.inside.pages.items
    ∙ pages_tell board c.args.cell pages (pages_rise (λ page. page.items) c.self.inside.pages.items c.self.invariant.all) (subst (AreKept board) (sym c.self.view_is) own)
    ∙ ap (λ (es : KeyList). word_at board.shape c.args.cell (key_cells es)) c.self.view_is
