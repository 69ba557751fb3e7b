use Rattle.std.proofs.Common.{List, Option, All, ◌≡◌, ◌≤◌, length, map, subst, sym, ap, ◌∙◌, arith}
use Rattle.std.proofs.lemmas.List.{with_items_is}
use Rattle.round_worker.specs.declared.keys.Kept.{Kept}
use Rattle.round_worker.specs.Kept.{IsKept}
use Rattle.round_keys.specs.Pages.{InSlots, IsPage}
use Rattle.round_keys.specs.Stored.{IsCovered}
use Rattle.round_keys.proofs.PageLemmas.{long_seen, same_seen}
use Rattle.round_keys.proofs.StoredLemmas.{entries_hold, pages_hold}
use Rattle.round_keys.proofs.store.KeyStore.meet.Goals as goal

pub meet_pages-requires : goal.meet_pages-requires
meet_pages-requires c =
    let own = pages_hold (λ page. page.items) c.self.inside.pages.items (IsKept c.args.locked.now.board) c.args.self.now c.self.view_is c.self.invariant.all c.requires.kept in
    record { kept = subst (λ pages. All (λ page. InSlots (IsKept c.args.locked.now.board) page.items) pages) (sym c.as_mut_slice.ensures.value) own }

pub invariant_of-self : goal.invariant_of-self
invariant_of-self c =
    let pages = c.self.inside.pages in
    let new = c.meet_pages.new.pages in
    let same = c.meet_pages.ensures.same.0 ∙ ap (λ pages. map (λ page. page.items) pages) c.as_mut_slice.ensures.value in
    let long : length new ≡ length pages.items = long_seen (λ page. page.items) new pages.items same in
    let is = with_items_is pages new (long ∙ sym pages.ok.0) in
    record {
      all = subst (λ pages. All (λ page. IsPage page.items) pages) (sym is) (same_seen (λ page. page.items) (λ (slots : List (Option Kept)). IsPage slots) new pages.items same c.self.invariant.all);
      few = omega (arith, long, ap length is, c.self.invariant.few);
    }

pub returns-clause-covered : goal.returns-clause-covered
returns-clause-covered c =
    entries_hold (λ page. page.items) c.self.inside.pages.items (IsCovered c.args.locked.now) c.args.self.now c.self.view_is
    (subst (λ pages. All (λ page. InSlots (IsCovered c.args.locked.now) page.items) pages) c.as_mut_slice.ensures.value c.meet_pages.ensures.covered)
