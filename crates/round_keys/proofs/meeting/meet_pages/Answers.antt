use Rattle.std.proofs.Common.{List, [], Option, ◌≡◌, get_or, ltb, map, subst, sym, ap, ◌∙◌, arith}
use Rattle.std.proofs.lemmas.Bool.{ltb-true, ltb-false}
use Rattle.std.proofs.Math.Seq.{map-set_same}
use Rattle.reclaim.specs.State.{LockedShown}
use Rattle.round_worker.specs.declared.keys.Kept.{Kept}
use Rattle.round_worker.specs.Kept.{IsKept}
use Rattle.round_keys.specs.Pages.{InSlots}
use Rattle.round_keys.specs.Stored.{IsCovered}
use Rattle.round_check.proofs.Named.{by_bool}
use Rattle.round_keys.proofs.PageLemmas.{all_seen, of_seen, seen_at}
use Rattle.round_keys.proofs.meeting.meet_pages.Goals as goal

pub meet_page-requires : goal.meet_page-requires
meet_page-requires c =
    let held = c.loop-number.invariant in
    record {
      kept =
          subst (λ (l : LockedShown). InSlots (IsKept l.board) (get_or c.loop-number.pages c.loop-number.number c.index-pages-number.result).items) (sym held.locked)
          (of_seen (λ page. page.items) (λ (slots : List (Option Kept)). InSlots (IsKept c.args.locked.now.board) slots) c.loop-number.pages c.args.pages.now c.loop-number.number c.index-pages-number.result held.same (omega (arith, c.loop-number-test.true, c.loop-number.auto.pages)) c.requires.kept);
    }

pub loop-number-preserved : goal.loop-number-preserved
loop-number-preserved c =
    let held = c.loop-number.invariant in
    let pages = c.loop-number.pages in
    let number = c.loop-number.number in
    let d = c.index-pages-number.result in
    record {
      same = map-set_same (λ page. page.items) pages number c.meet_page.new.page d c.meet_page.ensures.same.0 ∙ held.same;
      locked = c.meet_page.ensures.same.1 ∙ held.locked;
      covered = λ k low.
          by_bool (ltb k number)
          (λ before. held.covered k (ltb-true k number before))
          (λ here.
          let high = ltb-false k number here in
          let at : k ≡ number = omega arith in
          let place = seen_at (λ page. page.items) pages c.args.pages.now number d [] held.same (omega (arith, c.loop-number-test.true, c.loop-number.auto.pages)) in
          subst (λ (l : LockedShown). InSlots (IsCovered l) (get_or (map (λ page. page.items) c.args.pages.now) k [])) held.locked
          (subst (λ (slots : List (Option Kept)). InSlots (IsCovered c.loop-number.locked) slots) (sym place ∙ ap (λ n. get_or (map (λ page. page.items) c.args.pages.now) n []) (sym at)) c.meet_page.ensures.covered));
    }

pub returns-clause-covered : goal.returns-clause-covered
returns-clause-covered c =
    all_seen (λ page. page.items) (λ (slots : List (Option Kept)). InSlots (IsCovered c.args.locked.now) slots) c.args.pages.now [] (λ k low. c.loop-number.invariant.covered k (omega (arith, low, c.loop-number-test.false)))
