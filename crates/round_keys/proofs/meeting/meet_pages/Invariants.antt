use Rattle.std.proofs.Common.{◌≡◌, ℕ, [], ◌<◌, get_or, map}
use Rattle.round_keys.specs.Pages.{InSlots}
use Rattle.round_keys.specs.Stored.{IsCovered}
use Rattle.round_keys.proofs.meeting.meet_pages.Given as goal

abbrev pub invariant-loop-number : goal.invariant-loop-number
invariant-loop-number l = record {
  same : map (λ page. page.items) l.pages ≡ map (λ page. page.items) l.initial.pages;
  locked : l.locked ≡ l.initial.locked;
  covered : (k : ℕ) → k < l.number → InSlots (IsCovered l.initial.locked) (get_or (map (λ page. page.items) l.initial.pages) k []);
}
