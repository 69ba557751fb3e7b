use Rattle.std.proofs.Common.{◌≡◌, ◌+◌, ◌-◌, ◌≤◌, All, length, map}
use Rattle.round_keys.specs.Pages.{IsPage, pages_from}
use Rattle.round_keys.proofs.pages.grow_pages.Given as goal

abbrev pub invariant-loop-alloc : goal.invariant-loop-alloc
invariant-loop-alloc l = record {
  same : pages_from 0 (map (λ page. page.items) l.pages.items) ≡ pages_from 0 (map (λ page. page.items) l.initial.pages.items);
  all : All (λ page. IsPage page.items) l.initial.pages.items → All (λ page. IsPage page.items) l.pages.items;
  few : length l.initial.pages.items ≤ 16777216 → length l.pages.items ≤ 16777216;
}

abbrev pub decreases-loop-alloc : goal.decreases-loop-alloc
decreases-loop-alloc l = (l.number + 1) - length l.pages.items
