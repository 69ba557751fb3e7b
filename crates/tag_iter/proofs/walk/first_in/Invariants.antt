use Rattle.std.proofs.Common.{◌≡◌, ◌≤◌, length, drop}
use Rattle.tag_iter.specs.Places.{found_in}
use Rattle.tag_iter.proofs.walk.first_in.Given as goal

-- what is found from here on is what is found in all
abbrev pub invariant-loop-place : goal.invariant-loop-place
invariant-loop-place l =
    (found_in l.last l.state (drop l.place l.book.entries) ≡ found_in l.fn.last l.fn.state l.fn.book.entries)
    × (l.place ≤ length l.book.entries)
    × (l.book ≡ l.fn.book)
    × (l.last ≡ l.fn.last)
    × (l.state ≡ l.fn.state)
