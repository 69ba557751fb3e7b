use Rattle.std.proofs.Common.{◌≡◌, ◌≤◌, count_by, take}
use Rattle.module_area.specs.Entries.{is_dead}
use Rattle.module_area.specs.declared.entry.Entry.{Entry}
use Rattle.rounds.proofs.ending.kept_in.Given as goal

abbrev pub invariant-loop-place : goal.invariant-loop-place
invariant-loop-place l = (l.kept ≡ count_by (λ (e : Entry). is_dead e.state) (take l.place l.book.entries)) × (l.kept ≤ l.place)
