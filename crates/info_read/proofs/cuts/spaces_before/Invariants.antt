use Rattle.std.proofs.Common.{◌≡◌, ◌+◌, drop}
use Rattle.info_read.specs.Cuts.{spaces_before}
use Rattle.info_read.proofs.cuts.spaces_before.Given as goal

-- the spaces so far, and those that follow
abbrev pub invariant-loop-place : goal.invariant-loop-place
invariant-loop-place l = l.place + spaces_before (drop l.place l.text) ≡ spaces_before l.text
