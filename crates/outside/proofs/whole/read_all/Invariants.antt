-- Each turn took at least one byte, and no more than the limit were taken.
use Rattle.std.proofs.Common.{◌≡◌, ◌≤◌, vec_len}
use Rattle.std.specs.Io.KnownBytes.{Consumes}
use Rattle.outside.proofs.whole.read_all.Given as goal

abbrev pub invariant-loop-turn : goal.invariant-loop-turn
invariant-loop-turn g l =
    record {
      progress : l._turn ≤ vec_len l.bytes;
      within : vec_len l.bytes ≤ l.limit;
      taken : Consumes (g.S.Source.left l.initial.source) (g.S.Source.left l.source) l.bytes.items;
      steady : g.S.Source.faults l.source ≡ g.S.Source.faults l.initial.source;
    }
