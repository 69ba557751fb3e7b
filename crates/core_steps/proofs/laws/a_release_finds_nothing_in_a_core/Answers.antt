use Rattle.std.proofs.Common.{inl, inr}
use Rattle.core_steps.proofs.laws.a_release_finds_nothing_in_a_core.Goals as goal

pub returns : goal.returns
returns c s section cause r = (
  r.entry,
  r.of_section,
  r.listed,
  r.dead,
  (λ key size tag is. let none = r.free.places key size tag is in (λ own. none (inl own), λ low high. none (inr (low, high)))),
  λ cpu hand is. let none = r.free.hands cpu hand is in (λ own. none (inl own), λ low high. none (inr (low, high))),
)
