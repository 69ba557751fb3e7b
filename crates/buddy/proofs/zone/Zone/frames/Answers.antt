use Rattle.std.proofs.Common.{sym, ap, ◌∙◌, length, ◌==◌}
use Rattle.std.proofs.lemmas.List.FromFn.{length-map-range_with_len}
use Rattle.buddy.specs.Bits.{bit_of}
use Rattle.buddy.proofs.zone.Zone.frames.Goals as goal

pub returns : goal.returns
returns c = sym (ap length (sym c.self.view_is) ∙ length-map-range_with_len (λ i. bit_of c.self.inside.words.items i == 0) 0 c.self.inside.frames)
