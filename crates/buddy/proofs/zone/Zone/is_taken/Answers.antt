use Rattle.std.proofs.Common.{◌≡◌, ◌↔◌, true, not, nat_lt, IsTrue, Some, slice_get, subst}
use Rattle.std.proofs.lemmas.Bool.{le-ltb, both_ways}
use Rattle.buddy.specs.Bits.{bit_of}
use Rattle.buddy.proofs.ZoneLemmas.{frame_taken, no_frame}
use Rattle.buddy.proofs.zone.Zone.is_taken.Goals as goal

pub returns-then-frame-self : goal.returns-then-frame-self
returns-then-frame-self c =
    subst (λ fs. IsTrue (not c.is_set.result) ↔ (slice_get fs c.args.frame ≡ Some true)) c.self.view_is
    (frame_taken c.self.inside.words.items c.self.inside.frames c.args.frame c.is_set.result c.if-frame-self.true
    (subst (λ ws. IsTrue c.is_set.result ↔ (bit_of ws c.args.frame ≡ 1)) c.deref.ensures.value c.is_set.ensures))

pub returns-else-frame-self : goal.returns-else-frame-self
returns-else-frame-self c =
    subst (λ fs. IsTrue (nat_lt c.args.frame c.self.inside.frames) ↔ (slice_get fs c.args.frame ≡ Some true)) c.self.view_is (
      (λ below. absurd (both_ways _ (le-ltb c.args.frame c.self.inside.frames c.if-frame-self.false) below)),
      (λ taken. absurd (no_frame c.self.inside.words.items c.self.inside.frames c.args.frame c.if-frame-self.false taken)),
    )
