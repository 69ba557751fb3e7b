use Rattle.std.proofs.Common.{ℕ, ◌≡◌, ◌^◌, ◌%◌, ◌-◌, ◌*◌, ◌/◌, ◌++◌, [], ◌∷◌, replicate, sym, ap, ◌∙◌, subst, arith, rules}
use Rattle.std.proofs.Math.Pow.{pow_mono}
use Rattle.buddy.specs.Bits.{IsZone, frames_of}
use Rattle.buddy.proofs.ZoneLemmas.{fresh}
use Rattle.buddy.proofs.zone.Zone.new.Goals as goal

words_are : (c : goal.In_ok-push) → c.push.new.self.items ≡ replicate (c.args.frames / 64) 18446744073709551615 ++ (1 * 2 ^ (c.args.frames % 64) % 18446744073709551616 - 1) ∷ []
words_are c = c.in_ok-push.ensures.items ∙ ap (λ ws. ws ++ (1 * 2 ^ (c.args.frames % 64) % 18446744073709551616 - 1) ∷ []) (search rules)

last_is : (frames : ℕ) → 1 * 2 ^ (frames % 64) % 18446744073709551616 - 1 ≡ 2 ^ (frames % 64) - 1
last_is frames = omega (arith, pow_mono {i = frames % 64} {j = 63} (omega arith))

pub invariant_of-result : goal.invariant_of-result
invariant_of-result c =
    subst (λ ws. IsZone ws c.args.frames c.args.frames) (sym (words_are c))
    (fresh c.args.frames (1 * 2 ^ (c.args.frames % 64) % 18446744073709551616 - 1) c.requires (last_is c.args.frames)).zone

pub returns : goal.returns
returns c =
    ap (frames_of c.args.frames) (words_are c)
    ∙ (fresh c.args.frames (1 * 2 ^ (c.args.frames % 64) % 18446744073709551616 - 1) c.requires (last_is c.args.frames)).after
