-- The steps of the scripts that the tests play.
use Rattle.std.proofs.Common.{◌≡◌, refl, ap, arith, true, false, inr, Option, Some, None}
use Rattle.tag_model.specs.declared.state.CpuPart.{CpuPart}
use Rattle.tag_model.specs.declared.state.Hand.{Hand}
use Rattle.tag_model.specs.declared.state.Held.{Held}
use Rattle.tag_model.specs.declared.state.Held.TheVariants as held
use Rattle.tag_model.specs.Reference.{hand_counts_of, held_counts_of, hand_fits}
use Rattle.tag_model.specs.StepRules.{WritesPlace}
use Rattle.tag_rule.specs.Scripts.{counted_two, in_hand}
use Rattle.tag_rule.specs.Steps.{with_hand, hand_after}
use Rattle.tag_rule.proofs.Hands.{condition}

pub opens_step : (c : CpuPart) (was : Held) → hand_fits c.hand ≡ true → c.hand ≡ Some (in_hand true) → was ≡ held.None → WritesPlace c (with_hand (hand_after c.hand was counted_two) c) was counted_two
opens_step c was fits h none = condition c was counted_two None fits (record {
  place_fits = refl;
  hand_fits = refl;
  stays = λ kind tag. omega (arith, ap (λ (o : Option Hand). hand_counts_of kind tag o) h, ap (λ (x : Held). held_counts_of kind tag x) none);
  settled = inr refl;
  after = refl;
})

pub closes_step : (c : CpuPart) (was : Held) → c.hand ≡ None → was ≡ counted_two → WritesPlace c (with_hand (hand_after c.hand was held.None) c) was held.None
closes_step c was h is = condition c was held.None (Some (in_hand false)) (ap (λ (o : Option Hand). hand_fits o) h) (record {
  place_fits = refl;
  hand_fits = refl;
  stays = λ kind tag. omega (arith, ap (λ (o : Option Hand). hand_counts_of kind tag o) h, ap (λ (x : Held). held_counts_of kind tag x) is);
  settled = inr refl;
  after = refl;
})

pub closes_hand : (o : Option Hand) (was : Held) → o ≡ None → was ≡ counted_two → hand_after o was held.None ≡ Some (in_hand false)
closes_hand o was h is = λ i. hand_after (h i) (is i) held.None

pub opens_hand : (o : Option Hand) (was : Held) → o ≡ Some (in_hand true) → was ≡ held.None → hand_after o was counted_two ≡ None
opens_hand o was h none = λ i. hand_after (h i) (none i) counted_two
