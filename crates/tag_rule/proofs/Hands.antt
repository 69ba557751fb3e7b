-- What is in hand once a place is written.
use Rattle.std.proofs.Common.{◌≡◌, ℕ, ◌+◌, ◌<◌, ◌==◌, ◌&&◌, ◌⊎◌, not, sym, refl, ap, subst, ◌∙◌, arith, cond, Bool, true, false, inl, inr, Option, Some, None, ne_eqb}
use Rattle.std.proofs.lemmas.Bool.{and_parts, false≢true}
use Rattle.tag_model.specs.declared.state.CpuPart.{CpuPart}
use Rattle.tag_model.specs.declared.state.Hand.{Hand}
use Rattle.tag_model.specs.declared.state.Held.{Held}
use Rattle.tag_model.specs.declared.state.Held.TheVariants as held
use Rattle.tag_model.specs.declared.state.Kind.{Kind}
use Rattle.tag_model.specs.declared.state.Kind.TheVariants.{Bytes, Calls}
use Rattle.tag_model.specs.declared.state.Tag.{Tag}
use Rattle.tag_model.specs.Reference.{amount, hand_counts_of, held_counts_of, hand_fits, is_counted, is_settled, same_tag}
use Rattle.tag_model.specs.StepRules.{WritesPlace}
use Rattle.tag_model.proofs.CpuFits.{hand_fits_means, hand_fits_from, same_tag_refl, same_tag_means}
use Rattle.tag_rule.specs.Steps.{with_hand, left, left_hand, left_of_hand, left_of_place, or_hand, hand_after}

-- the hand, of no allocation
abbrev pub settled : Option Hand → Option Hand
settled None = None
settled (Some h) = Some (record h { opening = false })

same_amounts : (kind : Kind) (tag : Tag) (o : Option Hand) → hand_counts_of kind tag (settled o) ≡ hand_counts_of kind tag o
same_amounts kind tag None = refl
same_amounts kind tag (Some h) = refl

-- where hand and place count, over both, what a hand and the place count then, what is left is what that hand counts
module _ (own : Option Hand) (was next : Held) (hand : Option Hand) (stays : (kind : Kind) (tag : Tag) → hand_counts_of kind tag own + held_counts_of kind tag was ≡ hand_counts_of kind tag hand + held_counts_of kind tag next) where
  left_is : (kind : Kind) (tag : Tag) → left kind tag own was next ≡ hand_counts_of kind tag hand
  left_is kind tag = omega (arith, stays kind tag)

  -- under a tag that the hand doesn't name nothing is left
  left_none : (tag : Tag) → hand_counts_of Calls tag hand ≡ 0 → left_hand tag own was next ≡ None
  left_none tag none = let e : left Calls tag own was next ≡ 0 = left_is Calls tag ∙ none in rw e refl

own_counts : (kind : Kind) (h : Hand) → hand_counts_of kind h.tag (Some h) ≡ amount kind h.bytes h.calls
own_counts kind h = ap (λ (b : Bool). cond {A = ℕ} b (amount kind h.bytes h.calls) 0) (same_tag_refl h.tag)

-- under its own tag, the hand is left
left_some : (own : Option Hand) (was next : Held) (h : Hand) → ((kind : Kind) (tag : Tag) → hand_counts_of kind tag own + held_counts_of kind tag was ≡ hand_counts_of kind tag (Some h) + held_counts_of kind tag next)
    → 0 < h.calls → left_hand h.tag own was next ≡ Some (record h { opening = false })
left_some own was next h stays some =
    let calls : left Calls h.tag own was next ≡ h.calls = left_is own was next (Some h) stays Calls h.tag ∙ own_counts Calls h in
    let bytes : left Bytes h.tag own was next ≡ h.bytes = left_is own was next (Some h) stays Bytes h.tag ∙ own_counts Bytes h in
    let test : (left Calls h.tag own was next == 0) ≡ false = ne_eqb _ 0 (λ e. omega arith) in
    rw test (λ i. Some (record { tag = h.tag; bytes = bytes i; calls = calls i; opening = false }))

-- a tag is the hand's, or not
tags_apart : (a b : Tag) → (a ≡ b) ⊎ (same_tag a b ≡ false)
tags_apart a b = go (same_tag a b) refl
  where
    go : (x : Bool) → same_tag a b ≡ x → (a ≡ b) ⊎ (same_tag a b ≡ false)
    go true e = inl (same_tag_means a b e)
    go false e = inr e

-- under another tag nothing of the hand is left
left_other : (own : Option Hand) (was next : Held) (h : Hand) (tag : Tag) → ((kind : Kind) (tag : Tag) → hand_counts_of kind tag own + held_counts_of kind tag was ≡ hand_counts_of kind tag (Some h) + held_counts_of kind tag next)
    → same_tag h.tag tag ≡ false → left_hand tag own was next ≡ None
left_other own was next h tag stays apart = left_none own was next (Some h) stays tag (ap (λ (b : Bool). cond {A = ℕ} b h.calls 0) apart)

module _ (own : Option Hand) (was next : Held) (h : Hand) (stays : (kind : Kind) (tag : Tag) → hand_counts_of kind tag own + held_counts_of kind tag was ≡ hand_counts_of kind tag (Some h) + held_counts_of kind tag next) (some : 0 < h.calls) where
  abbrev kept : Option Hand
  kept = Some (record h { opening = false })

  -- the place gave the call
  of_place : (w : Held) → was ≡ w → 0 < held_counts_of Calls h.tag was → left_of_place own was next ≡ kept
  of_place held.None e c = absurd (omega (arith, ap (λ (x : Held). held_counts_of Calls h.tag x) e))
  of_place held.Empty e c = absurd (omega (arith, ap (λ (x : Held). held_counts_of Calls h.tag x) e))
  of_place (held.Counted tag size) e c = go (tags_apart tag h.tag)
    where
      go : (tag ≡ h.tag) ⊎ (same_tag tag h.tag ≡ false) → left_of_place own was next ≡ kept
      go (inl is) = ap (λ (x : Held). left_of_place own x next) e ∙ (subst (λ (t : Tag). left_hand t own (held.Counted tag size) next ≡ Some (record h { opening = false })) (sym is)
          (subst (λ (x : Held). left_hand h.tag own x next ≡ Some (record h { opening = false })) e (left_some own was next h stays some)))
      go (inr apart) = absurd (omega (arith, ap (λ (x : Held). held_counts_of Calls h.tag x) e, ap (λ (b : Bool). cond {A = ℕ} b 1 0) apart))

  both : (o : Option Hand) → own ≡ o → or_hand (left_of_hand own was next) (left_of_place own was next) ≡ kept
  both None e = ap (λ (x : Option Hand). or_hand (left_of_hand x was next) (left_of_place own was next)) e
      ∙ of_place was refl (omega (arith, stays Calls h.tag, own_counts Calls h, ap (λ (x : Option Hand). hand_counts_of Calls h.tag x) e))
  both (Some g) e = go (tags_apart h.tag g.tag)
    where
      at : left_of_hand own was next ≡ left_hand g.tag own was next
      at = ap (λ (x : Option Hand). left_of_hand x was next) e ∙ ap (λ (x : Option Hand). left_hand g.tag x was next) (sym e)

      go : (h.tag ≡ g.tag) ⊎ (same_tag h.tag g.tag ≡ false) → or_hand (left_of_hand own was next) (left_of_place own was next) ≡ kept
      go (inl is) = ap (λ (x : Option Hand). or_hand x (left_of_place own was next)) (at ∙ subst (λ (t : Tag). left_hand t own was next ≡ Some (record h { opening = false })) is (left_some own was next h stays some))
      go (inr apart) =
          ap (λ (x : Option Hand). or_hand x (left_of_place own was next)) (at ∙ left_other own was next h g.tag stays apart)
          ∙ of_place was refl (omega (arith, stays Calls h.tag, own_counts Calls h, ap (λ (x : Option Hand). hand_counts_of Calls h.tag x) e, none_own (tags_apart g.tag h.tag) apart))
        where
          none_own : (g.tag ≡ h.tag) ⊎ (same_tag g.tag h.tag ≡ false) → same_tag h.tag g.tag ≡ false → hand_counts_of Calls h.tag (Some g) ≡ 0
          none_own (inl is) other = absurd (false≢true (sym other ∙ subst (λ (t : Tag). same_tag h.tag t ≡ true) (sym is) (same_tag_refl h.tag)))
          none_own (inr apart) other = ap (λ (b : Bool). cond {A = ℕ} b g.calls 0) apart

-- where no hand is left, none is found
found_none : (own : Option Hand) (was next : Held) → ((kind : Kind) (tag : Tag) → hand_counts_of kind tag own + held_counts_of kind tag was ≡ 0 + held_counts_of kind tag next) → or_hand (left_of_hand own was next) (left_of_place own was next) ≡ None
found_none own was next stays = ap (λ (x : Option Hand). or_hand x (left_of_place own was next)) (of_hand own refl) ∙ of_place was refl
  where
    nothing : (tag : Tag) → left_hand tag own was next ≡ None
    nothing tag = left_none own was next None stays tag refl

    of_hand : (o : Option Hand) → own ≡ o → left_of_hand own was next ≡ None
    of_hand None e = ap (λ (x : Option Hand). left_of_hand x was next) e
    of_hand (Some g) e = ap (λ (x : Option Hand). left_of_hand x was next) e ∙ (ap (λ (x : Option Hand). left_hand g.tag x was next) (sym e) ∙ nothing g.tag)

    of_place : (w : Held) → was ≡ w → left_of_place own was next ≡ None
    of_place held.None e = ap (λ (x : Held). left_of_place own x next) e
    of_place held.Empty e = ap (λ (x : Held). left_of_place own x next) e
    of_place (held.Counted tag size) e = ap (λ (x : Held). left_of_place own x next) e ∙ (ap (λ (x : Held). left_hand tag own x next) (sym e) ∙ nothing tag)

-- the hand that a write leaves is the one that is found
pub found_is : (own : Option Hand) (was next : Held) (hand : Option Hand) → ((kind : Kind) (tag : Tag) → hand_counts_of kind tag own + held_counts_of kind tag was ≡ hand_counts_of kind tag hand + held_counts_of kind tag next) → hand_fits hand ≡ true
    → or_hand (left_of_hand own was next) (left_of_place own was next) ≡ settled hand
found_is own was next None stays fits = found_none own was next stays
found_is own was next (Some h) stays fits = both own was next h stays (hand_fits_means h fits).some own refl

uncounted : (kind : Kind) (tag : Tag) (h : Held) → not (is_counted h) ≡ true → held_counts_of kind tag h ≡ 0
uncounted kind tag held.None e = refl
uncounted kind tag held.Empty e = refl
uncounted kind tag (held.Counted named size) e = absurd (false≢true e)

settled_fits : (o : Option Hand) → hand_fits o ≡ true → hand_fits (settled o) ≡ true
settled_fits None e = refl
settled_fits (Some h) e = let f = hand_fits_means h e in hand_fits_from (record h { opening = false }) (record { bytes = f.bytes; some = f.some; calls = f.calls; opening = refl })

is_settled_now : (o : Option Hand) → is_settled (settled o) ≡ true
is_settled_now None = refl
is_settled_now (Some h) = refl

-- where some hand makes the write a step of the rules, the hand that is found does
pub condition : (c : CpuPart) (was next : Held) (hand : Option Hand) → hand_fits c.hand ≡ true → WritesPlace c (with_hand hand c) was next → WritesPlace c (with_hand (hand_after c.hand was next) c) was next
condition c was next hand fits row = go (not (is_counted was) && not (is_counted next)) refl
  where
    go : (b : Bool) → (not (is_counted was) && not (is_counted next)) ≡ b → WritesPlace c (with_hand (hand_after c.hand was next) c) was next
    go true e =
        let none = and_parts (not (is_counted was)) (not (is_counted next)) e in
        let stay : hand_after c.hand was next ≡ c.hand = rw e refl in
        subst (λ (o : Option Hand). WritesPlace c (with_hand o c) was next) (sym stay)
        (record { place_fits = row.place_fits; hand_fits = fits; stays = λ kind tag. omega (arith, uncounted kind tag was none.0, uncounted kind tag next none.1); settled = inl refl; after = refl })
    go false e =
        let is : hand_after c.hand was next ≡ settled hand = rw e (found_is c.hand was next hand row.stays row.hand_fits) in
        subst (λ (o : Option Hand). WritesPlace c (with_hand o c) was next) (sym is)
        (record {
          place_fits = row.place_fits;
          hand_fits = settled_fits hand row.hand_fits;
          stays = λ kind tag. omega (arith, row.stays kind tag, same_amounts kind tag hand);
          settled = inr (is_settled_now hand);
          after = refl;
        })
