-- What is in hand while a reference is shared out or exchanged, and that each write may be taken.
use Rattle.std.proofs.Common.{◌≡◌, ℕ, ◌+◌, ◌-◌, ◌==◌, true, false, IsTrue, Option, Some, None, ◌⊎◌, refl, ap, sym, ◌∙◌, subst, arith, inl, inr}
use Rattle.std.proofs.lemmas.Bool.{and_parts, eqb-true, cases_Bool, both_ways}
use Rattle.std.proofs.lemmas.Grind.{common_steps}
use Rattle.tag_model.specs.declared.state.CpuPart.{CpuPart}
use Rattle.tag_model.specs.declared.state.Hand.{Hand}
use Rattle.tag_model.specs.declared.state.Held.{Held}
use Rattle.tag_model.specs.declared.state.Held.TheVariants as held
use Rattle.tag_model.specs.declared.state.Kind.{Kind}
use Rattle.tag_model.specs.declared.state.Kind.TheVariants.{Calls}
use Rattle.tag_model.specs.declared.state.Tag.{Tag}
use Rattle.tag_model.specs.Reference.{same_tag, held_fits, hand_fits, is_settled, held_counts_of, hand_counts_of}
use Rattle.tag_model.specs.RefMoves.{split_moves}
use Rattle.tag_model.specs.StepRules.{AddsCall, WritesPlace, raised}
use Rattle.tag_model.proofs.MovedWords.{raises_is}
use Rattle.tag_rule.specs.Shown.{CpuShown}
use Rattle.tag_rule.specs.Steps.{with_hand, hand_after}
use Rattle.tag_ref.specs.Refs.{moved_by}
use Rattle.tag_ref.proofs.Halves.{parted_hand, two_calls}
use Rattle.tag_ref.proofs.RefSteps.{one_call, taken, given, made, at_rest, same_itself, same_shown, shown, wrote}

-- ---- a reference that two cells share

-- the call is added while the whole reference is in hand
pub adds_call : (cpu cleared counted : CpuShown) (tag : Tag) (bytes : ℕ) → cleared ≡ shown cpu.board (made cpu.part cpu.part.words (Some (one_call tag bytes false)))
    → ((hand : Hand) → cleared.part.hand ≡ Some hand → AddsCall hand cleared.part counted.part) → counted.board ≡ cleared.board
    → counted ≡ shown cpu.board (made cpu.part (raised Calls tag.number 1 cpu.part.words) (Some (two_calls tag bytes)))
adds_call cpu cleared counted tag bytes is adds board =
    let a = adds (one_call tag bytes false) (ap (λ (p : CpuShown). p.part.hand) is) in
    same_shown counted.board cpu.board counted.part _ (board ∙ ap (λ (p : CpuShown). p.board) is)
    (a.after ∙ ap (λ (p : CpuShown). made p.part (raised Calls tag.number 1 p.part.words) (Some (two_calls tag bytes))) is)

-- the first cell has its half
pub first_half : (cpu counted after : CpuShown) (was : Held) (tag : Tag) (half : ℕ) → was ≡ held.None
    → counted ≡ shown cpu.board (made cpu.part (raised Calls tag.number 1 cpu.part.words) (Some (two_calls tag (half + half))))
    → after ≡ wrote counted was (held.Counted tag half)
    → after ≡ shown cpu.board (made cpu.part (raised Calls tag.number 1 cpu.part.words) (Some (one_call tag half false)))
first_half cpu counted after was tag half none is write =
    let left : Option Hand → CpuShown = λ hand. shown cpu.board (made cpu.part (raised Calls tag.number 1 cpu.part.words) hand) in
    write ∙ ap (λ h. wrote counted h (held.Counted tag half)) none ∙ ap (λ (p : CpuShown). wrote p held.None (held.Counted tag half)) is ∙ ap left (parted_hand tag half)

-- the second cell has its half, and nothing is in hand
pub both_halves : (cpu before after : CpuShown) (was whole : Held) (tag : Tag) (half : ℕ) → cpu.part.hand ≡ None → was ≡ held.None → whole ≡ held.Counted tag (half + half)
    → before ≡ shown cpu.board (made cpu.part (raised Calls tag.number 1 cpu.part.words) (Some (one_call tag half false)))
    → after ≡ wrote before was (held.Counted tag half)
    → after ≡ moved_by (split_moves cpu.part.number 2 whole) cpu
both_halves cpu before after was whole tag half free none all is write =
    write ∙ ap (λ h. wrote before h (held.Counted tag half)) none ∙ ap (λ (p : CpuShown). wrote p held.None (held.Counted tag half)) is
    ∙ ap (shown cpu.board) (at_rest cpu.part (raised Calls tag.number 1 cpu.part.words) _ _ free (sym (raises_is cpu.part.number Calls tag 1 cpu.part.words)) (given tag half false))
    ∙ ap (λ h. moved_by (split_moves cpu.part.number 2 h) cpu) (sym all)

-- ---- two references that are exchanged

-- what is in hand of what a cell held
abbrev pub in_hand : Held → Option Hand
in_hand held.None = None
in_hand held.Empty = None
in_hand (held.Counted tag size) = Some (one_call tag size false)

-- both name one line where the test says so
same_is : (a b : Tag) → same_tag a b ≡ true → a ≡ b
same_is a b e =
    let both = and_parts (a.number == b.number) (a.module == b.module) e in
    let number = eqb-true a.number b.number both.0 in
    let part = eqb-true a.module b.module both.1 in
    let with_number : ℕ → Tag = λ n. record { number = n; «module» = a.module } in
    let with_module : ℕ → Tag = λ m. record { number = b.number; «module» = m } in
    ap with_number number ∙ ap with_module part

other_way : (a b : Tag) → same_tag a b ≡ false → same_tag b a ≡ false
other_way a b e = elim (cases_Bool (same_tag b a)) [
  | inl same ↦ absurd (both_ways (same_tag a b) e (ap (λ t. same_tag t b) (sym (same_is b a same)) ∙ same_itself b))
  | inr other ↦ other
]

-- what is in hand goes into a cell, and what the cell held is in hand
pub exchange : (given_up was : Held) → hand_after (in_hand given_up) was given_up ≡ in_hand was
exchange held.None held.None = refl
exchange held.None held.Empty = refl
exchange held.Empty held.None = refl
exchange held.Empty held.Empty = refl
exchange held.None (held.Counted tag size) = taken tag size
exchange held.Empty (held.Counted tag size) = rw (same_itself tag) (let n : 0 + size - 0 ≡ size = omega arith in ap (λ bytes. Some (one_call tag bytes false)) n)
exchange (held.Counted tag size) held.None = given tag size false
exchange (held.Counted tag size) held.Empty = rw (same_itself tag) refl
exchange (held.Counted tag size) (held.Counted other bytes) = go (cases_Bool (same_tag other tag))
  where
    go : (same_tag other tag ≡ true) ⊎ (same_tag other tag ≡ false) → hand_after (Some (one_call tag size false)) (held.Counted other bytes) (held.Counted tag size) ≡ Some (one_call other bytes false)
    go (inl same) =
        rw (same_itself tag, same)
        (let n : size + bytes - size ≡ bytes = omega arith in
        let named : Tag → Option Hand = λ t. Some (one_call t bytes false) in
        ap (λ left. Some (one_call tag left false)) n ∙ ap named (sym (same_is other tag same)))
    go (inr apart) =
        rw (same_itself tag, apart, other_way other tag apart, same_itself other)
        (let n : 0 + bytes - 0 ≡ bytes = omega arith in ap (λ left. Some (one_call other left false)) n)

counts_in_hand : (kind : Kind) (named : Tag) (h : Held) → hand_counts_of kind named (in_hand h) ≡ held_counts_of kind named h
counts_in_hand kind named held.None = refl
counts_in_hand kind named held.Empty = refl
counts_in_hand kind named (held.Counted tag size) = refl

hand_of_fits : (h : Held) → IsTrue (held_fits h) → IsTrue (hand_fits (in_hand h))
hand_of_fits held.None fit = refl
hand_of_fits held.Empty fit = refl
hand_of_fits (held.Counted tag size) fit = grind (arith, common_steps)

in_hand_settled : (h : Held) → IsTrue (is_settled (in_hand h))
in_hand_settled held.None = refl
in_hand_settled held.Empty = refl
in_hand_settled (held.Counted tag size) = refl

pub may_exchange : (c : CpuPart) (given_up was : Held) → c.hand ≡ in_hand given_up → IsTrue (held_fits given_up) → IsTrue (held_fits was)
    → WritesPlace c (with_hand (hand_after c.hand was given_up) c) was given_up
may_exchange c given_up was is fit was_fit =
    let after : hand_after c.hand was given_up ≡ in_hand was = ap (λ hand. hand_after hand was given_up) is ∙ exchange given_up was in
    subst (λ hand. WritesPlace c (with_hand hand c) was given_up) (sym after) (record {
      place_fits = fit;
      hand_fits = hand_of_fits was was_fit;
      stays = λ kind named.
          let here : hand_counts_of kind named c.hand ≡ hand_counts_of kind named (in_hand given_up) = ap (hand_counts_of kind named) is in
          omega (arith, here, counts_in_hand kind named given_up, counts_in_hand kind named was);
      settled = inr (in_hand_settled was);
      after = refl;
    })

-- the CPU with this in hand
abbrev pub hold : CpuShown → Option Hand → CpuShown
hold cpu hand = shown cpu.board (with_hand hand cpu.part)

pub exchanged : (cpu before after : CpuShown) (given_up was : Held) → before ≡ hold cpu (in_hand given_up) → after ≡ wrote before was given_up → after ≡ hold cpu (in_hand was)
exchanged cpu before after given_up was is write = write ∙ ap (λ (p : CpuShown). wrote p was given_up) is ∙ ap (hold cpu) (exchange given_up was)

pub none_held : (cpu : CpuShown) → cpu.part.hand ≡ None → cpu ≡ hold cpu (in_hand held.None)
none_held cpu free = ap (hold cpu) free
