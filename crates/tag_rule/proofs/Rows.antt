-- Each step on a CPU's words is a row of the step rules, so it keeps what is safe; and what the seat keeps of its bounds stays.
use Rattle.std.proofs.Common.{◌≡◌, ℕ, ◌+◌, ◌-◌, ◌<◌, ◌≤◌, ◌==◌, ◌&&◌, ◌⊎◌, List, sym, refl, ap, subst, ◌∙◌, arith, true, false, nat_lt, inl, inr, Option, Some, None, ltb-true, lt-ltb, leb-true}
use Rattle.std.specs.List.{list_any, list_all}
use Rattle.std.proofs.lemmas.Bool.{cases_Bool, and_parts, cond_both, eqb-false}
use Rattle.tag_model.specs.declared.limits.TheConstants.{SIZE_END}
use Rattle.tag_model.specs.declared.shape.Shape.{Shape}
use Rattle.tag_model.specs.declared.state.CpuPart.{CpuPart}
use Rattle.tag_model.specs.declared.state.Hand.{Hand}
use Rattle.tag_model.specs.declared.state.Kind.TheVariants.{Calls}
use Rattle.tag_model.specs.declared.state.Run.{Run}
use Rattle.tag_model.specs.declared.state.Tag.{Tag}
use Rattle.tag_model.specs.Reference.{hand_fits}
use Rattle.tag_model.specs.Shape.{IsChecked}
use Rattle.tag_model.specs.StepRules.{BeginsAllocation, AddsCall, AddsBytes, SubtractsBytes, SubtractsCall, without_call, may_begin, raised}
use Rattle.tag_model.specs.WordState.{in_range}
use Rattle.tag_model.proofs.CpuFits.{HandFits, hand_fits_means, hand_fits_from}
use Rattle.tag_model.proofs.CpuRows.{safe-begins_allocation, safe-adds_call, safe-adds_bytes, safe-subtracts_bytes, safe-subtracts_call}
use Rattle.tag_model.proofs.Found.{found_any, all_at}
use Rattle.tag_model.proofs.Lists.{in_range_means}
use Rattle.tag_rule.specs.declared.cpu.WordStep.{WordStep}
use Rattle.tag_rule.specs.Parts.{KeepsCpu, bytes_step, raises_to, falls_to}
use Rattle.tag_rule.specs.Seated.{IsCpuShown, hand_in_tags, run_in_tags}
use Rattle.tag_rule.specs.Shown.{CpuShown}
use Rattle.tag_rule.specs.Steps.{MaySplit, MayAddCall, HoldsOpening, HoldsBytes, HoldsCall, with_call}

-- a tag under which the CPU may begin an allocation is one of the shape's
begins_low : (k : Shape) (tag : Tag) (runs : List Run) → IsChecked k → may_begin k tag runs ≡ true → list_all (run_in_tags k) runs ≡ true → tag.number < k.tags
begins_low k tag runs ok may all = go (cases_Bool (tag.module == 0))
  where
    go : ((tag.module == 0) ≡ true) ⊎ ((tag.module == 0) ≡ false) → tag.number < k.tags
    go (inl e) = let low : nat_lt tag.number k.kernel_tags ≡ true = rw e at may in let less = ltb-true tag.number k.kernel_tags low in omega (arith, ok.few_kernel_tags)
    go (inr e) =
        let any : list_any (λ (r : Run). (r.id == tag.module) && in_range r.start r.length tag.number) runs ≡ true = rw e at may in
        let f = found_any (λ (r : Run). (r.id == tag.module) && in_range r.start r.length tag.number) runs any in
        let fits = leb-true (f.item.start + f.item.length) k.tags (all_at (run_in_tags k) f.front f.item f.back (subst (λ (rs : List Run). list_all (run_in_tags k) rs ≡ true) f.is all)) in
        let within = in_range_means f.item.start f.item.length tag.number (and_parts (f.item.id == tag.module) (in_range f.item.start f.item.length tag.number) f.passes).1 in
        omega arith

-- what the hand has is of the shape
hand_low : (k : Shape) (o : Option Hand) (h : Hand) → hand_in_tags k o ≡ true → o ≡ Some h → h.tag.number < k.tags
hand_low k o h e is = ltb-true h.tag.number k.tags (subst (λ (x : Option Hand). hand_in_tags k x ≡ true) is e)

hand_was : (c : CpuPart) (h : Hand) → hand_fits c.hand ≡ true → c.hand ≡ Some h → HandFits h
hand_was c h e is = hand_fits_means h (subst (λ (x : Option Hand). hand_fits x ≡ true) is e)

-- what a step on a word owes
pub record Owes (cpu : CpuShown) (s : WordStep) (d : CpuPart) : Type 0 where
  pub low : s.tag < cpu.board.shape.tags
  pub hand : (hand_fits s.hand ≡ true) × (hand_in_tags cpu.board.shape s.hand ≡ true)
  pub keeps : KeepsCpu cpu.board.shape cpu.part d

-- ---- add-call

abbrev pub call_step : Tag → Hand → WordStep
call_step tag hand = record { kind = Calls; tag = tag.number; hand = Some hand }

begins_owes : (cpu : CpuShown) (tag : Tag) → IsCpuShown cpu → cpu.part.hand ≡ None → may_begin cpu.board.shape tag cpu.part.runs ≡ true
    → Owes cpu (call_step tag (with_call tag cpu.part.hand)) (raises_to (call_step tag (with_call tag cpu.part.hand)) 1 cpu.part)
begins_owes cpu tag shown free may =
    let k : Shape = cpu.board.shape in
    let c : CpuPart = cpu.part in
    let low = begins_low k tag c.runs shown.checked may shown.holds.runs in
    let d : CpuPart = raises_to (call_step tag (with_call tag c.hand)) 1 c in
    let row : BeginsAllocation k tag c d = record { free = free; allowed = may; after = ap (λ (o : Option Hand). record c { words = raised Calls tag.number 1 c.words; hand = Some (with_call tag o) }) free } in
    record { low = low; hand = (rw free refl, rw free (lt-ltb tag.number k.tags low)); keeps = λ ps qs ok b safe. safe-begins_allocation k tag c d ps qs ok row b safe }

splits_owes : (cpu : CpuShown) (tag : Tag) (h : Hand) → IsCpuShown cpu → MaySplit tag cpu h → Owes cpu (call_step tag (with_call tag cpu.part.hand)) (raises_to (call_step tag (with_call tag cpu.part.hand)) 1 cpu.part)
splits_owes cpu tag h shown may =
    let k : Shape = cpu.board.shape in
    let c : CpuPart = cpu.part in
    let was = hand_was c h shown.holds.hand may.held in
    let low : h.tag.number < k.tags = hand_low k c.hand h shown.holds.in_tags may.held in
    let low_tag : tag.number < k.tags = subst (λ (t : Tag). t.number < k.tags) may.named low in
    let d : CpuPart = raises_to (call_step tag (with_call tag c.hand)) 1 c in
    let more : Hand = record h { calls = h.calls + 1 } in
    let row : AddsCall h c d = record {
      held = may.held;
      settled = may.settled;
      counted = may.counted;
      room = may.room;
      after = λ i. record c { words = raised Calls (sym may.named i).number 1 c.words; hand = Some (with_call tag (may.held i)) };
    } in
    record {
      low = low_tag;
      hand = (
        rw may.held (hand_fits_from more (record { bytes = was.bytes; some = omega (arith, was.some); calls = omega (arith, may.room); opening = rw may.settled refl })),
        rw may.held (lt-ltb h.tag.number k.tags low),
      );
      keeps = λ ps qs ok b safe. safe-adds_call k h c d ps qs ok row b safe;
    }

pub call_owes : (cpu : CpuShown) (tag : Tag) (o : Option Hand) (hand : Hand) → IsCpuShown cpu → MayAddCall tag cpu → o ≡ cpu.part.hand → hand ≡ with_call tag o → Owes cpu (call_step tag hand) (raises_to (call_step tag hand) 1 cpu.part)
call_owes cpu tag o hand shown may own is =
    subst (λ (h : Hand). Owes cpu (call_step tag h) (raises_to (call_step tag h) 1 cpu.part)) (sym (is ∙ ap (λ (x : Option Hand). with_call tag x) own)) (go may)
  where
    go : MayAddCall tag cpu → Owes cpu (call_step tag (with_call tag cpu.part.hand)) (raises_to (call_step tag (with_call tag cpu.part.hand)) 1 cpu.part)
    go (inl (free, begins)) = begins_owes cpu tag shown free begins
    go (inr (h, splits)) = splits_owes cpu tag h shown splits

-- ---- add-bytes

pub bytes_owes : (cpu : CpuShown) (h : Hand) (size : ℕ) → IsCpuShown cpu → HoldsOpening cpu → cpu.part.hand ≡ Some h → 0 < size → size < SIZE_END → Owes cpu (bytes_step h size) (raises_to (bytes_step h size) size cpu.part)
bytes_owes cpu h size shown holds held some fits =
    let k : Shape = cpu.board.shape in
    let c : CpuPart = cpu.part in
    let was = hand_was c h shown.holds.hand held in
    let same : holds.hand ≡ h = cc (holds.held, held) in
    let row : AddsBytes size h c (raises_to (bytes_step h size) size c) = record {
      held = held;
      opening = ap (λ (x : Hand). x.opening) (sym same) ∙ holds.opening;
      none_yet = ap (λ (x : Hand). x.bytes) (sym same) ∙ holds.none_yet;
      some = some;
      fits = fits;
      after = refl;
    } in
    let low = hand_low k c.hand h shown.holds.in_tags held in
    record {
      low = low;
      hand = (hand_fits_from (record h { bytes = size }) (record { bytes = fits; some = was.some; calls = was.calls; opening = was.opening }), lt-ltb h.tag.number k.tags low);
      keeps = λ ps qs ok b safe. safe-adds_bytes k size h c (raises_to (bytes_step h size) size c) ps qs ok row b safe;
    }

-- ---- sub-bytes

pub less_owes : (cpu : CpuShown) (h : Hand) (bytes : ℕ) → IsCpuShown cpu → HoldsBytes bytes cpu → cpu.part.hand ≡ Some h → Owes cpu (bytes_step h (h.bytes - bytes)) (falls_to (bytes_step h (h.bytes - bytes)) bytes cpu.part)
less_owes cpu h bytes shown holds held =
    let k : Shape = cpu.board.shape in
    let c : CpuPart = cpu.part in
    let was = hand_was c h shown.holds.hand held in
    let same : holds.hand ≡ h = cc (holds.held, held) in
    let row : SubtractsBytes bytes h c (falls_to (bytes_step h (h.bytes - bytes)) bytes c) = record {
      held = held;
      settled = ap (λ (x : Hand). x.opening) (sym same) ∙ holds.settled;
      within = subst (λ (x : Hand). bytes ≤ x.bytes) same holds.within;
      after = refl;
    } in
    let low = hand_low k c.hand h shown.holds.in_tags held in
    record {
      low = low;
      hand = (hand_fits_from (record h { bytes = h.bytes - bytes }) (record { bytes = omega (arith, was.bytes); some = was.some; calls = was.calls; opening = was.opening }), lt-ltb h.tag.number k.tags low);
      keeps = λ ps qs ok b safe. safe-subtracts_bytes k bytes h c (falls_to (bytes_step h (h.bytes - bytes)) bytes c) ps qs ok row b safe;
    }

-- ---- sub-call

abbrev pub last_step : Hand → WordStep
last_step h = record { kind = Calls; tag = h.tag.number; hand = without_call h }

pub last_owes : (cpu : CpuShown) (h : Hand) (rest : Option Hand) → IsCpuShown cpu → HoldsCall cpu → cpu.part.hand ≡ Some h → rest ≡ without_call h → Owes cpu (record (last_step h) { hand = rest }) (falls_to (record (last_step h) { hand = rest }) 1 cpu.part)
last_owes cpu h rest shown holds held is = subst (λ (o : Option Hand). Owes cpu (record (last_step h) { hand = o }) (falls_to (record (last_step h) { hand = o }) 1 cpu.part)) (sym is) owes
  where
    k : Shape
    k = cpu.board.shape

    c : CpuPart
    c = cpu.part

    was : HandFits h
    was = hand_was c h shown.holds.hand held

    same : holds.hand ≡ h
    same = cc (holds.held, held)

    settled : h.opening ≡ false
    settled = ap (λ (x : Hand). x.opening) (sym same) ∙ holds.settled

    row : SubtractsCall h c (falls_to (last_step h) 1 c)
    row = record { held = held; settled = settled; some = was.some; bytes_first = subst (λ (x : Hand). x.calls ≡ 1 → x.bytes ≡ 0) same holds.bytes_first; after = refl }

    low : h.tag.number < k.tags
    low = hand_low k c.hand h shown.holds.in_tags held

    less : Hand
    less = record h { calls = h.calls - 1 }

    fits : hand_fits (without_call h) ≡ true
    fits = cond_both (h.calls == 1) None (Some less) (λ (o : Option Hand). hand_fits o ≡ true) (λ e. refl)
        (λ e. hand_fits_from less (record { bytes = was.bytes; some = omega (arith, was.some, eqb-false h.calls 1 e); calls = omega (arith, was.calls); opening = rw settled refl }))

    in_tags : hand_in_tags k (without_call h) ≡ true
    in_tags = cond_both (h.calls == 1) None (Some less) (λ (o : Option Hand). hand_in_tags k o ≡ true) (λ e. refl) (λ e. lt-ltb h.tag.number k.tags low)

    owes : Owes cpu (last_step h) (falls_to (last_step h) 1 c)
    owes = record { low = low; hand = (fits, in_tags); keeps = λ ps qs ok b safe. safe-subtracts_call k h c (falls_to (last_step h) 1 c) ps qs ok row b safe }
