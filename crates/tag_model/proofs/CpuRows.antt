-- Each step of a CPU on one of its words keeps all the laws.
use Rattle.std.proofs.Common.{◌≡◌, ℕ, ◌+◌, ◌-◌, ◌<◌, ◌≤◌, ◌==◌, ◌⊎◌, ◌≢◌, List, [], ◌∷◌, sum_by, refl, sym, subst, inl, inr, arith, Bool, true, false, Option, Some, None, cond, length-set, count_by, ◌∙◌}
use Rattle.std.proofs.lemmas.Bool.{cases_lt, cond_both, eqb-true, eqb-false}
use Rattle.tag_model.specs.declared.shape.Shape.{Shape}
use Rattle.tag_model.specs.declared.state.CpuPart.{CpuPart}
use Rattle.tag_model.specs.declared.state.Hand.{Hand}
use Rattle.tag_model.specs.declared.state.Kind.{Kind}
use Rattle.tag_model.specs.declared.state.Kind.TheVariants.{Bytes, Calls}
use Rattle.tag_model.specs.declared.state.Part.{Part}
use Rattle.tag_model.specs.declared.state.Part.TheVariants.{Cpu}
use Rattle.tag_model.specs.declared.state.Tag.{Tag}
use Rattle.tag_model.specs.Laws.{Safe, IsCovered, cleared, is_reading, tag_read}
use Rattle.tag_model.specs.Reference.{hand_counts, hand_counts_of, hand_fits}
use Rattle.tag_model.specs.Shape.{IsChecked}
use Rattle.tag_model.specs.StepRules.{BeginsAllocation, AddsCall, AddsBytes, SubtractsBytes, SubtractsCall, without_call, Becomes, raised, lowered, may_begin}
use Rattle.tag_model.specs.WordState.{word_place, counted, counted_of, records_with, part_fits, hand_may_open}
use Rattle.tag_model.proofs.Alike.{of_records, alike_after, alike_book, alike_cpu, each_alike, cover_alike}
use Rattle.tag_model.proofs.CpuFits.{HandFits, hand_fits_means, hand_fits_from, CpuFits, cpu_fits_means, cpu_fits_from, hand_names, counts_here, counts_elsewhere, hand_covered, opening_live}
use Rattle.tag_model.proofs.Found.{fails_none}
use Rattle.tag_model.proofs.Lists.{dead_at}
use Rattle.tag_model.proofs.Moved.{Rises, Falls, sums_rise, sums_fall, sweep_rise, sweep_fall}
use Rattle.tag_model.proofs.Parts.{TheList, the_list, every_after}
use Rattle.tag_model.proofs.Swept.{Holds, holds_first, part_passes, ListLaws, list_laws, IsLive, live_not_dead, reading_is_dead, cleared_is_dead, reading_calls_cleared, begins_live, covered_below}
use Rattle.tag_model.proofs.Words.{word_within}

-- ---- what a step on a word shares with the others

-- each tag that is counted after the step is covered, where each of the new hand is
named_after : (k : Shape) (c d : CpuPart) (ps qs : List Part) → Becomes (Cpu c ∷ []) (Cpu d ∷ []) ps qs → Safe k ps
    → ((tag : Tag) → 0 < hand_counts_of Calls tag d.hand → IsCovered k ps tag) → (tag : Tag) → 0 < sum_by (counted_of Calls tag) qs → IsCovered k ps tag
named_after k c d ps qs b safe hand tag h = go (cases_lt 0 (hand_counts_of Calls tag d.hand))
  where
    go : (0 < hand_counts_of Calls tag d.hand) ⊎ (hand_counts_of Calls tag d.hand ≤ 0) → IsCovered k ps tag
    go (inl some) = hand tag some
    go (inr none) = safe.cover.named tag (omega (arith, b.before (counted_of Calls tag), b.after (counted_of Calls tag)))

-- what a step that raises a word keeps to: in the range of a dead record it raises only where something is counted
pub record RiseStep (k : Shape) (ps : List Part) (kind : Kind) (t n : ℕ) (c : CpuPart) (hand : Option Hand) : Type 0 where
  pub rises : Rises kind t n c hand
  pub fit : CpuFits k (record c { words = raised kind t n c.words; hand = hand })
  pub named : (tag : Tag) → 0 < hand_counts_of Calls tag hand → IsCovered k ps tag
  pub not_read : 0 < sum_by (is_reading kind) ps → tag_read ps ≡ t → ⊥
  pub not_cleared : 0 < sum_by (cleared kind t) ps → ⊥
  pub held : 0 < sum_by (records_with (dead_at t)) ps → 0 < sum_by (counted kind t) ps

pub record FallStep (k : Shape) (ps : List Part) (kind : Kind) (t n : ℕ) (c : CpuPart) (hand : Option Hand) : Type 0 where
  pub falls : Falls kind t n c hand
  pub fit : CpuFits k (record c { words = lowered kind t n c.words; hand = hand })
  pub named : (tag : Tag) → 0 < hand_counts_of Calls tag hand → IsCovered k ps tag

safe_rise : (k : Shape) (kind : Kind) (t n : ℕ) (c : CpuPart) (hand : Option Hand) (ps qs : List Part) → RiseStep k ps kind t n c hand
    → Becomes (Cpu c ∷ []) (Cpu (record c { words = raised kind t n c.words; hand = hand }) ∷ []) ps qs → Safe k ps → Safe k qs
safe_rise k kind t n c hand ps qs step b safe =
    let d : CpuPart = record c { words = raised kind t n c.words; hand = hand } in
    let alike = alike_after (Cpu c ∷ []) (Cpu d ∷ []) ps qs (alike_cpu c (raised kind t n c.words) hand) b in
    record {
      fits = every_after (part_fits k) (Cpu c ∷ []) (Cpu d ∷ []) ps qs b (omega (arith, fails_none (part_fits k (Cpu d)) (cpu_fits_from k d step.fit))) safe.fits;
      each = each_alike k ps qs (alike_book ps qs alike) safe.each;
      sums = sums_rise kind t n c hand ps qs step.rises b safe.sums;
      cover = cover_alike k ps qs (alike_book ps qs alike) safe.cover (named_after k c d ps qs b safe step.named);
      sweep = sweep_rise k kind t n c hand ps qs step.rises b step.not_read step.not_cleared safe.sweep;
    }

safe_fall : (k : Shape) (kind : Kind) (t n : ℕ) (c : CpuPart) (hand : Option Hand) (ps qs : List Part) → FallStep k ps kind t n c hand
    → Becomes (Cpu c ∷ []) (Cpu (record c { words = lowered kind t n c.words; hand = hand }) ∷ []) ps qs → Safe k ps → Safe k qs
safe_fall k kind t n c hand ps qs step b safe =
    let d : CpuPart = record c { words = lowered kind t n c.words; hand = hand } in
    let alike = alike_after (Cpu c ∷ []) (Cpu d ∷ []) ps qs (alike_cpu c (lowered kind t n c.words) hand) b in
    record {
      fits = every_after (part_fits k) (Cpu c ∷ []) (Cpu d ∷ []) ps qs b (omega (arith, fails_none (part_fits k (Cpu d)) (cpu_fits_from k d step.fit))) safe.fits;
      each = each_alike k ps qs (alike_book ps qs alike) safe.each;
      sums = sums_fall kind t n c hand ps qs step.falls b safe.sums;
      cover = cover_alike k ps qs (alike_book ps qs alike) safe.cover (named_after k c d ps qs b safe step.named);
      sweep = sweep_fall k kind t n c hand ps qs step.falls b safe.sweep;
    }

-- what the laws tell of a CPU of the state, and of the module list
pub record Seen (k : Shape) (c : CpuPart) (ps : List Part) : Type 0 where
  pub stands : Holds ps (Cpu c)
  pub fit : CpuFits k c
  pub list : TheList ps
  pub laws : ListLaws k list.l

pub seen : (k : Shape) (c : CpuPart) (more w ps qs : List Part) → Becomes (Cpu c ∷ more) w ps qs → Safe k ps → Seen k c ps
seen k c more w ps qs b safe =
    let stands = holds_first (Cpu c) more w ps qs b in
    let t = the_list ps safe.each.list in
    record { stands = stands; fit = cpu_fits_means k c (part_passes (part_fits k) ps (Cpu c) stands safe.fits); list = t; laws = list_laws k ps t safe.fits safe.cover safe.sweep.fits }

-- a live tag's words may rise
live_not_read : (k : Shape) (c : CpuPart) (ps : List Part) → Seen k c ps → (kind : Kind) (t : ℕ) → IsLive k ps t → 0 < sum_by (is_reading kind) ps → tag_read ps ≡ t → ⊥
live_not_read k c ps s kind t live reads is =
    live_not_dead k ps s.list s.laws t live (subst (λ u. 0 < count_by (dead_at u) s.list.l.records) is (reading_is_dead k ps s.list s.laws kind reads))

live_not_cleared : (k : Shape) (c : CpuPart) (ps : List Part) → Seen k c ps → (kind : Kind) (t : ℕ) → IsLive k ps t → 0 < sum_by (cleared kind t) ps → ⊥
live_not_cleared k c ps s kind t live h = live_not_dead k ps s.list s.laws t live (cleared_is_dead k ps s.list s.laws kind t h)

live_not_dead_sum : (k : Shape) (c : CpuPart) (ps : List Part) → Seen k c ps → (t : ℕ) → IsLive k ps t → 0 < sum_by (records_with (dead_at t)) ps → ⊥
live_not_dead_sum k c ps s t live h = live_not_dead k ps s.list s.laws t live (omega (arith, s.list.only (records_with (dead_at t)) (of_records (dead_at t))))

cond_zero : (b : Bool) → cond {A = ℕ} b 0 0 ≡ 0
cond_zero true = refl
cond_zero false = refl

-- ---- add-call: an allocation begins

pub rise-begins_allocation : (k : Shape) (tag : Tag) (c d : CpuPart) (ps : List Part) → IsChecked k → BeginsAllocation k tag c d → Seen k c ps → Safe k ps
    → RiseStep k ps Calls tag.number 1 c (Some (record { tag = tag; bytes = 0; calls = 1; opening = true }))
rise-begins_allocation k tag c d ps ok row s safe = record {
  rises = rises;
  fit = fit;
  named = λ other h. subst (λ x. IsCovered k ps x) (hand_names other hand h) live.1;
  not_read = live_not_read k c ps s Calls tag.number live.0;
  not_cleared = live_not_cleared k c ps s Calls tag.number live.0;
  held = λ dead. absurd (live_not_dead_sum k c ps s tag.number live.0 dead);
}
  where
    hand : Hand
    hand = record { tag = tag; bytes = 0; calls = 1; opening = true }

    live : IsLive k ps tag.number × IsCovered k ps tag
    live = begins_live k c ps tag s.stands safe.cover row.allowed

    elsewhere : (other : Kind) (u : ℕ) → word_place other u ≢ word_place Calls tag.number → hand_counts other u (Some hand) ≡ hand_counts other u c.hand
    elsewhere Bytes u ne = rw row.free (cond_zero (tag.number == u))
    elsewhere Calls u ne = rw row.free (counts_elsewhere Calls u hand (λ e. ne (omega arith)))

    rises : Rises Calls tag.number 1 c (Some hand)
    rises = record { within = word_within Calls tag.number k.tags c.words (covered_below k ps s.list ok s.laws tag live.1) s.fit.words; here = rw row.free (counts_here Calls hand); elsewhere = elsewhere }

    fit : CpuFits k (record c { words = raised Calls tag.number 1 c.words; hand = Some hand })
    fit = record { number = s.fit.number; words = length-set c.words _ _ ∙ s.fit.words; hand = refl; may_open = may_open (tag.module == 0) refl row.allowed }
      where
        may_open : (b : Bool) → (tag.module == 0) ≡ b → may_begin k tag c.runs ≡ true → hand_may_open (Some hand) c.runs ≡ true
        may_open true e h = rw e refl
        may_open false e h = rw e (rw e at h)

pub safe-begins_allocation : (k : Shape) (tag : Tag) (c d : CpuPart) (ps qs : List Part) → IsChecked k → BeginsAllocation k tag c d → Becomes (Cpu c ∷ []) (Cpu d ∷ []) ps qs → Safe k ps → Safe k qs
safe-begins_allocation k tag c d ps qs ok row b safe =
    safe_rise k Calls tag.number 1 c _ ps qs (rise-begins_allocation k tag c d ps ok row (seen k c [] (Cpu d ∷ []) ps qs b safe) safe) (subst (λ x. Becomes (Cpu c ∷ []) (Cpu x ∷ []) ps qs) row.after b) safe

-- ---- add-bytes

pub rise-adds_bytes : (k : Shape) (size : ℕ) (h : Hand) (c d : CpuPart) (ps : List Part) → IsChecked k → AddsBytes size h c d → Seen k c ps → Safe k ps → RiseStep k ps Bytes h.tag.number size c (Some (record h { bytes = size }))
rise-adds_bytes k size h c d ps ok row s safe = record {
  rises = rises;
  fit = fit;
  named = λ other e. subst (λ x. IsCovered k ps x) (hand_names other hand e) covered;
  not_read = live_not_read k c ps s Bytes h.tag.number live;
  not_cleared = live_not_cleared k c ps s Bytes h.tag.number live;
  held = λ dead. absurd (live_not_dead_sum k c ps s h.tag.number live dead);
}
  where
    hand : Hand
    hand = record h { bytes = size }

    covered : IsCovered k ps h.tag
    covered = hand_covered k c h ps s.stands safe.fits safe.cover row.held

    live : IsLive k ps h.tag.number
    live = opening_live k c h ps s.list s.laws s.stands safe.fits safe.cover row.held row.opening

    elsewhere : (other : Kind) (u : ℕ) → word_place other u ≢ word_place Bytes h.tag.number → hand_counts other u (Some hand) ≡ hand_counts other u c.hand
    elsewhere Calls u ne = rw row.held refl
    elsewhere Bytes u ne = rw (row.held, counts_elsewhere Bytes u h (λ e. ne (omega arith))) (counts_elsewhere Bytes u hand (λ e. ne (omega arith)))

    rises : Rises Bytes h.tag.number size c (Some hand)
    rises = record { within = word_within Bytes h.tag.number k.tags c.words (covered_below k ps s.list ok s.laws h.tag covered) s.fit.words; here = rw row.held (omega (arith, counts_here Bytes h, counts_here Bytes hand, row.none_yet)); elsewhere = elsewhere }

    was : HandFits h
    was = hand_fits_means h (subst (λ o. hand_fits o ≡ true) row.held s.fit.hand)

    fit : CpuFits k (record c { words = raised Bytes h.tag.number size c.words; hand = Some hand })
    fit = record {
      number = s.fit.number;
      words = length-set c.words _ _ ∙ s.fit.words;
      hand = hand_fits_from hand (record { bytes = row.fits; some = was.some; calls = was.calls; opening = was.opening });
      may_open = subst (λ o. hand_may_open o c.runs ≡ true) row.held s.fit.may_open;
    }

pub safe-adds_bytes : (k : Shape) (size : ℕ) (h : Hand) (c d : CpuPart) (ps qs : List Part) → IsChecked k → AddsBytes size h c d → Becomes (Cpu c ∷ []) (Cpu d ∷ []) ps qs → Safe k ps → Safe k qs
safe-adds_bytes k size h c d ps qs ok row b safe =
    safe_rise k Bytes h.tag.number size c _ ps qs (rise-adds_bytes k size h c d ps ok row (seen k c [] (Cpu d ∷ []) ps qs b safe) safe) (subst (λ x. Becomes (Cpu c ∷ []) (Cpu x ∷ []) ps qs) row.after b) safe

-- ---- add-call: a split counts a call

pub rise-adds_call : (k : Shape) (h : Hand) (c d : CpuPart) (ps : List Part) → IsChecked k → AddsCall h c d → Seen k c ps → Safe k ps → RiseStep k ps Calls h.tag.number 1 c (Some (record h { calls = h.calls + 1 }))
rise-adds_call k h c d ps ok row s safe = record {
  rises = rises;
  fit = fit;
  named = λ other e. subst (λ x. IsCovered k ps x) (hand_names other hand e) covered;
  not_read = λ reads is.
      let none = safe.sweep.cleared Bytes (tag_read ps) (reading_calls_cleared k ps s.list s.laws reads) in
      let some : h.bytes ≤ sum_by (counted Bytes (tag_read ps)) ps = subst (λ u. h.bytes ≤ sum_by (counted Bytes u) ps) (sym is) (omega (arith, s.stands (counted Bytes h.tag.number), holds_bytes)) in
      omega (arith, row.counted);
  not_cleared = λ clears. omega (arith, safe.sweep.cleared Calls h.tag.number clears, s.stands (counted Calls h.tag.number), holds_calls, was.some);
  held = λ dead. omega (arith, s.stands (counted Calls h.tag.number), holds_calls, was.some);
}
  where
    hand : Hand
    hand = record h { calls = h.calls + 1 }

    covered : IsCovered k ps h.tag
    covered = hand_covered k c h ps s.stands safe.fits safe.cover row.held

    holds_bytes : hand_counts Bytes h.tag.number c.hand ≡ h.bytes
    holds_bytes = rw row.held (counts_here Bytes h)

    holds_calls : hand_counts Calls h.tag.number c.hand ≡ h.calls
    holds_calls = rw row.held (counts_here Calls h)

    elsewhere : (other : Kind) (u : ℕ) → word_place other u ≢ word_place Calls h.tag.number → hand_counts other u (Some hand) ≡ hand_counts other u c.hand
    elsewhere Bytes u ne = rw row.held refl
    elsewhere Calls u ne = rw (row.held, counts_elsewhere Calls u h (λ e. ne (omega arith))) (counts_elsewhere Calls u hand (λ e. ne (omega arith)))

    rises : Rises Calls h.tag.number 1 c (Some hand)
    rises = record { within = word_within Calls h.tag.number k.tags c.words (covered_below k ps s.list ok s.laws h.tag covered) s.fit.words; here = omega (arith, holds_calls, counts_here Calls hand); elsewhere = elsewhere }

    was : HandFits h
    was = hand_fits_means h (subst (λ o. hand_fits o ≡ true) row.held s.fit.hand)

    fit : CpuFits k (record c { words = raised Calls h.tag.number 1 c.words; hand = Some hand })
    fit = record {
      number = s.fit.number;
      words = length-set c.words _ _ ∙ s.fit.words;
      hand = hand_fits_from hand (record { bytes = was.bytes; some = omega (arith, was.some); calls = omega (arith, row.room); opening = rw row.settled refl });
      may_open = rw row.settled refl;
    }

pub safe-adds_call : (k : Shape) (h : Hand) (c d : CpuPart) (ps qs : List Part) → IsChecked k → AddsCall h c d → Becomes (Cpu c ∷ []) (Cpu d ∷ []) ps qs → Safe k ps → Safe k qs
safe-adds_call k h c d ps qs ok row b safe =
    safe_rise k Calls h.tag.number 1 c _ ps qs (rise-adds_call k h c d ps ok row (seen k c [] (Cpu d ∷ []) ps qs b safe) safe) (subst (λ x. Becomes (Cpu c ∷ []) (Cpu x ∷ []) ps qs) row.after b) safe

-- ---- sub-bytes

pub fall-subtracts_bytes : (k : Shape) (bytes : ℕ) (h : Hand) (c d : CpuPart) (ps : List Part) → IsChecked k → SubtractsBytes bytes h c d → Seen k c ps → Safe k ps → FallStep k ps Bytes h.tag.number bytes c (Some (record h { bytes = h.bytes - bytes }))
fall-subtracts_bytes k bytes h c d ps ok row s safe = record { falls = falls; fit = fit; named = λ other e. subst (λ x. IsCovered k ps x) (hand_names other hand e) covered }
  where
    hand : Hand
    hand = record h { bytes = h.bytes - bytes }

    covered : IsCovered k ps h.tag
    covered = hand_covered k c h ps s.stands safe.fits safe.cover row.held

    elsewhere : (other : Kind) (u : ℕ) → word_place other u ≢ word_place Bytes h.tag.number → hand_counts other u (Some hand) ≡ hand_counts other u c.hand
    elsewhere Calls u ne = rw row.held refl
    elsewhere Bytes u ne = rw (row.held, counts_elsewhere Bytes u h (λ e. ne (omega arith))) (counts_elsewhere Bytes u hand (λ e. ne (omega arith)))

    falls : Falls Bytes h.tag.number bytes c (Some hand)
    falls = record { within = word_within Bytes h.tag.number k.tags c.words (covered_below k ps s.list ok s.laws h.tag covered) s.fit.words; here = rw row.held (omega (arith, counts_here Bytes h, counts_here Bytes hand, row.within)); elsewhere = elsewhere }

    was : HandFits h
    was = hand_fits_means h (subst (λ o. hand_fits o ≡ true) row.held s.fit.hand)

    fit : CpuFits k (record c { words = lowered Bytes h.tag.number bytes c.words; hand = Some hand })
    fit = record {
      number = s.fit.number;
      words = length-set c.words _ _ ∙ s.fit.words;
      hand = hand_fits_from hand (record { bytes = omega (arith, was.bytes); some = was.some; calls = was.calls; opening = was.opening });
      may_open = rw row.settled refl;
    }

pub safe-subtracts_bytes : (k : Shape) (bytes : ℕ) (h : Hand) (c d : CpuPart) (ps qs : List Part) → IsChecked k → SubtractsBytes bytes h c d → Becomes (Cpu c ∷ []) (Cpu d ∷ []) ps qs → Safe k ps → Safe k qs
safe-subtracts_bytes k bytes h c d ps qs ok row b safe =
    safe_fall k Bytes h.tag.number bytes c _ ps qs (fall-subtracts_bytes k bytes h c d ps ok row (seen k c [] (Cpu d ∷ []) ps qs b safe) safe) (subst (λ x. Becomes (Cpu c ∷ []) (Cpu x ∷ []) ps qs) row.after b) safe

-- ---- sub-call

pub fall-subtracts_call : (k : Shape) (h : Hand) (c d : CpuPart) (ps : List Part) → IsChecked k → SubtractsCall h c d → Seen k c ps → Safe k ps → FallStep k ps Calls h.tag.number 1 c (without_call h)
fall-subtracts_call k h c d ps ok row s safe = record { falls = falls; fit = fit; named = named }
  where
    hand : Hand
    hand = record h { calls = h.calls - 1 }

    covered : IsCovered k ps h.tag
    covered = hand_covered k c h ps s.stands safe.fits safe.cover row.held

    was : HandFits h
    was = hand_fits_means h (subst (λ o. hand_fits o ≡ true) row.held s.fit.hand)

    last : (P : Option Hand → Type 0) → (h.calls ≡ 1 → P None) → ((h.calls ≡ 1 → ⊥) → P (Some hand)) → P (without_call h)
    last P none some = cond_both (h.calls == 1) None (Some hand) P (λ e. none (eqb-true h.calls 1 e)) (λ e. some (eqb-false h.calls 1 e))

    named : (tag : Tag) → 0 < hand_counts_of Calls tag (without_call h) → IsCovered k ps tag
    named tag = last (λ o. 0 < hand_counts_of Calls tag o → IsCovered k ps tag) (λ is e. absurd (omega arith)) (λ ne e. subst (λ x. IsCovered k ps x) (hand_names tag hand e) covered)

    elsewhere : (other : Kind) (u : ℕ) → word_place other u ≢ word_place Calls h.tag.number → hand_counts other u (without_call h) ≡ hand_counts other u c.hand
    elsewhere Bytes u ne = rw row.held (last (λ o. hand_counts Bytes u o ≡ hand_counts Bytes u (Some h)) (λ is. rw (row.bytes_first is) (sym (cond_zero (h.tag.number == u)))) (λ ne. refl))
    elsewhere Calls u ne = rw row.held (last (λ o. hand_counts Calls u o ≡ hand_counts Calls u (Some h)) (λ is. sym (counts_elsewhere Calls u h (λ e. ne (omega arith)))) (λ some. rw (counts_elsewhere Calls u h (λ e. ne (omega arith))) (counts_elsewhere Calls u hand (λ e. ne (omega arith)))))

    falls : Falls Calls h.tag.number 1 c (without_call h)
    falls = record {
      within = word_within Calls h.tag.number k.tags c.words (covered_below k ps s.list ok s.laws h.tag covered) s.fit.words;
      here = rw row.held (last (λ o. hand_counts Calls h.tag.number (Some h) ≡ hand_counts Calls h.tag.number o + 1) (λ is. omega (arith, counts_here Calls h)) (λ ne. omega (arith, counts_here Calls h, counts_here Calls hand, was.some)));
      elsewhere = elsewhere;
    }

    fit : CpuFits k (record c { words = lowered Calls h.tag.number 1 c.words; hand = without_call h })
    fit = record {
      number = s.fit.number;
      words = length-set c.words _ _ ∙ s.fit.words;
      hand = last (λ o. hand_fits o ≡ true) (λ is. refl) (λ ne. hand_fits_from hand (record { bytes = was.bytes; some = omega (arith, was.some); calls = omega (arith, was.calls); opening = rw row.settled refl }));
      may_open = last (λ o. hand_may_open o c.runs ≡ true) (λ is. refl) (λ ne. rw row.settled refl);
    }

pub safe-subtracts_call : (k : Shape) (h : Hand) (c d : CpuPart) (ps qs : List Part) → IsChecked k → SubtractsCall h c d → Becomes (Cpu c ∷ []) (Cpu d ∷ []) ps qs → Safe k ps → Safe k qs
safe-subtracts_call k h c d ps qs ok row b safe =
    safe_fall k Calls h.tag.number 1 c _ ps qs (fall-subtracts_call k h c d ps ok row (seen k c [] (Cpu d ∷ []) ps qs b safe) safe) (subst (λ x. Becomes (Cpu c ∷ []) (Cpu x ∷ []) ps qs) row.after b) safe
