-- A CPU whose words and hand change while each word still moves as its count does: the sum law stays.
use Rattle.std.proofs.Common.{◌≡◌, ℕ, ◌+◌, ◌<◌, ◌≤◌, ◌≢◌, List, [], ◌∷◌, sum_by, length, slice_index, refl, ap, arith, Option, nat_le, cond, true, false, Bool}
use Rattle.tag_model.specs.declared.shape.Shape.{Shape}
use Rattle.tag_model.specs.declared.state.CpuPart.{CpuPart}
use Rattle.tag_model.specs.declared.state.Hand.{Hand}
use Rattle.tag_model.specs.declared.state.Kind.{Kind}
use Rattle.tag_model.specs.declared.state.Part.{Part}
use Rattle.tag_model.specs.declared.state.Part.TheVariants.{Cpu}
use Rattle.tag_model.specs.Laws.{SumLaw, SweepLaw, cleared, is_reading, tag_read, cpu_read}
use Rattle.tag_model.specs.Reference.{hand_counts}
use Rattle.tag_model.specs.StepRules.{Becomes, raised, lowered}
use Rattle.tag_model.specs.Wrap.{wrap, wrap_minus}
use Rattle.tag_model.specs.WordState.{word_place, word_of, word_from, counted}
use Rattle.tag_model.proofs.Alike.{alike_after, alike_cpu, sweep_alike}
use Rattle.tag_model.proofs.Words.{by_word, raised_here, raised_elsewhere, lowered_here, lowered_elsewhere, both_rise, both_fall, bound_falls}

-- the CPU's word of a kind for a tag, and what its hand counts there, rise by n; all else of them stays
pub record Rises (kind : Kind) (t n : ℕ) (c : CpuPart) (hand : Option Hand) : Type 0 where
  pub within : word_place kind t < length c.words
  pub here : hand_counts kind t hand ≡ hand_counts kind t c.hand + n
  pub elsewhere : (other : Kind) (u : ℕ) → word_place other u ≢ word_place kind t → hand_counts other u hand ≡ hand_counts other u c.hand

-- they fall by n
pub record Falls (kind : Kind) (t n : ℕ) (c : CpuPart) (hand : Option Hand) : Type 0 where
  pub within : word_place kind t < length c.words
  pub here : hand_counts kind t c.hand ≡ hand_counts kind t hand + n
  pub elsewhere : (other : Kind) (u : ℕ) → word_place other u ≢ word_place kind t → hand_counts other u hand ≡ hand_counts other u c.hand

-- ---- the sum law

pub sums_rise : (kind : Kind) (t n : ℕ) (c : CpuPart) (hand : Option Hand) (ps qs : List Part) → Rises kind t n c hand
    → Becomes (Cpu c ∷ []) (Cpu (record c { words = raised kind t n c.words; hand = hand }) ∷ []) ps qs → SumLaw ps → SumLaw qs
sums_rise kind t n c hand ps qs r b s = record {
  sums = by_word (λ other u. wrap (sum_by (word_of other u) qs) ≡ wrap (sum_by (counted other u) qs)) kind t
      (let risen = raised_here kind t n c.words r.within in
      let all = both_rise (sum_by (word_of kind t) b.rest) (slice_index c.words (word_place kind t)) (sum_by (counted kind t) b.rest) (hand_counts kind t c.hand) n
      (omega (arith, b.before (word_of kind t), b.before (counted kind t), s.sums kind t)) in
      omega (arith, b.after (word_of kind t), b.after (counted kind t), r.here))
      (λ other u ne. let same = raised_elsewhere kind t n c.words (word_place other u) ne in
      omega (arith, b.before (word_of other u), b.after (word_of other u), b.before (counted other u), b.after (counted other u), r.elsewhere other u ne, s.sums other u));
}

pub sums_fall : (kind : Kind) (t n : ℕ) (c : CpuPart) (hand : Option Hand) (ps qs : List Part) → Falls kind t n c hand
    → Becomes (Cpu c ∷ []) (Cpu (record c { words = lowered kind t n c.words; hand = hand }) ∷ []) ps qs → SumLaw ps → SumLaw qs
sums_fall kind t n c hand ps qs r b s = record {
  sums = by_word (λ other u. wrap (sum_by (word_of other u) qs) ≡ wrap (sum_by (counted other u) qs)) kind t
      (let fallen = lowered_here kind t n c.words r.within in
      let all = both_fall (sum_by (word_of kind t) b.rest) (slice_index c.words (word_place kind t)) (sum_by (counted kind t) b.rest) (hand_counts kind t hand) n
      (omega (arith, b.before (word_of kind t), b.before (counted kind t), s.sums kind t, r.here)) in
      omega (arith, b.after (word_of kind t), b.after (counted kind t)))
      (λ other u ne. let same = lowered_elsewhere kind t n c.words (word_place other u) ne in
      omega (arith, b.before (word_of other u), b.after (word_of other u), b.before (counted other u), b.after (counted other u), r.elsewhere other u ne, s.sums other u));
}

-- ---- the sweep law

-- a word that rises is none that the sweep still reads, and no count under what it has read
pub sweep_rise : (k : Shape) (kind : Kind) (t n : ℕ) (c : CpuPart) (hand : Option Hand) (ps qs : List Part) → Rises kind t n c hand
    → Becomes (Cpu c ∷ []) (Cpu (record c { words = raised kind t n c.words; hand = hand }) ∷ []) ps qs
    → (0 < sum_by (is_reading kind) ps → tag_read ps ≡ t → ⊥) → (0 < sum_by (cleared kind t) ps → ⊥) → SweepLaw k ps → SweepLaw k qs
sweep_rise k kind t n c hand ps qs r b not_read not_cleared law =
    sweep_alike k ps qs (alike_after _ _ ps qs (alike_cpu c (raised kind t n c.words) hand) b) law
    (λ of s h le.
    by_word (λ other u. (i : ℕ) → 0 < sum_by (is_reading other) ps → tag_read ps ≡ u → sum_by (counted other u) ps ≤ wrap (s + sum_by (word_from i other u) ps) → sum_by (counted other u) qs ≤ wrap (s + sum_by (word_from i other u) qs)) kind t
    (λ i reads is le. absurd (not_read reads is))
    (λ other u ne i reads is le.
    let same : cond {A = ℕ} (nat_le i c.number) (slice_index (raised kind t n c.words) (word_place other u)) 0 ≡ cond (nat_le i c.number) (slice_index c.words (word_place other u)) 0 = ap (λ x. cond {A = ℕ} (nat_le i c.number) x 0) (raised_elsewhere kind t n c.words (word_place other u) ne) in
    let words : sum_by (word_from i other u) qs ≡ sum_by (word_from i other u) ps = omega (arith, b.before (word_from i other u), b.after (word_from i other u)) in
    let counts : sum_by (counted other u) qs ≡ sum_by (counted other u) ps = omega (arith, b.before (counted other u), b.after (counted other u), r.elsewhere other u ne) in
    rw (words, counts) le)
    of (tag_read ps) (cpu_read ps) h refl le)
    (by_word (λ other u. 0 < sum_by (cleared other u) ps → sum_by (counted other u) ps ≡ 0 → sum_by (counted other u) qs ≡ 0) kind t
    (λ h e. absurd (not_cleared h))
    (λ other u ne h e. omega (arith, b.before (counted other u), b.after (counted other u), r.elsewhere other u ne)))

fall_bound : (b : Bool) (s w x c h n : ℕ) → c + (h + n) ≤ wrap (s + (w + cond b x 0)) → c + h ≤ wrap (s + (w + cond b (wrap_minus x n) 0))
fall_bound true s w x c h n e = bound_falls s w x c h n e
fall_bound false s w x c h n e = omega arith

-- a word falls with what is counted there
pub sweep_fall : (k : Shape) (kind : Kind) (t n : ℕ) (c : CpuPart) (hand : Option Hand) (ps qs : List Part) → Falls kind t n c hand
    → Becomes (Cpu c ∷ []) (Cpu (record c { words = lowered kind t n c.words; hand = hand }) ∷ []) ps qs → SweepLaw k ps → SweepLaw k qs
sweep_fall k kind t n c hand ps qs r b law =
    sweep_alike k ps qs (alike_after _ _ ps qs (alike_cpu c (lowered kind t n c.words) hand) b) law
    (λ of s h le.
    by_word (λ other u. (i : ℕ) → sum_by (counted other u) ps ≤ wrap (s + sum_by (word_from i other u) ps) → sum_by (counted other u) qs ≤ wrap (s + sum_by (word_from i other u) qs)) kind t
    (λ i le.
    let fallen : cond {A = ℕ} (nat_le i c.number) (slice_index (lowered kind t n c.words) (word_place kind t)) 0 ≡ cond (nat_le i c.number) (wrap_minus (slice_index c.words (word_place kind t)) n) 0 = ap (λ x. cond {A = ℕ} (nat_le i c.number) x 0) (lowered_here kind t n c.words r.within) in
    let was : sum_by (counted kind t) b.rest + (hand_counts kind t hand + n) ≤ wrap (s + (sum_by (word_from i kind t) b.rest + cond (nat_le i c.number) (slice_index c.words (word_place kind t)) 0)) = omega (arith, b.before (counted kind t), b.before (word_from i kind t), r.here) in
    let now = fall_bound (nat_le i c.number) s (sum_by (word_from i kind t) b.rest) (slice_index c.words (word_place kind t)) (sum_by (counted kind t) b.rest) (hand_counts kind t hand) n was in
    omega (arith, b.after (counted kind t), b.after (word_from i kind t)))
    (λ other u ne i le.
    let same : cond {A = ℕ} (nat_le i c.number) (slice_index (lowered kind t n c.words) (word_place other u)) 0 ≡ cond (nat_le i c.number) (slice_index c.words (word_place other u)) 0 = ap (λ x. cond {A = ℕ} (nat_le i c.number) x 0) (lowered_elsewhere kind t n c.words (word_place other u) ne) in
    let words : sum_by (word_from i other u) qs ≡ sum_by (word_from i other u) ps = omega (arith, b.before (word_from i other u), b.after (word_from i other u)) in
    let counts : sum_by (counted other u) qs ≡ sum_by (counted other u) ps = omega (arith, b.before (counted other u), b.after (counted other u), r.elsewhere other u ne) in
    rw (words, counts) le)
    of (tag_read ps) (cpu_read ps) le)
    (by_word (λ other u. 0 < sum_by (cleared other u) ps → sum_by (counted other u) ps ≡ 0 → sum_by (counted other u) qs ≡ 0) kind t
    (λ h e. omega (arith, b.before (counted kind t), b.after (counted kind t), r.here))
    (λ other u ne h e. omega (arith, b.before (counted other u), b.after (counted other u), r.elsewhere other u ne)))
