-- A step on one of a CPU's own words.
use Rattle.std.proofs.Common.{◌≡◌, ◌≢◌, ℕ, ◌+◌, ◌-◌, ◌*◌, ◌^◌, ◌%◌, ◌<◌, ◌==◌, ◌⊎◌, List, [], ◌∷◌, length, slice_index, sum_by, sym, refl, ap, subst, ◌∙◌, arith, cond, true, false, inl, inr, Option, eq-eqb, ne_eqb}
use Rattle.std.proofs.lemmas.Bool.{cases_eq, cases_Bool}
use Rattle.std.proofs.lemmas.List.Sums.{sum_by-cons}
use Rattle.tag_model.specs.declared.shape.Shape.{Shape}
use Rattle.tag_model.specs.declared.state.CpuPart.{CpuPart}
use Rattle.tag_model.specs.declared.state.Hand.{Hand}
use Rattle.tag_model.specs.declared.state.Kind.{Kind}
use Rattle.tag_model.specs.declared.state.Kind.TheVariants.{Bytes, Calls}
use Rattle.tag_model.specs.declared.state.Part.{Part}
use Rattle.tag_model.specs.declared.state.Part.TheVariants.{Cpu}
use Rattle.tag_model.specs.Index.{first_word, word_index}
use Rattle.tag_model.specs.StepRules.{raised, lowered}
use Rattle.tag_model.specs.WordState.{in_range, word_place}
use Rattle.tag_model.specs.Wrap.{wrap_minus}
use Rattle.tag_model.proofs.Lists.{in_range_from, in_range_means}
use Rattle.tag_model.proofs.Places.{safe_same}
use Rattle.tag_model.proofs.Words.{word_within, raised_here, raised_elsewhere, lowered_here, lowered_elsewhere}
use Rattle.tag_rule.specs.declared.view.View.{View}
use Rattle.tag_rule.specs.declared.cpu.WordStep.{WordStep}
use Rattle.tag_rule.specs.declared.words.Words.{Words}
use Rattle.tag_rule.specs.Shown.{CpuShown}
use Rattle.tag_rule.specs.Tokens.{board_of}
use Rattle.tag_rule.specs.Parts.{KeepsCpu, raises_to, falls_to}
use Rattle.tag_rule.specs.Rule.{owns, value, view_of, Writes}
use Rattle.tag_rule.specs.Seated.{cpu_in}

pub sum_one : (f : Part → ℕ) (p : Part) → sum_by f (p ∷ []) ≡ f p
sum_one f p = omega (arith, sum_by-cons f p [])

-- the CPU has the word, and says what it is
own_place : (k : Shape) (c : CpuPart) (place : ℕ) → place < 2 * k.tags → in_range (first_word k c.number) (2 * k.tags) (first_word k c.number + place) ≡ true
own_place k c place low = in_range_from (first_word k c.number) (2 * k.tags) (first_word k c.number + place) (omega arith) (omega arith)

pub owns_place : (k : Shape) (c : CpuPart) (place : ℕ) → place < 2 * k.tags → owns k (first_word k c.number + place) (Cpu c) ≡ 1
owns_place k c place low = rw (own_place k c place low) refl

pub here : (k : Shape) (c : CpuPart) (place : ℕ) → place < 2 * k.tags → value k (first_word k c.number + place) (Cpu c) ≡ slice_index c.words place
here k c place low =
    let at : first_word k c.number + place - first_word k c.number ≡ place = omega arith in
    rw (own_place k c place low) (ap (λ (i : ℕ). slice_index c.words i) at)

elsewhere : (k : Shape) (c : CpuPart) (words : List ℕ) (hand : Option Hand) (place q : ℕ) → (q ≡ first_word k c.number + place → ⊥) → ((i : ℕ) → i ≢ place → slice_index words i ≡ slice_index c.words i)
    → value k q (Cpu (record c { words = words; hand = hand })) ≡ value k q (Cpu c)
elsewhere k c words hand place q ne same = go (cases_Bool (in_range (first_word k c.number) (2 * k.tags) q))
  where
    go : (in_range (first_word k c.number) (2 * k.tags) q ≡ true) ⊎ (in_range (first_word k c.number) (2 * k.tags) q ≡ false) → value k q (Cpu (record c { words = words; hand = hand })) ≡ value k q (Cpu c)
    go (inl e) = let m = in_range_means (first_word k c.number) (2 * k.tags) q e in let low = m.0 in rw e (same (q - first_word k c.number) (λ i. ne (omega arith)))
    go (inr e) = rw e refl

-- one of the CPU's words becomes f of what it was
pub cpu_writes : (k : Shape) (c : CpuPart) (words : List ℕ) (hand : Option Hand) (place : ℕ) (f : ℕ → ℕ) (told : ℕ → Type 0) → place < 2 * k.tags → slice_index words place ≡ f (slice_index c.words place)
    → ((i : ℕ) → i ≢ place → slice_index words i ≡ slice_index c.words i) → KeepsCpu k c (record c { words = words; hand = hand }) → told (slice_index c.words place)
    → Writes k (first_word k c.number + place) f (Cpu c ∷ []) (λ n. view_of (Cpu (record c { words = words; hand = hand }) ∷ [])) told
cpu_writes k c words hand place f told low becomes same keeps tells = record {
  mine = omega (arith, sum_one (owns k i) (Cpu c), mine);
  owned = λ q. refl;
  exact = λ q. exact q (cases_eq q i);
  safe = keeps;
  told = λ ps ok b safe. subst told (sym found) tells;
}
  where
    i : ℕ
    i = first_word k c.number + place

    d : CpuPart
    d = record c { words = words; hand = hand }

    mine : owns k i (Cpu c) ≡ 1
    mine = owns_place k c place low

    found : sum_by (value k i) (Cpu c ∷ []) ≡ slice_index c.words place
    found = sum_one (value k i) (Cpu c) ∙ here k c place low

    after : sum_by (value k i) (Cpu d ∷ []) ≡ slice_index words place
    after = sum_one (value k i) (Cpu d) ∙ here k d place low

    exact : (q : ℕ) → (q ≡ i) ⊎ (q ≡ i → ⊥) → sum_by (value k q) (Cpu d ∷ []) ≡ cond (q == i) (f (sum_by (value k i) (Cpu c ∷ []))) (sum_by (value k q) (Cpu c ∷ []))
    exact q (inl e) = rw (eq-eqb q i e) (ap (λ (x : ℕ). sum_by (value k x) (Cpu d ∷ [])) e ∙ (after ∙ (becomes ∙ ap f (sym found))))
    exact q (inr ne) = rw (ne_eqb q i ne) (sum_one (value k q) (Cpu d) ∙ (elsewhere k c words hand place q ne same ∙ sym (sum_one (value k q) (Cpu c))))

-- nothing changes
pub keeps_same : (k : Shape) (c : CpuPart) → KeepsCpu k c c
keeps_same k c ps qs ok b safe = safe_same k ps qs (λ f. omega (arith, b.before f, b.after f)) safe

-- ---- the same, by the seat's view

pub twice : (kind : Kind) (t tags : ℕ) → t < tags → word_place kind t < 2 * tags
twice Bytes t tags h = omega arith
twice Calls t tags h = omega arith

pub looks_at : (k : Shape) (v : View) (c : CpuPart) (kind : Kind) (t at number : ℕ) → v ≡ view_of (Cpu c ∷ []) → at ≡ word_index k number kind t → number ≡ c.number → t < k.tags
    → Writes k at (λ n. n) v.parts (λ n. v) (λ n. n ≡ slice_index (cpu_in v.parts).words (word_place kind t))
looks_at k v c kind t at number is where_at own low =
    let step : Writes k (word_index k c.number kind t) (λ n. n) (Cpu c ∷ []) (λ n. view_of (Cpu c ∷ [])) (λ n. n ≡ slice_index c.words (word_place kind t)) =
    cpu_writes k c c.words c.hand (word_place kind t) (λ n. n) (λ n. n ≡ slice_index c.words (word_place kind t)) (twice kind t k.tags low) refl (λ i ne. refl) (keeps_same k c) refl in
    let place : at ≡ word_index k c.number kind t = where_at ∙ ap (λ (n : ℕ). word_index k n kind t) own in
    subst (λ (i : ℕ). Writes k i (λ n. n) v.parts (λ n. v) (λ n. n ≡ slice_index (cpu_in v.parts).words (word_place kind t))) (sym place)
    (subst (λ (w : View). Writes k (word_index k c.number kind t) (λ n. n) w.parts (λ n. w) (λ n. n ≡ slice_index (cpu_in w.parts).words (word_place kind t))) (sym is) step)

module _ (k : Shape) (v : View) (c : CpuPart) (s : WordStep) (n at number : ℕ) (is : v ≡ view_of (Cpu c ∷ [])) (where_at : at ≡ word_index k number s.kind s.tag) (own : number ≡ c.number) (low : s.tag < k.tags) (long : length c.words ≡ 2 * k.tags) where
  place : at ≡ word_index k c.number s.kind s.tag
  place = where_at ∙ ap (λ (m : ℕ). word_index k m s.kind s.tag) own

  pub raises_at : KeepsCpu k c (raises_to s n c) → Writes k at (λ found. (found + n) % 2 ^ 64) v.parts (λ m. view_of (Cpu (raises_to s n (cpu_in v.parts)) ∷ [])) (λ m. Unit {0})
  raises_at keeps =
      let step : Writes k (word_index k c.number s.kind s.tag) (λ found. (found + n) % 2 ^ 64) (Cpu c ∷ []) (λ m. view_of (Cpu (raises_to s n c) ∷ [])) (λ m. Unit {0}) =
      cpu_writes k c (raised s.kind s.tag n c.words) s.hand (word_place s.kind s.tag) (λ found. (found + n) % 2 ^ 64) (λ m. Unit {0}) (twice s.kind s.tag k.tags low)
      (raised_here s.kind s.tag n c.words (word_within s.kind s.tag k.tags c.words low long)) (λ i ne. raised_elsewhere s.kind s.tag n c.words i ne) keeps tt in
      subst (λ (i : ℕ). Writes k i (λ found. (found + n) % 2 ^ 64) v.parts (λ m. view_of (Cpu (raises_to s n (cpu_in v.parts)) ∷ [])) (λ m. Unit {0})) (sym place)
      (subst (λ (w : View). Writes k (word_index k c.number s.kind s.tag) (λ found. (found + n) % 2 ^ 64) w.parts (λ m. view_of (Cpu (raises_to s n (cpu_in w.parts)) ∷ [])) (λ m. Unit {0})) (sym is) step)

  fell : (x : ℕ) → n < 2 ^ 64 → wrap_minus x n ≡ (x + (2 ^ 64 - n)) % 2 ^ 64
  fell x h = let small : n % 2 ^ 64 ≡ n = omega arith in ap (λ (m : ℕ). (x + (2 ^ 64 - m)) % 2 ^ 64) small

  pub falls_at : n < 2 ^ 64 → KeepsCpu k c (falls_to s n c) → Writes k at (λ found. (found + (2 ^ 64 - n)) % 2 ^ 64) v.parts (λ m. view_of (Cpu (falls_to s n (cpu_in v.parts)) ∷ [])) (λ m. Unit {0})
  falls_at fits keeps =
      let step : Writes k (word_index k c.number s.kind s.tag) (λ found. (found + (2 ^ 64 - n)) % 2 ^ 64) (Cpu c ∷ []) (λ m. view_of (Cpu (falls_to s n c) ∷ [])) (λ m. Unit {0}) =
      cpu_writes k c (lowered s.kind s.tag n c.words) s.hand (word_place s.kind s.tag) (λ found. (found + (2 ^ 64 - n)) % 2 ^ 64) (λ m. Unit {0}) (twice s.kind s.tag k.tags low)
      (lowered_here s.kind s.tag n c.words (word_within s.kind s.tag k.tags c.words low long) ∙ fell (slice_index c.words (word_place s.kind s.tag)) fits) (λ i ne. lowered_elsewhere s.kind s.tag n c.words i ne) keeps tt in
      subst (λ (i : ℕ). Writes k i (λ found. (found + (2 ^ 64 - n)) % 2 ^ 64) v.parts (λ m. view_of (Cpu (falls_to s n (cpu_in v.parts)) ∷ [])) (λ m. Unit {0})) (sym place)
      (subst (λ (w : View). Writes k (word_index k c.number s.kind s.tag) (λ found. (found + (2 ^ 64 - n)) % 2 ^ 64) w.parts (λ m. view_of (Cpu (falls_to s n (cpu_in w.parts)) ∷ [])) (λ m. Unit {0})) (sym is) step)

-- ---- the same, by what the seat shows: `w` is the table that a call found behind its share, which is `own`
module _ (w own : Words) (v : View) (shown : CpuShown) (s : WordStep) (n at number : ℕ) (same : w ≡ own) (is : v ≡ view_of (Cpu (cpu_in v.parts) ∷ [])) (view : record { board = board_of own; part = cpu_in v.parts } ≡ shown)
    (where_at : at ≡ word_index w.shape number s.kind s.tag) (kept : number ≡ (cpu_in v.parts).number) (low : s.tag < shown.board.shape.tags) (long : length (cpu_in v.parts).words ≡ 2 * own.shape.tags) where
  shape : w.shape ≡ shown.board.shape
  shape = ap (λ (x : Words). x.shape) same ∙ ap (λ (x : CpuShown). x.board.shape) view

  long_here : length (cpu_in v.parts).words ≡ 2 * w.shape.tags
  long_here = long ∙ ap (λ (x : Words). 2 * x.shape.tags) (sym same)

  pub raises_shown : KeepsCpu shown.board.shape shown.part (raises_to s n shown.part) → Writes w.shape at (λ found. (found + n) % 2 ^ 64) v.parts (λ m. view_of (Cpu (raises_to s n (cpu_in v.parts)) ∷ [])) (λ m. Unit {0})
  raises_shown keeps = raises_at w.shape v (cpu_in v.parts) s n at number is where_at kept (subst (λ (k : Shape). s.tag < k.tags) (sym shape) low) long_here
      (subst (λ (k : Shape). KeepsCpu k (cpu_in v.parts) (raises_to s n (cpu_in v.parts))) (sym shape) (subst (λ (x : CpuPart). KeepsCpu shown.board.shape x (raises_to s n x)) (sym (ap (λ (x : CpuShown). x.part) view)) keeps))

  pub falls_shown : n < 2 ^ 64 → KeepsCpu shown.board.shape shown.part (falls_to s n shown.part) → Writes w.shape at (λ found. (found + (2 ^ 64 - n)) % 2 ^ 64) v.parts (λ m. view_of (Cpu (falls_to s n (cpu_in v.parts)) ∷ [])) (λ m. Unit {0})
  falls_shown fits keeps = falls_at w.shape v (cpu_in v.parts) s n at number is where_at kept (subst (λ (k : Shape). s.tag < k.tags) (sym shape) low) long_here fits
      (subst (λ (k : Shape). KeepsCpu k (cpu_in v.parts) (falls_to s n (cpu_in v.parts))) (sym shape) (subst (λ (x : CpuPart). KeepsCpu shown.board.shape x (falls_to s n x)) (sym (ap (λ (x : CpuShown). x.part) view)) keeps))
