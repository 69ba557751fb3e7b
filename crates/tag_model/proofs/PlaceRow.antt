-- A CPU's write of a place keeps all the laws: what hand and place count stays under each tag of each module, and so under each tag number.
use Rattle.std.proofs.Common.{◌≡◌, ℕ, ◌+◌, ◌≤◌, ◌==◌, ◌&&◌, ◌⊎◌, List, [], ◌∷◌, sum_by, refl, sym, subst, inl, inr, arith, Bool, true, false, Option, Some, None, cond}
use Rattle.std.proofs.lemmas.Bool.Decides.{nat_tests}
use Rattle.tag_model.specs.declared.shape.Shape.{Shape}
use Rattle.tag_model.specs.declared.state.CpuPart.{CpuPart}
use Rattle.tag_model.specs.declared.state.Hand.{Hand}
use Rattle.tag_model.specs.declared.state.Held.{Held}
use Rattle.tag_model.specs.declared.state.Held.TheVariants as held
use Rattle.tag_model.specs.declared.state.Kind.{Kind}
use Rattle.tag_model.specs.declared.state.Kind.TheVariants.{Calls}
use Rattle.tag_model.specs.declared.state.Part.{Part}
use Rattle.tag_model.specs.declared.state.Part.TheVariants.{Cpu, Place}
use Rattle.tag_model.specs.declared.state.Run.{Run}
use Rattle.tag_model.specs.declared.state.Tag.{Tag}
use Rattle.tag_model.specs.Laws.{Safe, tag_read, cpu_read}
use Rattle.tag_model.specs.Reference.{amount, held_counts, hand_counts, held_counts_of, hand_counts_of, held_fits, is_settled}
use Rattle.tag_model.specs.Shape.{IsChecked}
use Rattle.tag_model.specs.StepRules.{WritesPlace, Becomes}
use Rattle.tag_model.specs.WordState.{word_of, word_from, counted, counted_of, part_fits, hand_may_open}
use Rattle.tag_model.proofs.Alike.{Alike, alike_after, alike_book, alike_place, each_alike, cover_alike, sweep_alike}
use Rattle.tag_model.proofs.CpuFits.{CpuFits, cpu_fits_from}
use Rattle.tag_model.proofs.CpuRows.{Seen, seen}
use Rattle.tag_model.proofs.Found.{fails_none}
use Rattle.tag_model.proofs.Parts.{becomes_same, every_after}

-- ---- what is counted under a number of a module is what is counted under the number, where it is that module's

hand_module : Option Hand → ℕ
hand_module None = 0
hand_module (Some h) = h.tag.module

held_module : Held → ℕ
held_module held.None = 0
held_module held.Empty = 0
held_module (held.Counted tag size) = tag.module

cond_both_ways : (p q : Bool) (x : ℕ) → cond {A = ℕ} (p && q) x 0 ≡ cond q (cond p x 0) 0
cond_both_ways true true x = refl
cond_both_ways true false x = refl
cond_both_ways false true x = refl
cond_both_ways false false x = refl

cond_nothing : (q : Bool) → 0 ≡ cond {A = ℕ} q 0 0
cond_nothing true = refl
cond_nothing false = refl

hand_of_module : (kind : Kind) (t m : ℕ) (o : Option Hand) → hand_counts_of kind (record { number = t; «module» = m }) o ≡ cond (hand_module o == m) (hand_counts kind t o) 0
unfolding hand_module
hand_of_module kind t m None = cond_nothing (0 == m)
hand_of_module kind t m (Some h) = cond_both_ways (h.tag.number == t) (h.tag.module == m) (amount kind h.bytes h.calls)

held_of_module : (kind : Kind) (t m : ℕ) (h : Held) → held_counts_of kind (record { number = t; «module» = m }) h ≡ cond (held_module h == m) (held_counts kind t h) 0
unfolding held_module
held_of_module kind t m held.None = cond_nothing (0 == m)
held_of_module kind t m held.Empty = cond_nothing (0 == m)
held_of_module kind t m (held.Counted tag size) = cond_both_ways (tag.number == t) (tag.module == m) (amount kind size 1)

-- two amounts that two others make up in each module are made up by them
half_of_pairs : (m1 m2 m3 m4 a1 a2 a3 a4 : ℕ) → ((m : ℕ) → cond (m1 == m) a1 0 + cond (m2 == m) a2 0 ≡ cond (m3 == m) a3 0 + cond (m4 == m) a4 0) → a1 + a2 ≤ a3 + a4
half_of_pairs m1 m2 m3 m4 a1 a2 a3 a4 h =
    let first = h m1 in
    let second = h m2 in
    grind (arith, nat_tests)

pairs : (m1 m2 m3 m4 a1 a2 a3 a4 : ℕ) → ((m : ℕ) → cond (m1 == m) a1 0 + cond (m2 == m) a2 0 ≡ cond (m3 == m) a3 0 + cond (m4 == m) a4 0) → a1 + a2 ≡ a3 + a4
pairs m1 m2 m3 m4 a1 a2 a3 a4 h = omega (arith, half_of_pairs m1 m2 m3 m4 a1 a2 a3 a4 h, half_of_pairs m3 m4 m1 m2 a3 a4 a1 a2 (λ m. sym (h m)))

pub counts_stay : (c d : Option Hand) (was next : Held)
    → ((kind : Kind) (tag : Tag) → hand_counts_of kind tag c + held_counts_of kind tag was ≡ hand_counts_of kind tag d + held_counts_of kind tag next)
    → (kind : Kind) (t : ℕ) → hand_counts kind t c + held_counts kind t was ≡ hand_counts kind t d + held_counts kind t next
counts_stay c d was next stays kind t =
    pairs (hand_module c) (held_module was) (hand_module d) (held_module next) (hand_counts kind t c) (held_counts kind t was) (hand_counts kind t d) (held_counts kind t next)
    (λ m. omega (arith, stays kind (record { number = t; «module» = m }), hand_of_module kind t m c, hand_of_module kind t m d, held_of_module kind t m was, held_of_module kind t m next))

-- ---- write-cell

pub settled_may_open : (o : Option Hand) (runs : List Run) → is_settled o ≡ true → hand_may_open o runs ≡ true
settled_may_open None runs e = refl
settled_may_open (Some h) runs e = rw e refl

pub safe-writes_place : (k : Shape) (n : ℕ) (c d : CpuPart) (was next : Held) (ps qs : List Part) → IsChecked k → WritesPlace c d was next → Becomes (Cpu c ∷ Place n was ∷ []) (Cpu d ∷ Place n next ∷ []) ps qs → Safe k ps → Safe k qs
safe-writes_place k n c d was next ps qs ok row steps safe = record {
  fits = every_after (part_fits k) v w ps qs b (omega (arith, fails_none (part_fits k (Cpu e)) (cpu_fits_from k e fit), fails_none (held_fits next) row.place_fits)) safe.fits;
  each = each_alike k ps qs (alike_book ps qs alike) safe.each;
  sums = record { sums = λ kind t. omega (arith, safe.sums.sums kind t, words kind t, counts kind t) };
  cover = cover_alike k ps qs (alike_book ps qs alike) safe.cover (λ tag h. safe.cover.named tag (omega (arith, becomes_same (counted_of Calls tag) v w ps qs b (omega (arith, row.stays Calls tag)))));
  sweep = sweep_alike k ps qs alike safe.sweep
      (λ kind s h le. rw (counts kind (tag_read ps), becomes_same (word_from (cpu_read ps) kind (tag_read ps)) v w ps qs b refl) le)
      (λ kind t h none. omega (arith, counts kind t));
}
  where
    e : CpuPart
    e = record c { hand = d.hand }

    v : List Part
    v = Cpu c ∷ Place n was ∷ []

    w : List Part
    w = Cpu e ∷ Place n next ∷ []

    b : Becomes v w ps qs
    b = subst (λ x. Becomes (Cpu c ∷ Place n was ∷ []) (Cpu x ∷ Place n next ∷ []) ps qs) row.after steps

    alike : Alike ps qs
    alike = alike_after v w ps qs (alike_place c d.hand n was next) b

    s : Seen k c ps
    s = seen k c (Place n was ∷ []) w ps qs b safe

    words : (kind : Kind) (t : ℕ) → sum_by (word_of kind t) qs ≡ sum_by (word_of kind t) ps
    words kind t = becomes_same (word_of kind t) v w ps qs b refl

    counts : (kind : Kind) (t : ℕ) → sum_by (counted kind t) qs ≡ sum_by (counted kind t) ps
    counts kind t = becomes_same (counted kind t) v w ps qs b (omega (arith, counts_stay c.hand d.hand was next row.stays kind t))

    may_open : (d.hand ≡ c.hand) ⊎ (is_settled d.hand ≡ true) → hand_may_open d.hand c.runs ≡ true
    may_open (inl same) = subst (λ o. hand_may_open o c.runs ≡ true) (sym same) s.fit.may_open
    may_open (inr settled) = settled_may_open d.hand c.runs settled

    fit : CpuFits k e
    fit = record { number = s.fit.number; words = s.fit.words; hand = row.hand_fits; may_open = may_open row.settled }
