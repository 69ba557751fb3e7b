-- A read of the sweep of a word of the CPU that is lent.
use Rattle.std.proofs.Common.{◌≡◌, ℕ, ◌+◌, ◌*◌, ◌<◌, ◌==◌, ◌⊎◌, List, [], ◌∷◌, ◌++◌, sum_by, slice_index, Some, refl, sym, ap, subst, ◌∙◌, arith, cond, inl, inr, eq-eqb, ne_eqb}
use Rattle.std.proofs.lemmas.Bool.{cases_eq}
use Rattle.std.proofs.lemmas.List.Sums.{sum_by-cons}
use Rattle.std.specs.Arc.{arc_value}
use Rattle.std.specs.Option.{IsSomeAnd}
use Rattle.atomic_table.specs.Table.{Me}
use Rattle.tag_model.specs.declared.shape.Shape.{Shape}
use Rattle.tag_model.specs.declared.state.CpuPart.{CpuPart}
use Rattle.tag_model.specs.declared.state.ListPart.{ListPart}
use Rattle.tag_model.specs.declared.state.Part.{Part}
use Rattle.tag_model.specs.declared.state.Part.TheVariants.{Cpu, Modules}
use Rattle.tag_model.specs.declared.state.Reader.{Reader}
use Rattle.tag_model.specs.declared.state.Sweep.TheVariants as sweep
use Rattle.tag_model.specs.Index.{word_index}
use Rattle.tag_model.specs.Laws.{Safe}
use Rattle.tag_model.specs.Shape.{IsChecked}
use Rattle.tag_model.specs.StepRules.{Becomes}
use Rattle.tag_model.specs.WordState.{word_place}
use Rattle.tag_model.proofs.Lent.{stand_back}
use Rattle.tag_model.proofs.Parts.{stand_before}
use Rattle.tag_model.proofs.ScanRow.{safe-scans}
use Rattle.module_list.specs.Listing.{Listing, reader_of}
use Rattle.tag_rule.specs.declared.cpu.CpuSeat.TheInside as cpu
use Rattle.tag_rule.specs.declared.modules.ListSeat.TheInside as list
use Rattle.tag_rule.specs.declared.view.View.{View}
use Rattle.tag_rule.specs.declared.words.Words.{Words}
use Rattle.tag_rule.specs.Listed.{after_read}
use Rattle.tag_rule.specs.Rule.{owns, value, view_of, Tells, Writes}
use Rattle.tag_rule.specs.Seated.{ListHolds, cpu_in, list_in}
use Rattle.tag_rule.specs.Shown.{CpuShown, ListShown}
use Rattle.tag_rule.specs.Tokens.{IsCpuSeat, IsListSeat, cpu_shown, list_shown}
use Rattle.tag_rule.proofs.CpuWords.{owns_place, here, twice}
use Rattle.tag_rule.proofs.Peeked.{is_reading, low_tag, row}
use Rattle.tag_rule.proofs.Tellings.{list_holds, tells_after}

-- what such a read tells
abbrev pub told_of_own : Shape → ℕ → Reader → CpuPart → ListPart → Type 0
told_of_own k word r c l = (word ≡ slice_index c.words (word_place r.pass r.tag)) × ListHolds k (after_read k word l)

sum_two : (f : Part → ℕ) (p q : Part) → sum_by f (p ∷ q ∷ []) ≡ f p + f q
sum_two f p q = omega (arith, sum_by-cons f p (q ∷ []), sum_by-cons f q [])

module _ (k : Shape) (c : CpuPart) (l : ListPart) (left : List ℕ) (r : Reader) (is : l.sweep ≡ sweep.Reading left r) (holds : ListHolds k l) (own : c.number ≡ r.cpu) where
  abbrev index : ℕ
  index = word_index k c.number r.pass r.tag

  abbrev place : ℕ
  place = word_place r.pass r.tag

  abbrev v : List Part
  v = Cpu c ∷ Modules l ∷ []

  low : place < 2 * k.tags
  low = twice r.pass r.tag k.tags (low_tag k l left r is holds)

  found : sum_by (value k index) v ≡ slice_index c.words place
  found = omega (arith, sum_two (value k index) (Cpu c) (Modules l), here k c place low)

  safe : (n : ℕ) → n ≡ slice_index c.words place → (ps qs : List Part) → IsChecked k → Becomes v (Cpu c ∷ Modules (after_read k n l) ∷ []) ps qs → Safe k ps → Safe k qs
  safe n e ps qs ok b is_safe = safe-scans k left r c l (after_read k n l) ps qs ok (row k l left r is holds c n own e) b is_safe

  tells : (m : ListPart) → Tells k (Cpu c ∷ Modules m ∷ []) (ListHolds k m)
  tells m ps ok b is_safe = list_holds k m ps (stand_back (Cpu c ∷ []) (Modules m ∷ []) ps (stand_before _ _ ps ps b)) is_safe

  pub looks_own : Writes k index (λ n. n) v (λ n. view_of (Cpu c ∷ Modules (after_read k n l) ∷ [])) (λ n. told_of_own k n r c l)
  looks_own = record {
    mine = omega (arith, sum_two (owns k index) (Cpu c) (Modules l), owns_place k c place low);
    owned = λ q. refl;
    exact = λ q. exact q (cases_eq q index);
    safe = safe (sum_by (value k index) v) found;
    told = λ ps ok b is_safe. (found, tells_after k v (Cpu c ∷ Modules (after_read k (sum_by (value k index) v) l) ∷ []) _ (safe (sum_by (value k index) v) found) (tells (after_read k (sum_by (value k index) v) l)) ps ok b is_safe);
  }
    where
      exact : (q : ℕ) → (q ≡ index) ⊎ (q ≡ index → ⊥) → sum_by (value k q) v ≡ cond {A = ℕ} (q == index) (sum_by (value k index) v) (sum_by (value k q) v)
      exact q (inl e) = rw (eq-eqb q index e) (ap (λ (x : ℕ). sum_by (value k x) v) e)
      exact q (inr ne) = rw (ne_eqb q index ne) refl

-- ---- the same, by what the seats keep and show
module _ (w : Words) (s : list.Inside) (p : cpu.Inside) (shown : ListShown) (other : CpuShown) (r : Reader) (same : w ≡ arc_value s.words) (mine : IsListSeat s) (there : IsCpuSeat p) (view : list_shown s ≡ shown) (view_cpu : cpu_shown p ≡ other)
    (next : IsSomeAnd (reader_of shown.part.sweep) (λ x. x.cpu ≡ other.part.number)) (is : reader_of s.kept.sweep ≡ Some r) where
  l : ListPart
  l = list_in s.seat.me.0.parts

  c : CpuPart
  c = cpu_in p.seat.me.0.parts

  holds : ListHolds w.shape l
  unfolding l
  holds = subst (λ (x : Words). ListHolds x.shape (list_in s.seat.me.0.parts)) (sym same) mine.holds

  reads : reader_of l.sweep ≡ Some r
  unfolding l
  reads = ap (λ (x : Listing). reader_of x.sweep) (sym mine.kept) ∙ is

  own : c.number ≡ r.cpu
  unfolding l c
  own =
      let here : reader_of shown.part.sweep ≡ Some r = ap (λ (x : ListShown). reader_of x.part.sweep) (sym view) ∙ reads in
      let e : r.cpu ≡ other.part.number = subst (λ o. IsSomeAnd o (λ (x : Reader). x.cpu ≡ other.part.number)) here next in
      ap (λ (x : CpuShown). x.part.number) view_cpu ∙ sym e

  together : p.seat.me.0.parts ++ s.seat.me.0.parts ≡ Cpu c ∷ Modules l ∷ []
  unfolding l c
  together = λ i. (ap (λ (m : Me (Unit {0}) View). m.0.parts) there.me) i ++ (ap (λ (m : Me (Unit {0}) View). m.0.parts) mine.me) i

  pub own_shown : (at : ℕ) → at ≡ word_index w.shape r.cpu r.pass r.tag
      → Writes w.shape at (λ n. n) (p.seat.me.0.parts ++ s.seat.me.0.parts) (λ n. view_of (Cpu (cpu_in p.seat.me.0.parts) ∷ Modules (after_read w.shape n (list_in s.seat.me.0.parts)) ∷ [])) (λ n. told_of_own w.shape n r (cpu_in p.seat.me.0.parts) (list_in s.seat.me.0.parts))
  unfolding l c
  own_shown at e =
      let there = is_reading l.sweep r reads in
      subst (λ (i : ℕ). Writes w.shape i (λ n. n) (p.seat.me.0.parts ++ s.seat.me.0.parts) (λ n. view_of (Cpu c ∷ Modules (after_read w.shape n l) ∷ [])) (λ n. told_of_own w.shape n r c l)) (sym (e ∙ ap (λ (n : ℕ). word_index w.shape n r.pass r.tag) (sym own)))
      (subst (λ (ps : List Part). Writes w.shape (word_index w.shape c.number r.pass r.tag) (λ n. n) ps (λ n. view_of (Cpu c ∷ Modules (after_read w.shape n l) ∷ [])) (λ n. told_of_own w.shape n r c l)) (sym together)
      (looks_own w.shape c l there.left r there.is holds own))
