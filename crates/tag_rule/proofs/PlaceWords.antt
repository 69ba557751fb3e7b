-- A store into a cell that a CPU has for the step.
use Rattle.std.proofs.Common.{◌≡◌, ℕ, ◌+◌, ◌-◌, ◌^◌, ◌<◌, ◌≤◌, ◌==◌, ◌⊎◌, List, [], ◌∷◌, ◌++◌, take, drop, sum_by, sym, refl, ap, subst, ◌∙◌, arith, cond, Bool, true, false, inl, inr, Option, Some, None, eq-eqb, ne_eqb, ltb-true, lt-ltb}
use Rattle.std.specs.Arc.{arc_value}
use Rattle.std.specs.List.{range_with_len}
use Rattle.std.proofs.lemmas.Bool.{cases_eq, cases_lt}
use Rattle.std.proofs.lemmas.List.Sums.{sum_by-append, sum_by-cons}
use Rattle.atomic_table.specs.Table.{Me}
use Rattle.tag_model.specs.declared.shape.Shape.{Shape}
use Rattle.tag_model.specs.declared.state.CpuPart.{CpuPart}
use Rattle.tag_model.specs.declared.state.Hand.{Hand}
use Rattle.tag_model.specs.declared.state.Held.{Held}
use Rattle.tag_model.specs.declared.state.Held.TheVariants as held
use Rattle.tag_model.specs.declared.state.Kind.TheVariants.{Calls}
use Rattle.tag_model.specs.declared.state.Part.{Part}
use Rattle.tag_model.specs.declared.state.Part.TheVariants.{Cpu, Place}
use Rattle.tag_model.specs.declared.state.Tag.{Tag}
use Rattle.tag_model.specs.Reference.{hand_counts_of, held_counts_of, hand_fits, held_fits, same_tag}
use Rattle.tag_model.specs.RefWord.{held_word, number_fits}
use Rattle.tag_model.specs.Shape.{IsChecked}
use Rattle.tag_model.specs.StepRules.{Becomes, WritesPlace}
use Rattle.tag_model.proofs.CpuFits.{hand_fits_means, hand_names, hand_is_counted, same_tag_refl, same_tag_means}
use Rattle.tag_model.proofs.PlaceRow.{safe-writes_place}
use Rattle.tag_rule.specs.declared.cells.CellSeat.TheInside as cell
use Rattle.tag_rule.specs.declared.cpu.CpuSeat.TheInside as cpu
use Rattle.atomic_table.specs.declared.shared.Seat.{Seat}
use Rattle.tag_rule.specs.declared.view.View.{View}
use Rattle.tag_rule.specs.declared.words.Words.{Words}
use Rattle.tag_rule.specs.Fresh.{places}
use Rattle.tag_rule.specs.Rule.{owns, value, view_of, Writes}
use Rattle.tag_rule.specs.Seated.{cpu_in, CpuHolds, CpuKept, cell_parts, CellHolds, hand_in_tags, held_in_tags}
use Rattle.tag_rule.specs.Shown.{Board, CpuShown, CellShown}
use Rattle.tag_rule.specs.Steps.{hand_after, with_hand}
use Rattle.tag_rule.specs.Tokens.{cpu_shown, cell_shown, IsCpuSeat, IsCellSeat}
use Rattle.tag_rule.specs.Writing.{written}
use Rattle.tag_rule.proofs.Keeps.{silent, all_silent}
use Rattle.tag_rule.proofs.Spans.{behind_first, no_cell}

-- ---- the tags that are counted are the shape's

-- what counts a call under a tag names it
held_names : (k : Shape) (tag : Tag) (h : Held) → held_in_tags k h ≡ true → 0 < held_counts_of Calls tag h → tag.number < k.tags
held_names k tag held.None e some = absurd (omega arith)
held_names k tag held.Empty e some = absurd (omega arith)
held_names k tag (held.Counted named size) e some = go (same_tag named tag) refl some
  where
    go : (b : Bool) → same_tag named tag ≡ b → 0 < cond {A = ℕ} b 1 0 → tag.number < k.tags
    go true is s = subst (λ (t : Tag). t.number < k.tags) (same_tag_means named tag is) (ltb-true named.number k.tags e)
    go false is s = absurd (omega arith)

hand_low : (k : Shape) (tag : Tag) (o : Option Hand) → hand_in_tags k o ≡ true → 0 < hand_counts_of Calls tag o → tag.number < k.tags
hand_low k tag None e some = absurd (omega arith)
hand_low k tag (Some h) e some = subst (λ (t : Tag). t.number < k.tags) (hand_names tag h some) (ltb-true h.tag.number k.tags e)

counted_low : (k : Shape) (tag : Tag) (o : Option Hand) (h : Held) → hand_in_tags k o ≡ true → held_in_tags k h ≡ true → 0 < hand_counts_of Calls tag o + held_counts_of Calls tag h → tag.number < k.tags
counted_low k tag o h e f some = go (cases_lt 0 (hand_counts_of Calls tag o))
  where
    go : (0 < hand_counts_of Calls tag o) ⊎ (hand_counts_of Calls tag o ≤ 0) → tag.number < k.tags
    go (inl own) = hand_low k tag o e own
    go (inr none) = held_names k tag h f (omega arith)

module _ (k : Shape) (c : CpuPart) (was next : Held) (hand : Option Hand) (row : WritesPlace c (with_hand hand c) was next) (mine : hand_in_tags k c.hand ≡ true) (there : held_in_tags k was ≡ true) where
  pub next_in_tags : held_in_tags k next ≡ true
  next_in_tags = go next refl
    where
      go : (h : Held) → next ≡ h → held_in_tags k h ≡ true
      go held.None e = refl
      go held.Empty e = refl
      go (held.Counted tag size) e =
          let counts : held_counts_of Calls tag next ≡ 1 = ap (λ (x : Held). held_counts_of Calls tag x) e ∙ ap (λ (b : Bool). cond {A = ℕ} b 1 0) (same_tag_refl tag) in
          lt-ltb tag.number k.tags (counted_low k tag c.hand was mine there (omega (arith, row.stays Calls tag)))

  pub hand_in_tags_after : hand_in_tags k hand ≡ true
  hand_in_tags_after = go hand refl
    where
      go : (o : Option Hand) → hand ≡ o → hand_in_tags k o ≡ true
      go None e = refl
      go (Some h) e =
          let fits = hand_fits_means h (subst (λ (o : Option Hand). hand_fits o ≡ true) e row.hand_fits) in
          let counts : hand_counts_of Calls h.tag hand ≡ h.calls = ap (λ (o : Option Hand). hand_counts_of Calls h.tag o) e ∙ hand_is_counted h in
          lt-ltb h.tag.number k.tags (counted_low k h.tag c.hand was mine there (omega (arith, row.stays Calls h.tag, fits.some)))

-- a tag of the shape is within the bits of a reference
pub number_of : (k : Shape) (h : Held) → IsChecked k → held_in_tags k h ≡ true → number_fits h ≡ true
number_of k held.None ok e = refl
number_of k held.Empty ok e = refl
number_of k (held.Counted tag size) ok e = lt-ltb (tag.number + 2) (2 ^ 20) (omega (arith, ltb-true tag.number k.tags e, ok.few_tags))

-- ---- the step

narrow : (p q r s : Part) (more ps qs : List Part) → Becomes (p ∷ q ∷ more) (r ∷ s ∷ more) ps qs → Becomes (p ∷ q ∷ []) (r ∷ s ∷ []) ps qs
narrow p q r s more ps qs b = record {
  rest = b.rest ++ more;
  before = λ f. omega (arith, b.before f, sum_by-append f b.rest more, sum_by-cons f p (q ∷ more), sum_by-cons f q more, sum_by-cons f p (q ∷ []), sum_by-cons f q []);
  after = λ f. omega (arith, b.after f, sum_by-append f b.rest more, sum_by-cons f r (s ∷ more), sum_by-cons f s more, sum_by-cons f r (s ∷ []), sum_by-cons f s []);
}

module _ (k : Shape) (c : CpuPart) (first count : ℕ) (was next : Held) (hand : Option Hand) (row : WritesPlace c (with_hand hand c) was next) (low : c.number < k.cpus) (holds : CellHolds k first count was) where
  rest : List Part
  rest = places (range_with_len (first + 1) (count - 1))

  d : CpuPart
  d = with_hand hand c

  three : (f : Part → ℕ) (p q : Part) → sum_by f (p ∷ q ∷ rest) ≡ f p + (f q + sum_by f rest)
  three f p q = omega (arith, sum_by-cons f p (q ∷ rest), sum_by-cons f q rest)

  none_behind : sum_by (owns k first) rest ≡ 0
  unfolding rest
  none_behind = behind_first k first (count - 1)

  no_own : owns k first (Cpu c) ≡ 0
  no_own = no_cell k c first low holds.low

  no_words : value k first (Cpu d) ≡ 0
  unfolding d
  no_words = silent k first (Cpu d) (no_cell k d first low holds.low)

  place_at : (h : Held) → value k first (Place first h) ≡ held_word h
  place_at h = rw (eq-eqb first first refl) refl

  place_else : (q : ℕ) (h : Held) → (q ≡ first → ⊥) → value k q (Place first h) ≡ 0
  place_else q h ne = rw (ne_eqb first q (λ e. ne (sym e))) refl

  pub writes_cell : Writes k first (λ found. held_word next) (Cpu c ∷ cell_parts first count was) (λ found. view_of (written hand next (Cpu c ∷ cell_parts first count was))) (λ found. Unit {0})
  unfolding rest d
  writes_cell = record {
    mine = omega (arith, three (owns k first) (Cpu c) (Place first was), no_own, none_behind, own);
    owned = λ q. omega (arith, three (owns k q) (Cpu c) (Place first was), three (owns k q) (Cpu d) (Place first next));
    exact = λ q. exact q (cases_eq q first);
    safe = λ ps qs ok b safe. safe-writes_place k first c d was next ps qs ok row (narrow (Cpu c) (Place first was) (Cpu d) (Place first next) rest ps qs b) safe;
    told = λ ps ok b safe. tt;
  }
    where
      own : owns k first (Place first was) ≡ 1
      own = rw (eq-eqb first first refl) refl

      exact : (q : ℕ) → (q ≡ first) ⊎ (q ≡ first → ⊥)
          → sum_by (value k q) (Cpu d ∷ Place first next ∷ rest) ≡ cond (q == first) (held_word next) (sum_by (value k q) (Cpu c ∷ Place first was ∷ rest))
      exact q (inl e) = rw (eq-eqb q first e) (subst (λ (x : ℕ). sum_by (value k x) (Cpu d ∷ Place first next ∷ rest) ≡ held_word next) (sym e)
          (omega (arith, three (value k first) (Cpu d) (Place first next), place_at next, no_words, all_silent k first rest none_behind)))
      exact q (inr ne) = rw (ne_eqb q first ne) (omega (arith, three (value k q) (Cpu d) (Place first next), three (value k q) (Cpu c) (Place first was), place_else q next ne, place_else q was ne))

-- ---- the same, by what the tokens show
module _ (w : Words) (s : cpu.Inside) (t : cell.Inside) (shown : CpuShown) (cells : CellShown) (next : Held) (hand : Option Hand) (same : w ≡ arc_value s.words) (mine : IsCpuSeat s) (there : IsCellSeat t) (view : cpu_shown s ≡ shown) (other : cell_shown t ≡ cells)
    (board : cells.board ≡ shown.board) (step : WritesPlace shown.part (with_hand (hand_after shown.part.hand cells.held next) shown.part) cells.held next) (is : hand ≡ hand_after s.hand t.held next) where
  part : CpuPart
  part = cpu_in s.seat.me.0.parts

  now : WritesPlace part (with_hand hand part) t.held next
  unfolding part
  now =
      subst (λ (o : Option Hand). WritesPlace part (with_hand o part) t.held next) (sym (is ∙ ap (λ (o : Option Hand). hand_after o t.held next) mine.kept.hand_is))
      (subst (λ (h : Held). WritesPlace part (with_hand (hand_after part.hand h next) part) h next) (sym (ap (λ (x : CellShown). x.held) other))
      (subst (λ (x : CpuPart). WritesPlace x (with_hand (hand_after x.hand cells.held next) x) cells.held next) (sym (ap (λ (x : CpuShown). x.part) view)) step))

  own : Shape
  own = (arc_value s.words).shape

  shape : t.shape ≡ own
  unfolding own
  shape = ap (λ (x : CellShown). x.board.shape) other ∙ (ap (λ (b : Board). b.shape) board ∙ sym (ap (λ (x : CpuShown). x.board.shape) view))

  cell_holds : CellHolds own t.first t.count t.held
  cell_holds = subst (λ (k : Shape). CellHolds k t.first t.count t.held) shape there.holds

  low : held_in_tags own next ≡ true
  unfolding own part
  low = next_in_tags own part t.held next hand now mine.holds.in_tags cell_holds.in_tags

  pub held_shown : (held_fits next ≡ true) × (number_fits next ≡ true)
  unfolding own
  held_shown = (now.place_fits, number_of own next (arc_value s.words).checked low)

  together : s.seat.me.0.parts ++ t.seat.me.0.parts ≡ Cpu part ∷ cell_parts t.first t.count t.held
  unfolding part
  together = λ i. (ap (λ (m : Me (Unit {0}) View). m.0.parts) mine.me) i ++ (ap (λ (m : Me (Unit {0}) View). m.0.parts) there.me) i

  pub step_shown : Writes w.shape t.first (λ found. held_word next) (s.seat.me.0.parts ++ t.seat.me.0.parts) (λ found. view_of (written hand next (s.seat.me.0.parts ++ t.seat.me.0.parts))) (λ found. Unit {0})
  unfolding own part
  step_shown =
      subst (λ (x : Words). Writes x.shape t.first (λ found. held_word next) (s.seat.me.0.parts ++ t.seat.me.0.parts) (λ found. view_of (written hand next (s.seat.me.0.parts ++ t.seat.me.0.parts))) (λ found. Unit {0})) (sym same)
      (subst (λ (ps : List Part). Writes own t.first (λ found. held_word next) ps (λ found. view_of (written hand next ps)) (λ found. Unit {0})) (sym together)
      (writes_cell own part t.first t.count t.held next hand now mine.holds.number cell_holds))

  -- the two seats afterwards
  pub cpu_after : (x : Seat (Unit {0}) View) → x.table_id ≡ s.seat.table_id → x.me ≡ (view_of (take 1 (written hand next (s.seat.me.0.parts ++ t.seat.me.0.parts))), []) → IsCpuSeat (record s { seat = x; hand = hand })
  unfolding own part
  cpu_after x table me =
      let d : CpuPart = with_hand hand part in
      let m : x.me ≡ (view_of (Cpu d ∷ []), []) = me ∙ (λ i. (view_of (take 1 (written hand next (together i))), [])) in
      let is_d : cpu_in x.me.0.parts ≡ d = ap (λ (y : Me (Unit {0}) View). cpu_in y.0.parts) m in
      record {
        table = table ∙ mine.table;
        me = m ∙ ap (λ (c : CpuPart). (view_of (Cpu c ∷ []), [])) (sym is_d);
        holds = subst (λ (c : CpuPart). CpuHolds own c) (sym is_d) (record {
          number = mine.holds.number;
          long = mine.holds.long;
          hand = now.hand_fits;
          in_tags = hand_in_tags_after own part t.held next hand now mine.holds.in_tags cell_holds.in_tags;
          runs = mine.holds.runs;
        });
        kept = subst (λ (c : CpuPart). CpuKept s.number hand s.ids.items c) (sym is_d) (record { number_is = mine.kept.number_is; hand_is = refl; ids_are = mine.kept.ids_are; few = mine.kept.few });
        room = mine.room;
      }

  pub cell_after : (x : Seat (Unit {0}) View) → x.me ≡ (view_of (drop 1 (written hand next (s.seat.me.0.parts ++ t.seat.me.0.parts))), []) → IsCellSeat (record t { seat = x; held = next })
  unfolding own
  cell_after x me = record {
    me = me ∙ (λ i. (view_of (drop 1 (written hand next (together i))), []));
    holds = record {
      some = there.holds.some;
      low = there.holds.low;
      high = there.holds.high;
      held = now.place_fits;
      in_tags = subst (λ (k : Shape). held_in_tags k next ≡ true) (sym shape) low;
    };
  }

  -- what the CPU shows afterwards
  pub cpu_shows : (m : Me (Unit {0}) View) → m ≡ (view_of (take 1 (written hand next (s.seat.me.0.parts ++ t.seat.me.0.parts))), []) → cpu_in m.0.parts ≡ with_hand (hand_after shown.part.hand cells.held next) shown.part
  unfolding part
  cpu_shows m me =
      let p : part ≡ shown.part = ap (λ (x : CpuShown). x.part) view in
      let h : t.held ≡ cells.held = ap (λ (x : CellShown). x.held) other in
      ap (λ (y : Me (Unit {0}) View). cpu_in y.0.parts) (me ∙ (λ i. (view_of (take 1 (written hand next (together i))), [])))
      ∙ ap (λ (o : Option Hand). with_hand o part) (is ∙ ap (λ (o : Option Hand). hand_after o t.held next) mine.kept.hand_is)
      ∙ (λ i. with_hand (hand_after (p i).hand (h i) next) (p i))
