-- A read of the sweep: the word is some CPU's, which stands in the state beside the list.
use Rattle.std.proofs.Common.{◌≡◌, ℕ, ◌+◌, ◌<◌, ◌≤◌, ◌==◌, ◌&&◌, nat_le, nat_lt, List, [], ◌∷◌, ◌++◌, sum_by, slice_index, refl, sym, ap, subst, ◌∙◌, arith, true, Some, leb-true}
use Rattle.std.specs.List.{list_all}
use Rattle.std.proofs.lemmas.Bool.{and_parts}
use Rattle.std.proofs.lemmas.List.Sums.{sum_by-cons}
use Rattle.std.proofs.lemmas.Option.{same_Some}
use Rattle.std.specs.Arc.{arc_value}
use Rattle.atomic_table.specs.Table.{Me}
use Rattle.tag_model.specs.declared.shape.Shape.{Shape}
use Rattle.tag_model.specs.declared.state.CpuPart.{CpuPart}
use Rattle.tag_model.specs.declared.state.ListPart.{ListPart}
use Rattle.tag_model.specs.declared.state.Part.{Part}
use Rattle.tag_model.specs.declared.state.Part.TheVariants.{Cpu, Modules}
use Rattle.tag_model.specs.declared.state.Reader.{Reader}
use Rattle.tag_model.specs.declared.state.Record.{Record}
use Rattle.tag_model.specs.declared.state.Sweep.{Sweep}
use Rattle.tag_model.specs.declared.state.Sweep.TheVariants as sweep
use Rattle.tag_model.specs.Index.{word_count, word_index}
use Rattle.tag_model.specs.Index.Slot.{Word}
use Rattle.tag_model.proofs.Slots.{slots_below}
use Rattle.tag_model.specs.Laws.{Safe, sweep_fits}
use Rattle.tag_model.specs.Shape.{IsChecked}
use Rattle.tag_model.specs.StepRules.{Becomes, Scans}
use Rattle.tag_model.specs.WordState.{in_range, is_cpu, record_fits, word_place}
use Rattle.tag_model.proofs.Found.{all_at}
use Rattle.tag_model.proofs.Lent.{cpu_of}
use Rattle.tag_model.proofs.Lists.{in_range_means}
use Rattle.tag_model.proofs.Parts.{stand_after}
use Rattle.tag_model.proofs.ScanRow.{ReadingFits, reading_fits, safe-scans}
use Rattle.tag_model.specs.Sweeping.{ids_left}
use Rattle.module_list.specs.Listing.{Listing, listing_of, reader_of}
use Rattle.module_list.proofs.Bare.{fits_bare}
use Rattle.module_list.proofs.Changes.{row-scans}
use Rattle.tag_rule.specs.declared.modules.ListSeat.TheInside as list
use Rattle.tag_rule.specs.declared.view.View.{View}
use Rattle.tag_rule.specs.declared.words.Words.{Words}
use Rattle.tag_rule.specs.Listed.{after_read}
use Rattle.tag_rule.specs.Reads.{ReadsWord}
use Rattle.tag_rule.specs.Rule.{owns, value, view_of, Peeks}
use Rattle.tag_rule.specs.Seated.{ListHolds, list_in}
use Rattle.tag_rule.specs.Tokens.{IsListSeat}
use Rattle.tag_rule.proofs.CpuWords.{owns_place, here, twice}
use Rattle.tag_rule.proofs.Keeps.{all_silent}
use Rattle.tag_rule.proofs.Tellings.{list_holds, instead}

-- the CPU whose word is read
record TheRead (k : Shape) (r : Reader) (word : ℕ) (v w ps qs : List Part) : Type 0 where
  cpu : CpuPart
  number : cpu.number ≡ r.cpu
  is : word ≡ slice_index cpu.words (word_place r.pass r.tag)
  becomes : Becomes (Cpu cpu ∷ v) (Cpu cpu ∷ w) ps qs

-- the reader of a sweep that reads
abbrev reader_or : Reader → Sweep → Reader
reader_or r sweep.None = r
reader_or r (sweep.Done left) = r
reader_or r (sweep.Reading left x) = x

-- what a read tells
abbrev pub told_of_read : Shape → ℕ → ListPart → Type 0
told_of_read k word l = ListHolds k (after_read k word l) × ((left : List ℕ) (r : Reader) → l.sweep ≡ sweep.Reading left r → ReadsWord k left r word l (after_read k word l))

fit_end : (k : Shape) (r : Record) → record_fits k r ≡ true → r.start + r.length ≤ k.tags
fit_end k r fit = leb-true (r.start + r.length) k.tags (and_parts (nat_lt 0 r.id && nat_lt 0 r.length && nat_le k.kernel_tags r.start) (nat_le (r.start + r.length) k.tags) fit).1

-- where a sweep of the list reads
module _ (k : Shape) (l : ListPart) (left : List ℕ) (r : Reader) (is : l.sweep ≡ sweep.Reading left r) (holds : ListHolds k l) where
  fits : ReadingFits k left r l.records
  fits = reading_fits k left r l.records (subst (λ (s : Sweep). sweep_fits k s l.records ≡ true) is holds.sweep)

  pub low_cpu : r.cpu < k.cpus
  low_cpu = fits.cpu

  pub low_tag : r.tag < k.tags
  low_tag =
      let at = fits.at in
      let within = in_range_means at.item.start at.item.length r.tag (and_parts (at.item.id == r.id) (in_range at.item.start at.item.length r.tag) at.passes).1 in
      let fit = all_at (record_fits k) at.front at.item at.back (subst (λ (xs : List Record). list_all (record_fits k) xs ≡ true) at.is holds.in_area) in
      let end = fit_end k at.item fit in
      omega (arith, within, end)

  abbrev index : ℕ
  index = word_index k r.cpu r.pass r.tag

  the_read : (word : ℕ) (w ps qs : List Part) → sum_by (value k index) ps ≡ word → sum_by (owns k index) ps ≡ 1 → Becomes (Modules l ∷ []) w ps qs → Safe k ps → TheRead k r word (Modules l ∷ []) w ps qs
  the_read word w ps qs found one b safe =
      let v : List Part = Modules l ∷ [] in
      let once : sum_by (is_cpu r.cpu) b.rest ≡ 1 = omega (arith, safe.each.cpus r.cpu low_cpu, b.before (is_cpu r.cpu)) in
      let t = cpu_of r.cpu b.rest once in
      let c : CpuPart = t.cpu in
      let place = word_place r.pass r.tag in
      let low = twice r.pass r.tag k.tags low_tag in
      let mine : owns k index (Cpu c) ≡ 1 = subst (λ (n : ℕ). owns k (word_index k n r.pass r.tag) (Cpu c) ≡ 1) t.number (owns_place k c place low) in
      let own : value k index (Cpu c) ≡ slice_index c.words place = subst (λ (n : ℕ). value k (word_index k n r.pass r.tag) (Cpu c) ≡ slice_index c.words place) t.number (here k c place low) in
      let none : sum_by (owns k index) t.stands.rest ≡ 0 = omega (arith, one, b.before (owns k index), t.stands.among (owns k index), sum_by-cons (owns k index) (Cpu c) [], mine) in
      let others = all_silent k index t.stands.rest none in
      record {
        cpu = c;
        number = t.number;
        is = omega (arith, found, b.before (value k index), t.stands.among (value k index), sum_by-cons (value k index) (Cpu c) [], own, others);
        becomes = record {
          rest = t.stands.rest;
          before = λ f. omega (arith, b.before f, t.stands.among f, sum_by-cons f (Cpu c) [], sum_by-cons f (Cpu c) v);
          after = λ f. omega (arith, b.after f, t.stands.among f, sum_by-cons f (Cpu c) [], sum_by-cons f (Cpu c) w);
        };
      }

  -- a read of the word is a step of the step rules
  pub row : (c : CpuPart) (word : ℕ) → c.number ≡ r.cpu → word ≡ slice_index c.words (word_place r.pass r.tag) → Scans k left r c l (after_read k word l)
  row c word number same = subst (λ (n : ℕ). Scans k left r c l (after_read k n l)) (sym same) (row-scans k (listing_of l) l.reads l.away left r c is number)

  pub peeks : Peeks k index (Modules l ∷ []) (λ n. view_of (Modules (after_read k n l) ∷ [])) (λ n. ListHolds k (after_read k n l) × ReadsWord k left r n l (after_read k n l))
  peeks = record {
    owned = λ n q. refl;
    exact = λ n q. refl;
    safe = λ n ps qs ok found one b safe. keeps n ps qs ok found one b safe;
    told = λ n ps ok found one b safe.
        let w : List Part = Modules (after_read k n l) ∷ [] in
        let qs : List Part = b.rest ++ w in
        let c = instead (Modules l ∷ []) w ps b in
        let t = the_read n (Modules l ∷ []) ps ps found one b safe in
        (list_holds k (after_read k n l) qs (stand_after (Modules l ∷ []) w ps qs c) (keeps n ps qs ok found one c safe), record { cpu = t.cpu; row = row t.cpu n t.number t.is; word_is = t.is });
  }
    where
      keeps : (n : ℕ) (ps qs : List Part) → IsChecked k → sum_by (value k index) ps ≡ n → sum_by (owns k index) ps ≡ 1 → Becomes (Modules l ∷ []) (Modules (after_read k n l) ∷ []) ps qs → Safe k ps → Safe k qs
      keeps n ps qs ok found one b safe =
          let t = the_read n (Modules (after_read k n l) ∷ []) ps qs found one b safe in
          safe-scans k left r t.cpu l (after_read k n l) ps qs ok (row t.cpu n t.number t.is) t.becomes safe

  -- the same, told of the one reader that the list has
  pub peeks_told : Peeks k index (Modules l ∷ []) (λ n. view_of (Modules (after_read k n l) ∷ [])) (λ n. told_of_read k n l)
  peeks_told = record {
    owned = peeks.owned;
    exact = peeks.exact;
    safe = peeks.safe;
    told = λ n ps ok found one b safe.
        let t = peeks.told n ps ok found one b safe in
        (t.0, λ ids reader at. one_reader n ids reader (sym is ∙ at) t.1);
  }
    where
      one_reader : (n : ℕ) (ids : List ℕ) (reader : Reader) → sweep.Reading left r ≡ sweep.Reading ids reader → ReadsWord k left r n l (after_read k n l) → ReadsWord k ids reader n l (after_read k n l)
      one_reader n ids reader e t = subst (λ (x : List ℕ × Reader). ReadsWord k x.0 x.1 n l (after_read k n l)) (ap (λ (s : Sweep). (ids_left s, reader_or r s)) e) t

-- ---- the same, by what the seat keeps

pub record IsReading (s : Sweep) (r : Reader) : Type 0 where
  pub left : List ℕ
  pub is : s ≡ sweep.Reading left r

pub is_reading : (s : Sweep) (r : Reader) → reader_of s ≡ Some r → IsReading s r
is_reading sweep.None r e = absurd (cc)
is_reading (sweep.Done left) r e = absurd (cc)
is_reading (sweep.Reading left x) r e = record { left = left; is = ap (λ (y : Reader). sweep.Reading left y) (same_Some x r e) }

module _ (w : Words) (s : list.Inside) (r : Reader) (same : w ≡ arc_value s.words) (mine : IsListSeat s) (is : reader_of s.kept.sweep ≡ Some r) where
  l : ListPart
  l = list_in s.seat.me.0.parts

  holds : ListHolds w.shape l
  unfolding l
  holds = subst (λ (x : Words). ListHolds x.shape (list_in s.seat.me.0.parts)) (sym same) mine.holds

  there : IsReading l.sweep r
  unfolding l
  there = is_reading (list_in s.seat.me.0.parts).sweep r (ap (λ (x : Listing). reader_of x.sweep) (sym mine.kept) ∙ is)

  pub tag_shown : r.tag < w.shape.tags
  tag_shown = low_tag w.shape l there.left r there.is holds

  pub cpu_shown : r.cpu < w.shape.cpus
  cpu_shown = low_cpu w.shape l there.left r there.is holds

  pub place_shown : (at : ℕ) → at ≡ word_index w.shape r.cpu r.pass r.tag → (0 < at) × (at < word_count w.shape)
  place_shown at e =
      let below : word_index w.shape r.cpu r.pass r.tag < word_count w.shape = slots_below w.shape (Word r.cpu r.pass r.tag) (cpu_shown, tag_shown) in
      (omega (arith, e), omega (arith, e, below))

  pub peeks_shown : (at : ℕ) → at ≡ word_index w.shape r.cpu r.pass r.tag
      → Peeks w.shape at s.seat.me.0.parts (λ n. view_of (Modules (after_read w.shape n (list_in s.seat.me.0.parts)) ∷ [])) (λ n. told_of_read w.shape n (list_in s.seat.me.0.parts))
  unfolding l
  peeks_shown at e =
      subst (λ (i : ℕ). Peeks w.shape i s.seat.me.0.parts (λ n. view_of (Modules (after_read w.shape n l) ∷ [])) (λ n. told_of_read w.shape n l)) (sym e)
      (subst (λ (m : Me (Unit {0}) View). Peeks w.shape (word_index w.shape r.cpu r.pass r.tag) m.0.parts (λ n. view_of (Modules (after_read w.shape n l) ∷ [])) (λ n. told_of_read w.shape n l)) (sym mine.me)
      (peeks_told w.shape l there.left r there.is holds))

  pub fits_shown : sweep_fits w.shape s.kept.sweep s.kept.records ≡ true
  unfolding l
  fits_shown =
      subst (λ (x : Listing). sweep_fits w.shape x.sweep x.records ≡ true) (sym mine.kept) (fits_bare w.shape (list_in s.seat.me.0.parts).sweep (list_in s.seat.me.0.parts).records ∙ holds.sweep)
