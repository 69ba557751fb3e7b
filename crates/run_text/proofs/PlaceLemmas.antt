-- What holds of each place of a walk, and one step of it.
use Rattle.std.proofs.Common.{◌≡◌, ℕ, zero, suc, ◌+◌, ◌<◌, ◌≤◌, Bool, true, false, List, [], ◌∷◌, ◌++◌, append_assoc, append-nil, map, filter, length, All, Option, None, Some, MatchOption, refl, ap, ◌∙◌, sym, subst, arith}
use Rattle.std.specs.List.{range_with_len}
use Rattle.std.proofs.lemmas.List.Elements.{All-nil, All-cons, All-append, All-filter, All-head, All-map, All-weaker}
use Rattle.module_area.specs.declared.entry.Entry.{Entry}
use Rattle.module_area.specs.declared.entry.State.{State}
use Rattle.module_area.specs.declared.entry.State.TheVariants.{Loaded, Dead}
use Rattle.tag_section.specs.Section.{Section, section_at}
use Rattle.tag_rule.specs.Shown.{Board, CpuShown}
use Rattle.reclaim.specs.State.{IsLocked, LockedShown}
use Rattle.allocinfo.specs.declared.rows.Row.{Row}
use Rattle.allocinfo.specs.Text.{AreRows, IsRow}
use Rattle.tag_iter.specs.Places.{after_place, fresh_iter, is_above, is_in, kernel_range, next_place, place_at, places_among, places_in, places_of, range_of, ranges_in}
use Rattle.tag_iter.specs.Walks.{places_left}
use Rattle.tag_iter.specs.declared.iter.TagIter.{TagIter}
use Rattle.tag_iter.specs.declared.place.TagPlace.{TagPlace}
use Rattle.tag_iter.specs.declared.range.TagRange.{TagRange}
use Rattle.tag_iter.proofs.Left.{step_left}
use Rattle.tag_iter.proofs.Order.{All-flat_map}
use Rattle.run_text.specs.Rows.{quiet_row, quiet_rows}
use Rattle.run_text.proofs.RowLemmas.{ends_low}

-- ---- each place

range_below : (a n : ℕ) → All (λ i. i < a + n) (range_with_len a n)
range_below a zero = All-nil (λ i. i < a + zero)
range_below a (suc n) =
    All-cons (λ i. i < a + suc n) a (range_with_len (a + 1) n) (omega arith)
    (All-weaker (λ i. i < a + 1 + n) (λ i. i < a + suc n) (λ i less. omega arith) (range_with_len (a + 1) n) (range_below (a + 1) n))

module _ (P : TagPlace → Type 0) where
  -- of a range
  abbrev pub OfRange : TagRange → Type 0
  OfRange range = (i : ℕ) → i < range.size → P (place_at range i)

  in_range : (range : TagRange) → OfRange range → All P (places_in range)
  in_range range each =
      All-map P (place_at range) (range_with_len 0 range.size)
      (All-weaker (λ i. i < 0 + range.size) (λ i. P (place_at range i)) (λ i less. each i (omega (arith, less))) (range_with_len 0 range.size) (range_below 0 range.size))

  in_ranges : (state : State) (entries : List Entry) → All (λ e. OfRange (range_of e)) entries → All (λ r. All P (places_in r)) (ranges_in state entries)
  in_ranges state entries each =
      All-map (λ r. All P (places_in r)) range_of (filter (is_in state) entries)
      (All-filter (is_in state) (λ e. All P (places_in (range_of e))) entries
      (All-weaker (λ e. OfRange (range_of e)) (λ e. All P (places_in (range_of e))) (λ e. in_range (range_of e)) entries each))

  pub each_place : (kept : Bool) (sections : List Section) (entries : List Entry) → OfRange (kernel_range sections) → All (λ e. OfRange (range_of e)) entries
      → All P (places_among kept sections entries)
  each_place kept sections entries kernel modules = by_kept kept
    where
      by_kept : (b : Bool) → All P (places_among b sections entries)
      by_kept true =
          All-flat_map P places_in (kernel_range sections ∷ ranges_in Loaded entries ++ ranges_in Dead entries)
          (All-cons (λ r. All P (places_in r)) (kernel_range sections) (ranges_in Loaded entries ++ ranges_in Dead entries) (in_range (kernel_range sections) kernel)
          (All-append (λ r. All P (places_in r)) (ranges_in Loaded entries) (ranges_in Dead entries) (in_ranges Loaded entries modules) (in_ranges Dead entries modules)))
      by_kept false =
          All-flat_map P places_in (kernel_range sections ∷ ranges_in Loaded entries ++ [])
          (All-cons (λ r. All P (places_in r)) (kernel_range sections) (ranges_in Loaded entries ++ []) (in_range (kernel_range sections) kernel)
          (All-append (λ r. All P (places_in r)) (ranges_in Loaded entries) [] (in_ranges Loaded entries modules) (All-nil (λ r. All P (places_in r)))))

-- ---- numbers are those of the table's tags

pub numbers_low : (kept : Bool) (l : LockedShown) → IsLocked l → length (section_at l.sections 0).tags ≤ l.board.shape.tags → All (λ (p : TagPlace). p.number < l.board.shape.tags) (places_of kept l)
numbers_low kept l locked kernel =
    each_place (λ (p : TagPlace). p.number < l.board.shape.tags) kept l.sections l.area.entries
    (λ i less. omega (arith, less, kernel))
    (All-weaker (λ (e : Entry). e.start + e.length ≤ l.board.shape.tags) (λ (e : Entry). (i : ℕ) → i < e.length → e.start + i < l.board.shape.tags) (λ e low i less. omega (arith, low, less)) l.area.entries (ends_low l locked))

-- ---- rows fit the sections

kernel_fits : (sections : List Section) (i : ℕ) → i < length (section_at sections 0).tags → 0 < length sections
kernel_fits [] i less = absurd (omega (arith, less))
kernel_fits (section ∷ sections) i less = omega arith

pub rows_fit : (kept : Bool) (l : LockedShown) (cpus : List CpuShown) → IsLocked l → All (λ (e : Entry). 0 < e.section) l.area.entries → AreRows l.sections (quiet_rows kept l cpus)
rows_fit kept l cpus locked modules =
    All-map (IsRow l.sections) (quiet_row cpus) (places_of kept l)
    (each_place (λ p. IsRow l.sections (quiet_row cpus p)) kept l.sections l.area.entries
    (λ i less. record { in_list = kernel_fits l.sections i less; in_section = less; of_module = λ is. absurd (cc is) })
    (λ k d inside i less.
    let named = locked.named k d inside in
    record { in_list = named.0; in_section = omega (arith, named.1, less); of_module = λ is. modules k d inside }))

-- ---- a walk, step by step

fresh_left : (xs : List TagPlace) → filter (is_above None) xs ≡ xs
fresh_left [] = refl
fresh_left (x ∷ xs) = ap (λ ys. x ∷ ys) (fresh_left xs)

-- a fresh walk has all places left
pub all_left : (kept : Bool) (l : LockedShown) → places_left (fresh_iter kept) l ≡ places_of kept l
all_left kept l = fresh_left (places_of kept l)

step_of : (iter : TagIter) (l : LockedShown) (next : Option TagPlace) → IsLocked l → next ≡ next_place iter l
    → MatchOption next (places_left iter l ≡ []) (λ place. places_left iter l ≡ place ∷ places_left (after_place iter next) l)
step_of iter l next locked is =
    subst (λ o. MatchOption o (places_left iter l ≡ []) (λ place. places_left iter l ≡ place ∷ places_left (after_place iter o) l)) (sym is) (step_left iter l locked)

pub step_taken : (iter : TagIter) (l : LockedShown) (next : Option TagPlace) (place : TagPlace) (then_iter : TagIter) → IsLocked l → next ≡ next_place iter l → next ≡ Some place → then_iter ≡ after_place iter next
    → places_left iter l ≡ place ∷ places_left then_iter l
step_taken iter l next place then_iter locked is some after =
    subst (λ (i : TagIter). places_left iter l ≡ place ∷ places_left i l) (sym (after ∙ ap (after_place iter) some))
    (subst (λ o. MatchOption o (places_left iter l ≡ []) (λ p. places_left iter l ≡ p ∷ places_left (after_place iter o) l)) some (step_of iter l next locked is))

pub none_taken : (iter : TagIter) (l : LockedShown) (next : Option TagPlace) → IsLocked l → next ≡ next_place iter l → next ≡ None → places_left iter l ≡ []
none_taken iter l next locked is none =
    subst (λ o. MatchOption o (places_left iter l ≡ []) (λ p. places_left iter l ≡ p ∷ places_left (after_place iter o) l)) none (step_of iter l next locked is)

-- a place that is taken has a number of the table's tags
pub place_low : (iter : TagIter) (l : LockedShown) (place : TagPlace) (rest : List TagPlace) → IsLocked l → length (section_at l.sections 0).tags ≤ l.board.shape.tags → places_left iter l ≡ place ∷ rest → place.number < l.board.shape.tags
place_low iter l place rest locked kernel left =
    let all = All-filter (is_above iter.last) (λ (p : TagPlace). p.number < l.board.shape.tags) (places_of iter.all l) (numbers_low iter.all l locked kernel) in
    All-head (λ (p : TagPlace). p.number < l.board.shape.tags) place rest (subst (All (λ (p : TagPlace). p.number < l.board.shape.tags)) left all)

-- so each CPU of the table has words for it
pub words_for : (board : Board) (cpus : List CpuShown) (number : ℕ) → All (λ (c : CpuShown). c.board ≡ board) cpus → number < board.shape.tags → All (λ (c : CpuShown). number < c.board.shape.tags) cpus
words_for board cpus number tables low =
    All-weaker (λ (c : CpuShown). c.board ≡ board) (λ (c : CpuShown). number < c.board.shape.tags) (λ c same. subst (λ (b : Board). number < b.shape.tags) (sym same) low) cpus tables

-- ---- the loop over the places

pub smaller : (place : TagPlace) (places rest : List TagPlace) → places ≡ place ∷ rest → length rest < length places
smaller place places rest left = subst (λ (ps : List TagPlace). length rest < length ps) (sym left) (omega arith)

-- the rows so far and those of the places that are left are those of all
pub rows_begin : (kept : Bool) (l : LockedShown) (cpus : List CpuShown) (rows : List Row) (iter : TagIter) → rows ≡ [] → iter ≡ fresh_iter kept → rows ++ map (quiet_row cpus) (places_left iter l) ≡ quiet_rows kept l cpus
rows_begin kept l cpus rows iter none fresh =
    ap (λ (rs : List Row). rs ++ map (quiet_row cpus) (places_left iter l)) none
    ∙ ap (λ (i : TagIter). map (quiet_row cpus) (places_left i l)) fresh
    ∙ ap (map (quiet_row cpus)) (all_left kept l)

pub rows_more : (cpus lent : List CpuShown) (rows next all : List Row) (places rest : List TagPlace) (place : TagPlace) (row : Row) → rows ++ map (quiet_row cpus) places ≡ all → places ≡ place ∷ rest
    → lent ≡ cpus → row ≡ quiet_row lent place → next ≡ rows ++ row ∷ [] → next ++ map (quiet_row cpus) rest ≡ all
rows_more cpus lent rows next all places rest place row so_far left same is pushed =
    ap (λ (rs : List Row). rs ++ map (quiet_row cpus) rest) (pushed ∙ ap (λ (r : Row). rows ++ r ∷ []) (is ∙ ap (λ cs. quiet_row cs place) same))
    ∙ append_assoc rows (quiet_row cpus place ∷ []) (map (quiet_row cpus) rest)
    ∙ ap (λ ps. rows ++ map (quiet_row cpus) ps) (sym left)
    ∙ so_far

pub rows_end : (cpus : List CpuShown) (rows all : List Row) (places : List TagPlace) → rows ++ map (quiet_row cpus) places ≡ all → places ≡ [] → rows ≡ all
rows_end cpus rows all places so_far left = sym (append-nil rows) ∙ ap (λ ps. rows ++ map (quiet_row cpus) ps) (sym left) ∙ so_far
