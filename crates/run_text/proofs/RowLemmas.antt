-- The rows of a walk, where the words add up to what is live, are those of the machine.
use Rattle.std.proofs.Common.{◌≡◌, ℕ, zero, suc, ◌+◌, ◌<◌, ◌≤◌, Bool, true, false, cond, List, [], ◌∷◌, ◌++◌, append_assoc, map, filter, length, All, Option, refl, ap, ap₂, ◌∙◌, sym, arith}
use Rattle.std.specs.List.{flat_map, range_with_len}
use Rattle.std.proofs.lemmas.Grind.{flat_map-append}
use Rattle.std.proofs.lemmas.List.{map-append}
use Rattle.std.proofs.lemmas.List.Elements.{All-filter, All-head, All-tail}
use Rattle.std.proofs.lemmas.Simd.{map-map}
use Rattle.tag_model.specs.declared.state.Kind.TheVariants.{Bytes, Calls}
use Rattle.module_area.specs.declared.entry.Entry.{Entry}
use Rattle.module_area.specs.declared.entry.State.{State}
use Rattle.module_area.specs.declared.entry.State.TheVariants.{Loaded, Dead}
use Rattle.tag_section.specs.Section.{Section, section_at}
use Rattle.tag_rule.specs.Shown.{CpuShown}
use Rattle.reclaim.specs.State.{IsLocked, LockedShown}
use Rattle.allocinfo.specs.declared.rows.Row.{Row}
use Rattle.tag_iter.specs.Places.{is_in, kernel_range, place_at, places_among, places_in, range_of, ranges_in}
use Rattle.tag_iter.specs.declared.range.TagRange.{TagRange}
use Rattle.trace_play.specs.Machine.{Machine}
use Rattle.trace_play.specs.Printed.{all_rows, entry_rows, print_text, section_rows, some_rows_text, tag_row}
use Rattle.run_text.specs.Rows.{TotalsAreLive, quiet_row, quiet_rows}

-- ranges end within the table's tags
pub ends_low : (l : LockedShown) → IsLocked l → All (λ (e : Entry). e.start + e.length ≤ l.board.shape.tags) l.area.entries
ends_low l locked k d inside = omega (arith, (locked.book.in_area k d inside).1, locked.within)

map_low : {X : Type 0} (f g : ℕ → X) (a n : ℕ) → ((i : ℕ) → a ≤ i → i < a + n → f i ≡ g i) → map f (range_with_len a n) ≡ map g (range_with_len a n)
map_low f g a zero same = refl
map_low f g a (suc n) same =
    ap₂ (λ x xs. x ∷ xs) (same a (omega arith) (omega arith)) (map_low f g (a + 1) n (λ i from inside. same i (omega (arith, from)) (omega (arith, inside))))

abbrev row_of : TagRange → ℕ → ℕ → ℕ → Row
row_of range index bytes calls = record { bytes = bytes; calls = calls; section = range.section; index = index; kept = range.kept }

module _ (m : Machine) (cpus : List CpuShown) (tags : ℕ) (live : TotalsAreLive tags cpus m) where
  range_rows : (range : TagRange) → range.start + range.size ≤ tags → map (quiet_row cpus) (places_in range) ≡ section_rows m range.section range.start range.kept range.size
  range_rows range low =
      map-map (quiet_row cpus) (place_at range) (range_with_len 0 range.size)
      ∙ map_low (λ i. quiet_row cpus (place_at range i)) (tag_row m range.section range.start range.kept) 0 range.size
      (λ i from inside. ap₂ (row_of range i) (live Bytes (range.start + i) (omega (arith, low, inside))) (live Calls (range.start + i) (omega (arith, low, inside))))

  entries_rows : (entries : List Entry) → All (λ (e : Entry). e.start + e.length ≤ tags) entries → map (quiet_row cpus) (flat_map places_in (map range_of entries)) ≡ flat_map (entry_rows m) entries
  entries_rows [] low = refl
  entries_rows (e ∷ es) low =
      map-append (quiet_row cpus) (places_in (range_of e)) (flat_map places_in (map range_of es))
      ∙ ap₂ (λ xs ys. xs ++ ys) (range_rows (range_of e) (All-head (λ (e : Entry). e.start + e.length ≤ tags) e es low))
      (entries_rows es (All-tail (λ (e : Entry). e.start + e.length ≤ tags) e es low))

  -- the rows of the ranges of a state
  state_rows : (state : State) (entries : List Entry) → All (λ (e : Entry). e.start + e.length ≤ tags) entries → map (quiet_row cpus) (flat_map places_in (ranges_in state entries)) ≡ flat_map (entry_rows m) (filter (is_in state) entries)
  state_rows state entries low = entries_rows (filter (is_in state) entries) (All-filter (is_in state) (λ (e : Entry). e.start + e.length ≤ tags) entries low)

  -- the rows of these sections and entries
  abbrev pub rows_by : Bool → List Section → List Entry → List Row
  rows_by kept sections entries =
      section_rows m 0 0 false (length (section_at sections 0).tags)
      ++ flat_map (entry_rows m) (filter (is_in Loaded) entries)
      ++ cond kept (flat_map (entry_rows m) (filter (is_in Dead) entries)) []

  among_rows : (kept : Bool) (sections : List Section) (entries : List Entry) → length (section_at sections 0).tags ≤ tags → All (λ (e : Entry). e.start + e.length ≤ tags) entries
      → map (quiet_row cpus) (places_among kept sections entries) ≡ rows_by kept sections entries
  among_rows kept sections entries kernel low =
      let more : List TagRange = cond kept (ranges_in Dead entries) [] in
      let rest : map (quiet_row cpus) (flat_map places_in (ranges_in Loaded entries ++ more)) ≡ flat_map (entry_rows m) (filter (is_in Loaded) entries) ++ cond kept (flat_map (entry_rows m) (filter (is_in Dead) entries)) [] =
      ap (map (quiet_row cpus)) (flat_map-append places_in (ranges_in Loaded entries) more)
      ∙ map-append (quiet_row cpus) (flat_map places_in (ranges_in Loaded entries)) (flat_map places_in more)
      ∙ ap₂ (λ xs ys. xs ++ ys) (state_rows Loaded entries low) (dead_rows kept) in
      let first : map (quiet_row cpus) (places_in (kernel_range sections)) ≡ section_rows m 0 0 false (length (section_at sections 0).tags) = range_rows (kernel_range sections) (omega (arith, kernel)) in
      map-append (quiet_row cpus) (places_in (kernel_range sections)) (flat_map places_in (ranges_in Loaded entries ++ more))
      ∙ ap₂ (λ xs ys. xs ++ ys) first rest
      ∙ sym (append_assoc (section_rows m 0 0 false (length (section_at sections 0).tags)) (flat_map (entry_rows m) (filter (is_in Loaded) entries)) (cond kept (flat_map (entry_rows m) (filter (is_in Dead) entries)) []))
    where
      dead_rows : (b : Bool) → map (quiet_row cpus) (flat_map places_in (cond b (ranges_in Dead entries) [])) ≡ cond b (flat_map (entry_rows m) (filter (is_in Dead) entries)) []
      dead_rows false = refl
      dead_rows true = state_rows Dead entries low

pub rows_are_live : (kept : Bool) (l : LockedShown) (cpus : List CpuShown) (m : Machine) → IsLocked l → length (section_at l.sections 0).tags ≤ l.board.shape.tags
    → m.area.entries ≡ l.area.entries → TotalsAreLive l.board.shape.tags cpus m → quiet_rows kept l cpus ≡ all_rows l.sections kept m
rows_are_live kept l cpus m locked kernel same live =
    among_rows m cpus l.board.shape.tags live kept l.sections l.area.entries kernel (ends_low l locked)
    ∙ ap (rows_by m cpus l.board.shape.tags live kept l.sections) (sym same)

pub text_is_live : (top : Option ℕ) (kept : Bool) (l : LockedShown) (cpus : List CpuShown) (m : Machine) → IsLocked l → length (section_at l.sections 0).tags ≤ l.board.shape.tags
    → m.area.entries ≡ l.area.entries → TotalsAreLive l.board.shape.tags cpus m → some_rows_text top l.sections (quiet_rows kept l cpus) ≡ print_text l.sections kept top m
text_is_live top kept l cpus m locked kernel same live = ap (some_rows_text top l.sections) (rows_are_live kept l cpus m locked kernel same live)
