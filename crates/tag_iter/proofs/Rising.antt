-- The places of a walk rise.
use Rattle.std.proofs.Common.{◌≡◌, ℕ, ◌<◌, Bool, true, false, List, [], ◌∷◌, filter, get_or, All, AllPairs, nat_lt, refl, sym, ap, ◌∙◌, arith, lt-ltb}
use Rattle.std.specs.List.{range_with_len}
use Rattle.std.proofs.lemmas.Bool.{not-true}
use Rattle.std.proofs.lemmas.List.Elements.{All-nil, All-append, All-map, All-weaker, All-filter, filter_passes}
use Rattle.std.proofs.lemmas.List.Kept.{AllPairs-filter}
use Rattle.module_area.specs.Entries.{is_dead}
use Rattle.module_area.specs.declared.entry.Entry.{Entry}
use Rattle.module_area.specs.declared.entry.State.{State}
use Rattle.module_area.specs.declared.entry.State.TheVariants.{Loaded, Dead}
use Rattle.tag_section.specs.Section.{Section}
use Rattle.reclaim.specs.State.{IsLocked, LockedShown}
use Rattle.tag_iter.specs.Places.{IsBefore, is_in, kernel_range, less_or, place_at, places_in, places_of, range_of, ranges_in, ranges_of, rank_of}
use Rattle.tag_iter.specs.declared.range.TagRange.{TagRange}
use Rattle.tag_iter.proofs.Order.{Rises, Rises-from_AllPairs, Rises-append, Rises-flat_map, Rises-map, Rises-range, less_or_less, less_or_same}

-- the places of one range are before those of the other
abbrev pub IsRangeBefore : TagRange → TagRange → Type 0
IsRangeBefore one other = (i j : ℕ) → IsBefore (place_at one i) (place_at other j)

by_kept : (one other : TagRange) → one.kept ≡ false → other.kept ≡ true → IsRangeBefore one other
by_kept one other loaded dead i j =
    less_or_less (rank_of one.kept) (rank_of other.kept) (less_or one.«module» other.«module» (nat_lt i j))
    (let one_is = ap rank_of loaded in let other_is = ap rank_of dead in omega arith)

by_id : (one other : TagRange) → one.kept ≡ other.kept → one.«module» < other.«module» → IsRangeBefore one other
by_id one other same less i j =
    less_or_same (rank_of one.kept) (rank_of other.kept) (less_or one.«module» other.«module» (nat_lt i j)) (ap rank_of same)
    (less_or_less one.«module» other.«module» (nat_lt i j) less)

-- the places of one range rise
places_in_rise : (range : TagRange) → Rises IsBefore (places_in range)
places_in_rise range =
    Rises-range IsBefore (place_at range)
    (λ i j less. less_or_same (rank_of range.kept) (rank_of range.kept) (less_or range.«module» range.«module» (nat_lt i j)) refl
    (less_or_same range.«module» range.«module» (nat_lt i j) refl (lt-ltb i j less)))
    0 range.size

for_every : {P : ℕ → Type 0} → ((i : ℕ) → P i) → (xs : List ℕ) → All P xs
for_every h xs k d inside = h (get_or xs k d)

-- places of ranges that are one before the other
across_ranges : (one other : TagRange) → IsRangeBefore one other → All (λ x. All (IsBefore x) (places_in other)) (places_in one)
across_ranges one other before =
    All-map (λ x. All (IsBefore x) (places_in other)) (place_at one) (range_with_len 0 one.size)
    (for_every (λ i. All-map (IsBefore (place_at one i)) (place_at other) (range_with_len 0 other.size) (for_every (λ j. before i j) (range_with_len 0 other.size))) (range_with_len 0 one.size))

abbrev kept_in : State → Bool
kept_in Loaded = false
kept_in Dead = true

is_kept : (state : State) (e : Entry) → is_in state e ≡ true → is_dead e.state ≡ kept_in state
is_kept Loaded e is = not-true (is_dead e.state) is
is_kept Dead e is = is

-- the ranges of a state's entries are kept, or are not
are_kept : (state : State) (entries : List Entry) → All (λ r. r.kept ≡ kept_in state) (ranges_in state entries)
are_kept state entries =
    All-map (λ (r : TagRange). r.kept ≡ kept_in state) range_of (filter (is_in state) entries)
    (All-weaker (λ e. is_in state e ≡ true) (λ e. is_dead e.state ≡ kept_in state) (is_kept state) (filter (is_in state) entries) (filter_passes (is_in state) entries))

-- they rise by their ids
ranges_in_rise : (state : State) (entries : List Entry) → AllPairs (λ one other. one.id < other.id) entries → Rises IsRangeBefore (ranges_in state entries)
ranges_in_rise state entries rising =
    let some = filter (is_in state) entries in
    let passes = filter_passes (is_in state) entries in
    let ids = AllPairs-filter (λ (one other : Entry). one.id < other.id) (is_in state) entries rising in
    Rises-map IsRangeBefore range_of some
    (Rises-from_AllPairs (λ one other. IsRangeBefore (range_of one) (range_of other)) some
    (λ i j d less inside.
    by_id (range_of (get_or some i d)) (range_of (get_or some j d))
    (is_kept state (get_or some i d) (passes i d (omega arith)) ∙ sym (is_kept state (get_or some j d) (passes j d inside)))
    (ids i j d less inside)))

-- the kernel's range is before those of all modules
kernel_first : (state : State) (sections : List Section) (entries : List Entry) → All (λ e. 0 < e.id) entries → All (IsRangeBefore (kernel_range sections)) (ranges_in state entries)
kernel_first Loaded sections entries above =
    All-map (IsRangeBefore (kernel_range sections)) range_of (filter (is_in Loaded) entries)
    (λ k d inside.
    by_id (kernel_range sections) (range_of (get_or (filter (is_in Loaded) entries) k d))
    (sym (is_kept Loaded (get_or (filter (is_in Loaded) entries) k d) (filter_passes (is_in Loaded) entries k d inside)))
    (All-filter (is_in Loaded) (λ (e : Entry). 0 < e.id) entries above k d inside))
kernel_first Dead sections entries above =
    All-weaker (λ (r : TagRange). r.kept ≡ true) (IsRangeBefore (kernel_range sections)) (λ r dead. by_kept (kernel_range sections) r refl dead) (ranges_in Dead entries) (are_kept Dead entries)

-- loaded ones are before dead ones
loaded_first : (entries : List Entry) → All (λ one. All (IsRangeBefore one) (ranges_in Dead entries)) (ranges_in Loaded entries)
loaded_first entries =
    All-weaker (λ (r : TagRange). r.kept ≡ false) (λ one. All (IsRangeBefore one) (ranges_in Dead entries))
    (λ one loaded. All-weaker (λ (r : TagRange). r.kept ≡ true) (IsRangeBefore one) (λ other dead. by_kept one other loaded dead) (ranges_in Dead entries) (are_kept Dead entries))
    (ranges_in Loaded entries) (are_kept Loaded entries)

ranges_rise : (all : Bool) (sections : List Section) (entries : List Entry) → All (λ e. 0 < e.id) entries → AllPairs (λ one other. one.id < other.id) entries
    → Rises IsRangeBefore (ranges_of all sections entries)
ranges_rise false sections entries above rising = (
  All-append (IsRangeBefore (kernel_range sections)) (ranges_in Loaded entries) [] (kernel_first Loaded sections entries above) (All-nil (IsRangeBefore (kernel_range sections))),
  Rises-append IsRangeBefore (ranges_in Loaded entries) [] (ranges_in_rise Loaded entries rising) tt (λ k d inside. All-nil (IsRangeBefore (get_or (ranges_in Loaded entries) k d))),
)
ranges_rise true sections entries above rising = (
  All-append (IsRangeBefore (kernel_range sections)) (ranges_in Loaded entries) (ranges_in Dead entries) (kernel_first Loaded sections entries above) (kernel_first Dead sections entries above),
  Rises-append IsRangeBefore (ranges_in Loaded entries) (ranges_in Dead entries) (ranges_in_rise Loaded entries rising) (ranges_in_rise Dead entries rising) (loaded_first entries),
)

pub they_rise : (all : Bool) (l : LockedShown) → IsLocked l → Rises IsBefore (places_of all l)
they_rise all l locked =
    let ranges = ranges_of all l.sections l.area.entries in
    let by_range = ranges_rise all l.sections l.area.entries locked.book.above_zero locked.book.rising in
    Rises-flat_map IsBefore places_in ranges (λ k d inside. places_in_rise (get_or ranges k d)) (weaker ranges by_range)
  where
    weaker : (rs : List TagRange) → Rises IsRangeBefore rs → Rises (λ one other. All (λ x. All (IsBefore x) (places_in other)) (places_in one)) rs
    weaker [] rises = tt
    weaker (r ∷ rs) rises = (All-weaker (IsRangeBefore r) (λ other. All (λ x. All (IsBefore x) (places_in other)) (places_in r)) (across_ranges r) rs rises.0, weaker rs rises.1)
