-- What holds of every book, after one of its entries was changed, put at the end or taken out.
use Rattle.std.proofs.Common.{◌≡◌, ◌≢◌, ℕ, ◌<◌, ◌≤◌, Bool, set, List, [], ◌∷◌, ◌++◌, length, get_or, slice_get, filter, All, AllPairs, sym, ap, ◌∙◌, subst, arith, ⊎_elim}
use Rattle.std.proofs.lemmas.List.{length-set, length_push, get_or-set_same, get_or-set_other, get_or_default}
use Rattle.std.proofs.lemmas.List.Elements.{All-set, All-push, All-filter}
use Rattle.std.proofs.lemmas.List.Quantifiers.{all_pairs_push}
use Rattle.std.proofs.lemmas.List.Kept.{AllPairs-filter}
use Rattle.std.proofs.lemmas.List.Sums.{length-filter, count_by-le-length}
use Rattle.std.proofs.lemmas.Bool.{cases_eq}
use Rattle.module_area.specs.declared.entry.Entry.{Entry}
use Rattle.module_area.specs.declared.entry.State.TheVariants.{Loaded}
use Rattle.module_area.specs.declared.book.TheConstants.{BOOK_LIMIT}
use Rattle.module_area.specs.Entries.{IsFree, AreApart, IsLoadedAs, entry_of, with_entry}
use Rattle.module_area.proofs.EntryLemmas.{id_at, set_at_id}
use Rattle.module_area.specs.Area.{Area, LiesIn, IsLeastStart, DifferIfLoaded, IsBook}

-- the entry keeps its id, section and range, and is loaded only if it was
pub record KeepsRange (old new : Entry) : Type 0 where
  pub same_id : new.id ≡ old.id
  pub same_section : new.section ≡ old.section
  pub same_start : new.start ≡ old.start
  pub same_length : new.length ≡ old.length
  pub was_loaded : new.state ≡ Loaded → old.state ≡ Loaded

-- pairs stay related where an element takes the place of one with the same relations
pub AllPairs-set : (R : Entry → Entry → Type 0) (xs : List Entry) (n : ℕ) (old new : Entry) → n < length xs → old ≡ get_or xs n old
    → ((other : Entry) → R other old → R other new) → ((other : Entry) → R old other → R new other)
    → AllPairs R xs → AllPairs R (set xs n new)
AllPairs-set R xs n old new below here before after pairs i j d less inside =
    let within : j < length xs = omega (arith, length-set xs n new) in
    let here_d : get_or xs n d ≡ old = get_or_default xs n d old below ∙ sym here in
    let related : R (get_or xs i d) (get_or xs j d) = pairs i j d less within in
    let written : get_or (set xs n new) n d ≡ new = get_or-set_same xs n new d below in
    ⊎_elim
    (λ e.
    let i_other : i ≢ n = omega arith in
    let related_n : R (get_or xs i d) old = subst (λ x. R (get_or xs i d) x) (ap (λ k. get_or xs k d) e ∙ here_d) related in
    subst (λ x. R x (get_or (set xs n new) j d)) (sym (get_or-set_other xs n i new d i_other))
    (subst (λ x. R (get_or xs i d) x) (sym (ap (λ k. get_or (set xs n new) k d) e ∙ written)) (before _ related_n)))
    (λ j_other.
    subst (λ x. R (get_or (set xs n new) i d) x) (sym (get_or-set_other xs n j new d j_other))
    (⊎_elim
    (λ e.
    let related_n : R old (get_or xs j d) = subst (λ x. R x (get_or xs j d)) (ap (λ k. get_or xs k d) e ∙ here_d) related in
    subst (λ x. R x (get_or xs j d)) (sym (ap (λ k. get_or (set xs n new) k d) e ∙ written)) (after _ related_n))
    (λ i_other. subst (λ x. R x (get_or xs j d)) (sym (get_or-set_other xs n i new d i_other)) related)
    (cases_eq i n)))
    (cases_eq j n)

module _ (entries : List Entry) (first tags : ℕ) (book : IsBook (record { entries = entries; first = first; tags = tags })) where
  -- an entry that keeps its range, in the entry's place
  pub IsBook-set : (n : ℕ) (old new : Entry) → n < length entries → old ≡ get_or entries n old → KeepsRange old new
      → IsBook (record { entries = set entries n new; first = first; tags = tags })
  IsBook-set n old new below here kept =
      let long = length-set entries n new in
      let all_here : (P : Entry → Type 0) → All P entries → P old = λ P h. subst P (sym here) (h n old below) in
      record {
        few = omega (arith, long, book.few);
        above_zero = All-set (λ e. 0 < e.id) entries n new (subst (λ k. 0 < k) (sym kept.same_id) (all_here (λ e. 0 < e.id) book.above_zero)) book.above_zero;
        rising = AllPairs-set (λ one other. one.id < other.id) entries n old new below here (λ other h. omega (arith, kept.same_id)) (λ other h. omega (arith, kept.same_id)) book.rising;
        some_tags = All-set (λ e. 1 ≤ e.length) entries n new (subst (λ k. 1 ≤ k) (sym kept.same_length) (all_here (λ e. 1 ≤ e.length) book.some_tags)) book.some_tags;
        in_area = All-set (λ e. LiesIn (record { entries = entries; first = first; tags = tags }) e.start e.length) entries n new (let lies = all_here (λ e. LiesIn (record { entries = entries; first = first; tags = tags }) e.start e.length) book.in_area in (omega (arith, kept.same_start), omega (arith, kept.same_start, kept.same_length))) book.in_area;
        apart = AllPairs-set AreApart entries n old new below here
            (λ other h tag one two. h tag one (omega (arith, kept.same_start), omega (arith, kept.same_start, kept.same_length)))
            (λ other h tag one two. h tag (omega (arith, kept.same_start), omega (arith, kept.same_start, kept.same_length)) two)
            book.apart;
        loaded_once = AllPairs-set DifferIfLoaded entries n old new below here
            (λ other h one two same. h one (kept.was_loaded two) (same ∙ kept.same_section))
            (λ other h one two same. h (kept.was_loaded one) two (sym kept.same_section ∙ same))
            book.loaded_once;
        small = book.small;
      }

  -- the entry of a new id and a free range at the end, whose section no loaded entry has
  pub IsBook-push : (new : Entry) → length entries < BOOK_LIMIT → 0 < new.id → All (λ e. e.id < new.id) entries
      → All (λ e. ¬ IsLoadedAs new.section e) entries → 1 ≤ new.length
      → LiesIn (record { entries = entries; first = first; tags = tags }) new.start new.length → IsFree entries new.start new.length
      → IsBook (record { entries = entries ++ new ∷ []; first = first; tags = tags })
  IsBook-push new room above_zero above new_section some_tags lies free =
      record {
        few = omega (arith, length_push entries new);
        above_zero = All-push (λ e. 0 < e.id) entries new book.above_zero above_zero;
        rising = all_pairs_push (λ one other. one.id < other.id) entries new book.rising above;
        some_tags = All-push (λ e. 1 ≤ e.length) entries new book.some_tags some_tags;
        in_area = All-push (λ e. LiesIn (record { entries = entries; first = first; tags = tags }) e.start e.length) entries new book.in_area lies;
        apart = all_pairs_push AreApart entries new book.apart
            (λ k d below tag one two. free tag two.0 two.1 (k, get_or entries k d, below, get_or_default entries k (get_or entries k d) d below, one));
        loaded_once = all_pairs_push DifferIfLoaded entries new book.loaded_once
            (λ k d below one two same. new_section k d below (one, same));
        small = book.small;
      }

  -- some of the entries
  pub IsBook-filter : (p : Entry → Bool) → IsBook (record { entries = filter p entries; first = first; tags = tags })
  IsBook-filter p =
      record {
        few = omega (arith, length-filter p entries, count_by-le-length p entries, book.few);
        above_zero = All-filter p (λ e. 0 < e.id) entries book.above_zero;
        rising = AllPairs-filter (λ one other. one.id < other.id) p entries book.rising;
        some_tags = All-filter p (λ e. 1 ≤ e.length) entries book.some_tags;
        in_area = All-filter p (λ e. LiesIn (record { entries = entries; first = first; tags = tags }) e.start e.length) entries book.in_area;
        apart = AllPairs-filter AreApart p entries book.apart;
        loaded_once = AllPairs-filter DifferIfLoaded p entries book.loaded_once;
        small = book.small;
      }

-- the same, where the book is told by its view
pub IsBook-written : (inside view : Area) → inside ≡ view → IsBook inside → (n : ℕ) (old new : Entry) → n < length view.entries
    → old ≡ get_or inside.entries n old → KeepsRange old new
    → IsBook (record { entries = set inside.entries n new; first = inside.first; tags = inside.tags })
IsBook-written inside view same book n old new below here kept =
    IsBook-set inside.entries inside.first inside.tags book n old new (subst (λ (a : Area). n < length a.entries) (sym same) below) here kept

pub written_is : (inside view : Area) → inside ≡ view → IsBook inside → (id n : ℕ) (old : Entry) (change : Entry → Entry) → n < length view.entries
    → slice_get view.entries n ≡ entry_of view.entries id → old ≡ get_or inside.entries n old
    → ◌≡◌ {A = Area} (record { entries = set inside.entries n (change old); first = inside.first; tags = inside.tags })
    (record { entries = with_entry id change view.entries; first = view.first; tags = view.tags })
written_is inside view same book id n old change below there here =
    let below_inside = subst (λ (a : Area). n < length a.entries) (sym same) below in
    let there_inside = subst (λ (a : Area). slice_get a.entries n ≡ entry_of a.entries id) (sym same) there in
    let changed = set_at_id inside.entries id n old change book.rising below_inside here (id_at inside.entries id n old below_inside here there_inside) in
    subst (λ (a : Area). ◌≡◌ {A = Area} (record { entries = set inside.entries n (change old); first = inside.first; tags = inside.tags })
    (record { entries = with_entry id change a.entries; first = a.first; tags = a.tags })) same
    (ap (λ es. let area : Area = record { entries = es; first = inside.first; tags = inside.tags } in area) changed)

pub IsBook-appended : (inside view : Area) → inside ≡ view → IsBook inside → (new : Entry) → length view.entries < BOOK_LIMIT → 0 < new.id
    → All (λ e. e.id < new.id) view.entries → All (λ e. ¬ IsLoadedAs new.section e) view.entries → 1 ≤ new.length
    → IsLeastStart view new.length new.start → (grown : List Entry) → grown ≡ inside.entries ++ new ∷ []
    → IsBook (record { entries = grown; first = inside.first; tags = inside.tags })
IsBook-appended inside view same book new room above_zero above new_section some_tags least grown is_grown =
    let pushed = IsBook-push view.entries view.first view.tags (subst IsBook same book) new room above_zero above new_section some_tags least.lies least.free in
    let of : List Entry → ℕ → ℕ → Area = λ es first tags. record { entries = es; first = first; tags = tags } in
    subst (λ es. IsBook (of es inside.first inside.tags)) (sym is_grown)
    (subst (λ (a : Area). IsBook (of (a.entries ++ new ∷ []) a.first a.tags)) (sym same) pushed)
