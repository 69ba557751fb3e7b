-- Why a module may be loaded: what the refusal's being none says, and what the least start is.
use Rattle.std.proofs.Common.{◌≡◌, ◌≢◌, ℕ, ◌+◌, ◌<◌, ◌≤◌, ◌==◌, ◌||◌, nat_lt, nat_le, List, [], ◌∷◌, map, count_by, Option, Some, None, is_some, refl, arith, Bool, true, false, not, cond, leb-true, inl, inr, length, ◌⊎◌, if◌then◌else◌}
use Rattle.std.specs.List.{list_any, range_with_len}
use Rattle.std.proofs.lemmas.Bool.{and_parts, not-true, or_parts, and_cases, and_left, and_right, eqb-false, ltb-false, le-ltb, lt-leb, cond-false}
use Rattle.std.proofs.lemmas.List.FromFn.{length-range_with_len, get_or-range_with_len}
use Rattle.std.proofs.lemmas.List.Sums.{sum_by-cons}
use Rattle.tag_model.specs.declared.state.Record.{Record}
use Rattle.tag_model.specs.WordState.{in_range}
use Rattle.module_area.specs.declared.entry.Entry.{Entry}
use Rattle.module_area.specs.declared.book.TheConstants.{BOOK_LIMIT}
use Rattle.module_area.specs.declared.book.AreaError.TheVariants.{SameName, BookFull}
use Rattle.module_area.specs.Entries.{meets}
use Rattle.module_area.specs.Area.{is_free_at, least_start, Area}
use Rattle.module_area.proofs.EntryLemmas.{find_some}
use Rattle.core_list.specs.declared.list.TheConstants.{LAST_ID}
use Rattle.core_list.specs.ListState.{ListState, record_of, load_refusal, loaded_entry, unless_room}

-- ---- nothing refuses the load

pub record MayLoad (section size : ℕ) (l : ListState) : Type 0 where
  pub unnamed : loaded_entry section l ≡ None
  pub some_room : length l.area.entries ≢ BOOK_LIMIT
  pub some_id : l.last_id ≢ LAST_ID
  pub start : ℕ
  pub is : least_start l.area size ≡ Some start

pub may_load : (section size : ℕ) (l : ListState) → load_refusal section size l ≡ None → MayLoad section size l
may_load section size l none = named (loaded_entry section l) refl none
  where
    room : loaded_entry section l ≡ None → ((length l.area.entries == BOOK_LIMIT) || (l.last_id == LAST_ID)) ≡ false → (o : Option ℕ) → least_start l.area size ≡ o → unless_room o ≡ None → MayLoad section size l
    room unnamed few None is none = absurd (cc)
    room unnamed few (Some start) is none =
        let both = or_parts _ _ few in
        record { unnamed = unnamed; some_room = eqb-false _ _ both.0; some_id = eqb-false _ _ both.1; start = start; is = is }

    full : loaded_entry section l ≡ None → (b : Bool) → ((length l.area.entries == BOOK_LIMIT) || (l.last_id == LAST_ID)) ≡ b → (if b then Some BookFull else unless_room (least_start l.area size)) ≡ None → MayLoad section size l
    full unnamed true is none = absurd (cc)
    full unnamed false is none = room unnamed is (least_start l.area size) refl none

    named : (o : Option Entry) → loaded_entry section l ≡ o
        → (if is_some o then Some SameName else (if (length l.area.entries == BOOK_LIMIT) || (l.last_id == LAST_ID) then Some BookFull else unless_room (least_start l.area size))) ≡ None → MayLoad section size l
    named (Some e) is none = absurd (cc)
    named None is none = full is ((length l.area.entries == BOOK_LIMIT) || (l.last_id == LAST_ID)) refl none

-- ---- the least start lies in the area, and is free

pub record FreeAt (area : Area) (size start : ℕ) : Type 0 where
  pub low : area.first ≤ start
  pub high : start + size ≤ area.first + area.tags
  pub unmet : list_any (λ e. meets e start size) area.entries ≡ false

pub least_is_free : (area : Area) (size start : ℕ) → least_start area size ≡ Some start → FreeAt area size start
least_is_free area size start is =
    let f = find_some (is_free_at area size) (range_with_len area.first (area.tags + 1)) start is in
    let inside : f.0.0 < area.tags + 1 = omega (arith, f.0.1, length-range_with_len area.first (area.tags + 1)) in
    let both = and_parts (nat_le (start + size) (area.first + area.tags)) (not (list_any (λ e. meets e start size) area.entries)) f.1 in
    record {
      low = omega (arith, get_or-range_with_len area.first (area.tags + 1) f.0.0 start inside, f.0.2);
      high = leb-true _ _ both.0;
      unmet = not-true _ both.1;
    }

-- a tag that no entry meets is in no record's range
pub unmet_clear : (entries : List Entry) (start size t : ℕ) → list_any (λ e. meets e start size) entries ≡ false → start ≤ t → t < start + size → count_by (λ (r : Record). in_range r.start r.length t) (map record_of entries) ≡ 0
unmet_clear [] start size t e low high = refl
unmet_clear (x ∷ xs) start size t e low high =
    let both = or_parts (meets x start size) (list_any (λ e. meets e start size) xs) e in
    let out : in_range x.start x.length t ≡ false = go (and_cases (nat_lt x.start (start + size)) (nat_lt start (x.start + x.length)) both.0) in
    let none : cond {A = ℕ} (in_range x.start x.length t) 1 0 ≡ 0 = cond-false (in_range x.start x.length t) 1 0 out in
    omega (arith, sum_by-cons (λ (r : Record). cond {A = ℕ} (in_range r.start r.length t) 1 0) (record_of x) (map record_of xs), unmet_clear xs start size t both.1 low high)
  where
    go : (nat_lt x.start (start + size) ≡ false) ⊎ (nat_lt start (x.start + x.length) ≡ false) → in_range x.start x.length t ≡ false
    go (inl past) = and_left _ _ (lt-leb x.start t (omega (arith, ltb-false x.start (start + size) past)))
    go (inr before) = and_right _ _ (le-ltb t (x.start + x.length) (omega (arith, ltb-false start (x.start + x.length) before)))
