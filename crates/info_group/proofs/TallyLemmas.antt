-- The sums of rows with the same key, with one more row.
use Rattle.std.proofs.Common.{◌≡◌, ℕ, ◌+◌, ◌<◌, Bool, true, false, cond, ◌||◌, List, [], ◌∷◌, ◌++◌, map, length, take, get_or, refl, sym, ap, ◌∙◌, subst, arith, ◌^◌, Some, None, Vec, Global, ⊎_elim}
use Rattle.std.specs.BTreeMap.{insert_entry, is_at}
use Rattle.std.specs.Map.{lookup, keys_of, set_value}
use Rattle.std.specs.List.{AllByRecursion}
use Rattle.std.specs.List.Sorted.{IsStrictlySortedBy}
use Rattle.std.specs.Ordering.{eq_by_cmp, is_eq, match_ordering}
use Rattle.std.specs.declared.cmp.Ordering.TheVariants.{Less, Equal, Greater}
use Rattle.std.specs.Cmp.Lexicographic.{nat_list_cmp_total, nat_list_eq_equiv}
use Rattle.std.specs.FinMap.{find, put}
use Rattle.std.specs.FinMap.Entries.{by_order, is_sorted-put, find-put, same_entries}
use Rattle.std.specs.List.{list_any, sum_by}
use Rattle.std.specs.Option.{unwrap_or}
use Rattle.std.specs.Str.{bytes_eq}
use Rattle.std.proofs.Math.Bool.{or-false}
use Rattle.std.proofs.lemmas.Bool.{cases_Bool, or_parts, cond-true, cond-false}
use Rattle.std.proofs.lemmas.List.{take_more, map-append, append-nil}
use Rattle.std.proofs.lemmas.List.Elements.{filter-append}
use Rattle.std.proofs.lemmas.List.Folds.{list_any-append}
use Rattle.std.proofs.lemmas.List.Sums.{sum_by_push}
use Rattle.std.proofs.lemmas.Map.Text.{is_eq-slice_cmp}
use Rattle.std.proofs.lemmas.Simd.{map-map}
use Rattle.tag_model.specs.Wrap.{wrap}
use Rattle.tag_section.proofs.NumberLemmas.{name_cmp}
use Rattle.info_read.specs.declared.row.InfoRow.{InfoRow}
use Rattle.info_read.specs.declared.row.RowText.{RowText}
use Rattle.info_read.specs.Views.{row_view}
use Rattle.info_group.specs.declared.tally.Sums.{Sums}
use Rattle.info_group.specs.Grouping.{byte_order, groups_of, names_of, rows_with}
use Rattle.info_group.specs.Tally.{group_from, grown, no_sums, with_row, sums_of, tallies}
use Rattle.info_group.proofs.NameLemmas.{find-names_of, names_rise, one_name, same_name}

or_always : (a : Bool) → (a || true) ≡ true
or_always true = refl
or_always false = refl

-- ---- a map by its names

-- an entry by its name
abbrev pub named : Vec ℕ Global × Sums → List ℕ × Sums
named entry = (entry.0.items, entry.1)

pub named-insert_entry : (entries : List (Vec ℕ Global × Sums)) (key : Vec ℕ Global) (sums : Sums)
    → map named (insert_entry name_cmp entries key sums) ≡ put byte_order key.items sums (map named entries)
named-insert_entry [] key sums = refl
named-insert_entry (e ∷ es) key sums =
    elim (byte_order key.items e.0.items) as (λ o. map named (match_ordering o ((key, sums) ∷ e ∷ es) ((e.0, sums) ∷ es) (e ∷ insert_entry name_cmp es key sums))
    ≡ by_order o ((key.items, sums) ∷ named e ∷ map named es) ((e.0.items, sums) ∷ map named es) (named e ∷ put byte_order key.items sums (map named es))) [
      | Less ↦ refl
      | Equal ↦ refl
      | Greater ↦ ap (λ t. named e ∷ t) (named-insert_entry es key sums)
    ]

pub named-lookup : (entries : List (Vec ℕ Global × Sums)) (key : Vec ℕ Global)
    → lookup (is_at (name_cmp key)) entries ≡ find byte_order key.items (map named entries)
named-lookup [] key = refl
named-lookup (e ∷ es) key = ap (λ r. cond (eq_by_cmp byte_order key.items e.0.items) (Some e.1) r) (named-lookup es key)

-- the test of a name at the keys of a map
abbrev pub at_name : List ℕ → Vec ℕ Global → Bool
at_name name = is_at (λ key. byte_order name key.items)

pub named-find : (entries : List (Vec ℕ Global × Sums)) (name : List ℕ) → lookup (at_name name) entries ≡ find byte_order name (map named entries)
named-find [] name = refl
named-find (e ∷ es) name = ap (λ r. cond (eq_by_cmp byte_order name e.0.items) (Some e.1) r) (named-find es name)

-- a name below all keys isn't among them
absent : (name : List ℕ) (first : Vec ℕ Global) (entries : List (Vec ℕ Global × Sums)) (v : Sums) → byte_order name first.items ≡ Less
    → AllByRecursion (λ key. name_cmp first key ≡ Less) (keys_of entries) → lookup (at_name name) entries ≡ Some v → ⊥
absent name first [] v below above found = cc
absent name first (e ∷ es) v below above found =
    let less : byte_order name e.0.items ≡ Less = nat_list_cmp_total.trans name first.items e.0.items below above.0 in
    absent name first es v below above.1 (subst (λ o. cond (is_eq o) (Some e.1) (lookup (at_name name) es) ≡ Some v) less found)

-- a value that is written at a name that stands there
pub written_at : (entries : List (Vec ℕ Global × Sums)) (name : List ℕ) (v w : Sums) → IsStrictlySortedBy name_cmp (keys_of entries) → lookup (at_name name) entries ≡ Some v
    → map named (set_value (at_name name) entries w) ≡ put byte_order name w (map named entries)
unfolding IsStrictlySortedBy
written_at [] name v w rises found = cc
written_at (e ∷ es) name v w rises found =
    elim (byte_order name e.0.items) as (λ o. byte_order name e.0.items ≡ o → cond (is_eq o) (Some e.1) (lookup (at_name name) es) ≡ Some v
    → map named (cond (is_eq o) ((e.0, w) ∷ es) (e ∷ set_value (at_name name) es w))
    ≡ by_order o ((name, w) ∷ named e ∷ map named es) ((e.0.items, w) ∷ map named es) (named e ∷ put byte_order name w (map named es))) [
      | Less ↦ λ below later. absurd (absent name e.0 es v below rises.0 later)
      | Equal ↦ λ _ _. refl
      | Greater ↦ λ _ later. ap (λ t. named e ∷ t) (written_at es name v w rises.1 later)
    ] refl found

-- a map in which the sums of a name were raised
pub raised : (old new : List (Vec ℕ Global × Sums)) (name : List ℕ) (row : InfoRow) (before : Sums) → IsStrictlySortedBy name_cmp (keys_of old)
    → lookup (at_name name) old ≡ Some before → new ≡ set_value (at_name name) old (with_row before row) → map named new ≡ grown name row (map named old)
raised old new name row before rises found written =
    let there : find byte_order name (map named old) ≡ Some before = sym (named-find old name) ∙ found in
    ap (map named) written ∙ (written_at old name before (with_row before row) rises found
    ∙ ap (λ o. put byte_order name (with_row (unwrap_or o no_sums) row) (map named old)) (sym there))

-- a map with a name that it didn't have
pub begun : (old new : List (Vec ℕ Global × Sums)) (key : Vec ℕ Global) (row : InfoRow) (sums : Sums) → find byte_order key.items (map named old) ≡ None
    → sums ≡ with_row no_sums row → new ≡ insert_entry name_cmp old key sums → map named new ≡ grown key.items row (map named old)
begun old new key row sums none is written =
    ap (map named) written ∙ (named-insert_entry old key sums ∙ ap (λ s. put byte_order key.items s (map named old)) is
    ∙ ap (λ o. put byte_order key.items (with_row (unwrap_or o no_sums) row) (map named old)) (sym none))

abbrev sums_with : ℕ → ℕ → Sums
sums_with bytes calls = record { bytes = bytes; calls = calls }

-- the sums of one row alone
pub first_sums : (row : InfoRow) → row.bytes < 2 ^ 64 → row.calls < 2 ^ 64 → record { bytes = row.bytes; calls = row.calls } ≡ with_row no_sums row
first_sums row bytes calls =
    let one : row.bytes ≡ wrap (0 + row.bytes) = omega arith in
    let other : row.calls ≡ wrap (0 + row.calls) = omega arith in
    ap (λ (n : ℕ). sums_with n row.calls) one ∙ ap (sums_with (wrap (0 + row.bytes))) other

-- ---- one more row

wraps : (a b : ℕ) → wrap (a + b) ≡ wrap (wrap a + b)
wraps a b = omega arith

-- the sums with a row at the end
sums_of_push : (rows : List InfoRow) (row : InfoRow) → sums_of (rows ++ row ∷ []) ≡ with_row (sums_of rows) row
sums_of_push rows row =
    let bytes = λ (r : InfoRow). r.bytes in
    let calls = λ (r : InfoRow). r.calls in
    rw (sum_by_push bytes rows row, sum_by_push calls rows row, wraps (sum_by bytes rows) row.bytes, wraps (sum_by calls rows) row.calls) refl

module _ (key : InfoRow → List ℕ) where
  with_push : (name : List ℕ) (rows : List InfoRow) (row : InfoRow)
      → rows_with key name (rows ++ row ∷ []) ≡ rows_with key name rows ++ cond (bytes_eq (key row) name) (row ∷ []) []
  with_push name rows row = filter-append _ rows (row ∷ [])

  -- the sums of the row's name
  grown_same : (name : List ℕ) (rows : List InfoRow) (row : InfoRow) → bytes_eq (key row) name ≡ true
      → sums_of (rows_with key name (rows ++ row ∷ [])) ≡ with_row (sums_of (rows_with key name rows)) row
  grown_same name rows row same =
      let own = rows_with key name rows in
      ap sums_of (with_push name rows row ∙ ap (λ t. own ++ t) (cond-true _ _ _ same)) ∙ sums_of_push own row

  -- and of each other name
  grown_other : (name : List ℕ) (rows : List InfoRow) (row : InfoRow) → bytes_eq (key row) name ≡ false
      → sums_of (rows_with key name (rows ++ row ∷ [])) ≡ sums_of (rows_with key name rows)
  grown_other name rows row differs =
      let own = rows_with key name rows in
      ap sums_of (with_push name rows row ∙ (ap (λ t. own ++ t) (cond-false _ _ _ differs) ∙ append-nil own))

  -- a name that no row has
  none_with : (name : List ℕ) (rows : List InfoRow) → list_any (eq_by_cmp byte_order name) (map key rows) ≡ false → rows_with key name rows ≡ []
  none_with name [] none = refl
  none_with name (row ∷ rows) none =
      let parts = or_parts (eq_by_cmp byte_order name (key row)) _ none in
      let differs : bytes_eq (key row) name ≡ false = nat_list_eq_equiv.symm (key row) name ∙ (sym (is_eq-slice_cmp name (key row)) ∙ parts.0) in
      cond-false _ _ _ differs ∙ none_with name rows parts.1

  -- what stands at a name
  find-tallies : (rows : List InfoRow) (name : List ℕ)
      → find byte_order name (tallies key rows) ≡ cond (list_any (eq_by_cmp byte_order name) (map key rows)) (Some (sums_of (rows_with key name rows))) None
  find-tallies rows name =
      find-names_of (λ n. sums_of (rows_with key n rows)) key rows name

  old_sums : (rows : List InfoRow) (name : List ℕ) → unwrap_or (find byte_order name (tallies key rows)) no_sums ≡ sums_of (rows_with key name rows)
  old_sums rows name =
      let any = list_any (eq_by_cmp byte_order name) (map key rows) in
      ap (λ o. unwrap_or o no_sums) (find-tallies rows name)
      ∙ ⊎_elim
      (λ some. ap (λ o. unwrap_or o no_sums) (cond-true any _ _ some))
      (λ none. ap (λ o. unwrap_or o no_sums) (cond-false any _ _ none) ∙ ap sums_of (sym (none_with name rows none)))
      (cases_Bool any)

  -- the row's key among the keys
  any_push : (rows : List InfoRow) (row : InfoRow) (name : List ℕ)
      → list_any (eq_by_cmp byte_order name) (map key (rows ++ row ∷ [])) ≡ (list_any (eq_by_cmp byte_order name) (map key rows) || eq_by_cmp byte_order name (key row))
  any_push rows row name =
      ap (list_any (eq_by_cmp byte_order name)) (map-append key rows (row ∷ []))
      ∙ (list_any-append _ (map key rows) (key row ∷ []) ∙ ap (λ b. list_any (eq_by_cmp byte_order name) (map key rows) || b) (or-false _))

  -- a name after a row was added to the sums of its key
  find-grown : (rows : List InfoRow) (row : InfoRow) (sums : Sums) → sums ≡ sums_of (rows_with key (key row) (rows ++ row ∷ [])) → (name : List ℕ)
      → find byte_order name (put byte_order (key row) sums (tallies key rows)) ≡ find byte_order name (tallies key (rows ++ row ∷ []))
  find-grown rows row sums is name =
      let here = eq_by_cmp byte_order name (key row) in
      let any = list_any (eq_by_cmp byte_order name) (map key rows) in
      let more = list_any (eq_by_cmp byte_order name) (map key (rows ++ row ∷ [])) in
      let grown = sums_of (rows_with key name (rows ++ row ∷ [])) in
      find-put byte_order nat_list_cmp_total name (key row) sums (tallies key rows)
      ∙ (⊎_elim
      (λ same.
      let one = one_name name (key row) same in
      let some : more ≡ true = any_push rows row name ∙ (ap (λ b. any || b) same ∙ or_always any) in
      cond-true _ _ _ same ∙ (ap (λ s. Some s) (is ∙ ap (λ n. sums_of (rows_with key n (rows ++ row ∷ []))) (sym one)) ∙ sym (cond-true more (Some grown) None some)))
      (λ differs.
      let apart : bytes_eq (key row) name ≡ false = nat_list_eq_equiv.symm (key row) name ∙ (sym (is_eq-slice_cmp name (key row)) ∙ differs) in
      let stays : more ≡ any = any_push rows row name ∙ (ap (λ b. any || b) differs ∙ or-false any) in
      cond-false _ _ _ differs ∙ (find-tallies rows name
      ∙ (ap (λ b. cond b (Some (sums_of (rows_with key name rows))) None) (sym stays) ∙ ap (λ s. cond more (Some s) None) (sym (grown_other name rows row apart)))))
      (cases_Bool here)
      ∙ sym (find-tallies (rows ++ row ∷ []) name))

  -- the sums of all names after a row was added
  tallies-push : (rows : List InfoRow) (row : InfoRow) (sums : Sums) → sums ≡ sums_of (rows_with key (key row) (rows ++ row ∷ []))
      → put byte_order (key row) sums (tallies key rows) ≡ tallies key (rows ++ row ∷ [])
  tallies-push rows row sums is =
      same_entries byte_order nat_list_cmp_total same_name _ _
      (is_sorted-put byte_order nat_list_cmp_total (key row) sums (tallies key rows) (names_rise (λ n. sums_of (rows_with key n rows)) key rows))
      (names_rise (λ n. sums_of (rows_with key n (rows ++ row ∷ []))) key (rows ++ row ∷ []))
      (find-grown rows row sums is)

  -- the sums after the row at a place was added to those of the rows before it
  pub tallies_more : (rows : List RowText) (i : ℕ) (row d : RowText) (old new : List (List ℕ × Sums))
      → i < length rows → row ≡ get_or rows i d → old ≡ tallies key (map row_view (take i rows))
      → new ≡ grown (key (row_view row)) (row_view row) old
      → new ≡ tallies key (map row_view (take (i + 1) rows))
  tallies_more rows i row d old new below at so_far added =
      let before = map row_view (take i rows) in
      let last = row_view row in
      let itself : bytes_eq (key last) (key last) ≡ true = nat_list_eq_equiv.refl (key last) in
      let sums : with_row (unwrap_or (find byte_order (key last) (tallies key before)) no_sums) last ≡ sums_of (rows_with key (key last) (before ++ last ∷ [])) =
      ap (λ s. with_row s last) (old_sums before (key last)) ∙ sym (grown_same (key last) before last itself) in
      let next : before ++ last ∷ [] ≡ map row_view (take (i + 1) rows) =
      sym (map-append row_view (take i rows) (row ∷ [])) ∙ ap (map row_view) (ap (λ r. take i rows ++ r ∷ []) at ∙ sym (take_more rows i d below)) in
      added ∙ (ap (grown (key last) last) so_far ∙ (tallies-push before last _ sums ∙ ap (tallies key) next))

  -- the groups of the sums
  pub groups_from_tallies : (rows : List InfoRow) → map group_from (tallies key rows) ≡ groups_of key rows
  groups_from_tallies rows = map-map _ _ (names_of key rows)
