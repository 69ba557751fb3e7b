-- The marks by which the groups of rows are told.
use Rattle.std.proofs.Common.{◌≡◌, ℕ, Bool, true, false, cond, ◌&&◌, T, List, [], ◌∷◌, map, refl, sym, ap, ◌∙◌, subst, Option, Some, None, is_some, All, Contains, ◌↔◌}
use Rattle.std.specs.Ordering.{is_lt, eq_by_cmp}
use Rattle.std.specs.declared.cmp.Ordering.{Ordering}
use Rattle.std.specs.declared.cmp.Ordering.TheVariants.{Less, Equal, Greater}
use Rattle.std.specs.Cmp.{eq_by_cmp_equiv}
use Rattle.std.specs.Cmp.Lexicographic.{nat_list_cmp_total}
use Rattle.std.specs.FinMap.{find, is_sorted}
use Rattle.std.specs.FinMap.Entries.{below_all, is_some-find, same_entries}
use Rattle.std.specs.List.{AllByRecursion, list_any}
use Rattle.std.specs.List.Sorted.{IsStrictlySortedBy}
use Rattle.std.proofs.lemmas.List.{map-id}
use Rattle.std.proofs.lemmas.List.Elements.{All-contains_itself, All-head, All-map, All-tail, All-weaker}
use Rattle.std.proofs.lemmas.Map.Views.{Contains-from_any, list_any-from_Contains}
use Rattle.std.proofs.lemmas.Simd.{map-map}
use Rattle.info_read.specs.declared.row.InfoRow.{InfoRow}
use Rattle.info_group.specs.declared.group.Group.{Group}
use Rattle.info_group.specs.Grouping.{byte_order, bytes_of, calls_of, group_of, groups_of, names_of, rows_with}
use Rattle.info_group.specs.Laws.{IsGrouping, group_names}
use Rattle.info_group.proofs.NameLemmas.{find-names_of, names_rise, one_name, same_name, with_each}

-- ---- names that rise

less : (order : Ordering) → T (is_lt order) → order ≡ Less
less Less below = refl
less Equal below = absurd below
less Greater below = absurd below

both : (a b : Bool) → T (a && b) → T a × T b
both true b t = (tt, t)
both false b t = absurd t

join : (a b : Bool) → T a → T b → T (a && b)
join true b t u = u
join false b t u = absurd t

alike : (a b : Bool) → (a ≡ true → b ≡ true) → (b ≡ true → a ≡ true) → a ≡ b
alike true b to from = sym (to refl)
alike false true to from = from refl
alike false false to from = refl

abbrev marked : Bool → Option (Unit {0})
marked b = cond b (Some tt) None

marks : (o : Option (Unit {0})) → o ≡ marked (is_some o)
marks None = refl
marks (Some u) = refl

is_marked : (b : Bool) → is_some (marked b) ≡ b
is_marked true = refl
is_marked false = refl

module _ {X : Type 0} (f : List ℕ → X) where
  all_above : (name : List ℕ) (names : List (List ℕ)) → T (below_all byte_order name (with_each f names)) → AllByRecursion (λ n. byte_order name n ≡ Less) names
  all_above name [] below = tt
  all_above name (n ∷ ns) below =
      let parts = both (is_lt (byte_order name n)) _ below in
      (less _ parts.0, all_above name ns parts.1)

  below_from_all : (name : List ℕ) (names : List (List ℕ)) → AllByRecursion (λ n. byte_order name n ≡ Less) names → T (below_all byte_order name (with_each f names))
  below_from_all name [] above = tt
  below_from_all name (n ∷ ns) above = subst (λ o. T (is_lt o && below_all byte_order name (with_each f ns))) (sym above.0) (below_from_all name ns above.1)

  pub rise : (names : List (List ℕ)) → T (is_sorted byte_order (with_each f names)) → IsStrictlySortedBy byte_order names
  unfolding IsStrictlySortedBy
  rise [] rising = tt
  rise (n ∷ ns) rising =
      let parts = both (below_all byte_order n (with_each f ns)) _ rising in
      (all_above n ns parts.0, rise ns parts.1)

  from_rise : (names : List (List ℕ)) → IsStrictlySortedBy byte_order names → T (is_sorted byte_order (with_each f names))
  unfolding IsStrictlySortedBy
  from_rise [] rising = tt
  from_rise (n ∷ ns) rising = join _ _ (below_from_all n ns rising.0) (from_rise ns rising.1)

  firsts : (names : List (List ℕ)) → map (λ e. e.0) (with_each f names) ≡ names
  firsts names = map-map _ _ names ∙ map-id names

  any-find : (names : List (List ℕ)) (name : List ℕ) → is_some (find byte_order name (with_each f names)) ≡ list_any (eq_by_cmp byte_order name) names
  any-find names name = is_some-find byte_order name (with_each f names) ∙ ap (list_any (eq_by_cmp byte_order name)) (firsts names)

nothing : List ℕ → Unit {0}
nothing name = tt

-- two lists of names that rise and have the same names are one list
same_names : (names others : List (List ℕ)) → IsStrictlySortedBy byte_order names → IsStrictlySortedBy byte_order others
    → ((name : List ℕ) → list_any (eq_by_cmp byte_order name) names ≡ list_any (eq_by_cmp byte_order name) others) → names ≡ others
same_names names others rising also same =
    let found : (name : List ℕ) → find byte_order name (with_each nothing names) ≡ find byte_order name (with_each nothing others) = λ name.
    marks _ ∙ (ap marked (any-find nothing names name ∙ (same name ∙ sym (any-find nothing others name))) ∙ sym (marks _)) in
    let entries : with_each nothing names ≡ with_each nothing others =
    same_entries byte_order nat_list_cmp_total same_name _ _ (from_rise nothing names rising) (from_rise nothing others also) found in
    sym (firsts nothing names) ∙ (ap (map (λ e. e.0)) entries ∙ firsts nothing others)

-- ---- the names of rows

module _ (key : InfoRow → List ℕ) (rows : List InfoRow) where
  pub names_of_rise : IsStrictlySortedBy byte_order (names_of key rows)
  names_of_rise = rise nothing (names_of key rows) (names_rise nothing key rows)

  pub any-names_of : (name : List ℕ) → list_any (eq_by_cmp byte_order name) (names_of key rows) ≡ list_any (eq_by_cmp byte_order name) (map key rows)
  any-names_of name =
      sym (any-find nothing (names_of key rows) name) ∙ (ap is_some (find-names_of nothing key rows name) ∙ is_marked _)

  contained : (names others : List (List ℕ)) (name : List ℕ) → list_any (eq_by_cmp byte_order name) names ≡ list_any (eq_by_cmp byte_order name) others
      → Contains names name → Contains others name
  contained names others name same here =
      Contains-from_any one_name name others (sym same ∙ list_any-from_Contains (eq_by_cmp_equiv nat_list_cmp_total) name names here)

  -- ---- the groups of rows

  names_of_groups : group_names (groups_of key rows) ≡ names_of key rows
  names_of_groups = map-map _ _ (names_of key rows) ∙ map-id (names_of key rows)

  each_group : (P : Group → Type 0) → ((name : List ℕ) → P (group_of key rows name)) → All P (groups_of key rows)
  each_group P each =
      let names = names_of key rows in
      All-map P (group_of key rows) names (All-weaker (Contains names) (λ n. P (group_of key rows n)) (λ n _. each n) names (All-contains_itself names))

  grouping : IsGrouping key rows (groups_of key rows)
  grouping = record {
    rises = subst (IsStrictlySortedBy byte_order) (sym names_of_groups) names_of_rise;
    of_rows = λ name.
        subst (λ names. Contains names name ↔ Contains (map key rows) name) (sym names_of_groups)
        (contained (names_of key rows) (map key rows) name (any-names_of name), contained (map key rows) (names_of key rows) name (sym (any-names_of name)));
    bytes_sum = each_group (λ group. group.bytes ≡ bytes_of (rows_with key group.name rows)) (λ name. refl);
    calls_sum = each_group (λ group. group.calls ≡ calls_of (rows_with key group.name rows)) (λ name. refl);
  }

  from_names : (groups : List Group) → All (λ group. group.bytes ≡ bytes_of (rows_with key group.name rows)) groups
      → All (λ group. group.calls ≡ calls_of (rows_with key group.name rows)) groups → groups ≡ map (group_of key rows) (group_names groups)
  from_names [] bytes calls = refl
  from_names (g ∷ gs) bytes calls =
      let of_bytes : Group → Type 0 = λ group. group.bytes ≡ bytes_of (rows_with key group.name rows) in
      let of_calls : Group → Type 0 = λ group. group.calls ≡ calls_of (rows_with key group.name rows) in
      let first : g ≡ group_of key rows g.name =
      λ i. record { name = g.name; bytes = All-head of_bytes g gs bytes i; calls = All-head of_calls g gs calls i } in
      λ i. first i ∷ from_names gs (All-tail of_bytes g gs bytes) (All-tail of_calls g gs calls) i

  no_other : (groups : List Group) → IsGrouping key rows groups → groups ≡ groups_of key rows
  no_other groups is =
      let equal = eq_by_cmp_equiv nat_list_cmp_total in
      let any : (name : List ℕ) → list_any (eq_by_cmp byte_order name) (group_names groups) ≡ list_any (eq_by_cmp byte_order name) (names_of key rows) = λ name.
      alike _ _
      (λ here. any-names_of name ∙ list_any-from_Contains equal name (map key rows) ((is.of_rows name).0 (Contains-from_any one_name name (group_names groups) here)))
      (λ here. list_any-from_Contains equal name (group_names groups) ((is.of_rows name).1 (Contains-from_any one_name name (map key rows) (sym (any-names_of name) ∙ here)))) in
      from_names groups is.bytes_sum is.calls_sum
      ∙ ap (map (group_of key rows)) (same_names (group_names groups) (names_of key rows) is.rises names_of_rise any)

pub IsGrouping-groups_of : (key : InfoRow → List ℕ) (rows : List InfoRow) → IsGrouping key rows (groups_of key rows)
IsGrouping-groups_of key rows = grouping key rows

pub no_other_grouping : (key : InfoRow → List ℕ) (rows : List InfoRow) (groups : List Group) → IsGrouping key rows groups → groups ≡ groups_of key rows
no_other_grouping key rows groups is = no_other key rows groups is
