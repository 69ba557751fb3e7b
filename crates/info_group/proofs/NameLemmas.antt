-- Lists of names in byte order.
use Rattle.std.proofs.Common.{◌≡◌, ℕ, true, false, cond, ◌||◌, T, List, [], ◌∷◌, map, refl, sym, ap, ◌∙◌, subst, Some, None}
use Rattle.std.specs.Ordering.{eq_by_cmp, match_ordering}
use Rattle.std.specs.declared.cmp.Ordering.TheVariants.{Less, Equal, Greater}
use Rattle.std.specs.BTreeSet.{insert_key}
use Rattle.std.specs.Cmp.Lexicographic.{bytes_decides, nat_list_cmp_total}
use Rattle.std.specs.FinMap.{find, put, is_sorted, slice_cmp-IsAntisymmetric, nat_cmp-IsAntisymmetric}
use Rattle.std.specs.FinMap.Entries.{by_order, find-put, is_sorted-put}
use Rattle.std.specs.List.{list_any}
use Rattle.std.proofs.lemmas.Map.Text.{is_eq-slice_cmp}
use Rattle.info_read.specs.declared.row.InfoRow.{InfoRow}
use Rattle.info_group.specs.Grouping.{byte_order, names_of}

-- names that tie are one name
pub same_name : (one other : List ℕ) → byte_order one other ≡ Equal → one ≡ other
same_name one other tie = slice_cmp-IsAntisymmetric nat_cmp-IsAntisymmetric one other tie

pub one_name : (one other : List ℕ) → eq_by_cmp byte_order one other ≡ true → one ≡ other
one_name one other tie = (bytes_decides one other).0 (sym (is_eq-slice_cmp one other) ∙ tie)

module _ {X : Type 0} (f : List ℕ → X) where
  -- each name with what the function gives of it
  abbrev pub with_each : List (List ℕ) → List (List ℕ × X)
  with_each names = map (λ name. (name, f name)) names

  with_each-insert_key : (names : List (List ℕ)) (name : List ℕ)
      → with_each (insert_key byte_order names name) ≡ put byte_order name (f name) (with_each names)
  with_each-insert_key [] name = refl
  with_each-insert_key (first ∷ names) name =
      let others = with_each names in
      elim (byte_order name first) as (λ o. byte_order name first ≡ o
      → with_each (match_ordering o (name ∷ first ∷ names) (first ∷ names) (first ∷ insert_key byte_order names name))
      ≡ by_order o ((name, f name) ∷ (first, f first) ∷ others) ((first, f name) ∷ others) ((first, f first) ∷ put byte_order name (f name) others)) [
        | Less ↦ λ _. refl
        | Equal ↦ λ tie. ap (λ n. (first, f n) ∷ others) (sym (same_name name first tie))
        | Greater ↦ λ _. ap (λ t. (first, f first) ∷ t) (with_each-insert_key names name)
      ] refl

  module _ (key : InfoRow → List ℕ) where
    -- the names of rows rise
    pub names_rise : (rows : List InfoRow) → T (is_sorted byte_order (with_each (names_of key rows)))
    names_rise [] = tt
    names_rise (row ∷ rows) =
        subst (λ es. T (is_sorted byte_order es)) (sym (with_each-insert_key (names_of key rows) (key row)))
        (is_sorted-put byte_order nat_list_cmp_total (key row) (f (key row)) (with_each (names_of key rows)) (names_rise rows))

    -- what stands at a name: something exactly where it is a row's key
    pub find-names_of : (rows : List InfoRow) (name : List ℕ)
        → find byte_order name (with_each (names_of key rows)) ≡ cond (list_any (eq_by_cmp byte_order name) (map key rows)) (Some (f name)) None
    find-names_of [] name = refl
    find-names_of (row ∷ rows) name =
        let any = list_any (eq_by_cmp byte_order name) (map key rows) in
        ap (find byte_order name) (with_each-insert_key (names_of key rows) (key row))
        ∙ (find-put byte_order nat_list_cmp_total name (key row) (f (key row)) (with_each (names_of key rows))
        ∙ elim (eq_by_cmp byte_order name (key row)) as (λ b. eq_by_cmp byte_order name (key row) ≡ b
        → cond b (Some (f (key row))) (find byte_order name (with_each (names_of key rows))) ≡ cond (b || any) (Some (f name)) None) [
          | true ↦ λ tie. ap (λ n. Some (f n)) (sym (one_name name (key row) tie))
          | false ↦ λ _. find-names_of rows name
        ] refl)
