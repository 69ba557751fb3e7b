-- The sums over all groups.
use Rattle.std.proofs.Common.{◌≡◌, ℕ, ◌+◌, Bool, true, false, cond, ◌||◌, List, [], ◌∷◌, map, refl, sym, ap, ◌∙◌, arith, sum_by, ⊎_elim}
use Rattle.std.specs.Ordering.{is_eq, eq_by_cmp}
use Rattle.std.specs.declared.cmp.Ordering.TheVariants.{Less}
use Rattle.std.specs.Cmp.Lexicographic.{nat_list_eq_equiv}
use Rattle.std.specs.List.{AllByRecursion, list_any}
use Rattle.std.specs.List.Sorted.{IsStrictlySortedBy}
use Rattle.std.specs.Str.{bytes_eq}
use Rattle.std.proofs.lemmas.Bool.{cases_Bool, cond-true, cond-false}
use Rattle.std.proofs.lemmas.List.Sums.{sum_by-cons}
use Rattle.std.proofs.lemmas.Map.Text.{is_eq-slice_cmp}
use Rattle.tag_model.specs.Wrap.{wrap}
use Rattle.info_read.specs.declared.row.InfoRow.{InfoRow}
use Rattle.info_group.specs.declared.group.Group.{Group}
use Rattle.info_group.specs.Grouping.{byte_order, bytes_of, calls_of, group_of, groups_of, names_of, rows_with}
use Rattle.info_group.proofs.GroupingLemmas.{any-names_of, names_of_rise}
use Rattle.info_group.proofs.NameLemmas.{one_name}

-- a name below others isn't one of them
not_above : (name other : List ℕ) (names : List (List ℕ)) → other ≡ name → AllByRecursion (λ n. byte_order name n ≡ Less) names
    → list_any (eq_by_cmp byte_order other) names ≡ false
not_above name other [] is above = refl
not_above name other (n ∷ ns) is above =
    let differs : eq_by_cmp byte_order other n ≡ false = ap (λ m. eq_by_cmp byte_order m n) is ∙ ap is_eq above.0 in
    rw differs (not_above name other ns is above.1)

or_right : (a b : Bool) → b ≡ true → (a || b) ≡ true
or_right true b e = refl
or_right false b e = e

-- the tests of a row's key by its bytes and by the order
tests_agree : (one other : List ℕ) → bytes_eq one other ≡ eq_by_cmp byte_order one other
tests_agree one other = sym (is_eq-slice_cmp one other)

module _ (f : InfoRow → ℕ) (key : InfoRow → List ℕ) where
  -- the sum over the rows of each of the names
  abbrev pub over_names : List InfoRow → List (List ℕ) → ℕ
  over_names rows names = sum_by (λ name. sum_by f (rows_with key name rows)) names

  -- with no rows
  over_nothing : (names : List (List ℕ)) → over_names [] names ≡ 0
  over_nothing [] = refl
  over_nothing (n ∷ ns) = omega (arith, sum_by-cons (λ name. sum_by f (rows_with key name [])) n ns, over_nothing ns)

  here_or_not : (name : List ℕ) (row : InfoRow) (rows : List InfoRow)
      → sum_by f (rows_with key name (row ∷ rows)) ≡ cond (eq_by_cmp byte_order (key row) name) (f row) 0 + sum_by f (rows_with key name rows)
  here_or_not name row rows =
      let own = rows_with key name rows in
      ap (λ b. sum_by f (cond b (row ∷ own) own)) (tests_agree (key row) name)
      ∙ elim (eq_by_cmp byte_order (key row) name) as (λ b. sum_by f (cond b (row ∷ own) own) ≡ cond b (f row) 0 + sum_by f own) [
        | true ↦ sum_by-cons f row own
        | false ↦ omega arith
      ]

  -- a row counts under its key, where that is one of the names
  over_row : (names : List (List ℕ)) (row : InfoRow) (rows : List InfoRow) → IsStrictlySortedBy byte_order names
      → over_names (row ∷ rows) names ≡ cond (list_any (eq_by_cmp byte_order (key row)) names) (f row) 0 + over_names rows names
  unfolding IsStrictlySortedBy
  over_row [] row rows rising = refl
  over_row (n ∷ ns) row rows rising =
      let more = λ (name : List ℕ). sum_by f (rows_with key name (row ∷ rows)) in
      let less = λ (name : List ℕ). sum_by f (rows_with key name rows) in
      let here = eq_by_cmp byte_order (key row) n in
      let first = here_or_not n row rows in
      let others = over_row ns row rows rising.1 in
      let whole = sum_by-cons more n ns in
      let was = sum_by-cons less n ns in
      let any = list_any (eq_by_cmp byte_order (key row)) ns in
      let once : cond here (f row) 0 + cond any (f row) 0 ≡ cond (here || any) (f row) 0 =
      ⊎_elim
      (λ same.
      let counted : cond here (f row) 0 ≡ f row = cond-true _ _ _ same in
      let no_more : cond any (f row) 0 ≡ 0 = cond-false _ _ _ (not_above n (key row) ns (one_name (key row) n same) rising.0) in
      let all : cond (here || any) (f row) 0 ≡ f row = ap (λ b. cond (b || any) (f row) 0) same in
      omega (arith, counted, no_more, all))
      (λ differs.
      let not_counted : cond here (f row) 0 ≡ 0 = cond-false _ _ _ differs in
      let all : cond (here || any) (f row) 0 ≡ cond any (f row) 0 = ap (λ b. cond (b || any) (f row) 0) differs in
      omega (arith, not_counted, all))
      (cases_Bool here) in
      omega (arith, first, others, whole, was, once)

  -- each row counts once, where the names have all keys
  over_all : (names : List (List ℕ)) (rows : List InfoRow) → IsStrictlySortedBy byte_order names
      → AllByRecursion (λ row. list_any (eq_by_cmp byte_order (key row)) names ≡ true) rows → over_names rows names ≡ sum_by f rows
  over_all names [] rising known = over_nothing names
  over_all names (row ∷ rows) rising known =
      let counts : over_names (row ∷ rows) names ≡ f row + over_names rows names =
      over_row names row rows rising ∙ ap (λ n. n + over_names rows names) (cond-true _ _ _ known.0) in
      let rest = over_all names rows rising known.1 in
      let whole = sum_by-cons f row rows in
      omega (arith, counts, rest, whole)

  -- all keys of the rows are among a list's
  known_keys : (names : List (List ℕ)) (rows : List InfoRow) → ((name : List ℕ) → list_any (eq_by_cmp byte_order name) (map key rows) ≡ true → list_any (eq_by_cmp byte_order name) names ≡ true)
      → AllByRecursion (λ row. list_any (eq_by_cmp byte_order (key row)) names ≡ true) rows
  known_keys names [] known = tt
  known_keys names (row ∷ rows) known =
      let itself : eq_by_cmp byte_order (key row) (key row) ≡ true = is_eq-slice_cmp (key row) (key row) ∙ nat_list_eq_equiv.refl (key row) in
      (known (key row) (rw itself refl), known_keys names rows (λ name some. known name (or_right _ _ some)))

  over_names_of : (rows : List InfoRow) → over_names rows (names_of key rows) ≡ sum_by f rows
  over_names_of rows =
      over_all (names_of key rows) rows (names_of_rise key rows) (known_keys (names_of key rows) rows (λ name some. any-names_of key rows name ∙ some))

  -- what words keep of the sums adds up to what a word keeps of all
  words_of : (word : Group → ℕ) (rows : List InfoRow) (names : List (List ℕ)) → ((name : List ℕ) → word (group_of key rows name) ≡ wrap (sum_by f (rows_with key name rows)))
      → wrap (sum_by word (map (group_of key rows) names)) ≡ wrap (over_names rows names)
  words_of word rows [] keeps = refl
  words_of word rows (n ∷ ns) keeps =
      let rest = words_of word rows ns keeps in
      let whole = sum_by-cons word (group_of key rows n) (map (group_of key rows) ns) in
      let was = sum_by-cons (λ name. sum_by f (rows_with key name rows)) n ns in
      rw (whole, was, keeps n) (omega (arith, rest))

  all_words : (word : Group → ℕ) (rows : List InfoRow) → ((name : List ℕ) → word (group_of key rows name) ≡ wrap (sum_by f (rows_with key name rows)))
      → wrap (sum_by word (groups_of key rows)) ≡ wrap (sum_by f rows)
  all_words word rows keeps = words_of word rows (names_of key rows) keeps ∙ ap wrap (over_names_of rows)

pub all_bytes : (key : InfoRow → List ℕ) (rows : List InfoRow) → wrap (sum_by (λ (group : Group). group.bytes) (groups_of key rows)) ≡ bytes_of rows
all_bytes key rows = all_words (λ row. row.bytes) key (λ group. group.bytes) rows (λ name. refl)

pub all_calls : (key : InfoRow → List ℕ) (rows : List InfoRow) → wrap (sum_by (λ (group : Group). group.calls) (groups_of key rows)) ≡ calls_of rows
all_calls key rows = all_words (λ row. row.calls) key (λ group. group.calls) rows (λ name. refl)
