-- Entries found by a test, and lists of entries with one of them changed.
use Rattle.std.proofs.Common.{◌≡◌, ◌≢◌, ℕ, suc, ◌<◌, ◌==◌, Bool, true, false, cond, set, List, [], ◌∷◌, length, get_or, slice_get, position, Some, None, IsSome, All, AllPairs, Contains, sym, ap, ◌∙◌, subst, arith, ⊎_elim}
use Rattle.std.specs.List.{find, position_or_len}
use Rattle.std.proofs.lemmas.List.{same_lists, length-set, length-map, get_or-map, get_or-set_same, get_or-set_other, get_or_default}
use Rattle.std.proofs.lemmas.List.Folds.{find_at}
use Rattle.std.proofs.lemmas.List.Elements.{All-cons, All-nil}
use Rattle.std.proofs.lemmas.Option.{slice_get_past, slice_get-get_or, none-some, same_Some}
use Rattle.std.specs.Option.{is_some}
use Rattle.std.proofs.lemmas.Bool.{cases_Bool, cases_lt, cases_eq, cases_order, both_ways, lt-ltb, le-ltb, cond-true, cond-false, eq-eqb, ne_eqb, eqb-true}
use Rattle.module_area.specs.declared.entry.Entry.{Entry}
use Rattle.module_area.specs.Entries.{entry_of, with_entry}

-- what is found is there and passes
pub find_some : {X : Type 0} (p : X → Bool) (xs : List X) (x : X) → find p xs ≡ Some x → Contains xs x × (p x ≡ true)
find_some p [] x e = absurd (cc)
find_some p (y ∷ ys) x e =
    ⊎_elim
    (λ passes.
    let same : y ≡ x = same_Some y x (sym (cond-true (p y) (Some y) (find p ys) passes) ∙ e) in
    ((0, omega arith, same), subst (λ z. p z ≡ true) same passes))
    (λ fails.
    let later = find_some p ys x (sym (cond-false (p y) (Some y) (find p ys) fails) ∙ e) in
    ((suc later.0.0, omega (arith, later.0.1), later.0.2), later.1))
    (cases_Bool (p y))

-- where none is found, none passes
pub find_none : {X : Type 0} (p : X → Bool) (xs : List X) → find p xs ≡ None → All (λ x. p x ≡ false) xs
find_none p [] e = All-nil (λ x. p x ≡ false)
find_none p (y ∷ ys) e =
    ⊎_elim
    (λ passes. absurd (none-some y (sym e ∙ cond-true (p y) (Some y) (find p ys) passes)))
    (λ fails. All-cons (λ x. p x ≡ false) y ys fails (find_none p ys (sym (cond-false (p y) (Some y) (find p ys) fails) ∙ e)))
    (cases_Bool (p y))

-- where something is found, it has a place
pub place_some : {X : Type 0} (p : X → Bool) (xs : List X) → IsSome (find p xs) → IsSome (position p xs)
place_some p xs found =
    ⊎_elim
    (λ below. ap (λ o. is_some o) (cond-true _ (Some (position_or_len p xs)) None (lt-ltb _ _ below)))
    (λ past. absurd (both_ways (is_some (find p xs)) (ap (λ o. is_some o) (find_at p xs ∙ slice_get_past xs _ past)) found))
    (cases_lt (position_or_len p xs) (length xs))

-- what stands at the place is what is found
pub place_found : {X : Type 0} (p : X → Bool) (xs : List X) (k : ℕ) → position p xs ≡ Some k → slice_get xs k ≡ find p xs
place_found p xs k is_place =
    ⊎_elim
    (λ below.
    let same : Some (position_or_len p xs) ≡ Some k = sym (cond-true _ (Some (position_or_len p xs)) None (lt-ltb _ _ below)) ∙ is_place in
    let equal : position_or_len p xs ≡ k = cc in
    ap (slice_get xs) (sym equal) ∙ sym (find_at p xs))
    (λ past. absurd (none-some k (sym (cond-false _ (Some (position_or_len p xs)) None (le-ltb _ _ past)) ∙ is_place)))
    (cases_lt (position_or_len p xs) (length xs))

-- the entry at the place of an id has the id
pub id_at : (entries : List Entry) (id k : ℕ) (entry : Entry) → k < length entries → entry ≡ get_or entries k entry
    → slice_get entries k ≡ entry_of entries id → entry.id ≡ id
id_at entries id k entry below here there =
    let found : entry_of entries id ≡ Some entry = sym there ∙ (slice_get-get_or entries k entry below ∙ ap (λ e. Some e) (sym here)) in
    eqb-true _ _ (find_some (λ e. e.id == id) entries entry found).1

-- a write at the place of an id changes the entry of the id, where ids rise
pub set_at_id : (entries : List Entry) (id k : ℕ) (entry : Entry) (change : Entry → Entry)
    → AllPairs (λ one other. one.id < other.id) entries → k < length entries → entry ≡ get_or entries k entry → entry.id ≡ id
    → set entries k (change entry) ≡ with_entry id change entries
set_at_id entries id k entry change rising below here same_id =
    let one : Entry → Entry = λ e. cond (e.id == id) (change e) e in
    same_lists (set entries k (change entry)) (with_entry id change entries) (length-set entries k (change entry) ∙ sym (length-map entries one))
    (λ j d l.
    let inside : j < length entries = omega (arith, length-set entries k (change entry)) in
    let mapped : get_or (with_entry id change entries) j d ≡ one (get_or entries j d) = get_or-map one entries j d d inside in
    ⊎_elim
    (λ e.
    let here_d : get_or entries j d ≡ entry = ap (λ n. get_or entries n d) e ∙ (get_or_default entries k d entry below ∙ sym here) in
    let written : get_or (set entries k (change entry)) j d ≡ change entry = ap (λ n. get_or (set entries k (change entry)) n d) e ∙ get_or-set_same entries k (change entry) d below in
    written ∙ (sym (cond-true (entry.id == id) (change entry) entry (eq-eqb _ _ same_id)) ∙ (ap one (sym here_d) ∙ sym mapped)))
    (λ differs.
    let here_d : get_or entries k d ≡ entry = get_or_default entries k d entry below ∙ sym here in
    let id_here : (get_or entries k d).id ≡ id = ap (λ (e : Entry). e.id) here_d ∙ same_id in
    let other_id : (get_or entries j d).id ≢ id = λ e.
    ⊎_elim (λ same. differs same)
    (⊎_elim (λ less. absurd (lt_irrefl (rising j k d less below) (e ∙ sym id_here)))
    (λ more. absurd (lt_irrefl (rising k j d more inside) (id_here ∙ sym e)))) (cases_order j k) in
    get_or-set_other entries k j (change entry) d differs ∙ (sym (cond-false _ _ _ (ne_eqb _ _ other_id)) ∙ sym mapped))
    (cases_eq j k))
  where
    lt_irrefl : {m n : ℕ} → m < n → m ≡ n → ⊥
    lt_irrefl l e = omega arith
