-- The numbers of sections by their names.
use Rattle.std.proofs.Common.{◌≡◌, ◌≢◌, ℕ, ◌+◌, ◌<◌, ◌≤◌, ◌↔◌, Bool, true, false, cond, not, set, List, [], ◌∷◌, ◌++◌, length, get_or, Option, Some, None, IfSome, IsNone, All, refl, sym, ap, ◌∙◌, subst, arith, ⊎_elim, length-append}
use Rattle.std.specs.List.{position, position_or_len}
use Rattle.std.specs.Str.{bytes_eq}
use Rattle.std.specs.Cmp.Lexicographic.{bytes_decides}
use Rattle.std.proofs.Math.ListN.{get_or-map}
use Rattle.std.proofs.Math.Seq.{map-set_same}
use Rattle.std.proofs.lemmas.List.{map-append, length-map}
use Rattle.std.proofs.lemmas.List.Elements.{All-from_get_or}
use Rattle.std.proofs.lemmas.List.Folds.{position_or_len_push}
use Rattle.std.proofs.lemmas.List.Quantifiers.{position-Some}
use Rattle.std.proofs.lemmas.List.Sums.{fails_before_first, prefix_len-le-length}
use Rattle.std.proofs.lemmas.Bool.{cases_Bool, cases_lt, lt-ltb, le-ltb, cond-true, cond-false, eq-eqb, ne_eqb, both_ways}
use Rattle.tag_section.specs.Section.{Section, no_section, section_at, names_of, number_of, with_section}

pub names_at : (sections : List Section) (k : ℕ) → get_or (names_of sections) k [] ≡ (section_at sections k).name
names_at sections k = get_or-map (λ (section : Section). section.name) sections k no_section

-- a place that is found is in range, and has what is looked for
pub number_found : (sections : List Section) (name : List ℕ) (r : Option ℕ) → r ≡ number_of sections name
    → IfSome r (λ number. (number < length sections) × ((section_at sections number).name ≡ name))
number_found sections name None e = tt
number_found sections name (Some number) e =
    let h = position-Some (λ other. bytes_eq other name) (names_of sections) number [] (sym e) in (
      subst (λ n. number < n) (length-map sections (λ (section : Section). section.name)) h.0,
      sym (names_at sections number) ∙ (bytes_decides (get_or (names_of sections) number []) name).0 h.1,
    )

-- where no place is found, none passes
none_found : (p : List ℕ → Bool) (xs : List (List ℕ)) → position p xs ≡ None → length xs ≤ position_or_len p xs
none_found p xs e =
    ⊎_elim
    (λ l. let some : position p xs ≡ Some (position_or_len p xs) = cond-true _ _ _ (lt-ltb _ _ l) in absurd (some_none (sym some ∙ e)))
    (λ l. l)
    (cases_lt (position_or_len p xs) (length xs))
  where
    some_none : {n : ℕ} → Some n ≡ None → ⊥
    some_none h = cc

-- a name without a number is no section's
pub number_none : (sections : List Section) (name : List ℕ) → number_of sections name ≡ None
    → (k : ℕ) → k < length sections → (section_at sections k).name ≢ name
number_none sections name e k l same =
    let p : List ℕ → Bool = λ other. bytes_eq other name in
    let names = names_of sections in
    let here = none_found p names e in
    let long : length names ≡ length sections = length-map sections (λ (section : Section). section.name) in
    let fails = fails_before_first p names k [] (omega arith) in
    both_ways (p (get_or names k [])) fails ((bytes_decides (get_or names k []) name).1 (names_at sections k ∙ same))

pub number_none_iff : (sections : List Section) (name : List ℕ) (r : Option ℕ) → r ≡ number_of sections name
    → IsNone r ↔ All (λ section. section.name ≢ name) sections
number_none_iff sections name None e =
    (λ _. All-from_get_or (λ section. section.name ≢ name) sections no_section (number_none sections name (sym e)), λ _. refl)
number_none_iff sections name (Some number) e =
    let h = number_found sections name (Some number) e in
    (λ none. absurd (cc none), λ all. absurd (all number no_section h.0 h.1))

-- one more element that passes, after some that do not
push_passes : (p : List ℕ → Bool) (xs : List (List ℕ)) (y : List ℕ) → p y ≡ true → position p xs ≡ None
    → position p (xs ++ y ∷ []) ≡ Some (length xs)
push_passes p xs y passes none =
    let least = none_found p xs none in
    let most = prefix_len-le-length (λ x. not (p x)) xs in
    let ends : position_or_len p xs ≡ length xs = omega arith in
    let adds : length xs + cond (p y) 0 1 ≡ length xs = rw passes (omega arith) in
    let place : position_or_len p (xs ++ y ∷ []) ≡ length xs =
    position_or_len_push p xs y ∙ (cond-true _ _ _ (eq-eqb _ _ ends) ∙ adds) in
    let below : position_or_len p (xs ++ y ∷ []) < length (xs ++ y ∷ []) = omega (arith, length-append xs (y ∷ [])) in
    cond-true _ _ _ (lt-ltb _ _ below) ∙ ap (λ n. Some n) place

-- one more element that does not pass
push_fails : (p : List ℕ → Bool) (xs : List (List ℕ)) (y : List ℕ) → p y ≡ false → position p (xs ++ y ∷ []) ≡ position p xs
push_fails p xs y fails =
    let most = prefix_len-le-length (λ x. not (p x)) xs in
    let place = position_or_len_push p xs y in
    let long = length-append xs (y ∷ []) in
    ⊎_elim
    (λ l.
    let apart : position_or_len p xs ≢ length xs = λ e. omega arith in
    let same : position_or_len p (xs ++ y ∷ []) ≡ position_or_len p xs = place ∙ cond-false _ _ _ (ne_eqb _ _ apart) in
    let below : position_or_len p (xs ++ y ∷ []) < length (xs ++ y ∷ []) = omega arith in
    cond-true _ _ _ (lt-ltb _ _ below) ∙ (ap (λ n. Some n) same ∙ sym (cond-true _ _ _ (lt-ltb _ _ l))))
    (λ l.
    let ends : position_or_len p xs ≡ length xs = omega arith in
    let adds : length xs + cond (p y) 0 1 ≡ length xs + 1 = rw fails refl in
    let past : position_or_len p (xs ++ y ∷ []) ≡ length xs + 1 = place ∙ (cond-true _ _ _ (eq-eqb _ _ ends) ∙ adds) in
    let above : length (xs ++ y ∷ []) ≤ position_or_len p (xs ++ y ∷ []) = omega arith in
    cond-false _ _ _ (le-ltb _ _ above) ∙ sym (cond-false _ _ _ (le-ltb _ _ l)))
    (cases_lt (position_or_len p xs) (length xs))

-- the numbers after a section of a new name was put at the end
pub number_of-with_section : (sections : List Section) (name other : List ℕ) → number_of sections name ≡ None
    → number_of (with_section sections name) other ≡ cond (bytes_eq name other) (Some (length sections)) (number_of sections other)
number_of-with_section sections name other new =
    let p : List ℕ → Bool = λ one. bytes_eq one other in
    let names = names_of sections in
    let grown : names_of (with_section sections name) ≡ names ++ name ∷ [] =
    map-append (λ (section : Section). section.name) sections (record { name = name; tags = [] } ∷ []) in
    let long : length names ≡ length sections = length-map sections (λ (section : Section). section.name) in
    ap (position p) grown ∙
    ⊎_elim
    (λ same.
    push_passes p names name same (subst (λ n. number_of sections n ≡ None) ((bytes_decides name other).0 same) new)
    ∙ (ap (λ n. Some n) long ∙ sym (cond-true _ _ _ same)))
    (λ differs. push_fails p names name differs ∙ sym (cond-false _ _ _ differs))
    (cases_Bool (bytes_eq name other))

-- a section whose name stays keeps all numbers
pub number_of-set : (sections : List Section) (k : ℕ) (new : Section) → new.name ≡ (section_at sections k).name
    → (name : List ℕ) → number_of (set sections k new) name ≡ number_of sections name
number_of-set sections k new same name =
    ap (position (λ other. bytes_eq other name)) (map-set_same (λ (section : Section). section.name) sections k new no_section same)
