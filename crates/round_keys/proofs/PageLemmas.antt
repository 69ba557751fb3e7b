-- Keys in pages are found by page and place.
use Rattle.std.proofs.Common.{◌≡◌, ℕ, zero, suc, ◌+◌, ◌-◌, ◌*◌, ◌/◌, ◌%◌, ◌<◌, ◌≤◌, ◌≢◌, Bool, true, false, cond, not, T, eqb, List, [], ◌∷◌, ◌++◌, length, get_or, set, All, Option, Some, None, Result, Ok, Err, OnErr, nat_cmp, Ordering, Less, Equal, Greater, is_lt, is_eq, map, refl, sym, ap, ◌∙◌, subst, arith, eqb-true, ne_eqb, eq-eqb}
use Rattle.std.specs.Prelude.{◌&&◌}
use Rattle.std.specs.Option.{option_or}
use Rattle.std.specs.Cmp.{unsigned_tied}
use Rattle.std.specs.FinMap.Entries.{find, put, where_key, is_sorted, below_all}
use Rattle.std.proofs.lemmas.Bool.{cond-true, cond-false, eqb-false}
use Rattle.std.proofs.lemmas.Cmp.{ranked}
use Rattle.std.proofs.lemmas.List.{get_or-set_same, get_or-set_other, get_or_past, get_or-map, map-set, length-map}
use Rattle.std.proofs.lemmas.List.Elements.{All-head, All-tail, All-map, All-set, All-from_get_or, All-get_or, All-append, All-cons, All-nil}
use Rattle.std.proofs.Math.Nat.{div-add-mod, mod-lt}
use Rattle.trace_play.proofs.Entries.{find_below, find_put, find_kept, sorted_put, sorted_kept, same}
use Rattle.round_check.proofs.Named.{by_bool}
use Rattle.round_keys.specs.Pages.{IsPage, slot_at, slots_from, pages_from}
use Rattle.round_keys.proofs.HandLemmas.{or_nothing}

-- what the pages hold at a key's place
abbrev pub slot_in : {X : Type 0} → List (List (Option X)) → ℕ → Option X
slot_in pages key = slot_at (get_or pages (key / 256) []) (key % 256)

both : (a b : Bool) → T a → T b → T (a && b)
both true b p q = q
both false b p q = absurd p

is_less : (a b : ℕ) → a < b → T (is_lt (nat_cmp a b))
is_less a b low = by (nat_cmp a b) refl
  where
    by : (o : Ordering) → o ≡ nat_cmp a b → T (is_lt (nat_cmp a b))
    by Less e = subst (λ o. T (is_lt o)) e tt
    by Equal e = let same_number : a ≡ b = ranked a b Equal e in absurd (omega arith)
    by Greater e = let above : b < a = ranked a b Greater e in absurd (omega arith)

-- two tests that hold together
alike : (a b c d : ℕ) → (a ≡ b → c ≡ d) → (c ≡ d → a ≡ b) → eqb a b ≡ eqb c d
alike a b c d there back =
    by_bool (eqb a b)
    (λ e. e ∙ sym (eq-eqb c d (there (eqb-true a b e))))
    (λ e. e ∙ sym (ne_eqb c d (λ q. eqb-false a b e (back q))))

-- of a first thing and the rest
pub first_of : {A : Type 0} (P : A → Type 0) (x : A) (xs all : List A) → all ≡ x ∷ xs → All P all → P x
first_of P x xs all is h = All-head P x xs (subst (All P) is h)

pub rest_of : {A : Type 0} (P : A → Type 0) (x : A) (xs all : List A) → all ≡ x ∷ xs → All P all → All P xs
rest_of P x xs all is h = All-tail P x xs (subst (All P) is h)

-- of things that are seen through a function
pub unmapped : {A B : Type 0} (f : A → B) (P : B → Type 0) (xs : List A) → All P (map f xs) → All (λ (a : A). P (f a)) xs
unmapped f P [] all = All-nil (λ a. P (f a))
unmapped f P (x ∷ xs) all = All-cons (λ a. P (f a)) x xs (All-head P (f x) (map f xs) all) (unmapped f P xs (All-tail P (f x) (map f xs) all))

pub seen_at : {A B : Type 0} (f : A → B) (xs ys : List A) (i : ℕ) (d : A) (e : B) → map f xs ≡ map f ys → i < length xs → get_or (map f ys) i e ≡ f (get_or xs i d)
seen_at {B = B} f xs ys i d e same low = ap (λ (bs : List B). get_or bs i e) (sym same) ∙ get_or-map f xs i d e low

pub of_seen : {A B : Type 0} (f : A → B) (P : B → Type 0) (xs ys : List A) (i : ℕ) (d : A) → map f xs ≡ map f ys → i < length xs → All (λ (a : A). P (f a)) ys → P (f (get_or xs i d))
of_seen f P xs ys i d same low all =
    let long : length xs ≡ length ys = sym (length-map xs f) ∙ ap length same ∙ length-map ys f in
    subst P (seen_at f xs ys i d (f d) same low) (All-get_or P (map f ys) i (f d) (let short : length (map f ys) ≡ length ys = length-map ys f in omega arith) (All-map P f ys all))

pub same_seen : {A B : Type 0} (f : A → B) (P : B → Type 0) (xs ys : List A) → map f xs ≡ map f ys → All (λ (a : A). P (f a)) ys → All (λ (a : A). P (f a)) xs
same_seen f P xs ys same all = unmapped f P xs (subst (All P) (sym same) (All-map P f ys all))

pub long_seen : {A B : Type 0} (f : A → B) (xs ys : List A) → map f xs ≡ map f ys → length xs ≡ length ys
long_seen f xs ys same = sym (length-map xs f) ∙ ap length same ∙ length-map ys f

pub all_seen : {A B : Type 0} (f : A → B) (P : B → Type 0) (xs : List A) (e : B) → ((k : ℕ) → k < length xs → P (get_or (map f xs) k e)) → All (λ (a : A). P (f a)) xs
all_seen f P xs e each =
    let short : length (map f xs) ≡ length xs = length-map xs f in
    unmapped f P xs (All-from_get_or P (map f xs) e (λ k low. each k (omega arith)))

pub on_err : {V E : Type 0} {P Q : Type 0} (r : Result V E) → (P → Q) → OnErr r P → OnErr r Q
on_err (Ok v) f p = p
on_err (Err e) f p = f p

module _ {X : Type 0} where
  -- ---- keys rise

  below_slots : (x key : ℕ) (slots : List (Option X)) (rest : List (ℕ × X)) → x < key → T (below_all nat_cmp x rest) → T (below_all nat_cmp x (slots_from key slots ++ rest))
  below_slots x key [] rest low h = h
  below_slots x key (None ∷ slots) rest low h = below_slots x (key + 1) slots rest (omega arith) h
  below_slots x key (Some v ∷ slots) rest low h = both _ _ (is_less x key low) (below_slots x (key + 1) slots rest (omega arith) h)

  below_pages : (x number : ℕ) (pages : List (List (Option X))) → x < 256 * number → T (below_all nat_cmp x (pages_from number pages))
  below_pages x number [] low = tt
  below_pages x number (page ∷ pages) low = below_slots x (256 * number) page (pages_from (number + 1) pages) low (below_pages x (number + 1) pages (omega arith))

  sorted_slots : (key : ℕ) (slots : List (Option X)) (rest : List (ℕ × X)) → T (is_sorted nat_cmp rest) → ((x : ℕ) → x < key + length slots → T (below_all nat_cmp x rest))
      → T (is_sorted nat_cmp (slots_from key slots ++ rest))
  sorted_slots key [] rest up h = up
  sorted_slots key (None ∷ slots) rest up h = sorted_slots (key + 1) slots rest up (λ x low. h x (omega arith))
  sorted_slots key (Some v ∷ slots) rest up h =
      both _ _ (below_slots key (key + 1) slots rest (omega arith) (h key (omega arith))) (sorted_slots (key + 1) slots rest up (λ x low. h x (omega arith)))

  pub sorted_pages : (number : ℕ) (pages : List (List (Option X))) → All (λ (page : List (Option X)). IsPage page) pages → T (is_sorted nat_cmp (pages_from number pages))
  sorted_pages number [] all = tt
  sorted_pages number (page ∷ pages) all =
      let few : length page ≤ 256 = All-head (λ (p : List (Option X)). IsPage p) page pages all in
      sorted_slots (256 * number) page (pages_from (number + 1) pages)
      (sorted_pages (number + 1) pages (All-tail (λ (p : List (Option X)). IsPage p) page pages all))
      (λ x low. below_pages x (number + 1) pages (omega arith))

  -- ---- a key is found in its page, at its place

  none_before : (q key : ℕ) (slots : List (Option X)) → q < key → find nat_cmp q (slots_from key slots) ≡ None
  none_before q key [] low = refl
  none_before q key (None ∷ slots) low = none_before q (key + 1) slots (omega arith)
  none_before q key (Some v ∷ slots) low =
      cond-false (is_eq (nat_cmp q key)) (Some v) (find nat_cmp q (slots_from (key + 1) slots)) (unsigned_tied q key ∙ ne_eqb q key (λ e. omega arith))
      ∙ none_before q (key + 1) slots (omega arith)

  none_behind : (q key : ℕ) (slots : List (Option X)) → key + length slots ≤ q → find nat_cmp q (slots_from key slots) ≡ None
  none_behind q key [] high = refl
  none_behind q key (None ∷ slots) high = none_behind q (key + 1) slots (omega arith)
  none_behind q key (Some v ∷ slots) high =
      cond-false (is_eq (nat_cmp q key)) (Some v) (find nat_cmp q (slots_from (key + 1) slots)) (unsigned_tied q key ∙ ne_eqb q key (λ e. omega arith))
      ∙ none_behind q (key + 1) slots (omega arith)

  slot_found : (key place : ℕ) (slots : List (Option X)) → find nat_cmp (key + place) (slots_from key slots) ≡ slot_at slots place
  slot_found key place [] = refl
  slot_found key zero (None ∷ slots) = none_before (key + 0) (key + 1) slots (omega arith)
  slot_found key (suc place) (None ∷ slots) =
      let on : key + suc place ≡ (key + 1) + place = omega arith in
      ap (λ k. find nat_cmp k (slots_from (key + 1) slots)) on ∙ slot_found (key + 1) place slots
  slot_found key zero (Some v ∷ slots) =
      cond-true (is_eq (nat_cmp (key + 0) key)) (Some v) (find nat_cmp (key + 0) (slots_from (key + 1) slots)) (unsigned_tied (key + 0) key ∙ eq-eqb (key + 0) key (omega arith))
  slot_found key (suc place) (Some v ∷ slots) =
      let on : key + suc place ≡ (key + 1) + place = omega arith in
      cond-false (is_eq (nat_cmp (key + suc place) key)) (Some v) (find nat_cmp (key + suc place) (slots_from (key + 1) slots))
      (unsigned_tied (key + suc place) key ∙ ne_eqb (key + suc place) key (λ e. omega arith))
      ∙ ap (λ k. find nat_cmp k (slots_from (key + 1) slots)) on ∙ slot_found (key + 1) place slots

  find_both : (q : ℕ) (es fs : List (ℕ × X)) → find nat_cmp q (es ++ fs) ≡ option_or (find nat_cmp q es) (find nat_cmp q fs)
  find_both q [] fs = refl
  find_both q (e ∷ es) fs =
      elim (is_eq (nat_cmp q e.0)) as (λ b. cond b (Some e.1) (find nat_cmp q (es ++ fs)) ≡ option_or (cond b (Some e.1) (find nat_cmp q es)) (find nat_cmp q fs)) [
        | true ↦ refl
        | false ↦ find_both q es fs
      ]

  page_found : (from index place : ℕ) (pages : List (List (Option X))) → place < 256 → All (λ (page : List (Option X)). IsPage page) pages
      → find nat_cmp (256 * (from + index) + place) (pages_from from pages) ≡ slot_at (get_or pages index []) place
  page_found from index place [] low all = refl
  page_found from zero place (page ∷ pages) low all =
      let q = 256 * (from + 0) + place in
      let at : q ≡ 256 * from + place = omega arith in
      let later : find nat_cmp q (pages_from (from + 1) pages) ≡ None = find_below q (pages_from (from + 1) pages) (below_pages q (from + 1) pages (omega arith)) in
      find_both q (slots_from (256 * from) page) (pages_from (from + 1) pages)
      ∙ ap (option_or (find nat_cmp q (slots_from (256 * from) page))) later
      ∙ or_nothing (find nat_cmp q (slots_from (256 * from) page))
      ∙ ap (λ k. find nat_cmp k (slots_from (256 * from) page)) at
      ∙ slot_found (256 * from) place page
  page_found from (suc index) place (page ∷ pages) low all =
      let q = 256 * (from + suc index) + place in
      let few : length page ≤ 256 = All-head (λ (p : List (Option X)). IsPage p) page pages all in
      let on : q ≡ 256 * ((from + 1) + index) + place = omega arith in
      find_both q (slots_from (256 * from) page) (pages_from (from + 1) pages)
      ∙ ap (λ o. option_or o (find nat_cmp q (pages_from (from + 1) pages))) (none_behind q (256 * from) page (omega arith))
      ∙ ap (λ k. find nat_cmp k (pages_from (from + 1) pages)) on
      ∙ page_found (from + 1) index place pages low (All-tail (λ (p : List (Option X)). IsPage p) page pages all)

  pub key_found : (pages : List (List (Option X))) (key : ℕ) → All (λ (page : List (Option X)). IsPage page) pages → find nat_cmp key (pages_from 0 pages) ≡ slot_in pages key
  key_found pages key all =
      let whole : 256 * (key / 256) + key % 256 ≡ key = div-add-mod key 256 in
      let is : 256 * (0 + key / 256) + key % 256 ≡ key = omega arith in
      ap (λ k. find nat_cmp k (pages_from 0 pages)) (sym is) ∙ page_found 0 (key / 256) (key % 256) pages (mod-lt key (omega arith)) all

  -- ---- pages that hold the same, or another thing at one key

  pub same_pages : (ps qs : List (List (Option X))) → All (λ (page : List (Option X)). IsPage page) ps → All (λ (page : List (Option X)). IsPage page) qs
      → ((q : ℕ) → slot_in qs q ≡ slot_in ps q) → pages_from 0 qs ≡ pages_from 0 ps
  same_pages ps qs all_ps all_qs h =
      same (pages_from 0 qs) (pages_from 0 ps) (sorted_pages 0 qs all_qs) (sorted_pages 0 ps all_ps)
      (λ q. key_found qs q all_qs ∙ h q ∙ sym (key_found ps q all_ps))

  taken_out : (b : Bool) (o : Option X) → cond b None o ≡ cond (not b) o None
  taken_out true o = refl
  taken_out false o = refl

  pub taken_pages : (key : ℕ) (ps qs : List (List (Option X))) → All (λ (page : List (Option X)). IsPage page) ps → All (λ (page : List (Option X)). IsPage page) qs
      → ((q : ℕ) → slot_in qs q ≡ cond (eqb q key) None (slot_in ps q)) → pages_from 0 qs ≡ where_key nat_cmp (λ other. not (eqb other key)) (pages_from 0 ps)
  taken_pages key ps qs all_ps all_qs h =
      let other = λ (q : ℕ). not (eqb q key) in
      same (pages_from 0 qs) (where_key nat_cmp other (pages_from 0 ps)) (sorted_pages 0 qs all_qs) (sorted_kept other (pages_from 0 ps) (sorted_pages 0 ps all_ps))
      (λ q. key_found qs q all_qs ∙ h q ∙ taken_out (eqb q key) (slot_in ps q) ∙ ap (λ o. cond (other q) o None) (sym (key_found ps q all_ps)) ∙ sym (find_kept other q (pages_from 0 ps)))

  pub put_pages : (key : ℕ) (v : X) (ps qs : List (List (Option X))) → All (λ (page : List (Option X)). IsPage page) ps → All (λ (page : List (Option X)). IsPage page) qs
      → ((q : ℕ) → slot_in qs q ≡ cond (eqb q key) (Some v) (slot_in ps q)) → pages_from 0 qs ≡ put nat_cmp key v (pages_from 0 ps)
  put_pages key v ps qs all_ps all_qs h =
      same (pages_from 0 qs) (put nat_cmp key v (pages_from 0 ps)) (sorted_pages 0 qs all_qs) (sorted_put key v (pages_from 0 ps) (sorted_pages 0 ps all_ps))
      (λ q. key_found qs q all_qs ∙ h q ∙ ap (cond (eqb q key) (Some v)) (sym (key_found ps q all_ps)) ∙ sym (find_put q key v (pages_from 0 ps)))

  -- a page is written at the key's place
  pub written : (key : ℕ) (w : Option X) (ps : List (List (Option X))) (slots : List (Option X)) → key / 256 < length ps
      → ((place : ℕ) → slot_at slots place ≡ cond (eqb place (key % 256)) w (slot_at (get_or ps (key / 256) []) place))
      → (q : ℕ) → slot_in (set ps (key / 256) slots) q ≡ cond (eqb q key) w (slot_in ps q)
  written key w ps slots low h q =
      by_number (q / 256) (q % 256) (div-add-mod q 256) (mod-lt q (omega arith))
    where
      by_number : (number place : ℕ) → 256 * number + place ≡ q → place < 256
          → slot_at (get_or (set ps (key / 256) slots) number []) place ≡ cond (eqb q key) w (slot_at (get_or ps number []) place)
      by_number number place is small =
          let mine : 256 * (key / 256) + key % 256 ≡ key = div-add-mod key 256 in
          let low_place : key % 256 < 256 = mod-lt key (omega arith) in
          by_bool (eqb number (key / 256))
          (λ here.
          let same_page : number ≡ key / 256 = eqb-true number (key / 256) here in
          let page : get_or (set ps (key / 256) slots) number [] ≡ slots = ap (λ n. get_or (set ps (key / 256) slots) n []) same_page ∙ get_or-set_same ps (key / 256) slots [] low in
          ap (λ (s : List (Option X)). slot_at s place) page ∙ h place
          ∙ ap (λ n. cond (eqb place (key % 256)) w (slot_at (get_or ps n []) place)) (sym same_page)
          ∙ ap (λ b. cond b w (slot_at (get_or ps number []) place)) (alike place (key % 256) q key (λ e. omega arith) (λ e. omega arith)))
          (λ there.
          let other : number ≢ key / 256 = eqb-false number (key / 256) there in
          ap (λ (s : List (Option X)). slot_at s place) (get_or-set_other ps (key / 256) number slots [] other)
          ∙ sym (cond-false (eqb q key) w (slot_at (get_or ps number []) place) (ne_eqb q key (λ e. other (omega arith)))))

  -- ---- pages that a list of other things shows

  module _ {A : Type 0} (f : A → List (Option X)) (xs : List A) where
    shown : All (λ (a : A). IsPage (f a)) xs → All (λ (page : List (Option X)). IsPage page) (map f xs)
    shown all = All-map (λ (page : List (Option X)). IsPage page) f xs all

    pub pages_rise : All (λ (a : A). IsPage (f a)) xs → T (is_sorted nat_cmp (pages_from 0 (map f xs)))
    pages_rise all = sorted_pages 0 (map f xs) (shown all)

    page_is : (number : ℕ) (p : A) → number < length xs → p ≡ get_or xs number p → get_or (map f xs) number [] ≡ f p
    page_is number p low is = get_or-map f xs number p [] low ∙ ap f (sym is)

    pub place_found : (key : ℕ) (p : A) → key / 256 < length xs → p ≡ get_or xs (key / 256) p → All (λ (a : A). IsPage (f a)) xs
        → slot_at (f p) (key % 256) ≡ find nat_cmp key (pages_from 0 (map f xs))
    place_found key p low is all =
        ap (λ (s : List (Option X)). slot_at s (key % 256)) (sym (page_is (key / 256) p low is)) ∙ sym (key_found (map f xs) key (shown all))

    place_written : (key : ℕ) (p new : A) (w : Option X) → key / 256 < length xs → p ≡ get_or xs (key / 256) p
        → ((place : ℕ) → slot_at (f new) place ≡ cond (eqb place (key % 256)) w (slot_at (f p) place))
        → (q : ℕ) → slot_in (map f (set xs (key / 256) new)) q ≡ cond (eqb q key) w (slot_in (map f xs) q)
    place_written key p new w low is h q =
        let short : length (map f xs) ≡ length xs = length-map xs f in
        ap (λ (pages : List (List (Option X))). slot_in pages q) (map-set f xs (key / 256) new)
        ∙ written key w (map f xs) (f new) (omega arith)
        (λ place. h place ∙ ap (λ (s : List (Option X)). cond (eqb place (key % 256)) w (slot_at s place)) (sym (page_is (key / 256) p low is))) q

    all_written : (number : ℕ) (p new : A) → number < length xs → p ≡ get_or xs number p → (IsPage (f p) → IsPage (f new)) → All (λ (a : A). IsPage (f a)) xs
        → All (λ (a : A). IsPage (f a)) (set xs number new)
    all_written number p new low is fits all =
        All-set (λ (a : A). IsPage (f a)) xs number new (fits (subst (λ (a : A). IsPage (f a)) (sym is) (All-get_or (λ (a : A). IsPage (f a)) xs number p low all))) all

    pub place_taken : (key : ℕ) (p new : A) → key / 256 < length xs → p ≡ get_or xs (key / 256) p → (IsPage (f p) → IsPage (f new))
        → ((place : ℕ) → slot_at (f new) place ≡ cond (eqb place (key % 256)) None (slot_at (f p) place)) → All (λ (a : A). IsPage (f a)) xs
        → pages_from 0 (map f (set xs (key / 256) new)) ≡ where_key nat_cmp (λ other. not (eqb other key)) (pages_from 0 (map f xs))
    place_taken key p new low is fits h all =
        taken_pages key (map f xs) (map f (set xs (key / 256) new)) (shown all)
        (All-map (λ (page : List (Option X)). IsPage page) f (set xs (key / 256) new) (all_written (key / 256) p new low is fits all))
        (place_written key p new None low is h)

    pub place_put : (key : ℕ) (p new : A) (v : X) → key / 256 < length xs → p ≡ get_or xs (key / 256) p → (IsPage (f p) → IsPage (f new))
        → ((place : ℕ) → slot_at (f new) place ≡ cond (eqb place (key % 256)) (Some v) (slot_at (f p) place)) → All (λ (a : A). IsPage (f a)) xs
        → pages_from 0 (map f (set xs (key / 256) new)) ≡ put nat_cmp key v (pages_from 0 (map f xs))
    place_put key p new v low is fits h all =
        put_pages key v (map f xs) (map f (set xs (key / 256) new)) (shown all)
        (All-map (λ (page : List (Option X)). IsPage page) f (set xs (key / 256) new) (all_written (key / 256) p new low is fits all))
        (place_written key p new (Some v) low is h)

    pub place_same : (key : ℕ) (p new : A) → key / 256 < length xs → p ≡ get_or xs (key / 256) p → (IsPage (f p) → IsPage (f new))
        → ((place : ℕ) → slot_at (f new) place ≡ slot_at (f p) place) → All (λ (a : A). IsPage (f a)) xs
        → pages_from 0 (map f (set xs (key / 256) new)) ≡ pages_from 0 (map f xs)
    place_same key p new low is fits h all =
        let old = slot_at (f p) (key % 256) in
        same_pages (map f xs) (map f (set xs (key / 256) new)) (shown all)
        (All-map (λ (page : List (Option X)). IsPage page) f (set xs (key / 256) new) (all_written (key / 256) p new low is fits all))
        (λ q. place_written key p new old low is (λ place. h place ∙ itself place (key % 256) (slot_at (f p))) q
        ∙ ap (λ o. cond (eqb q key) o (slot_in (map f xs) q)) (ap (λ (s : List (Option X)). slot_at s (key % 256)) (sym (page_is (key / 256) p low is)))
        ∙ sym (itself q key (slot_in (map f xs))))
      where
        itself : (q k : ℕ) (g : ℕ → Option X) → g q ≡ cond (eqb q k) (g k) (g q)
        itself q k g =
            by_bool (eqb q k)
            (λ here. ap g (eqb-true q k here) ∙ sym (cond-true (eqb q k) (g k) (g q) here))
            (λ there. sym (cond-false (eqb q k) (g k) (g q) there))

    -- no page has the key
    not_there : (key : ℕ) → length xs ≤ key / 256 → slot_in (map f xs) key ≡ None
    not_there key high =
        let short : length (map f xs) ≡ length xs = length-map xs f in
        ap (λ (s : List (Option X)). slot_at s (key % 256)) (get_or_past (map f xs) (key / 256) [] (omega arith))

    pub none_there : (key : ℕ) → length xs ≤ key / 256 → All (λ (a : A). IsPage (f a)) xs → None ≡ find nat_cmp key (pages_from 0 (map f xs))
    none_there key high all = sym (not_there key high) ∙ sym (key_found (map f xs) key (shown all))

    pub none_taken : (key : ℕ) → length xs ≤ key / 256 → All (λ (a : A). IsPage (f a)) xs
        → pages_from 0 (map f xs) ≡ where_key nat_cmp (λ other. not (eqb other key)) (pages_from 0 (map f xs))
    none_taken key high all =
        taken_pages key (map f xs) (map f xs) (shown all) (shown all)
        (λ q. by_bool (eqb q key)
        (λ here. ap (slot_in (map f xs)) (eqb-true q key here) ∙ not_there key high ∙ sym (cond-true (eqb q key) None (slot_in (map f xs) q) here))
        (λ there. sym (cond-false (eqb q key) None (slot_in (map f xs) q) there)))

  -- a page more in which there is nothing yet
  pub page_more : {A : Type 0} (f : A → List (Option X)) (from : ℕ) (xs : List A) (a : A) → f a ≡ [] → pages_from from (map f (xs ++ a ∷ [])) ≡ pages_from from (map f xs)
  page_more f from [] a none = ap (λ (page : List (Option X)). slots_from (256 * from) page ++ []) none
  page_more f from (x ∷ xs) a none = ap (λ (rest : List (ℕ × X)). slots_from (256 * from) (f x) ++ rest) (page_more f (from + 1) xs a none)

  pub all_more : {A : Type 0} (f : A → List (Option X)) (xs : List A) (a : A) → f a ≡ [] → All (λ (a : A). IsPage (f a)) xs → All (λ (a : A). IsPage (f a)) (xs ++ a ∷ [])
  all_more {A} f xs a none all = All-append (λ (a : A). IsPage (f a)) xs (a ∷ []) all (All-cons (λ (a : A). IsPage (f a)) a [] (let short : length (f a) ≡ 0 = ap length none in omega arith) (All-nil (λ (a : A). IsPage (f a))))
