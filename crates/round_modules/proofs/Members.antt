-- Members of a list, and lists of entries whose ids rise: who is in both is one, and two lists with the same members are one.
use Rattle.std.proofs.Common.{◌≡◌, ℕ, zero, suc, ◌<◌, ◌==◌, ◌||◌, ◌⊎◌, inl, inr, Bool, true, false, cond, List, [], ◌∷◌, length, get_or, map, filter, Option, None, Some, All, AllPairs, Any, Contains, refl, sym, ap, ◌∙◌, subst, arith, ⊎_elim, eqb-true, eq-eqb}
use Rattle.std.specs.List.{list_all, list_any}
use Rattle.std.proofs.lemmas.Bool.{and_parts, cases_order, cond-true, false≢true, or_cases}
use Rattle.std.proofs.lemmas.List.{get_or_default}
use Rattle.std.proofs.lemmas.List.Elements.{Contains-get_or}
use Rattle.module_area.specs.declared.entry.Entry.{Entry}
use Rattle.module_area.specs.Entries.{AreApart, Covers, entry_of}
use Rattle.module_area.proofs.EntryLemmas.{find_none, find_some}

-- ---- members

pub here : {X : Type 0} (x : X) (xs : List X) → Contains (x ∷ xs) x
here x xs = (0, omega arith, refl)

pub later : {X : Type 0} (x y : X) (xs : List X) → Contains xs y → Contains (x ∷ xs) y
later x y xs h = (suc h.0, omega (arith, h.1), h.2)

pub nobody : {X : Type 0} (x : X) → Contains [] x → ⊥
nobody x h = omega (arith, h.1)

pub member_cases : {X : Type 0} (x y : X) (xs : List X) → Contains (x ∷ xs) y → (x ≡ y) ⊎ Contains xs y
member_cases x y xs h = go h.0 h.1 h.2
  where
    go : (k : ℕ) → k < length (x ∷ xs) → get_or (x ∷ xs) k y ≡ y → (x ≡ y) ⊎ Contains xs y
    go zero l s = inl s
    go (suc k) l s = inr (k, omega (arith, l), s)

-- a member that passes
pub record Member (X : Type 0) (xs : List X) (P : X → Type 0) : Type 0 where
  pub item : X
  pub there : Contains xs item
  pub holds : P item

pub any_member : {X : Type 0} (P : X → Type 0) (xs : List X) → Any P xs → Member X xs P
any_member P xs h = record { item = h.1; there = (h.0, h.2, h.3); holds = h.4 }

pub member_any : {X : Type 0} (P : X → Type 0) (xs : List X) (x : X) → Contains xs x → P x → Any P xs
member_any P xs x h p = (h.0, x, h.1, h.2, p)

pub all_members : {X : Type 0} (P : X → Type 0) (xs : List X) → ((x : X) → Contains xs x → P x) → All P xs
all_members P xs h = λ k d less. h (get_or xs k d) (Contains-get_or xs k d less)

pub map_has : {X Y : Type 0} (f : X → Y) (xs : List X) (x : X) → Contains xs x → Contains (map f xs) (f x)
map_has f [] x h = absurd (nobody x h)
map_has f (y ∷ ys) x h = ⊎_elim (λ same. subst (λ z. Contains (f y ∷ map f ys) (f z)) same (here (f y) (map f ys))) (λ rest. later (f y) (f x) (map f ys) (map_has f ys x rest)) (member_cases y x ys h)

pub map_from : {X Y : Type 0} (f : X → Y) (xs : List X) (y : Y) → Contains (map f xs) y → Member X xs (λ x. f x ≡ y)
map_from f [] y h = absurd (nobody y h)
map_from {X} {Y} f (x ∷ xs) y h = ⊎_elim (λ same. record { item = x; there = here x xs; holds = same }) (λ rest. go (map_from f xs y rest)) (member_cases (f x) y (map f xs) h)
  where
    go : Member X xs (λ z. f z ≡ y) → Member X (x ∷ xs) (λ z. f z ≡ y)
    go m = record { item = m.item; there = later x m.item xs m.there; holds = m.holds }

pub filter_has : {X : Type 0} (p : X → Bool) (xs : List X) (x : X) → Contains xs x → p x ≡ true → Contains (filter p xs) x
filter_has p [] x h passes = absurd (nobody x h)
filter_has {X} p (y ∷ ys) x h passes =
    ⊎_elim (λ same. subst (λ zs. Contains zs x) (sym (cond-true (p y) (y ∷ filter p ys) (filter p ys) (ap p same ∙ passes))) (subst (λ z. Contains (y ∷ filter p ys) z) same (here y (filter p ys))))
    (λ rest. go (p y) (filter_has p ys x rest passes)) (member_cases y x ys h)
  where
    go : (b : Bool) → Contains (filter p ys) x → Contains (cond b (y ∷ filter p ys) (filter p ys)) x
    go true rest = later y x (filter p ys) rest
    go false rest = rest

pub filter_from : {X : Type 0} (p : X → Bool) (xs : List X) (x : X) → Contains (filter p xs) x → Contains xs x × (p x ≡ true)
filter_from p [] x h = absurd (nobody x h)
filter_from {X} p (y ∷ ys) x h = go (p y) refl h (λ rest. filter_from p ys x rest)
  where
    go : (b : Bool) → p y ≡ b → Contains (cond b (y ∷ filter p ys) (filter p ys)) x → (Contains (filter p ys) x → Contains ys x × (p x ≡ true)) → Contains (y ∷ ys) x × (p x ≡ true)
    go true is h rest =
        ⊎_elim (λ same. (subst (λ z. Contains (y ∷ ys) z) same (here y ys), ap p (sym same) ∙ is)) (λ more. let r = rest more in (later y x ys r.0, r.1)) (member_cases y x (filter p ys) h)
    go false is h rest = let r = rest h in (later y x ys r.0, r.1)

-- ---- tests of all and of some

pub list_all_at : {X : Type 0} (p : X → Bool) (xs : List X) (x : X) → list_all p xs ≡ true → Contains xs x → p x ≡ true
list_all_at p [] x all h = absurd (nobody x h)
list_all_at p (y ∷ ys) x all h = let both = and_parts (p y) (list_all p ys) all in ⊎_elim (λ same. ap p (sym same) ∙ both.0) (λ rest. list_all_at p ys x both.1 rest) (member_cases y x ys h)

pub list_any_from : {X : Type 0} (p : X → Bool) (xs : List X) → list_any p xs ≡ true → Member X xs (λ x. p x ≡ true)
list_any_from p [] any = absurd (false≢true any)
list_any_from {X} p (y ∷ ys) any = ⊎_elim (λ passes. record { item = y; there = here y ys; holds = passes }) (λ rest. go (list_any_from p ys rest)) (or_cases (p y) (list_any p ys) any)
  where
    go : Member X ys (λ z. p z ≡ true) → Member X (y ∷ ys) (λ z. p z ≡ true)
    go m = record { item = m.item; there = later y m.item ys m.there; holds = m.holds }

pub list_any_has : {X : Type 0} (p : X → Bool) (xs : List X) (x : X) → Contains xs x → p x ≡ true → list_any p xs ≡ true
list_any_has p [] x h passes = absurd (nobody x h)
list_any_has p (y ∷ ys) x h passes = ⊎_elim (λ same. ap (λ b. b || list_any p ys) (ap p same ∙ passes)) (λ rest. or_true (p y) (list_any p ys) (list_any_has p ys x rest passes)) (member_cases y x ys h)
  where
    or_true : (a b : Bool) → b ≡ true → (a || b) ≡ true
    or_true true b is = refl
    or_true false b is = is

-- ---- related pairs

pub pairs_head : {X : Type 0} (R : X → X → Type 0) (x : X) (xs : List X) → AllPairs R (x ∷ xs) → All (R x) xs
pairs_head R x xs h = λ k d less. h 0 (suc k) d (omega arith) (omega (arith, less))

pub pairs_tail : {X : Type 0} (R : X → X → Type 0) (x : X) (xs : List X) → AllPairs R (x ∷ xs) → AllPairs R xs
pairs_tail R x xs h = λ i j d less inside. h (suc i) (suc j) d (omega (arith, less)) (omega (arith, inside))

-- two members that can't be related are one
pub one_of : {X : Type 0} (R : X → X → Type 0) (xs : List X) (x y : X) → AllPairs R xs → Contains xs x → Contains xs y → (R x y → ⊥) → (R y x → ⊥) → x ≡ y
one_of R xs x y pairs h g no_xy no_yx =
    ⊎_elim (λ same. sym h.2 ∙ get_or_default xs h.0 x y h.1 ∙ ap (λ k. get_or xs k y) same ∙ g.2)
    (⊎_elim
    (λ less. absurd (no_xy (subst (λ z. R z y) h.2 (subst (λ z. R (get_or xs h.0 x) z) (get_or_default xs g.0 x y g.1 ∙ g.2) (pairs h.0 g.0 x less g.1)))))
    (λ more. absurd (no_yx (subst (λ z. R z x) g.2 (subst (λ z. R (get_or xs g.0 y) z) (get_or_default xs h.0 y x h.1 ∙ h.2) (pairs g.0 h.0 y more h.1))))))
    (cases_order h.0 g.0)

-- ---- entries by rising ids

abbrev pub Rises : List Entry → Type 0
Rises es = AllPairs (λ (one : Entry) (other : Entry). one.id < other.id) es

pub same_id : (es : List Entry) (x y : Entry) → Rises es → Contains es x → Contains es y → x.id ≡ y.id → x ≡ y
same_id es x y rises h g same = one_of (λ (one : Entry) (other : Entry). one.id < other.id) es x y rises h g (λ less. omega (arith, less, same)) (λ less. omega (arith, less, same))

pub same_cover : (es : List Entry) (x y : Entry) (t : ℕ) → AllPairs AreApart es → Contains es x → Contains es y → Covers x t → Covers y t → x ≡ y
same_cover es x y t apart h g one other = one_of AreApart es x y apart h g (λ r. r t one other) (λ r. r t other one)

-- the entry of a member's id is the member
pub entry_is : (es : List Entry) (x : Entry) (id : ℕ) → Rises es → Contains es x → x.id ≡ id → entry_of es id ≡ Some x
entry_is es x id rises h its = go (entry_of es id) refl
  where
    go : (o : Option Entry) → entry_of es id ≡ o → o ≡ Some x
    go None is = absurd (false≢true (sym (none x h) ∙ eq-eqb x.id id its))
      where
        none : (y : Entry) → Contains es y → (y.id == id) ≡ false
        none y there = subst (λ z. (z.id == id) ≡ false) there.2 (find_none (λ (e : Entry). e.id == id) es is there.0 y there.1)
    go (Some y) is = let f = find_some (λ (e : Entry). e.id == id) es y is in ap (λ z. Some z) (same_id es y x rises f.0 h (eqb-true y.id id f.1 ∙ sym its))

-- the entry of an id is a member
pub entry_member : (es : List Entry) (x : Entry) (id : ℕ) → entry_of es id ≡ Some x → Contains es x × (x.id ≡ id)
entry_member es x id is = let f = find_some (λ (e : Entry). e.id == id) es x is in (f.0, eqb-true x.id id f.1)

-- two lists by rising ids with the same members are one
pub same_members : (xs ys : List Entry) → Rises xs → Rises ys → ((e : Entry) → Contains xs e → Contains ys e) → ((e : Entry) → Contains ys e → Contains xs e) → xs ≡ ys
same_members [] [] rx ry there back = refl
same_members [] (y ∷ ys) rx ry there back = absurd (nobody y (back y (here y ys)))
same_members (x ∷ xs) [] rx ry there back = absurd (nobody x (there x (here x xs)))
same_members (x ∷ xs) (y ∷ ys) rx ry there back =
    (λ i. heads i ∷ (same_members xs ys (pairs_tail below x xs rx) (pairs_tail below y ys ry)
    (λ e h. ⊎_elim (λ same. absurd (behind x xs rx e h (ap (λ (z : Entry). z.id) (heads ∙ same)))) (λ rest. rest) (member_cases y e ys (there e (later x e xs h))))
    (λ e h. ⊎_elim (λ same. absurd (behind y ys ry e h (ap (λ (z : Entry). z.id) (sym heads ∙ same)))) (λ rest. rest) (member_cases x e xs (back e (later y e ys h))))) i)
  where
    below : Entry → Entry → Type 0
    below one other = one.id < other.id

    above : (z : Entry) (zs : List Entry) → Rises (z ∷ zs) → (e : Entry) → Contains zs e → z.id < e.id
    above z zs r e h = subst (λ w. z.id < w.id) h.2 (pairs_head below z zs r h.0 e h.1)

    behind : (z : Entry) (zs : List Entry) → Rises (z ∷ zs) → (e : Entry) → Contains zs e → z.id ≡ e.id → ⊥
    behind z zs r e h same = omega (arith, above z zs r e h, same)

    heads : x ≡ y
    heads =
        ⊎_elim (λ same. sym same)
        (λ x_later. ⊎_elim (λ same. same) (λ y_later. absurd (omega (arith, above y ys ry x x_later, above x xs rx y y_later))) (member_cases x y xs (back y (here y ys))))
        (member_cases y x ys (there x (here x xs)))
