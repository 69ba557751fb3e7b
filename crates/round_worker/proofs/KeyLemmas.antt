-- A map of keys is its entries by rising key. In what order it has them doesn't matter.
use Rattle.std.proofs.Common.{◌≡◌, ℕ, ◌≢◌, Bool, true, false, cond, not, T, eqb, List, [], ◌∷◌, All, Option, Some, None, nat_cmp, Less, Equal, Greater, refl, sym, ap, ◌∙◌, ⊎_elim, eqb-true, ne_eqb, eq-eqb}
use Rattle.std.specs.Prelude.{option_map, ◌&&◌}
use Rattle.std.specs.List.{AllByRecursion, IsDistinct}
use Rattle.std.specs.Map.{keys_of, lookup}
use Rattle.std.specs.Option.{option_or}
use Rattle.std.specs.Ordering.{is_eq, is_lt}
use Rattle.std.specs.FinMap.Entries.{find, put, where_key, is_sorted, below_all, by_order}
use Rattle.std.proofs.lemmas.Bool.{cases_Bool, cond-true, cond-false, eqb-false}
use Rattle.std.proofs.lemmas.List.Elements.{All-cons, All-nil}
use Rattle.trace_play.specs.Live.{Live}
use Rattle.trace_play.proofs.Entries.{before_or_behind, find_put, find_kept, find_put_all, put_all, sorted_put, sorted_put_all, sorted_kept, same, kept_put}
use Rattle.round_worker.specs.declared.keys.Kept.{Kept}
use Rattle.round_worker.specs.Kept.{KeyList, by_key, content_of, live_of}

other_way : (a b : ℕ) → eqb a b ≡ eqb b a
other_way a b =
    ⊎_elim
    (λ yes. yes ∙ sym (eq-eqb b a (sym (eqb-true a b yes))))
    (λ no. no ∙ sym (ne_eqb b a (λ e. eqb-false a b no (sym e))))
    (cases_Bool (eqb a b))

turned : {A : Type 0} (b : Bool) (x y : A) → cond (not b) x y ≡ cond b y x
turned true x y = refl
turned false x y = refl

pub never : {X : Type 0} {A : Type 0} (x : X) → None ≡ Some x → A
never x e = let no : ⊥ = cc in absurd no

module _ {X : Type 0} where
  pub find_by_key : (es : List (ℕ × X)) (q : ℕ) → find nat_cmp q (by_key es) ≡ lookup (eqb q) es
  find_by_key [] q = refl
  find_by_key (e ∷ es) q = find_put q e.0 e.1 (by_key es) ∙ ap (cond (eqb q e.0) (Some e.1)) (find_by_key es q)

  pub rises : (es : List (ℕ × X)) → T (is_sorted nat_cmp (by_key es))
  rises [] = tt
  rises (e ∷ es) = sorted_put e.0 e.1 (by_key es) (rises es)

  pub put_among : (old now : List (ℕ × X)) (key : ℕ) (v : X) → ((q : ℕ) → lookup (eqb q) now ≡ cond (eqb key q) (Some v) (lookup (eqb q) old)) → by_key now ≡ put nat_cmp key v (by_key old)
  put_among old now key v h =
      same (by_key now) (put nat_cmp key v (by_key old)) (rises now) (sorted_put key v (by_key old) (rises old))
      (λ q. find_by_key now q ∙ h q ∙ ap (λ b. cond b (Some v) (lookup (eqb q) old)) (other_way key q)
      ∙ ap (cond (eqb q key) (Some v)) (sym (find_by_key old q)) ∙ sym (find_put q key v (by_key old)))

  -- the entries of the other keys
  abbrev pub others : ℕ → List (ℕ × X) → List (ℕ × X)
  others key es = where_key nat_cmp (λ other. not (eqb other key)) es

  pub taken_out : (old now : List (ℕ × X)) (key : ℕ) → ((q : ℕ) → lookup (eqb q) now ≡ cond (eqb key q) None (lookup (eqb q) old)) → by_key now ≡ others key (by_key old)
  taken_out old now key h =
      same (by_key now) (others key (by_key old)) (rises now) (sorted_kept (λ other. not (eqb other key)) (by_key old) (rises old))
      (λ q. find_by_key now q ∙ h q ∙ ap (λ b. cond b None (lookup (eqb q) old)) (other_way key q)
      ∙ sym (turned (eqb q key) (lookup (eqb q) old) None) ∙ ap (λ o. cond (not (eqb q key)) o None) (sym (find_by_key old q))
      ∙ sym (find_kept (λ other. not (eqb other key)) q (by_key old)))

  none_looked : (key : ℕ) (es : List (ℕ × X)) → AllByRecursion (λ other. eqb key other ≡ false) (keys_of es) → lookup (eqb key) es ≡ None
  none_looked key [] others = refl
  none_looked key (e ∷ es) others = cond-false (eqb key e.0) (Some e.1) (lookup (eqb key) es) others.0 ∙ none_looked key es others.1

  -- a key that others follow isn't among them
  none_behind : (e : ℕ × X) (es : List (ℕ × X)) (q : ℕ) → IsDistinct eqb (keys_of (e ∷ es)) → eqb q e.0 ≡ true → find nat_cmp q (by_key es) ≡ None
  unfolding IsDistinct
  none_behind e es q once here = find_by_key es q ∙ ap (λ k. lookup (eqb k) es) (eqb-true q e.0 here) ∙ none_looked e.0 es once.0

  -- entries of which each has a key of its own are put in in any order
  pub any_order : (into es : List (ℕ × X)) → T (is_sorted nat_cmp into) → IsDistinct eqb (keys_of es) → put_all into es ≡ put_all into (by_key es)
  unfolding IsDistinct
  any_order into [] up once = refl
  any_order into (e ∷ es) up once =
      let more = put nat_cmp e.0 e.1 into in
      let later = by_key es in
      any_order more es (sorted_put e.0 e.1 into up) once.1
      ∙ same (put_all more later) (put_all into (put nat_cmp e.0 e.1 later)) (sorted_put_all more later (sorted_put e.0 e.1 into up)) (sorted_put_all into (put nat_cmp e.0 e.1 later) up)
      (λ q. find_put_all q more later (rises es) ∙ ap (option_or (find nat_cmp q later)) (find_put q e.0 e.1 into)
      ∙ before_or_behind (eqb q e.0) e.1 (find nat_cmp q later) (find nat_cmp q into) (none_behind e es q once)
      ∙ sym (find_put_all q into (put nat_cmp e.0 e.1 later) (sorted_put e.0 e.1 later (rises es)) ∙ ap (λ o. option_or o (find nat_cmp q into)) (find_put q e.0 e.1 later)))

  -- what holds of all that a key finds holds of each entry
  pub all_entries : (P : X → Type 0) (es : List (ℕ × X)) → IsDistinct eqb (keys_of es) → ((q : ℕ) (x : X) → find nat_cmp q (by_key es) ≡ Some x → P x) → All (λ (e : ℕ × X). P e.1) es
  unfolding IsDistinct
  all_entries P [] once own = All-nil (λ (e : ℕ × X). P e.1)
  all_entries P (e ∷ es) once own =
      All-cons (λ (e : ℕ × X). P e.1) e es
      (own e.0 e.1 (find_put e.0 e.0 e.1 (by_key es) ∙ cond-true (eqb e.0 e.0) (Some e.1) (find nat_cmp e.0 (by_key es)) (eq-eqb e.0 e.0 refl)))
      (all_entries P es once.1 (λ q x found. own q x (find_put q e.0 e.1 (by_key es) ∙ still q x found)))
    where
      still : (q : ℕ) (x : X) → find nat_cmp q (by_key es) ≡ Some x → cond (eqb q e.0) (Some e.1) (find nat_cmp q (by_key es)) ≡ Some x
      still q x found =
          ⊎_elim
          (λ yes. never x (sym (none_behind e es q once yes) ∙ found))
          (λ no. cond-false (eqb q e.0) (Some e.1) (find nat_cmp q (by_key es)) no ∙ found)
          (cases_Bool (eqb q e.0))

  -- what is put at a key that was taken out is put in its place
  again : (b : Bool) (v : X) (o : Option X) → cond b (Some v) (cond (not b) o None) ≡ cond b (Some v) o
  again true v o = refl
  again false v o = refl

  pub put_taken : (key : ℕ) (v : X) (es : List (ℕ × X)) → T (is_sorted nat_cmp es) → put nat_cmp key v (others key es) ≡ put nat_cmp key v es
  put_taken key v es r =
      same (put nat_cmp key v (others key es)) (put nat_cmp key v es) (sorted_put key v (others key es) (sorted_kept _ es r)) (sorted_put key v es r)
      (λ q. find_put q key v (others key es) ∙ ap (cond (eqb q key) (Some v)) (find_kept (λ other. not (eqb other key)) q es)
      ∙ again (eqb q key) v (find nat_cmp q es) ∙ sym (find_put q key v es))

  -- two keys
  pub put_both : (one two : ℕ) (v w : X) (es : List (ℕ × X)) → one ≢ two → T (is_sorted nat_cmp es)
      → put nat_cmp one v (put nat_cmp two w (others two (others one es))) ≡ put nat_cmp one v (put nat_cmp two w es)
  put_both one two v w es differ r =
      let mine = λ (other : ℕ). not (eqb other one) in
      ap (put nat_cmp one v)
      (put_taken two w (others one es) (sorted_kept mine es r)
      ∙ sym (kept_put mine two w es r (ap not (ne_eqb two one (λ e. differ (sym e))))))
      ∙ put_taken one v (put nat_cmp two w es) (sorted_put two w es r)

-- ---- as the live list

pub live_find : (key : ℕ) (es : KeyList) → find nat_cmp key (live_of es) ≡ option_map content_of (find nat_cmp key es)
live_find key [] = refl
live_find key (e ∷ es) =
    elim (is_eq (nat_cmp key e.0)) as (λ b. cond b (Some (content_of e.1)) (find nat_cmp key (live_of es)) ≡ option_map content_of (cond b (Some e.1) (find nat_cmp key es))) [
      | true ↦ refl
      | false ↦ live_find key es
    ]

pub live_put : (key : ℕ) (kept : Kept) (es : KeyList) → live_of (put nat_cmp key kept es) ≡ put nat_cmp key (content_of kept) (live_of es)
live_put key kept [] = refl
live_put key kept (e ∷ es) =
    elim (nat_cmp key e.0) as (λ o. live_of (by_order o ((key, kept) ∷ e ∷ es) ((e.0, kept) ∷ es) (e ∷ put nat_cmp key kept es))
    ≡ by_order o ((key, content_of kept) ∷ live_of (e ∷ es)) ((e.0, content_of kept) ∷ live_of es) ((e.0, content_of e.1) ∷ put nat_cmp key (content_of kept) (live_of es))) [
      | Less ↦ refl
      | Equal ↦ refl
      | Greater ↦ ap (λ (t : Live). (e.0, content_of e.1) ∷ t) (live_put key kept es)
    ]

pub live_where : (p : ℕ → Bool) (es : KeyList) → live_of (where_key nat_cmp p es) ≡ where_key nat_cmp p (live_of es)
live_where p [] = refl
live_where p (e ∷ es) =
    elim (p e.0) as (λ b. live_of (cond b (e ∷ where_key nat_cmp p es) (where_key nat_cmp p es)) ≡ cond b ((e.0, content_of e.1) ∷ where_key nat_cmp p (live_of es)) (where_key nat_cmp p (live_of es))) [
      | true ↦ ap (λ (t : Live). (e.0, content_of e.1) ∷ t) (live_where p es)
      | false ↦ live_where p es
    ]

-- ---- keys still rise, and what is found and put back is as before

below_live : (x : ℕ) (es : KeyList) → below_all nat_cmp x (live_of es) ≡ below_all nat_cmp x es
below_live x [] = refl
below_live x (e ∷ es) = ap (λ b. is_lt (nat_cmp x e.0) && b) (below_live x es)

pub live_rises : (es : KeyList) → is_sorted nat_cmp (live_of es) ≡ is_sorted nat_cmp es
live_rises [] = refl
live_rises (e ∷ es) = (λ i. below_live e.0 es i && live_rises es i)

pub put_found : {X : Type 0} (key : ℕ) (v : X) (es : List (ℕ × X)) → T (is_sorted nat_cmp es) → find nat_cmp key es ≡ Some v → put nat_cmp key v es ≡ es
put_found {X} key v es r found =
    same (put nat_cmp key v es) es (sorted_put key v es r) r (λ q. find_put q key v es ∙ as_before q)
  where
    as_before : (q : ℕ) → cond (eqb q key) (Some v) (find nat_cmp q es) ≡ find nat_cmp q es
    as_before q =
        let here = eqb q key in
        ⊎_elim
        (λ yes. cond-true here (Some v) (find nat_cmp q es) yes ∙ sym found ∙ ap (λ (k : ℕ). find nat_cmp k es) (sym (eqb-true q key yes)))
        (λ no. cond-false here (Some v) (find nat_cmp q es) no)
        (cases_Bool here)
