-- Entries by rising key: what is done at some keys, among the others.
use Rattle.std.proofs.Common.{◌≡◌, ℕ, Bool, true, false, cond, not, T, eqb, List, [], ◌∷◌, Option, Some, None, nat_cmp, Less, Equal, Greater, Ordering, is_lt, is_eq, refl, sym, ap, ◌∙◌, subst}
use Rattle.std.specs.Prelude.{fold, ◌&&◌}
use Rattle.std.specs.Option.{option_or}
use Rattle.std.specs.Cmp.{unsigned_tied}
use Rattle.std.specs.FinMap.{nat_cmp-IsAntisymmetric}
use Rattle.std.specs.FinMap.Entries.{find, put, where_key, is_sorted, below_all, is_sorted-put, is_sorted-where_key, find-put, find-where_key, same_entries}
use Rattle.std.proofs.lemmas.Cmp.{nat_cmp_total}
use Rattle.std.proofs.lemmas.Bool.{eqb-true}

pub first_true : (a b : Bool) → T (a && b) → T a
first_true true b p = tt
first_true false b p = p

pub second_true : (a b : Bool) → T (a && b) → T b
second_true true b p = p
second_true false b p = absurd p

pub less : (o : Ordering) → T (is_lt o) → o ≡ Less
less Less p = refl
less Equal p = absurd p
less Greater p = absurd p

-- two tests of which the first implies the second
in_turn : {A : Type 0} (b m : Bool) (x y z : A) → (b ≡ true → m ≡ true) → cond m (cond b x y) z ≡ cond b x (cond m y z)
in_turn true true x y z h = refl
in_turn true false x y z h = let no : ⊥ = cc (h refl) in absurd no
in_turn false m x y z h = refl

-- two tests of which never both hold
never_both : {A : Type 0} (b m : Bool) (x y z : A) → (b ≡ true → m ≡ false) → cond m (cond b x y) z ≡ cond m y z
never_both true true x y z h = let no : ⊥ = cc (h refl) in absurd no
never_both true false x y z h = refl
never_both false m x y z h = refl

each_way : {A : Type 0} (b c : Bool) (x z : A) → cond b (cond c x z) z ≡ cond c (cond b x z) z
each_way true c x z = refl
each_way false true x z = refl
each_way false false x z = refl

one_of_two : {A : Type 0} (m : Bool) (o : Option A) → option_or (cond m o None) (cond (not m) o None) ≡ o
one_of_two true None = refl
one_of_two true (Some x) = refl
one_of_two false o = refl

-- what is put at a key before or behind the others, which don't have it
pub before_or_behind : {A : Type 0} (b : Bool) (v : A) (others into : Option A) → (b ≡ true → others ≡ None) → option_or others (cond b (Some v) into) ≡ option_or (cond b (Some v) others) into
before_or_behind true v others into none = ap (λ o. option_or o (Some v)) (none refl)
before_or_behind false v others into none = refl

module _ {X : Type 0} where
  -- the entries, with those of another list put in
  abbrev pub put_all : List (ℕ × X) → List (ℕ × X) → List (ℕ × X)
  put_all into es = fold (λ into entry. put nat_cmp entry.0 entry.1 into) into es

  pub find_put : (q key : ℕ) (v : X) (es : List (ℕ × X)) → find nat_cmp q (put nat_cmp key v es) ≡ cond (eqb q key) (Some v) (find nat_cmp q es)
  find_put q key v es = find-put nat_cmp nat_cmp_total q key v es ∙ ap (λ b. cond b (Some v) (find nat_cmp q es)) (unsigned_tied q key)

  pub find_kept : (p : ℕ → Bool) (q : ℕ) (es : List (ℕ × X)) → find nat_cmp q (where_key nat_cmp p es) ≡ cond (p q) (find nat_cmp q es) None
  find_kept p q es = find-where_key nat_cmp p q (λ x e. ap p (sym (nat_cmp-IsAntisymmetric q x e))) es

  pub sorted_put : (key : ℕ) (v : X) (es : List (ℕ × X)) → T (is_sorted nat_cmp es) → T (is_sorted nat_cmp (put nat_cmp key v es))
  sorted_put = is_sorted-put nat_cmp nat_cmp_total

  pub sorted_kept : (p : ℕ → Bool) (es : List (ℕ × X)) → T (is_sorted nat_cmp es) → T (is_sorted nat_cmp (where_key nat_cmp p es))
  sorted_kept = is_sorted-where_key nat_cmp

  pub same : (es fs : List (ℕ × X)) → T (is_sorted nat_cmp es) → T (is_sorted nat_cmp fs) → ((q : ℕ) → find nat_cmp q es ≡ find nat_cmp q fs) → es ≡ fs
  same = same_entries nat_cmp nat_cmp_total nat_cmp-IsAntisymmetric

  pub kept_put : (mine : ℕ → Bool) (key : ℕ) (v : X) (es : List (ℕ × X)) → T (is_sorted nat_cmp es) → mine key ≡ true → where_key nat_cmp mine (put nat_cmp key v es) ≡ put nat_cmp key v (where_key nat_cmp mine es)
  kept_put mine key v es rises is =
      same _ _ (sorted_kept mine _ (sorted_put key v es rises)) (sorted_put key v _ (sorted_kept mine es rises))
      (λ q. find_kept mine q (put nat_cmp key v es) ∙ ap (λ o. cond (mine q) o None) (find_put q key v es)
      ∙ in_turn (eqb q key) (mine q) (Some v) (find nat_cmp q es) None (λ e. ap mine (eqb-true q key e) ∙ is)
      ∙ sym (find_put q key v (where_key nat_cmp mine es) ∙ ap (cond (eqb q key) (Some v)) (find_kept mine q es)))

  pub dropped_put : (mine : ℕ → Bool) (key : ℕ) (v : X) (es : List (ℕ × X)) → T (is_sorted nat_cmp es) → mine key ≡ false → where_key nat_cmp mine (put nat_cmp key v es) ≡ where_key nat_cmp mine es
  dropped_put mine key v es rises is =
      same _ _ (sorted_kept mine _ (sorted_put key v es rises)) (sorted_kept mine es rises)
      (λ q. find_kept mine q (put nat_cmp key v es) ∙ ap (λ o. cond (mine q) o None) (find_put q key v es)
      ∙ never_both (eqb q key) (mine q) (Some v) (find nat_cmp q es) None (λ e. ap mine (eqb-true q key e) ∙ is)
      ∙ sym (find_kept mine q es))

  pub kept_kept : (p r : ℕ → Bool) (es : List (ℕ × X)) → T (is_sorted nat_cmp es) → where_key nat_cmp p (where_key nat_cmp r es) ≡ where_key nat_cmp r (where_key nat_cmp p es)
  kept_kept p r es rises =
      same _ _ (sorted_kept p _ (sorted_kept r es rises)) (sorted_kept r _ (sorted_kept p es rises))
      (λ q. find_kept p q (where_key nat_cmp r es) ∙ ap (λ o. cond (p q) o None) (find_kept r q es)
      ∙ each_way (p q) (r q) (find nat_cmp q es) None
      ∙ sym (find_kept r q (where_key nat_cmp p es) ∙ ap (λ o. cond (r q) o None) (find_kept p q es)))

  -- the second test only fails where the first does
  pub kept_within : (p r : ℕ → Bool) (es : List (ℕ × X)) → T (is_sorted nat_cmp es) → ((q : ℕ) → p q ≡ true → r q ≡ true) → where_key nat_cmp p (where_key nat_cmp r es) ≡ where_key nat_cmp p es
  kept_within p r es rises h =
      same _ _ (sorted_kept p _ (sorted_kept r es rises)) (sorted_kept p es rises)
      (λ q. find_kept p q (where_key nat_cmp r es) ∙ ap (λ o. cond (p q) o None) (find_kept r q es)
      ∙ twice (p q) (r q) (find nat_cmp q es) (h q)
      ∙ sym (find_kept p q es))
    where
      twice : (a b : Bool) (o : Option X) → (a ≡ true → b ≡ true) → cond a (cond b o None) None ≡ cond a o None
      twice true true o g = refl
      twice true false o g = let no : ⊥ = cc (g refl) in absurd no
      twice false b o g = refl

  pub find_below : (q : ℕ) (es : List (ℕ × X)) → T (below_all nat_cmp q es) → find nat_cmp q es ≡ None
  find_below q [] h = refl
  find_below q (e ∷ es) h = ap (λ r. cond (is_eq r) (Some e.1) (find nat_cmp q es)) (less _ (first_true _ _ h)) ∙ find_below q es (second_true _ _ h)

  pub find_put_all : (q : ℕ) (into es : List (ℕ × X)) → T (is_sorted nat_cmp es) → find nat_cmp q (put_all into es) ≡ option_or (find nat_cmp q es) (find nat_cmp q into)
  find_put_all q into [] rises = refl
  find_put_all q into (e ∷ es) rises =
      find_put_all q (put nat_cmp e.0 e.1 into) es (second_true _ _ rises)
      ∙ ap (option_or (find nat_cmp q es)) (find-put nat_cmp nat_cmp_total q e.0 e.1 into)
      ∙ before_or_behind (is_eq (nat_cmp q e.0)) e.1 (find nat_cmp q es) (find nat_cmp q into)
      (λ t. find_below q es (subst (λ k. T (below_all nat_cmp k es)) (sym (eqb-true q e.0 (sym (unsigned_tied q e.0) ∙ t))) (first_true _ _ rises)))

  pub sorted_put_all : (into es : List (ℕ × X)) → T (is_sorted nat_cmp into) → T (is_sorted nat_cmp (put_all into es))
  sorted_put_all into [] rises = rises
  sorted_put_all into (e ∷ es) rises = sorted_put_all (put nat_cmp e.0 e.1 into) es (sorted_put e.0 e.1 into rises)

  -- what passes a test, put into what fails it
  pub rejoins : (mine : ℕ → Bool) (es : List (ℕ × X)) → T (is_sorted nat_cmp es) → put_all (where_key nat_cmp (λ key. not (mine key)) es) (where_key nat_cmp mine es) ≡ es
  rejoins mine es rises =
      same _ _ (sorted_put_all _ (where_key nat_cmp mine es) (sorted_kept (λ key. not (mine key)) es rises)) rises
      (λ q. find_put_all q (where_key nat_cmp (λ key. not (mine key)) es) (where_key nat_cmp mine es) (sorted_kept mine es rises)
      ∙ (λ i. option_or (find_kept mine q es i) (find_kept (λ key. not (mine key)) q es i))
      ∙ one_of_two (mine q) (find nat_cmp q es))
