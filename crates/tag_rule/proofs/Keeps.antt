-- A step that owes `Writes` or `Moves` keeps the rule of the table.
use Rattle.std.proofs.Common.{◌≡◌, ℕ, ◌-◌, ◌*◌, ◌<◌, ◌==◌, ◌⊎◌, List, [], ◌∷◌, ◌++◌, length, set, slice_index, sum_by, sym, refl, ap, subst, ◌∙◌, arith, cond, Bool, true, false, inl, inr, length-set, get_or-set_other, get_or-set_same, eq-eqb, ne_eqb}
use Rattle.std.proofs.lemmas.Bool.{cases_eq}
use Rattle.std.proofs.lemmas.List.{set-get_or}
use Rattle.std.proofs.lemmas.List.Sums.{sum_by-cons}
use mathlib.Core.Option as maybe
use mathlib.Core.Option.{some}
use lib.ListN.{get_elem?}
use Rattle.atomic_table.specs.Table.{State, Me, Act, keeps, Valid, stepped, carried_after, Allows, Splits, Joins}
use Rattle.tag_model.specs.declared.shape.Shape.{Shape}
use Rattle.tag_model.specs.declared.state.Part.{Part}
use Rattle.tag_model.specs.declared.state.Part.TheVariants.{Cpu, Place, Modules, NextId}
use Rattle.tag_model.specs.Index.{first_word, word_count}
use Rattle.tag_model.specs.RefWord.{held_word}
use Rattle.tag_model.specs.StepRules.{Becomes}
use Rattle.tag_model.specs.WordState.{one_if, in_range}
use Rattle.tag_model.proofs.Places.{safe_same}
use Rattle.tag_rule.specs.declared.view.View.{View}
use Rattle.tag_rule.specs.Rule.{owns, value, all_parts, Ruled, view_of, Moves, Tells, Writes, Peeks}
use Rattle.tag_rule.proofs.Views.{changed, cut, joined}

abbrev Table : Type 0
Table = State (Unit {0}) View

abbrev Seat : Type 0
Seat = Me (Unit {0}) View

abbrev Homes : Type 0
Homes = List (maybe.Option (Unit {0}))

-- parts stand as they do where they become others
pub stays : (v w ps qs : List Part) → Becomes v w ps qs → Becomes v v ps ps
stays v w ps qs b = record { rest = b.rest; before = b.before; after = b.before }

-- ---- a part says nothing of a word that it doesn't own

not_owned : (b : Bool) (x : ℕ) → one_if b ≡ 0 → cond b x 0 ≡ 0
not_owned true x e = absurd (omega arith)
not_owned false x e = refl

pub silent : (k : Shape) (q : ℕ) (p : Part) → owns k q p ≡ 0 → value k q p ≡ 0
silent k q (Cpu c) e = not_owned (in_range (first_word k c.number) (2 * k.tags) q) (slice_index c.words (q - first_word k c.number)) e
silent k q (Place n h) e = not_owned (n == q) (held_word h) e
silent k q (Modules l) e = refl
silent k q (NextId id) e = refl

pub all_silent : (k : Shape) (q : ℕ) (ps : List Part) → sum_by (owns k q) ps ≡ 0 → sum_by (value k q) ps ≡ 0
all_silent k q [] e = refl
all_silent k q (p ∷ ps) e =
    let owned = sum_by-cons (owns k q) p ps in
    let here : owns k q p ≡ 0 = omega arith in
    let behind : sum_by (owns k q) ps ≡ 0 = omega arith in
    omega (arith, sum_by-cons (value k q) p ps, silent k q p here, all_silent k q ps behind)

-- ---- the views alone change

moved : (k : Shape) (s : Table) (views : List View) (homes : Homes) (v w : List Part) → Ruled k s → Becomes v w (all_parts s.views) (all_parts views) → Moves k v w → Ruled k (record { words = s.words; homes = homes; views = views })
moved k s views homes v w r b m = record {
  checked = r.checked;
  wide = r.wide;
  owned = λ q low high. omega (arith, r.owned q low high, b.before (owns k q), b.after (owns k q), m.owned q);
  exact = λ q low high. omega (arith, r.exact q low high, b.before (value k q), b.after (value k q), m.exact q);
  safe = m.safe _ _ r.checked b r.safe;
}

pub splits : (k : Shape) (id : ℕ) (v left right : View) → Moves k v.parts (left.parts ++ right.parts) → Splits (Ruled k) id v left right
splits k id v left right m s r at = moved k s _ s.homes v.parts (left.parts ++ right.parts) r (cut s.views id v left right at) m

-- parts that stand side by side stay as they are
pub same_parts : (k : Shape) (v w : List Part) → ((f : Part → ℕ) → sum_by f v ≡ sum_by f w) → Moves k v w
same_parts k v w same = record {
  owned = λ q. sym (same (owns k q));
  exact = λ q. sym (same (value k q));
  safe = λ ps qs ok b safe. safe_same k ps qs (λ f. omega (arith, b.before f, b.after f, same f)) safe;
}

-- nothing changes
pub same_moves : (k : Shape) (v : List Part) → Moves k v v
same_moves k v = same_parts k v v (λ f. refl)

pub same_as : (k : Shape) (v w : List Part) → v ≡ w → Moves k v w
same_as k v w e = same_parts k v w (λ f. ap (λ (ps : List Part). sum_by f ps) e)

pub joins : (k : Shape) (id : ℕ) (v : View) (other : ℕ) (w : View) → Joins (Ruled k) id v other w (view_of (v.parts ++ w.parts)) (view_of [])
joins k id v other w s r at apart there =
    let both : View = view_of (v.parts ++ w.parts) in
    moved k s _ s.homes (v.parts ++ w.parts) both.parts r (joined s.views id other v w both (view_of []) at apart there refl) (same_parts k (v.parts ++ w.parts) (v.parts ++ w.parts) (λ f. refl))

-- a load of word 0
pub turns : (k : Shape) (slots id : ℕ) (me : Seat) (w : View) (told : Type 0) → Moves k me.0.parts w.parts → Tells k me.0.parts told → Allows (Ruled k) slots id me 0 (λ n. n) (λ n x. (x ≡ (w, me.1)) × told)
turns k slots id me w told m tells s r wide at small =
    let b = changed s.views id me.0 w at in
    let rule = moved k s (set s.views id w) s.homes me.0.parts w.parts r b m in (
      w,
      keeps,
      tt,
      subst (λ (words : List ℕ). Ruled k (record { words = words; homes = s.homes; views = set s.views id w })) (sym (set-get_or s.words 0 0)) rule,
      (refl, tells _ r.checked (stays _ _ _ _ b) r.safe),
    )

-- ---- a word that the seat owns changes

-- a seat that owns the word says what it is
pub found : (k : Shape) (s : Table) (i : ℕ) (v w qs : List Part) → Ruled k s → Becomes v w (all_parts s.views) qs → 0 < i → i < word_count k → sum_by (owns k i) v ≡ 1 → sum_by (value k i) v ≡ slice_index s.words i
found k s i v w qs r b low high mine =
    let none : sum_by (owns k i) b.rest ≡ 0 = omega (arith, r.owned i low high, b.before (owns k i)) in
    omega (arith, all_silent k i b.rest none, r.exact i low high, b.before (value k i))

chosen : (q i x y : ℕ) → (q ≡ i → ⊥) → cond {A = ℕ} (q == i) x y ≡ y
chosen q i x y ne = rw (ne_eqb q i ne) refl

picked : (q i x y : ℕ) → q ≡ i → cond {A = ℕ} (q == i) x y ≡ x
picked q i x y e = rw (eq-eqb q i e) refl

written : (k : Shape) (s : Table) (i : ℕ) (f : ℕ → ℕ) (id : ℕ) (me : Seat) (after : ℕ → View) (told : ℕ → Type 0) → Writes k i f me.0.parts after told → Ruled k s → get_elem? s.views id ≡ some me.0 → 0 < i → i < word_count k
    → Ruled k (record { words = set s.words i (f (sum_by (value k i) me.0.parts)); homes = s.homes; views = set s.views id (after (sum_by (value k i) me.0.parts)) })
written k s i f id me after told step r at low high = record {
  checked = r.checked;
  wide = length-set s.words i _ ∙ r.wide;
  owned = λ q l h. omega (arith, r.owned q l h, b.before (owns k q), b.after (owns k q), step.owned q);
  exact = λ q l h. exact q l h (cases_eq q i);
  safe = step.safe _ _ r.checked b r.safe;
}
  where
    v : List Part
    v = me.0.parts

    n : ℕ
    n = sum_by (value k i) v

    w : View
    w = after n

    b : Becomes v w.parts (all_parts s.views) (all_parts (set s.views id w))
    b = changed s.views id me.0 w at

    none : sum_by (value k i) b.rest ≡ 0
    none = all_silent k i b.rest (omega (arith, r.owned i low high, b.before (owns k i), step.mine))

    exact : (q : ℕ) → 0 < q → q < word_count k → (q ≡ i) ⊎ (q ≡ i → ⊥) → sum_by (value k q) (all_parts (set s.views id w)) ≡ slice_index (set s.words i (f n)) q
    exact q l h (inl e) =
        let here : sum_by (value k i) w.parts ≡ f n = step.exact i ∙ picked i i (f n) n refl in
        let goal : sum_by (value k i) (all_parts (set s.views id w)) ≡ f n = omega (arith, b.after (value k i), none) in
        let bound : i < length s.words = omega (arith, r.wide) in
        subst (λ (x : ℕ). sum_by (value k x) (all_parts (set s.views id w)) ≡ slice_index (set s.words i (f n)) x) (sym e) (goal ∙ sym (get_or-set_same s.words i (f n) 0 bound))
    exact q l h (inr ne) =
        let here : sum_by (value k q) w.parts ≡ sum_by (value k q) v = step.exact q ∙ chosen q i (f n) (sum_by (value k q) v) ne in
        let goal : sum_by (value k q) (all_parts (set s.views id w)) ≡ slice_index s.words q = omega (arith, b.after (value k q), b.before (value k q), r.exact q l h) in
        goal ∙ sym (get_or-set_other s.words i q (f n) 0 ne)

pub goes : (k : Shape) (slots id : ℕ) (me : Seat) (i : ℕ) (f : ℕ → ℕ) (after : ℕ → View) (told : ℕ → Type 0) → 0 < i → i < word_count k → Writes k i f me.0.parts after told
    → Allows (Ruled k) slots id me i f (λ n x. (x ≡ (after n, me.1)) × told n)
goes k slots id me i f after told low high step s r wide at small =
    let n : ℕ = sum_by (value k i) me.0.parts in
    let b = changed s.views id me.0 (after n) at in
    let is = found k s i _ _ _ r b low high step.mine in
    subst (λ (m : ℕ). (w : View) × (a : Act (Unit {0})) × Valid s.homes me.1 a × Ruled k (stepped s i (f m) id me.1 w a) × (◌≡◌ {A = Seat} (w, carried_after me.1 a) (after m, me.1) × told m)) is
    (after n, keeps, tt, written k s i f id me after told step r at low high, (refl, step.told _ r.checked (stays _ _ _ _ b) r.safe))

-- ---- a word that another seat owns is looked at

pub peeks : (k : Shape) (slots id : ℕ) (me : Seat) (i : ℕ) (after : ℕ → View) (told : ℕ → Type 0) → 0 < i → i < word_count k → Peeks k i me.0.parts after told → Allows (Ruled k) slots id me i (λ n. n) (λ n x. (x ≡ (after n, me.1)) × told n)
peeks k slots id me i after told low high p s r wide at small =
    let n : ℕ = slice_index s.words i in
    let w : View = after n in
    let b = changed s.views id me.0 w at in
    let rule : Ruled k (record { words = s.words; homes = s.homes; views = set s.views id w }) = record {
      checked = r.checked;
      wide = r.wide;
      owned = λ q l h. omega (arith, r.owned q l h, b.before (owns k q), b.after (owns k q), p.owned n q);
      exact = λ q l h. omega (arith, r.exact q l h, b.before (value k q), b.after (value k q), p.exact n q);
      safe = p.safe n _ _ r.checked (r.exact i low high) (r.owned i low high) b r.safe;
    } in (
      w,
      keeps,
      tt,
      subst (λ (words : List ℕ). Ruled k (record { words = words; homes = s.homes; views = set s.views id w })) (sym (set-get_or s.words i 0)) rule,
      (refl, p.told n _ r.checked (r.exact i low high) (r.owned i low high) (stays _ _ _ _ b) r.safe),
    )

-- ---- the same by a table's key, which is its shape

pub goes_at : (key k : Shape) (slots id : ℕ) (me : Seat) (i : ℕ) (f : ℕ → ℕ) (after : ℕ → View) (told : ℕ → Type 0) → key ≡ k → (0 < i) × (i < word_count k) → Writes k i f me.0.parts after told
    → Allows (Ruled key) slots id me i f (λ n x. (x ≡ (after n, me.1)) × told n)
goes_at key k slots id me i f after told e place step = subst (λ (x : Shape). Allows (Ruled x) slots id me i f (λ n y. (y ≡ (after n, me.1)) × told n)) (sym e) (goes k slots id me i f after told place.0 place.1 step)

pub turns_at : (key k : Shape) (slots id : ℕ) (me : Seat) (w : View) (told : Type 0) → key ≡ k → Moves k me.0.parts w.parts → Tells k me.0.parts told → Allows (Ruled key) slots id me 0 (λ n. n) (λ n x. (x ≡ (w, me.1)) × told)
turns_at key k slots id me w told e m tells = subst (λ (x : Shape). Allows (Ruled x) slots id me 0 (λ n. n) (λ n y. (y ≡ (w, me.1)) × told)) (sym e) (turns k slots id me w told m tells)

pub splits_at : (key k : Shape) (id : ℕ) (v left right : View) → key ≡ k → Moves k v.parts (left.parts ++ right.parts) → Splits (Ruled key) id v left right
splits_at key k id v left right e m = subst (λ (x : Shape). Splits (Ruled x) id v left right) (sym e) (splits k id v left right m)

pub peeks_at : (key k : Shape) (slots id : ℕ) (me : Seat) (i : ℕ) (after : ℕ → View) (told : ℕ → Type 0) → key ≡ k → (0 < i) × (i < word_count k) → Peeks k i me.0.parts after told → Allows (Ruled key) slots id me i (λ n. n) (λ n x. (x ≡ (after n, me.1)) × told n)
peeks_at key k slots id me i after told e place p = subst (λ (x : Shape). Allows (Ruled x) slots id me i (λ n. n) (λ n y. (y ≡ (after n, me.1)) × told n)) (sym e) (peeks k slots id me i after told place.0 place.1 p)
