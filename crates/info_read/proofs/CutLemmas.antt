-- What cuts of a text give, and what a text is that was cut.
use Rattle.std.proofs.Common.{◌≡◌, ℕ, zero, suc, ◌+◌, ◌<◌, ◌≤◌, true, false, eqb, cond, List, [], ◌∷◌, ◌++◌, length, get_or, take, drop, replicate, Option, Some, None, position, refl, sym, ap, ◌∙◌, subst, arith}
use Rattle.std.specs.Borrow.{Bor}
use Rattle.std.specs.Option.{option_map, option_and_then, option_copied, MatchOption}
use Rattle.std.specs.Str.{bytes_eq}
use Rattle.std.proofs.lemmas.Bool.{cond_both, cond-true, cond-false, eqb-true, eq-eqb, and_parts}
use Rattle.std.proofs.lemmas.List.{at_drop_more}
use Rattle.std.proofs.lemmas.List.Quantifiers.{position-Some}
use Rattle.std.proofs.lemmas.List.Sums.{fails_before_first}
use Rattle.text_form.proofs.Parts.{round, none_before}
use Rattle.info_read.specs.Cuts.{cut, after_word, spaces_before}

-- no byte of the text is the mark
abbrev pub Lacks : ℕ → List ℕ → Type 0
Lacks mark [] = Unit {0}
Lacks mark (b ∷ bs) = (eqb b mark ≡ false) × Lacks mark bs

pub map_parts : {A B : Type 0} (f : A → B) (o : Option A) (y : B) → option_map f o ≡ Some y → (x : A) × (o ≡ Some x) × (f x ≡ y)
map_parts f None y e = let no : ⊥ = cc in absurd no
map_parts f (Some x) y e = (x, refl, cc)

pub then_parts : {A B : Type 0} (f : A → Option B) (o : Option A) (y : B) → option_and_then f o ≡ Some y → (x : A) × (o ≡ Some x) × (f x ≡ Some y)
then_parts f None y e = let no : ⊥ = cc in absurd no
then_parts f (Some x) y e = (x, refl, e)

pub then_some : {A B : Type 0} (f : A → Option B) (o : Option A) (x : A) (y : Option B) → o ≡ Some x → f x ≡ y → option_and_then f o ≡ y
then_some f o x y e k = ap (option_and_then f) e ∙ k

-- a text cut where it was joined
pub cut_joined : (mark : ℕ) (front rest : List ℕ) → Lacks mark front → cut mark (front ++ mark ∷ rest) ≡ Some (front, rest)
cut_joined mark [] rest lacks = cond-true _ _ _ (eq-eqb mark mark refl)
cut_joined mark (b ∷ bs) rest lacks =
    cond-false _ _ _ lacks.0 ∙ ap (option_map (λ p. (b ∷ p.0, p.1))) (cut_joined mark bs rest lacks.1)

pub cut_nowhere : (mark : ℕ) (text : List ℕ) → Lacks mark text → cut mark text ≡ None
cut_nowhere mark [] lacks = refl
cut_nowhere mark (b ∷ bs) lacks = cond-false _ _ _ lacks.0 ∙ ap (option_map (λ p. (b ∷ p.0, p.1))) (cut_nowhere mark bs lacks.1)

-- a text that was cut is its parts round the mark
pub cut_splits : (mark : ℕ) (text : List ℕ) (parts : List ℕ × List ℕ) → cut mark text ≡ Some parts → text ≡ parts.0 ++ mark ∷ parts.1
cut_splits mark [] parts e = let no : ⊥ = cc in absurd no
cut_splits mark (b ∷ bs) parts e =
    cond_both (eqb b mark) (Some ([], bs)) (option_map (λ p. (b ∷ p.0, p.1)) (cut mark bs)) (λ r. r ≡ Some parts → b ∷ bs ≡ parts.0 ++ mark ∷ parts.1)
    (λ yes h.
    let is : ◌≡◌ {A = List ℕ × List ℕ} ([], bs) parts = cc in
    subst (λ (q : List ℕ × List ℕ). b ∷ bs ≡ q.0 ++ mark ∷ q.1) is (ap (λ x. x ∷ bs) (eqb-true b mark yes)))
    (λ no h.
    let inner = map_parts (λ p. (b ∷ p.0, p.1)) (cut mark bs) parts h in
    subst (λ (q : List ℕ × List ℕ). b ∷ bs ≡ q.0 ++ mark ∷ q.1) inner.2 (ap (λ t. b ∷ t) (cut_splits mark bs inner.0 inner.1)))
    e

lacks_front : (mark : ℕ) (text : List ℕ) (i : ℕ) → i ≤ length text → ((k : ℕ) → k < i → eqb (get_or text k 0) mark ≡ false) → Lacks mark (take i text)
lacks_front mark text zero within fails = tt
lacks_front mark [] (suc i) within fails = tt
lacks_front mark (b ∷ bs) (suc i) within fails =
    (fails 0 (omega arith), lacks_front mark bs i (omega arith) (λ k h. fails (suc k) (omega arith)))

lacks_all : (mark : ℕ) (text : List ℕ) → ((k : ℕ) → k < length text → eqb (get_or text k 0) mark ≡ false) → Lacks mark text
lacks_all mark [] fails = tt
lacks_all mark (b ∷ bs) fails = (fails 0 (omega arith), lacks_all mark bs (λ k h. fails (suc k) (omega arith)))

pub cut_at : (mark : ℕ) (text : List ℕ) (i : ℕ) → position (λ b. eqb b mark) text ≡ Some i → cut mark text ≡ Some (take i text, drop (i + 1) text)
cut_at mark text i e =
    let found = position-Some (λ b. eqb b mark) text i 0 e in
    let lacks = lacks_front mark text i (omega (arith, found.0)) found.2 in
    let whole = round text i found.0 ∙ ap (λ x. take i text ++ x ∷ drop (i + 1) text) (eqb-true _ _ found.1) in
    ap (cut mark) whole ∙ cut_joined mark (take i text) (drop (i + 1) text) lacks

pub cut_none : (mark : ℕ) (text : List ℕ) → position (λ b. eqb b mark) text ≡ None → cut mark text ≡ None
cut_none mark text e =
    let far = none_before (λ b. eqb b mark) text e in
    cut_nowhere mark text (lacks_all mark text (λ k h. fails_before_first (λ b. eqb b mark) text k 0 (omega arith)))

-- a word that stands in front
word_there : (word text : List ℕ) → bytes_eq (take (length word) text) word ≡ true → after_word word text ≡ Some (drop (length word) text)
word_there [] text e = refl
word_there (w ∷ ws) [] e = let no : ⊥ = cc in absurd no
word_there (w ∷ ws) (b ∷ bs) e =
    let parts = and_parts _ _ e in
    cond-true _ _ _ parts.0 ∙ word_there ws bs parts.1

word_absent : (word text : List ℕ) → bytes_eq (take (length word) text) word ≡ false → after_word word text ≡ None
word_absent [] text e = let no : ⊥ = cc in absurd no
word_absent (w ∷ ws) [] e = refl
word_absent (w ∷ ws) (b ∷ bs) e =
    cond_both (eqb b w) (after_word ws bs) None (λ r. r ≡ None)
    (λ yes. word_absent ws bs (rw yes at e))
    (λ no. refl)

pub by_strip : (word text : List ℕ) (r : Option (Bor (List ℕ)))
    → MatchOption r (bytes_eq (take (length word) text) word ≡ false) (λ x. (bytes_eq (take (length word) text) word ≡ true) × (x.now ≡ drop (length word) text) × (length x.now + length word ≡ length text))
    → option_copied r ≡ after_word word text
by_strip word text None e = sym (word_absent word text e)
by_strip word text (Some x) e = ap Some e.1 ∙ sym (word_there word text e.0)

pub word_joined : (word text rest : List ℕ) → after_word word text ≡ Some rest → text ≡ word ++ rest
word_joined [] text rest e = cc
word_joined (w ∷ ws) [] rest e = let no : ⊥ = cc in absurd no
word_joined (w ∷ ws) (b ∷ bs) rest e =
    cond_both (eqb b w) (after_word ws bs) None (λ r. r ≡ Some rest → b ∷ bs ≡ w ∷ (ws ++ rest))
    (λ yes h. ap (λ x. x ∷ bs) (eqb-true b w yes) ∙ ap (λ t. w ∷ t) (word_joined ws bs rest h))
    (λ no h. let no : ⊥ = cc in absurd no)
    e

-- spaces in front
pub spaces_more : (text : List ℕ) (i : ℕ) → i < length text → spaces_before (drop i text) ≡ cond (eqb (get_or text i 0) 32) (spaces_before (drop (i + 1) text) + 1) 0
spaces_more text i h = at_drop_more spaces_before text i 0 h

pub spaces_split : (text : List ℕ) → text ≡ replicate (spaces_before text) 32 ++ drop (spaces_before text) text
spaces_split [] = refl
spaces_split (b ∷ bs) =
    cond_both (eqb b 32) (spaces_before bs + 1) 0 (λ n. b ∷ bs ≡ replicate n 32 ++ drop n (b ∷ bs))
    (λ yes.
    let more : suc (spaces_before bs) ≡ spaces_before bs + 1 = omega arith in
    subst (λ n. b ∷ bs ≡ replicate n 32 ++ drop n (b ∷ bs)) more
    (ap (λ x. x ∷ bs) (eqb-true b 32 yes) ∙ ap (λ t. 32 ∷ t) (spaces_split bs)))
    (λ no. refl)

pub spaces_of_pad : (n : ℕ) (text : List ℕ) → spaces_before text ≡ 0 → spaces_before (replicate n 32 ++ text) ≡ n
spaces_of_pad zero text none = none
spaces_of_pad (suc n) text none = ap (λ k. k + 1) (spaces_of_pad n text none) ∙ omega arith

pub drop_pad : (n : ℕ) (text : List ℕ) → drop n (replicate n 32 ++ text) ≡ text
drop_pad zero text = refl
drop_pad (suc n) text = drop_pad n text
