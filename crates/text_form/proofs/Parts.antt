-- What the first separator makes of a list's parts.
use Rattle.std.proofs.Common.{◌≡◌, ℕ, ◌+◌, ◌-◌, ◌<◌, ◌≤◌, Bool, false, List, [], ◌∷◌, ◌++◌, length, get_or, take, drop, Some, None, position, refl, sym, ap, ◌∙◌, subst, arith}
use Rattle.std.specs.List.{slice_split, position_or_len, join_with_byte}
use Rattle.std.proofs.lemmas.Grind.{common_steps}
use Rattle.std.proofs.lemmas.List.{get_or-drop, take-append-drop, take_rest, drop-drop, get_or-take, length-take-le}
use Rattle.std.proofs.lemmas.List.Elements.{All-from_get_or}
use Rattle.std.proofs.lemmas.List.Quantifiers.{position-Some}
use Rattle.std.proofs.lemmas.List.Splits.{slice_split_none, slice_split_at, length-slice_split, join_with_byte-slice_split}
use Rattle.std.proofs.lemmas.List.Sums.{fails_before_first, count_by-le-length}
use Rattle.text_form.specs.Lines.{is_newline, all_but_last, last_or, lines_of, tail_of}
use Rattle.text_form.specs.Words.{is_space, words_of}

-- a list round a place
pub round : (bs : List ℕ) (i : ℕ) → i < length bs → bs ≡ take i bs ++ get_or bs i 0 ∷ drop (i + 1) bs
round bs i h = grind (arith, common_steps, take-append-drop i bs)

-- what stands behind the place i, as the code cuts it
pub behind : (bs back : List ℕ) (i : ℕ) → back ≡ drop i bs → take (length back - 1) (drop 1 back) ≡ drop (i + 1) bs
behind bs back i e = take_rest back 1 ∙ ap (drop 1) e ∙ drop-drop 1 i bs

-- where none passes, what stands before the first that passes is all
pub none_before : (p : ℕ → Bool) (bs : List ℕ) → position p bs ≡ None → length bs ≤ position_or_len p bs
none_before p bs e = grind (arith, common_steps)

pub split_nowhere : (p : ℕ → Bool) (bs : List ℕ) → position p bs ≡ None → slice_split p bs ≡ bs ∷ []
split_nowhere p bs e =
    let far = none_before p bs e in
    slice_split_none p bs (All-from_get_or (λ x. p x ≡ false) bs 0 (λ i h. fails_before_first p bs i 0 (omega arith)))

pub split_at : (p : ℕ → Bool) (bs : List ℕ) (i : ℕ) → position p bs ≡ Some i → slice_split p bs ≡ take i bs ∷ slice_split p (drop (i + 1) bs)
split_at p bs i e =
    let found = position-Some p bs i 0 e in
    ap (slice_split p) (round bs i found.0)
    ∙ slice_split_at p (take i bs) (get_or bs i 0) (drop (i + 1) bs) (All-from_get_or (λ x. p x ≡ false) (take i bs) 0 (λ k h. let short : k < i = omega (arith, length-take-le i bs) in subst (λ x. p x ≡ false) (sym (get_or-take i bs k 0 short)) (found.2 k short))) found.1

-- a list has at least one part
pub parts_some : (p : ℕ → Bool) (bs : List ℕ) → 0 < length (slice_split p bs)
parts_some p bs = omega (arith, length-slice_split p bs)

front-cons : {X : Type 0} (x : X) (xs : List X) → 0 < length xs → all_but_last (x ∷ xs) ≡ x ∷ all_but_last xs
front-cons x [] h = absurd (omega arith)
front-cons x (y ∷ ys) h = refl

last-cons : {X : Type 0} (d x : X) (xs : List X) → 0 < length xs → last_or d (x ∷ xs) ≡ last_or d xs
last-cons d x [] h = absurd (omega arith)
last-cons d x (y ∷ ys) h = refl

pub lines_of_none : (bs : List ℕ) → position is_newline bs ≡ None → (lines_of bs ≡ []) × (tail_of bs ≡ bs)
unfolding lines_of tail_of
lines_of_none bs e = (ap all_but_last (split_nowhere is_newline bs e), ap (last_or []) (split_nowhere is_newline bs e))

pub lines_of_some : (bs : List ℕ) (i : ℕ) → position is_newline bs ≡ Some i → (lines_of bs ≡ take i bs ∷ lines_of (drop (i + 1) bs)) × (tail_of bs ≡ tail_of (drop (i + 1) bs))
unfolding lines_of tail_of
lines_of_some bs i e =
    let parts = split_at is_newline bs i e in
    let more = parts_some is_newline (drop (i + 1) bs) in
    (ap all_but_last parts ∙ front-cons _ _ more, ap (last_or []) parts ∙ last-cons _ _ _ more)

pub words_of_none : (bs : List ℕ) → position is_space bs ≡ None → words_of bs ≡ bs ∷ []
unfolding words_of
words_of_none bs e = split_nowhere is_space bs e

pub words_of_some : (bs : List ℕ) (i : ℕ) → position is_space bs ≡ Some i → words_of bs ≡ take i bs ∷ words_of (drop (i + 1) bs)
unfolding words_of
words_of_some bs i e = split_at is_space bs i e

-- the parts without the last one, and the last one, are the parts
front_and_last : (parts : List (List ℕ)) → 0 < length parts → all_but_last parts ++ last_or [] parts ∷ [] ≡ parts
front_and_last [] h = absurd (omega arith)
front_and_last (x ∷ []) h = refl
front_and_last (x ∷ y ∷ ys) h = ap (λ xs. x ∷ xs) (front_and_last (y ∷ ys) (omega arith))

pub joined_lines : (text : List ℕ) → join_with_byte 10 (lines_of text ++ tail_of text ∷ []) ≡ text
unfolding lines_of tail_of
joined_lines text =
    ap (join_with_byte 10) (front_and_last (slice_split is_newline text) (parts_some is_newline text))
    ∙ join_with_byte-slice_split 10 text

pub joined_words : (line : List ℕ) → join_with_byte 32 (words_of line) ≡ line
unfolding words_of
joined_words line = join_with_byte-slice_split 32 line

-- a line has at most a word more than bytes
pub few_words : (line : List ℕ) → length (words_of line) ≤ length line + 1
unfolding words_of
few_words line = omega (arith, length-slice_split is_space line, count_by-le-length is_space line)

-- a word behind some words, and what is left behind it
pub word_behind : (words left : List (List ℕ)) (word : List ℕ) (k : ℕ) → left ≡ drop k words → word ≡ get_or left 0 [] → word ≡ get_or words k []
word_behind words left word k is first = first ∙ ap (λ ws. get_or ws 0 []) is ∙ get_or-drop k words 0 [] ∙ ap (λ n. get_or words n []) (let same : k + 0 ≡ k = omega arith in same)

pub left_behind : (words left after : List (List ℕ)) (k : ℕ) → left ≡ drop k words → after ≡ drop 1 left → after ≡ drop (k + 1) words
left_behind words left after k is next = next ∙ ap (drop 1) is ∙ drop-drop 1 k words
