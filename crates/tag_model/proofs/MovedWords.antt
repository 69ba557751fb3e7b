-- A CPU's words that were the sums of some moves are, after more moves, the sums of all of them.
use Rattle.std.proofs.Common.{◌≡◌, ◌≢◌, ℕ, ◌+◌, ◌*◌, ◌<◌, ◌==◌, ◌&&◌, Bool, true, false, cond, List, [], ◌∷◌, ◌++◌, append_assoc, append-nil, length, slice_index, slice_set, sum_by, refl, ap, sym, ◌∙◌, subst, arith}
use Rattle.std.proofs.lemmas.List.{get_or-set_same, get_or-set_other, length-set}
use Rattle.std.proofs.lemmas.List.Sums.{sum_by-cons, sum_by-append}
use Rattle.tag_model.specs.declared.state.Kind.{Kind}
use Rattle.tag_model.specs.declared.state.Kind.TheVariants.{Bytes, Calls}
use Rattle.tag_model.specs.Laws.{same_kind}
use Rattle.tag_model.specs.Moves.{Move, is_on, moved_word}
use Rattle.tag_model.specs.declared.state.Tag.{Tag}
use Rattle.tag_model.specs.StepRules.{raised, lowered}
use Rattle.tag_model.specs.RefMoves.{raises, lowers, words_after_move, words_after_moves}
use Rattle.tag_model.specs.WordState.{word_place}
use Rattle.tag_model.specs.Wrap.{wrap, wrap_minus}
use Rattle.tag_model.proofs.Words.{by_word, word_within}
use Rattle.tag_model.proofs.ListRows.{same_kind_refl}

up_on : ℕ → Kind → ℕ → Move → ℕ
up_on cpu kind t m = cond (is_on cpu kind t m) m.up 0

down_on : ℕ → Kind → ℕ → Move → ℕ
down_on cpu kind t m = cond (is_on cpu kind t m) m.down 0

pub joined : (U D u d : ℕ) → wrap_minus (U + u) (D + d) ≡ wrap_minus (wrap_minus U D + u) d
joined U D u d = omega arith

still : (U D : ℕ) → wrap_minus U D ≡ wrap_minus (wrap_minus U D + 0) 0
still U D = omega arith

moved_more : (cpu : ℕ) (kind : Kind) (t : ℕ) (before : List Move) (m : Move)
    → moved_word (before ++ m ∷ []) cpu kind t ≡ wrap_minus (wrap_minus (sum_by (up_on cpu kind t) before) (sum_by (down_on cpu kind t) before) + up_on cpu kind t m) (down_on cpu kind t m)
unfolding up_on down_on
moved_more cpu kind t before m =
    let up : sum_by (up_on cpu kind t) (before ++ m ∷ []) ≡ sum_by (up_on cpu kind t) before + up_on cpu kind t m = sum_by-append (up_on cpu kind t) before (m ∷ []) ∙ ap (λ n. sum_by (up_on cpu kind t) before + n) (sum_by-cons (up_on cpu kind t) m [] ∙ omega arith) in
    let down : sum_by (down_on cpu kind t) (before ++ m ∷ []) ≡ sum_by (down_on cpu kind t) before + down_on cpu kind t m = sum_by-append (down_on cpu kind t) before (m ∷ []) ∙ ap (λ n. sum_by (down_on cpu kind t) before + n) (sum_by-cons (down_on cpu kind t) m [] ∙ omega arith) in
    rw (up, down) (joined (sum_by (up_on cpu kind t) before) (sum_by (down_on cpu kind t) before) (up_on cpu kind t m) (down_on cpu kind t m))

tag_as_itself : (t : ℕ) → (t == t) ≡ true
tag_as_itself t = grind arith

off_place : (other kind : Kind) (u t : ℕ) → word_place other u ≢ word_place kind t → (same_kind other kind && (t == u)) ≡ false
off_place Bytes Bytes u t ne = let apart : t ≢ u = λ e. ne (omega (arith, e)) in grind arith
off_place Calls Calls u t ne = let apart : t ≢ u = λ e. ne (omega (arith, e)) in grind arith
off_place Bytes Calls u t ne = refl
off_place Calls Bytes u t ne = refl

-- a CPU's words are the sums of these moves
abbrev pub Follows : ℕ → ℕ → List ℕ → List Move → Type 0
Follows cpu tags words moves = (kind : Kind) (t : ℕ) → t < tags → slice_index words (word_place kind t) ≡ moved_word moves cpu kind t

-- a move that is on no word of these leaves it
unmoved : (cpu : ℕ) (kind : Kind) (t w : ℕ) (before : List Move) (m : Move) → is_on cpu kind t m ≡ false → w ≡ moved_word before cpu kind t → w ≡ moved_word (before ++ m ∷ []) cpu kind t
unfolding up_on down_on
unmoved cpu kind t w before m off is =
    let up : up_on cpu kind t m ≡ 0 = ap (λ b. cond b m.up 0) off in
    let down : down_on cpu kind t m ≡ 0 = ap (λ b. cond b m.down 0) off in
    is ∙ still (sum_by (up_on cpu kind t) before) (sum_by (down_on cpu kind t) before) ∙ sym (moved_more cpu kind t before m ∙ rw (up, down) refl)

moved_here : (cpu : ℕ) (w : ℕ) (before : List Move) (m : Move) → m.cpu ≡ cpu → w ≡ moved_word before cpu m.kind m.tag → wrap_minus (w + m.up) m.down ≡ moved_word (before ++ m ∷ []) cpu m.kind m.tag
unfolding up_on down_on
moved_here cpu w before m own is =
    let mine : (m.cpu == cpu) ≡ true = grind arith in
    let on : is_on cpu m.kind m.tag m ≡ true = rw (mine, same_kind_refl m.kind, tag_as_itself m.tag) refl in
    let up : up_on cpu m.kind m.tag m ≡ m.up = ap (λ b. cond b m.up 0) on in
    let down : down_on cpu m.kind m.tag m ≡ m.down = ap (λ b. cond b m.down 0) on in
    ap (λ x. wrap_minus (x + m.up) m.down) is ∙ sym (moved_more cpu m.kind m.tag before m ∙ rw (up, down) refl)

other_cpu : (own kind tag : Bool) → own ≡ false → (own && kind && tag) ≡ false
other_cpu true kind tag e = cc
other_cpu false kind tag e = refl

other_word : (own kind tag : Bool) → (kind && tag) ≡ false → (own && kind && tag) ≡ false
other_word true kind tag e = e
other_word false kind tag e = refl

follows_one : (cpu tags : ℕ) (words : List ℕ) (before : List Move) (m : Move) → length words ≡ 2 * tags → Follows cpu tags words before → Follows cpu tags (words_after_move cpu words m) (before ++ m ∷ [])
follows_one cpu tags words before m len is =
    let p = word_place m.kind m.tag in
    let new = wrap_minus (slice_index words p + m.up) m.down in
    elim (m.cpu == cpu) as (λ b. (m.cpu == cpu) ≡ b → (kind : Kind) (t : ℕ) → t < tags → slice_index (cond b (slice_set words p new) words) (word_place kind t) ≡ moved_word (before ++ m ∷ []) cpu kind t) [
      | true ↦ λ own. by_word (λ kind t. t < tags → slice_index (slice_set words p new) (word_place kind t) ≡ moved_word (before ++ m ∷ []) cpu kind t) m.kind m.tag
          (λ within. let mine : m.cpu ≡ cpu = grind arith in
          get_or-set_same words p new 0 (word_within m.kind m.tag tags words within len) ∙ moved_here cpu (slice_index words p) before m mine (is m.kind m.tag within))
          (λ kind t ne within. get_or-set_other words p (word_place kind t) new 0 ne ∙ unmoved cpu kind t (slice_index words (word_place kind t)) before m (other_word (m.cpu == cpu) (same_kind kind m.kind) (m.tag == t) (off_place kind m.kind t m.tag ne)) (is kind t within))
      | false ↦ λ own kind t within. unmoved cpu kind t (slice_index words (word_place kind t)) before m (other_cpu (m.cpu == cpu) (same_kind kind m.kind) (m.tag == t) own) (is kind t within)
    ] refl

same_length : (cpu : ℕ) (words : List ℕ) (m : Move) → length (words_after_move cpu words m) ≡ length words
same_length cpu words m = elim (m.cpu == cpu) as (λ b. length (cond b (slice_set words (word_place m.kind m.tag) (wrap_minus (slice_index words (word_place m.kind m.tag) + m.up) m.down)) words) ≡ length words) [
  | true ↦ length-set words (word_place m.kind m.tag) _
  | false ↦ refl
]

pub follows : (cpu tags : ℕ) (words : List ℕ) (before now : List Move) → length words ≡ 2 * tags → Follows cpu tags words before → Follows cpu tags (words_after_moves cpu words now) (before ++ now)
follows cpu tags words before [] len is = rw (append-nil before) is
follows cpu tags words before (m ∷ now) len is =
    let later : Follows cpu tags (words_after_moves cpu (words_after_move cpu words m) now) ((before ++ m ∷ []) ++ now) =
    follows cpu tags (words_after_move cpu words m) (before ++ m ∷ []) now (same_length cpu words m ∙ len) (follows_one cpu tags words before m len is) in
    subst (λ moves. Follows cpu tags (words_after_moves cpu (words_after_move cpu words m) now) moves) (append_assoc before (m ∷ []) now) later

-- ---- a move that raises or lowers is the step that does

own_cpu : (n : ℕ) → (n == n) ≡ true
own_cpu n = grind arith

nothing_down : (x : ℕ) → wrap_minus x 0 ≡ wrap x
nothing_down x = omega arith

pub raises_is : (cpu : ℕ) (kind : Kind) (tag : Tag) (n : ℕ) (words : List ℕ) → words_after_move cpu words (raises cpu kind tag n) ≡ raised kind tag.number n words
raises_is cpu kind tag n words =
    rw (own_cpu cpu) (ap (λ v. slice_set words (word_place kind tag.number) v) (nothing_down (slice_index words (word_place kind tag.number) + n)))

pub lowers_is : (cpu : ℕ) (kind : Kind) (tag : Tag) (n : ℕ) (words : List ℕ) → words_after_move cpu words (lowers cpu kind tag n) ≡ lowered kind tag.number n words
lowers_is cpu kind tag n words =
    let same : slice_index words (word_place kind tag.number) + 0 ≡ slice_index words (word_place kind tag.number) = omega arith in
    rw (own_cpu cpu) (ap (λ v. slice_set words (word_place kind tag.number) (wrap_minus v n)) same)

pub not_own : (cpu other : ℕ) (kind : Kind) (tag : Tag) (n : ℕ) (words : List ℕ) → other ≢ cpu → words_after_move cpu words (raises other kind tag n) ≡ words
not_own cpu other kind tag n words ne = let apart : (other == cpu) ≡ false = grind arith in rw apart refl
