-- A step changes a CPU's words as the sums of the moves change.
use Rattle.std.proofs.Common.{◌≡◌, ◌≢◌, ℕ, ◌+◌, ◌*◌, ◌/◌, ◌%◌, ◌<◌, ◌==◌, ◌&&◌, List, [], ◌∷◌, ◌++◌, length, get_or, set, map, refl, sym, ap, ◌∙◌, arith, Bool, true, false, inl, inr, sum_by, if◌then◌else◌}
use Rattle.std.proofs.lemmas.Bool.Decides.{nat_tests}
use Rattle.std.proofs.lemmas.Bool.{cases_eq}
use Rattle.std.proofs.lemmas.List.{get_or-set_same, get_or-set_other, length-set, same_lists}
use Rattle.std.proofs.lemmas.List.Sums.{sum_by_push}
use Rattle.std.proofs.lemmas.List.FromFn.{length-map-range_with_len, get_or-map-range_with_len}
use Rattle.std.specs.List.{range_with_len}
use Rattle.tag_model.specs.declared.state.Kind.{Kind}
use Rattle.tag_model.specs.declared.state.Kind.TheVariants.{Bytes, Calls}
use Rattle.tag_model.specs.Wrap.{wrap_minus}
use Rattle.tag_model.specs.Laws.{same_kind}
use Rattle.tag_model.specs.Moves.{Move, is_on, moved_word}
use Rattle.tag_model.specs.WordState.{word_place}
use Rattle.core_steps.specs.Moved.{kind_at, own_moved, words_moved}
use Rattle.tag_model.proofs.MovedWords.{joined as wraps}

-- and on another word
pub moved_word_here : (moves : List Move) (m : Move) (cpu : ℕ) (kind : Kind) (tag : ℕ) → is_on cpu kind tag m ≡ true → moved_word (moves ++ m ∷ []) cpu kind tag ≡ wrap_minus (moved_word moves cpu kind tag + m.up) m.down
moved_word_here moves m cpu kind tag on =
    let ups = λ (x : Move). if is_on cpu kind tag x then x.up else 0 in
    let downs = λ (x : Move). if is_on cpu kind tag x then x.down else 0 in
    let up : sum_by ups (moves ++ m ∷ []) ≡ sum_by ups moves + m.up = sum_by_push ups moves m ∙ rw on refl in
    let down : sum_by downs (moves ++ m ∷ []) ≡ sum_by downs moves + m.down = sum_by_push downs moves m ∙ rw on refl in
    rw (up, down) (wraps (sum_by ups moves) (sum_by downs moves) m.up m.down)

pub moved_word_there : (moves : List Move) (m : Move) (cpu : ℕ) (kind : Kind) (tag : ℕ) → is_on cpu kind tag m ≡ false → moved_word (moves ++ m ∷ []) cpu kind tag ≡ moved_word moves cpu kind tag
moved_word_there moves m cpu kind tag off =
    let ups = λ (x : Move). if is_on cpu kind tag x then x.up else 0 in
    let downs = λ (x : Move). if is_on cpu kind tag x then x.down else 0 in
    let up : sum_by ups (moves ++ m ∷ []) ≡ sum_by ups moves = sum_by_push ups moves m ∙ rw off (omega arith) in
    let down : sum_by downs (moves ++ m ∷ []) ≡ sum_by downs moves = sum_by_push downs moves m ∙ rw off (omega arith) in
    rw (up, down) refl

-- ---- one move more, over all words

kind_cases : (b : Bool) (kind : Kind) → same_kind (if b then Bytes else Calls) kind ≡ (if b then same_kind Bytes kind else same_kind Calls kind)
kind_cases true kind = refl
kind_cases false kind = refl

-- the word at a place of the move's CPU is the one that it moves, or it isn't on it
on_place : (m : Move) (p : ℕ) → is_on m.cpu (kind_at p) (p / 2) m ≡ (p == word_place m.kind m.tag)
on_place m p = by_kind m.kind m.tag
  where
    by_kind : (kind : Kind) (tag : ℕ) → ((m.cpu == m.cpu) && same_kind (kind_at p) kind && (tag == p / 2)) ≡ (p == word_place kind tag)
    by_kind Bytes tag = rw (kind_cases (p % 2 == 0) Bytes) (grind (arith, nat_tests))
    by_kind Calls tag = rw (kind_cases (p % 2 == 0) Calls) (grind (arith, nat_tests))

off_cpu : (m : Move) (c : ℕ) (kind : Kind) (tag : ℕ) → c ≢ m.cpu → is_on c kind tag m ≡ false
off_cpu m c kind tag ne = grind (arith, nat_tests)

module _ (tags : ℕ) (moves : List Move) (m : Move) (within : word_place m.kind m.tag < 2 * tags) where
  place : ℕ
  place = word_place m.kind m.tag

  own_there : (c : ℕ) → c ≢ m.cpu → own_moved tags (moves ++ m ∷ []) c ≡ own_moved tags moves c
  own_there c ne = same_lists _ _ (rw (length-map-range_with_len, length-map-range_with_len) refl) (λ p d l.
      let below : p < 2 * tags = omega (arith, length-map-range_with_len (λ q. moved_word (moves ++ m ∷ []) c (kind_at q) (q / 2)) 0 (2 * tags)) in
      get_or-map-range_with_len (λ q. moved_word (moves ++ m ∷ []) c (kind_at q) (q / 2)) 0 (2 * tags) p p d below (omega arith)
      ∙ moved_word_there moves m c (kind_at p) (p / 2) (off_cpu m c (kind_at p) (p / 2) ne)
      ∙ sym (get_or-map-range_with_len (λ q. moved_word moves c (kind_at q) (q / 2)) 0 (2 * tags) p p d below (omega arith)))

  own_word : (p d : ℕ) → p < 2 * tags → get_or (own_moved tags moves m.cpu) p d ≡ moved_word moves m.cpu (kind_at p) (p / 2)
  own_word p d below = get_or-map-range_with_len (λ q. moved_word moves m.cpu (kind_at q) (q / 2)) 0 (2 * tags) p p d below (omega arith)

  own_here : own_moved tags (moves ++ m ∷ []) m.cpu
      ≡ set (own_moved tags moves m.cpu) (word_place m.kind m.tag) (wrap_minus (get_or (own_moved tags moves m.cpu) (word_place m.kind m.tag) 0 + m.up) m.down)
  own_here = same_lists _ _ (rw (length-set, length-map-range_with_len, length-map-range_with_len) refl) (λ p d l.
      let below : p < 2 * tags = omega (arith, length-map-range_with_len (λ q. moved_word (moves ++ m ∷ []) m.cpu (kind_at q) (q / 2)) 0 (2 * tags)) in
      get_or-map-range_with_len (λ q. moved_word (moves ++ m ∷ []) m.cpu (kind_at q) (q / 2)) 0 (2 * tags) p p d below (omega arith)
      ∙ elim (cases_eq p (word_place m.kind m.tag)) [
        | inl e ↦
            let on : is_on m.cpu (kind_at p) (p / 2) m ≡ true = on_place m p ∙ grind (arith, nat_tests) in
            let was : get_or (own_moved tags moves m.cpu) (word_place m.kind m.tag) 0 ≡ moved_word moves m.cpu (kind_at p) (p / 2) = ap (λ (q : ℕ). get_or (own_moved tags moves m.cpu) q 0) (sym e) ∙ own_word p 0 below in
            let len : p < length (own_moved tags moves m.cpu) = omega (arith, length-map-range_with_len (λ q. moved_word moves m.cpu (kind_at q) (q / 2)) 0 (2 * tags)) in
            moved_word_here moves m m.cpu (kind_at p) (p / 2) on
            ∙ ap (λ (w : ℕ). wrap_minus (w + m.up) m.down) (sym was)
            ∙ sym (ap (λ (q : ℕ). get_or (set (own_moved tags moves m.cpu) q (wrap_minus (get_or (own_moved tags moves m.cpu) (word_place m.kind m.tag) 0 + m.up) m.down)) p d) (sym e)
            ∙ get_or-set_same (own_moved tags moves m.cpu) p (wrap_minus (get_or (own_moved tags moves m.cpu) (word_place m.kind m.tag) 0 + m.up) m.down) d len)
        | inr ne ↦
            let off : is_on m.cpu (kind_at p) (p / 2) m ≡ false = on_place m p ∙ grind (arith, nat_tests) in
            moved_word_there moves m m.cpu (kind_at p) (p / 2) off
            ∙ sym (get_or-set_other (own_moved tags moves m.cpu) (word_place m.kind m.tag) p (wrap_minus (get_or (own_moved tags moves m.cpu) (word_place m.kind m.tag) 0 + m.up) m.down) d ne ∙ own_word p d below)
      ])

  pub moved_one : (cpus : ℕ) → m.cpu < cpus → words_moved cpus tags (moves ++ m ∷ [])
      ≡ set (words_moved cpus tags moves) m.cpu (set (own_moved tags moves m.cpu) (word_place m.kind m.tag) (wrap_minus (get_or (own_moved tags moves m.cpu) (word_place m.kind m.tag) 0 + m.up) m.down))
  unfolding words_moved
  moved_one cpus small = same_lists _ _ (rw (length-set, length-map-range_with_len, length-map-range_with_len) refl) (λ c d l.
      let below : c < cpus = omega (arith, length-map-range_with_len (own_moved tags (moves ++ m ∷ [])) 0 cpus) in
      get_or-map-range_with_len (own_moved tags (moves ++ m ∷ [])) 0 cpus c c d below (omega arith)
      ∙ elim (cases_eq c m.cpu) [
        | inl e ↦
            let len : m.cpu < length (map (own_moved tags moves) (range_with_len 0 cpus)) = omega (arith, length-map-range_with_len (own_moved tags moves) 0 cpus) in
            rw e (own_here ∙ sym (get_or-set_same (map (own_moved tags moves) (range_with_len 0 cpus)) m.cpu _ d len))
        | inr ne ↦ own_there c ne ∙ sym (get_or-set_other (map (own_moved tags moves) (range_with_len 0 cpus)) m.cpu c _ d ne ∙ get_or-map-range_with_len (own_moved tags moves) 0 cpus c c d below (omega arith))
      ])
