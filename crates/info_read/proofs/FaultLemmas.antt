-- The first line that isn't of its form.
use Rattle.std.proofs.Common.{◌≡◌, ℕ, zero, suc, ◌+◌, ◌-◌, ◌<◌, ◌≤◌, ◌≢◌, ◌⊎◌, inl, inr, true, ◌&&◌, eqb, List, [], ◌∷◌, ◌++◌, length, get_or, Option, Some, None, Result, Ok, Err, refl, sym, ap, ◌∙◌, subst, arith}
use Rattle.std.specs.Option.{ok_or}
use Rattle.std.specs.Prelude.{Vec}
use Rattle.std.specs.declared.alloc.Global.{Global}
use Rattle.std.specs.Str.{bytes_eq}
use Rattle.std.proofs.lemmas.Bool.{cond_both, cond-true, cases_order, both_ways, eq-eqb}
use Rattle.text_form.specs.Lines.{lines_of, tail_of}
use Rattle.info_read.specs.declared.error.InfoError.{InfoError}
use Rattle.info_read.specs.declared.error.InfoError.TheVariants.{Refused, Memory}
use Rattle.info_read.specs.declared.row.InfoRow.{InfoRow}
use Rattle.info_read.specs.Grammar.{IsLineOf, AreLinesOf, Spells, IsInPlace, IsFault, IsFirstFault, FindsRows, FindsFault, title_line, columns_line}
use Rattle.info_read.specs.Line.{row_of}
use Rattle.info_read.specs.Reading.{◌>>=◌, Reads, behind, rows_from, rows_of}
use Rattle.info_read.proofs.LineLemmas.{line_read, line_printed}
use Rattle.info_read.proofs.TextLemmas.{was_some, behind_was, text_was, spelled_reads, read_spells}

-- two first faults are one
pub one_fault : (lines : List (List ℕ)) (tail : List ℕ) (m n : ℕ) → IsFault lines tail m → IsFault lines tail n → m ≡ n
one_fault lines tail m n one other =
    let later : (a b : ℕ) → IsFault lines tail a → IsFault lines tail b → a < b → ⊥ = λ a b first second less.
    let back : (a - 1) + 1 < b = omega (arith, first.from_one) in
    let fine = second.before (a - 1) back in
    first.fault (omega (arith, fine.0)) fine.1 in
    elim (cases_order m n) [
      | inl same ↦ same
      | inr (inl less) ↦ absurd (later m n one other less)
      | inr (inr more) ↦ absurd (later n m other one more)
    ]

row_in_place : (rows : List InfoRow) (lines : List (List ℕ)) (place : ℕ) → AreLinesOf rows lines → place < length lines → (row : InfoRow) × IsLineOf row (get_or lines place [])
row_in_place [] [] place are within = absurd (omega arith)
row_in_place [] (line ∷ lines) place are within = absurd are
row_in_place (row ∷ rows) [] place are within = absurd are
row_in_place (row ∷ rows) (line ∷ lines) zero are within = (row, are.0)
row_in_place (row ∷ rows) (line ∷ lines) (suc place) are within = row_in_place rows lines place are.1 (omega arith)

in_place : (rows : List InfoRow) (lines : List (List ℕ)) (place : ℕ) → AreLinesOf rows lines → place < length (title_line ∷ columns_line ∷ lines) → IsInPlace place (get_or (title_line ∷ columns_line ∷ lines) place [])
in_place rows lines zero are within = refl
in_place rows lines (suc zero) are within = refl
in_place rows lines (suc (suc place)) are within = row_in_place rows lines place are (omega arith)

-- a text that was read has no fault
pub no_fault : (text : List ℕ) (rows : List InfoRow) (n : ℕ) → rows_of text ≡ Ok rows → IsFirstFault text n → ⊥
no_fault text rows n e fault =
    let was = text_was text rows e in
    let whole = title_line ∷ columns_line ∷ was.lines in
    let inside : IsFault whole [] n = subst (λ t. IsFault whole t n) was.tail_is (subst (λ ls. IsFault ls (tail_of text) n) was.lines_are fault) in
    let step : n ≤ length whole → ⊥ = λ within.
    inside.fault within (in_place rows was.lines (n - 1) was.are (omega (arith, inside.from_one))) in
    elim (cases_order n (length whole)) [
      | inl same ↦ step (omega arith)
      | inr (inl less) ↦ step (omega arith)
      | inr (inr more) ↦
          elim (inside.at_end more) [ inl early ↦ absurd (omega arith) | inr tail ↦ tail refl ]
    ]

-- of the lines behind the header, the first that is no row's is at this place
record StopsAt (lines : List (List ℕ)) (tail : List ℕ) (k : ℕ) : Type 0 where
  before : (place : ℕ) → place < k → (place < length lines) × ((row : InfoRow) × IsLineOf row (get_or lines place []))
  fault : k < length lines → (row : InfoRow) × IsLineOf row (get_or lines k []) → ⊥
  at_end : length lines ≤ k → tail ≢ []

then_err : {A B E : Type 0} (f : A → Result B E) (r : Result A E) (n : E) → (r >>= f) ≡ Err n → (r ≡ Err n) ⊎ ((x : A) × (r ≡ Ok x) × (f x ≡ Err n))
then_err f (Ok x) n e = inr (x, refl, e)
then_err f (Err m) n e = inl cc

was_none : {A E : Type 0} (o : Option A) (m n : E) → ok_or o m ≡ Err n → (o ≡ None) × (m ≡ n)
was_none None m n e = (refl, cc)
was_none (Some x) m n e = let no : ⊥ = cc in absurd no

stops : (number : ℕ) (lines : List (List ℕ)) (tail : List ℕ) (far : List InfoRow) (n : ℕ) → rows_from number lines tail far ≡ Err n → (k : ℕ) × (n ≡ number + k) × StopsAt lines tail k
stops number [] tail far n e =
    cond_both (eqb (length tail) 0) (Ok far) (Err number) (λ r. r ≡ Err n → (k : ℕ) × (n ≡ number + k) × StopsAt [] tail k)
    (λ _ h. let no : ⊥ = cc in absurd no)
    (λ some h.
    let is : number ≡ n = cc in (
      0,
      omega arith,
      record {
        before = λ place less. absurd (omega arith);
        fault = λ less. absurd (omega arith);
        at_end = λ _ none. both_ways (eqb (length tail) 0) some (ap (λ (t : List ℕ). eqb (length t) 0) none);
      },
    ))
    e
stops number (line ∷ lines) tail far n e =
    elim (then_err (λ row. rows_from (number + 1) lines tail (far ++ row ∷ [])) (ok_or (row_of line) number) n e) [
      | inl here ↦
          let none = was_none (row_of line) number n here in (
            0,
            omega (arith, none.1),
            record {
              before = λ place less. absurd (omega arith);
              fault = λ _ found. let no : ⊥ = cc (line_read found.0 line found.1, none.0) in no;
              at_end = λ short. absurd (omega arith);
            },
          )
      | inr later ↦
          let row = later.0 in
          let is = line_printed row line (was_some (row_of line) number row later.1) in
          let more = stops (number + 1) lines tail (far ++ row ∷ []) n later.2 in (
            suc more.0,
            omega (arith, more.1),
            record {
              before = elim [ zero ↦ λ less. (omega arith, (row, is)) | suc place ↦ λ less. let fine = more.2.before place (omega arith) in (omega (arith, fine.0), fine.1) ];
              fault = λ less. more.2.fault (omega arith);
              at_end = λ short. more.2.at_end (omega arith);
            },
          )
    ]

equal_bytes : (xs : List ℕ) → bytes_eq xs xs ≡ true
equal_bytes [] = refl
equal_bytes (x ∷ xs) = ap (λ t. t && bytes_eq xs xs) (eq-eqb x x refl) ∙ equal_bytes xs

not_behind : (line first : List ℕ) (lines : List (List ℕ)) → behind line (first ∷ lines) ≡ None → first ≡ line → ⊥
not_behind line first lines e same =
    let yes : bytes_eq first line ≡ true = ap (bytes_eq first) (sym same) ∙ equal_bytes first in
    let found : behind line (first ∷ lines) ≡ Some lines = cond-true _ _ _ yes in
    cc

no_title : (lines : List (List ℕ)) (tail : List ℕ) → behind title_line lines ≡ None → IsFault lines tail 1
no_title [] tail e = record {
  from_one = omega arith;
  before = λ place less. absurd (omega arith);
  fault = λ within. absurd (omega arith);
  at_end = λ _. inl (omega arith);
}
no_title (first ∷ lines) tail e = record {
  from_one = omega arith;
  before = λ place less. absurd (omega arith);
  fault = λ _. not_behind title_line first lines e;
  at_end = λ short. absurd (omega arith);
}

title_fine : (lines : List (List ℕ)) (place : ℕ) → place + 1 < 2 → (place < length (title_line ∷ lines)) × IsInPlace place (get_or (title_line ∷ lines) place [])
title_fine lines zero less = (omega arith, refl)
title_fine lines (suc place) less = absurd (omega arith)

no_columns : (lines : List (List ℕ)) (tail : List ℕ) → behind columns_line lines ≡ None → IsFault (title_line ∷ lines) tail 2
no_columns [] tail e = record {
  from_one = omega arith;
  before = title_fine [];
  fault = λ within. absurd (omega arith);
  at_end = λ _. inl (omega arith);
}
no_columns (first ∷ lines) tail e = record {
  from_one = omega arith;
  before = title_fine (first ∷ lines);
  fault = λ _. not_behind columns_line first lines e;
  at_end = λ short. absurd (omega arith);
}

no_row : (lines : List (List ℕ)) (tail : List ℕ) (k : ℕ) → StopsAt lines tail k → IsFault (title_line ∷ columns_line ∷ lines) tail (suc (suc (suc k)))
no_row lines tail k stops =
    let whole = title_line ∷ columns_line ∷ lines in
    let place_is : suc (suc (suc k)) - 1 ≡ suc (suc k) = omega arith in
    record {
      from_one = omega arith;
      before = λ place.
          elim place as (λ p. p + 1 < suc (suc (suc k)) → (p < length whole) × IsInPlace p (get_or whole p [])) [
            | zero ↦ λ less. (omega arith, refl)
            | suc next ↦
                elim next as (λ p. suc p + 1 < suc (suc (suc k)) → (suc p < length whole) × IsInPlace (suc p) (get_or whole (suc p) [])) [
                  | zero ↦ λ less. (omega arith, refl)
                  | suc place ↦ λ less. let fine = stops.before place (omega arith) in (omega (arith, fine.0), fine.1)
                ]
          ];
      fault = λ within. subst (λ p. IsInPlace p (get_or whole p []) → ⊥) (sym place_is) (stops.fault (omega arith));
      at_end = λ short. inr (stops.at_end (omega arith));
    }

-- a text that was refused has its first fault at that line
pub fault_found : (text : List ℕ) (n : ℕ) → rows_of text ≡ Err n → IsFirstFault text n
unfolding rows_of
fault_found text n e =
    let lines = lines_of text in
    let tail = tail_of text in
    elim (then_err (λ body. ok_or (behind columns_line body) 2 >>= λ lines. rows_from 3 lines tail []) (ok_or (behind title_line lines) 1) n e) [
      | inl first ↦
          let none = was_none (behind title_line lines) 1 n first in
          subst (IsFault lines tail) none.1 (no_title lines tail none.0)
      | inr one ↦
          let body = one.0 in
          let title = behind_was title_line lines body (was_some (behind title_line lines) 1 body one.1) in
          elim (then_err (λ lines. rows_from 3 lines tail []) (ok_or (behind columns_line body) 2) n one.2) [
            | inl second ↦
                let none = was_none (behind columns_line body) 2 n second in
                subst (λ ls. IsFault ls tail n) (sym title) (subst (IsFault (title_line ∷ body) tail) none.1 (no_columns body tail none.0))
            | inr two ↦
                let columns = behind_was columns_line body two.0 (was_some (behind columns_line body) 2 two.0 two.1) in
                let stop = stops 3 two.0 tail [] n two.2 in
                let is : suc (suc (suc stop.0)) ≡ n = omega (arith, stop.1) in
                subst (λ ls. IsFault ls tail n) (sym (title ∙ ap (λ t. title_line ∷ t) columns))
                (subst (IsFault (title_line ∷ columns_line ∷ two.0) tail) is (no_row two.0 tail stop.0 stop.2))
          ]
    ]

-- what a call that reads finds
pub finds_rows : (text : List ℕ) (r : Result (Vec InfoRow Global) InfoError) → Reads r (rows_of text) → FindsRows text r
finds_rows text (Ok found) e =
    λ rows. (λ spells. let read = spelled_reads text rows spells in cc (e, read), λ same. subst (Spells text) same (read_spells text found.items e))
finds_rows text (Err (Refused line)) e = λ rows spells. let no : ⊥ = cc (e, spelled_reads text rows spells) in no
finds_rows text (Err (Memory want)) e = tt

pub finds_fault : (text : List ℕ) (r : Result (Vec InfoRow Global) InfoError) → Reads r (rows_of text) → FindsFault text r
finds_fault text (Ok found) e = λ line fault. no_fault text found.items line e fault
finds_fault text (Err (Refused line)) e =
    λ number. (
      λ fault. one_fault (lines_of text) (tail_of text) line number (fault_found text line e) fault,
      λ same. subst (IsFirstFault text) same (fault_found text line e),
    )
finds_fault text (Err (Memory want)) e = tt
