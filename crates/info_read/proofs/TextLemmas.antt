-- A text, read and printed.
use Rattle.std.proofs.Common.{◌≡◌, ℕ, ◌+◌, eqb, List, [], ◌∷◌, ◌++◌, length, Option, Some, None, Result, Ok, Err, refl, sym, ap, ◌∙◌, subst, append_assoc}
use Rattle.std.specs.List.{join_with_byte}
use Rattle.std.specs.Option.{ok_or}
use Rattle.std.specs.Str.{bytes_eq}
use Rattle.std.proofs.lemmas.Bool.{cond_both}
use Rattle.std.proofs.lemmas.List.{append-nil}
use Rattle.allocinfo.specs.Text.{header_text}
use Rattle.text_form.specs.Lines.{lines_of, tail_of}
use Rattle.text_form.proofs.Parts.{joined_lines}
use Rattle.info_read.specs.declared.row.InfoRow.{InfoRow}
use Rattle.info_read.specs.Grammar.{AreLinesOf, ended, Spells, title_line, columns_line}
use Rattle.info_read.specs.Line.{row_of}
use Rattle.info_read.specs.Reading.{◌>>=◌, behind, rows_from, rows_of}
use Rattle.info_read.proofs.LineLemmas.{line_read, line_printed}
use Rattle.info_read.proofs.NewlineLemmas.{lines_more, lines_of_ended, joined_ended, title_lacks, columns_lacks, rows_lack}
use Rattle.info_read.proofs.PlaceLemmas.{same_bytes, no_bytes}

then_ok : {A B E : Type 0} (f : A → Result B E) (r : Result A E) (y : B) → (r >>= f) ≡ Ok y → (x : A) × (r ≡ Ok x) × (f x ≡ Ok y)
then_ok f (Ok x) y e = (x, refl, e)
then_ok f (Err n) y e = let no : ⊥ = cc in absurd no

-- what a refusal for none let through
pub was_some : {A E : Type 0} (o : Option A) (n : E) (x : A) → ok_or o n ≡ Ok x → o ≡ Some x
was_some None n x e = let no : ⊥ = cc in absurd no
was_some (Some y) n x e = cc

pub behind_was : (line : List ℕ) (lines rest : List (List ℕ)) → behind line lines ≡ Some rest → lines ≡ line ∷ rest
behind_was line [] rest e = let no : ⊥ = cc in absurd no
behind_was line (first ∷ lines) rest e =
    cond_both (bytes_eq first line) (Some lines) None (λ r. r ≡ Some rest → first ∷ lines ≡ line ∷ rest)
    (λ yes h. let same = same_bytes first line yes in cc)
    (λ _ h. let no : ⊥ = cc in absurd no)
    e

-- the lines of rows read as the rows
rows_read : (number : ℕ) (rows : List InfoRow) (lines : List (List ℕ)) (far : List InfoRow) → AreLinesOf rows lines → rows_from number lines [] far ≡ Ok (far ++ rows)
rows_read number [] [] far are = ap Ok (sym (append-nil far))
rows_read number [] (line ∷ lines) far are = absurd are
rows_read number (row ∷ rows) [] far are = absurd are
rows_read number (row ∷ rows) (line ∷ lines) far are =
    ap (λ o. ok_or o number >>= λ row. rows_from (number + 1) lines [] (far ++ row ∷ [])) (line_read row line are.0)
    ∙ rows_read (number + 1) rows lines (far ++ row ∷ []) are.1
    ∙ ap Ok (append_assoc far (row ∷ []) rows)

-- what the lines were from which rows were read
pub record WereRows (lines : List (List ℕ)) (tail : List ℕ) (far all : List InfoRow) : Type 0 where
  pub rows : List InfoRow
  pub are : AreLinesOf rows lines
  pub all_of : all ≡ far ++ rows
  pub no_tail : tail ≡ []

rows_were : (number : ℕ) (lines : List (List ℕ)) (tail : List ℕ) (far all : List InfoRow) → rows_from number lines tail far ≡ Ok all → WereRows lines tail far all
rows_were number [] tail far all e =
    cond_both (eqb (length tail) 0) (Ok far) (Err number) (λ r. r ≡ Ok all → WereRows [] tail far all)
    (λ none h.
    let is : far ≡ all = cc in
    record { rows = []; are = tt; all_of = sym is ∙ sym (append-nil far); no_tail = no_bytes tail none })
    (λ _ h. let no : ⊥ = cc in absurd no)
    e
rows_were number (line ∷ lines) tail far all e =
    let one = then_ok _ (ok_or (row_of line) number) all e in
    let row = one.0 in
    let more = rows_were (number + 1) lines tail (far ++ row ∷ []) all one.2 in
    record {
      rows = row ∷ more.rows;
      are = (line_printed row line (was_some (row_of line) number row one.1), more.are);
      all_of = more.all_of ∙ append_assoc far (row ∷ []) more.rows;
      no_tail = more.no_tail;
    }

header_parts : (rest : List ℕ) → header_text ++ rest ≡ title_line ++ 10 ∷ (columns_line ++ 10 ∷ rest)
header_parts rest = refl

-- what spells rows reads as the rows
pub spelled_reads : (text : List ℕ) (rows : List InfoRow) → Spells text rows → rows_of text ≡ Ok rows
unfolding rows_of
spelled_reads text rows spells =
    let body = ended spells.0 in
    let whole : text ≡ title_line ++ 10 ∷ (columns_line ++ 10 ∷ body) = spells.1 ∙ header_parts body in
    let first = lines_more title_line (columns_line ++ 10 ∷ body) title_lacks in
    let second = lines_more columns_line body columns_lacks in
    let rest = lines_of_ended spells.0 (rows_lack rows spells.0 spells.2) in
    let lines : lines_of text ≡ title_line ∷ columns_line ∷ spells.0 =
    ap lines_of whole ∙ first.0 ∙ ap (λ t. title_line ∷ t) (second.0 ∙ ap (λ t. columns_line ∷ t) rest.0) in
    let tail : tail_of text ≡ [] = ap tail_of whole ∙ first.1 ∙ second.1 ∙ rest.1 in
    ap (λ (ls : List (List ℕ)). ok_or (behind title_line ls) 1 >>= λ body. ok_or (behind columns_line body) 2 >>= λ lines. rows_from 3 lines (tail_of text) []) lines
    ∙ ap (λ t. rows_from 3 spells.0 t []) tail
    ∙ rows_read 3 rows spells.0 [] spells.2

-- what a text was from which rows were read
pub record WasText (text : List ℕ) (rows : List InfoRow) : Type 0 where
  pub lines : List (List ℕ)
  pub lines_are : lines_of text ≡ title_line ∷ columns_line ∷ lines
  pub tail_is : tail_of text ≡ []
  pub are : AreLinesOf rows lines

pub text_was : (text : List ℕ) (rows : List InfoRow) → rows_of text ≡ Ok rows → WasText text rows
unfolding rows_of
text_was text rows e =
    let one = then_ok _ (ok_or (behind title_line (lines_of text)) 1) rows e in
    let two = then_ok _ (ok_or (behind columns_line one.0) 2) rows one.2 in
    let body = rows_were 3 two.0 (tail_of text) [] rows two.2 in
    let title = behind_was title_line (lines_of text) one.0 (was_some (behind title_line (lines_of text)) 1 one.0 one.1) in
    let columns = behind_was columns_line one.0 two.0 (was_some (behind columns_line one.0) 2 two.0 two.1) in
    record {
      lines = two.0;
      lines_are = title ∙ ap (λ t. title_line ∷ t) columns;
      tail_is = body.no_tail;
      are = subst (λ r. AreLinesOf r two.0) (sym body.all_of) body.are;
    }

pub read_spells : (text : List ℕ) (rows : List InfoRow) → rows_of text ≡ Ok rows → Spells text rows
read_spells text rows e =
    let was = text_was text rows e in
    let whole = title_line ∷ columns_line ∷ was.lines in
    let joined : text ≡ ended whole =
    sym (joined_lines text)
    ∙ ap (λ ls. join_with_byte 10 (ls ++ tail_of text ∷ [])) was.lines_are
    ∙ ap (λ t. join_with_byte 10 (whole ++ t ∷ [])) was.tail_is
    ∙ joined_ended whole in
    (was.lines, joined ∙ sym (header_parts (ended was.lines)), was.are)
