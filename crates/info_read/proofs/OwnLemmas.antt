-- Rows that were read are of their forms.
use Rattle.std.proofs.Common.{◌≡◌, ℕ, List, [], ◌∷◌, map, All, Ok}
use Rattle.std.proofs.lemmas.List.Elements.{All-nil, All-cons}
use Rattle.info_read.specs.declared.row.RowText.{RowText}
use Rattle.info_read.specs.Grammar.{AreLinesOf, IsInfoRow}
use Rattle.info_read.specs.Reading.{rows_of}
use Rattle.info_read.specs.Views.{row_view}
use Rattle.info_read.proofs.TextLemmas.{text_was}

lines_of_formed : (rows : List RowText) (lines : List (List ℕ)) → AreLinesOf (map row_view rows) lines → All (λ row. IsInfoRow (row_view row)) rows
lines_of_formed [] lines are = All-nil (λ row. IsInfoRow (row_view row))
lines_of_formed (row ∷ rows) [] are = absurd are
lines_of_formed (row ∷ rows) (line ∷ lines) are = All-cons (λ row. IsInfoRow (row_view row)) row rows are.0.is_row (lines_of_formed rows lines are.1)

pub read_formed : (text : List ℕ) (rows : List RowText) → rows_of text ≡ Ok (map row_view rows) → All (λ row. IsInfoRow (row_view row)) rows
read_formed text rows e = let was = text_was text (map row_view rows) e in lines_of_formed rows was.lines was.are
