-- Lines that are ended, and the lines of a text.
use Rattle.std.proofs.Common.{◌≡◌, ℕ, ◌+◌, ◌<◌, ⊎_elim, Bool, true, false, not, eqb, List, [], ◌∷◌, ◌++◌, length, take, drop, Option, Some, None, position, codes, refl, sym, ap, ◌∙◌, subst, arith, append_assoc, length-append, IfSome}
use Rattle.std.specs.Fmt.{decimal}
use Rattle.std.specs.List.{position_or_len, join_with_byte}
use Rattle.std.proofs.Math.Seq.{take-append_seam, drop-append-add}
use Rattle.std.proofs.lemmas.Bool.{cond-true, lt-ltb}
use Rattle.allocinfo.specs.Text.{right, signed_text}
use Rattle.allocinfo.specs.declared.print.TheConstants.{BYTES_PLACES, CALLS_PLACES}
use Rattle.tag_section.specs.ModuleName.{IsModuleName}
use Rattle.text_form.specs.Lines.{is_newline, lines_of, tail_of}
use Rattle.text_form.proofs.Parts.{lines_of_none, lines_of_some}
use Rattle.info_read.specs.declared.row.InfoRow.{InfoRow}
use Rattle.info_read.specs.Grammar.{IsInfoRow, IsLineOf, AreLinesOf, line_text, ended, title_line, columns_line}
use Rattle.info_read.proofs.CutLemmas.{Lacks}
use Rattle.info_read.proofs.LacksLemmas.{lacks_by_test, Lacks-append, lacks_right, lacks_file, lacks_function, lacks_module, file_newline, function_newline, module_newline}
use Rattle.info_read.proofs.NumberLemmas.{lacks_decimal, lacks_signed}
use Rattle.info_read.proofs.PlaceLemmas.{label_text, bracket_text}
use Rattle.info_read.proofs.TagLemmas.{around}
use Rattle.info_read.proofs.LineLemmas.{line_around, line_plain, line_spaced}

ends_at : (line rest : List ℕ) → Lacks 10 line → position_or_len is_newline (line ++ 10 ∷ rest) ≡ length line
ends_at [] rest lacks = refl
ends_at (b ∷ bs) rest lacks =
    cond-true _ _ _ (ap not lacks.0) ∙ ap (λ n. 1 + n) (ends_at bs rest lacks.1) ∙ omega arith

-- the first line of a text, and what follows
pub lines_more : (line rest : List ℕ) → Lacks 10 line → (lines_of (line ++ 10 ∷ rest) ≡ line ∷ lines_of rest) × (tail_of (line ++ 10 ∷ rest) ≡ tail_of rest)
lines_more line rest lacks =
    let text = line ++ 10 ∷ rest in
    let place = ends_at line rest lacks in
    let within : position_or_len is_newline text < length text = omega (arith, place, length-append line (10 ∷ rest)) in
    let at : position is_newline text ≡ Some (length line) =
    cond-true _ _ _ (lt-ltb (position_or_len is_newline text) (length text) within) ∙ ap Some place in
    let parts = lines_of_some text (length line) at in
    let front : take (length line) text ≡ line = take-append_seam line (10 ∷ rest) in
    let back : drop (length line + 1) text ≡ rest = drop-append-add line (10 ∷ rest) 1 in
    (parts.0 ∙ ap (λ t. t ∷ lines_of (drop (length line + 1) text)) front ∙ ap (λ t. line ∷ lines_of t) back, parts.1 ∙ ap tail_of back)

-- no line has a newline
abbrev pub AreLines : List (List ℕ) → Type 0
AreLines [] = Unit {0}
AreLines (line ∷ lines) = Lacks 10 line × AreLines lines

pub lines_of_ended : (lines : List (List ℕ)) → AreLines lines → (lines_of (ended lines) ≡ lines) × (tail_of (ended lines) ≡ [])
lines_of_ended [] lacks = lines_of_none [] refl
lines_of_ended (line ∷ lines) lacks =
    let whole : ended (line ∷ lines) ≡ line ++ 10 ∷ ended lines = append_assoc line (10 ∷ []) (ended lines) in
    let first = lines_more line (ended lines) lacks.0 in
    let rest = lines_of_ended lines lacks.1 in
    (ap lines_of whole ∙ first.0 ∙ ap (λ t. line ∷ t) rest.0, ap tail_of whole ∙ first.1 ∙ rest.1)

pub joined_ended : (lines : List (List ℕ)) → join_with_byte 10 (lines ++ [] ∷ []) ≡ ended lines
joined_ended [] = refl
joined_ended (line ∷ []) = sym (append_assoc line (10 ∷ []) [])
joined_ended (line ∷ next ∷ lines) = ap (λ t. line ++ 10 ∷ t) (joined_ended (next ∷ lines)) ∙ sym (append_assoc line (10 ∷ []) (ended (next ∷ lines)))

-- the lines of the header and of rows
pub title_lacks : Lacks 10 title_line
title_lacks = lacks_by_test (λ b. not (eqb b 10)) 10 title_line refl refl

pub columns_lacks : Lacks 10 columns_line
columns_lacks = lacks_by_test (λ b. not (eqb b 10)) 10 columns_line refl refl

label_lacks : (name : List ℕ) (kept : Bool) → Lacks 10 name → Lacks 10 (label_text name kept)
label_lacks name false lacks = lacks
label_lacks name true lacks = Lacks-append 10 name (codes ":kept") lacks (lacks_by_test (λ b. not (eqb b 10)) 10 (codes ":kept") refl refl)

bracket_lacks : (name : Option (List ℕ)) (kept : Bool) → IfSome name IsModuleName → Lacks 10 (bracket_text name kept)
bracket_lacks None kept formed = tt
bracket_lacks (Some name) kept formed =
    (refl, Lacks-append 10 (label_text name kept) (93 ∷ 32 ∷ []) (label_lacks name kept (lacks_module 10 name module_newline formed)) (refl, (refl, tt)))

around_lacks : (row : InfoRow) (word : List ℕ) → IsInfoRow row → Lacks 10 word → Lacks 10 (line_around row word)
around_lacks row word is lacks =
    let tag = row.tag in
    let bytes = right BYTES_PLACES (signed_text row.bytes) in
    let calls = right CALLS_PLACES (decimal row.calls) in
    let small : tag.line < 4294967296 = omega (arith, is.tag_formed.line.1) in
    let func : Lacks 10 (codes "func:" ++ word) = Lacks-append 10 (codes "func:") word (lacks_by_test (λ b. not (eqb b 10)) 10 (codes "func:") refl refl) lacks in
    let behind = Lacks-append 10 (bracket_text row.module row.kept) (codes "func:" ++ word) (bracket_lacks row.module row.kept is.module_formed) func in
    let number = Lacks-append 10 (decimal tag.line) (32 ∷ (bracket_text row.module row.kept ++ (codes "func:" ++ word))) (lacks_decimal 10 tag.line (λ h. omega arith) (omega arith)) (refl, behind) in
    let place = Lacks-append 10 tag.file (58 ∷ (decimal tag.line ++ 32 ∷ (bracket_text row.module row.kept ++ (codes "func:" ++ word)))) (lacks_file 10 tag.file file_newline is.tag_formed.file) (refl, number) in
    let second = Lacks-append 10 calls (32 ∷ around row.tag row.module row.kept word) (lacks_right 10 CALLS_PLACES (decimal row.calls) refl (lacks_decimal 10 row.calls (λ h. omega arith) is.calls_fit)) (refl, place) in
    Lacks-append 10 bytes (32 ∷ (calls ++ 32 ∷ around row.tag row.module row.kept word)) (lacks_right 10 BYTES_PLACES (signed_text row.bytes) refl (lacks_signed 10 row.bytes (λ h. omega arith) refl is.bytes_fit)) (refl, second)

pub line_lacks : (row : InfoRow) (line : List ℕ) → IsLineOf row line → Lacks 10 line
line_lacks row line is =
    let function = lacks_function 10 row.tag.function function_newline is.is_row.tag_formed.function in
    ⊎_elim
    (λ (plain : line ≡ line_text row). subst (Lacks 10) (sym (plain ∙ line_plain row is.is_row.kept_module)) (around_lacks row row.tag.function is.is_row function))
    (λ (spaced : line ≡ line_text row ++ codes " "). subst (Lacks 10) (sym (spaced ∙ line_spaced row is.is_row.kept_module))
    (around_lacks row (row.tag.function ++ codes " ") is.is_row (Lacks-append 10 row.tag.function (codes " ") function (refl, tt))))
    is.spells

pub rows_lack : (rows : List InfoRow) (lines : List (List ℕ)) → AreLinesOf rows lines → AreLines lines
rows_lack [] [] are = tt
rows_lack [] (line ∷ lines) are = absurd are
rows_lack (row ∷ rows) [] are = absurd are
rows_lack (row ∷ rows) (line ∷ lines) are = (line_lacks row line are.0, rows_lack rows lines are.1)
