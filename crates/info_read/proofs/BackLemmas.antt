-- What is printed of rows of sections, read back.
use Rattle.std.proofs.Common.{◌≡◌, ℕ, ◌^◌, ◌<◌, inr, Bool, true, false, eqb, cond, List, [], ◌∷◌, ◌++◌, Option, Some, None, is_some, IfSome, map, codes, unwrap_or, refl, sym, ap, ◌∙◌, subst, arith, append_assoc}
use Rattle.std.specs.Fmt.{decimal}
use Rattle.std.specs.List.{flat_map}
use Rattle.std.specs.Prelude.{Vec, Result, Ok, Err, IfOk, IfErr}
use Rattle.std.specs.declared.alloc.Global.{Global}
use Rattle.std.proofs.lemmas.Bool.{cond_both, cond-false, ne_eqb, eqb-false}
use Rattle.std.proofs.lemmas.List.Elements.{All-head, All-tail}
use Rattle.allocinfo.specs.Text.{right, signed_text, module_of, place_text, row_text, rows_text, header_text, IsRow, AreRows}
use Rattle.allocinfo.specs.declared.print.TheConstants.{BYTES_PLACES, CALLS_PLACES}
use Rattle.allocinfo.specs.declared.rows.Row.{Row}
use Rattle.codetag.specs.TagParts.{IsFormed, tag_text, kept_text}
use Rattle.tag_section.specs.ModuleName.{IsModuleName}
use Rattle.tag_section.specs.Section.{Section, section_at, tag_at, AreSections}
use Rattle.info_read.specs.declared.error.InfoError.{InfoError}
use Rattle.info_read.specs.declared.error.InfoError.TheVariants.{Refused, Memory}
use Rattle.info_read.specs.declared.row.InfoRow.{InfoRow}
use Rattle.info_read.specs.Grammar.{IsInfoRow, IsLineOf, AreLinesOf, Spells, FindsRows, tag_of, line_text, ended}
use Rattle.info_read.specs.ReadBack.{info_row, info_rows, AreInfoRows, IsMemory}
use Rattle.info_read.proofs.LineLemmas.{line_read}

pub one_row : (line : List ℕ) (one other : InfoRow) → IsLineOf one line → IsLineOf other line → one ≡ other
one_row line one other first second =
    let a = line_read one line first in
    let b = line_read other line second in
    cc (a, b)

-- the module of a section that isn't the kernel's
named : (sections : List Section) (number : ℕ) → 0 < number → module_of sections number ≡ Some (section_at sections number).name
named sections number above = cond-false _ _ _ (ne_eqb number 0 (λ is. omega arith))

same_tag_by : (sections : List Section) (kept : Bool) (number index : ℕ) → (kept ≡ true → 0 < number)
    → cond kept (kept_text (tag_at sections number index) (section_at sections number).name) (tag_text (tag_at sections number index) (module_of sections number))
    ≡ cond kept (kept_text (tag_at sections number index) (unwrap_or (module_of sections number) [])) (tag_text (tag_at sections number index) (module_of sections number))
same_tag_by sections true number index above =
    ap (λ name. kept_text (tag_at sections number index) (unwrap_or name [])) (sym (named sections number (above refl)))
same_tag_by sections false number index above = refl

same_tag : (sections : List Section) (row : Row) → IsRow sections row → place_text sections row ≡ tag_of (info_row sections row)
unfolding place_text tag_of
same_tag sections row is = same_tag_by sections row.kept row.section row.index is.of_module

-- a row's line, with the space at its end
printed_line : (sections : List Section) (row : Row) → IsRow sections row → row_text sections row ≡ (line_text (info_row sections row) ++ codes " ") ++ codes "\n"
unfolding row_text line_text
printed_line sections row is =
    ap (λ t. right BYTES_PLACES (signed_text row.bytes) ++ codes " " ++ right CALLS_PLACES (decimal row.calls) ++ codes " " ++ t ++ codes " \n") (same_tag sections row is)
    ∙ simp append_assoc

abbrev lines_for : List Section → List Row → List (List ℕ)
lines_for sections rows = map (λ row. line_text (info_row sections row) ++ codes " ") rows

printed_lines : (sections : List Section) (rows : List Row) → AreRows sections rows → flat_map (row_text sections) rows ≡ ended (lines_for sections rows)
printed_lines sections [] are = refl
printed_lines sections (row ∷ rows) are =
    ap (λ t. t ++ flat_map (row_text sections) rows) (printed_line sections row (All-head (IsRow sections) row rows are))
    ∙ ap (λ t. ((line_text (info_row sections row) ++ codes " ") ++ codes "\n") ++ t) (printed_lines sections rows (All-tail (IsRow sections) row rows are))

lines_are : (sections : List Section) (rows : List Row) → AreInfoRows sections rows → AreLinesOf (info_rows sections rows) (lines_for sections rows)
lines_are sections [] are = tt
lines_are sections (row ∷ rows) are =
    (record { is_row = All-head (λ row. IsInfoRow (info_row sections row)) row rows are; spells = inr refl }, lines_are sections rows (All-tail (λ row. IsInfoRow (info_row sections row)) row rows are))

pub spelled : (sections : List Section) (rows : List Row) → AreRows sections rows → AreInfoRows sections rows → Spells (rows_text sections rows) (info_rows sections rows)
spelled sections rows are forms =
    (lines_for sections rows, ap (λ t. header_text ++ t) (printed_lines sections rows are), lines_are sections rows forms)

-- a row with a formed tag, whose numbers fit
pub formed_row : (sections : List Section) (row : Row) → AreSections sections → IsRow sections row → row.bytes < 2 ^ 64 → row.calls < 2 ^ 64 → IsFormed (tag_at sections row.section row.index) → IsInfoRow (info_row sections row)
formed_row sections row are is bytes calls formed = record {
  bytes_fit = bytes;
  calls_fit = calls;
  tag_formed = formed;
  module_formed =
      cond_both (eqb row.section 0) None (Some (section_at sections row.section).name) (λ m. IfSome m IsModuleName)
      (λ _. tt)
      (λ other. are.modules_after row.section (let ne : row.section ≡ 0 → ⊥ = eqb-false row.section 0 other in omega arith) is.in_list);
  kept_module = λ kept. ap (λ (m : Option (List ℕ)). is_some m) (named sections row.section (is.of_module kept));
}

-- what a call that reads such a text returns
pub reads_back : (sections : List Section) (rows : List Row) (text : List ℕ) (r : Result (Vec InfoRow Global) InfoError) → text ≡ rows_text sections rows → AreRows sections rows → AreInfoRows sections rows → FindsRows text r
    → IfOk r (λ read. read.items ≡ info_rows sections rows)
reads_back sections rows text (Ok found) is are forms finds = (finds (info_rows sections rows)).0 (subst (λ t. Spells t (info_rows sections rows)) (sym is) (spelled sections rows are forms))
reads_back sections rows text (Err e) is are forms finds = tt

pub reads_only : (sections : List Section) (rows : List Row) (text : List ℕ) (r : Result (Vec InfoRow Global) InfoError) → text ≡ rows_text sections rows → AreRows sections rows → AreInfoRows sections rows → FindsRows text r
    → IfErr r IsMemory
reads_only sections rows text (Ok found) is are forms finds = tt
reads_only sections rows text (Err (Refused line)) is are forms finds = finds (info_rows sections rows) (subst (λ t. Spells t (info_rows sections rows)) (sym is) (spelled sections rows are forms))
reads_only sections rows text (Err (Memory want)) is are forms finds = tt
