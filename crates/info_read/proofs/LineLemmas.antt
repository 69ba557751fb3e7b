-- A line, read and printed.
use Rattle.std.proofs.Common.{◌≡◌, ℕ, ◌-◌, ◌^◌, ◌<◌, inl, inr, ⊎_elim, Bool, true, eqb, ◌&&◌, List, [], ◌∷◌, ◌++◌, length, replicate, drop, Option, Some, None, IsSome, IfSome, codes, refl, sym, ap, ◌∙◌, subst, arith, append_assoc}
use Rattle.std.specs.Fmt.{decimal}
use Rattle.std.specs.Option.{option_and_then}
use Rattle.std.proofs.lemmas.Bool.{cond_both, cond-true, cond-false, eqb-true, eq-eqb, and_parts}
use Rattle.std.proofs.lemmas.Fmt.{decimal_nonempty}
use Rattle.std.proofs.lemmas.List.{append-nil}
use Rattle.allocinfo.specs.Text.{right, signed_text}
use Rattle.allocinfo.specs.declared.print.TheConstants.{BYTES_PLACES, CALLS_PLACES}
use Rattle.codetag.specs.Names.{is_file, is_function}
use Rattle.codetag.specs.TagParts.{TagParts, IsFormed}
use Rattle.tag_section.specs.ModuleName.{is_module_name, IsModuleName}
use Rattle.info_read.specs.declared.row.InfoRow.{InfoRow}
use Rattle.info_read.specs.Cuts.{cut, spaces_before, unpadded}
use Rattle.info_read.specs.Grammar.{IsInfoRow, IsLineOf, tag_of, line_text}
use Rattle.info_read.specs.Line.{parts_of, formed_tag, formed_name, formed_row, row_of}
use Rattle.info_read.specs.Numbers.{signed_of, unsigned_of}
use Rattle.info_read.specs.Place.{Place, last_word, place_of}
use Rattle.info_read.proofs.CutLemmas.{Lacks, then_parts, then_some, cut_joined, cut_splits, spaces_split, spaces_of_pad, drop_pad}
use Rattle.info_read.proofs.LacksLemmas.{lacks_function, function_space}
use Rattle.info_read.proofs.NumberLemmas.{lacks_decimal, lacks_signed, signed_nonempty, signed_read, signed_printed, unsigned_read, unsigned_printed}
use Rattle.info_read.proofs.PlaceLemmas.{last_read, last_read_space, last_printed}
use Rattle.info_read.proofs.TagLemmas.{around, printed, printed_around, place_read, WasPlace, place_printed}

-- a word begins with no space
no_space : (word rest : List ℕ) → 0 < length word → Lacks 32 word → spaces_before (word ++ rest) ≡ 0
no_space [] rest some lacks = absurd (omega arith)
no_space (b ∷ bs) rest some lacks = cond-false _ _ _ lacks.0

pub unpadded_read : (places : ℕ) (word rest : List ℕ) → 0 < length word → Lacks 32 word → unpadded places (right places word ++ 32 ∷ rest) ≡ Some (word, rest)
unfolding unpadded
unpadded_read places word rest some lacks =
    let n = places - length word in
    let text = right places word ++ 32 ∷ rest in
    let grouped : text ≡ replicate n 32 ++ (word ++ 32 ∷ rest) = append_assoc (replicate n 32) word (32 ∷ rest) in
    let spaces : spaces_before text ≡ n = ap spaces_before grouped ∙ spaces_of_pad n (word ++ 32 ∷ rest) (no_space word (32 ∷ rest) some lacks) in
    let left : drop (spaces_before text) text ≡ word ++ 32 ∷ rest = ap (λ k. drop k text) spaces ∙ ap (drop n) grouped ∙ drop_pad n (word ++ 32 ∷ rest) in
    then_some _ (cut 32 (drop (spaces_before text) text)) (word, rest) _ (ap (cut 32) left ∙ cut_joined 32 word rest lacks) (cond-true _ _ _ (eq-eqb (spaces_before text) n spaces))

pub unpadded_printed : (places : ℕ) (text : List ℕ) (p : List ℕ × List ℕ) → unpadded places text ≡ Some p → text ≡ right places p.0 ++ 32 ∷ p.1
unfolding unpadded
unpadded_printed places text p e =
    let n = spaces_before text in
    let one = then_parts _ (cut 32 (drop n text)) p e in
    cond_both (eqb n (places - length one.0.0)) (Some one.0) None (λ r. r ≡ Some p → text ≡ right places p.0 ++ 32 ∷ p.1)
    (λ fits h.
    let is : one.0 ≡ p = cc in
    let whole : text ≡ right places one.0.0 ++ 32 ∷ one.0.1 =
    spaces_split text
    ∙ ap (λ t. replicate n 32 ++ t) (cut_splits 32 (drop n text) one.0 one.1)
    ∙ ap (λ k. replicate k 32 ++ (one.0.0 ++ 32 ∷ one.0.1)) (eqb-true n (places - length one.0.0) fits)
    ∙ sym (append_assoc (replicate (places - length one.0.0) 32) one.0.0 (32 ∷ one.0.1)) in
    subst (λ (q : List ℕ × List ℕ). text ≡ right places q.0 ++ 32 ∷ q.1) is whole)
    (λ _ h. let no : ⊥ = cc in absurd no)
    one.2

-- a line, with the word that it ends with
abbrev pub line_around : InfoRow → List ℕ → List ℕ
line_around row word =
    right BYTES_PLACES (signed_text row.bytes) ++ 32 ∷ (right CALLS_PLACES (decimal row.calls) ++ 32 ∷ around row.tag row.module row.kept word)

line_joined : (row : InfoRow) (ending : List ℕ) → (row.kept ≡ true → IsSome row.module) → line_text row ++ ending ≡ line_around row (row.tag.function ++ ending)
unfolding line_text tag_of
line_joined row ending named =
    let bytes = right BYTES_PLACES (signed_text row.bytes) in
    let calls = right CALLS_PLACES (decimal row.calls) in
    let regroup : line_text row ++ ending ≡ bytes ++ 32 ∷ (calls ++ 32 ∷ (printed row.tag row.module row.kept ++ ending)) = simp append_assoc in
    regroup ∙ ap (λ t. bytes ++ 32 ∷ (calls ++ 32 ∷ t)) (printed_around row.tag row.module row.kept ending named)

pub line_plain : (row : InfoRow) → (row.kept ≡ true → IsSome row.module) → line_text row ≡ line_around row row.tag.function
line_plain row named = sym (append-nil (line_text row)) ∙ line_joined row [] named ∙ ap (line_around row) (append-nil row.tag.function)

pub line_spaced : (row : InfoRow) → (row.kept ≡ true → IsSome row.module) → line_text row ++ codes " " ≡ line_around row (row.tag.function ++ codes " ")
line_spaced row named = line_joined row (codes " ") named

-- the names' forms
abbrev made : ℕ → ℕ → TagParts → Option (List ℕ) → Bool → InfoRow
made bytes calls tag name kept = record { bytes = bytes; calls = calls; «module» = name; kept = kept; tag = tag }

and_true : (x y : Bool) → x ≡ true → y ≡ true → (x && y) ≡ true
and_true x y p q = ap (λ t. t && y) p ∙ q

tag_passes : (tag : TagParts) → IsFormed tag → formed_tag tag ≡ Some tag
unfolding formed_tag
tag_passes tag is = cond-true _ _ _ (and_true (is_file tag.file) (is_function tag.function) is.file is.function)

name_passes : (name : Option (List ℕ)) → IfSome name IsModuleName → formed_name name ≡ Some name
unfolding formed_name
name_passes None is = refl
name_passes (Some name) is = cond-true _ _ _ is

formed_read : (row : InfoRow) → IsInfoRow row → formed_row row.bytes row.calls (record { tag = row.tag; name = row.module; kept = row.kept }) ≡ Some row
unfolding formed_row
formed_read row is =
    then_some _ (formed_tag row.tag) row.tag _ (tag_passes row.tag is.tag_formed)
    (ap (option_and_then (λ name. Some (made row.bytes row.calls row.tag name row.kept))) (name_passes row.module is.module_formed))

tag_was : (tag new : TagParts) → formed_tag tag ≡ Some new → (tag ≡ new) × (is_file tag.file ≡ true) × (is_function tag.function ≡ true)
unfolding formed_tag
tag_was tag new e =
    cond_both (is_file tag.file && is_function tag.function) (Some tag) None (λ r. r ≡ Some new → (tag ≡ new) × (is_file tag.file ≡ true) × (is_function tag.function ≡ true))
    (λ yes h. let parts = and_parts (is_file tag.file) (is_function tag.function) yes in (cc, parts.0, parts.1))
    (λ _ h. let no : ⊥ = cc in absurd no)
    e

name_was : (name new : Option (List ℕ)) → formed_name name ≡ Some new → (name ≡ new) × IfSome name IsModuleName
unfolding formed_name
name_was None new e = (cc, tt)
name_was (Some name) new e =
    cond_both (is_module_name name) (Some (Some name)) None (λ r. r ≡ Some new → (Some name ≡ new) × IsModuleName name)
    (λ yes h. (cc, yes))
    (λ _ h. let no : ⊥ = cc in absurd no)
    e

-- the row that was made, and the forms of its names
record WasFormed (bytes calls : ℕ) (place : Place) (row : InfoRow) : Type 0 where
  is : made bytes calls place.tag place.name place.kept ≡ row
  file : is_file place.tag.file ≡ true
  function : is_function place.tag.function ≡ true
  name : IfSome place.name IsModuleName

formed_was : (bytes calls : ℕ) (place : Place) (row : InfoRow) → formed_row bytes calls place ≡ Some row → WasFormed bytes calls place row
unfolding formed_row
formed_was bytes calls place row e =
    let one = then_parts _ (formed_tag place.tag) row e in
    let two = then_parts _ (formed_name place.name) row one.2 in
    let tag = tag_was place.tag one.0 one.1 in
    let name = name_was place.name two.0 two.1 in
    let last : made bytes calls one.0 two.0 place.kept ≡ row = cc (two.2) in
    record {
      is = ap (λ t. made bytes calls t place.name place.kept) tag.0 ∙ ap (λ n. made bytes calls one.0 n place.kept) name.0 ∙ last;
      file = tag.1;
      function = tag.2;
      name = name.1;
    }

-- what a line was from which parts were read
record WasLine (line : List ℕ) (parts : ℕ × ℕ × Place) : Type 0 where
  rest : List ℕ
  spells : line ≡ right BYTES_PLACES (signed_text parts.0) ++ 32 ∷ (right CALLS_PLACES (decimal parts.1) ++ 32 ∷ rest)
  bytes : parts.0 < 2 ^ 64
  calls : parts.1 < 2 ^ 64
  place : WasPlace rest parts.2

parts_were : (line : List ℕ) (parts : ℕ × ℕ × Place) → parts_of line ≡ Some parts → WasLine line parts
unfolding parts_of
parts_were line parts e =
    let one = then_parts _ (unpadded BYTES_PLACES line) parts e in
    let two = then_parts _ (signed_of one.0.0) parts one.2 in
    let three = then_parts _ (unpadded CALLS_PLACES one.0.1) parts two.2 in
    let four = then_parts _ (unsigned_of three.0.0) parts three.2 in
    let five = then_parts _ (place_of three.0.1) parts four.2 in
    let bytes = signed_printed one.0.0 two.0 two.1 in
    let calls = unsigned_printed three.0.0 four.0 four.1 in
    let is : ◌≡◌ {A = ℕ × ℕ × Place} (two.0, four.0, five.0) parts = cc (five.2) in
    let whole : line ≡ right BYTES_PLACES (signed_text two.0) ++ 32 ∷ (right CALLS_PLACES (decimal four.0) ++ 32 ∷ three.0.1) =
    unpadded_printed BYTES_PLACES line one.0 one.1
    ∙ ap (λ t. right BYTES_PLACES t ++ 32 ∷ one.0.1) bytes.0
    ∙ ap (λ t. right BYTES_PLACES (signed_text two.0) ++ 32 ∷ t) (unpadded_printed CALLS_PLACES one.0.1 three.0 three.1 ∙ ap (λ t. right CALLS_PLACES t ++ 32 ∷ three.0.1) calls.0) in
    subst (WasLine line) is (record { rest = three.0.1; spells = whole; bytes = bytes.1; calls = calls.1; place = place_printed three.0.1 five.0 five.1 })

pub around_read : (row : InfoRow) (word : List ℕ) → IsInfoRow row → last_word word ≡ Some row.tag.function → row_of (line_around row word) ≡ Some row
unfolding row_of parts_of
around_read row word is last =
    let place = around row.tag row.module row.kept word in
    let calls = right CALLS_PLACES (decimal row.calls) ++ 32 ∷ place in
    let tag : Place = record { tag = row.tag; name = row.module; kept = row.kept } in
    then_some _ (parts_of (line_around row word)) (row.bytes, row.calls, tag) _
    (then_some _ (unpadded BYTES_PLACES (line_around row word)) (signed_text row.bytes, calls) _ (unpadded_read BYTES_PLACES (signed_text row.bytes) calls (signed_nonempty row.bytes is.bytes_fit) (lacks_signed 32 row.bytes (λ h. omega arith) refl is.bytes_fit))
    (then_some _ (signed_of (signed_text row.bytes)) row.bytes _ (signed_read row.bytes is.bytes_fit)
    (then_some _ (unpadded CALLS_PLACES calls) (decimal row.calls, place) _ (unpadded_read CALLS_PLACES (decimal row.calls) place (decimal_nonempty row.calls is.calls_fit) (lacks_decimal 32 row.calls (λ h. omega arith) is.calls_fit))
    (then_some _ (unsigned_of (decimal row.calls)) row.calls _ (unsigned_read row.calls is.calls_fit)
    (then_some _ (place_of place) tag _ (place_read row.tag row.module row.kept word is.tag_formed is.module_formed is.kept_module last) refl)))))
    (formed_read row is)

-- the line of a row reads as the row
pub line_read : (row : InfoRow) (line : List ℕ) → IsLineOf row line → row_of line ≡ Some row
line_read row line is =
    let lacks = lacks_function 32 row.tag.function function_space is.is_row.tag_formed.function in
    ⊎_elim
    (λ plain. ap row_of (plain ∙ line_plain row is.is_row.kept_module) ∙ around_read row row.tag.function is.is_row (last_read row.tag.function lacks))
    (λ spaced.
    ap row_of (spaced ∙ line_spaced row is.is_row.kept_module)
    ∙ around_read row (row.tag.function ++ codes " ") is.is_row (last_read_space row.tag.function lacks))
    is.spells

-- and a line that reads as a row is that row's
pub line_printed : (row : InfoRow) (line : List ℕ) → row_of line ≡ Some row → IsLineOf row line
unfolding row_of
line_printed row line e =
    let one = then_parts _ (parts_of line) row e in
    let parts = parts_were line one.0 one.1 in
    let formed = formed_was one.0.0 one.0.1 one.0.2 row one.2 in
    let place = one.0.2 in
    let new = made one.0.0 one.0.1 place.tag place.name place.kept in
    let is : IsInfoRow new = record {
      bytes_fit = parts.bytes;
      calls_fit = parts.calls;
      tag_formed = record { file = formed.file; line = parts.place.line; function = formed.function };
      module_formed = formed.name;
      kept_module = parts.place.named;
    } in
    let word = parts.place.word in
    let whole : line ≡ line_around new word =
    parts.spells ∙ ap (λ t. right BYTES_PLACES (signed_text one.0.0) ++ 32 ∷ (right CALLS_PLACES (decimal one.0.1) ++ 32 ∷ t)) parts.place.spells in
    subst (λ r. IsLineOf r line) formed.is (record {
      is_row = is;
      spells =
          ⊎_elim
          (λ (plain : word ≡ place.tag.function). inl (whole ∙ ap (line_around new) plain ∙ sym (line_plain new parts.place.named)))
          (λ (spaced : word ≡ place.tag.function ++ codes " "). inr (whole ∙ ap (line_around new) spaced ∙ sym (line_spaced new parts.place.named)))
          (last_printed word place.tag.function parts.place.last);
    })
