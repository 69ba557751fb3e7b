-- The text of a tag and its module, read and printed.
use Rattle.std.proofs.Common.{◌≡◌, ℕ, ◌^◌, ◌<◌, ◌≤◌, Bool, true, false, cond, List, [], ◌∷◌, ◌++◌, Option, Some, None, IsSome, IfSome, codes, unwrap_or, refl, ap, ◌∙◌, subst, arith, append_assoc}
use Rattle.std.specs.Fmt.{decimal}
use Rattle.std.specs.Option.{option_and_then}
use Rattle.codetag.specs.TagParts.{TagParts, IsFormed, tag_text, kept_text}
use Rattle.tag_section.specs.ModuleName.{IsModuleName}
use Rattle.text_form.specs.Numbers.{number_in}
use Rattle.info_read.specs.Cuts.{cut, after_word}
use Rattle.info_read.specs.Place.{Place, bracket_of, last_word, place_of}
use Rattle.info_read.proofs.CutLemmas.{then_parts, then_some, cut_joined, cut_splits, word_joined}
use Rattle.info_read.proofs.LacksLemmas.{lacks_file, file_colon}
use Rattle.info_read.proofs.NumberLemmas.{lacks_decimal, number_in_decimal, decimal_of_number_in}
use Rattle.info_read.proofs.PlaceLemmas.{bracket_text, bracket_read, bracket_absent, bracket_printed}

-- the text of a tag, with the word that its line ends with
abbrev pub around : TagParts → Option (List ℕ) → Bool → List ℕ → List ℕ
around tag name kept word = tag.file ++ 58 ∷ (decimal tag.line ++ 32 ∷ (bracket_text name kept ++ (codes "func:" ++ word)))

-- what is printed of a tag
abbrev pub printed : TagParts → Option (List ℕ) → Bool → List ℕ
printed tag name kept = cond kept (kept_text tag (unwrap_or name [])) (tag_text tag name)

pub printed_around : (tag : TagParts) (name : Option (List ℕ)) (kept : Bool) (ending : List ℕ) → (kept ≡ true → IsSome name)
    → printed tag name kept ++ ending ≡ around tag name kept (tag.function ++ ending)
unfolding kept_text tag_text
printed_around tag None true ending named = let no : ⊥ = cc (named refl) in absurd no
printed_around tag (Some name) true ending named = simp append_assoc
printed_around tag None false ending named = simp append_assoc
printed_around tag (Some name) false ending named = simp append_assoc

bracket_all : (name : Option (List ℕ)) (kept : Bool) (word : List ℕ) → IfSome name IsModuleName → (kept ≡ true → IsSome name)
    → bracket_of (bracket_text name kept ++ (codes "func:" ++ word)) ≡ Some (record { name = name; kept = kept; rest = codes "func:" ++ word })
bracket_all None true word formed named = let no : ⊥ = cc (named refl) in absurd no
bracket_all None false word formed named = bracket_absent word
bracket_all (Some name) kept word formed named = bracket_read name kept (codes "func:" ++ word) formed

pub place_read : (tag : TagParts) (name : Option (List ℕ)) (kept : Bool) (word : List ℕ) → IsFormed tag → IfSome name IsModuleName → (kept ≡ true → IsSome name) → last_word word ≡ Some tag.function
    → place_of (around tag name kept word) ≡ Some (record { tag = tag; name = name; kept = kept })
unfolding place_of
place_read tag name kept word formed named_well named last =
    let rest = bracket_text name kept ++ (codes "func:" ++ word) in
    let small : tag.line < 2 ^ 64 = omega (arith, formed.line.1) in
    then_some _ (cut 58 (around tag name kept word)) (tag.file, decimal tag.line ++ 32 ∷ rest) _ (cut_joined 58 tag.file (decimal tag.line ++ 32 ∷ rest) (lacks_file 58 tag.file file_colon formed.file))
    (then_some _ (cut 32 (decimal tag.line ++ 32 ∷ rest)) (decimal tag.line, rest) _ (cut_joined 32 (decimal tag.line) rest (lacks_decimal 32 tag.line (λ h. omega arith) small))
    (then_some _ (number_in 1 4294967295 (decimal tag.line)) tag.line _ (number_in_decimal 1 4294967295 tag.line small formed.line.0 formed.line.1)
    (then_some _ (bracket_of rest) (record { name = name; kept = kept; rest = codes "func:" ++ word }) _ (bracket_all name kept word named_well named)
    (ap (option_and_then (λ function. Some (let place : Place = record { tag = record { file = tag.file; line = tag.line; function = function }; name = name; kept = kept } in place))) last))))

-- what a text was from which a place was read
pub record WasPlace (text : List ℕ) (place : Place) : Type 0 where
  pub word : List ℕ
  pub spells : text ≡ around place.tag place.name place.kept word
  pub last : last_word word ≡ Some place.tag.function
  pub line : (1 ≤ place.tag.line) × (place.tag.line ≤ 4294967295)
  pub named : place.kept ≡ true → IsSome place.name

pub place_printed : (text : List ℕ) (place : Place) → place_of text ≡ Some place → WasPlace text place
unfolding place_of
place_printed text place e =
    let one = then_parts _ (cut 58 text) place e in
    let two = then_parts _ (cut 32 one.0.1) place one.2 in
    let three = then_parts _ (number_in 1 4294967295 two.0.0) place two.2 in
    let four = then_parts _ (bracket_of two.0.1) place three.2 in
    let five = then_parts _ (after_word (codes "func:") four.0.rest) place four.2 in
    let six = then_parts _ (last_word five.0) place five.2 in
    let made : Place = record { tag = record { file = one.0.0; line = three.0; function = six.0 }; name = four.0.name; kept = four.0.kept } in
    let is : made ≡ place = cc (six.2) in
    let number = decimal_of_number_in 1 4294967295 three.0 two.0.0 (omega arith) three.1 in
    let bracket = bracket_printed two.0.1 four.0 four.1 in
    let whole : text ≡ around made.tag made.name made.kept five.0 =
    cut_splits 58 text one.0 one.1
    ∙ ap (λ t. one.0.0 ++ 58 ∷ t) (cut_splits 32 one.0.1 two.0 two.1
    ∙ ap (λ t. t ++ 32 ∷ two.0.1) number.0
    ∙ ap (λ t. decimal three.0 ++ 32 ∷ t) (bracket.spells ∙ ap (λ t. bracket_text four.0.name four.0.kept ++ t) (word_joined (codes "func:") four.0.rest five.0 five.1))) in
    subst (WasPlace text) is (record { word = five.0; spells = whole; last = six.1; line = (number.1, number.2); named = bracket.has_name })
