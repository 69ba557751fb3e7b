-- The text of a tag, read and printed.
use Rattle.std.proofs.Common.{◌≡◌, ℕ, ◌⊎◌, inl, inr, Bool, true, false, eqb, List, [], ◌∷◌, ◌++◌, length, Option, Some, None, IsSome, codes, refl, sym, ap, ◌∙◌, subst, arith, append_assoc}
use Rattle.std.specs.Option.{option_and_then}
use Rattle.std.specs.Str.{bytes_eq}
use Rattle.std.proofs.lemmas.Bool.{cond_both, eqb-true, and_parts}
use Rattle.tag_section.specs.ModuleName.{IsModuleName}
use Rattle.info_read.specs.Cuts.{cut, after_word}
use Rattle.info_read.specs.Place.{Bracket, label_parts, label_of, inside_of, bracket_from, bracket_of, last_from, last_word}
use Rattle.info_read.proofs.CutLemmas.{Lacks, then_parts, cut_joined, cut_nowhere, cut_splits, word_joined}
use Rattle.info_read.proofs.LacksLemmas.{lacks_module, module_colon, module_bracket}

-- equal texts
pub same_bytes : (xs ys : List ℕ) → bytes_eq xs ys ≡ true → xs ≡ ys
same_bytes [] [] e = refl
same_bytes [] (y ∷ ys) e = let no : ⊥ = cc in absurd no
same_bytes (x ∷ xs) [] e = let no : ⊥ = cc in absurd no
same_bytes (x ∷ xs) (y ∷ ys) e =
    let parts = and_parts (eqb x y) (bytes_eq xs ys) e in
    ap (λ z. z ∷ xs) (eqb-true x y parts.0) ∙ ap (λ t. y ∷ t) (same_bytes xs ys parts.1)

-- a module's name, or a name and `:kept`
abbrev pub label_text : List ℕ → Bool → List ℕ
label_text name false = name
label_text name true = name ++ codes ":kept"

label_read : (name : List ℕ) (kept : Bool) → Lacks 58 name → label_of (label_text name kept) ≡ Some (name, kept)
unfolding label_of
label_read name false lacks = ap (label_parts name) (cut_nowhere 58 name lacks)
label_read name true lacks = ap (label_parts (name ++ codes ":kept")) (cut_joined 58 name (codes "kept") lacks)

label_from : (label : List ℕ) (o : Option (List ℕ × List ℕ)) (p : List ℕ × Bool) → cut 58 label ≡ o → label_parts label o ≡ Some p → label ≡ label_text p.0 p.1
label_from label None p at e =
    let is : ◌≡◌ {A = List ℕ × Bool} (label, false) p = cc in
    subst (λ (q : List ℕ × Bool). label ≡ label_text q.0 q.1) is refl
label_from label (Some parts) p at e =
    cond_both (bytes_eq parts.1 (codes "kept")) (Some (parts.0, true)) None (λ r. r ≡ Some p → label ≡ label_text p.0 p.1)
    (λ yes h.
    let is : ◌≡◌ {A = List ℕ × Bool} (parts.0, true) p = cc in
    subst (λ (q : List ℕ × Bool). label ≡ label_text q.0 q.1) is
    (cut_splits 58 label parts at ∙ ap (λ t. parts.0 ++ 58 ∷ t) (same_bytes parts.1 (codes "kept") yes)))
    (λ _ h. let no : ⊥ = cc in absurd no)
    e

label_printed : (label : List ℕ) (p : List ℕ × Bool) → label_of label ≡ Some p → label ≡ label_text p.0 p.1
unfolding label_of
label_printed label p e = label_from label (cut 58 label) p refl e

lacks_label : (name : List ℕ) (kept : Bool) → Lacks 93 name → Lacks 93 (label_text name kept)
lacks_label name false lacks = lacks
lacks_label [] true lacks = (refl, (refl, (refl, (refl, (refl, tt)))))
lacks_label (b ∷ bs) true lacks = (lacks.0, lacks_label bs true lacks.1)

-- the module in brackets and a space, or nothing
abbrev pub bracket_text : Option (List ℕ) → Bool → List ℕ
bracket_text None kept = []
bracket_text (Some name) kept = 91 ∷ (label_text name kept ++ 93 ∷ 32 ∷ [])

pub bracket_read : (name : List ℕ) (kept : Bool) (rest : List ℕ) → IsModuleName name → bracket_of (bracket_text (Some name) kept ++ rest) ≡ Some (record { name = Some name; kept = kept; rest = rest })
unfolding bracket_of inside_of
bracket_read name kept rest formed =
    let lacks = lacks_label name kept (lacks_module 93 name module_bracket formed) in
    let joined : (label_text name kept ++ 93 ∷ 32 ∷ []) ++ rest ≡ label_text name kept ++ 93 ∷ 32 ∷ rest = append_assoc (label_text name kept) (93 ∷ 32 ∷ []) rest in
    ap inside_of joined
    ∙ ap (option_and_then (λ (parts : List ℕ × List ℕ).
    option_and_then (λ (label : List ℕ × Bool).
    option_and_then (λ (rest : List ℕ). Some (let b : Bracket = record { name = Some label.0; kept = label.1; rest = rest } in b))
    (after_word (codes " ") parts.1))
    (label_of parts.0)))
    (cut_joined 93 (label_text name kept) (32 ∷ rest) lacks)
    ∙ ap (option_and_then (λ (label : List ℕ × Bool). Some (let b : Bracket = record { name = Some label.0; kept = label.1; rest = rest } in b)))
    (label_read name kept (lacks_module 58 name module_colon formed))

pub bracket_absent : (rest : List ℕ) → bracket_of (codes "func:" ++ rest) ≡ Some (record { name = None; kept = false; rest = codes "func:" ++ rest })
unfolding bracket_of
bracket_absent rest = refl

-- what a bracket that was read spells
pub record IsBracket (text : List ℕ) (b : Bracket) : Type 0 where
  pub spells : text ≡ bracket_text b.name b.kept ++ b.rest
  pub has_name : b.kept ≡ true → IsSome b.name

inside_printed : (inside : List ℕ) (b : Bracket) → inside_of inside ≡ Some b → IsBracket (91 ∷ inside) b
unfolding inside_of
inside_printed inside b e =
    let one = then_parts _ (cut 93 inside) b e in
    let two = then_parts _ (label_of one.0.0) b one.2 in
    let three = then_parts _ (after_word (codes " ") one.0.1) b two.2 in
    let made : Bracket = record { name = Some two.0.0; kept = two.0.1; rest = three.0 } in
    let is : made ≡ b = cc (three.2) in
    let whole : inside ≡ label_text two.0.0 two.0.1 ++ 93 ∷ 32 ∷ three.0 =
    cut_splits 93 inside one.0 one.1
    ∙ ap (λ t. t ++ 93 ∷ one.0.1) (label_printed one.0.0 two.0 two.1)
    ∙ ap (λ t. label_text two.0.0 two.0.1 ++ 93 ∷ t) (word_joined (codes " ") one.0.1 three.0 three.1) in
    let regroup : (label_text two.0.0 two.0.1 ++ 93 ∷ 32 ∷ []) ++ three.0 ≡ label_text two.0.0 two.0.1 ++ 93 ∷ 32 ∷ three.0 = append_assoc (label_text two.0.0 two.0.1) (93 ∷ 32 ∷ []) three.0 in
    subst (IsBracket (91 ∷ inside)) is (record { spells = ap (λ t. 91 ∷ t) (whole ∙ sym regroup); has_name = λ _. refl })

bracket_by : (text : List ℕ) (o : Option (List ℕ)) (b : Bracket) → after_word (codes "[") text ≡ o → bracket_from text o ≡ Some b → IsBracket text b
bracket_by text None b at e =
    let made : Bracket = record { name = None; kept = false; rest = text } in
    let is : made ≡ b = cc e in
    subst (IsBracket text) is (record { spells = refl; has_name = λ yes. let no : ⊥ = cc yes in absurd no })
bracket_by text (Some inside) b at e =
    subst (λ t. IsBracket t b) (sym (word_joined (codes "[") text inside at)) (inside_printed inside b e)

pub bracket_printed : (text : List ℕ) (b : Bracket) → bracket_of text ≡ Some b → IsBracket text b
unfolding bracket_of
bracket_printed text b e = bracket_by text (after_word (codes "[") text) b refl e

-- the last word
pub last_read : (word : List ℕ) → Lacks 32 word → last_word word ≡ Some word
unfolding last_word
last_read word lacks = ap (last_from word) (cut_nowhere 32 word lacks)

pub last_read_space : (word : List ℕ) → Lacks 32 word → last_word (word ++ codes " ") ≡ Some word
unfolding last_word
last_read_space word lacks = ap (last_from (word ++ codes " ")) (cut_joined 32 word [] lacks)

-- no bytes
pub no_bytes : (xs : List ℕ) → eqb (length xs) 0 ≡ true → xs ≡ []
no_bytes [] e = refl
no_bytes (x ∷ xs) e = absurd (omega (arith, eqb-true (length (x ∷ xs)) 0 e))

last_by : (text : List ℕ) (o : Option (List ℕ × List ℕ)) (word : List ℕ) → cut 32 text ≡ o → last_from text o ≡ Some word → (text ≡ word) ⊎ (text ≡ word ++ codes " ")
last_by text None word at e = inl cc
last_by text (Some parts) word at e =
    cond_both (eqb (length parts.1) 0) (Some parts.0) None (λ r. r ≡ Some word → (text ≡ word) ⊎ (text ≡ word ++ codes " "))
    (λ none h.
    let is : parts.0 ≡ word = cc in
    inr (cut_splits 32 text parts at ∙ ap (λ t. t ++ 32 ∷ parts.1) is ∙ ap (λ t. word ++ 32 ∷ t) (no_bytes parts.1 none)))
    (λ _ h. let no : ⊥ = cc in absurd no)
    e

pub last_printed : (text word : List ℕ) → last_word text ≡ Some word → (text ≡ word) ⊎ (text ≡ word ++ codes " ")
unfolding last_word
last_printed text word e = last_by text (cut 32 text) word refl e
