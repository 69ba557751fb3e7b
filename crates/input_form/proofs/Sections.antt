-- What a section or a tag more is, by what `Sections` and `CodeTag` say of it.
use Rattle.std.proofs.Common.{◌≡◌, ℕ, ◌-◌, ◌<◌, ◌≤◌, Bool, true, false, not, eqb, List, [], ◌∷◌, length, Option, Some, None, is_none, Result, Ok, Err, unwrap_or, IsSome, IsNone, IfSome, ap, ◌∙◌, arith}
use Rattle.std.proofs.lemmas.Bool.{false_from_ne_true, eqb-true, eq-eqb}
use Rattle.codetag.specs.Names.{is_file, is_function, IsFile, IsLine, IsFunction}
use Rattle.codetag.specs.TagParts.{TagParts}
use Rattle.tag_section.specs.ModuleName.{is_module_name, IsModuleName}
use Rattle.tag_section.specs.Section.{Section, section_at, number_of, with_section, with_tag, tag_limit, MayBegin}
use Rattle.input_form.specs.declared.code.Code.{Code}
use Rattle.input_form.specs.declared.code.Code.TheVariants as code
use Rattle.input_form.specs.Judging.{◌>>◌, need}
use Rattle.input_form.specs.Head.{begun, added, tag_of}

-- a check that holds, and one that fails
pub need_yes : {A : Type 0} (b : Bool) (c : Code) (r : Result A Code) → b ≡ true → (need b c >> r) ≡ r
need_yes {A} b c r e = ap (λ t. need t c >> r) e

pub need_no : {A : Type 0} (b : Bool) (c : Code) (r : Result A Code) → b ≡ false → (need b c >> r) ≡ Err c
need_no {A} b c r e = ap (λ t. need t c >> r) e

unequal : (m n : ℕ) → (m ≡ n → ⊥) → not (eqb m n) ≡ true
unequal m n h = ap not (false_from_ne_true (eqb m n) (λ e. h (eqb-true m n e)))

equal : (m n : ℕ) → m ≡ n → not (eqb m n) ≡ false
equal m n h = ap not (eq-eqb m n h)

pub begun_ok : (name : List ℕ) (sections : List Section) → 0 < length sections → MayBegin sections name → begun name sections ≡ Ok (with_section sections name)
unfolding begun
begun_ok name [] some may = absurd (omega arith)
begun_ok name (s ∷ ss) some may =
    need_yes (is_module_name name) code.Name _ may.0
    ∙ need_yes (is_none (number_of (s ∷ ss) name)) code.Name _ (ap not may.1)
    ∙ need_yes _ code.Sections _ (unequal (length (s ∷ ss)) 65 (λ e. omega (arith, may.2)))

pub begun_bad : (name : List ℕ) (sections : List Section) → (IsModuleName name → ⊥) → begun name sections ≡ Err code.Name
unfolding begun
begun_bad name sections bad = need_no (is_module_name name) code.Name _ (false_from_ne_true _ bad)

pub begun_same : (name : List ℕ) (sections : List Section) → IsModuleName name → IsSome (number_of sections name) → begun name sections ≡ Err code.Name
unfolding begun
begun_same name sections formed same =
    need_yes (is_module_name name) code.Name _ formed ∙ need_no (is_none (number_of sections name)) code.Name _ (ap not same)

pub begun_many : (name : List ℕ) (sections : List Section) → length sections ≡ 65 → IsModuleName name → IsNone (number_of sections name) → begun name sections ≡ Err code.Sections
unfolding begun
begun_many name sections many formed new =
    need_yes (is_module_name name) code.Name _ formed
    ∙ need_yes (is_none (number_of sections name)) code.Name _ (ap not new)
    ∙ need_no _ code.Sections _ (equal (length sections) 65 many)

pub added_ok : (tag : TagParts) (sections : List Section) → (length (section_at sections (length sections - 1)).tags ≡ tag_limit (length sections - 1) → ⊥) → added tag sections ≡ Ok (with_tag sections tag)
unfolding added
added_ok tag sections room = need_yes _ code.Tags _ (unequal _ _ room)

pub added_many : (tag : TagParts) (sections : List Section) → length (section_at sections (length sections - 1)).tags ≡ tag_limit (length sections - 1) → added tag sections ≡ Err code.Tags
unfolding added
added_many tag sections full = need_no _ code.Tags _ (equal _ _ full)

pub tag_of_ok : (file function : List ℕ) (number : Option ℕ) → IsFile file → IsLine (unwrap_or number 0) → IsFunction function → tag_of file number function ≡ Ok (record { file = file; line = unwrap_or number 0; function = function })
unfolding tag_of
tag_of_ok file function None f l g = absurd (omega arith)
tag_of_ok file function (Some n) f l g = need_yes (is_file file) code.File _ f ∙ need_yes (is_function function) code.Function _ g

pub tag_of_bad_file : (file function : List ℕ) (number : Option ℕ) → (IsFile file → ⊥) → tag_of file number function ≡ Err code.File
unfolding tag_of
tag_of_bad_file file function number bad = need_no (is_file file) code.File _ (false_from_ne_true _ bad)

pub tag_of_bad_line : (file function : List ℕ) (number : Option ℕ) → IfSome number (λ n. (1 ≤ n) × (n ≤ 4294967295)) → IsFile file → (IsLine (unwrap_or number 0) → ⊥) → tag_of file number function ≡ Err code.Number
unfolding tag_of
tag_of_bad_line file function None range f bad = need_yes (is_file file) code.File _ f
tag_of_bad_line file function (Some n) range f bad = absurd (bad range)

pub tag_of_bad_function : (file function : List ℕ) (number : Option ℕ) → IsFile file → IsLine (unwrap_or number 0) → (IsFunction function → ⊥) → tag_of file number function ≡ Err code.Function
unfolding tag_of
tag_of_bad_function file function None f l bad = absurd (omega arith)
tag_of_bad_function file function (Some n) f l bad = need_yes (is_file file) code.File _ f ∙ need_no (is_function function) code.Function _ (false_from_ne_true _ bad)
