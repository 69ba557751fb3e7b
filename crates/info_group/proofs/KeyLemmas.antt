-- Module keys tell modules apart.
use Rattle.std.proofs.Common.{◌≡◌, ◌↔◌, ℕ, Bool, true, false, not, ◌&&◌, leb, List, [], ◌∷◌, ◌++◌, length, Option, Some, None, IfSome, IsSome, IsTrue, codes, refl, sym, ap, ◌∙◌, subst}
use Rattle.std.specs.Cmp.Lexicographic.{nat_list_eq_equiv}
use Rattle.std.specs.List.{list_all}
use Rattle.std.specs.Str.{bytes_eq}
use Rattle.std.proofs.lemmas.Bool.{and_parts}
use Rattle.std.proofs.lemmas.Option.{same_Some}
use Rattle.tag_section.specs.ModuleName.{IsModuleName, is_module_byte, is_module_name, kernel_name}
use Rattle.tag_section.specs.declared.module_name.TheConstants.{NAME_LIMIT}
use Rattle.info_read.specs.declared.row.InfoRow.{InfoRow}
use Rattle.info_read.specs.Cuts.{cut}
use Rattle.info_read.specs.Grammar.{IsInfoRow}
use Rattle.info_read.specs.Place.{Bracket, bracket_of}
use Rattle.info_read.proofs.CutLemmas.{cut_joined}
use Rattle.info_read.proofs.LacksLemmas.{lacks_module, module_colon}
use Rattle.info_read.proofs.PlaceLemmas.{bracket_read, label_text}
use Rattle.info_group.specs.Keys.{label_of, module_key}

spelled : (name : List ℕ) (kept : Bool) → label_of (Some name) kept ≡ label_text name kept
spelled name false = refl
spelled name true = refl

-- no module is the kernel
kernel_apart : (name : List ℕ) (kept : Bool) → IsModuleName name → kernel_name ≡ label_text name kept → ⊥
unfolding is_module_name
kernel_apart name false formed same =
    let other = (and_parts (leb 1 (length name) && leb (length name) NAME_LIMIT && list_all is_module_byte name) (not (bytes_eq name kernel_name)) formed).1 in
    let itself : bytes_eq name kernel_name ≡ true = subst (λ n. bytes_eq n kernel_name ≡ true) same (nat_list_eq_equiv.refl kernel_name) in
    let no : ⊥ = cc (other, itself) in
    no
kernel_apart name true formed same =
    let joined : cut 58 kernel_name ≡ Some (name, codes "kept") = ap (cut 58) same ∙ cut_joined 58 name (codes "kept") (lacks_module 58 name module_colon formed) in
    let no : ⊥ = cc joined in
    no

same_label : (one other : Option (List ℕ)) (kept also : Bool) → IfSome one IsModuleName → IfSome other IsModuleName
    → (IsTrue kept → IsSome one) → (IsTrue also → IsSome other) → label_of one kept ≡ label_of other also → (one ≡ other) × (kept ≡ also)
same_label None None false false formed well named has same = (refl, refl)
same_label None None true also formed well named has same = let no : ⊥ = cc (named refl) in absurd no
same_label None None false true formed well named has same = let no : ⊥ = cc (has refl) in absurd no
same_label None (Some name) kept also formed well named has same = absurd (kernel_apart name also well (same ∙ spelled name also))
same_label (Some name) None kept also formed well named has same = absurd (kernel_apart name kept formed (sym same ∙ spelled name kept))
same_label (Some one) (Some other) kept also formed well named has same =
    let texts : label_text one kept ≡ label_text other also = sym (spelled one kept) ∙ (same ∙ spelled other also) in
    let first : Bracket = record { name = Some one; kept = kept; rest = [] } in
    let second : Bracket = record { name = Some other; kept = also; rest = [] } in
    let read : Some first ≡ Some second =
    sym (bracket_read one kept [] formed) ∙ (ap (λ t. bracket_of ((91 ∷ (t ++ 93 ∷ 32 ∷ [])) ++ [])) texts ∙ bracket_read other also [] well) in
    let same_bracket = same_Some first second read in
    (ap (λ (b : Bracket). b.name) same_bracket, ap (λ (b : Bracket). b.kept) same_bracket)

pub same_module_key : (one other : InfoRow) → IsInfoRow one → IsInfoRow other
    → (module_key one ≡ module_key other) ↔ ((one.module ≡ other.module) × (one.kept ≡ other.kept))
same_module_key one other formed well = (
  same_label one.module other.module one.kept other.kept formed.module_formed well.module_formed formed.kept_module well.kept_module,
  λ same i. label_of (same.0 i) (same.1 i),
)
