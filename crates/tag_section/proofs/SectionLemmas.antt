-- The facts of sections after a section or a tag was put at the end.
use Rattle.std.proofs.Common.{◌≡◌, ◌≢◌, ℕ, ◌+◌, ◌<◌, ◌≤◌, List, [], ◌∷◌, length, set, refl, sym, ap, ◌∙◌, subst, arith, ⊎_elim, length-append, Option, Some, None, IsNone, Vec, Global}
use Rattle.std.specs.BTreeMap.{BTreeMap, Updates}
use Rattle.std.proofs.lemmas.List.{get_or_append_left, get_or-append-add, length-set, get_or-set_same, get_or-set_other}
use Rattle.std.proofs.lemmas.Bool.{cases_lt, cases_eq}
use Rattle.tag_section.specs.ModuleName.{kernel_name, IsModuleName}
use Rattle.tag_section.specs.Section.{Section, no_section, section_at, with_section, number_of, section_limit, tag_limit, AreSections, MayBegin}
use Rattle.tag_section.specs.Numbers.{AreNumbers}
use Rattle.tag_section.proofs.Names.{number_none, number_of-with_section, number_of-set}
use Rattle.tag_section.proofs.NumberLemmas.{name_cmp, number_at-updates}

module _ (sections : List Section) (name : List ℕ) where
  at_old : (k : ℕ) → k < length sections → section_at (with_section sections name) k ≡ section_at sections k
  at_old k l = get_or_append_left sections (record { name = name; tags = [] } ∷ []) no_section k l

  at_new : (k : ℕ) → k ≡ length sections → section_at (with_section sections name) k ≡ record { name = name; tags = [] }
  at_new k e =
      let place : k ≡ length sections + 0 = omega arith in
      ap (section_at (with_section sections name)) place ∙ get_or-append-add sections (record { name = name; tags = [] } ∷ []) 0 no_section

  long : length (with_section sections name) ≡ length sections + 1
  long = length-append sections (record { name = name; tags = [] } ∷ [])

  -- a section of a new name at the end
  pub AreSections-with_section : AreSections sections → length sections < section_limit
      → (length sections ≡ 0 → name ≡ kernel_name) → (0 < length sections → IsModuleName name)
      → ((k : ℕ) → k < length sections → (section_at sections k).name ≢ name)
      → AreSections (with_section sections name)
  AreSections-with_section old room kernel module_name new = record {
    few = omega (arith, long);
    kernel_first = λ _.
        ⊎_elim
        (λ some. ap (λ (s : Section). s.name) (at_old 0 some) ∙ old.kernel_first some)
        (λ none. ap (λ (s : Section). s.name) (at_new 0 (omega arith)) ∙ kernel (omega arith))
        (cases_lt 0 (length sections));
    modules_after = λ k after below.
        ⊎_elim
        (λ l. subst (λ (s : Section). IsModuleName s.name) (sym (at_old k l)) (old.modules_after k after l))
        (λ l. subst (λ (s : Section). IsModuleName s.name) (sym (at_new k (omega (arith, long)))) (module_name (omega (arith, long))))
        (cases_lt k (length sections));
    apart = λ j k before below.
        ⊎_elim
        (λ l. rw (at_old j (omega arith), at_old k l) (old.apart j k before l))
        (λ l. rw (at_old j (omega (arith, long)), at_new k (omega (arith, long))) (new j (omega (arith, long))))
        (cases_lt k (length sections));
    within_limits = λ k below.
        ⊎_elim
        (λ l. rw (at_old k l) (old.within_limits k l))
        (λ l. rw (at_new k (omega (arith, long))) (omega arith))
        (cases_lt k (length sections));
  }

-- another section of the same name, and of a fitting length, in a section's place
pub AreSections-set : (sections : List Section) (n : ℕ) (new : Section) → AreSections sections → n < length sections
    → new.name ≡ (section_at sections n).name → length new.tags ≤ tag_limit n
    → AreSections (set sections n new)
AreSections-set sections n new old below same fits =
    let long = length-set sections n new in
    let name_at : (k : ℕ) → (section_at (set sections n new) k).name ≡ (section_at sections k).name = λ k.
    ⊎_elim
    (λ e. subst (λ j. (section_at (set sections n new) j).name ≡ (section_at sections j).name) (sym e)
    (ap (λ (s : Section). s.name) (get_or-set_same sections n new no_section below) ∙ same))
    (λ differs. ap (λ (s : Section). s.name) (get_or-set_other sections n k new no_section differs))
    (cases_eq k n) in
    record {
      few = omega (arith, long, old.few);
      kernel_first = λ some. name_at 0 ∙ old.kernel_first (omega (arith, long));
      modules_after = λ k after l. subst IsModuleName (sym (name_at k)) (old.modules_after k after (omega (arith, long)));
      apart = λ j k before l equal. old.apart j k before (omega (arith, long)) (sym (name_at j) ∙ (equal ∙ name_at k));
      within_limits = λ k l.
          ⊎_elim
          (λ e. subst (λ j. length (section_at (set sections n new) j).tags ≤ tag_limit j) (sym e)
          (subst (λ (s : Section). length s.tags ≤ tag_limit n) (sym (get_or-set_same sections n new no_section below)) fits))
          (λ differs. subst (λ (s : Section). length s.tags ≤ tag_limit k) (sym (get_or-set_other sections n k new no_section differs))
          (old.within_limits k (omega (arith, long))))
          (cases_eq k n);
    }

none_from : (r : Option ℕ) → IsNone r → r ≡ None
none_from None h = refl
none_from (Some n) h = absurd (cc h)

-- a name that may begin a section has no number
pub number_of-MayBegin : (sections : List Section) (name : List ℕ) → MayBegin sections name → number_of sections name ≡ None
number_of-MayBegin [] name may = refl
number_of-MayBegin (first ∷ others) name may = none_from (number_of (first ∷ others) name) may.1

-- a section whose name may begin one
pub AreSections-MayBegin : (sections : List Section) (name : List ℕ) → AreSections sections → MayBegin sections name
    → AreSections (with_section sections name)
AreSections-MayBegin [] name old may =
    AreSections-with_section [] name old (omega arith) (λ _. may) (λ l. absurd (omega arith)) (number_none [] name (number_of-MayBegin [] name may))
AreSections-MayBegin (first ∷ others) name old may =
    AreSections-with_section (first ∷ others) name old may.2 (λ e. absurd (omega arith)) (λ _. may.0)
    (number_none (first ∷ others) name (number_of-MayBegin (first ∷ others) name may))

-- the facts of the grown sections, and of the grown map
pub appended : (sections grown : List Section) (name : List ℕ) (old new : BTreeMap (Vec ℕ Global) ℕ) (key : Vec ℕ Global) (number : ℕ)
    → AreSections sections → AreNumbers old sections → MayBegin sections name
    → grown ≡ with_section sections name → key.items ≡ name → number ≡ length sections
    → Updates name_cmp old new key (Some number)
    → AreSections grown × AreNumbers new grown
appended sections grown name old new key number formed numbered may is_grown is_name is_number changed = (
  subst AreSections (sym is_grown) (AreSections-MayBegin sections name formed may),
  λ other.
      number_at-updates old new key (Some number) changed other
      ∙ (rw (is_name, is_number, numbered other) refl
      ∙ (sym (number_of-with_section sections name other (number_of-MayBegin sections name may))
      ∙ ap (λ s. number_of s other) (sym is_grown))),
)

-- the same after another section in a section's place
pub replaced : (sections : List Section) (n : ℕ) (new : Section) (numbers : BTreeMap (Vec ℕ Global) ℕ)
    → AreSections sections → AreNumbers numbers sections → n < length sections
    → new.name ≡ (section_at sections n).name → length new.tags ≤ tag_limit n
    → AreSections (set sections n new) × AreNumbers numbers (set sections n new)
replaced sections n new numbers formed numbered below same fits = (
  AreSections-set sections n new formed below same fits,
  λ name. numbered name ∙ sym (number_of-set sections n new same name),
)
