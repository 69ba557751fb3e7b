-- What holds of the sizes and the sections that the lines before the body give.
use Rattle.std.proofs.Common.{◌≡◌, ◌≢◌, ℕ, ◌+◌, ◌-◌, ◌<◌, ◌≤◌, Bool, true, false, not, ◌&&◌, ltb, eqb, List, [], ◌∷◌, ◌++◌, length, is_none, Option, Some, None, unwrap_or, Result, Ok, IfOk, IfSome, ◌⊎◌, inl, inr, refl, sym, subst, arith, ⊎_elim, length-append}
use Rattle.std.proofs.lemmas.Bool.{and_parts, ltb-true, not-true, eqb-true, eqb-false, cases_lt}
use Rattle.std.proofs.lemmas.List.{get_or_append_left, length-set, get_or-set_other}
use Rattle.codetag.specs.TagParts.{TagParts}
use Rattle.tag_section.proofs.SectionLemmas.{AreSections-MayBegin, AreSections-set}
use Rattle.tag_section.specs.ModuleName.{kernel_name, is_module_name}
use Rattle.tag_section.specs.Section.{Section, no_section, section_at, number_of, with_section, tag_limit, AreSections, MayBegin}
use Rattle.text_form.specs.Words.{words_of, word_at}
use Rattle.input_form.specs.declared.code.Code.{Code}
use Rattle.input_form.specs.declared.code.Code.TheVariants as code
use Rattle.input_form.specs.declared.head.Head.{Head}
use Rattle.input_form.specs.declared.head.HeadWord.{HeadWord}
use Rattle.input_form.specs.declared.head.HeadWord.TheVariants as word
use Rattle.input_form.specs.declared.head.Size.{Size}
use Rattle.input_form.specs.declared.head.Size.TheVariants as size
use Rattle.input_form.specs.Head.{least, most, size_in, with_size, with_sections, size_line, kernel_line, section_form, begun, module_line, tag_of, added, tag_line, head_line, cpus_of, empty_head, AreTagged}
use Rattle.input_form.proofs.Judged.{bound, given, passed, checked, checks, weaker}
use Rattle.input_form.proofs.WordForm.{number_word_in}

-- sections of which the last alone may be without a tag
pub record AreOpen (sections : List Section) : Type 0 where
  pub are : AreSections sections
  pub tagged : (k : ℕ) → k + 1 < length sections → 0 < length (section_at sections k).tags

-- sizes in their ranges, and sections
pub record IsHead (head : Head) : Type 0 where
  pub cpus : IfSome head.cpus (λ n. (1 ≤ n) × (n ≤ 64))
  pub area : IfSome head.area (λ n. n ≤ 896)
  pub frames : IfSome head.frames (λ n. (1 ≤ n) × (n ≤ 1024))
  pub vectors : IfSome head.vectors (λ n. n ≤ 64)
  pub open_sections : AreOpen head.sections

-- there is a section, and each has a tag
abbrev pub AreClosed : List Section → Type 0
AreClosed sections = (0 < length sections) × AreTagged sections

-- no section yet
pub AreOpen-nil : AreOpen []
AreOpen-nil = record {
  are = record {
    few = omega arith;
    kernel_first = λ some. absurd (omega arith);
    modules_after = λ k after below. absurd (omega arith);
    apart = λ j k before below. absurd (omega arith);
    within_limits = λ k below. absurd (omega arith);
  };
  tagged = λ k below. absurd (omega arith);
}

pub IsHead-empty : IsHead empty_head
IsHead-empty = record { cpus = tt; area = tt; frames = tt; vectors = tt; open_sections = AreOpen-nil }

-- once the last section has a tag too
all_tagged : (sections : List Section) → AreOpen sections → 0 < length sections → 0 < length (section_at sections (length sections - 1)).tags → AreTagged sections
all_tagged sections is some last k below =
    ⊎_elim
    (λ l. is.tagged k l)
    (λ l. let place : length sections - 1 ≡ k = omega arith in subst (λ n. 0 < length (section_at sections n).tags) place last)
    (cases_lt (k + 1) (length sections))

pub section_form_in : (sections : List Section) → AreOpen sections → IfOk (section_form sections) (λ _. AreClosed sections)
unfolding section_form
section_form_in sections is =
    checked (λ _. AreClosed sections) (ltb 0 (length sections)) code.Order _
    (λ some. checks (ltb 0 (length (section_at sections (length sections - 1)).tags)) code.Empty
    (λ tagged. (ltb-true _ _ some, all_tagged sections is (ltb-true _ _ some) (ltb-true _ _ tagged))))

sized : (s : Size) (head : Head) (n : ℕ) → IsHead head → (least s ≤ n) × (n ≤ most s) → IsHead (with_size head s n)
sized size.Cpus head n is range = record { cpus = range; area = is.area; frames = is.frames; vectors = is.vectors; open_sections = is.open_sections }
sized size.Area head n is range = record { cpus = is.cpus; area = range.1; frames = is.frames; vectors = is.vectors; open_sections = is.open_sections }
sized size.Frames head n is range = record { cpus = is.cpus; area = is.area; frames = range; vectors = is.vectors; open_sections = is.open_sections }
sized size.Vectors head n is range = record { cpus = is.cpus; area = is.area; frames = is.frames; vectors = range.1; open_sections = is.open_sections }

-- a size stands before all sections
size_line_in : (s : Size) (line : List ℕ) (head : Head) → IsHead head → IfOk (size_line s line head) (λ new. IsHead new × (length head.sections ≡ 0))
unfolding size_line
size_line_in s line head is =
    let after : Head → Type 0 = λ new. IsHead new × (length head.sections ≡ 0) in
    checked after (eqb (length head.sections) 0) code.Order _
    (λ none. checked after (is_none (size_in head s)) code.Repeat _
    (λ _. checked after (eqb (length (words_of line)) 2) code.Word _
    (λ _. bound (λ n. (least s ≤ n) × (n ≤ most s)) after _ (λ n. Ok (with_size head s n)) (number_word_in (least s) (most s) (word_at line 1))
    (λ n range. (sized s head n is range, eqb-true _ _ none)))))

-- a section of a new name, after sections that have tags
begun_open : (name : List ℕ) (sections : List Section) → AreSections sections → AreTagged sections → MayBegin sections name → AreOpen (with_section sections name)
begun_open name sections is tagged may = record {
  are = AreSections-MayBegin sections name is may;
  tagged = λ k below.
      let inside : k < length sections = omega (arith, length-append sections (record { name = name; tags = [] } ∷ [])) in
      subst (λ (s : Section). 0 < length s.tags) (sym (get_or_append_left sections (record { name = name; tags = [] } ∷ []) no_section k inside)) (tagged k inside);
}

none_left : (sections : List Section) → length sections ≡ 0 → sections ≡ []
none_left [] h = refl
none_left (s ∷ ss) h = absurd (omega arith)

kernel_line_in : (line : List ℕ) (head : Head) → IsHead head → IfOk (kernel_line line head) (λ new. IsHead new × (length head.sections ≡ 0))
unfolding kernel_line
kernel_line_in line head is =
    let after : Head → Type 0 = λ new. IsHead new × (length head.sections ≡ 0) in
    checked after (eqb (length head.sections) 0) code.Order _
    (λ none. checked after (eqb (length (words_of line)) 1) code.Word _
    (λ _.
    let empty = eqb-true _ _ none in
    let first : AreOpen (with_section head.sections kernel_name) =
    subst (λ sections. AreOpen (with_section sections kernel_name)) (sym (none_left head.sections empty))
    (begun_open kernel_name [] AreOpen-nil.are (λ k below. absurd (omega arith)) refl) in
    (record { cpus = is.cpus; area = is.area; frames = is.frames; vectors = is.vectors; open_sections = first }, empty)))

may_begin : (name : List ℕ) (sections : List Section) → AreSections sections → 0 < length sections → is_module_name name ≡ true → is_none (number_of sections name) ≡ true → not (eqb (length sections) 65) ≡ true → MayBegin sections name
may_begin name [] is some formed new room = absurd (omega arith)
may_begin name (s ∷ ss) is some formed new room =
    let apart = eqb-false (length (s ∷ ss)) 65 (not-true _ room) in (formed, not-true _ new, omega (arith, is.few, apart))

begun_in : (name : List ℕ) (sections : List Section) → AreSections sections → AreClosed sections → IfOk (begun name sections) AreOpen
unfolding begun
begun_in name sections is closed =
    checked AreOpen (is_module_name name) code.Name _
    (λ formed. checked AreOpen (is_none (number_of sections name)) code.Name _
    (λ new. checked AreOpen (not (eqb (length sections) 65)) code.Sections _
    (λ room. begun_open name sections is closed.1 (may_begin name sections is closed.0 formed new room))))

sections_in : (Q : Type 0) (head : Head) (sections : Result (List Section) Code) → IsHead head → Q → IfOk sections AreOpen → IfOk (with_sections head sections) (λ new. IsHead new × Q)
sections_in Q head sections is q opened =
    bound AreOpen (λ new. IsHead new × Q) sections (λ new. Ok (record head { sections = new })) opened
    (λ new are. (record { cpus = is.cpus; area = is.area; frames = is.frames; vectors = is.vectors; open_sections = are }, q))

-- no module begins once the body has begun
module_line_in : (in_body : Bool) (line : List ℕ) (head : Head) → IsHead head → IfOk (module_line in_body line head) (λ new. IsHead new × (in_body ≡ false))
unfolding module_line
module_line_in in_body line head is =
    let after : Head → Type 0 = λ new. IsHead new × (in_body ≡ false) in
    checked after (not in_body) code.Order _
    (λ before. passed {Q = AreClosed head.sections} after (section_form head.sections) _ (section_form_in head.sections is.open_sections)
    (λ closed. checked after (eqb (length (words_of line)) 2) code.Word _
    (λ _. sections_in (in_body ≡ false) head (begun (word_at line 1) head.sections) is (not-true _ before)
    (begun_in (word_at line 1) head.sections is.open_sections.are closed))))

added_in : (tag : TagParts) (sections : List Section) → 0 < length sections → AreOpen sections → IfOk (added tag sections) AreOpen
unfolding added
added_in tag sections some is =
    let last : ℕ = length sections - 1 in
    let here : last < length sections = omega arith in
    let before : List TagParts = (section_at sections last).tags in
    let new : Section = record { name = (section_at sections last).name; tags = before ++ tag ∷ [] } in
    checked AreOpen (not (eqb (length before) (tag_limit last))) code.Tags _
    (λ room.
    let apart = eqb-false (length before) (tag_limit last) (not-true _ room) in
    let fits : length (before ++ tag ∷ []) ≤ tag_limit last = omega (arith, length-append before (tag ∷ []), is.are.within_limits last here, apart) in
    record {
      are = AreSections-set sections last new is.are here refl fits;
      tagged = λ k below.
          let inside : k + 1 < length sections = omega (arith, length-set sections last new) in
          let other : k ≢ last = λ e. omega arith in
          subst (λ (s : Section). 0 < length s.tags) (sym (get_or-set_other sections last k new no_section other)) (is.tagged k inside);
    })

-- no tag stands once the body has begun
tag_line_in : (in_body : Bool) (line : List ℕ) (head : Head) → IsHead head → IfOk (tag_line in_body line head) (λ new. IsHead new × (in_body ≡ false))
unfolding tag_line
tag_line_in in_body line head is =
    let after : Head → Type 0 = λ new. IsHead new × (in_body ≡ false) in
    checked after (ltb 0 (length head.sections) && not in_body) code.Order _
    (λ place. checked after (eqb (length (words_of line)) 4) code.Word _
    (λ _. given after (tag_of _ _ _) _
    (λ tag.
    let parts = and_parts _ _ place in
    sections_in (in_body ≡ false) head (added tag head.sections) is (not-true _ parts.1)
    (added_in tag head.sections (ltb-true _ _ parts.0) is.open_sections))))

-- no section stands there yet, or the body hasn't begun
abbrev pub IsBefore : Bool → Head → Type 0
IsBefore in_body head = (length head.sections ≡ 0) ⊎ (in_body ≡ false)

-- a line that stands before the body
pub head_line_in : (which : HeadWord) (in_body : Bool) (line : List ℕ) (head : Head) → IsHead head → IfOk (head_line which in_body line head) (λ new. IsHead new × IsBefore in_body head)
unfolding head_line
head_line_in (word.Size size) in_body line head is =
    weaker (λ new. IsHead new × (length head.sections ≡ 0)) (λ new. IsHead new × IsBefore in_body head) (size_line size line head) (λ new h. (h.0, inl h.1)) (size_line_in size line head is)
head_line_in word.Kernel in_body line head is =
    weaker (λ new. IsHead new × (length head.sections ≡ 0)) (λ new. IsHead new × IsBefore in_body head) (kernel_line line head) (λ new h. (h.0, inl h.1)) (kernel_line_in line head is)
head_line_in word.Module in_body line head is =
    weaker (λ new. IsHead new × (in_body ≡ false)) (λ new. IsHead new × IsBefore in_body head) (module_line in_body line head) (λ new h. (h.0, inr h.1)) (module_line_in in_body line head is)
head_line_in word.Tag in_body line head is =
    weaker (λ new. IsHead new × (in_body ≡ false)) (λ new. IsHead new × IsBefore in_body head) (tag_line in_body line head) (λ new h. (h.0, inr h.1)) (tag_line_in in_body line head is)

-- the sizes, where those that no line sets have their defaults
pub by_default : (P : ℕ → Type 0) (size : Option ℕ) (default : ℕ) → IfSome size P → P default → P (unwrap_or size default)
by_default P None default is so = so
by_default P (Some n) default is so = is

pub cpus_in : (head : Head) → IsHead head → (1 ≤ cpus_of head) × (cpus_of head ≤ 64)
cpus_in head is = by_default (λ n. (1 ≤ n) × (n ≤ 64)) head.cpus 4 is.cpus (omega arith, omega arith)

pub area_in : (head : Head) → IsHead head → unwrap_or head.area 896 ≤ 896
area_in head is = by_default (λ n. n ≤ 896) head.area 896 is.area (omega arith)
