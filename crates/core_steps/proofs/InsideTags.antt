-- The tag of an allocation of a CPU that is inside a module.
use Rattle.std.specs.Prelude.{is_some}
use Rattle.std.proofs.Common.{◌≡◌, ℕ, ◌+◌, ◌<◌, ◌==◌, ◌&&◌, ◌⊎◌, nat_lt, List, inl, inr, refl, sym, ap, ◌∙◌, subst, arith, Bool, true, false, not, Option, Some, None, eq-eqb, eqb-true, ne_eqb, lt-ltb}
use Rattle.std.specs.List.{list_any}
use Rattle.std.proofs.lemmas.Bool.{and_from, cond-true, cond-false}
use Rattle.tag_model.specs.declared.state.Run.{Run}
use Rattle.tag_model.specs.declared.state.Tag.{Tag}
use Rattle.tag_model.specs.StepRules.{may_begin}
use Rattle.tag_model.specs.WordState.{in_range}
use Rattle.tag_model.proofs.Found.{any_at}
use Rattle.tag_model.proofs.Lists.{in_range_from}
use Rattle.cpu_ops.specs.Machine.{run_at, is_outside, kernel_tag, module_tag, tag_in}
use Rattle.module_ops.specs.Modules.{inside_at}
use Rattle.tag_section.specs.Section.{tags_in}
use Rattle.core_steps.specs.CoreState.{CoreState, IsCore, runs_of}
use Rattle.core_steps.proofs.InsideFacts.{IsInside, taken_out}

-- ---- the tag of an allocation

-- the section is the kernel's, or the CPU is inside its module
pub not_outside : (section : ℕ) (inside : List (Option Run)) → is_outside section inside ≡ false → (section ≡ 0) ⊎ ((section == 0) ≡ false) × IsInside inside section
not_outside section inside e = at (section == 0) refl e
  where
    slot : (section == 0) ≡ false → (o : Option Run) → run_at inside section ≡ o → not (is_some o) ≡ false → (section ≡ 0) ⊎ ((section == 0) ≡ false) × IsInside inside section
    slot other None is e = absurd (cc)
    slot other (Some r) is e = inr (other, record { run = r; is = is })

    at : (b : Bool) → (section == 0) ≡ b → (not b && not (is_some (run_at inside section))) ≡ false → (section ≡ 0) ⊎ ((section == 0) ≡ false) × IsInside inside section
    at true kernel e = inl (eqb-true section 0 kernel)
    at false other e = slot other (run_at inside section) refl e

-- an allocation may begin under a tag of the kernel, or of the module that the CPU is inside; its number is one of the shape's
pub begins_in : (s : CoreState) → IsCore s → (cpu : ℕ) → cpu < s.shape.cpus → (section index : ℕ) → index < tags_in s.sections section → is_outside section (inside_at s.modules cpu) ≡ false
    → (may_begin s.shape (tag_in (inside_at s.modules cpu) section index) (runs_of s.modules cpu) ≡ true) × ((tag_in (inside_at s.modules cpu) section index).number < s.shape.tags)
begins_in s core cpu below section index has in_it = elim (not_outside section (inside_at s.modules cpu) in_it) [
  | inl kernel ↦
      let there : index < s.shape.kernel_tags = omega (arith, subst (λ (x : ℕ). index < tags_in s.sections x) kernel has, core.sections.kernel_fits) in
      let tag : tag_in (inside_at s.modules cpu) section index ≡ kernel_tag index = cond-true (section == 0) (kernel_tag index) (module_tag (run_at (inside_at s.modules cpu) section) index) (eq-eqb section 0 kernel) in
      for_tag _ (sym tag) (lt-ltb index s.shape.kernel_tags there, omega (arith, core.shape.few_kernel_tags))
  | inr inside ↦
      let r = inside.1.run in
      let fits = core.modules.runs cpu section r inside.1.is in
      let at = taken_out (inside_at s.modules cpu) section r inside.1.is in
      let tag : tag_in (inside_at s.modules cpu) section index ≡ module_tag (Some r) index =
      cond-false (section == 0) (kernel_tag index) (module_tag (run_at (inside_at s.modules cpu) section) index) inside.0 ∙ ap (λ (o : Option Run). module_tag o index) inside.1.is in
      let within : index < r.length = omega (arith, fits.all_tags) in
      let test : Run → Bool = λ x. (x.id == r.id) && in_range x.start x.length (r.start + index) in
      let passes : test r ≡ true = and_from _ _ (eq-eqb r.id r.id refl) (in_range_from r.start r.length (r.start + index) (omega arith) (omega arith)) in
      let any : list_any test (runs_of s.modules cpu) ≡ true = subst (λ (rs : List Run). list_any test rs ≡ true) (sym at.all) (any_at test at.front r at.back passes) in
      let begin : may_begin s.shape (module_tag (Some r) index) (runs_of s.modules cpu) ≡ true =
      cond-false (r.id == 0) (nat_lt (r.start + index) s.shape.kernel_tags) (list_any test (runs_of s.modules cpu)) (ne_eqb r.id 0 (λ same. omega (arith, fits.some_id))) ∙ any in
      for_tag _ (sym tag) (begin, omega (arith, fits.in_shape))
]
  where
    for_tag : {tag : Tag} (other : Tag) → tag ≡ other → (may_begin s.shape tag (runs_of s.modules cpu) ≡ true) × (tag.number < s.shape.tags) → (may_begin s.shape other (runs_of s.modules cpu) ≡ true) × (other.number < s.shape.tags)
    for_tag other same h = subst (λ (x : Tag). (may_begin s.shape x (runs_of s.modules cpu) ≡ true) × (x.number < s.shape.tags)) same h
