use Rattle.std.proofs.Common.{◌≡◌, ℕ, ◌-◌, ◌/◌, ◌%◌, ◌<◌, ◌≤◌, IsTrue, zero, suc, refl, arith}
use Rattle.std.proofs.lemmas.Grind.{common_steps}
use Rattle.tag_model.specs.RefWord.{IsRef, is_ref_word, ref_word}
use Rattle.tag_model.specs.declared.ref_word.Ref.{Ref}
use Rattle.tag_model.specs.declared.ref_word.Ref.TheVariants as ref
use Rattle.tag_model.proofs.ref_word.words_are_references.Goals as goal

has_parts : (w : ℕ) → 1 < w → IsTrue (is_ref_word w) → (2 ≤ w % 1048576) × (0 < w / 1048576)
has_parts w h ok = grind (arith, common_steps)

counted : (w : ℕ) → w < 18446744073709551616 → (2 ≤ w % 1048576) × (0 < w / 1048576) → (r : Ref) × (IsRef r × (ref_word r ≡ w))
counted w fits parts = (ref.Counted (w % 1048576 - 2) (w / 1048576), ((omega (arith, parts.0), omega (arith, parts.1), omega (arith, fits)), omega (arith, parts.0)))

reference_of : (w : ℕ) → w < 18446744073709551616 → IsTrue (is_ref_word w) → (r : Ref) × (IsRef r × (ref_word r ≡ w))
reference_of zero fits ok = (ref.None, (tt, refl))
reference_of (suc zero) fits ok = (ref.Empty, (tt, refl))
reference_of (suc (suc n)) fits ok = counted _ fits (has_parts _ (omega arith) ok)

pub returns-clause-is_a_reference : goal.returns-clause-is_a_reference
returns-clause-is_a_reference c = reference_of
