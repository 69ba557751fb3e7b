-- The map from names to numbers, by the names' bytes.
use Rattle.std.proofs.Common.{◌≡◌, ℕ, Bool, true, false, cond, List, Option, sym, subst, ◌∙◌, ⊎_elim, Vec, Global, Ordering}
use Rattle.std.specs.Ordering.{is_eq, nat_cmp, eq_by_cmp}
use Rattle.std.specs.Cmp.{eq_by_cmp_equiv}
use Rattle.std.specs.Cmp.Lexicographic.{slice_cmp, bytes_decides, nat_list_cmp_total, nat_list_eq_equiv}
use Rattle.std.specs.Str.{bytes_eq}
use Rattle.std.specs.BTreeMap.{BTreeMap, Updates}
use Rattle.std.specs.Map.{lookup, IsKeyTest, AreApart, KeepsOthers}
use Rattle.std.proofs.lemmas.Bool.{cases_Bool, cond-true, cond-false}
use Rattle.std.proofs.lemmas.Map.Text.{is_eq-slice_cmp}
use Rattle.tag_section.specs.Numbers.{number_at}

-- the order of names
abbrev pub name_cmp : Vec ℕ Global → Vec ℕ Global → Ordering
name_cmp one other = slice_cmp nat_cmp one.items other.items

apart : (here there key : List ℕ) → bytes_eq here there ≡ false → is_eq (slice_cmp nat_cmp here key) ≡ true → is_eq (slice_cmp nat_cmp there key) ≡ false
apart here there key differs same =
    is_eq-slice_cmp there key ∙ (nat_list_eq_equiv.symm there key ∙ (sym (nat_list_eq_equiv.congr here key there (sym (is_eq-slice_cmp here key) ∙ same)) ∙ differs))

other_entries : {X : Type 0} (test : Vec ℕ Global → Bool) (old new : List (Vec ℕ Global × X)) → KeepsOthers (eq_by_cmp name_cmp) test old new
    → (other : Vec ℕ Global → Bool) → IsKeyTest (eq_by_cmp name_cmp) other → AreApart test other → lookup other new ≡ lookup other old
unfolding KeepsOthers
other_entries test old new kept = kept

-- what a map has at each name after a change at a key
pub number_at-updates : (old new : BTreeMap (Vec ℕ Global) ℕ) (key : Vec ℕ Global) (w : Option ℕ) → Updates name_cmp old new key w
    → (name : List ℕ) → number_at new name ≡ cond (bytes_eq key.items name) w (number_at old name)
number_at-updates old new key w changed name =
    ⊎_elim
    (λ same. subst (λ n. number_at new n ≡ w) ((bytes_decides key.items name).0 same) changed.1 ∙ sym (cond-true _ _ _ same))
    (λ differs.
    other_entries _ _ _ changed.3 _ (λ x y. (eq_by_cmp_equiv nat_list_cmp_total).congr name x.items y.items) (λ k. apart key.items name k.items differs)
    ∙ sym (cond-false _ _ _ differs))
    (cases_Bool (bytes_eq key.items name))
