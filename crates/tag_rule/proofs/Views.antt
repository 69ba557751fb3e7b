-- The state of all views: what it is once one view is another, a view is cut in two, or two are made one.
use Rattle.std.proofs.Common.{◌≡◌, ℕ, ◌+◌, zero, suc, List, [], ◌∷◌, ◌++◌, set, sum_by, sym, refl, ap, subst, ◌∙◌, arith}
use Rattle.std.proofs.lemmas.List.Sums.{sum_by-append}
use mathlib.Core.Option.{some, some-injective, some-ne-none}
use lib.ListN.{get_elem?}
use Rattle.atomic_table.proofs.Lists.{set_else}
use Rattle.tag_model.specs.declared.state.Part.{Part}
use Rattle.tag_model.specs.StepRules.{Becomes}
use Rattle.tag_rule.specs.declared.view.View.{View}
use Rattle.tag_rule.specs.Rule.{all_parts, view_of}

-- one view becomes another
pub sum_changed : (f : Part → ℕ) (views : List View) (id : ℕ) (v w : View) → get_elem? views id ≡ some v → sum_by f (all_parts (set views id w)) + sum_by f v.parts ≡ sum_by f (all_parts views) + sum_by f w.parts
sum_changed f [] id v w e = absurd (some-ne-none v (sym e))
sum_changed f (x ∷ views) zero v w e =
    let same : sum_by f x.parts ≡ sum_by f v.parts = ap (λ (y : View). sum_by f y.parts) (some-injective x v e) in
    omega (arith, sum_by-append f w.parts (all_parts views), sum_by-append f x.parts (all_parts views))
sum_changed f (x ∷ views) (suc id) v w e =
    omega (arith, sum_changed f views id v w e, sum_by-append f x.parts (all_parts (set views id w)), sum_by-append f x.parts (all_parts views))

-- a view joins the others
pub sum_joined : (f : Part → ℕ) (views : List View) (w : View) → sum_by f (all_parts (views ++ w ∷ [])) ≡ sum_by f (all_parts views) + sum_by f w.parts
sum_joined f [] w = omega (arith, sum_by-append f w.parts [])
sum_joined f (x ∷ views) w = omega (arith, sum_joined f views w, sum_by-append f x.parts (all_parts (views ++ w ∷ [])), sum_by-append f x.parts (all_parts views))

nothing : View
nothing = view_of []

pub changed : (views : List View) (id : ℕ) (v w : View) → get_elem? views id ≡ some v → Becomes v.parts w.parts (all_parts views) (all_parts (set views id w))
unfolding nothing
changed views id v w e = record {
  rest = all_parts (set views id nothing);
  before = λ f. omega (arith, sum_changed f views id v nothing e);
  after = λ f. omega (arith, sum_changed f views id v nothing e, sum_changed f views id v w e);
}

pub cut : (views : List View) (id : ℕ) (v left right : View) → get_elem? views id ≡ some v → Becomes v.parts (left.parts ++ right.parts) (all_parts views) (all_parts (set views id left ++ right ∷ []))
unfolding nothing
cut views id v left right e = record {
  rest = all_parts (set views id nothing);
  before = λ f. omega (arith, sum_changed f views id v nothing e);
  after = λ f. omega (arith, sum_changed f views id v nothing e, sum_changed f views id v left e, sum_joined f (set views id left) right, sum_by-append f left.parts right.parts);
}

set_there : (views : List View) (id : ℕ) (v w : View) → get_elem? views id ≡ some v → get_elem? (set views id w) id ≡ some w
set_there [] id v w e = absurd (some-ne-none v (sym e))
set_there (x ∷ views) zero v w e = refl
set_there (x ∷ views) (suc id) v w e = set_there views id v w e

pub joined : (views : List View) (id other : ℕ) (v w both spent : View) → get_elem? views id ≡ some v → ¬ (other ≡ id) → get_elem? (set views id both) other ≡ some w → spent ≡ view_of []
    → Becomes (v.parts ++ w.parts) both.parts (all_parts views) (all_parts (set (set views id both) other spent))
unfolding nothing
joined views id other v w both spent e apart o is = record {
  rest = all_parts (set late id nothing);
  before = λ f. omega (arith, first f, second f, third f, none f, sum_by-append f v.parts w.parts);
  after = λ f. omega (arith, first f, second f, third f, none f);
}
  where
    late : List View
    late = set (set views id both) other spent

    back : get_elem? late id ≡ some both
    back = set_else (set views id both) other id spent (λ i. apart (sym i)) ∙ set_there views id v both e

    none : (f : Part → ℕ) → sum_by f spent.parts ≡ 0
    none f = subst (λ (x : View). sum_by f x.parts ≡ 0) (sym is) refl

    first : (f : Part → ℕ) → sum_by f (all_parts (set views id both)) + sum_by f v.parts ≡ sum_by f (all_parts views) + sum_by f both.parts
    first f = sum_changed f views id v both e

    second : (f : Part → ℕ) → sum_by f (all_parts late) + sum_by f w.parts ≡ sum_by f (all_parts (set views id both)) + sum_by f spent.parts
    second f = sum_changed f (set views id both) other w spent o

    third : (f : Part → ℕ) → sum_by f (all_parts (set late id nothing)) + sum_by f both.parts ≡ sum_by f (all_parts late) + 0
    third f = sum_changed f late id both nothing back
