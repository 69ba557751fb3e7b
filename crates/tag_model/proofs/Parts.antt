-- Sums over the parts of a state, where some parts become others; and the one list part, whose numbers such sums are.
use Rattle.std.proofs.Common.{◌≡◌, ℕ, ◌≤◌, List, [], ◌∷◌, sum_by, refl, arith, Bool, not}
use Rattle.std.proofs.lemmas.List.Sums.{sum_by-cons}
use Rattle.tag_model.specs.declared.state.CpuPart.{CpuPart}
use Rattle.tag_model.specs.declared.state.Held.{Held}
use Rattle.tag_model.specs.declared.state.ListPart.{ListPart}
use Rattle.tag_model.specs.declared.state.Part.{Part}
use Rattle.tag_model.specs.declared.state.Part.TheVariants.{Cpu, Place, Modules, NextId}
use Rattle.tag_model.specs.WordState.{one_if, Every, is_list}
use Rattle.tag_model.specs.StepRules.{Becomes, Stands}

-- parts that stand in a state, as parts that become themselves
pub standing : (v ps : List Part) → Stands v ps → Becomes v v ps ps
standing v ps s = record { rest = s.rest; before = s.among; after = s.among }

-- parts that become others stood in the state
pub stand_before : (v w ps qs : List Part) → Becomes v w ps qs → Stands v ps
stand_before v w ps qs b = record { rest = b.rest; among = b.before }

-- and the others stand there afterwards
pub stand_after : (v w ps qs : List Part) → Becomes v w ps qs → Stands w qs
stand_after v w ps qs b = record { rest = b.rest; among = b.after }

-- a number that the touched parts share before and after is the state's before and after
pub becomes_same : (f : Part → ℕ) (v w ps qs : List Part) → Becomes v w ps qs → sum_by f v ≡ sum_by f w → sum_by f qs ≡ sum_by f ps
becomes_same f v w ps qs b e = omega (arith, b.before f, b.after f)

-- what holds of each part before, and of each part that is written, holds of each part after
pub every_after : (test : Part → Bool) (v w ps qs : List Part) → Becomes v w ps qs → Every test w → Every test ps → Every test qs
every_after test v w ps qs b e h = omega (arith, b.before (λ p. one_if (not (test p))), b.after (λ p. one_if (not (test p))))

-- what holds of each part holds of each part that is touched
pub every_before : (test : Part → Bool) (v w ps qs : List Part) → Becomes v w ps qs → Every test ps → Every test v
every_before test v w ps qs b h = omega (arith, b.before (λ p. one_if (not (test p))))

-- a number that only a list part has
pub record IsOfList (f : Part → ℕ) : Type 0 where
  pub cpu : (c : CpuPart) → f (Cpu c) ≡ 0
  pub place : (n : ℕ) (held : Held) → f (Place n held) ≡ 0
  pub pass : (id : ℕ) → f (NextId id) ≡ 0

-- the one list part of a state
pub record TheList (ps : List Part) : Type 0 where
  pub l : ListPart
  pub only : (f : Part → ℕ) → IsOfList f → sum_by f ps ≡ f (Modules l)
  pub stands : (f : Part → ℕ) → f (Modules l) ≤ sum_by f ps

pub no_list : (ps : List Part) → sum_by is_list ps ≡ 0 → (f : Part → ℕ) → IsOfList f → sum_by f ps ≡ 0
no_list [] e f o = refl
no_list (Cpu c ∷ ps) e f o = omega (arith, sum_by-cons f (Cpu c) ps, sum_by-cons is_list (Cpu c) ps, o.cpu c, no_list ps (omega (arith, sum_by-cons is_list (Cpu c) ps)) f o)
no_list (Place n held ∷ ps) e f o = omega (arith, sum_by-cons f (Place n held) ps, o.place n held, no_list ps (omega (arith, sum_by-cons is_list (Place n held) ps)) f o)
no_list (Modules l ∷ ps) e f o = absurd (omega (arith, sum_by-cons is_list (Modules l) ps))
no_list (NextId id ∷ ps) e f o = omega (arith, sum_by-cons f (NextId id) ps, o.pass id, no_list ps (omega (arith, sum_by-cons is_list (NextId id) ps)) f o)

pub the_list : (ps : List Part) → sum_by is_list ps ≡ 1 → TheList ps
the_list [] e = absurd (omega arith)
the_list (Cpu c ∷ ps) e =
    let t = the_list ps (omega (arith, sum_by-cons is_list (Cpu c) ps)) in
    record { l = t.l; only = λ f o. omega (arith, sum_by-cons f (Cpu c) ps, o.cpu c, t.only f o); stands = λ f. omega (arith, sum_by-cons f (Cpu c) ps, t.stands f) }
the_list (Place n held ∷ ps) e =
    let t = the_list ps (omega (arith, sum_by-cons is_list (Place n held) ps)) in
    record { l = t.l; only = λ f o. omega (arith, sum_by-cons f (Place n held) ps, o.place n held, t.only f o); stands = λ f. omega (arith, sum_by-cons f (Place n held) ps, t.stands f) }
the_list (Modules l ∷ ps) e =
    record { l = l; only = λ f o. omega (arith, sum_by-cons f (Modules l) ps, no_list ps (omega (arith, sum_by-cons is_list (Modules l) ps)) f o); stands = λ f. omega (arith, sum_by-cons f (Modules l) ps) }
the_list (NextId id ∷ ps) e =
    let t = the_list ps (omega (arith, sum_by-cons is_list (NextId id) ps)) in
    record { l = t.l; only = λ f o. omega (arith, sum_by-cons f (NextId id) ps, o.pass id, t.only f o); stands = λ f. omega (arith, sum_by-cons f (NextId id) ps, t.stands f) }
