-- One seat has another's parts for a step, and gives them back.
use Rattle.std.proofs.Common.{◌≡◌, ℕ, List, [], ◌++◌, take, drop, sym, subst, ◌∙◌}
use Rattle.atomic_table.specs.Table.{Me}
use Rattle.tag_model.specs.declared.shape.Shape.{Shape}
use Rattle.tag_model.specs.declared.state.Hand.{Hand}
use Rattle.tag_model.specs.declared.state.Held.{Held}
use Rattle.tag_model.specs.declared.state.Part.{Part}
use Rattle.tag_model.specs.RefWord.{held_word}
use Rattle.std.proofs.Common.{Option}
use Rattle.tag_rule.specs.declared.view.View.{View}
use Rattle.tag_rule.specs.Rule.{view_of, Writes}
use Rattle.tag_rule.specs.Writing.{written}

abbrev Known : Type 0
Known = Me (Unit {0}) View

-- the seat has all of the other's parts behind its own
pub lent_to : (u own other lent : Known) → lent ≡ (view_of (drop 0 other.0.parts), []) → u ≡ (view_of (own.0.parts ++ lent.0.parts), own.1) → own.1 ≡ [] → u ≡ (view_of (own.0.parts ++ other.0.parts), [])
lent_to u own other lent gone united bare = united ∙ (λ i. (view_of (own.0.parts ++ (gone i).0.parts), bare i))

-- a step on the seat
pub stepped_me : (s u : Known) (f : List Part → List Part) (parts : List Part) → u ≡ (view_of parts, []) → s ≡ (view_of (f u.0.parts), u.1) → s ≡ (view_of (f parts), [])
stepped_me s u f parts is step = step ∙ (λ i. (view_of (f (is i).0.parts), (is i).1))

-- what goes back
pub back_to : (u other kept back : Known) (f : List Part → List Part) (s : Known) (parts : List Part) → s ≡ (view_of parts, []) → back ≡ (view_of (f s.0.parts), []) → kept ≡ (view_of (take 0 other.0.parts), other.1) → other.1 ≡ []
    → u ≡ (view_of (kept.0.parts ++ back.0.parts), kept.1) → u ≡ (view_of (f parts), [])
back_to u other kept back f s parts is gone stays bare united =
    united ∙ (λ i. (view_of ((stays i).0.parts ++ (gone i).0.parts), (stays i).1)) ∙ (λ i. (view_of (f (is i).0.parts), bare i))

pub stores_at : (k : Shape) (at : ℕ) (u : Known) (parts : List Part) (hand : Option Hand) (held : Held) (word : ℕ) → u ≡ (view_of parts, []) → word ≡ held_word held
    → Writes k at (λ found. held_word held) parts (λ found. view_of (written hand held parts)) (λ found. Unit {0}) → Writes k at (λ found. word) u.0.parts (λ found. view_of (written hand held u.0.parts)) (λ found. Unit {0})
stores_at k at u parts hand held word is same step =
    subst (λ (w : ℕ). Writes k at (λ found. w) u.0.parts (λ found. view_of (written hand held u.0.parts)) (λ found. Unit {0})) (sym same)
    (subst (λ (m : Known). Writes k at (λ found. held_word held) m.0.parts (λ found. view_of (written hand held m.0.parts)) (λ found. Unit {0})) (sym is) step)
