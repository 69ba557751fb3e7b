-- The release law of `tag_model`, of the running table; and the sums of quiet words.
use Rattle.std.proofs.Common.{◌≡◌, ℕ, ◌==◌, ◌↔◌, List, [], ◌∷◌, sum_by, refl, arith, Bool, true, false, cond, eqb-true, eq-eqb}
use Rattle.std.proofs.lemmas.Bool.{and_from, and_parts}
use Rattle.std.proofs.lemmas.List.Sums.{sum_by-cons}
use Rattle.tag_model.specs.declared.shape.Shape.{Shape}
use Rattle.tag_model.specs.declared.state.Held.{Held}
use Rattle.tag_model.specs.declared.state.Held.TheVariants as held
use Rattle.tag_model.specs.declared.state.Kind.{Kind}
use Rattle.tag_model.specs.declared.state.Kind.TheVariants.{Bytes, Calls}
use Rattle.tag_model.specs.declared.state.ListPart.{ListPart}
use Rattle.tag_model.specs.declared.state.Part.{Part}
use Rattle.tag_model.specs.declared.state.Part.TheVariants.{Modules}
use Rattle.tag_model.specs.Laws.{Safe, has_hand, live_of}
use Rattle.tag_model.specs.Reference.{held_counts, live_total}
use Rattle.tag_model.specs.Shape.{IsChecked}
use Rattle.tag_model.specs.StepRules.{Becomes, Stands}
use Rattle.tag_model.specs.Telling.{AreAllLent}
use Rattle.tag_model.specs.Wrap.{wrap}
use Rattle.tag_model.proofs.Bounds.{counted_below}
use Rattle.tag_model.proofs.Live.{live_counts}
use Rattle.tag_rule.specs.Shown.{CpuShown}
use Rattle.percpu_words.specs.CpuWords.{lent}
use Rattle.percpu_words.proofs.Sums.{quiet_totals}
use Rattle.reclaim.specs.Quiet.{is_quiet_tag, total}

-- the list that stands in a state may change there
pub changes_there : (from to : ListPart) (parts : List Part) (stands : Stands (Modules from ∷ []) parts) → Becomes (Modules from ∷ []) (Modules to ∷ []) parts (Modules to ∷ stands.rest)
changes_there from to parts stands = record {
  rest = stands.rest;
  before = stands.among;
  after = λ weight. omega (arith, sum_by-cons weight (Modules to) stands.rest, sum_by-cons weight (Modules to) []);
}

-- ---- quiet words

-- where no call is live under a tag, no byte is
held_none : (t : ℕ) (h : Held) → held_counts Calls t h ≡ 0 → held_counts Bytes t h ≡ 0
held_none t held.None e = refl
held_none t held.Empty e = refl
held_none t (held.Counted tag size) e = go (tag.number == t) e
  where
    go : (b : Bool) → cond {A = ℕ} b 1 0 ≡ 0 → cond b size 0 ≡ 0
    go true e = absurd (omega (arith, e))
    go false e = refl

live_none : (t : ℕ) (live : List (ℕ × Held)) → live_total Calls t live ≡ 0 → live_total Bytes t live ≡ 0
live_none t [] e = refl
live_none t (x ∷ xs) e =
    let calls = sum_by-cons (λ (entry : ℕ × Held). held_counts Calls t entry.1) x xs in
    let bytes = sum_by-cons (λ (entry : ℕ × Held). held_counts Bytes t entry.1) x xs in
    omega (arith, bytes, held_none t x.1 (omega (arith, calls, e)), live_none t xs (omega (arith, calls, e)))

pub quiet_tag : (k : Shape) (cpus : List CpuShown) (l : ListPart) (next : ℕ) (parts : List Part) (t : ℕ) → IsChecked k → AreAllLent k (lent cpus l next) → Stands (lent cpus l next) parts → Safe k parts → sum_by has_hand parts ≡ 0
    → (is_quiet_tag cpus t ≡ true) ↔ (live_total Calls t (live_of parts) ≡ 0)
quiet_tag k cpus l next parts t ok all stands safe quiet = (there, back)
  where
    sums : (kind : Kind) → total kind t cpus ≡ wrap (live_total kind t (live_of parts))
    sums kind = quiet_totals k cpus l next parts kind t all stands safe quiet

    there : is_quiet_tag cpus t ≡ true → live_total Calls t (live_of parts) ≡ 0
    there e =
        let calls = eqb-true (total Calls t cpus) 0 (and_parts (total Bytes t cpus == 0) (total Calls t cpus == 0) e).1 in
        omega (arith, calls, sums Calls, live_counts Calls t parts quiet, counted_below k Calls t parts ok safe.each safe.fits)

    back : live_total Calls t (live_of parts) ≡ 0 → is_quiet_tag cpus t ≡ true
    back none = and_from _ _ (eq-eqb (total Bytes t cpus) 0 (omega (arith, sums Bytes, live_none t (live_of parts) none))) (eq-eqb (total Calls t cpus) 0 (omega (arith, sums Calls, none)))
