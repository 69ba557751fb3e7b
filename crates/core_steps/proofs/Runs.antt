-- Steps of many actors, one after another.
use Rattle.std.proofs.Common.{◌≡◌, ℕ, ◌+◌, ◌<◌, ◌≤◌, List, [], ◌∷◌, length, get_or, take, refl, sym, ap, ◌∙◌, arith, None, inl, inr, IfSome}
use Rattle.std.specs.Prelude.{slice_get}
use Rattle.std.proofs.lemmas.Bool.{cases_eq}
use Rattle.std.proofs.lemmas.List.Sums.{fold_more}
use Rattle.std.proofs.lemmas.Option.{slice_get-get_or}
use Rattle.tag_model.specs.Laws.{Safe}
use Rattle.core_steps.specs.declared.op.Actor.{Actor}
use Rattle.core_steps.specs.declared.op.Actor.TheVariants as actor
use Rattle.core_steps.specs.CoreState.{CoreState, IsCore, refused, stepped, event_of, run_of, word_state}
use Rattle.core_steps.specs.Release.{IfReleases}

-- the first actors each took a step, through safe states alone
pub record Ran (s : CoreState) (actors : List Actor) (now : CoreState) (n : ℕ) : Type 0 where
  pub state : now ≡ run_of s (take n actors)
  pub taken : (i : ℕ) → i < n → IfSome (slice_get actors i) (λ a. refused (run_of s (take i actors)) a ≡ None)
  pub released : (i : ℕ) → i < n → IfSome (slice_get actors i) (λ a. IfReleases (run_of s (take i actors)) (event_of (run_of s (take i actors)) a))
  pub safe : (i : ℕ) → i ≤ n → Safe s.shape (word_state (run_of s (take i actors)))

pub stepped_shape : (s : CoreState) (a : Actor) → (stepped s a).shape ≡ s.shape
stepped_shape s (actor.Cpu cpu) = refl
stepped_shape s actor.Manager = refl

pub run_shape : (s : CoreState) (actors : List Actor) → (run_of s actors).shape ≡ s.shape
run_shape s [] = refl
run_shape s (a ∷ actors) = run_shape (stepped s a) actors ∙ stepped_shape s a

pub ran_none : (s : CoreState) (actors : List Actor) → IsCore s → Ran s actors s 0
ran_none s actors core = record { state = refl; taken = λ i below. absurd (omega arith); released = λ i below. absurd (omega arith); safe = λ i within. let e : i ≡ 0 = omega arith in rw e core.safe }

pub ran_more : (s now new : CoreState) (actors : List Actor) (n : ℕ) (a d : Actor) → n < length actors → a ≡ get_or actors n d → Ran s actors now n → refused now a ≡ None → IfReleases now (event_of now a) → new ≡ stepped now a → Safe new.shape (word_state new) → Ran s actors new (n + 1)
ran_more s now new actors n a d below is ran passes finds next safe =
    let state : new ≡ run_of s (take (n + 1) actors) = next ∙ ap (λ (x : CoreState). stepped x a) ran.state ∙ ap (stepped (run_of s (take n actors))) is ∙ sym (fold_more stepped s actors n d below) in
    record {
      state = state;
      taken = λ i within. elim (cases_eq i n) [
        | inl e ↦ rw (e, slice_get-get_or actors n d below, ← is, ← ran.state) passes
        | inr ne ↦ ran.taken i (omega arith)
      ];
      released = λ i within. elim (cases_eq i n) [
        | inl e ↦ rw (e, slice_get-get_or actors n d below, ← is, ← ran.state) finds
        | inr ne ↦ ran.released i (omega arith)
      ];
      safe = λ i within. elim (cases_eq i (n + 1)) [
        | inl e ↦ rw (e, ← state, sym (run_shape s (take (n + 1) actors))) (rw (← state) safe)
        | inr ne ↦ ran.safe i (omega arith)
      ];
    }
