-- Runs on their way.
use Rattle.std.proofs.Common.{◌≡◌, ℕ, ◌==◌, List, [], ◌∷◌, ◌++◌, Some, find, Bool, true, false, refl, ap, eqb-true}
use Rattle.std.proofs.lemmas.Bool.{false≢true}
use Rattle.tag_model.specs.declared.state.Run.{Run}
use Rattle.tag_rule.specs.Listed.{has_run, without_run}

-- the first run on an id
pub record FirstRun (id : ℕ) (away : List Run) : Type 0 where
  pub ahead : List Run
  pub run : Run
  pub behind : List Run
  pub is : away ≡ ahead ++ run ∷ behind
  pub on_id : run.id ≡ id
  pub without : without_run id away ≡ ahead ++ behind
  pub finds : find (λ (r : Run). r.id == id) away ≡ Some run

pub first_run : (id : ℕ) (away : List Run) → has_run id away ≡ true → FirstRun id away
first_run id [] e = absurd (false≢true e)
first_run id (x ∷ xs) e = go (x.id == id) refl e (λ h. first_run id xs h)
  where
    go : (b : Bool) → (x.id == id) ≡ b → has_run id (x ∷ xs) ≡ true → (has_run id xs ≡ true → FirstRun id xs) → FirstRun id (x ∷ xs)
    go true is any later = record { ahead = []; run = x; behind = xs; is = refl; on_id = eqb-true x.id id is; without = rw is refl; finds = rw is refl }
    go false is any later =
        let f = later (rw is at any) in
        record { ahead = x ∷ f.ahead; run = f.run; behind = f.behind; is = ap (λ (ys : List Run). x ∷ ys) f.is; on_id = f.on_id; without = rw is (ap (λ (ys : List Run). x ∷ ys) f.without); finds = rw is f.finds }
