-- Steps of the manager that tell nothing are steps of the meaning that change neither moves nor text.
use Rattle.std.proofs.Common.{◌≡◌, ℕ, zero, suc, ◌+◌, ◌-◌, ◌<◌, ◌≤◌, ◌==◌, List, [], ◌∷◌, ◌++◌, length, refl, sym, ap, ◌∙◌, subst, arith, append-nil, zero-add, Bool, true, false, None, Result, Ok, Err}
use Rattle.std.proofs.lemmas.Bool.Decides.{nat_tests}
use Rattle.core_steps.specs.declared.op.Actor.{Actor}
use Rattle.core_steps.specs.declared.op.Actor.TheVariants as actor
use Rattle.module_ops.specs.declared.op.ManagerOp.{ManagerOp}
use Rattle.module_ops.specs.declared.event.Event.{Event}
use Rattle.module_ops.specs.declared.event.Event.TheVariants.{Stepped}
use Rattle.module_ops.specs.Modules.{manager_refusal_in}
use Rattle.core_steps.specs.CoreState.{CoreState, event_of, ops_of, of_manager, refused, stepped}
use Rattle.core_steps.specs.ReadOn.{TellsNothing, after_manager}
use Rattle.core_steps.specs.StepsLeft.{steps_left}
use Rattle.input_form.specs.declared.code.Code.{Code}
use Rattle.input_form.specs.Judging.{◌>>=◌}
use Rattle.std.specs.Prelude.{map}
use Rattle.step_play.specs.Printed.{Setting, event_text}
use Rattle.step_play.specs.Schedule.{Played, all_taken, core_played, is_idle, one_step, steps_taken, with_step}
use Rattle.step_play.specs.Playing.{SameSizes, Shows, StepsOn}
use Rattle.step_play.proofs.Stepping.{Goes, GoesAll}

-- ---- one step

-- a step that is taken leaves the meaning's core as it leaves the core
step_core : (s : Setting) (p : Played) → core_played s (with_step s actor.Manager p) ≡ stepped (core_played s p) actor.Manager
step_core s p = rw append-nil refl

step_text : (s : Setting) (p : Played) → event_of (core_played s p) actor.Manager ≡ Stepped → (with_step s actor.Manager p).text ≡ p.text
step_text s p tells = ap (λ (e : Event). p.text ++ event_text s.sections e) tells ∙ append-nil p.text

step_taken : (s : Setting) (p : Played) → refused (core_played s p) actor.Manager ≡ None → one_step s actor.Manager p ≡ Ok (with_step s actor.Manager p)
step_taken s p free = rw free refl

busy : (s : Setting) (p : Played) → refused (core_played s p) actor.Manager ≡ None → is_idle s actor.Manager p ≡ false
busy s p free = go p.modules.manager.ops free
  where
    go : (ops : List ManagerOp) → manager_refusal_in s.sections p.modules.list ops p.modules.manager.under_way ≡ None → (length (map of_manager ops) == 0) ≡ false
    go [] free = absurd (cc)
    go (op ∷ ops) free = grind (arith, nat_tests)

-- ---- some steps

pub reads_none : (s : Setting) (who : Actor) (now : CoreState) (text : List ℕ) (p : Played) → Shows s now text p → StepsOn s who 0 now text p
reads_none s who now text p shows = record { played = p; shows = shows; steps = λ more. rw zero-add refl; all = λ more. rw zero-add refl }

pub reads_on : (n : ℕ) (s : Setting) (now : CoreState) (text : List ℕ) (p : Played) → Shows s now text p → TellsNothing n now → StepsOn s actor.Manager n (after_manager now n) text p
reads_on zero s now text p shows none = reads_none s actor.Manager now text p shows
reads_on (suc n) s now text p shows none =
    let free : refused (core_played s p) actor.Manager ≡ None = subst (λ (c : CoreState). refused c actor.Manager ≡ None) shows.core none.0 in
    let tells : event_of (core_played s p) actor.Manager ≡ Stepped = subst (λ (c : CoreState). event_of c actor.Manager ≡ Stepped) shows.core none.1 in
    let next = with_step s actor.Manager p in
    let core : stepped now actor.Manager ≡ core_played s next = ap (λ (c : CoreState). stepped c actor.Manager) shows.core ∙ sym (step_core s p) in
    let rest = reads_on n s (stepped now actor.Manager) text next (record { core = core; text = shows.text ∙ sym (step_text s p tells) }) none.2 in
    record {
      played = rest.played;
      shows = rest.shows;
      steps = λ more.
          let one_more : suc n + more ≡ suc (n + more) = omega arith in
          ap (λ (k : ℕ). steps_taken s actor.Manager k p) one_more ∙ (ap (λ (r : Result Played Code). r >>= steps_taken s actor.Manager (n + more)) (step_taken s p free) ∙ rest.steps more);
      all = λ more.
          let one_more : suc n + more ≡ suc (n + more) = omega arith in
          let taken : all_taken s actor.Manager (suc (n + more)) p ≡ (one_step s actor.Manager p >>= all_taken s actor.Manager (n + more)) = rw (busy s p free) refl in
          ap (λ (k : ℕ). all_taken s actor.Manager k p) one_more ∙ (taken ∙ (ap (λ (r : Result Played Code). r >>= all_taken s actor.Manager (n + more)) (step_taken s p free) ∙ rest.all more));
    }

pub sizes_after : (n : ℕ) (s : CoreState) → SameSizes s (after_manager s n)
sizes_after zero s = record { shape = refl; sections = refl }
sizes_after (suc n) s = let rest = sizes_after n (stepped s actor.Manager) in record { shape = rest.shape; sections = rest.sections }

-- ---- within a loop of steps

pub goes_over : (s : Setting) (who : Actor) (now next : CoreState) (text : List ℕ) (n left all : ℕ) (start : Played) → n ≤ left → (g : Goes s who now text left all start) → StepsOn s who n next text g.played → Goes s who next text (left - n) all start
goes_over s who now next text n left all start within g on =
    let parts : left ≡ n + (left - n) = omega arith in
    record { played = on.played; shows = on.shows; rest = g.rest ∙ (ap (λ (k : ℕ). steps_taken s who k g.played) parts ∙ on.steps (left - n)) }

pub all_over : (s : Setting) (who : Actor) (now next : CoreState) (text : List ℕ) (n all : ℕ) (start : Played) → steps_left next who + n ≤ steps_left now who → (g : GoesAll s who now text all start) → StepsOn s who n next text g.played → GoesAll s who next text all start
all_over s who now next text n all start fewer g on =
    let parts : g.left ≡ n + (g.left - n) = omega (arith, g.enough) in
    record { played = on.played; shows = on.shows; left = g.left - n; enough = omega (arith, g.enough); rest = g.rest ∙ (ap (λ (k : ℕ). all_taken s who k g.played) parts ∙ on.all (g.left - n)) }
