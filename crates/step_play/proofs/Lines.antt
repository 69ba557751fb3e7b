-- A schedule that is read is one that can be played.
use Rattle.std.proofs.Common.{◌≡◌, ℕ, ◌+◌, ◌-◌, ◌<◌, ◌≤◌, List, [], ◌∷◌, refl, ap, ◌∙◌, subst, arith, Bool, true, false, ◌&&◌, nat_le, nat_lt, All, Vec, Global, Result, Ok, Err}
use Rattle.std.specs.Prelude.{⊤}
use Rattle.std.proofs.lemmas.Bool.{leb-true, ltb-true}
use Rattle.std.specs.List.{AllByRecursion}
use Rattle.std.proofs.lemmas.List.Elements.{All-from_recursion}
use Rattle.tag_model.specs.Shape.{IsChecked}
use Rattle.tag_section.specs.Section.{Section}
use Rattle.core_steps.specs.CoreState.{CoreState, IsOpOf, SectionsFitShape, fresh}
use Rattle.cpu_ops.specs.Machine.{is_new_key}
use Rattle.core_steps.proofs.Meaning.{core_of_fresh}
use Rattle.input_form.specs.declared.code.Code.{Code}
use Rattle.step_text.specs.declared.steps.StepAct.{StepAct}
use Rattle.step_text.specs.declared.steps.StepAct.TheVariants as step_act
use Rattle.step_text.specs.declared.steps.StepActor.{StepActor}
use Rattle.step_text.specs.declared.steps.StepActor.TheVariants as step_actor
use Rattle.step_text.specs.declared.steps.StepLine.{StepLine}
use Rattle.step_text.specs.declared.steps.StepOp.{StepOp}
use Rattle.step_text.specs.declared.steps.StepOp.TheVariants as step_op
use Rattle.step_text.specs.declared.steps.Steps.{Steps}
use Rattle.step_text.specs.StepForm.{AreSteps, IsStepOp, IsStepAct, IsOwnOp}
use Rattle.step_play.specs.Acts.{actor_of, op_of}
use Rattle.input_form.specs.declared.code.TextError.{TextError}
use Rattle.tag_model.specs.declared.shape.Shape.{Shape}
use Rattle.step_play.specs.Printed.{Setting}
use Rattle.step_play.specs.declared.schedule.End.TheVariants as end
use Rattle.step_play.specs.Schedule.{Played, setting_of, shape_of, nothing_played, play, schedule_of}
use Rattle.step_play.specs.Playing.{Ends, Shows, SameSizes, Plays, IsAct, IsLine, own_setting}

both_false : (a b : Bool) → (a ≡ true → b ≡ true → ⊥) → (a && b) ≡ false
both_false true true never = absurd (never refl refl)
both_false true false never = refl
both_false false b never = refl

not_new : (key parts first : ℕ) → 2 ≤ parts → ¬ ((first ≤ key) × (key ≤ first + parts - 2)) → is_new_key key parts first ≡ false
not_new key parts first two outside = both_false (nat_le first key) (nat_lt (key + 1) (first + parts)) (λ a b.
    let from : first ≤ key = leb-true first key a in
    let to : key + 1 < first + parts = ltb-true (key + 1) (first + parts) b in
    let within : key ≤ first + parts - 2 = omega arith in
    outside (from, within))

no_way : {P : Type 0} → false ≡ true → P
no_way e = cc

op_is : (sections : List Section) (who : StepActor) (what : StepOp) → IsOwnOp who what → IsStepOp sections what → IsOpOf sections (actor_of who) (op_of what)
op_is sections (step_actor.Cpu cpu) (step_op.Open key section index size) own is =
    record { some_key = omega (arith, is.0.0); key_below = omega (arith, is.0.1); has_section = is.1.0; in_section = is.1.1; some_bytes = omega (arith, is.2.0); size_below = is.2.1 }
op_is sections (step_actor.Cpu cpu) (step_op.Close key) own is = record { some_key = omega (arith, is.0); key_below = omega (arith, is.1) }
op_is sections (step_actor.Cpu cpu) (step_op.Split key parts first) own is =
    record { some_key = omega (arith, is.0.0); key_below = omega (arith, is.0.1); two_parts = is.1; few_parts = is.2; some_first = omega (arith, is.3.0); last_below = omega (arith, is.4.0); apart = not_new key parts first is.1 is.4.1 }
op_is sections (step_actor.Cpu cpu) (step_op.Swap one two) own is =
    record { first = record { some_key = omega (arith, is.0.0); key_below = omega (arith, is.0.1) }; second = record { some_key = omega (arith, is.1.0); key_below = omega (arith, is.1.1) }; apart = is.2 }
op_is sections (step_actor.Cpu cpu) (step_op.Trim key bytes) own is = record { some_key = omega (arith, is.0.0); key_below = omega (arith, is.0.1); some_bytes = omega (arith, is.1.0); bytes_below = is.1.1 }
op_is sections (step_actor.Cpu cpu) (step_op.Enter section) own is = record { behind_kernel = is.0; has_section = is.1 }
op_is sections (step_actor.Cpu cpu) (step_op.Leave section) own is = record { behind_kernel = is.0; has_section = is.1 }
op_is sections (step_actor.Cpu cpu) (step_op.Load section) own is = no_way own
op_is sections (step_actor.Cpu cpu) (step_op.Unload section) own is = no_way own
op_is sections (step_actor.Cpu cpu) step_op.Clean own is = no_way own
op_is sections step_actor.Manager (step_op.Open key section index size) own is = no_way own
op_is sections step_actor.Manager (step_op.Close key) own is = no_way own
op_is sections step_actor.Manager (step_op.Split key parts first) own is = no_way own
op_is sections step_actor.Manager (step_op.Swap one two) own is = no_way own
op_is sections step_actor.Manager (step_op.Trim key bytes) own is = no_way own
op_is sections step_actor.Manager (step_op.Enter section) own is = no_way own
op_is sections step_actor.Manager (step_op.Leave section) own is = no_way own
op_is sections step_actor.Manager (step_op.Load section) own is = record { behind_kernel = is.0; has_section = is.1 }
op_is sections step_actor.Manager (step_op.Unload section) own is = record { behind_kernel = is.0; has_section = is.1 }
op_is sections step_actor.Manager step_op.Clean own is = tt

pub act_is : (cpus area : ℕ) (sections : List Section) (a : StepAct) → IsStepAct cpus sections a → IsAct (fresh (shape_of cpus area) sections) a
act_is cpus area sections (step_act.Do (step_actor.Cpu cpu) what) is = (is.0, op_is sections (step_actor.Cpu cpu) what is.1 is.2)
act_is cpus area sections (step_act.Do step_actor.Manager what) is = (tt, op_is sections step_actor.Manager what is.1 is.2)
act_is cpus area sections (step_act.Go who count) is = tt
act_is cpus area sections step_act.Print is = tt
act_is cpus area sections (step_act.Words section index) is = is

lines_are : (cpus area : ℕ) (sections : List Section) (lines : List StepLine) → AllByRecursion (λ (line : StepLine). IsStepAct cpus sections line.act) lines → AllByRecursion (IsLine (fresh (shape_of cpus area) sections)) lines
lines_are cpus area sections [] are = tt
lines_are cpus area sections (line ∷ lines) are = (act_is cpus area sections line.act are.0, lines_are cpus area sections lines are.1)

pub playable : (steps : Steps) → AreSteps steps → All (IsLine (fresh (shape_of steps.cpus steps.area) steps.sections)) steps.body
playable steps are = All-from_recursion (IsLine (fresh (shape_of steps.cpus steps.area) steps.sections)) steps.body (lines_are steps.cpus steps.area steps.sections steps.body are.acts)

-- the sizes are in their limits, and the sections fit them
pub shape_checked : (steps : Steps) → AreSteps steps → IsChecked (shape_of steps.cpus steps.area)
shape_checked steps are = let a = are.some_cpu in let b = are.few_cpus in let c = are.small_area in record {
  some_cpu = omega arith;
  few_cpus = omega arith;
  some_kernel_tag = omega arith;
  few_kernel_tags = omega arith;
  few_tags = omega arith;
  few_frames = omega arith;
  few_vectors = omega arith;
}

pub sections_fit : (steps : Steps) → AreSteps steps → SectionsFitShape (shape_of steps.cpus steps.area) steps.sections
sections_fit steps are = record {
  kernel = are.some_section;
  kernel_fits = are.sections.within_limits 0 are.some_section;
  some_tag = λ section has. are.tagged section has;
}

-- a fresh core shows that nothing was played
pub fresh_shows : (steps : Steps) (core : CoreState) (text : List ℕ) → core ≡ fresh (shape_of steps.cpus steps.area) steps.sections → text ≡ [] → Shows (setting_of steps) core text (nothing_played (setting_of steps))
fresh_shows steps core text e none = record { core = e ∙ core_of_fresh (shape_of steps.cpus steps.area) steps.sections; text = none }

-- what playing leaves, from a fresh core on, is what the schedule comes to
pub played_all : (steps : Steps) (shape : Shape) (core core_new : CoreState) (lines : List StepLine) (text text_new : List ℕ) (done : Result ⊤ TextError) → lines ≡ steps.body → shape ≡ shape_of steps.cpus steps.area → core ≡ fresh shape steps.sections → text ≡ []
    → ((p : Played) → Shows (own_setting core) core text p → Plays (own_setting core) done core_new text_new (play (own_setting core) lines p))
    → Plays (setting_of steps) done core_new text_new (schedule_of steps)
played_all steps shape core core_new lines text text_new done those is e none f =
    let from : core ≡ fresh (shape_of steps.cpus steps.area) steps.sections = e ∙ ap (λ (x : Shape). fresh x steps.sections) is in
    let same : own_setting core ≡ setting_of steps = ap own_setting from in
    let g : ((p : Played) → Shows (setting_of steps) core text p → Plays (setting_of steps) done core_new text_new (play (setting_of steps) lines p)) =
    subst (λ (x : Setting). (p : Played) → Shows x core text p → Plays x done core_new text_new (play x lines p)) same f in
    subst (λ (l : List StepLine). Plays (setting_of steps) done core_new text_new (play (setting_of steps) l (nothing_played (setting_of steps)))) those (g (nothing_played (setting_of steps)) (fresh_shows steps core text from none))

-- a schedule whose lines were all played ended with its text
pub ends_text : (s : Setting) (core : CoreState) (out : Vec ℕ Global) (meant : Result Played (ℕ × Code)) → Plays s (Ok tt) core out.items meant → Ends s core (end.Text out) meant
ends_text s core out (Ok p) shows = shows
ends_text s core out (Err why) none = none

-- the fresh core's sections stay
pub names_kept : (steps : Steps) (shape : Shape) (core core_new : CoreState) → core ≡ fresh shape steps.sections → SameSizes core core_new → core_new.sections ≡ steps.sections
names_kept steps shape core core_new e same = same.sections ∙ ap (λ (c : CoreState). c.sections) e
