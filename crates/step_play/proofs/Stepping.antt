-- Steps one after the other.
use Rattle.std.proofs.Common.{◌≡◌, ℕ, zero, suc, ◌+◌, ◌<◌, ◌≤◌, ◌==◌, List, [], ◌∷◌, ◌++◌, refl, sym, ap, ◌∙◌, subst, arith, Result, Ok, Err, Bool, true, false, IsTrue, ◌↔◌, length, drop, get_or}
use Rattle.std.proofs.Math.Seq.{drop-cons}
use Rattle.tag_model.specs.declared.shape.Shape.{Shape}
use Rattle.core_steps.specs.declared.op.Actor.{Actor}
use Rattle.core_steps.specs.declared.op.Op.{Op}
use Rattle.core_steps.specs.StepsLeft.{steps_left}
use Rattle.core_steps.specs.CoreState.{CoreState, ops_of}
use Rattle.std.proofs.lemmas.Bool.Decides.{nat_tests}
use Rattle.input_form.specs.declared.code.Code.{Code}
use Rattle.input_form.specs.Judging.{◌>>=◌, at}
use Rattle.input_form.specs.declared.code.TextError.{TextError}
use Rattle.input_form.specs.declared.code.TextError.TheVariants as text_error
use Rattle.step_text.specs.declared.steps.StepLine.{StepLine}
use Rattle.input_form.specs.declared.line_error.LineError.{LineError}
use Rattle.input_form.specs.declared.line_error.LineError.TheVariants as error
use Rattle.step_play.specs.Printed.{Setting}
use Rattle.step_play.specs.Schedule.{Played, one_step, steps_taken, with_text, play, act_on, setting, core_played, is_idle, all_taken, ◌then◌}
use Rattle.step_play.specs.Playing.{Shows, Follows, SameSizes, Plays, own_setting}

-- what a loop of steps keeps: somebody played so far, and what is left from there is all
pub record Goes (s : Setting) (who : Actor) (now : CoreState) (text : List ℕ) (left n : ℕ) (start : Played) : Type 0 where
  pub played : Played
  pub shows : Shows s now text played
  pub rest : steps_taken s who n start ≡ steps_taken s who left played

pub goes_first : (s : Setting) (who : Actor) (now : CoreState) (text : List ℕ) (left n : ℕ) (start : Played) → left ≡ n → Shows s now text start → Goes s who now text left n start
goes_first s who now text left n start e shows = rw e (record { played = start; shows = shows; rest = refl })

stepped_on : (s : Setting) (who : Actor) (next : CoreState) (text : List ℕ) (left n : ℕ) (start q : Played) → steps_taken s who n start ≡ steps_taken s who (suc left) q
    → (X : Type 0) (x : X) (r : Result Played Code) → one_step s who q ≡ r → Follows s (Ok x) next text r → Goes s who next text left n start
stepped_on s who next text left n start q rest X x (Ok p) e f = record { played = p; shows = f; rest = rest ∙ ap (λ (r : Result Played Code). r >>= steps_taken s who left) e }
stepped_on s who next text left n start q rest X x (Err why) e f = absurd f

-- one more
pub goes_on : (s : Setting) (who : Actor) (now next : CoreState) (text written : List ℕ) (before left n : ℕ) (start : Played) (X : Type 0) (x : X) → before ≡ suc left → (g : Goes s who now text before n start)
    → Follows s (Ok x) next written (one_step s who g.played) → Goes s who next written left n start
goes_on s who now next text written before left n start X x e g f =
    stepped_on s who next written left n start g.played (g.rest ∙ ap (λ (k : ℕ). steps_taken s who k g.played) e) X x (one_step s who g.played) refl f

-- a step that is refused ends all
pub goes_err : (s : Setting) (who : Actor) (now next : CoreState) (text written : List ℕ) (before n : ℕ) (start : Played) (X Y : Type 0) (e : LineError) → 0 < before → (g : Goes s who now text before n start)
    → Follows {X = X} s (Err e) next written (one_step s who g.played) → Follows {X = Y} s (Err e) next written (steps_taken s who n start)
goes_err s who now next text written zero n start X Y e h g f = absurd (omega arith)
goes_err s who now next text written (suc left) n start X Y (error.Refused why) h g f = g.rest ∙ ap (λ (r : Result Played Code). r >>= steps_taken s who left) f
goes_err s who now next text written (suc left) n start X Y (error.Memory want) h g f = tt

pub goes_end : (s : Setting) (who : Actor) (now : CoreState) (text : List ℕ) (left n : ℕ) (start : Played) (X : Type 0) (x : X) → left ≡ 0 → (g : Goes s who now text left n start) → Follows s (Ok x) now text (steps_taken s who n start)
goes_end s who now text left n start X x e g = rw (g.rest ∙ ap (λ (k : ℕ). steps_taken s who k g.played) e) g.shows

-- an actor that isn't idle has a step left
pub some_left : (left : ℕ) (idle : Bool) → (IsTrue idle ↔ (left ≡ 0)) → idle ≡ false → 0 < left
some_left zero idle told h = let yes : idle ≡ true = told.1 refl in cc
some_left (suc n) idle told h = omega arith

-- ---- until the actor is idle

-- somebody played so far, what is left from there is all, and there are enough turns left
pub record GoesAll (s : Setting) (who : Actor) (now : CoreState) (text : List ℕ) (n : ℕ) (start : Played) : Type 0 where
  pub played : Played
  pub shows : Shows s now text played
  pub left : ℕ
  pub enough : steps_left now who ≤ left
  pub rest : all_taken s who n start ≡ all_taken s who left played

pub all_first : (s : Setting) (who : Actor) (now : CoreState) (text : List ℕ) (start : Played) → Shows s now text start → GoesAll s who now text (steps_left (core_played s start) who) start
all_first s who now text start shows = record { played = start; shows = shows; left = steps_left (core_played s start) who; enough = let e = ap (λ (c : CoreState). steps_left c who) shows.core in omega arith; rest = refl }

-- an actor that isn't idle takes a step, where there is a turn left
not_idle : (s : Setting) (who : Actor) (n : ℕ) (p : Played) → is_idle s who p ≡ false → all_taken s who (suc n) p ≡ (one_step s who p >>= all_taken s who n)
not_idle s who n p busy = rw busy refl

idle_ops : (ops : List Op) (idle : Bool) → (IsTrue idle ↔ (ops ≡ [])) → (length ops == 0) ≡ idle
idle_ops [] true told = refl
idle_ops [] false told = let yes : false ≡ true = told.1 refl in cc
idle_ops (op ∷ ops) true told = let none = told.0 refl in cc
idle_ops (op ∷ ops) false told = grind (arith, nat_tests)

idle_shown : (s : Setting) (who : Actor) (now : CoreState) (text : List ℕ) (p : Played) (idle : Bool) → Shows s now text p → (IsTrue idle ↔ (ops_of now who ≡ [])) → is_idle s who p ≡ idle
idle_shown s who now text p idle shows told = ap (λ (c : CoreState). length (ops_of c who) == 0) (sym shows.core) ∙ idle_ops (ops_of now who) idle told

all_stepped : (s : Setting) (who : Actor) (next : CoreState) (text : List ℕ) (n left : ℕ) (start q : Played) → steps_left next who ≤ left → all_taken s who n start ≡ (one_step s who q >>= all_taken s who left)
    → (X : Type 0) (x : X) (r : Result Played Code) → one_step s who q ≡ r → Follows s (Ok x) next text r → GoesAll s who next text n start
all_stepped s who next text n left start q enough rest X x (Ok p) e f = record { played = p; shows = f; left = left; enough = enough; rest = rest ∙ ap (λ (r : Result Played Code). r >>= all_taken s who left) e }
all_stepped s who next text n left start q enough rest X x (Err why) e f = absurd f

-- one more
pub all_on : (s : Setting) (who : Actor) (now next : CoreState) (text written : List ℕ) (n : ℕ) (start : Played) (idle : Bool) (X : Type 0) (x : X) → (IsTrue idle ↔ (ops_of now who ≡ [])) → idle ≡ false → steps_left next who < steps_left now who
    → (g : GoesAll s who now text n start) → Follows s (Ok x) next written (one_step s who g.played) → GoesAll s who next written n start
all_on s who now next text written n start idle X x told busy less g f = go g.left g.enough g.rest
  where
    go : (left : ℕ) → steps_left now who ≤ left → all_taken s who n start ≡ all_taken s who left g.played → GoesAll s who next written n start
    go zero enough rest = absurd (omega arith)
    go (suc left) enough rest = all_stepped s who next written n left start g.played (omega arith) (rest ∙ not_idle s who left g.played (idle_shown s who now text g.played idle g.shows told ∙ busy)) X x (one_step s who g.played) refl f

-- a step that is refused ends all
pub all_err : (s : Setting) (who : Actor) (now next : CoreState) (text written : List ℕ) (n : ℕ) (start : Played) (idle : Bool) (X Y : Type 0) (e : LineError) → (IsTrue idle ↔ (ops_of now who ≡ [])) → (IsTrue idle ↔ (steps_left now who ≡ 0)) → idle ≡ false
    → (g : GoesAll s who now text n start) → Follows {X = X} s (Err e) next written (one_step s who g.played) → Follows {X = Y} s (Err e) next written (all_taken s who n start)
all_err s who now next text written n start idle X Y (error.Memory want) told none busy g f = tt
all_err s who now next text written n start idle X Y (error.Refused why) told none busy g f = go g.left g.enough g.rest
  where
    go : (left : ℕ) → steps_left now who ≤ left → all_taken s who n start ≡ all_taken s who left g.played → all_taken s who n start ≡ Err why
    go zero enough rest = let some = some_left (steps_left now who) idle none busy in absurd (omega arith)
    go (suc left) enough rest = rest ∙ not_idle s who left g.played (idle_shown s who now text g.played idle g.shows told ∙ busy) ∙ ap (λ (r : Result Played Code). r >>= all_taken s who left) f

all_idle : (s : Setting) (who : Actor) (left : ℕ) (p : Played) → is_idle s who p ≡ true → all_taken s who left p ≡ Ok p
all_idle s who zero p idle = refl
all_idle s who (suc n) p idle = rw idle refl

pub all_end : (s : Setting) (who : Actor) (now : CoreState) (text : List ℕ) (n : ℕ) (start : Played) (idle : Bool) (X : Type 0) (x : X) → (IsTrue idle ↔ (ops_of now who ≡ [])) → idle ≡ true → (g : GoesAll s who now text n start)
    → Follows s (Ok x) now text (all_taken s who n start)
all_end s who now text n start idle X x told none g = rw (g.rest ∙ all_idle s who g.left g.played (idle_shown s who now text g.played idle g.shows told ∙ none)) g.shows

pub same_sizes : (c : CoreState) → SameSizes c c
same_sizes c = record { shape = refl; sections = refl }

pub sizes_kept : (a b c : CoreState) → SameSizes a b → SameSizes b c → SameSizes a c
sizes_kept a b c h g = record { shape = g.shape ∙ h.shape; sections = g.sections ∙ h.sections }

-- more text
pub text_shown : (s : Setting) (now : CoreState) (old new more : List ℕ) (p : Played) → Shows s now old p → new ≡ old ++ more → Shows s now new (with_text more p)
text_shown s now old new more p shows e = record { core = shows.core; text = e ∙ ap (λ (t : List ℕ). t ++ more) shows.text }

-- what a loop over lines keeps
pub record Reaches (s : Setting) (now : CoreState) (text : List ℕ) (left all : List StepLine) (start : Played) : Type 0 where
  pub played : Played
  pub shows : Shows s now text played
  pub rest : play s all start ≡ play s left played

then_on : (s : Setting) (next : CoreState) (text : List ℕ) (left all : List StepLine) (start : Played) (r : Result Played (ℕ × Code)) → play s all start ≡ (r then play s left) → Plays s (Ok tt) next text r → Reaches s next text left all start
then_on s next text left all start (Ok p) rest f = record { played = p; shows = f; rest = rest }
then_on s next text left all start (Err why) rest f = absurd f

pub reaches_on : (s : Setting) (now next : CoreState) (text written : List ℕ) (line : StepLine) (left all : List StepLine) (start : Played) (g : Reaches s now text (line ∷ left) all start)
    → Plays s (Ok tt) next written (at line.line (act_on s line.act g.played)) → Reaches s next written left all start
reaches_on s now next text written line left all start g f = then_on s next written left all start (at line.line (act_on s line.act g.played)) g.rest f

pub reaches_err : (s : Setting) (now next : CoreState) (text written : List ℕ) (line : StepLine) (left all : List StepLine) (start : Played) (e : TextError) (g : Reaches s now text (line ∷ left) all start)
    → Plays s (Err e) next written (at line.line (act_on s line.act g.played)) → Plays s (Err e) next written (play s all start)
reaches_err s now next text written line left all start (text_error.Refused number code) g f = g.rest ∙ ap (λ (r : Result Played (ℕ × Code)). r then play s left) f
reaches_err s now next text written line left all start (text_error.Memory want) g f = tt

pub reaches_end : (s : Setting) (now : CoreState) (text : List ℕ) (all : List StepLine) (start : Played) (g : Reaches s now text [] all start) → Plays s (Ok tt) now text (play s all start)
reaches_end s now text all start g = rw g.rest g.shows

-- a line that was played, whatever the loop's core calls the same setting
pub reaches_line : (s own : Setting) (now next : CoreState) (text written : List ℕ) (line d : StepLine) (lines : List StepLine) (index : ℕ) (start : Played) → own ≡ s → index < length lines → line ≡ get_or lines index d
    → (g : Reaches s now text (drop index lines) lines start)
    → ((p : Played) → Shows own now text p → Plays own (Ok tt) next written (at line.line (act_on own line.act p)))
    → Reaches s next written (drop (index + 1) lines) lines start
reaches_line s own now next text written line d lines index start e h is g f =
    let plus_one : index + 1 ≡ suc index = omega arith in
    let g' : Reaches s now text (line ∷ drop (index + 1) lines) lines start = rw plus_one (rw is (rw (sym (drop-cons lines index d h)) g)) in
    let f' : ((p : Played) → Shows s now text p → Plays s (Ok tt) next written (at line.line (act_on s line.act p))) =
    subst (λ (x : Setting). (p : Played) → Shows x now text p → Plays x (Ok tt) next written (at line.line (act_on x line.act p))) e f in
    reaches_on s now next text written line (drop (index + 1) lines) lines start g' (f' g'.played g'.shows)

pub reaches_refused : (s own : Setting) (now next : CoreState) (text written : List ℕ) (line d : StepLine) (lines : List StepLine) (index : ℕ) (start : Played) (why : TextError) → own ≡ s → index < length lines → line ≡ get_or lines index d
    → (g : Reaches s now text (drop index lines) lines start)
    → ((p : Played) → Shows own now text p → Plays own (Err why) next written (at line.line (act_on own line.act p)))
    → Plays s (Err why) next written (play s lines start)
reaches_refused s own now next text written line d lines index start why e h is g f =
    let plus_one : index + 1 ≡ suc index = omega arith in
    let g' : Reaches s now text (line ∷ drop (index + 1) lines) lines start = rw plus_one (rw is (rw (sym (drop-cons lines index d h)) g)) in
    let f' : ((p : Played) → Shows s now text p → Plays s (Err why) next written (at line.line (act_on s line.act p))) =
    subst (λ (x : Setting). (p : Played) → Shows x now text p → Plays x (Err why) next written (at line.line (act_on x line.act p))) e f in
    reaches_err s now next text written line (drop (index + 1) lines) lines start why g' (f' g'.played g'.shows)

-- the loop's core has the setting of the first
pub own_kept : (first now : CoreState) → SameSizes first now → own_setting now ≡ own_setting first
own_kept first now same = ap (λ (k : Shape). setting k now.sections) same.shape ∙ ap (setting first.shape) same.sections
