-- Every state that a schedule passes through is that of a core.
use Rattle.std.proofs.Common.{◌≡◌, ℕ, zero, suc, ◌+◌, ◌<◌, ◌==◌, nat_lt, List, [], ◌∷◌, length, map, refl, sym, ap, ◌∙◌, subst, arith, append-nil, add-zero, ◌≤◌, ◌++◌, Option, Some, None, Bool, true, false, cond, Result, Ok, Err}
use Rattle.std.proofs.lemmas.Bool.{eqb-true}
use Rattle.std.specs.List.{AllByRecursion}
use Rattle.tag_model.specs.declared.state.Kind.{Kind}
use Rattle.tag_model.specs.Laws.{live_of}
use Rattle.tag_model.specs.Reference.{live_total}
use Rattle.tag_model.specs.Wrap.{wrap}
use Rattle.core_steps.specs.declared.op.Actor.{Actor}
use Rattle.core_steps.specs.declared.op.Actor.TheVariants as actor
use Rattle.core_steps.specs.declared.op.Op.{Op}
use Rattle.cpu_ops.specs.declared.op.CpuOp.{CpuOp}
use Rattle.cpu_ops.specs.declared.refused.StepRefused.{StepRefused}
use Rattle.module_ops.specs.declared.op.ManagerOp.{ManagerOp}
use Rattle.cpu_ops.specs.Machine.{hand_at, no_places}
use Rattle.core_steps.specs.CoreState.{CoreState, IsCore, IsActor, IsOpOf, event_of, fresh, cpu_op, manager_op, of_cpu, of_manager, ops_of, queued, queued_cpu, queued_manager, reads_of, refused, state_after, stepped, word_state}
use Rattle.module_ops.specs.Modules.{managed}
use Rattle.core_steps.specs.Moved.{core_of}
use Rattle.tag_model.specs.Moves.{Move}
use Rattle.core_steps.specs.Release.{IfReleases}
use Rattle.core_steps.specs.StepsLeft.{steps_left}
use Rattle.core_steps.proofs.Fresh.{core_fresh}
use Rattle.core_steps.proofs.Kept.{gone}
use Rattle.core_steps.proofs.Left.{left_after, left_none}
use Rattle.core_steps.proofs.ManagerLeft.{manager_idle, manager_left}
use Rattle.core_steps.proofs.ManagerRow.{manager_row}
use Rattle.tag_model.specs.StepRules.{StepsWith}
use Rattle.core_steps.proofs.ManagerRelease.{manager_releases}
use Rattle.core_steps.proofs.Meaning.{core_of_fresh, moved_after, managed_after}
use Rattle.core_steps.proofs.Queued.{core_queued}
use Rattle.core_steps.proofs.Quiet.{quiet_totals}
use Rattle.input_form.specs.declared.code.Code.{Code}
use Rattle.input_form.specs.declared.code.Code.TheVariants as code
use Rattle.step_text.specs.declared.steps.StepAct.{StepAct}
use Rattle.step_text.specs.declared.steps.StepAct.TheVariants as act
use Rattle.step_text.specs.declared.steps.StepActor.TheVariants as step_actor
use Rattle.step_text.specs.declared.steps.StepLine.{StepLine}
use Rattle.step_text.specs.declared.steps.Steps.{Steps}
use Rattle.input_form.specs.Judging.{◌>>=◌, at}
use Rattle.step_text.specs.StepForm.{AreSteps, IsStepAct}
use Rattle.step_play.specs.Acts.{actor_of, op_of}
use Rattle.step_play.specs.Printed.{Setting, total_moved}
use Rattle.step_play.specs.Reached.{Reached, IsSetting, IsLineOf, PassesThrough}
use Rattle.step_play.specs.Schedule.{Played, core_played, nothing_played, with_step, with_queued, unless_refused, one_step, steps_taken, all_taken, is_idle, queues_on, steps_on, words_of, number_of, act_on, play, setting_of, shape_of, ◌then◌}
use Rattle.step_play.specs.Playing.{IsAct}
use Rattle.step_play.proofs.Lines.{act_is, shape_checked, sections_fit}
use Rattle.step_play.proofs.Totals.{total_here}
use Rattle.core_steps.proofs.Stepping.{steps_core}

-- ---- a reached state is that of a core

first_core : (s : Setting) → IsSetting s → IsCore (core_played s (nothing_played s))
unfolding no_places
first_core s is = subst IsCore (core_of_fresh s.shape s.sections) (core_fresh s.shape s.sections _ _ _ is.shape is.sections refl refl refl)

-- the core that a step leads to is that of what was played with it
step_shown : (s : Setting) (p : Played) (who : Actor) → IsCore (core_played s p) → refused (core_played s p) who ≡ None → stepped (core_played s p) who ≡ core_played s (with_step s who p)
step_shown s p (actor.Cpu cpu) core none = moved_after (core_played s p) cpu p.moves core none refl
step_shown s p actor.Manager core none =
    managed_after (core_played s p) p.moves refl
    ∙ ap (λ (moves : List Move). core_of s.shape s.sections p.machine (managed s.shape s.sections (core_played s p).words p.modules) moves) (sym (append-nil p.moves))

step_core : (s : Setting) (p : Played) (who : Actor) → IsCore (core_played s p) → refused (core_played s p) who ≡ None → IsCore (core_played s (with_step s who p))
step_core s p who core none = subst IsCore (step_shown s p who core none) (steps_core (core_played s p) who core none)

stepped_row : (s : CoreState) (who : Actor) → IsCore s → refused s who ≡ None → (reads : ℕ) → StepsWith s.shape (state_after reads s) (state_after (reads + reads_of s who) (stepped s who))
stepped_row s (actor.Cpu cpu) core none reads = rw add-zero ((gone s cpu core none).steps reads)
stepped_row s actor.Manager core none reads = manager_row s core none reads

-- the core in which an op is queued is that of what was played with it
queued_shown : (s : Setting) (p : Played) (who : Actor) (op : Op) → queued (core_played s p) who op ≡ core_played s (with_queued s who op p)
queued_shown s p (actor.Cpu cpu) op = go (cpu_op op)
  where
    go : (o : Option CpuOp) → queued_cpu (core_played s p) cpu o ≡ core_of s.shape s.sections (queued_cpu (core_played s p) cpu o).machine (queued_cpu (core_played s p) cpu o).modules p.moves
    go None = refl
    go (Some own) = refl
queued_shown s p actor.Manager op = go (manager_op op)
  where
    go : (o : Option ManagerOp) → queued_manager (core_played s p) o ≡ core_of s.shape s.sections (queued_manager (core_played s p) o).machine (queued_manager (core_played s p) o).modules p.moves
    go None = refl
    go (Some own) = refl

queue_core : (s : Setting) (p : Played) (who : Actor) (op : Op) → IsCore (core_played s p) → IsActor (core_played s p) who → IsOpOf s.sections who op → IsCore (core_played s (with_queued s who op p))
queue_core s p who op core below is = subst IsCore (queued_shown s p who op) (core_queued (core_played s p) who op core below is)

pub reached_core : (s : Setting) (p : Played) → IsSetting s → Reached s p → IsCore (core_played s p)
reached_core s p is Reached.first = first_core s is
reached_core s p is (Reached.steps {p = q} who r none) = step_core s q who (reached_core s q is r) none
reached_core s p is (Reached.queues {p = q} who op r of op_is) = queue_core s q who op (reached_core s q is r) of op_is
reached_core s p is (Reached.prints {p = q} more r) = reached_core s q is r

-- a step from a reached state to the next is one of the step rules, words and all
pub reached_row : (s : Setting) (p : Played) (who : Actor) → IsSetting s → Reached s p → refused (core_played s p) who ≡ None → (reads : ℕ)
    → StepsWith s.shape (state_after reads (core_played s p)) (state_after (reads + reads_of (core_played s p) who) (core_played s (with_step s who p)))
reached_row s p who is r none reads =
    let core = reached_core s p is r in
    subst (λ (next : CoreState). StepsWith s.shape (state_after reads (core_played s p)) (state_after (reads + reads_of (core_played s p) who) next)) (step_shown s p who core none)
    (stepped_row (core_played s p) who core none reads)

pub reached_releases : (s : Setting) (p : Played) (who : Actor) → IsSetting s → Reached s p → refused (core_played s p) who ≡ None → IfReleases (core_played s p) (event_of (core_played s p) who)
reached_releases s p (actor.Cpu cpu) is r none = tt
reached_releases s p actor.Manager is r none = manager_releases (core_played s p) (reached_core s p is r) none

pub reached_quiet : (s : Setting) (p : Played) (kind : Kind) (t : ℕ) → IsSetting s → Reached s p → ((cpu : ℕ) → cpu < s.shape.cpus → hand_at p.machine cpu ≡ None) → t < s.shape.tags
    → total_moved s.shape.cpus p.moves kind t ≡ wrap (live_total kind t (live_of (word_state (core_played s p))))
reached_quiet s p kind t is r quiet below = sym (total_here s.shape.cpus s.shape.tags p.moves kind t below) ∙ quiet_totals (core_played s p) kind t (reached_core s p is r) quiet

-- ---- what is played is reached

refused_reaches : (s : Setting) (who : Actor) (p q : Played) (o : Option StepRefused) → Reached s p → refused (core_played s p) who ≡ o → unless_refused o (with_step s who p) ≡ Ok q → Reached s q
refused_reaches s who p q None r none is = let same : with_step s who p ≡ q = cc in subst (Reached s) same (Reached.steps who r none)
refused_reaches s who p q (Some why) r none is = cc

step_reaches : (s : Setting) (who : Actor) (p q : Played) → Reached s p → one_step s who p ≡ Ok q → Reached s q
step_reaches s who p q r is = refused_reaches s who p q (refused (core_played s p) who) r refl is

-- what a chain gave
bound_ok : (r : Result Played Code) (f : Played → Result Played Code) (q : Played) → (r >>= f) ≡ Ok q → (p : Played) × (r ≡ Ok p) × (f p ≡ Ok q)
bound_ok (Ok p) f q is = (p, refl, is)
bound_ok (Err e) f q is = cc

steps_reach : (s : Setting) (who : Actor) (n : ℕ) (p q : Played) → Reached s p → steps_taken s who n p ≡ Ok q → Reached s q
steps_reach s who zero p q r is = let same : p ≡ q = cc in subst (Reached s) same r
steps_reach s who (suc n) p q r is = let b = bound_ok (one_step s who p) (steps_taken s who n) q is in steps_reach s who n b.0 q (step_reaches s who p b.0 r b.1) b.2

all_reach : (s : Setting) (who : Actor) (n : ℕ) (p q : Played) → Reached s p → all_taken s who n p ≡ Ok q → Reached s q
all_reach s who zero p q r is = let same : p ≡ q = cc in subst (Reached s) same r
all_reach s who (suc n) p q r is = go (is_idle s who p) (λ m is_one rest. all_reach s who n m q (step_reaches s who p m r is_one) rest) is
  where
    go : (idle : Bool) → ((m : Played) → one_step s who p ≡ Ok m → all_taken s who n m ≡ Ok q → Reached s q) → cond idle (Ok p) (one_step s who p >>= all_taken s who n) ≡ Ok q → Reached s q
    go true later e = let same : p ≡ q = cc in subst (Reached s) same r
    go false later e = let b = bound_ok (one_step s who p) (all_taken s who n) q e in later b.0 b.1 b.2

same_ok : (x y : Played) → ◌≡◌ {A = Result Played Code} (Ok x) (Ok y) → x ≡ y
same_ok x y e = cc

words_reach : (s : Setting) (section : ℕ) (number : Option ℕ) (p q : Played) → Reached s p → words_of s section number p ≡ Ok q → Reached s q
words_reach s section None p q r is = cc
words_reach s section (Some number) p q r is = subst (Reached s) (same_ok _ q is) (Reached.prints _ r)

-- the sizes and the sections are always those of the setting
act_anywhere : (s : Setting) (p q : Played) (a : StepAct) → IsAct (core_played s p) a → IsAct (core_played s q) a
act_anywhere s p q (act.Do (step_actor.Cpu cpu) what) is = is
act_anywhere s p q (act.Do step_actor.Manager what) is = is
act_anywhere s p q (act.Go who count) is = is
act_anywhere s p q act.Print is = is
act_anywhere s p q (act.Words section index) is = is

queue_reaches : (s : Setting) (who : Actor) (op : Op) (p q : Played) → Reached s p → IsActor (core_played s p) who → IsOpOf s.sections who op → queues_on s who op p ≡ Ok q → Reached s q
queue_reaches s who op p q r of op_is is = go (nat_lt (length (ops_of (core_played s p) who)) 65536) is
  where
    go : (room : Bool) → cond room (Ok (with_queued s who op p)) (Err code.Queue) ≡ Ok q → Reached s q
    go true e = let same : with_queued s who op p ≡ q = cc in subst (Reached s) same (Reached.queues who op r of op_is)
    go false e = cc

act_reaches : (s : Setting) (a : StepAct) (p q : Played) → Reached s p → IsAct (core_played s p) a → act_on s a p ≡ Ok q → Reached s q
act_reaches s (act.Do who what) p q r a is = queue_reaches s (actor_of who) (op_of what) p q r a.0 a.1 is
act_reaches s (act.Go who None) p q r a is = all_reach s (actor_of who) (steps_left (core_played s p) (actor_of who)) p q r is
act_reaches s (act.Go who (Some n)) p q r a is = steps_reach s (actor_of who) n p q r is
act_reaches s act.Print p q r a is = subst (Reached s) (same_ok _ q is) (Reached.prints _ r)
act_reaches s (act.Words section index) p q r a is = words_reach s section (number_of section index p) p q r is

line_ok : (s : Setting) (number : ℕ) (r : Result Played Code) (lines : List StepLine) (q : Played) → (at number r then play s lines) ≡ Ok q → (p : Played) × (r ≡ Ok p) × (play s lines p ≡ Ok q)
line_ok s number (Ok p) lines q is = (p, refl, is)
line_ok s number (Err e) lines q is = cc

lines_reach : (s : Setting) (lines : List StepLine) (p q : Played) → AllByRecursion (IsLineOf s) lines → Reached s p → play s lines p ≡ Ok q → Reached s q
lines_reach s [] p q all r is = let same : p ≡ q = cc in subst (Reached s) same r
lines_reach s (line ∷ lines) p q all r is =
    let b = line_ok s line.line (act_on s line.act p) lines q is in
    lines_reach s lines b.0 q all.1 (act_reaches s line.act p b.0 r (act_anywhere s (nothing_played s) p line.act all.0) b.1) b.2

pub play_reaches : (s : Setting) (lines : List StepLine) (q : Played) → AllByRecursion (IsLineOf s) lines → play s lines (nothing_played s) ≡ Ok q → Reached s q
play_reaches s lines q all is = lines_reach s lines (nothing_played s) q all Reached.first is

-- ---- `all` ends idle

stepped_left : (s : CoreState) (who : Actor) → IsCore s → refused s who ≡ None → steps_left (stepped s who) who < steps_left s who
stepped_left s (actor.Cpu cpu) core none = omega (arith, left_after s cpu core none)
stepped_left s actor.Manager core none = manager_left s core none

step_left : (s : Setting) (p : Played) (who : Actor) → IsCore (core_played s p) → refused (core_played s p) who ≡ None → steps_left (core_played s (with_step s who p)) who < steps_left (core_played s p) who
step_left s p who core none =
    subst (λ (next : CoreState). steps_left next who < steps_left (core_played s p) who) (step_shown s p who core none) (stepped_left (core_played s p) who core none)

none_left : (s : CoreState) (who : Actor) → IsCore s → steps_left s who ≡ 0 → ops_of s who ≡ []
none_left s (actor.Cpu cpu) core h = ap (map of_cpu) (left_none s cpu core h)
none_left s actor.Manager core h = ap (map of_manager) ((manager_idle s core).0 h)

no_ops : (ops : List Op) → (length ops == 0) ≡ true → ops ≡ []
no_ops [] e = refl
no_ops (op ∷ ops) e = let zero = eqb-true (length (op ∷ ops)) 0 e in absurd (omega (arith, zero))

-- a step that is taken isn't refused
one_was : (s : Setting) (who : Actor) (p q : Played) (o : Option StepRefused) → refused (core_played s p) who ≡ o → unless_refused o (with_step s who p) ≡ Ok q → (refused (core_played s p) who ≡ None) × (with_step s who p ≡ q)
one_was s who p q None none is = (none, cc)
one_was s who p q (Some why) none is = cc

-- with enough turns
all_ends : (s : Setting) (who : Actor) (n : ℕ) (p q : Played) → IsSetting s → Reached s p → steps_left (core_played s p) who ≤ n → all_taken s who n p ≡ Ok q → ops_of (core_played s q) who ≡ []
all_ends s who zero p q is r enough e =
    let same : p ≡ q = cc in
    subst (λ (x : Played). ops_of (core_played s x) who ≡ []) same (none_left (core_played s p) who (reached_core s p is r) (omega arith))
all_ends s who (suc n) p q is r enough e = go (is_idle s who p) refl (λ m one rest fewer. all_ends s who n m q is (step_reaches s who p m r one) fewer rest) e
  where
    go : (idle : Bool) → is_idle s who p ≡ idle → ((m : Played) → one_step s who p ≡ Ok m → all_taken s who n m ≡ Ok q → steps_left (core_played s m) who ≤ n → ops_of (core_played s q) who ≡ [])
        → cond idle (Ok p) (one_step s who p >>= all_taken s who n) ≡ Ok q → ops_of (core_played s q) who ≡ []
    go true idle later e = let same : p ≡ q = cc in subst (λ (x : Played). ops_of (core_played s x) who ≡ []) same (no_ops (ops_of (core_played s p) who) idle)
    go false busy later e =
        let b = bound_ok (one_step s who p) (all_taken s who n) q e in
        let was = one_was s who p b.0 (refused (core_played s p) who) refl b.1 in
        let less : steps_left (core_played s b.0) who < steps_left (core_played s p) who =
        subst (λ (x : Played). steps_left (core_played s x) who < steps_left (core_played s p) who) was.1 (step_left s p who (reached_core s p is r) was.0) in
        later b.0 b.1 b.2 (omega (arith, less, enough))

pub all_idle : (s : Setting) (who : Actor) (p q : Played) → IsSetting s → Reached s p → steps_on s who None p ≡ Ok q → ops_of (core_played s q) who ≡ []
all_idle s who p q is r e = all_ends s who (steps_left (core_played s p) who) p q is r (omega arith) e

-- ---- a schedule that is read

pub setting_is : (steps : Steps) → AreSteps steps → IsSetting (setting_of steps)
setting_is steps are = record { shape = shape_checked steps are; sections = sections_fit steps are }

-- a fresh core has the sizes and the sections of the setting
act_fresh : (steps : Steps) (a : StepAct) → IsAct (fresh (shape_of steps.cpus steps.area) steps.sections) a → IsAct (core_played (setting_of steps) (nothing_played (setting_of steps))) a
act_fresh steps (act.Do (step_actor.Cpu cpu) what) is = is
act_fresh steps (act.Do step_actor.Manager what) is = is
act_fresh steps (act.Go who count) is = is
act_fresh steps act.Print is = is
act_fresh steps (act.Words section index) is = is

lines_ask : (steps : Steps) (lines : List StepLine) → AllByRecursion (λ (line : StepLine). IsStepAct steps.cpus steps.sections line.act) lines → AllByRecursion (IsLineOf (setting_of steps)) lines
lines_ask steps [] all = tt
lines_ask steps (line ∷ lines) all = (act_fresh steps line.act (act_is steps.cpus steps.area steps.sections line.act all.0), lines_ask steps lines all.1)

pub schedule_asks : (steps : Steps) → AreSteps steps → AllByRecursion (IsLineOf (setting_of steps)) steps.body
schedule_asks steps are = lines_ask steps steps.body are.acts

first_all : {X : Type 0} (P : X → Type 0) (front back : List X) → AllByRecursion P (front ++ back) → AllByRecursion P front
first_all P [] back all = tt
first_all P (x ∷ front) back all = (all.0, first_all P front back all.1)

-- the first lines of a schedule, and then some steps
pub passed : (steps : Steps) (q : Played) → AreSteps steps → PassesThrough steps q → Reached (setting_of steps) q
passed steps q are p =
    let s = setting_of steps in
    let asks = subst (AllByRecursion (IsLineOf s)) p.split (schedule_asks steps are) in
    steps_reach s p.who p.count p.before q (play_reaches s p.front p.before (first_all (IsLineOf s) p.front p.back asks) p.lines) p.on
