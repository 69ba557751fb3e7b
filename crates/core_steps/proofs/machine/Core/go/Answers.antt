use Rattle.std.proofs.Common.{OnOk, OnErr, IfOk, IsOkAnd, Some, ap, Result, Ok, Err, ◌≡◌, ◌+◌, ◌<◌, ℕ, List, ◌∙◌, add-zero, arith, subst, sym, Option, None}
use Rattle.tag_model.specs.StepRules.{StepsWith}
use Rattle.core_steps.specs.declared.op.Actor.{Actor}
use Rattle.core_steps.specs.declared.op.Actor.TheVariants as actor
use Rattle.module_ops.specs.declared.event.Event.{Event}
use Rattle.cpu_ops.specs.declared.refused.StepRefused.{StepRefused}
use Rattle.core_steps.specs.CoreState.{CoreState, IsCore, refused, stepped, event_of, state_after, reads_of}
use Rattle.core_steps.specs.Release.{IfKept, IfReleases, IsKept, TellsRelease}
use Rattle.module_area.specs.Entries.{entry_of}
use Rattle.module_area.specs.declared.entry.Entry.{Entry}
use Rattle.module_ops.specs.Modules.{cause_of}
use Rattle.tag_model.specs.declared.state.Kind.{Kind}
use Rattle.core_steps.proofs.ManagerKept.{cpu_there, manager_gone, manager_keeps, told_kept}
use Rattle.core_steps.specs.Told.{EventFits}
use Rattle.core_steps.proofs.ManagerTold.{manager_tells}
use Rattle.core_steps.specs.StepsLeft.{steps_left}
use Rattle.tag_model.specs.Moves.{Move}
use Rattle.module_ops.specs.declared.event.Event.TheVariants.{Kept}
use Rattle.core_steps.specs.Moved.{HasMoved, moved_on}
use Rattle.core_steps.proofs.Meaning.{moved_after}
use Rattle.core_steps.proofs.Left.{left_after}
use Rattle.core_steps.proofs.Kept.{Answers, result_none, gone}
use Rattle.core_steps.proofs.ManagerRow.{manager_row}
use Rattle.core_steps.proofs.ManagerLeft.{manager_left}
use Rattle.core_steps.proofs.ManagerRelease.{manager_releases}
use Rattle.core_steps.proofs.machine.Core.go.Goals.{in-Cpu, in-Manager}
use Rattle.core_steps.proofs.machine.Core.go.Goals as goal

-- ---- what a step leaves and tells that isn't refused

module _ (s : CoreState) (core : IsCore s) where
  row : (reads : ℕ) (a : Actor) → refused s a ≡ None → StepsWith s.shape (state_after reads s) (state_after (reads + reads_of s a) (stepped s a))
  row reads (actor.Cpu cpu) none = rw add-zero ((gone s cpu core none).steps reads)
  row reads actor.Manager none = manager_row s core none reads

  left : (a : Actor) → refused s a ≡ None → steps_left (stepped s a) a < steps_left s a
  left (actor.Cpu cpu) none = let less = left_after s cpu core none in omega arith
  left actor.Manager none = manager_left s core none

  released : (a : Actor) → refused s a ≡ None → IfReleases s (event_of s a)
  released (actor.Cpu cpu) none = tt
  released actor.Manager none = manager_releases s core none

  kept : (a : Actor) → refused s a ≡ None → IfKept s (event_of s a)
  kept (actor.Cpu cpu) none = tt
  kept actor.Manager none = manager_keeps s core none

  told : (a : Actor) → refused s a ≡ None → EventFits s.sections (event_of s a)
  told (actor.Cpu cpu) none = tt
  told actor.Manager none = manager_tells s core none

  moved : (moves : List Move) → HasMoved s moves → (a : Actor) → refused s a ≡ None → stepped s a ≡ moved_on s a moves
  moved moves has (actor.Cpu cpu) none = moved_after s cpu moves core none has
  moved moves has actor.Manager none = let words = ap (λ (t : CoreState). t.words) has in cc

  released_as : (id : ℕ) (e : Entry) (a : Actor) → refused s a ≡ None → entry_of s.modules.list.area.entries id ≡ Some e → entry_of (stepped s a).modules.list.area.entries id ≡ None → TellsRelease e.section (event_of s a)
  released_as id e (actor.Cpu cpu) none there gone = absurd (cpu_there s cpu id (λ free. absurd (cc)) gone)
  released_as id e actor.Manager none there gone = manager_gone s core none id e there gone

-- ---- and what an answer says then

module _ (s next : CoreState) (a : Actor) where
  leaves : (P : CoreState → Type 0) (r : Result Event StepRefused) → Answers (refused s a) (event_of s a) r → OnOk r (next ≡ stepped s a) → (refused s a ≡ None → P (stepped s a)) → OnOk r (P next)
  leaves P (Ok e) answer ok holds = subst P (sym ok) (holds (result_none _ _ e answer))
  leaves P (Err e) answer ok holds = tt

  event_is : (e : Event) → refused s a ≡ None → Answers (refused s a) (event_of s a) (Ok e) → event_of s a ≡ e
  event_is e none answer = let is : Answers None (event_of s a) (Ok e) = subst (λ (o : Option StepRefused). Answers o (event_of s a) (Ok e)) none answer in cc

  tells : (P : Event → Type 0) (r : Result Event StepRefused) → Answers (refused s a) (event_of s a) r → (refused s a ≡ None → P (event_of s a)) → IfOk r P
  tells P (Ok e) answer holds = let none = result_none _ _ e answer in subst P (event_is e none answer) (holds none)
  tells P (Err e) answer holds = tt

  gone_told : (core : IsCore s) (id : ℕ) (e : Entry) (r : Result Event StepRefused) → Answers (refused s a) (event_of s a) r → OnOk r (next ≡ stepped s a) → OnErr r (next ≡ s)
      → entry_of s.modules.list.area.entries id ≡ Some e → entry_of next.modules.list.area.entries id ≡ None → IsOkAnd r (TellsRelease e.section)
  gone_told core id e (Ok x) answer ok err there gone =
      let none = result_none _ _ x answer in
      subst (TellsRelease e.section) (event_is x none answer) (released_as s core id e a none there (ap (λ (c : CoreState). entry_of c.modules.list.area.entries id) (sym ok) ∙ gone))
  gone_told core id e (Err x) answer ok err there gone = absurd (let same = ap (λ (c : CoreState). entry_of c.modules.list.area.entries id) err in cc)

keeps : (s : CoreState) (section index : ℕ) (kind : Kind) (sum : ℕ) (a : Actor) (r : Result Event StepRefused) → Answers (refused s a) (event_of s a) r → a ≡ actor.Manager → IsKept s section index kind sum → r ≡ Ok (Kept section index kind sum (cause_of s.modules.manager.ops))
keeps s section index kind sum (actor.Cpu cpu) r answer is x = absurd (let other = is in cc)
keeps s section index kind sum actor.Manager r answer is x =
    let t = told_kept s section index kind sum x in
    let same : Answers None (event_of s actor.Manager) r = subst (λ (o : Option StepRefused). Answers o (event_of s actor.Manager) r) t.free answer in
    same ∙ ap (λ (e : Event). Ok e) t.told

pub returns-clause-answer : goal.returns-clause-answer
returns-clause-answer c = elim c.match-actor.branch [ in-Cpu w ↦ rw (w.told-is, w.in-Cpu.is) w.go_cpu-told.ensures.answer | in-Manager w ↦ rw (w.told-is, w.in-Manager.is) w.go_manager-told.ensures.answer ]

pub returns-clause-ok : goal.returns-clause-ok
returns-clause-ok c = elim c.match-actor.branch [ in-Cpu w ↦ rw (w.told-is, w.self-is, w.in-Cpu.is) w.go_cpu-told.ensures.ok | in-Manager w ↦ rw (w.told-is, w.self-is, w.in-Manager.is) w.go_manager-told.ensures.ok ]

pub returns-clause-err : goal.returns-clause-err
returns-clause-err c = elim c.match-actor.branch [ in-Cpu w ↦ rw (w.told-is, w.self-is) w.go_cpu-told.ensures.err | in-Manager w ↦ rw (w.told-is, w.self-is) w.go_manager-told.ensures.err ]

pub returns-clause-row : goal.returns-clause-row
returns-clause-row c =
    λ reads.
    leaves c.args.self.now c.match-actor.self c.args.actor (λ (t : CoreState). StepsWith c.args.self.now.shape (state_after reads c.args.self.now) (state_after (reads + reads_of c.args.self.now c.args.actor) t)) c.match-actor.told (returns-clause-answer c) (returns-clause-ok c)
    (row c.args.self.now c.tell.ensures reads c.args.actor)

pub returns-clause-left : goal.returns-clause-left
returns-clause-left c =
    leaves c.args.self.now c.match-actor.self c.args.actor (λ (t : CoreState). steps_left t c.args.actor < steps_left c.args.self.now c.args.actor) c.match-actor.told (returns-clause-answer c) (returns-clause-ok c)
    (left c.args.self.now c.tell.ensures c.args.actor)

pub returns-clause-moved : goal.returns-clause-moved
returns-clause-moved c =
    λ moves has.
    leaves c.args.self.now c.match-actor.self c.args.actor (λ (t : CoreState). t ≡ moved_on c.args.self.now c.args.actor moves) c.match-actor.told (returns-clause-answer c) (returns-clause-ok c)
    (moved c.args.self.now c.tell.ensures moves has c.args.actor)

pub returns-clause-released : goal.returns-clause-released
returns-clause-released c = tells c.args.self.now c.match-actor.self c.args.actor (IfReleases c.args.self.now) c.match-actor.told (returns-clause-answer c) (released c.args.self.now c.tell.ensures c.args.actor)

pub returns-clause-kept : goal.returns-clause-kept
returns-clause-kept c = tells c.args.self.now c.match-actor.self c.args.actor (IfKept c.args.self.now) c.match-actor.told (returns-clause-answer c) (kept c.args.self.now c.tell.ensures c.args.actor)

pub returns-clause-told : goal.returns-clause-told
returns-clause-told c = tells c.args.self.now c.match-actor.self c.args.actor (EventFits c.args.self.now.sections) c.match-actor.told (returns-clause-answer c) (told c.args.self.now c.tell.ensures c.args.actor)

pub returns-clause-keeps : goal.returns-clause-keeps
returns-clause-keeps c = λ section index kind sum is x. keeps c.args.self.now section index kind sum c.args.actor c.match-actor.told (returns-clause-answer c) is x

pub returns-clause-gone : goal.returns-clause-gone
returns-clause-gone c = λ id e there gone. gone_told c.args.self.now c.match-actor.self c.args.actor c.tell.ensures id e c.match-actor.told (returns-clause-answer c) (returns-clause-ok c) (returns-clause-err c) there gone
