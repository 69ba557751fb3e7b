-- The core that a machine and its moves give steps as the machine and its moves do.
use Rattle.std.proofs.Common.{◌≡◌, ℕ, ◌+◌, ◌*◌, ◌/◌, ◌<◌, List, [], ◌∷◌, ◌++◌, length, get_or, set, replicate, refl, sym, ap, ◌∙◌, subst, arith, Option, Some, None, append-nil, inl, inr}
use Rattle.std.proofs.lemmas.List.{set-get_or, same_lists, length-replicate, get_or-replicate}
use Rattle.std.proofs.lemmas.List.FromFn.{length-map-range_with_len, get_or-map-range_with_len}
use Rattle.tag_model.specs.declared.shape.Shape.{Shape}
use Rattle.tag_model.specs.declared.state.Hand.{Hand}
use Rattle.tag_model.specs.declared.state.Kind.{Kind}
use Rattle.tag_model.specs.declared.state.Kind.TheVariants.{Bytes, Calls}
use Rattle.tag_model.specs.Wrap.{wrap, wrap_minus}
use Rattle.tag_model.specs.StepRules.{raised, lowered}
use Rattle.tag_model.specs.Moves.{Move, moved_word}
use Rattle.tag_model.specs.WordState.{word_place}
use Rattle.cpu_ops.specs.declared.op.CpuOp.{CpuOp}
use Rattle.core_steps.specs.declared.op.Actor.TheVariants as actor
use Rattle.cpu_ops.specs.declared.step.WordStep.{WordStep}
use Rattle.cpu_ops.specs.declared.step.WordStep.TheVariants.{BeginAllocation, AddBytes, AddCall, SubtractBytes, SubtractCall, Write, GoIn, GoOut}
use Rattle.cpu_ops.specs.Machine.{Machine, hand_at, waiting_at, step_of, words_after, moves_of, moves_in, moves_of_step, after_step, refusal_in}
use Rattle.cpu_ops.specs.Needs.{CanTake, CanStep}
use Rattle.core_steps.specs.CoreState.{CoreState, IsCore, words_stepped, modules_after_step, refused, stepped, fresh}
use Rattle.module_ops.specs.Modules.{words_at, fresh_modules}
use Rattle.cpu_ops.specs.Machine.{fresh_machine}
use Rattle.module_ops.specs.Modules.{ModuleTable, inside_at, scene_at}
use Rattle.tag_section.specs.Section.{Section}
use Rattle.core_steps.specs.Moved.{kind_at, own_moved, words_moved, core_of, HasMoved, moved_on}
use Rattle.core_steps.proofs.MovedWords.{moved_one}
use Rattle.core_steps.proofs.Kept.{can_go, nothing_past}
use Rattle.std.proofs.lemmas.Bool.{cases_lt}

own_at : (cpus tags : ℕ) (moves : List Move) (cpu : ℕ) → cpu < cpus → get_or (words_moved cpus tags moves) cpu [] ≡ own_moved tags moves cpu
unfolding words_moved
own_at cpus tags moves cpu below = get_or-map-range_with_len (own_moved tags moves) 0 cpus cpu cpu [] below (omega arith)

wrap_raised : (w n : ℕ) → wrap (w + n) ≡ wrap_minus (w + n) 0
wrap_raised w n = omega arith

wrap_lowered : (w n : ℕ) → wrap_minus (w + 0) n ≡ wrap_minus w n
wrap_lowered w n = omega arith

module _ (cpus tags : ℕ) (moves : List Move) (cpu : ℕ) (below : cpu < cpus) where
  own : List ℕ
  own = get_or (words_moved cpus tags moves) cpu []

  -- a word that rises
  moved_rise : (kind : Kind) (tag n : ℕ) → word_place kind tag < 2 * tags
      → words_moved cpus tags (moves ++ record { cpu = cpu; kind = kind; tag = tag; up = n; down = 0 } ∷ []) ≡ set (words_moved cpus tags moves) cpu (raised kind tag n (get_or (words_moved cpus tags moves) cpu []))
  moved_rise kind tag n within =
      moved_one tags moves (record { cpu = cpu; kind = kind; tag = tag; up = n; down = 0 }) within cpus below
      ∙ rw (own_at cpus tags moves cpu below)
      (ap (λ (w : ℕ). set (words_moved cpus tags moves) cpu (set (own_moved tags moves cpu) (word_place kind tag) w)) (sym (wrap_raised (get_or (own_moved tags moves cpu) (word_place kind tag) 0) n)))

  -- a word that falls
  moved_fall : (kind : Kind) (tag n : ℕ) → word_place kind tag < 2 * tags
      → words_moved cpus tags (moves ++ record { cpu = cpu; kind = kind; tag = tag; up = 0; down = n } ∷ []) ≡ set (words_moved cpus tags moves) cpu (lowered kind tag n (get_or (words_moved cpus tags moves) cpu []))
  moved_fall kind tag n within =
      moved_one tags moves (record { cpu = cpu; kind = kind; tag = tag; up = 0; down = n }) within cpus below
      ∙ rw (own_at cpus tags moves cpu below)
      (ap (λ (w : ℕ). set (words_moved cpus tags moves) cpu (set (own_moved tags moves cpu) (word_place kind tag) w)) (wrap_lowered (get_or (own_moved tags moves cpu) (word_place kind tag) 0) n))

  pub moved_step : (step : WordStep) (hand : Option Hand) (places : ℕ) → CanTake step hand (2 * tags) places
      → words_moved cpus tags (moves ++ moves_of cpu step hand) ≡ set (words_moved cpus tags moves) cpu (words_after step hand (get_or (words_moved cpus tags moves) cpu []))
  moved_step (BeginAllocation tag) hand places can = moved_rise Calls tag.number 1 (omega arith)
  moved_step (AddBytes size) None places can = rw append-nil (sym (set-get_or (words_moved cpus tags moves) cpu []))
  moved_step (AddBytes size) (Some h) places can = moved_rise Bytes h.tag.number size (omega arith)
  moved_step AddCall None places can = rw append-nil (sym (set-get_or (words_moved cpus tags moves) cpu []))
  moved_step AddCall (Some h) places can = moved_rise Calls h.tag.number 1 (omega (arith, can.0))
  moved_step (SubtractBytes bytes) None places can = rw append-nil (sym (set-get_or (words_moved cpus tags moves) cpu []))
  moved_step (SubtractBytes bytes) (Some h) places can = moved_fall Bytes h.tag.number bytes (omega (arith, can.0))
  moved_step SubtractCall None places can = rw append-nil (sym (set-get_or (words_moved cpus tags moves) cpu []))
  moved_step SubtractCall (Some h) places can = moved_fall Calls h.tag.number 1 (omega (arith, can.0))
  moved_step (Write key held next) hand places can = rw append-nil (sym (set-get_or (words_moved cpus tags moves) cpu []))
  moved_step (GoIn section) hand places can = rw append-nil (sym (set-get_or (words_moved cpus tags moves) cpu []))
  moved_step (GoOut section) hand places can = rw append-nil (sym (set-get_or (words_moved cpus tags moves) cpu []))

moved_in : (cpus tags : ℕ) (moves : List Move) (m : Machine) (ms : ModuleTable) (cpu : ℕ) (ops : List CpuOp) (done : ℕ) → cpu < cpus → length (words_at (words_moved cpus tags moves) cpu) ≡ 2 * tags
    → CanStep m (scene_at ms cpu) (words_at (words_moved cpus tags moves) cpu) cpu ops done → refusal_in m (scene_at ms cpu) ops done ≡ None
    → words_moved cpus tags (moves ++ moves_in m (inside_at ms cpu) cpu ops done) ≡ words_stepped m (inside_at ms cpu) (words_moved cpus tags moves) cpu ops done
moved_in cpus tags moves m ms cpu [] done below len can none = cc
moved_in cpus tags moves m ms cpu (op ∷ ops) done below len can none =
    let inside = inside_at ms cpu in
    moved_step cpus tags moves cpu below (step_of op done (hand_at m cpu) m.places inside) (hand_at m cpu) (length m.places)
    (subst (λ (n : ℕ). CanTake (step_of op done (hand_at m cpu) m.places inside) (hand_at m cpu) n (length m.places)) len (can.4 none).0)

-- a step of the CPU, with its moves
pub core_of_step : (shape : Shape) (sections : List Section) (m : Machine) (ms : ModuleTable) (moves : List Move) (cpu : ℕ) → IsCore (core_of shape sections m ms moves) → cpu < shape.cpus → refused (core_of shape sections m ms moves) (actor.Cpu cpu) ≡ None
    → stepped (core_of shape sections m ms moves) (actor.Cpu cpu) ≡ core_of shape sections (after_step m (inside_at ms cpu) cpu) (modules_after_step m ms cpu) (moves ++ moves_of_step m (inside_at ms cpu) cpu)
core_of_step shape sections m ms moves cpu core below none =
    let can = can_go (core_of shape sections m ms moves) cpu core below in
    ap (λ (w : List (List ℕ)). record { shape = shape; sections = sections; machine = after_step m (inside_at ms cpu) cpu; words = w; modules = modules_after_step m ms cpu })
    (sym (moved_in shape.cpus shape.tags moves m ms cpu (waiting_at m cpu).ops (waiting_at m cpu).done below (core.own_words cpu below) can.step none))

-- before the first move
pub core_of_fresh : (shape : Shape) (sections : List Section) → fresh shape sections ≡ core_of shape sections (fresh_machine shape.cpus) (fresh_modules shape (length sections)) []
unfolding words_moved
core_of_fresh shape sections =
    ap (λ (w : List (List ℕ)). record { shape = shape; sections = sections; machine = fresh_machine shape.cpus; words = w; modules = fresh_modules shape (length sections) })
    (same_lists _ _ (rw (length-replicate, length-map-range_with_len) refl) (λ c d l.
    let below : c < shape.cpus = omega (arith, length-replicate shape.cpus (replicate {A = ℕ} (2 * shape.tags) 0)) in
    get_or-replicate shape.cpus c (replicate (2 * shape.tags) 0) d below
    ∙ sym (get_or-map-range_with_len (own_moved shape.tags []) 0 shape.cpus c c d below (omega arith) ∙ no_words c)))
  where
    no_words : (c : ℕ) → own_moved shape.tags [] c ≡ replicate (2 * shape.tags) 0
    no_words c = same_lists _ _ (rw (length-replicate, length-map-range_with_len) refl) (λ p d l.
        let below : p < 2 * shape.tags = omega (arith, length-map-range_with_len (λ q. moved_word [] c (kind_at q) (q / 2)) 0 (2 * shape.tags)) in
        get_or-map-range_with_len (λ q. moved_word [] c (kind_at q) (q / 2)) 0 (2 * shape.tags) p p d below (omega arith) ∙ sym (get_or-replicate (2 * shape.tags) p 0 d below))

-- what a CPU's step leaves, where the words are the sums of moves
pub moved_after : (s : CoreState) (cpu : ℕ) (moves : List Move) → IsCore s → refused s (actor.Cpu cpu) ≡ None → HasMoved s moves → stepped s (actor.Cpu cpu) ≡ moved_on s (actor.Cpu cpu) moves
moved_after s cpu moves core none has = elim (cases_lt cpu s.shape.cpus) [
  | inl below ↦
      ap (λ (x : CoreState). stepped x (actor.Cpu cpu)) has
      ∙ core_of_step s.shape s.sections s.machine s.modules moves cpu (subst IsCore has core) below none
  | inr past ↦ let bad = nothing_past s.machine (scene_at s.modules cpu) cpu (omega (arith, core.machine.waiting)) in cc
]

-- what the manager's step leaves
pub managed_after : (s : CoreState) (moves : List Move) → HasMoved s moves → stepped s actor.Manager ≡ moved_on s actor.Manager moves
managed_after s moves has = ap (λ (x : CoreState). stepped x actor.Manager) has
