-- A step of any actor, by its kind.
use Rattle.std.proofs.Common.{◌≡◌, ℕ, ◌+◌, IsSomeAnd, None, add-zero}
use Rattle.core_steps.specs.declared.op.Actor.{Actor}
use Rattle.core_steps.specs.declared.op.Actor.TheVariants as actor
use Rattle.core_steps.specs.CoreState.{CoreState, IsCore, reads_of, refused, state_after, stepped}
use Rattle.core_steps.specs.Kinds.{kind_of}
use Rattle.core_steps.proofs.ByKind.{GoesBy}
use Rattle.core_steps.proofs.Kept.{gone}
use Rattle.core_steps.proofs.ManagerCore.{manager_core}
use Rattle.core_steps.proofs.ManagerRow.{manager_kinds}

pub goes_by_kind : (s : CoreState) (who : Actor) → IsCore s → refused s who ≡ None → (reads : ℕ) → IsSomeAnd (kind_of s who) (λ kind. GoesBy s.shape kind (stepped s who).modules.list.sweep (state_after reads s) (state_after (reads + reads_of s who) (stepped s who)))
goes_by_kind s (actor.Cpu cpu) core free reads = rw add-zero ((gone s cpu core free).kinds reads (stepped s (actor.Cpu cpu)).modules.list.sweep)
goes_by_kind s actor.Manager core free reads = manager_kinds s core free reads

pub steps_core : (s : CoreState) (who : Actor) → IsCore s → refused s who ≡ None → IsCore (stepped s who)
steps_core s (actor.Cpu cpu) core free = (gone s cpu core free).core
steps_core s actor.Manager core free = manager_core s core free
