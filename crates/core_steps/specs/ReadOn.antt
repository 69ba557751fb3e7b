-- Steps of the manager that read words for a sweep and tell nothing.
use Rattle.std.specs.Prelude.{◌≡◌, ℕ, zero, suc, None, replicate}
use Rattle.module_ops.specs.declared.event.Event.TheVariants.{Stepped}
use Rattle.core_steps.specs.declared.op.Actor.TheVariants as actor
use Rattle.core_steps.specs.CoreState.{CoreState, event_of, refused, run_of, stepped}

-- the core after so many steps of the manager
abbrev pub after_manager : CoreState → ℕ → CoreState
after_manager s n = run_of s (replicate n actor.Manager)

-- none of so many steps of the manager is refused, and none tells anything
abbrev pub TellsNothing : ℕ → CoreState → Type 0
TellsNothing zero s = Unit {0}
TellsNothing (suc n) s = (refused s actor.Manager ≡ None) × (event_of s actor.Manager ≡ Stepped) × TellsNothing n (stepped s actor.Manager)
