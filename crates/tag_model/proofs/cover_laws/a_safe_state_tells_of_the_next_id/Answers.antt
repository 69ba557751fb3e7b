use Rattle.std.proofs.Common.{[], ◌∷◌, ◌≡◌, nat_lt, subst, true}
use Rattle.std.specs.List.{list_all}
use Rattle.tag_model.specs.declared.state.Part.TheVariants.{Modules, NextId}
use Rattle.tag_model.specs.declared.state.Record.{Record}
use Rattle.tag_model.proofs.Lent.{next_above_zero, next_is, stand_back, stand_front}
use Rattle.tag_model.proofs.ListTells.{ids_below}
use Rattle.tag_model.proofs.cover_laws.a_safe_state_tells_of_the_next_id.Goals as goal

pub returns-clause-is_the_next : goal.returns-clause-is_the_next
returns-clause-is_the_next c k id parts stands safe = next_is k id parts stands safe

pub returns-clause-above_zero : goal.returns-clause-above_zero
returns-clause-above_zero c k id parts stands safe = next_above_zero k id parts stands safe

pub returns-clause-above_all : goal.returns-clause-above_all
returns-clause-above_all c k l id parts stands safe =
    subst (λ next. list_all (λ (r : Record). nat_lt r.id next) l.records ≡ true) (next_is k id parts (stand_back (Modules l ∷ []) (NextId id ∷ []) parts stands) safe) (ids_below k l parts (stand_front (Modules l ∷ []) (NextId id ∷ []) parts stands) safe)
