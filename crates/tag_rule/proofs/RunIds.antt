-- The ids of a CPU's runs.
use Rattle.std.proofs.Common.{◌≡◌, ℕ, ◌==◌, ◌||◌, List, [], ◌∷◌, Bool, refl, ap}
use Rattle.std.specs.List.{list_any}
use Rattle.tag_model.specs.declared.state.Run.{Run}
use Rattle.tag_rule.specs.Seated.{ids_in}

pub any_id : (id : ℕ) (runs : List Run) → list_any (λ x. x == id) (ids_in runs) ≡ list_any (λ (r : Run). r.id == id) runs
any_id id [] = refl
any_id id (r ∷ runs) = ap (λ (b : Bool). (r.id == id) || b) (any_id id runs)
