-- What a safe state tells of its module list, with no CPU beside it.
use Rattle.std.proofs.Common.{◌≡◌, ℕ, ◌+◌, ◌<◌, ◌≤◌, ◌==◌, ◌&&◌, ◌⊎◌, nat_lt, nat_le, List, [], ◌∷◌, ◌++◌, sum_by, count_by, refl, sym, subst, inl, inr, arith, Bool, true, not, le-leb, lt-ltb, if◌then◌else◌}
use Rattle.std.specs.List.{list_any, list_all}
use Rattle.std.proofs.lemmas.Bool.{and_from, cases_lt}
use Rattle.tag_model.specs.declared.shape.Shape.{Shape}
use Rattle.tag_model.specs.declared.state.ListPart.{ListPart}
use Rattle.tag_model.specs.declared.state.Part.{Part}
use Rattle.tag_model.specs.declared.state.Part.TheVariants.{Modules}
use Rattle.tag_model.specs.declared.state.Record.{Record}
use Rattle.tag_model.specs.declared.state.Run.{Run}
use Rattle.tag_model.specs.Laws.{Safe, is_loaded_as, same_run, rises_from, ids_of, sweep_fits}
use Rattle.tag_model.specs.StepRules.{Stands}
use Rattle.tag_model.specs.WordState.{records_with, runs_with, users_of, next_id}
use Rattle.tag_model.proofs.Alike.{of_records}
use Rattle.tag_model.proofs.Found.{Found, found, any_at, count_at}
use Rattle.tag_model.proofs.Ids.{field_here}
use Rattle.tag_model.proofs.Lent.{few_runs, the_list_of}
use Rattle.tag_model.proofs.ListRows.{list_alone, the_one}
use Rattle.tag_model.proofs.Lists.{never_both}
use Rattle.tag_model.proofs.Parts.{standing}
use Rattle.tag_model.proofs.Swept.{ListLaws, list_laws, loaded_as_means, same_run_refl}
use Rattle.tag_model.proofs.Told as told

pub list_laws_of : (k : Shape) (l : ListPart) (ps : List Part) → Stands (Modules l ∷ []) ps → Safe k ps → ListLaws k l
list_laws_of k l ps s safe = list_laws k ps (the_one (the_list_of k l ps s safe)) safe.fits safe.cover safe.sweep.fits

-- the sweep is in its bounds, and the records stand by rising id
pub sweep_in_bounds : (k : Shape) (l : ListPart) (ps : List Part) → Stands (Modules l ∷ []) ps → Safe k ps → (sweep_fits k l.sweep l.records ≡ true) × (rises_from 0 (ids_of l.records) ≡ true)
sweep_in_bounds k l ps s safe = told.sweep_in_bounds k l (Modules l ∷ []) (Modules l ∷ []) ps ps (list_alone l) (standing (Modules l ∷ []) ps s) safe

-- each record's id is below the next one
pub ids_below : (k : Shape) (l : ListPart) (ps : List Part) → Stands (Modules l ∷ []) ps → Safe k ps → list_all (λ (r : Record). nat_lt r.id (sum_by next_id ps)) l.records ≡ true
ids_below k l ps s safe = told.ids_below k l (Modules l ∷ []) (Modules l ∷ []) ps ps (list_alone l) (standing (Modules l ∷ []) ps s) safe

-- the runs on an id, those on their way among them, are the users of its record
pub users_are_runs : (k : Shape) (l : ListPart) (ps : List Part) → Stands (Modules l ∷ []) ps → Safe k ps → (id : ℕ) → sum_by (runs_with (λ r. r.id == id)) ps ≡ users_of id (Modules l)
users_are_runs k l ps s safe id = told.users_are_runs k l (Modules l ∷ []) (Modules l ∷ []) ps ps (list_alone l) (standing (Modules l ∷ []) ps s) safe id

-- what each element passes where it stands, all pass
pub all_each : {X : Type 0} (p : X → Bool) (xs : List X) → ((f : Found (λ x. not (p x)) xs) → p f.item ≡ true) → list_all p xs ≡ true
all_each {X} p xs h = go (cases_lt 0 (count_by (λ (x : X). not (p x)) xs))
  where
    go : (0 < count_by (λ (x : X). not (p x)) xs) ⊎ (count_by (λ (x : X). not (p x)) xs ≤ 0) → list_all p xs ≡ true
    go (inl some) = let f = found (λ (x : X). not (p x)) xs some in absurd (never_both (p f.item) (h f) f.passes)
    go (inr none) = told.none_fail p xs (omega arith)

-- a record's users are those of its id
pub users_here : (k : Shape) (l : ListPart) → ListLaws k l → (front : List Record) (r : Record) (back : List Record) → l.records ≡ front ++ r ∷ back → users_of r.id (Modules l) ≡ r.users
users_here k l laws front r back is =
    subst (λ rs. sum_by (λ (x : Record). if x.id == r.id then x.users else 0) rs ≡ r.users) (sym is)
    (field_here (λ (x : Record). x.users) front r back r.id refl (subst (λ rs. count_by (λ (x : Record). x.id == r.id) rs ≤ 1) is (laws.apart r.id)))

-- a record's users are at most the CPUs and the runs on their way to it
pub few_users : (k : Shape) (l : ListPart) (ps : List Part) → Stands (Modules l ∷ []) ps → Safe k ps → list_all (λ (r : Record). nat_le r.users (k.cpus + count_by (λ (run : Run). run.id == r.id) l.away)) l.records ≡ true
few_users k l ps s safe =
    all_each (λ (r : Record). nat_le r.users (k.cpus + count_by (λ (run : Run). run.id == r.id) l.away)) l.records
    (λ f. le-leb f.item.users (k.cpus + count_by (λ (run : Run). run.id == f.item.id) l.away)
    (omega (arith, users_here k l (list_laws_of k l ps s safe) f.front f.item f.back f.is, users_are_runs k l ps s safe f.item.id, few_runs k l ps (the_list_of k l ps s safe) safe f.item.id)))

-- a run on its way has its loaded record, and that has a user
pub away_is_loaded : (k : Shape) (l : ListPart) (ps : List Part) → Stands (Modules l ∷ []) ps → Safe k ps → (ahead : List Run) (run : Run) (behind : List Run) → l.away ≡ ahead ++ run ∷ behind
    → list_any (λ (r : Record). is_loaded_as run r && nat_lt 0 r.users) l.records ≡ true
away_is_loaded k l ps s safe ahead run behind is =
    let one = the_list_of k l ps s safe in
    let there : 0 < count_by (same_run run) l.away = subst (λ rs. 0 < count_by (same_run run) rs) (sym is) (count_at (same_run run) ahead run behind (same_run_refl run)) in
    let on_id : 0 < count_by (λ (r : Run). r.id == run.id) l.away = subst (λ rs. 0 < count_by (λ (r : Run). r.id == run.id) rs) (sym is) (count_at (λ (r : Run). r.id == run.id) ahead run behind (told.same_id run)) in
    let loaded = safe.cover.runs run (omega (arith, one.stands (runs_with (same_run run)))) in
    let f = found (is_loaded_as run) l.records (omega (arith, one.only (records_with (is_loaded_as run)) (of_records _))) in
    let like = loaded_as_means run f.item f.passes in
    let used : 0 < f.item.users = omega (
      arith,
      one.stands (runs_with (λ r. r.id == run.id)),
      users_are_runs k l ps s safe run.id,
      subst (λ id. users_of id (Modules l) ≡ f.item.users) like.id (users_here k l (list_laws_of k l ps s safe) f.front f.item f.back f.is),
    ) in
    subst (λ rs. list_any (λ (r : Record). is_loaded_as run r && nat_lt 0 r.users) rs ≡ true) (sym f.is)
    (any_at (λ (r : Record). is_loaded_as run r && nat_lt 0 r.users) f.front f.item f.back (and_from _ _ f.passes (lt-ltb 0 f.item.users used)))
