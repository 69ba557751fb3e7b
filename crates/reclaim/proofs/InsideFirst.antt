-- What a meeting of the list and all CPUs tells of a module that the first CPU is inside, for the tests.
use Rattle.std.proofs.Common.{◌≡◌, ℕ, ◌==◌, ◌&&◌, ◌||◌, not, Bool, true, false, List, [], ◌∷◌, Some, IsSomeAnd, map, slice_get, refl, sym, ap, ◌∙◌, subst, eqb-true, eq-eqb}
use Rattle.std.specs.List.{list_all, list_any}
use Rattle.std.proofs.lemmas.Bool.{and_from, and_parts, false≢true}
use Rattle.std.proofs.lemmas.List.Elements.{All-head}
use Rattle.tag_model.specs.declared.shape.Shape.{Shape}
use Rattle.tag_model.specs.declared.state.Record.{Record}
use Rattle.tag_model.specs.declared.state.Run.{Run}
use Rattle.tag_model.specs.Laws.{is_loaded_as}
use Rattle.tag_rule.specs.Listed.{has_run}
use Rattle.tag_rule.specs.Meeting.{AreMet, IsMetCpu, first_notes}
use Rattle.tag_rule.specs.Shown.{CpuShown}
use Rattle.module_area.specs.declared.entry.Entry.{Entry}
use Rattle.module_area.specs.declared.entry.State.{State}
use Rattle.module_area.specs.declared.entry.State.TheVariants.{Dead, Loaded}
use Rattle.module_area.specs.Area.{IsBook}
use Rattle.module_area.specs.Entries.{entry_of, is_dead}
use Rattle.core_list.specs.ListState.{record_of}
use Rattle.core_list.proofs.Split.{the_entry}
use Rattle.reclaim.specs.State.{LockedShown, part_of}

-- a record as which a run on the id is loaded is a loaded one of the id
loaded_record : (id : ℕ) (run : Run) (records : List Record) → run.id ≡ id → list_any (is_loaded_as run) records ≡ true → list_any (λ (r : Record). (r.id == id) && not r.dead) records ≡ true
loaded_record id run [] same there = there
loaded_record id run (r ∷ rs) same there = go (is_loaded_as run r) refl there (loaded_record id run rs same)
  where
    go : (b : Bool) → is_loaded_as run r ≡ b → (b || list_any (is_loaded_as run) rs) ≡ true → (list_any (is_loaded_as run) rs ≡ true → list_any (λ (x : Record). (x.id == id) && not x.dead) rs ≡ true)
        → (((r.id == id) && not r.dead) || list_any (λ (x : Record). (x.id == id) && not x.dead) rs) ≡ true
    go true is h later =
        let a = and_parts _ (not r.dead) is in
        let b = and_parts _ (r.length == run.length) a.0 in
        let c = and_parts _ (r.start == run.start) b.0 in
        let d = and_parts (r.id == run.id) (r.section == run.section) c.0 in
        ap (λ x. x || list_any (λ (x : Record). (x.id == id) && not x.dead) rs) (and_from _ _ (eq-eqb r.id id (eqb-true r.id run.id d.0 ∙ same)) a.1)
    go false is h later = or_true ((r.id == id) && not r.dead) (later h)
      where
        or_true : (x : Bool) {y : Bool} → y ≡ true → (x || y) ≡ true
        or_true true e = refl
        or_true false e = e

loaded_run : (id : ℕ) (runs : List Run) (records : List Record) → list_all (λ (run : Run). list_any (is_loaded_as run) records) runs ≡ true → has_run id runs ≡ true → list_any (λ (r : Record). (r.id == id) && not r.dead) records ≡ true
loaded_run id [] records all there = absurd (false≢true there)
loaded_run id (run ∷ runs) records all there =
    let both = and_parts (list_any (is_loaded_as run) records) (list_all (λ (x : Run). list_any (is_loaded_as x) records) runs) all in
    go (run.id == id) refl there both.0 (loaded_run id runs records both.1)
  where
    go : (b : Bool) → (run.id == id) ≡ b → (b || has_run id runs) ≡ true → list_any (is_loaded_as run) records ≡ true → (has_run id runs ≡ true → list_any (λ (r : Record). (r.id == id) && not r.dead) records ≡ true) → list_any (λ (r : Record). (r.id == id) && not r.dead) records ≡ true
    go true is h here later = loaded_record id run records (eqb-true run.id id is) here
    go false is h here later = later h

not_dead : (s : State) → not (is_dead s) ≡ true → s ≡ Loaded
not_dead Loaded h = refl
not_dead Dead h = absurd (false≢true h)

-- the entry of a module that a CPU is inside
pub record IsThere (entries : List Entry) (id : ℕ) : Type 0 where
  pub entry : Entry
  pub is : entry_of entries id ≡ Some entry
  pub loaded : entry.state ≡ Loaded

-- notes leave the runs as they are
runs_stay : (id : ℕ) (records : List Record) (cpus met : List CpuShown) → met ≡ first_notes records cpus → IsSomeAnd (slice_get cpus 0) (λ (c : CpuShown). has_run id c.part.runs ≡ true) → IsSomeAnd (slice_get met 0) (λ (c : CpuShown). has_run id c.part.runs ≡ true)
runs_stay id records [] met is inside = subst (λ xs. IsSomeAnd (slice_get xs 0) (λ (c : CpuShown). has_run id c.part.runs ≡ true)) (sym is) inside
runs_stay id records (c ∷ cs) met is inside = subst (λ xs. IsSomeAnd (slice_get xs 0) (λ (c : CpuShown). has_run id c.part.runs ≡ true)) (sym is) inside

pub there : (k : Shape) (l : LockedShown) (next id : ℕ) (cpus met : List CpuShown) → IsBook l.area → met ≡ first_notes (part_of l).records cpus → IsSomeAnd (slice_get cpus 0) (λ (c : CpuShown). has_run id c.part.runs ≡ true) → AreMet k (part_of l) next met → IsThere l.area.entries id
there k l next id cpus met book is inside are = go met (runs_stay id (part_of l).records cpus met is inside) are
  where
    go : (xs : List CpuShown) → IsSomeAnd (slice_get xs 0) (λ (c : CpuShown). has_run id c.part.runs ≡ true) → AreMet k (part_of l) next xs → IsThere l.area.entries id
    go [] none a = absurd none
    go (c ∷ cs) has a =
        let own : IsMetCpu (part_of l) next c.part = All-head (λ (x : CpuShown). IsMetCpu (part_of l) next x.part) c cs a.each in
        let t = the_entry l.area id (λ (r : Record). not r.dead) book (loaded_run id c.part.runs (map record_of l.area.entries) own.loaded has) in
        record { entry = t.entry; is = t.is; loaded = not_dead t.entry.state t.passes }
