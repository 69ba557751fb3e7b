-- The runs on the modules that stay loaded.
use Rattle.std.proofs.Common.{◌≡◌, ℕ, Bool, true, false, cond, not, List, [], ◌∷◌, map, Some, refl, ap, ◌∙◌}
use Rattle.std.specs.List.{find, list_any}
use Rattle.std.proofs.lemmas.Option.{same_Some}
use Rattle.tag_model.specs.declared.state.Run.{Run}
use Rattle.module_area.specs.declared.entry.Entry.{Entry}
use Rattle.module_area.specs.declared.entry.State.{State}
use Rattle.module_area.specs.declared.entry.State.TheVariants.{Loaded, Dead}
use Rattle.module_area.specs.Entries.{is_dead, is_loaded_as, is_loaded_at}
use Rattle.core_list.specs.ListState.{run_of}
use Rattle.round_modules.specs.Known.{runs_of, staying}
use Rattle.std.proofs.lemmas.Bool.{or_left, or_right}

-- a module that is found loaded has its run among theirs
pub run_found : (section : ℕ) (test : Run → Bool) (entries : List Entry) (e : Entry) → find (is_loaded_as section) entries ≡ Some e → test (run_of e) ≡ true → list_any test (runs_of entries) ≡ true
run_found section test [] e is has = let no : ⊥ = cc in absurd no
run_found section test (x ∷ entries) e is has = by (is_loaded_as section x) refl is (λ left. run_found section test entries e left has)
  where
    alive : (state : State) (own : ℕ) → is_loaded_at state own section ≡ true → not (is_dead state) ≡ true
    alive Loaded own h = refl
    alive Dead own h = let no : ⊥ = cc in absurd no

    behind : (stays : Bool) → list_any test (runs_of entries) ≡ true → list_any test (map run_of (cond stays (x ∷ staying entries) (staying entries))) ≡ true
    behind true later = or_right _ _ later
    behind false later = later

    by : (loaded : Bool) → is_loaded_as section x ≡ loaded → cond loaded (Some x) (find (is_loaded_as section) entries) ≡ Some e → (find (is_loaded_as section) entries ≡ Some e → list_any test (runs_of entries) ≡ true) → list_any test (runs_of (x ∷ entries)) ≡ true
    by true l is later =
        ap (λ stays. list_any test (map run_of (cond stays (x ∷ staying entries) (staying entries)))) (alive x.state x.section l)
        ∙ or_left _ _ (ap (λ y. test (run_of y)) (same_Some x e is) ∙ has)
    by false l is later = behind (not (is_dead x.state)) (later is)
