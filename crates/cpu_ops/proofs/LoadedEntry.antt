-- The loaded module of a section is the entry of its id.
use Rattle.std.proofs.Common.{◌≡◌, ℕ, zero, suc, ◌<◌, ◌==◌, true, List, [], ◌∷◌, get_or, AllPairs, Contains, Option, Some, None, refl, ap, subst, ◌∙◌, arith, eq-eqb, ne_eqb, eqb-true}
use Rattle.std.proofs.lemmas.Bool.{cond-true, cond-false}
use Rattle.std.proofs.lemmas.Option.{same_Some}
use Rattle.std.specs.Option.{option_map}
use Rattle.module_area.specs.declared.entry.Entry.{Entry}
use Rattle.module_area.specs.declared.entry.State.{State}
use Rattle.module_area.specs.declared.entry.State.TheVariants.{Loaded, Dead}
use Rattle.module_area.specs.Entries.{entry_of, id_loaded, is_loaded_at, is_loaded_as}
use Rattle.module_area.proofs.EntryLemmas.{find_some}
use Rattle.core_list.specs.ListState.{ListState, IsList, loaded_entry}

-- an entry is that of its id, where ids rise
pub entry_is_found : (entries : List Entry) (e : Entry) → AllPairs (λ one other. one.id < other.id) entries → Contains entries e → entry_of entries e.id ≡ Some e
entry_is_found [] e rising there = absurd (omega (arith, there.1))
entry_is_found (x ∷ xs) e rising (zero, within, is) =
    let first = ap (λ (y : Entry). y.id) is in
    cond-true (x.id == e.id) (Some x) (entry_of xs e.id) (eq-eqb x.id e.id first) ∙ ap (λ y. Some y) is
entry_is_found (x ∷ xs) e rising (suc k, within, is) =
    let less : x.id < (get_or xs k e).id = rising 0 (suc k) e (omega arith) within in
    let same : (get_or xs k e).id ≡ e.id = ap (λ (y : Entry). y.id) is in
    let other = ne_eqb x.id e.id (λ equal. omega arith) in
    cond-false (x.id == e.id) (Some x) (entry_of xs e.id) other
    ∙ entry_is_found xs e (λ i j d earlier inside. rising (suc i) (suc j) d (omega arith) (omega arith)) (k, omega arith, is)

pub record LoadedAt (section : ℕ) (e : Entry) : Type 0 where
  pub state : e.state ≡ Loaded
  pub same_section : e.section ≡ section

pub loaded_at : (section : ℕ) (e : Entry) → is_loaded_as section e ≡ true → LoadedAt section e
loaded_at section e is = go e.state refl is
  where
    go : (s : State) → e.state ≡ s → is_loaded_at s e.section section ≡ true → LoadedAt section e
    go Loaded state is = record { state = state; same_section = eqb-true e.section section is }
    go Dead state is = absurd (cc)

-- the loaded module of a section stands in the list under its id
pub loaded_found : (section : ℕ) (l : ListState) (e : Entry) → IsList l → loaded_entry section l ≡ Some e → (entry_of l.area.entries e.id ≡ Some e) × (e.state ≡ Loaded) × (e.section ≡ section)
loaded_found section l e ok found =
    let f = find_some (is_loaded_as section) l.area.entries e found in
    let at = loaded_at section e f.1 in
    (entry_is_found l.area.entries e ok.book.rising f.0, at.state, at.same_section)

-- so looking up its id gives it
pub loaded_by_id : (section : ℕ) (l : ListState) (id : ℕ) → IsList l → id_loaded l.area.entries section ≡ Some id → entry_of l.area.entries id ≡ loaded_entry section l
loaded_by_id section l id ok is = go (loaded_entry section l) refl is
  where
    go : (o : Option Entry) → loaded_entry section l ≡ o → option_map (λ (e : Entry). e.id) o ≡ Some id → entry_of l.area.entries id ≡ o
    go None found is = absurd (cc)
    go (Some e) found is = subst (λ n. entry_of l.area.entries n ≡ Some e) (same_Some e.id id is) (loaded_found section l e ok found).0
