-- What reserving a range answers is what the load is refused by.
use Rattle.std.proofs.Common.{◌≡◌, ◌≢◌, ℕ, ◌≤◌, ◌==◌, ◌||◌, length, All, Any, Option, Some, None, is_some, Result, Ok, Err, get_or, ◌↔◌, refl, sym, ap, ◌∙◌, true, eqb-true, eq-eqb, ne_eqb, if◌then◌else◌}
use Rattle.std.specs.Result.{IsErrOf}
use Rattle.std.proofs.lemmas.List.{get_or_default}
use Rattle.std.proofs.lemmas.Bool.{or_from, or_left, both_ways, false≢true, cond-true, cond-false}
use Rattle.std.proofs.lemmas.List.Elements.{All-contains}
use Rattle.module_area.specs.declared.entry.Entry.{Entry}
use Rattle.module_area.specs.declared.entry.State.{State}
use Rattle.module_area.specs.declared.entry.State.TheVariants.{Loaded, Dead}
use Rattle.module_area.specs.declared.book.TheConstants.{BOOK_LIMIT}
use Rattle.module_area.specs.declared.book.AreaError.{AreaError}
use Rattle.module_area.specs.declared.book.AreaError.TheVariants.{SameName, BookFull, NoRoom, NoSection}
use Rattle.module_area.specs.Entries.{IsLoadedAs, is_loaded_as, is_loaded_at}
use Rattle.module_area.specs.Area.{least_start, Area, IsLeastStart, HasNoRoom, IsFull, IsBook}
use Rattle.module_area.proofs.EntryLemmas.{find_some, find_none}
use Rattle.module_area.proofs.StartLemmas.{least_start_is, no_least_start}
use Rattle.core_list.specs.declared.list.TheConstants.{LAST_ID}
use Rattle.core_list.specs.ListState.{ListState, load_refusal, loaded_entry, unless_room}
use Rattle.core_list.proofs.Kept.{loaded_means}

-- ---- the section's loaded entry

-- an entry that is found by its section is loaded
pub state_means : (state : State) (other section : ℕ) → is_loaded_at state other section ≡ true → (state ≡ Loaded) × (other ≡ section)
state_means Loaded other section is = (refl, eqb-true other section is)
state_means Dead other section is = absurd (false≢true is)

unnamed_found : (section : ℕ) (l : ListState) → All (λ e. ¬ IsLoadedAs section e) l.area.entries → loaded_entry section l ≡ None
unnamed_found section l none = go (loaded_entry section l) refl
  where
    means : (e : Entry) → is_loaded_as section e ≡ true → IsLoadedAs section e
    means e is = state_means e.state e.section section is

    go : (o : Option Entry) → loaded_entry section l ≡ o → o ≡ None
    go None is = refl
    go (Some e) is = let f = find_some (is_loaded_as section) l.area.entries e is in absurd (All-contains (λ x. ¬ IsLoadedAs section x) l.area.entries e none f.0 (means e f.1))

named_found : (section : ℕ) (l : ListState) → Any (IsLoadedAs section) l.area.entries → is_some (loaded_entry section l) ≡ true
named_found section l named = go (loaded_entry section l) refl
  where
    go : (o : Option Entry) → loaded_entry section l ≡ o → is_some o ≡ true
    go (Some e) is = refl
    go None is =
        let no_one = find_none (is_loaded_as section) l.area.entries is named.0 named.1 named.2 in
        absurd (both_ways (is_loaded_as section named.1) (ap (is_loaded_as section) (sym named.3) ∙ no_one) (loaded_means section named.1 named.4))

-- ---- the refusal

pub refused_name : (section size : ℕ) (l : ListState) → Any (IsLoadedAs section) l.area.entries → load_refusal section size l ≡ Some SameName
refused_name section size l named = cond-true (is_some (loaded_entry section l)) (Some SameName) (if (length l.area.entries == BOOK_LIMIT) || (l.last_id == LAST_ID) then Some BookFull else unless_room (least_start l.area size)) (named_found section l named)

-- where no loaded entry has the section
after_name : (section size : ℕ) (l : ListState) → All (λ e. ¬ IsLoadedAs section e) l.area.entries → load_refusal section size l ≡ (if (length l.area.entries == BOOK_LIMIT) || (l.last_id == LAST_ID) then Some BookFull else unless_room (least_start l.area size))
after_name section size l none =
    cond-false (is_some (loaded_entry section l)) (Some SameName) (if (length l.area.entries == BOOK_LIMIT) || (l.last_id == LAST_ID) then Some BookFull else unless_room (least_start l.area size)) (ap is_some (unnamed_found section l none))

pub refused_full : (section size : ℕ) (l : ListState) → All (λ e. ¬ IsLoadedAs section e) l.area.entries → IsFull l.area → load_refusal section size l ≡ Some BookFull
refused_full section size l none full = after_name section size l none ∙ cond-true _ (Some BookFull) (unless_room (least_start l.area size)) (or_left _ _ (eq-eqb _ _ full))

-- where there is an id and a place
after_full : (section size : ℕ) (l : ListState) → All (λ e. ¬ IsLoadedAs section e) l.area.entries → ¬ IsFull l.area → l.last_id ≢ LAST_ID → load_refusal section size l ≡ unless_room (least_start l.area size)
after_full section size l none room some = after_name section size l none ∙ cond-false _ (Some BookFull) (unless_room (least_start l.area size)) (or_from _ _ (ne_eqb _ _ room) (ne_eqb _ _ some))

pub refused_room : (section size : ℕ) (l : ListState) → All (λ e. ¬ IsLoadedAs section e) l.area.entries → ¬ IsFull l.area → l.last_id ≢ LAST_ID → HasNoRoom l.area size → load_refusal section size l ≡ Some NoRoom
refused_room section size l none room some no_room = after_full section size l none room some ∙ ap unless_room (no_least_start l.area size no_room)

pub not_refused : (section size start : ℕ) (l : ListState) → All (λ e. ¬ IsLoadedAs section e) l.area.entries → ¬ IsFull l.area → l.last_id ≢ LAST_ID → IsBook l.area → 1 ≤ size → IsLeastStart l.area size start → load_refusal section size l ≡ None
not_refused section size start l none room some book tags least = after_full section size l none room some ∙ ap unless_room (least_start_is l.area size start book tags least)

-- ---- what reserving answers

-- the clauses of a reservation on its refusals
pub record Says (section size : ℕ) (area : Area) (answer : Result ℕ AreaError) : Type 0 where
  pub same_name : IsErrOf answer SameName ↔ Any (IsLoadedAs section) area.entries
  pub book_full : IsErrOf answer BookFull ↔ (All (λ e. ¬ IsLoadedAs section e) area.entries × IsFull area)
  pub no_room : IsErrOf answer NoRoom ↔ (All (λ e. ¬ IsLoadedAs section e) area.entries × (¬ IsFull area) × HasNoRoom area size)
  pub never : ¬ IsErrOf answer NoSection

pub refused_as : (section size : ℕ) (l : ListState) (answer : Result ℕ AreaError) (why : AreaError) → Says section size l.area answer → l.last_id ≢ LAST_ID → answer ≡ Err why → load_refusal section size l ≡ Some why
refused_as section size l answer SameName says some is = refused_name section size l (says.same_name.0 is)
refused_as section size l answer BookFull says some is = let full = says.book_full.0 is in refused_full section size l full.0 full.1
refused_as section size l answer NoRoom says some is = let none = says.no_room.0 is in refused_room section size l none.0 none.1 some none.2
refused_as section size l answer NoSection says some is = absurd (says.never is)

pub accepted_at : (section size start : ℕ) (l : ListState) (answer : Result ℕ AreaError) → Says section size l.area answer → l.last_id ≢ LAST_ID → IsBook l.area → 1 ≤ size → IsLeastStart l.area size start → answer ≡ Ok start → load_refusal section size l ≡ None
accepted_at section size start l answer says some book tags least is =
    let unnamed : All (λ e. ¬ IsLoadedAs section e) l.area.entries = λ k d below is_one. absurd (ok_err (sym is ∙ says.same_name.1 (k, get_or l.area.entries k d, below, get_or_default l.area.entries k (get_or l.area.entries k d) d below, is_one))) in
    not_refused section size start l unnamed (λ full. ok_err (sym is ∙ says.book_full.1 (unnamed, full))) some book tags least
  where
    ok_err : {why : AreaError} → ◌≡◌ {A = Result ℕ AreaError} (Ok start) (Err why) → ⊥
    ok_err e = cc
