-- Modules that are the same but for who is inside.
use Rattle.std.proofs.Common.{◌≡◌, ℕ, ◌==◌, Bool, true, false, cond, List, [], ◌∷◌, map, Option, None, Some, All, Contains, IsSome, IsSomeAnd, refl, sym, ap, ◌∙◌, subst}
use Rattle.std.specs.Option.{option_map}
use Rattle.std.proofs.lemmas.Bool.{false≢true}
use Rattle.std.proofs.lemmas.List.Elements.{All-weaker}
use Rattle.std.proofs.lemmas.Option.{none-some, same_Some}
use Rattle.module_area.specs.declared.entry.Entry.{Entry}
use Rattle.module_area.specs.declared.entry.State.TheVariants.{Loaded}
use Rattle.module_area.specs.Entries.{entry_of, with_entry}
use Rattle.core_list.specs.ListState.{run_of}
use Rattle.reclaim.specs.State.{LockedShown, with_changed}
use Rattle.round_modules.specs.Known.{AreAsKnown, AreLoadedIn, IsLoadedIn, SameModules, unused}
use Rattle.round_modules.proofs.Members.{Member, all_members, map_from, map_has}

pub same_refl : (l : LockedShown) → SameModules l l
same_refl l = record { board = refl; sections = refl; first = refl; tags = refl; entries = refl }

pub same_then : (a b c : LockedShown) → SameModules a b → SameModules b c → SameModules a c
same_then a b c one two = record { board = two.board ∙ one.board; sections = two.sections ∙ one.sections; first = two.first ∙ one.first; tags = two.tags ∙ one.tags; entries = two.entries ∙ one.entries }

changed_alike : (id : ℕ) (change : Entry → Entry) (es : List Entry) → ((e : Entry) → unused (change e) ≡ unused e) → map unused (with_entry id change es) ≡ map unused es
changed_alike id change [] keeps = refl
changed_alike id change (e ∷ es) keeps = λ i. here (e.id == id) i ∷ changed_alike id change es keeps i
  where
    here : (b : Bool) → unused (cond b (change e) e) ≡ unused e
    here true = keeps e
    here false = refl

pub same_changed : (id : ℕ) (change : Entry → Entry) (l : LockedShown) → ((e : Entry) → unused (change e) ≡ unused e) → SameModules l (with_changed id change l)
same_changed id change l keeps = record { board = refl; sections = refl; first = refl; tags = refl; entries = changed_alike id change l.area.entries keeps }

-- by an equation of the value after
pub same_by : (id : ℕ) (change : Entry → Entry) (l new : LockedShown) → ((e : Entry) → unused (change e) ≡ unused e) → new ≡ with_changed id change l → SameModules l new
same_by id change l new keeps is = subst (λ (x : LockedShown). SameModules l x) (sym is) (same_changed id change l keeps)

-- ---- what is said of entries without their users

pub entry_of_unused : (es : List Entry) (id : ℕ) → entry_of (map unused es) id ≡ option_map unused (entry_of es id)
entry_of_unused [] id = refl
entry_of_unused (e ∷ es) id = go (e.id == id) (entry_of_unused es id)
  where
    go : (b : Bool) → entry_of (map unused es) id ≡ option_map unused (entry_of es id) → cond b (Some (unused e)) (entry_of (map unused es) id) ≡ option_map unused (cond b (Some e) (entry_of es id))
    go true rest = refl
    go false rest = rest

entries_alike : (old new : List Entry) (id : ℕ) → map unused new ≡ map unused old → option_map unused (entry_of new id) ≡ option_map unused (entry_of old id)
entries_alike old new id same = sym (entry_of_unused new id) ∙ (ap (λ es. entry_of es id) same ∙ entry_of_unused old id)

pub found_alike : (old new : List Entry) (id : ℕ) → map unused new ≡ map unused old → IsSome (entry_of old id) → IsSome (entry_of new id)
found_alike old new id same found = go (entry_of old id) (entry_of new id) (entries_alike old new id same) found
  where
    go : (o n : Option Entry) → option_map unused n ≡ option_map unused o → IsSome o → IsSome n
    go None n is found = absurd (false≢true found)
    go (Some e) None is found = absurd (none-some (unused e) is)
    go (Some e) (Some x) is found = refl

pub loaded_alike : (old new : List Entry) (e : Entry) → map unused new ≡ map unused old → IsLoadedIn old e → IsLoadedIn new e
loaded_alike old new e same loaded = go (entry_of old e.id) (entry_of new e.id) (entries_alike old new e.id same) loaded
  where
    go : (o n : Option Entry) → option_map unused n ≡ option_map unused o → IsSomeAnd o (λ x. (x.state ≡ Loaded) × (run_of x ≡ run_of e)) → IsSomeAnd n (λ x. (x.state ≡ Loaded) × (run_of x ≡ run_of e))
    go None n is h = elim h [ ]
    go (Some x) None is h = absurd (none-some (unused x) is)
    go (Some x) (Some y) is h = let alike : unused y ≡ unused x = same_Some (unused y) (unused x) is in (ap (λ (z : Entry). z.state) alike ∙ h.0, ap run_of alike ∙ h.1)

pub all_loaded_alike : (old new known : List Entry) → map unused new ≡ map unused old → AreLoadedIn old known → AreLoadedIn new known
all_loaded_alike old new known same all =
    All-weaker (λ e. e.state ≡ Loaded → IsLoadedIn old e) (λ e. e.state ≡ Loaded → IsLoadedIn new e) (λ e h loaded. loaded_alike old new e same (h loaded)) known all

-- a member has its like
pub member_alike : (old new : List Entry) (x : Entry) → map unused new ≡ map unused old → Contains new x → Member Entry old (λ y. unused y ≡ unused x)
member_alike old new x same h = map_from unused old (unused x) (subst (λ es. Contains es (unused x)) same (map_has unused new x h))

pub as_known_alike : (old new known : List Entry) → map unused new ≡ map unused old → AreAsKnown old known → AreAsKnown new known
as_known_alike old new known same all =
    All-weaker (λ e. All (λ x. x.id ≡ e.id → run_of x ≡ run_of e) old) (λ e. All (λ x. x.id ≡ e.id → run_of x ≡ run_of e) new)
    (λ e h. all_members (λ x. x.id ≡ e.id → run_of x ≡ run_of e) new
    (λ x there its. let m = member_alike old new x same there in
    let y_id : m.item.id ≡ x.id = ap (λ (z : Entry). z.id) m.holds in
    sym (ap run_of m.holds) ∙ at_member e h m.item m.there (y_id ∙ its))) known all
  where
    at_member : (e : Entry) → All (λ x. x.id ≡ e.id → run_of x ≡ run_of e) old → (y : Entry) → Contains old y → y.id ≡ e.id → run_of y ≡ run_of e
    at_member e h y there = subst (λ (z : Entry). z.id ≡ e.id → run_of z ≡ run_of e) there.2 (h there.0 y there.1)
