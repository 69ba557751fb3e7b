-- The number of a tag of a module that is loaded.
use Rattle.std.proofs.Common.{◌≡◌, ℕ, ◌+◌, ◌<◌, List, [], ◌∷◌, ◌++◌, length, Option, Some, None, All, refl, sym, ap, ◌∙◌, subst, arith, take, get_or, suc, append-nil}
use Rattle.std.proofs.Math.Seq.{take-suc}
use Rattle.std.proofs.lemmas.Grind.{flat_map-append}
use Rattle.std.specs.List.{find, flat_map}
use Rattle.std.specs.Option.{option_map}
use Rattle.tag_section.specs.Section.{Section, tags_in}
use Rattle.module_area.specs.declared.entry.Entry.{Entry}
use Rattle.module_area.specs.Area.{Area, IsBook, LiesIn}
use Rattle.module_area.specs.Entries.{is_loaded_as, entry_of, id_loaded}
use Rattle.module_area.proofs.EntryLemmas.{find_some}
use Rattle.core_steps.specs.CoreState.{EntryFits}
use Rattle.cpu_ops.proofs.LoadedEntry.{entry_is_found, loaded_at}
use Rattle.core_list.proofs.Split.{entry_holds}

-- the entry that the id of a section's loaded module leads to
pub record LoadedAs (area : Area) (section : ℕ) (e : Entry) : Type 0 where
  pub found : find (is_loaded_as section) area.entries ≡ Some e
  pub by_id : entry_of area.entries e.id ≡ Some e
  pub of_section : e.section ≡ section

pub loaded_as : (area : Area) (section id : ℕ) (e : Entry) → IsBook area → id_loaded area.entries section ≡ Some id → entry_of area.entries id ≡ Some e → LoadedAs area section e
loaded_as area section id e book is listed = go (find (is_loaded_as section) area.entries) refl is
  where
    go : (o : Option Entry) → find (is_loaded_as section) area.entries ≡ o → option_map (λ (x : Entry). x.id) o ≡ Some id → LoadedAs area section e
    go None found none = cc
    go (Some x) found some =
        let at = find_some (is_loaded_as section) area.entries x found in
        let named : x.id ≡ id = cc in
        let here = entry_is_found area.entries x book.rising at.0 in
        let both : Some x ≡ Some e = sym (ap (entry_of area.entries) (sym named) ∙ here) ∙ listed in
        let same : x ≡ e = cc in
        let of = (loaded_at section x at.1).same_section in
        subst (LoadedAs area section) same (record { found = found; by_id = here; of_section = of })

-- its number is one of the shape
pub number_below : (area : Area) (sections : List Section) (section index tags : ℕ) (e : Entry) → IsBook area → All (EntryFits sections) area.entries → area.first + area.tags ≡ tags → LoadedAs area section e → index < tags_in sections section
    → e.start + index < tags
number_below area sections section index tags e book fit within is below =
    let fits = entry_holds (EntryFits sections) area.entries e.id e fit is.by_id in
    let lies = entry_holds (λ (x : Entry). LiesIn area x.start x.length) area.entries e.id e book.in_area is.by_id in
    let same : tags_in sections e.section ≡ tags_in sections section = ap (tags_in sections) is.of_section in
    omega (arith, lies.1, fits.all_tags)

-- an entry more
pub flat_more : {X Y : Type 0} → (f : X → List Y) (xs : List X) (i : ℕ) (x : X) → i < length xs → get_or xs i x ≡ x → flat_map f (take (i + 1) xs) ≡ flat_map f (take i xs) ++ f x
flat_more f xs i x below is =
    let plus_one : i + 1 ≡ suc i = omega arith in
    rw plus_one (ap (flat_map f) (take-suc xs i x below ∙ ap (λ y. take i xs ++ y ∷ []) is) ∙ flat_map-append f (take i xs) (x ∷ []) ∙ ap (λ ys. flat_map f (take i xs) ++ ys) (append-nil (f x)))
