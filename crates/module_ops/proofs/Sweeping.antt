-- What a step of the manager finds: the module that it marks dead is loaded, and what a sweep reads is there.
use Rattle.std.proofs.Common.{◌≡◌, ℕ, ◌+◌, ◌*◌, ◌<◌, ◌==◌, ◌&&◌, List, [], ◌∷◌, Option, Some, None, IsSomeAnd, MatchOption, length, sym, subst, arith, Bool, true}
use Rattle.std.specs.List.{list_any}
use Rattle.std.specs.Option.{option_map}
use Rattle.tag_model.specs.declared.shape.Shape.{Shape}
use Rattle.tag_model.specs.declared.state.Reader.{Reader}
use Rattle.tag_model.specs.declared.state.Record.{Record}
use Rattle.tag_model.specs.declared.state.Sweep.{Sweep}
use Rattle.tag_model.specs.declared.state.Sweep.TheVariants as sweep
use Rattle.tag_model.specs.Laws.{sweep_fits}
use Rattle.tag_model.specs.WordState.{in_range}
use Rattle.tag_model.proofs.Found.{any_at}
use Rattle.tag_model.proofs.Lists.{in_range_means}
use Rattle.tag_model.proofs.ScanRow.{reading_fits}
use Rattle.tag_section.specs.Section.{Section}
use Rattle.module_area.specs.declared.entry.Entry.{Entry}
use Rattle.module_area.specs.declared.entry.State.TheVariants.{Loaded}
use Rattle.module_area.specs.Entries.{entry_of}
use Rattle.module_area.specs.Area.{LiesIn}
use Rattle.core_list.specs.declared.list.Next.TheVariants.{Read}
use Rattle.core_list.specs.ListState.{ListState, IsList, loaded_entry, next_of, records_of}
use Rattle.core_list.proofs.Split.{the_entry, entry_holds}
use Rattle.module_ops.specs.Modules.{ModuleTable, CanManage, words_at}
use Rattle.cpu_ops.proofs.LoadedEntry.{loaded_found}

-- ---- the module that is marked dead

pub loaded_unused : (section : ℕ) (l : ListState) (e : Entry) → IsList l → loaded_entry section l ≡ Some e → e.users ≡ 0
    → IsSomeAnd (entry_of l.area.entries e.id) (λ entry. (entry.state ≡ Loaded) × (entry.users ≡ 0))
loaded_unused section l e ok found unused =
    let f = loaded_found section l e ok found in
    subst (λ o. IsSomeAnd o (λ entry. (entry.state ≡ Loaded) × (entry.users ≡ 0))) (sym f.0) (f.1, unused)

-- ---- the word that is read

-- the CPU is one of the shape, and the tag lies in the area
pub record ReadsInside (k : Shape) (l : ListState) (r : Reader) : Type 0 where
  pub cpu : r.cpu < k.cpus
  pub tag : r.tag < l.area.first + l.area.tags

reads_in : (k : Shape) (l : ListState) (left : List ℕ) (r : Reader) → IsList l → sweep_fits k (sweep.Reading left r) (records_of l) ≡ true → ReadsInside k l r
reads_in k l left r ok fits =
    let reading = reading_fits k left r (records_of l) fits in
    let at = reading.at in
    let test : Record → Bool = λ x. (x.id == r.id) && in_range x.start x.length r.tag in
    let there = subst (λ xs. list_any test xs ≡ true) (sym at.is) (any_at test at.front at.item at.back at.passes) in
    let one = the_entry l.area r.id (λ (x : Record). in_range x.start x.length r.tag) ok.book there in
    let lies = entry_holds (λ e. LiesIn l.area e.start e.length) l.area.entries r.id one.entry ok.book.in_area one.is in
    record { cpu = reading.cpu; tag = omega (arith, in_range_means one.entry.start one.entry.length r.tag one.passes, lies.1) }

pub reads_inside : (k : Shape) (l : ListState) (r : Reader) → IsList l → sweep_fits k l.sweep (records_of l) ≡ true → next_of l.sweep ≡ Read r → ReadsInside k l r
reads_inside k l r ok fits next = go l.sweep fits next
  where
    go : (s : Sweep) → sweep_fits k s (records_of l) ≡ true → next_of s ≡ Read r → ReadsInside k l r
    go sweep.None fits next = absurd (cc)
    go (sweep.Done []) fits next = absurd (cc)
    go (sweep.Done (id ∷ left)) fits next = absurd (cc)
    go (sweep.Reading left other) fits next = let same : other ≡ r = cc in reads_in k l left r ok (subst (λ x. sweep_fits k (sweep.Reading left x) (records_of l) ≡ true) same fits)

-- so the word is there
pub word_is_there : (k : Shape) (sections : List Section) (words : List (List ℕ)) (ms : ModuleTable) (r : Reader) → CanManage k sections words ms → IsList ms.list → next_of ms.list.sweep ≡ Read r
    → 2 * r.tag + 1 < length (words_at words r.cpu)
word_is_there k sections words ms r can ok next =
    let reads = reads_inside k ms.list r ok can.sweep next in
    omega (arith, can.own_words r.cpu reads.cpu, can.area, reads.tag)

-- ---- a refusal that is another by its name

pub match_mapped : {A B : Type 0} (f : A → B) (o : Option A) (P : Type 0) (Q : B → Type 0) → MatchOption o P (λ a. Q (f a)) → MatchOption (option_map f o) P Q
match_mapped f None P Q h = h
match_mapped f (Some a) P Q h = h
