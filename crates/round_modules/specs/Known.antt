-- What is known of the modules beside the book: the same entries, with some dead that are still loaded there.
use Rattle.std.specs.Prelude.{◌≡◌, ℕ, ◌≤◌, ◌==◌, ◌&&◌, ◌⊎◌, not, Bool, false, IsSome, IsSomeAnd, IsTrue, if◌then◌else◌, List, [], ◌∷◌, map, filter, fold, All, Any}
use Rattle.std.specs.List.{list_any}
use Rattle.tag_model.specs.declared.shape.Shape.{Shape}
use Rattle.tag_model.specs.declared.state.Run.{Run}
use Rattle.module_area.specs.declared.entry.Entry.{Entry}
use Rattle.module_area.specs.declared.entry.State.TheVariants.{Loaded, Dead}
use Rattle.module_area.specs.Area.{Area}
use Rattle.module_area.specs.Entries.{Covers, entry_of, is_dead, is_loaded_as, kept}
use Rattle.core_list.specs.ListState.{run_of}
use Rattle.tag_rule.specs.Shown.{CpuShown}
use Rattle.reclaim.specs.Quiet.{is_quiet_tag, is_unquiet}
use Rattle.reclaim.specs.State.{LockedShown}
use Rattle.trace.specs.declared.traces.OnOp.{OnOp}
use Rattle.trace.specs.declared.traces.TraceOp.{TraceOp}
use Rattle.trace.specs.declared.traces.TraceOp.TheVariants as op

-- the entry, with nobody inside
abbrev pub unused : Entry → Entry
unused e = record e { users = 0 }

-- the modules that stay loaded
abbrev pub staying : List Entry → List Entry
staying entries = filter (λ e. not (is_dead e.state)) entries

-- a run on each of them
abbrev pub runs_of : List Entry → List Run
runs_of entries = map run_of (staying entries)

-- entry by entry, what is known is what the book has, or that dead; nobody is inside
abbrev pub IsKnown : List Entry → List Entry → Type 0
IsKnown [] [] = Unit {0}
IsKnown [] (e ∷ known) = ⊥
IsKnown (b ∷ book) [] = ⊥
IsKnown (b ∷ book) (e ∷ known) = (b.users ≡ 0) × ((e ≡ b) ⊎ (e ≡ kept b)) × IsKnown book known

-- a loaded entry of the book has the entry's id, section and range
abbrev pub IsLoadedIn : List Entry → Entry → Type 0
IsLoadedIn book e = IsSomeAnd (entry_of book e.id) (λ x. (x.state ≡ Loaded) × (run_of x ≡ run_of e))

-- so it is for each that stays loaded
abbrev pub AreLoadedIn : List Entry → List Entry → Type 0
AreLoadedIn book known = All (λ e. e.state ≡ Loaded → IsLoadedIn book e) known

-- what the book has of a known module has its section and range
abbrev pub AreAsKnown : List Entry → List Entry → Type 0
AreAsKnown book known = All (λ e. All (λ x. x.id ≡ e.id → run_of x ≡ run_of e) book) known

-- what is known, as the entries of an area of so many tags behind the kernel's
abbrev pub known_area : Shape → ℕ → List Entry → Area
known_area k tags known = record { entries = known; first = k.kernel_tags; tags = tags }

-- ---- unloads

-- an unload leaves the section's module dead
abbrev pub unload_in : List Entry → TraceOp → List Entry
unload_in entries (op.Page key order) = entries
unload_in entries (op.Kmalloc key size) = entries
unload_in entries (op.Free key) = entries
unload_in entries (op.Split key order first) = entries
unload_in entries (op.Swap one two) = entries
unload_in entries (op.Trim key pages) = entries
unload_in entries (op.Hook section index) = entries
unload_in entries op.Unhook = entries
unload_in entries (op.Enter section) = entries
unload_in entries (op.Leave section) = entries
unload_in entries (op.Unload section) = map (λ entry. if is_loaded_as section entry then kept entry else entry) entries

-- those of the ops, in their order
abbrev pub unloaded_by : List OnOp → List Entry → List Entry
unloaded_by ops entries = fold unload_in entries (map (λ on. on.op) ops)

-- ---- what became of the book

-- the modules are the same, whoever is inside
pub record SameModules (old new : LockedShown) : Type 0 where
  pub board : new.board ≡ old.board
  pub sections : new.sections ≡ old.sections
  pub first : new.area.first ≡ old.area.first
  pub tags : new.area.tags ≡ old.area.tags
  pub entries : map unused new.area.entries ≡ map unused old.area.entries

-- a module that stays loaded has this id
abbrev pub stays : List Entry → ℕ → Bool
stays known id = list_any (λ (e : Entry). (e.id == id) && not (is_dead e.state)) known

-- what doesn't stay loaded is dead
abbrev pub dead_unless : List Entry → Entry → Entry
dead_unless known e = if stays known e.id then e else kept e

-- ---- what the words tell

-- each dead module under which something is counted is still in the book
abbrev pub AreHeld : List CpuShown → List Entry → List Entry → Type 0
AreHeld cpus book known = All (λ e. e.state ≡ Dead → IsTrue (is_unquiet cpus e) → IsSome (entry_of book e.id)) known

-- each tag of the area under which something is counted is covered by a known module that is loaded, or still in the book
abbrev pub AreCounted : List CpuShown → ℕ → List Entry → List Entry → Type 0
AreCounted cpus first book known = (t : ℕ) → first ≤ t → is_quiet_tag cpus t ≡ false → Any (λ e. Covers e t × ((e.state ≡ Loaded) ⊎ IsSome (entry_of book e.id))) known
