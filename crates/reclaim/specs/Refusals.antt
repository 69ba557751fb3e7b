-- Why a module isn't unloaded, and which modules are loaded.
use Rattle.std.specs.Prelude.{◌≡◌, ℕ, ◌==◌, IsSomeAnd, Option, Some, None, if◌then◌else◌, List}
use Rattle.module_area.specs.declared.entry.Entry.{Entry}
use Rattle.module_area.specs.declared.entry.State.{State}
use Rattle.module_area.specs.declared.entry.State.TheVariants.{Loaded, Dead}
use Rattle.module_area.specs.Entries.{entry_of}
use Rattle.reclaim.specs.declared.answers.UnloadError.{UnloadError}
use Rattle.reclaim.specs.declared.answers.UnloadError.TheVariants.{NotLoaded, Busy}

-- the book has a loaded entry of the id
abbrev pub HasLoaded : ℕ → List Entry → Type 0
HasLoaded id entries = IsSomeAnd (entry_of entries id) (λ e. e.state ≡ Loaded)

abbrev pub refused_at : State → ℕ → Option UnloadError
refused_at Loaded users = if users == 0 then None else Some (Busy users)
refused_at Dead users = Some NotLoaded

abbrev pub refused : Option Entry → Option UnloadError
refused None = Some NotLoaded
refused (Some e) = refused_at e.state e.users

-- a module that isn't loaded isn't unloaded, nor one with users
abbrev pub unload_refusal : ℕ → List Entry → Option UnloadError
unload_refusal id entries = refused (entry_of entries id)
