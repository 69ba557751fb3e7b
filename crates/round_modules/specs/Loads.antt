-- Why a load of a trace is refused.
use Rattle.std.specs.Prelude.{ℕ, ◌==◌, Option, Some, None, length, if◌then◌else◌}
use Rattle.std.specs.Option.{is_some}
use Rattle.module_area.specs.Area.{Area, least_start}
use Rattle.round_modules.specs.declared.loading.LoadRefusal.{LoadRefusal}
use Rattle.round_modules.specs.declared.loading.LoadRefusal.TheVariants.{Full, NoRoom}

-- there are 64 entries; or fewer, and no gap for so many tags
abbrev pub refusal_in : ℕ → Area → Option LoadRefusal
refusal_in size area = if length area.entries == 64 then Some Full else (if is_some (least_start area size) then None else Some NoRoom)
