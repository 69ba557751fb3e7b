-- The states of all CPUs.
use Rattle.std.specs.Prelude.{ℕ, ◌==◌, Bool, List, [], slice_index_or, replicate}
use Rattle.std.specs.List.{list_any}
use Rattle.round_check.specs.CpuState.{CpuState}

abbrev pub idle : CpuState
idle = record { hooks = []; inside = [] }

-- the states of so many CPUs
unfoldable pub idle_cpus : ℕ → List CpuState
idle_cpus count = replicate count idle

abbrev pub cpu_at : List CpuState → ℕ → CpuState
cpu_at cpus cpu = slice_index_or cpus cpu idle

abbrev pub is_inside : ℕ → CpuState → Bool
is_inside section state = list_any (λ other. other == section) state.inside
