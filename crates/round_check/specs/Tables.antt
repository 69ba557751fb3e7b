-- What the tables have at first.
use Rattle.std.specs.Prelude.{ℕ, List, None, false, replicate}
use Rattle.round_check.specs.declared.keys.KeyState.{KeyState}
use Rattle.round_check.specs.declared.modules.ModuleState.{ModuleState}

-- a key that no line has named
abbrev pub unbound : KeyState
unbound = record { bound = None; round = 0; cpu = 0 }

-- the keys below a number
unfoldable pub unbound_keys : ℕ → List KeyState
unbound_keys count = replicate count unbound

-- a module that no line has named
abbrev pub absent : ModuleState
absent = record { loaded = false; moved = 0; unloaded = 0 }

-- the modules of so many sections
unfoldable pub absent_modules : ℕ → List ModuleState
absent_modules count = replicate count absent
