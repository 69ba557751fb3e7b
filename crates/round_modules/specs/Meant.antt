-- A refusal of a load as the meaning of a trace tells it.
use Rattle.std.specs.Prelude.{ℕ, Option, Some, None}
use Rattle.input_form.specs.declared.code.Code.{Code}
use Rattle.input_form.specs.declared.code.Code.TheVariants as code
use Rattle.round_modules.specs.declared.loading.LoadRefusal.{LoadRefusal}
use Rattle.round_modules.specs.declared.loading.LoadRefusal.TheVariants.{Full, NoRoom}

abbrev pub code_of : LoadRefusal → Code
code_of Full = code.Full
code_of NoRoom = code.NoRoom

-- with its line
abbrev pub refused_as : ℕ → Option LoadRefusal → Option (ℕ × Code)
refused_as line None = None
refused_as line (Some why) = Some (line, code_of why)
