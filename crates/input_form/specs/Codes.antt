-- The text of each code.
use Rattle.std.specs.Prelude.{ℕ, List, [], ◌++◌, codes, decimal}
use Rattle.std.specs.List.{slice_index_or}
use Rattle.input_form.specs.declared.code.Code.{Code}
use Rattle.input_form.specs.declared.code.Code.TheVariants as code
use Rattle.input_form.specs.declared.code.Argument.{Argument}
use Rattle.input_form.specs.declared.code.Argument.TheVariants.{Nothing, Number, Module}

abbrev pub code_word : Code → List ℕ
code_word code.Lines = codes "lines"
code_word code.Cut = codes "cut"
code_word code.Long = codes "long"
code_word code.Byte = codes "byte"
code_word code.Header = codes "header"
code_word code.Word = codes "word"
code_word code.Order = codes "order"
code_word code.Empty = codes "empty"
code_word code.Repeat = codes "repeat"
code_word code.NoRound = codes "no-round"
code_word code.Number = codes "number"
code_word code.Name = codes "name"
code_word code.File = codes "file"
code_word code.Function = codes "function"
code_word code.Tag = codes "tag"
code_word code.Module = codes "module"
code_word code.Cpu = codes "cpu"
code_word code.Sections = codes "sections"
code_word code.Tags = codes "tags"
code_word code.Same = codes "same"
code_word code.Keys = codes "keys"
code_word code.Prints = codes "prints"
code_word code.Queue = codes "queue"
code_word code.NoStep = codes "no-step"
code_word code.Held = codes "held"
code_word (code.NotLive n) = codes "not-live"
code_word (code.KeyUsed n) = codes "key-used"
code_word (code.NotRunning n) = codes "not-running"
code_word (code.Inside n) = codes "inside"
code_word (code.NotLoaded n) = codes "not-loaded"
code_word (code.AlreadyLoaded n) = codes "already-loaded"
code_word (code.Busy n) = codes "busy"
code_word code.Full = codes "full"
code_word code.NoRoom = codes "no-room"
code_word code.Uneven = codes "uneven"
code_word code.TooSmall = codes "too-small"
code_word (code.SharedKey n) = codes "shared-key"
code_word (code.NoKey n) = codes "no-key"
code_word (code.Kind n) = codes "kind"
code_word (code.Trimmed n) = codes "trimmed"
code_word code.Orders = codes "orders"
code_word (code.Bound n) = codes "bound"
code_word code.Pages = codes "pages"
code_word (code.UnloadShared n) = codes "unload-shared"
code_word (code.NotInside n) = codes "not-inside"
code_word (code.Hooked n) = codes "hooked"
code_word code.Deep = codes "deep"
code_word code.NoHook = codes "no-hook"

-- a key or a count, or a module by its section
abbrev pub argument_of : Code → Argument
argument_of code.Lines = Nothing
argument_of code.Cut = Nothing
argument_of code.Long = Nothing
argument_of code.Byte = Nothing
argument_of code.Header = Nothing
argument_of code.Word = Nothing
argument_of code.Order = Nothing
argument_of code.Empty = Nothing
argument_of code.Repeat = Nothing
argument_of code.NoRound = Nothing
argument_of code.Number = Nothing
argument_of code.Name = Nothing
argument_of code.File = Nothing
argument_of code.Function = Nothing
argument_of code.Tag = Nothing
argument_of code.Module = Nothing
argument_of code.Cpu = Nothing
argument_of code.Sections = Nothing
argument_of code.Tags = Nothing
argument_of code.Same = Nothing
argument_of code.Keys = Nothing
argument_of code.Prints = Nothing
argument_of code.Queue = Nothing
argument_of code.NoStep = Nothing
argument_of code.Held = Nothing
argument_of (code.NotLive n) = Number n
argument_of (code.KeyUsed n) = Number n
argument_of (code.NotRunning n) = Module n
argument_of (code.Inside n) = Module n
argument_of (code.NotLoaded n) = Module n
argument_of (code.AlreadyLoaded n) = Module n
argument_of (code.Busy n) = Number n
argument_of code.Full = Nothing
argument_of code.NoRoom = Nothing
argument_of code.Uneven = Nothing
argument_of code.TooSmall = Nothing
argument_of (code.SharedKey n) = Number n
argument_of (code.NoKey n) = Number n
argument_of (code.Kind n) = Number n
argument_of (code.Trimmed n) = Number n
argument_of code.Orders = Nothing
argument_of (code.Bound n) = Number n
argument_of code.Pages = Nothing
argument_of (code.UnloadShared n) = Module n
argument_of (code.NotInside n) = Module n
argument_of (code.Hooked n) = Module n
argument_of code.Deep = Nothing
argument_of code.NoHook = Nothing

-- a number in decimal, or the name of the module; the names are those of all sections, and a module that is none of them has none
abbrev pub argument_text : List (List ℕ) → Argument → List ℕ
argument_text names Nothing = []
argument_text names (Number n) = codes " " ++ decimal n
argument_text names (Module section) = codes " " ++ slice_index_or names section []

unfoldable pub code_text : List (List ℕ) → Code → List ℕ
code_text names c = code_word c ++ argument_text names (argument_of c)
