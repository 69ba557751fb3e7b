-- What the words of both languages stand for.
use Rattle.std.specs.Prelude.{ℕ, List, Result, Bool}
use Rattle.std.specs.Option.{ok_or}
use Rattle.std.specs.Str.{bytes_eq}
use Rattle.text_form.specs.Numbers.{number_in, number_below}
use Rattle.input_form.specs.declared.code.Code.{Code}
use Rattle.input_form.specs.declared.code.Code.TheVariants as code

unfoldable pub is_word : List ℕ → List ℕ → Bool
is_word text word = bytes_eq word text

-- a number of the range
unfoldable pub number_word : ℕ → ℕ → List ℕ → Result ℕ Code
number_word low high word = ok_or (number_in low high word) code.Number

-- a key
abbrev pub key_word : List ℕ → Result ℕ Code
key_word word = number_word 1 65535 word

-- one of the CPUs
unfoldable pub cpu_word : ℕ → List ℕ → Result ℕ Code
cpu_word cpus word = ok_or (number_below cpus word) code.Cpu
