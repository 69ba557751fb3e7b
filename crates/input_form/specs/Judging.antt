-- How a line is judged: one check after the other, and the first that fails gives the code.
use Rattle.std.specs.Prelude.{ℕ, ◌≡◌, Bool, true, false, Result, Ok, Err, ⊤}
use Rattle.input_form.specs.declared.code.Code.{Code}
use Rattle.input_form.specs.declared.code.TextError.{TextError}
use Rattle.input_form.specs.declared.code.TextError.TheVariants as text
use Rattle.input_form.specs.declared.line_error.LineError.{LineError}
use Rattle.input_form.specs.declared.line_error.LineError.TheVariants as line

infixl 10 ◌>>=◌
infixl 10 ◌>>◌
abbrev pub ◌>>=◌ : {A B E : Type 0} → Result A E → (A → Result B E) → Result B E
(Ok x) >>= f = f x
(Err code) >>= f = Err code

abbrev pub ◌>>◌ : {A B E : Type 0} → Result A E → Result B E → Result B E
(Ok x) >> after = after
(Err code) >> after = Err code

-- one check
abbrev pub need : Bool → Code → Result ⊤ Code
need true code = Ok tt
need false code = Err code

-- a code with the number of its line
abbrev pub at : {A : Type 0} → ℕ → Result A Code → Result A (ℕ × Code)
at number (Ok x) = Ok x
at number (Err code) = Err (number, code)

-- What a call returned is what reading gives, unless memory ran out.
abbrev pub Reads : {X : Type 0} → Result X TextError → Result X (ℕ × Code) → Type 0
Reads (Ok x) read = read ≡ Ok x
Reads (Err (text.Refused line code)) read = read ≡ Err (line, code)
Reads (Err (text.Memory want)) read = ⊤

-- an error of a line, with the line's number
abbrev pub error_at : ℕ → LineError → TextError
error_at number (line.Refused code) = text.Refused number code
error_at number (line.Memory want) = text.Memory want

-- What a call left is what judging the line gives, unless memory ran out.
abbrev pub Leaves : {S : Type 0} → Result ⊤ LineError → S → Result S Code → Type 0
Leaves (Ok done) new judged = judged ≡ Ok new
Leaves (Err (line.Refused code)) new judged = judged ≡ Err code
Leaves (Err (line.Memory want)) new judged = ⊤

-- What a call returned is what judging gives, unless memory ran out.
abbrev pub Gives : {X : Type 0} → Result X LineError → Result X Code → Type 0
Gives (Ok x) judged = judged ≡ Ok x
Gives (Err (line.Refused code)) judged = judged ≡ Err code
Gives (Err (line.Memory want)) judged = ⊤
