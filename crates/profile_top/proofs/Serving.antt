-- What is too long.
use Rattle.std.proofs.Common.{◌≡◌, ◌≢◌, ℕ, ◌+◌, ◌<◌, ◌≤◌, List, ◌++◌, ap, subst, arith, Option, Some, None, Bool, true, false, length, length-append, append-nil, lt-ltb, le-ltb, sym, ◌∙◌, if◌then◌else◌, nat_lt}
use Rattle.std.specs.Io.KnownBytes.{Consumes, Appends, IsAtEnd}
use Rattle.profile_top.specs.declared.answer.Answer.{Answer}
use Rattle.outside.specs.Bytes.{Took}
use Rattle.outside.specs.declared.faults.ReadError.TheVariants.{TooLong}
use Rattle.profile_top.specs.Answers.{Gives, Written, input_limit, too_long}

-- what is written for an input, by what is written for one that isn't too long
abbrev pub limited : (List ℕ → Written) → List ℕ → Written
limited short input = if nat_lt input_limit (length input) then too_long else short input

at_least : (new : Option (List ℕ)) (input bytes : List ℕ) → Consumes (Some input) new bytes → length bytes ≤ length input
at_least None input bytes none = absurd none
at_least (Some rest) input bytes is = let parts : length (bytes ++ rest) ≡ length bytes + length rest = length-append bytes rest in
    let whole : length input ≡ length (bytes ++ rest) = ap (λ (l : List ℕ). length l) is in
    omega (arith, parts, whole)

pub long_answer : (short : List ℕ → Written) (input : List ℕ) → input_limit < length input → limited short input ≡ too_long
long_answer short input h = let long : nat_lt input_limit (length input) ≡ true = lt-ltb input_limit (length input) h in
    ap (λ (b : Bool). if b then too_long else short input) long

pub short_answer : (short : List ℕ → Written) (input : List ℕ) → length input ≤ input_limit → limited short input ≡ short input
short_answer short input h = let within : nat_lt input_limit (length input) ≡ false = le-ltb input_limit (length input) h in
    ap (λ (b : Bool). if b then too_long else short input) within

-- an input of which more was taken than is read is too long
pub took_too_much : (old new : Option (List ℕ)) → Took input_limit TooLong old new → (input : List ℕ) → old ≡ Some input → input_limit < length input
took_too_much old new took input e =
    let taken : Consumes (Some input) new took.bytes = subst (λ (o : Option (List ℕ)). Consumes o new took.bytes) e took.taken in
    let many : length took.bytes ≤ length input = at_least new input took.bytes taken in
    let amount : length took.bytes ≡ input_limit + 1 = took.amount in
    omega (arith, many, amount)

pub decided_long : (old new taken taken_after : Option (List ℕ)) (status : ℕ) → Took input_limit TooLong old new
    → (status ≢ 5 → (status ≡ 1) × Appends taken taken_after too_long.text)
    → (short : List ℕ → Written) (input : List ℕ) → old ≡ Some input → status < 2 → (status ≡ (limited short input).status) × Appends taken taken_after (limited short input).text
decided_long old new taken taken_after status took whole short input e below =
    let not_five : status ≢ 5 = λ five. omega (arith, five) in
    rw (long_answer short input (took_too_much old new took input e)) (whole not_five)

-- what was read to the end is all that was there
pub all_read : (old new : Option (List ℕ)) (read input : List ℕ) → Consumes old new read → IsAtEnd new → old ≡ Some input → read ≡ input
all_read None new read input is end e = cc
all_read (Some whole) None read input is end e = absurd is
all_read (Some whole) (Some rest) read input is end e =
    let same : whole ≡ input = cc in
    let all : whole ≡ read = is ∙ ap (λ (l : List ℕ). read ++ l) end ∙ append-nil read in
    sym all ∙ same

pub decided_read : (old new taken taken_after : Option (List ℕ)) (read : List ℕ) (status : ℕ) (answer : Answer) (short : List ℕ → Written) → Consumes old new read → IsAtEnd new → length read ≤ input_limit
    → Gives answer (short read) → (status ≢ 5 → (status ≡ answer.status) × Appends taken taken_after answer.text.items)
    → (input : List ℕ) → old ≡ Some input → status < 2 → (status ≡ (limited short input).status) × Appends taken taken_after (limited short input).text
decided_read old new taken taken_after read status answer short consumes end within gives whole input e below =
    let not_five : status ≢ 5 = λ five. omega (arith, five) in
    let same : read ≡ input = all_read old new read input consumes end e in
    let answered : limited short input ≡ short read = ap (limited short) (sym same) ∙ short_answer short read within in
    let w = whole not_five in
    rw answered (w.0 ∙ gives.status, subst (Appends taken taken_after) gives.text w.1)
