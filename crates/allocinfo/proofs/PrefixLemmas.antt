-- Texts that begin with another.
use Rattle.std.proofs.Common.{◌≡◌, ℕ, ◌≤◌, List, ◌++◌, length, take, drop, sym, ap, ◌∙◌, arith, Result, Ok, Err, OnErr, length-append}
use Rattle.std.proofs.Math.Seq.{take-append_seam}
use Rattle.std.proofs.lemmas.List.{take-append-le, take-append-drop}
use Rattle.codetag.specs.Prefix.{IsPrefix}
use Rattle.codetag.proofs.PrefixLemmas.{prefix_append}

-- what begins a middle text begins what the middle text begins
pub prefix_through : (front more middle whole : List ℕ) → middle ≡ front ++ more → IsPrefix middle whole → IsPrefix front whole
prefix_through front more middle whole joined begins =
    let long : length front ≤ length middle = omega (arith, length-append front more, ap length joined) in
    let split = take-append-drop (length middle) whole in
    let shorter = take-append-le (length front) middle (drop (length middle) whole) long in
    let rebuilt : whole ≡ middle ++ drop (length middle) whole = sym split ∙ ap (λ t. t ++ drop (length middle) whole) begins in
    ap (take (length front)) rebuilt ∙ (shorter ∙ (ap (take (length front)) joined ∙ take-append_seam front more))

-- the same where a call hands an error on
pub err_through : {T E : Type 0} (r : Result T E) (front more middle whole : List ℕ) → middle ≡ front ++ more → IsPrefix middle whole
    → OnErr r (IsPrefix front whole)
err_through (Ok value) front more middle whole joined begins = tt
err_through (Err error) front more middle whole joined begins = prefix_through front more middle whole joined begins

-- the same where the call left what had been appended before
pub err_appended : {T E : Type 0} (r : Result T E) (front more whole : List ℕ) → whole ≡ front ++ more → OnErr r (IsPrefix front whole)
err_appended (Ok value) front more whole joined = tt
err_appended (Err error) front more whole joined = prefix_append front more whole joined
