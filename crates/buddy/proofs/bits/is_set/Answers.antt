use Rattle.std.proofs.Common.{◌/◌, ◌%◌, sym, ◌∙◌, refl}
use Rattle.std.proofs.lemmas.Bool.{eqb-true, eq-eqb}
use Rattle.std.proofs.lemmas.Nat.Bits.{shr_and_one}
use Rattle.buddy.proofs.Runs.{bit_of_in}
use Rattle.buddy.proofs.bits.is_set.Goals as goal

pub returns : goal.returns
returns c =
    let bit = bit_of_in c.args.words.now c.args.bit (c.args.bit / 64) refl in
    let read = shr_and_one _ (c.args.bit % 64) in
    ((λ set. bit ∙ sym read ∙ eqb-true _ 1 set), (λ set. eq-eqb _ 1 (read ∙ sym bit ∙ set)))
