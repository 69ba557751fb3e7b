use Rattle.std.proofs.Common.{◌≡◌, [], ◌∷◌, ◌++◌, ◌∙◌, decimal, arith}
use Rattle.std.proofs.lemmas.Grind.{common_steps}
use Rattle.allocinfo.specs.Text.{right, signed_text}
use Rattle.allocinfo.specs.declared.print.TheConstants.{BYTES_PLACES, CALLS_PLACES}
use Rattle.allocinfo.proofs.PrefixLemmas.{err_appended, err_through}
use Rattle.allocinfo.proofs.print.write_parts.Goals as goal

pub returns-in_err-write_calls-clause-err : goal.returns-in_err-write_calls-clause-err
returns-in_err-write_calls-clause-err c =
    let bytes = right BYTES_PLACES (signed_text c.args.row.bytes) in
    let joined : c.push.new.self.items ≡ c.args.out.now.items ++ (bytes ++ 32 ∷ []) = grind (arith, common_steps) in
    err_through c.from_residual-in_err-write_calls.result c.args.out.now.items (bytes ++ 32 ∷ []) c.push.new.self.items c.write_calls.new.out.items
    joined c.in_err-write_calls.ensures.err

pub returns-in_err-write_place-clause-err : goal.returns-in_err-write_place-clause-err
returns-in_err-write_place-clause-err c =
    let numbers = right BYTES_PLACES (signed_text c.args.row.bytes) ++ (32 ∷ [] ++ (right CALLS_PLACES (decimal c.args.row.calls) ++ 32 ∷ [])) in
    let joined : c.push-2.new.self.items ≡ c.args.out.now.items ++ numbers = grind (arith, common_steps) in
    err_appended c.from_residual-in_err-write_place.result c.args.out.now.items numbers c.write_place.new.out.items
    (c.in_err-write_place.ensures.err ∙ joined)
