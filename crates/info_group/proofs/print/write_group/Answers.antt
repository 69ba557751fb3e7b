use Rattle.std.proofs.Common.{◌≡◌, [], ◌∷◌, ◌++◌, arith}
use Rattle.std.proofs.lemmas.Grind.{common_steps}
use Rattle.allocinfo.specs.Text.{right, signed_text}
use Rattle.allocinfo.specs.declared.print.TheConstants.{BYTES_PLACES}
use Rattle.allocinfo.proofs.PrefixLemmas.{err_through}
use Rattle.info_group.proofs.print.write_group.Goals as goal

pub returns-in_err-write_calls-clause-err : goal.returns-in_err-write_calls-clause-err
returns-in_err-write_calls-clause-err c =
    let bytes = right BYTES_PLACES (signed_text c.args.group.now.bytes) in
    let joined : c.push.new.self.items ≡ c.args.out.now.items ++ (bytes ++ 32 ∷ []) = grind (arith, common_steps) in
    err_through c.from_residual-in_err-write_calls.result c.args.out.now.items (bytes ++ 32 ∷ []) c.push.new.self.items c.write_calls.new.out.items
    joined c.in_err-write_calls.ensures.err
