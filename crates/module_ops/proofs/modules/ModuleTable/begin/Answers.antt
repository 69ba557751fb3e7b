use Rattle.std.proofs.Common.{◌≡◌, Ok, Err}
use Rattle.core_list.specs.ListState.{load_refusal}
use Rattle.module_ops.specs.Modules.{load_refused}
use Rattle.module_ops.proofs.Sweeping.{match_mapped}
use Rattle.module_ops.proofs.modules.ModuleTable.begin.Goals as goal

pub returns-in-Load-clause-answer : goal.returns-in-Load-clause-answer
returns-in-Load-clause-answer c =
    let list = c.args.self.now.list in
    let answer = match_mapped (load_refused c.in-Load.section) (load_refusal c.in-Load.section c.len_of.result list) (c.load.result ≡ Ok (tt {0})) (λ why. c.load.result ≡ Err why) c.load.ensures.answer in
    rw c.in-Load.is (rw (← c.len_of.ensures.value) answer)
