use Rattle.std.proofs.Common.{◌≡◌, ℕ, suc, ◌+◌, ◌-◌, arith, sym, ap, ◌∙◌}
use Rattle.tag_model.specs.declared.state.Reader.{Reader}
use Rattle.core_list.specs.ListState.{sum_read}
use Rattle.module_ops.specs.Modules.{read_over}
use Rattle.module_ops.proofs.modules.read_over.Goals as goal

pub loop-cpu-preserved : goal.loop-cpu-preserved
loop-cpu-preserved c =
    let words = c.args.words.now in
    let end = c.args.reader.cpu + c.args.count in
    let at : Reader = record c.args.reader { cpu = c.loop-cpu.cpu; sum = c.loop-cpu.sum } in
    let left : ℕ = end - (c.loop-cpu.cpu + 1) in
    let more : end - c.loop-cpu.cpu ≡ suc left = omega (arith, c.loop-cpu-test.true) in
    ap (λ w. read_over words left (record at { cpu = at.cpu + 1; sum = sum_read at w })) c.word_in-sum.ensures
    ∙ (ap (λ n. read_over words n at) (sym more) ∙ c.loop-cpu.invariant)
