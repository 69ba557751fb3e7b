use Rattle.std.proofs.Common.{sym, ap, ◌∙◌}
use Rattle.core_list.specs.ListState.{ListState, next_of}
use Rattle.module_ops.proofs.Sweeping.{word_is_there}
use Rattle.module_ops.proofs.modules.ModuleTable.sweep_on.Goals as goal

pub word_read-requires-clause-tag : goal.word_read-requires-clause-tag
word_read-requires-clause-tag c =
    let next = ap (λ (l : ListState). next_of l.sweep) (sym c.list.ensures.value) ∙ sym c.in-Read.ensures in
    word_is_there c.args.shape c.requires.0 c.args.words.now c.args.self.now c.in-Read.reader c.requires.1 c.list.ensures.holds next
