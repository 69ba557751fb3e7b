use Rattle.std.proofs.Common.{◌≡◌, Some, sym, ap, ◌∙◌, arith}
use Rattle.tag_model.specs.declared.state.Reader.{Reader}
use Rattle.core_list.specs.ListState.{ListState, read_to}
use Rattle.module_ops.specs.Modules.{ModuleTable, managed_times, read_over, reads_next}
use Rattle.module_ops.proofs.ReadOn.{read_on_after, read_on_quiet, reads_there}
use Rattle.module_ops.proofs.modules.ModuleTable.read_on.Goals as goal

pub read_over-next-requires-clause-tags : goal.read_over-next-requires-clause-tags
read_over-next-requires-clause-tags c = (reads_there c.args.shape c.requires.0 c.args.words.now c.args.self.now c.in-Some.reader c.requires.1 c.reads_next.ensures.holds (sym c.in-Some.ensures.value)).tags

pub returns-clause-after : goal.returns-clause-after
returns-clause-after c = λ sections.
    let s = c.self.inside in
    let ms : ModuleTable = record { inside = s.inside.items; list = s.list; manager = record { ops = s.ops.items; under_way = s.under_way } } in
    let k = c.args.shape in
    let words = c.args.words.now in
    let r = c.in-Some.reader in
    let n = c.min-count.result in
    let next : reads_next ms ≡ Some r = ap reads_next c.self.view_is ∙ sym c.in-Some.ensures.value in
    let there = reads_there c.args.shape c.requires.0 c.args.words.now c.args.self.now c.in-Some.reader c.requires.1 c.reads_next.ensures.holds (sym c.in-Some.ensures.value) in
    let read : ◌≡◌ {A = ListState} c.read_to.new.self (read_to (read_over words n r).cpu (read_over words n r).sum s.list) = c.read_to.ensures ∙ ap (λ (x : Reader). read_to x.cpu x.sum s.list) c.read_over-next.ensures in
    read_on_after k sections words ms c.read_to.new.self n r next (omega (arith, there.cpu, c.min-count.ensures)) read ∙ ap (managed_times k sections words n) c.self.view_is

pub returns-clause-quiet : goal.returns-clause-quiet
returns-clause-quiet c = λ sections.
    let there = reads_there c.args.shape c.requires.0 c.args.words.now c.args.self.now c.in-Some.reader c.requires.1 c.reads_next.ensures.holds (sym c.in-Some.ensures.value) in
    read_on_quiet c.args.shape sections c.args.words.now c.args.self.now c.min-count.result c.in-Some.reader (sym c.in-Some.ensures.value) (omega (arith, there.cpu, c.min-count.ensures))
