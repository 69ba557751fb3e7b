use Rattle.std.proofs.Common.{◌≡◌, ◌-◌}
use Rattle.tag_model.specs.declared.state.Reader.{Reader}
use Rattle.module_ops.specs.Modules.{read_over}
use Rattle.module_ops.proofs.modules.read_over.Given as goal

-- reading what is left from here gives what reading all gives
abbrev pub invariant-loop-cpu : goal.invariant-loop-cpu
invariant-loop-cpu l = ◌≡◌ {A = Reader} (read_over l.words (l.end - l.cpu) (record l.reader { cpu = l.cpu; sum = l.sum })) (read_over l.words l.count l.reader)
