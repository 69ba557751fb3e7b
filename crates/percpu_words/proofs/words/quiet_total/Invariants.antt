use Rattle.std.proofs.Common.{sum_by, take, ◌≡◌}
use Rattle.tag_model.specs.declared.state.Kind.TheVariants.{Bytes, Calls}
use Rattle.tag_model.specs.Wrap.{wrap}
use Rattle.percpu_words.specs.CpuWords.{word_in}
use Rattle.percpu_words.proofs.words.quiet_total.Given as goal

abbrev pub invariant-loop-cpu : goal.invariant-loop-cpu
invariant-loop-cpu l = record {
  same : l.cpus ≡ l.initial.cpus;
  bytes : l.bytes ≡ wrap (sum_by (word_in Bytes l.tag) (take l.cpu-index l.initial.cpus));
  calls : l.calls ≡ wrap (sum_by (word_in Calls l.tag) (take l.cpu-index l.initial.cpus));
}
