use Rattle.std.proofs.Common.{[], ◌∷◌}
use Rattle.tag_model.specs.declared.state.Part.TheVariants.{Cpu, Modules}
use Rattle.tag_rule.specs.Meeting.{StandSafe}
use Rattle.tag_rule.specs.Rule.{view_of}
use Rattle.tag_rule.specs.Seated.{cpu_in, list_in}
use Rattle.tag_rule.proofs.GivenRuns.{taken_cpu, taken_list}
use Rattle.tag_rule.proofs.moving.take_run.Given as goal

abbrev pub ghosts-exchange : goal.ghosts-exchange
ghosts-exchange a = record {
  kept = view_of (Cpu (taken_cpu a.about.now (cpu_in a.one.now.me.0.parts)) ∷ []);
  gone = view_of (Modules (taken_list a.about.now (cpu_in a.one.now.me.0.parts).runs (list_in a.other.now.me.0.parts)) ∷ []);
  told = StandSafe a.words.now.shape (Cpu (taken_cpu a.about.now (cpu_in a.one.now.me.0.parts)) ∷ Modules (taken_list a.about.now (cpu_in a.one.now.me.0.parts).runs (list_in a.other.now.me.0.parts)) ∷ []);
}
