use Rattle.std.proofs.Common.{[], ◌∷◌}
use Rattle.tag_model.specs.declared.state.Part.TheVariants.{Cpu, Modules}
use Rattle.tag_rule.specs.Meeting.{StandSafe}
use Rattle.tag_rule.specs.Rule.{view_of}
use Rattle.tag_rule.specs.Seated.{cpu_in, list_in}
use Rattle.tag_rule.proofs.GivenRuns.{given_cpu, given_list}
use Rattle.tag_rule.proofs.moving.give_run.Given as goal

abbrev pub ghosts-exchange : goal.ghosts-exchange
ghosts-exchange a = record {
  kept = view_of (Cpu (given_cpu a.about.now (list_in a.other.now.me.0.parts).away (cpu_in a.one.now.me.0.parts)) ∷ []);
  gone = view_of (Modules (given_list a.about.now (list_in a.other.now.me.0.parts)) ∷ []);
  told = StandSafe a.words.now.shape (Cpu (given_cpu a.about.now (list_in a.other.now.me.0.parts).away (cpu_in a.one.now.me.0.parts)) ∷ Modules (given_list a.about.now (list_in a.other.now.me.0.parts)) ∷ []);
}
