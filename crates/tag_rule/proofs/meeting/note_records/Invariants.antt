use Rattle.std.proofs.Common.{[], ◌∷◌}
use Rattle.tag_model.specs.declared.state.Part.TheVariants.{Cpu, Modules}
use Rattle.tag_rule.specs.Rule.{view_of}
use Rattle.tag_rule.specs.Seated.{cpu_in, list_in}
use Rattle.tag_rule.proofs.Noted.{noting}
use Rattle.tag_rule.proofs.meeting.note_records.Given as goal

abbrev pub ghosts-exchange : goal.ghosts-exchange
ghosts-exchange a = record {
  kept = view_of (Cpu (noting (list_in a.other.now.me.0.parts).records (cpu_in a.one.now.me.0.parts)) ∷ []);
  gone = view_of (Modules (list_in a.other.now.me.0.parts) ∷ []);
  told = Unit {0};
}
