use Rattle.std.proofs.Common.{[], ◌∷◌}
use Rattle.tag_model.specs.declared.state.Part.TheVariants.{Cpu, Modules}
use Rattle.tag_rule.specs.Listed.{after_read}
use Rattle.tag_rule.specs.Rule.{view_of}
use Rattle.tag_rule.specs.Seated.{cpu_in, list_in}
use Rattle.tag_rule.proofs.OwnRead.{told_of_own}
use Rattle.tag_rule.proofs.scanning.scan_own.Given as goal

abbrev pub ghosts-look_together : goal.ghosts-look_together
ghosts-look_together a = record {
  after = λ n. view_of (Cpu (cpu_in a.one.now.me.0.parts) ∷ Modules (after_read a.words.now.shape n (list_in a.other.now.me.0.parts)) ∷ []);
  told = λ n. told_of_own a.words.now.shape n a.about.now (cpu_in a.one.now.me.0.parts) (list_in a.other.now.me.0.parts);
}
