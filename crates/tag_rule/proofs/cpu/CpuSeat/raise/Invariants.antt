use Rattle.std.proofs.Common.{[], ◌∷◌}
use Rattle.tag_model.specs.declared.state.Part.TheVariants.{Cpu}
use Rattle.tag_rule.specs.Parts.{raises_to}
use Rattle.tag_rule.specs.Rule.{view_of}
use Rattle.tag_rule.specs.Seated.{cpu_in}
use Rattle.tag_rule.proofs.cpu.CpuSeat.raise.Given as goal

abbrev pub ghosts-add : goal.ghosts-add
ghosts-add a = record { after = λ n. view_of (Cpu (raises_to a._about.now a.n (cpu_in a.seat.now.me.0.parts)) ∷ []); told = λ n. Unit {0} }
