use Rattle.std.proofs.Common.{◌≡◌, ℕ, slice_index}
use Rattle.tag_model.specs.WordState.{word_place}
use Rattle.tag_rule.specs.Seated.{cpu_in}
use Rattle.tag_rule.proofs.reading.read_own.Given as goal

abbrev pub ghosts-look : goal.ghosts-look
ghosts-look a = record { after = λ n. a.seat.now.me.0; told = λ (n : ℕ). n ≡ slice_index (cpu_in a.seat.now.me.0.parts).words (word_place a._about.now.0 a._about.now.1) }
