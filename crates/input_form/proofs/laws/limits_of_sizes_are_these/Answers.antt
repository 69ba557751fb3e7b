use Rattle.std.proofs.Common.{refl}
use Rattle.text_form.specs.Words.{words_of}
use Rattle.input_form.specs.Words.{number_word}
use Rattle.input_form.specs.Head.{size_line}
use Rattle.input_form.proofs.laws.limits_of_sizes_are_these.Goals as goal

pub returns-clause-cpus : goal.returns-clause-cpus
unfolding words_of number_word size_line
returns-clause-cpus c = (refl, refl, refl, refl)

pub returns-clause-area : goal.returns-clause-area
unfolding words_of number_word size_line
returns-clause-area c = (refl, refl, refl)

pub returns-clause-frames : goal.returns-clause-frames
unfolding words_of number_word size_line
returns-clause-frames c = (refl, refl, refl, refl)

pub returns-clause-vectors : goal.returns-clause-vectors
unfolding words_of number_word size_line
returns-clause-vectors c = (refl, refl, refl)
