use Rattle.text_form.proofs.Parts.{joined_words}
use Rattle.text_form.proofs.words.words_make_the_line.Goals as goal

pub returns : goal.returns
returns c = joined_words
