use Rattle.text_form.proofs.Parts.{joined_lines}
use Rattle.text_form.proofs.lines.lines_make_the_text.Goals as goal

pub returns : goal.returns
returns c = joined_lines
