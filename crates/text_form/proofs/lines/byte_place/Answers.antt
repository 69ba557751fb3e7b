use Rattle.std.proofs.Common.{eqb}
use Rattle.text_form.proofs.First.{first_position}
use Rattle.text_form.proofs.lines.byte_place.Goals as goal

pub returns : goal.returns
returns c = first_position (λ b. eqb b c.args.byte) c.args.text.now c.memchr.result c.memchr.ensures
