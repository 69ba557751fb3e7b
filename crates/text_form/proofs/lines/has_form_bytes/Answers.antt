use Rattle.std.proofs.Common.{◌/◌, length, rules}
use Rattle.text_form.specs.Lines.{is_form_byte}
use Rattle.text_form.proofs.Chunks.{by_chunks}
use Rattle.text_form.proofs.lines.has_form_bytes.Goals as goal

pub returns-then-all_fit : goal.returns-then-all_fit
returns-then-all_fit c =
    let parts = by_chunks is_form_byte 8 (length c.args.line.now / 8) c.args.line.now in
    search rules

pub returns-else-all_fit : goal.returns-else-all_fit
returns-else-all_fit c =
    let parts = by_chunks is_form_byte 8 (length c.args.line.now / 8) c.args.line.now in
    search rules
