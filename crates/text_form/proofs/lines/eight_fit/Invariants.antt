use Rattle.std.proofs.Common.{◌≡◌, take}
use Rattle.std.specs.List.{list_all}
use Rattle.text_form.specs.Lines.{is_form_byte}
use Rattle.text_form.proofs.lines.eight_fit.Given as goal

-- whether the bytes so far fit
abbrev pub invariant-loop-byte : goal.invariant-loop-byte
invariant-loop-byte l = l.fit ≡ list_all is_form_byte (take l.byte-index l.bytes)
