use Rattle.std.proofs.Common.{◌≡◌, ℕ, List, ◌++◌, ap, ◌∙◌, append_assoc}
use Rattle.std.specs.List.{flat_map}
use Rattle.std.proofs.lemmas.Result.{on_ok_weaker}
use Rattle.allocinfo.specs.Text.{header_text, row_text}
use Rattle.allocinfo.proofs.print.print_rows.Goals as goal

-- the header and then the lines
joined : (before header lines middle after : List ℕ) → middle ≡ before ++ header → after ≡ middle ++ lines → after ≡ before ++ (header ++ lines)
joined before header lines middle after first second = second ∙ (ap (λ t. t ++ lines) first ∙ append_assoc before header lines)

pub returns-clause-ok : goal.returns-clause-ok
returns-clause-ok c =
    on_ok_weaker c.write_rows.result
    (joined c.args.out.now.items header_text (flat_map (row_text c.args.sections.now) c.args.rows.now) c.write_header.new.out.items c.write_rows.new.out.items c.in_ok-write_header.ensures.ok)
    c.write_rows.ensures.ok
