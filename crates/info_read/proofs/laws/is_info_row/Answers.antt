use Rattle.std.proofs.Common.{subst, arith}
use Rattle.codetag.specs.TagParts.{IsFormed}
use Rattle.info_read.proofs.BackLemmas.{formed_row}
use Rattle.info_read.proofs.laws.is_info_row.Goals as goal

pub returns : goal.returns
returns c =
    let tag : IsFormed c.tag-tag.result.now = record { file = c.file-file.ensures.formed; line = c.line-line.ensures.formed; function = c.function-function.ensures.formed } in
    formed_row c.args.sections.now c.args.row c.count-count.ensures.formed c.requires (omega arith) (omega arith) (subst IsFormed c.tag-tag.ensures.value tag)
