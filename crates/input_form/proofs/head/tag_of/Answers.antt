use Rattle.std.proofs.Common.{ℕ, Ok, Err, sym, ap, ◌∙◌}
use Rattle.codetag.specs.TagParts.{TagParts}
use Rattle.input_form.proofs.Sections.{tag_of_ok, tag_of_bad_file, tag_of_bad_line, tag_of_bad_function}
use Rattle.input_form.proofs.head.tag_of.Goals as goal

pub returns-in-Ok : goal.returns-in-Ok
returns-in-Ok c =
    let formed = c.in-Ok.ensures.formed in
    tag_of_ok c.args.file.now c.args.function.now c.args.line formed.0 (rw c.unwrap_or.ensures at formed.1) formed.2
    ∙ (let with_line : ℕ → TagParts = λ n. record { file = c.args.file.now; line = n; function = c.args.function.now } in
    sym (ap Ok (c.in-Ok.ensures.parts ∙ ap with_line c.unwrap_or.ensures)))

pub returns-in-Err-BadFile : goal.returns-in-Err-BadFile
returns-in-Err-BadFile c =
    let why = c.in-Err-BadFile.ensures.bad_file.0 (ap Err c.in-Err-BadFile.field-0-is) in
    tag_of_bad_file c.args.file.now c.args.function.now c.args.line why

pub returns-in-Err-BadLine : goal.returns-in-Err-BadLine
returns-in-Err-BadLine c =
    let why = c.in-Err-BadLine.ensures.bad_line.0 (ap Err c.in-Err-BadLine.field-0-is) in
    tag_of_bad_line c.args.file.now c.args.function.now c.args.line c.requires why.0 (rw c.unwrap_or.ensures at why.1)

pub returns-in-Err-BadFunction : goal.returns-in-Err-BadFunction
returns-in-Err-BadFunction c =
    let why = c.in-Err-BadFunction.ensures.bad_function.0 (ap Err c.in-Err-BadFunction.field-0-is) in
    tag_of_bad_function c.args.file.now c.args.function.now c.args.line why.0 (rw c.unwrap_or.ensures at why.1) why.2
