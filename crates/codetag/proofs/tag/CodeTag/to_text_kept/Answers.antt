use Rattle.std.proofs.Common.{◌≡◌, ℕ, List, [], ◌++◌, codes, ap, ◌∙◌, append_assoc}
use Rattle.std.specs.Fmt.{decimal}
use Rattle.std.proofs.lemmas.List.{append-nil}
use Rattle.std.proofs.lemmas.Result.{on_ok_weaker}
use Rattle.codetag.specs.TagParts.{TagParts, kept_text}
use Rattle.codetag.proofs.tag.CodeTag.to_text_kept.Goals as goal

-- the pieces one after another are the text, however they are grouped
pieces_joined : (tag : TagParts) (name file line function before after : List ℕ)
    → file ≡ tag.file → line ≡ decimal tag.line → function ≡ tag.function
    → after ≡ before ++ (file ++ (codes ":" ++ (line ++ (codes " [" ++ (name ++ (codes ":kept] func:" ++ (function ++ [])))))))
    → after ≡ before ++ kept_text tag name
unfolding kept_text
pieces_joined tag name file line function before after is_file is_line is_function joined =
    rw (joined, is_file, is_line, is_function) (simp (append_assoc, append-nil))

pub returns-clause-ok : goal.returns-clause-ok
returns-clause-ok c =
    on_ok_weaker c.append_all.result
    (pieces_joined c.args.self.now c.args.module_name.now c.file.result.now c.as_bytes-line.result.now c.function.result.now c.args.out.now.items c.append_all.new.out.items
    c.file.ensures.value
    (c.as_bytes-line.ensures.value ∙ (c.format.ensures.text ∙ ap (λ (t : TagParts). decimal t.line) c.self.view_is))
    c.function.ensures.value)
    c.append_all.ensures.ok
