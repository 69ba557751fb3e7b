-- The words of the trace language that say what a line is.
use Rattle.std.specs.Prelude.{ℕ, List, Result, codes, if◌then◌else◌, Ok, Err}
use Rattle.input_form.specs.declared.code.Code.{Code}
use Rattle.input_form.specs.declared.code.Code.TheVariants.{Word}
use Rattle.input_form.specs.declared.head.HeadWord.TheVariants as head
use Rattle.input_form.specs.declared.head.Size.TheVariants as size
use Rattle.input_form.specs.declared.reading.Keyword.{Keyword}
use Rattle.input_form.specs.declared.reading.Keyword.TheVariants as keyword
use Rattle.trace.specs.declared.trace_words.BodyWord.{BodyWord}
use Rattle.trace.specs.declared.trace_words.BodyWord.TheVariants as body
use Rattle.trace.specs.declared.trace_words.OnName.{OnName}
use Rattle.trace.specs.declared.trace_words.OnName.TheVariants as name
use Rattle.input_form.specs.Head.{head_word}
use Rattle.input_form.specs.Judging.{◌>>=◌}
use Rattle.input_form.specs.Words.{is_word}

unfoldable pub trace_keyword : List ℕ → Result (Keyword BodyWord) Code
trace_keyword word =
    if is_word (codes "on") word then Ok (keyword.Body body.On) else
    if is_word (codes "round") word then Ok (keyword.Body body.Round) else
    if is_word (codes "load") word then Ok (keyword.Body body.Load) else
    if is_word (codes "print") word then Ok (keyword.Body body.Print) else
    if is_word (codes "areas") word then Ok (keyword.Body body.Areas) else
    if is_word (codes "frames") word then Ok (keyword.Head (head.Size size.Frames)) else
    if is_word (codes "vectors") word then Ok (keyword.Head (head.Size size.Vectors)) else do
      which ← head_word word
      Ok (keyword.Head which)

unfoldable pub on_name : List ℕ → Result OnName Code
on_name word =
    if is_word (codes "page") word then Ok name.Page else
    if is_word (codes "kmalloc") word then Ok name.Kmalloc else
    if is_word (codes "free") word then Ok name.Free else
    if is_word (codes "split") word then Ok name.Split else
    if is_word (codes "swap") word then Ok name.Swap else
    if is_word (codes "trim") word then Ok name.Trim else
    if is_word (codes "hook") word then Ok name.Hook else
    if is_word (codes "unhook") word then Ok name.Unhook else
    if is_word (codes "enter") word then Ok name.Enter else
    if is_word (codes "leave") word then Ok name.Leave else
    if is_word (codes "unload") word then Ok name.Unload else
    Err Word
