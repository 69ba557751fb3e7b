-- The words of the step language that say what a line is.
use Rattle.std.specs.Prelude.{ℕ, List, Result, codes, if◌then◌else◌, Ok, Err}
use Rattle.input_form.specs.declared.code.Code.{Code}
use Rattle.input_form.specs.declared.code.Code.TheVariants.{Word}
use Rattle.input_form.specs.declared.reading.Keyword.{Keyword}
use Rattle.input_form.specs.declared.reading.Keyword.TheVariants as keyword
use Rattle.step_text.specs.declared.step_words.BodyWord.{BodyWord}
use Rattle.step_text.specs.declared.step_words.BodyWord.TheVariants as body
use Rattle.step_text.specs.declared.step_words.OpName.{OpName}
use Rattle.step_text.specs.declared.step_words.OpName.TheVariants as op
use Rattle.input_form.specs.Head.{head_word}
use Rattle.input_form.specs.Judging.{◌>>=◌}
use Rattle.input_form.specs.Words.{is_word}

unfoldable pub step_keyword : List ℕ → Result (Keyword BodyWord) Code
step_keyword word =
    if is_word (codes "do") word then Ok (keyword.Body body.Do) else
    if is_word (codes "go") word then Ok (keyword.Body body.Go) else
    if is_word (codes "print") word then Ok (keyword.Body body.Print) else
    if is_word (codes "words") word then Ok (keyword.Body body.Words) else do
      which ← head_word word
      Ok (keyword.Head which)

unfoldable pub op_name : List ℕ → Result OpName Code
op_name word =
    if is_word (codes "open") word then Ok op.Open else
    if is_word (codes "close") word then Ok op.Close else
    if is_word (codes "split") word then Ok op.Split else
    if is_word (codes "swap") word then Ok op.Swap else
    if is_word (codes "trim") word then Ok op.Trim else
    if is_word (codes "enter") word then Ok op.Enter else
    if is_word (codes "leave") word then Ok op.Leave else
    if is_word (codes "load") word then Ok op.Load else
    if is_word (codes "unload") word then Ok op.Unload else
    if is_word (codes "clean") word then Ok op.Clean else
    Err Word
