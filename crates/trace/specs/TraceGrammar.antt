-- The lines of a trace's body.
use Rattle.std.specs.Prelude.{ℕ, ◌==◌, not, List, length, Result, Ok}
use Rattle.tag_section.specs.Section.{Section}
use Rattle.text_form.specs.Words.{words_of, word_at}
use Rattle.input_form.specs.declared.code.Code.{Code}
use Rattle.input_form.specs.declared.code.Code.TheVariants as code
use Rattle.trace.specs.declared.trace_words.OnName.{OnName}
use Rattle.trace.specs.declared.trace_words.OnName.TheVariants as name
use Rattle.trace.specs.declared.traces.OnOp.{OnOp}
use Rattle.trace.specs.declared.traces.TraceOp.{TraceOp}
use Rattle.trace.specs.declared.traces.TraceOp.TheVariants as op
use Rattle.input_form.specs.Judging.{◌>>=◌, ◌>>◌, need}
use Rattle.input_form.specs.Places.{module_word, tag_word}
use Rattle.trace.specs.TraceWords.{on_name}
use Rattle.input_form.specs.Words.{number_word, key_word, cpu_word}

-- how many words an `on` line has
abbrev pub on_words : OnName → ℕ
on_words name.Page = 5
on_words name.Kmalloc = 5
on_words name.Free = 4
on_words name.Split = 6
on_words name.Swap = 5
on_words name.Trim = 5
on_words name.Hook = 4
on_words name.Unhook = 3
on_words name.Enter = 4
on_words name.Leave = 4
on_words name.Unload = 4

-- the words of an op from the fourth on
unfoldable pub trace_op : List Section → OnName → List ℕ → Result TraceOp Code
trace_op sections name.Page line = do
  key ← key_word (word_at line 3)
  order ← number_word 0 10 (word_at line 4)
  Ok (op.Page key order)
trace_op sections name.Kmalloc line = do
  key ← key_word (word_at line 3)
  size ← number_word 1 4194304 (word_at line 4)
  Ok (op.Kmalloc key size)
trace_op sections name.Free line = do
  key ← key_word (word_at line 3)
  Ok (op.Free key)
trace_op sections name.Split line = do
  key ← key_word (word_at line 3)
  order ← number_word 0 9 (word_at line 4)
  first ← key_word (word_at line 5)
  Ok (op.Split key order first)
trace_op sections name.Swap line = do
  one ← key_word (word_at line 3)
  two ← key_word (word_at line 4)
  need (not (one == two)) code.Same
  Ok (op.Swap one two)
trace_op sections name.Trim line = do
  key ← key_word (word_at line 3)
  pages ← number_word 1 1023 (word_at line 4)
  Ok (op.Trim key pages)
trace_op sections name.Hook line = do
  tag ← tag_word sections (word_at line 3)
  Ok (op.Hook tag.0 tag.1)
trace_op sections name.Unhook line = Ok op.Unhook
trace_op sections name.Enter line = do
  section ← module_word sections (word_at line 3)
  Ok (op.Enter section)
trace_op sections name.Leave line = do
  section ← module_word sections (word_at line 3)
  Ok (op.Leave section)
trace_op sections name.Unload line = do
  section ← module_word sections (word_at line 3)
  Ok (op.Unload section)

-- `on CPU OP ..`
unfoldable pub on_line : ℕ → List Section → ℕ → List ℕ → Result OnOp Code
on_line cpus sections number line = do
  name ← on_name (word_at line 2)
  need (length (words_of line) == on_words name) code.Word
  cpu ← cpu_word cpus (word_at line 1)
  op ← trace_op sections name line
  Ok (record { line = number; cpu = cpu; op = op })
