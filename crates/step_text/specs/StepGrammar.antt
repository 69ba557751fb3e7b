-- The lines of a schedule's body.
use Rattle.std.specs.Prelude.{ℕ, ◌+◌, ◌-◌, ◌==◌, Bool, true, false, ◌&&◌, not, nat_le, List, length, Option, Some, None, Result, Ok, codes, if◌then◌else◌}
use Rattle.tag_section.specs.Section.{Section}
use Rattle.text_form.specs.Words.{words_of, word_at}
use Rattle.input_form.specs.declared.code.Code.{Code}
use Rattle.input_form.specs.declared.code.Code.TheVariants as code
use Rattle.step_text.specs.declared.step_words.OpName.{OpName}
use Rattle.step_text.specs.declared.step_words.OpName.TheVariants as name
use Rattle.step_text.specs.declared.steps.StepAct.{StepAct}
use Rattle.step_text.specs.declared.steps.StepAct.TheVariants as act
use Rattle.step_text.specs.declared.steps.StepActor.{StepActor}
use Rattle.step_text.specs.declared.steps.StepActor.TheVariants as actor
use Rattle.step_text.specs.declared.steps.StepOp.{StepOp}
use Rattle.step_text.specs.declared.steps.StepOp.TheVariants as op
use Rattle.input_form.specs.Judging.{◌>>=◌, ◌>>◌, need}
use Rattle.input_form.specs.Places.{module_word, tag_word}
use Rattle.step_text.specs.StepWords.{op_name}
use Rattle.input_form.specs.Words.{is_word, number_word, key_word, cpu_word}

-- how many words a `do` line has
abbrev pub op_words : OpName → ℕ
op_words name.Open = 6
op_words name.Close = 4
op_words name.Split = 6
op_words name.Swap = 5
op_words name.Trim = 5
op_words name.Enter = 4
op_words name.Leave = 4
op_words name.Load = 4
op_words name.Unload = 4
op_words name.Clean = 3

-- the manager's ops; the others are the CPUs'
abbrev pub is_managers : OpName → Bool
is_managers name.Load = true
is_managers name.Unload = true
is_managers name.Clean = true
is_managers _ = false

abbrev pub belongs : OpName → StepActor → Bool
belongs name actor.Manager = is_managers name
belongs name (actor.Cpu n) = not (is_managers name)

-- a CPU's number, or `m`
unfoldable pub actor_word : ℕ → List ℕ → Result StepActor Code
actor_word cpus word = if is_word (codes "m") word then Ok actor.Manager else do
  cpu ← cpu_word cpus word
  Ok (actor.Cpu cpu)

-- whether the new keys of a split, one less than its parts, are keys and not the split one
abbrev pub new_keys_fit : ℕ → ℕ → ℕ → Bool
new_keys_fit key parts first = nat_le (first + parts - 2) 65535 && not (nat_le first key && nat_le key (first + parts - 2))

-- the words of an op from the fourth on
unfoldable pub step_op : List Section → OpName → List ℕ → Result StepOp Code
step_op sections name.Open line = do
  key ← key_word (word_at line 3)
  tag ← tag_word sections (word_at line 4)
  size ← number_word 1 (17592186044415) (word_at line 5)
  Ok (op.Open key tag.0 tag.1 size)
step_op sections name.Close line = do
  key ← key_word (word_at line 3)
  Ok (op.Close key)
step_op sections name.Split line = do
  key ← key_word (word_at line 3)
  parts ← number_word 2 1024 (word_at line 4)
  first ← key_word (word_at line 5)
  need (new_keys_fit key parts first) code.Keys
  Ok (op.Split key parts first)
step_op sections name.Swap line = do
  one ← key_word (word_at line 3)
  two ← key_word (word_at line 4)
  need (not (one == two)) code.Same
  Ok (op.Swap one two)
step_op sections name.Trim line = do
  key ← key_word (word_at line 3)
  bytes ← number_word 1 17592186044415 (word_at line 4)
  Ok (op.Trim key bytes)
step_op sections name.Enter line = do
  section ← module_word sections (word_at line 3)
  Ok (op.Enter section)
step_op sections name.Leave line = do
  section ← module_word sections (word_at line 3)
  Ok (op.Leave section)
step_op sections name.Load line = do
  section ← module_word sections (word_at line 3)
  Ok (op.Load section)
step_op sections name.Unload line = do
  section ← module_word sections (word_at line 3)
  Ok (op.Unload section)
step_op sections name.Clean line = Ok op.Clean

-- `do ACTOR OP ..`
unfoldable pub do_line : ℕ → List Section → List ℕ → Result StepAct Code
do_line cpus sections line = do
  name ← op_name (word_at line 2)
  need (length (words_of line) == op_words name) code.Word
  actor ← actor_word cpus (word_at line 1)
  need (belongs name actor) code.Word
  op ← step_op sections name line
  Ok (act.Do actor op)

-- a number of steps, or `all`
unfoldable pub count_word : List ℕ → Result (Option ℕ) Code
count_word word = if is_word (codes "all") word then Ok None else do
  count ← number_word 1 1048576 word
  Ok (Some count)

-- `go ACTOR N`
unfoldable pub go_line : ℕ → List ℕ → Result StepAct Code
go_line cpus line = do
  need (length (words_of line) == 3) code.Word
  actor ← actor_word cpus (word_at line 1)
  count ← count_word (word_at line 2)
  Ok (act.Go actor count)

-- `words TAG`
unfoldable pub words_line : List Section → List ℕ → Result StepAct Code
words_line sections line = do
  need (length (words_of line) == 2) code.Word
  tag ← tag_word sections (word_at line 1)
  Ok (act.Words tag.0 tag.1)
