-- How a trace is read: a fold over its lines.
use Rattle.std.specs.Prelude.{ℕ, ◌+◌, ◌==◌, Bool, true, false, not, ◌||◌, nat_lt, List, [], ◌∷◌, ◌++◌, length, drop, Option, Some, None, is_some, unwrap_or, Result, Ok, Err, codes, if◌then◌else◌}
use Rattle.text_form.specs.Lines.{lines_of, tail_of}
use Rattle.text_form.specs.Words.{words_of, word_at}
use Rattle.input_form.specs.declared.code.Code.{Code}
use Rattle.input_form.specs.declared.code.Code.TheVariants as code
use Rattle.input_form.specs.declared.head.Head.{Head}
use Rattle.input_form.specs.declared.reading.Reading.{Reading}
use Rattle.trace.specs.declared.trace_reading.TraceBody.{TraceBody}
use Rattle.trace.specs.declared.trace_words.BodyWord.{BodyWord}
use Rattle.trace.specs.declared.trace_words.BodyWord.TheVariants as word
use Rattle.trace.specs.declared.traces.Item.{Item}
use Rattle.trace.specs.declared.traces.Item.TheVariants as item
use Rattle.trace.specs.declared.traces.OnOp.{OnOp}
use Rattle.trace.specs.declared.traces.Trace.{Trace}
use Rattle.input_form.specs.Forms.{first_line}
use Rattle.input_form.specs.Head.{empty_head, cpus_of}
use Rattle.input_form.specs.Judging.{◌>>=◌, ◌>>◌, need, at}
use Rattle.input_form.specs.Places.{module_word}
use Rattle.trace.specs.TraceGrammar.{on_line}
use Rattle.trace.specs.TraceWords.{trace_keyword}
use Rattle.input_form.specs.Reading.{judged_lines, word_line}
use Rattle.input_form.specs.Words.{is_word}

-- before the second line
abbrev pub empty_reading : Reading TraceBody
empty_reading = record { head = empty_head; body = record { items = []; round = None; prints = 0 } }

-- the items so far, where the round that is open ends here
abbrev pub closed : List Item → Option (List OnOp) → List Item
closed items None = items
closed items (Some ops) = items ++ item.Round ops ∷ []

-- one item more, which ends the round
abbrev pub with_item : Item → TraceBody → TraceBody
with_item new body = record body { items = closed body.items body.round ++ new ∷ []; round = None }

-- one item more that prints
abbrev pub with_print : Item → TraceBody → TraceBody
with_print new body = record (with_item new body) { prints = body.prints + 1 }

-- a round begins, and the one before it ends
abbrev pub with_round : TraceBody → TraceBody
with_round body = record body { items = closed body.items body.round; round = Some [] }

abbrev pub op_more : OnOp → Option (List OnOp) → Option (List OnOp)
op_more op None = None
op_more op (Some ops) = Some (ops ++ op ∷ [])

-- one op more in the round
abbrev pub with_op : OnOp → TraceBody → TraceBody
with_op op body = record body { round = op_more op body.round }

-- whether the body has begun
abbrev pub begun : TraceBody → Bool
begun body = not (length body.items == 0) || is_some body.round

-- `print` and `areas`
unfoldable pub print_line : Item → List ℕ → TraceBody → Result TraceBody Code
print_line new line body = do
  need (length (words_of line) == 1) code.Word
  need (nat_lt body.prints 64) code.Prints
  Ok (with_print new body)

-- what a line of the body says, by its first word
abbrev pub body_words : Head → BodyWord → ℕ → List ℕ → TraceBody → Result TraceBody Code
body_words head word.On number line body = do
  need (is_some body.round) code.NoRound
  op ← on_line (cpus_of head) head.sections number line
  Ok (with_op op body)
body_words head word.Round number line body = do
  need (length (words_of line) == 1) code.Word
  Ok (with_round body)
body_words head word.Load number line body = do
  need (length (words_of line) == 2) code.Word
  section ← module_word head.sections (word_at line 1)
  Ok (with_item (item.Load number section) body)
body_words head word.Print number line body = print_line item.Print line body
body_words head word.Areas number line body = print_line item.Areas line body

-- whether kept ranges are shown, by the header's version
unfoldable pub trace_header : List ℕ → Result Bool Code
trace_header line =
    if is_word (codes "memprof-trace 1.0") line then Ok false else
    if is_word (codes "memprof-trace 1.1") line then Ok true else
    Err code.Header

-- what was read, with the defaults of the sizes that were not set
abbrev pub trace_from : Bool → Reading TraceBody → Trace
trace_from shows_kept reading = record {
  shows_kept = shows_kept;
  cpus = cpus_of reading.head;
  area = unwrap_or reading.head.area 896;
  frames = unwrap_or reading.head.frames 1024;
  vectors = unwrap_or reading.head.vectors 64;
  sections = reading.head.sections;
  body = closed reading.body.items reading.body.round;
}

-- the trace that a text spells, or the first line that fails with its code
unfoldable pub trace_of : List ℕ → Result Trace (ℕ × Code)
trace_of text = do
  header ← at 1 (first_line (lines_of text) (tail_of text))
  shows_kept ← at 1 (trace_header header)
  reading ← judged_lines (word_line trace_keyword begun body_words) 2 (drop 1 (lines_of text)) (tail_of text) empty_reading
  Ok (trace_from shows_kept reading)
