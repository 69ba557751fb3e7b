-- What the lines of a body give lies in its ranges.
use Rattle.std.proofs.Common.{◌≡◌, ℕ, ◌<◌, ◌≤◌, not, eqb, List, length, Ok, IfOk, refl}
use Rattle.std.proofs.lemmas.Bool.{not-true, eqb-false}
use Rattle.tag_section.specs.Section.{Section}
use Rattle.text_form.specs.Words.{words_of, word_at}
use Rattle.input_form.specs.declared.code.Code.TheVariants as code
use Rattle.input_form.specs.Judging.{◌>>=◌}
use Rattle.input_form.specs.Places.{module_word, IsKey, IsModule, IsTag}
use Rattle.input_form.specs.Words.{cpu_word}
use Rattle.input_form.proofs.Judged.{bound, given, checked}
use Rattle.input_form.proofs.WordForm.{number_word_in, cpu_word_in, module_word_in, tag_word_in}
use Rattle.trace.specs.declared.trace_words.OnName.{OnName}
use Rattle.trace.specs.declared.trace_words.OnName.TheVariants as name
use Rattle.trace.specs.declared.traces.OnOp.{OnOp}
use Rattle.trace.specs.declared.traces.TraceOp.{TraceOp}
use Rattle.trace.specs.declared.traces.TraceOp.TheVariants as op
use Rattle.trace.specs.Formed.{IsFormedOp, IsFormedOn}
use Rattle.trace.specs.TraceGrammar.{on_words, trace_op, on_line}
use Rattle.trace.specs.TraceWords.{on_name}

module_op : (sections : List Section) (word : List ℕ) (make : ℕ → TraceOp) → ((section : ℕ) → IsModule sections section → IsFormedOp sections (make section)) → IfOk (module_word sections word >>= (λ section. Ok (make section))) (IsFormedOp sections)
module_op sections word make is = bound (IsModule sections) (IsFormedOp sections) _ _ (module_word_in sections word) is

trace_op_in : (sections : List Section) (n : OnName) (line : List ℕ) → IfOk (trace_op sections n line) (IsFormedOp sections)
unfolding trace_op
trace_op_in sections name.Page line =
    bound IsKey (IsFormedOp sections) _ _ (number_word_in 1 65535 (word_at line 3))
    (λ key is. bound (λ n. (0 ≤ n) × (n ≤ 10)) (IsFormedOp sections) _ (λ order. Ok (op.Page key order)) (number_word_in 0 10 (word_at line 4))
    (λ order range. (is, range.1)))
trace_op_in sections name.Kmalloc line =
    bound IsKey (IsFormedOp sections) _ _ (number_word_in 1 65535 (word_at line 3))
    (λ key is. bound (λ n. (1 ≤ n) × (n ≤ 4194304)) (IsFormedOp sections) _ (λ size. Ok (op.Kmalloc key size)) (number_word_in 1 4194304 (word_at line 4))
    (λ size range. (is, range.0, range.1)))
trace_op_in sections name.Free line =
    bound IsKey (IsFormedOp sections) _ (λ key. Ok (op.Free key)) (number_word_in 1 65535 (word_at line 3)) (λ key is. is)
trace_op_in sections name.Split line =
    bound IsKey (IsFormedOp sections) _ _ (number_word_in 1 65535 (word_at line 3))
    (λ key is. bound (λ n. (0 ≤ n) × (n ≤ 9)) (IsFormedOp sections) _ _ (number_word_in 0 9 (word_at line 4))
    (λ order range. bound IsKey (IsFormedOp sections) _ (λ first. Ok (op.Split key order first)) (number_word_in 1 65535 (word_at line 5))
    (λ first new. (is, range.1, new))))
trace_op_in sections name.Swap line =
    bound IsKey (IsFormedOp sections) _ _ (number_word_in 1 65535 (word_at line 3))
    (λ one is. bound IsKey (IsFormedOp sections) _ _ (number_word_in 1 65535 (word_at line 4))
    (λ two is'. checked (IsFormedOp sections) (not (eqb one two)) code.Same (Ok (op.Swap one two))
    (λ differ. (is, is', eqb-false one two (not-true _ differ)))))
trace_op_in sections name.Trim line =
    bound IsKey (IsFormedOp sections) _ _ (number_word_in 1 65535 (word_at line 3))
    (λ key is. bound (λ n. (1 ≤ n) × (n ≤ 1023)) (IsFormedOp sections) _ (λ pages. Ok (op.Trim key pages)) (number_word_in 1 1023 (word_at line 4))
    (λ pages range. (is, range.0, range.1)))
trace_op_in sections name.Hook line =
    bound (λ (t : ℕ × ℕ). IsTag sections t.0 t.1) (IsFormedOp sections) _ (λ t. Ok (op.Hook t.0 t.1)) (tag_word_in sections (word_at line 3)) (λ t is. is)
trace_op_in sections name.Unhook line = tt
trace_op_in sections name.Enter line = module_op sections (word_at line 3) op.Enter (λ section is. is)
trace_op_in sections name.Leave line = module_op sections (word_at line 3) op.Leave (λ section is. is)
trace_op_in sections name.Unload line = module_op sections (word_at line 3) op.Unload (λ section is. is)

pub on_line_in : (cpus : ℕ) (sections : List Section) (number : ℕ) (line : List ℕ) → IfOk (on_line cpus sections number line) (λ on. IsFormedOn cpus sections on × (on.line ≡ number))
unfolding on_line
on_line_in cpus sections number line =
    let after : OnOp → Type 0 = λ on. IsFormedOn cpus sections on × (on.line ≡ number) in
    given after (on_name (word_at line 2)) _
    (λ n. checked after (eqb (length (words_of line)) (on_words n)) code.Word _
    (λ _. bound (λ cpu. cpu < cpus) after (cpu_word cpus (word_at line 1)) _ (cpu_word_in cpus (word_at line 1))
    (λ cpu below. bound (IsFormedOp sections) after (trace_op sections n line) (λ o. Ok (record { line = number; cpu = cpu; op = o })) (trace_op_in sections n line)
    (λ o is. ((below, is), refl)))))
