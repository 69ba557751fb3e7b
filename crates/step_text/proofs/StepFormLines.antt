-- What holds of the body lines that a schedule's grammar takes.
use Rattle.std.proofs.Common.{◌≡◌, ℕ, ◌<◌, ◌≤◌, true, false, not, eqb, List, length, Option, Some, None, Ok, codes, IfOk, IfSome, refl, ap, ◌∙◌, arith}
use Rattle.std.proofs.lemmas.Bool.{and_parts, leb-true, not-true, eqb-false, le-leb, and_from, both_ways}
use Rattle.tag_section.specs.Section.{Section}
use Rattle.text_form.specs.Words.{words_of, word_at}
use Rattle.input_form.specs.declared.code.Code.TheVariants as code
use Rattle.step_text.specs.declared.step_words.OpName.{OpName}
use Rattle.step_text.specs.declared.step_words.OpName.TheVariants as name
use Rattle.step_text.specs.declared.steps.StepAct.{StepAct}
use Rattle.step_text.specs.declared.steps.StepActor.{StepActor}
use Rattle.step_text.specs.declared.steps.StepActor.TheVariants as actor
use Rattle.step_text.specs.declared.steps.StepOp.{StepOp}
use Rattle.step_text.specs.declared.steps.StepOp.TheVariants as op
use Rattle.input_form.specs.Judging.{◌>>=◌}
use Rattle.input_form.specs.Places.{module_word, IsKey, IsTag, IsModule}
use Rattle.step_text.specs.StepForm.{IsStepActor, is_managers_op, IsOwnOp, AreNewKeys, IsStepOp, IsStepAct, is_printing}
use Rattle.step_text.specs.StepGrammar.{is_managers, belongs, actor_word, new_keys_fit, step_op, do_line, count_word, go_line, words_line, op_words}
use Rattle.step_text.specs.StepWords.{op_name}
use Rattle.input_form.specs.Words.{is_word}
use Rattle.input_form.proofs.Judged.{bound, given, checked, either}
use Rattle.input_form.proofs.WordForm.{number_word_in, cpu_word_in, module_word_in, tag_word_in}

pub actor_word_in : (cpus : ℕ) (word : List ℕ) → IfOk (actor_word cpus word) (IsStepActor cpus)
unfolding actor_word
actor_word_in cpus word =
    either (IsStepActor cpus) (is_word (codes "m") word) (Ok actor.Manager) _ tt
    (bound (λ n. n < cpus) (IsStepActor cpus) _ (λ n. Ok (actor.Cpu n)) (cpu_word_in cpus word) (λ n below. below))

-- an op of the name
abbrev IsNamed : List Section → OpName → StepOp → Type 0
IsNamed sections n op = IsStepOp sections op × (is_managers_op op ≡ is_managers n)

new_keys : (key parts first : ℕ) → new_keys_fit key parts first ≡ true → AreNewKeys key parts first
new_keys key parts first fit =
    let halves = and_parts _ _ fit in
    (leb-true _ _ halves.0, λ inside. both_ways _ (not-true _ halves.1) (and_from _ _ (le-leb _ _ inside.0) (le-leb _ _ inside.1)))

named_module : (sections : List Section) (word : List ℕ) (n : OpName) (make : ℕ → StepOp)
    → ((section : ℕ) → IsModule sections section → IsNamed sections n (make section))
    → IfOk (module_word sections word >>= (λ section. Ok (make section))) (IsNamed sections n)
named_module sections word n make is = bound (IsModule sections) (IsNamed sections n) _ _ (module_word_in sections word) is

pub step_op_in : (sections : List Section) (n : OpName) (line : List ℕ) → IfOk (step_op sections n line) (IsNamed sections n)
unfolding step_op
step_op_in sections name.Open line =
    bound IsKey (IsNamed sections name.Open) _ _ (number_word_in 1 65535 (word_at line 3))
    (λ key is_key. bound (λ (t : ℕ × ℕ). IsTag sections t.0 t.1) (IsNamed sections name.Open) _ _ (tag_word_in sections (word_at line 4))
    (λ tag is_tag. bound (λ n. (1 ≤ n) × (n ≤ 17592186044415)) (IsNamed sections name.Open) _ _ (number_word_in 1 17592186044415 (word_at line 5))
    (λ size is_size. ((is_key, is_tag, (is_size.0, omega arith)), refl))))
step_op_in sections name.Close line =
    bound IsKey (IsNamed sections name.Close) _ _ (number_word_in 1 65535 (word_at line 3)) (λ key is_key. (is_key, refl))
step_op_in sections name.Split line =
    bound IsKey (IsNamed sections name.Split) _ _ (number_word_in 1 65535 (word_at line 3))
    (λ key is_key. bound (λ n. (2 ≤ n) × (n ≤ 1024)) (IsNamed sections name.Split) _ _ (number_word_in 2 1024 (word_at line 4))
    (λ parts is_parts. bound IsKey (IsNamed sections name.Split) _ _ (number_word_in 1 65535 (word_at line 5))
    (λ first is_first. checked (IsNamed sections name.Split) (new_keys_fit key parts first) code.Keys _
    (λ fit. ((is_key, is_parts.0, is_parts.1, is_first, new_keys key parts first fit), refl)))))
step_op_in sections name.Swap line =
    bound IsKey (IsNamed sections name.Swap) _ _ (number_word_in 1 65535 (word_at line 3))
    (λ one is_one. bound IsKey (IsNamed sections name.Swap) _ _ (number_word_in 1 65535 (word_at line 4))
    (λ two is_two. checked (IsNamed sections name.Swap) (not (eqb one two)) code.Same _
    (λ differ. ((is_one, is_two, eqb-false one two (not-true _ differ)), refl))))
step_op_in sections name.Trim line =
    bound IsKey (IsNamed sections name.Trim) _ _ (number_word_in 1 65535 (word_at line 3))
    (λ key is_key. bound (λ n. (1 ≤ n) × (n ≤ 17592186044415)) (IsNamed sections name.Trim) _ _ (number_word_in 1 17592186044415 (word_at line 4))
    (λ bytes is_bytes. ((is_key, (is_bytes.0, omega arith)), refl)))
step_op_in sections name.Enter line = named_module sections (word_at line 3) name.Enter op.Enter (λ section is. (is, refl))
step_op_in sections name.Leave line = named_module sections (word_at line 3) name.Leave op.Leave (λ section is. (is, refl))
step_op_in sections name.Load line = named_module sections (word_at line 3) name.Load op.Load (λ section is. (is, refl))
step_op_in sections name.Unload line = named_module sections (word_at line 3) name.Unload op.Unload (λ section is. (is, refl))
step_op_in sections name.Clean line = (tt, refl)

-- the op of a name that belongs to the actor is the actor's own
own : (n : OpName) (who : StepActor) (what : StepOp) → belongs n who ≡ true → is_managers_op what ≡ is_managers n → IsOwnOp who what
own n (actor.Cpu cpu) what belongs same = ap not same ∙ belongs
own n actor.Manager what belongs same = same ∙ belongs

-- a line that may stand in a body, and doesn't print
abbrev pub IsQuiet : ℕ → List Section → StepAct → Type 0
IsQuiet cpus sections act = IsStepAct cpus sections act × (is_printing act ≡ false)

pub do_line_in : (cpus : ℕ) (sections : List Section) (line : List ℕ) → IfOk (do_line cpus sections line) (IsQuiet cpus sections)
unfolding do_line
do_line_in cpus sections line =
    given (IsQuiet cpus sections) (op_name (word_at line 2)) _
    (λ n. checked (IsQuiet cpus sections) (eqb (length (words_of line)) (op_words n)) code.Word _
    (λ _. bound (IsStepActor cpus) (IsQuiet cpus sections) _ _ (actor_word_in cpus (word_at line 1))
    (λ who is_actor. checked (IsQuiet cpus sections) (belongs n who) code.Word _
    (λ fits. bound (IsNamed sections n) (IsQuiet cpus sections) _ _ (step_op_in sections n line)
    (λ what is_op. ((is_actor, own n who what fits is_op.1, is_op.0), refl))))))

count_word_in : (word : List ℕ) → IfOk (count_word word) (λ count. IfSome count (λ n. (1 ≤ n) × (n ≤ 1048576)))
unfolding count_word
count_word_in word =
    let in_range : Option ℕ → Type 0 = λ count. IfSome count (λ n. (1 ≤ n) × (n ≤ 1048576)) in
    either in_range (is_word (codes "all") word) (Ok None) _ tt
    (bound (λ n. (1 ≤ n) × (n ≤ 1048576)) in_range _ (λ n. Ok (Some n)) (number_word_in 1 1048576 word) (λ n is. is))

pub go_line_in : (cpus : ℕ) (sections : List Section) (line : List ℕ) → IfOk (go_line cpus line) (IsQuiet cpus sections)
unfolding go_line
go_line_in cpus sections line =
    checked (IsQuiet cpus sections) (eqb (length (words_of line)) 3) code.Word _
    (λ _. bound (IsStepActor cpus) (IsQuiet cpus sections) _ _ (actor_word_in cpus (word_at line 1))
    (λ who is_actor. bound (λ count. IfSome count (λ n. (1 ≤ n) × (n ≤ 1048576))) (IsQuiet cpus sections) _ _ (count_word_in (word_at line 2))
    (λ count is_count. ((is_actor, is_count), refl))))

pub words_line_in : (cpus : ℕ) (sections : List Section) (line : List ℕ) → IfOk (words_line sections line) (IsStepAct cpus sections)
unfolding words_line
words_line_in cpus sections line =
    checked (IsStepAct cpus sections) (eqb (length (words_of line)) 2) code.Word _
    (λ _. bound (λ (t : ℕ × ℕ). IsTag sections t.0 t.1) (IsStepAct cpus sections) _ _ (tag_word_in sections (word_at line 1))
    (λ tag is_tag. is_tag))
