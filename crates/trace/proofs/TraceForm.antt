-- What holds of every trace that is read.
use Rattle.std.proofs.Common.{◌≡◌, ℕ, ◌+◌, ◌<◌, ◌≤◌, Bool, true, false, cond, not, ◌||◌, eqb, ltb, List, [], ◌∷◌, ◌++◌, length, map, drop, Option, Some, None, is_some, Result, Ok, Err, IfOk, All, ◌⊎◌, inl, inr, ⊎_elim, refl, sym, ap, ◌∙◌, subst, arith, append_assoc}
use Rattle.std.proofs.lemmas.Bool.{false_from_ne_true, eqb-true, ltb-true}
use Rattle.std.proofs.lemmas.List.{length-append, map-append, append-nil}
use Rattle.std.proofs.lemmas.List.Concat.{flat_map-append}
use Rattle.std.proofs.lemmas.List.Elements.{All-nil, All-push, All-pop}
use Rattle.std.proofs.lemmas.List.Sums.{sum_by_push}
use Rattle.std.proofs.lemmas.Result.{IfOk-at_ok}
use Rattle.text_form.specs.Lines.{lines_of, tail_of}
use Rattle.text_form.specs.Words.{words_of, word_at}
use Rattle.input_form.specs.declared.code.Code.TheVariants as code
use Rattle.input_form.specs.declared.code.TextError.{TextError}
use Rattle.input_form.specs.declared.head.Head.{Head}
use Rattle.input_form.specs.Forms.{first_line, AreRising}
use Rattle.input_form.specs.Head.{cpus_of}
use Rattle.input_form.specs.Judging.{at, Reads}
use Rattle.input_form.specs.Places.{module_word, IsModule}
use Rattle.input_form.specs.Reading.{judged_lines, word_line}
use Rattle.input_form.proofs.HeadForm.{IsHead, IsBefore, AreClosed, IsHead-empty, cpus_in, area_in, by_default}
use Rattle.input_form.proofs.Judged.{bound, given, checked}
use Rattle.input_form.proofs.LineForm.{lines_in, rises_more, rises_on, rises_to}
use Rattle.input_form.proofs.WordForm.{module_word_in}
use Rattle.input_form.specs.declared.reading.Reading.{Reading}
use Rattle.trace.specs.declared.trace_reading.TraceBody.{TraceBody}
use Rattle.trace.specs.declared.trace_words.BodyWord.{BodyWord}
use Rattle.trace.specs.declared.trace_words.BodyWord.TheVariants as word
use Rattle.trace.specs.declared.traces.Item.{Item}
use Rattle.trace.specs.declared.traces.Item.TheVariants as item
use Rattle.trace.specs.declared.traces.OnOp.{OnOp}
use Rattle.trace.specs.declared.traces.Trace.{Trace}
use Rattle.trace.specs.Formed.{IsFormedOn, IsFormedItem, IsFormedTrace, numbers_in, numbers_of, is_printing, prints_of}
use Rattle.trace.specs.TraceGrammar.{on_line}
use Rattle.trace.specs.TraceReading.{begun, body_words, closed, empty_reading, op_more, print_line, trace_from, trace_header, trace_of, with_item, with_op, with_round}
use Rattle.trace.specs.TraceWords.{trace_keyword}
use Rattle.trace.proofs.OpForm.{on_line_in}

-- what holds before the line of the number
pub record IsReading (number : ℕ) (r : Reading TraceBody) : Type 0 where
  pub head : IsHead r.head
  pub begun : begun r.body ≡ true → 0 < length r.head.sections
  pub items : All (IsFormedItem (cpus_of r.head) r.head.sections) (closed r.body.items r.body.round)
  pub lines : AreRising 2 number (numbers_of (closed r.body.items r.body.round))
  pub few : length (closed r.body.items r.body.round) + 2 ≤ number
  pub within : number ≤ 131073
  pub few_prints : prints_of (closed r.body.items r.body.round) ≤ r.body.prints
  pub most_prints : r.body.prints ≤ 64

nothing_read : IsReading 2 empty_reading
nothing_read = record {
  head = IsHead-empty;
  begun = λ inside. let no : ⊥ = cc in absurd no;
  items = All-nil (IsFormedItem 4 []);
  lines = omega arith;
  few = omega arith;
  within = omega arith;
  few_prints = omega arith;
  most_prints = omega arith;
}

-- a line that says nothing
passes : (number : ℕ) (r : Reading TraceBody) → IsReading number r → number ≤ 131072 → IsReading (number + 1) r
passes number r is room = record {
  head = is.head;
  begun = is.begun;
  items = is.items;
  lines = rises_on 2 number (numbers_of (closed r.body.items r.body.round)) is.lines;
  few = omega (arith, is.few);
  within = omega arith;
  few_prints = is.few_prints;
  most_prints = is.most_prints;
}

empty_closed : (items : List Item) (round : Option (List OnOp)) → not (eqb (length items) 0) || is_some round ≡ false → closed items round ≡ []
empty_closed [] None e = refl
empty_closed [] (Some ops) e = let no : ⊥ = cc in absurd no
empty_closed (i ∷ items) round e =
    let some : eqb (length (i ∷ items)) 0 ≡ false = false_from_ne_true (eqb (length (i ∷ items)) 0) (λ t. let none : length (i ∷ items) ≡ 0 = eqb-true (length (i ∷ items)) 0 t in absurd (omega arith)) in
    let no : ⊥ = cc (ap (λ b. not b || is_some round) some) in
    absurd no

-- a line that stands before the body
before_body : (number : ℕ) (r : Reading TraceBody) (head : Head) → IsReading number r → number ≤ 131072 → begun r.body ≡ false → IsHead head → IsReading (number + 1) (record r { head = head })
before_body number r head is room out formed = record {
  head = formed;
  begun = λ inside. let no : ⊥ = cc in absurd no;
  items = subst (All (IsFormedItem (cpus_of head) head.sections)) (sym (empty_closed r.body.items r.body.round out)) (All-nil (IsFormedItem (cpus_of head) head.sections));
  lines = rises_on 2 number (numbers_of (closed r.body.items r.body.round)) is.lines;
  few = omega (arith, is.few);
  within = omega arith;
  few_prints = is.few_prints;
  most_prints = is.most_prints;
}

-- the body hasn't begun where a line may still stand before it
outside : (number : ℕ) (r : Reading TraceBody) → IsReading number r → IsBefore (begun r.body) r.head → begun r.body ≡ false
outside number r is before = ⊎_elim (λ none. false_from_ne_true (begun r.body) (λ t. absurd (omega (arith, is.begun t)))) (λ out. out) before

-- ---- what an item more, and an op more, add

-- an item of the line, or of a line whose number isn't kept
abbrev IsOfLine : ℕ → Item → Type 0
IsOfLine number new = (numbers_in new ≡ []) ⊎ (numbers_in new ≡ number ∷ [])

numbers_push : (items : List Item) (new : Item) → numbers_of (items ++ new ∷ []) ≡ numbers_of items ++ numbers_in new
numbers_push items new = flat_map-append numbers_in items (new ∷ []) ∙ ap (λ ns. numbers_of items ++ ns) (append-nil (numbers_in new))

lines_push : (number : ℕ) (items : List Item) (new : Item) → IsOfLine number new → AreRising 2 number (numbers_of items) → AreRising 2 (number + 1) (numbers_of (items ++ new ∷ []))
lines_push number items new of rises =
    ⊎_elim
    (λ none.
    let same : numbers_of (items ++ new ∷ []) ≡ numbers_of items = numbers_push items new ∙ ap (λ ns. numbers_of items ++ ns) none ∙ append-nil (numbers_of items) in
    subst (AreRising 2 (number + 1)) (sym same) (rises_on 2 number (numbers_of items) rises))
    (λ one.
    let same : numbers_of (items ++ new ∷ []) ≡ numbers_of items ++ number ∷ [] = numbers_push items new ∙ ap (λ ns. numbers_of items ++ ns) one in
    subst (AreRising 2 (number + 1)) (sym same) (rises_more 2 number (numbers_of items) rises))
    of

prints_push : (items : List Item) (new : Item) → prints_of (items ++ new ∷ []) ≡ prints_of items + cond (is_printing new) 1 0
prints_push items new = sum_by_push (λ i. cond (is_printing i) 1 0) items new

-- a body line that is one item more
grown : (number : ℕ) (r : Reading TraceBody) (items : List Item) (round : Option (List OnOp)) (prints : ℕ) (new : Item) → IsReading number r → number ≤ 131072 → 0 < length r.head.sections
    → closed items round ≡ closed r.body.items r.body.round ++ new ∷ [] → IsFormedItem (cpus_of r.head) r.head.sections new → IsOfLine number new → r.body.prints + cond (is_printing new) 1 0 ≤ prints → prints ≤ 64
    → IsReading (number + 1) (record { head = r.head; body = record { items = items; round = round; prints = prints } })
grown number r items round prints new is room some same formed of counted most =
    let was = closed r.body.items r.body.round in
    let more : length (closed items round) ≡ length was + 1 = ap length same ∙ length-append was (new ∷ []) in
    let printed : prints_of (closed items round) ≡ prints_of was + cond (is_printing new) 1 0 = ap prints_of same ∙ prints_push was new in
    record {
      head = is.head;
      begun = λ _. some;
      items = subst (All (IsFormedItem (cpus_of r.head) r.head.sections)) (sym same) (All-push (IsFormedItem (cpus_of r.head) r.head.sections) was new is.items formed);
      lines = subst (λ xs. AreRising 2 (number + 1) (numbers_of xs)) (sym same) (lines_push number was new of is.lines);
      few = omega (arith, is.few);
      within = omega arith;
      few_prints = omega (arith, printed, is.few_prints);
      most_prints = most;
    }

numbers_op : (items : List Item) (ops : List OnOp) (on : OnOp) → numbers_of (items ++ item.Round (ops ++ on ∷ []) ∷ []) ≡ numbers_of (items ++ item.Round ops ∷ []) ++ on.line ∷ []
numbers_op items ops on =
    numbers_push items (item.Round (ops ++ on ∷ []))
    ∙ ap (λ ns. numbers_of items ++ ns) (map-append (λ (o : OnOp). o.line) ops (on ∷ []))
    ∙ sym (append_assoc (numbers_of items) (map (λ (o : OnOp). o.line) ops) (on.line ∷ []))
    ∙ ap (λ ns. ns ++ on.line ∷ []) (sym (numbers_push items (item.Round ops)))

op_kept : (number : ℕ) (r : Reading TraceBody) (on : OnOp) (items : List Item) (round : Option (List OnOp)) → r.body.items ≡ items → r.body.round ≡ round → is_some round ≡ true → IsReading number r → number ≤ 131072 → 0 < length r.head.sections
    → IsFormedOn (cpus_of r.head) r.head.sections on × (on.line ≡ number) → IsReading (number + 1) (record r { body = with_op on r.body })
op_kept number r on items None is_items is_round e is room some formed = let no : ⊥ = cc in absurd no
op_kept number r on items (Some ops) is_items is_round e is room some formed =
    let P : Item → Type 0 = IsFormedItem (cpus_of r.head) r.head.sections in
    let before = item.Round ops in
    let after = item.Round (ops ++ on ∷ []) in
    let parts = All-pop P (r.body.items ++ before ∷ []) r.body.items (Some before) refl (subst (All P) (ap (closed r.body.items) is_round) is.items) in
    let longer = All-push (IsFormedOn (cpus_of r.head) r.head.sections) ops on parts.1 formed.0 in
    let now : closed r.body.items (op_more on r.body.round) ≡ r.body.items ++ after ∷ [] = ap (λ x. closed r.body.items (op_more on x)) is_round in
    let then : closed r.body.items r.body.round ≡ r.body.items ++ before ∷ [] = ap (closed r.body.items) is_round in
    let was : length (closed r.body.items r.body.round) ≡ length r.body.items + 1 = ap length then ∙ length-append r.body.items (before ∷ []) in
    let is_long : length (closed r.body.items (op_more on r.body.round)) ≡ length r.body.items + 1 = ap length now ∙ length-append r.body.items (after ∷ []) in
    let printed : prints_of (closed r.body.items (op_more on r.body.round)) ≡ prints_of r.body.items + 0 = ap prints_of now ∙ prints_push r.body.items after in
    let prints_were : prints_of (closed r.body.items r.body.round) ≡ prints_of r.body.items + 0 = ap prints_of then ∙ prints_push r.body.items before in
    let numbers : numbers_of (closed r.body.items (op_more on r.body.round)) ≡ numbers_of (closed r.body.items r.body.round) ++ number ∷ [] =
    ap numbers_of now ∙ numbers_op r.body.items ops on ∙ ap (λ n. numbers_of (r.body.items ++ before ∷ []) ++ n ∷ []) formed.1 ∙ ap (λ xs. numbers_of xs ++ number ∷ []) (sym then) in
    record {
      head = is.head;
      begun = λ _. some;
      items = subst (All P) (sym now) (All-push P r.body.items after parts.0 longer);
      lines = subst (AreRising 2 (number + 1)) (sym numbers) (rises_more 2 number (numbers_of (closed r.body.items r.body.round)) is.lines);
      few = omega (arith, is.few);
      within = omega arith;
      few_prints = omega (arith, printed, prints_were, is.few_prints);
      most_prints = is.most_prints;
    }

-- ---- lines

-- the body that a line leaves keeps what every reading keeps
abbrev KeptBy : ℕ → Reading TraceBody → TraceBody → Type 0
KeptBy number r body = IsReading (number + 1) (record r { body = body })

print_line_in : (new : Item) (number : ℕ) (line : List ℕ) (r : Reading TraceBody) → IsReading number r → number ≤ 131072 → 0 < length r.head.sections → IsFormedItem (cpus_of r.head) r.head.sections new → numbers_in new ≡ [] → is_printing new ≡ true → IfOk (print_line new line r.body) (KeptBy number r)
unfolding print_line
print_line_in new number line r is room some formed none prints =
    checked (KeptBy number r) (eqb (length (words_of line)) 1) code.Word _
    (λ _. checked (KeptBy number r) (ltb r.body.prints 64) code.Prints _
    (λ below.
    let few : r.body.prints < 64 = ltb-true r.body.prints 64 below in
    let one : cond {A = ℕ} (is_printing new) 1 0 ≡ 1 = ap (λ (b : Bool). cond {A = ℕ} b 1 0) prints in
    grown number r (closed r.body.items r.body.round ++ new ∷ []) None (r.body.prints + 1) new is room some refl formed (inl none) (omega arith) (omega arith)))

body_words_in : (w : BodyWord) (number : ℕ) (line : List ℕ) (r : Reading TraceBody) → IsReading number r → number ≤ 131072 → 0 < length r.head.sections → IfOk (body_words r.head w number line r.body) (KeptBy number r)
body_words_in word.Load number line r is room some =
    checked (KeptBy number r) (eqb (length (words_of line)) 2) code.Word _
    (λ _. bound (IsModule r.head.sections) (KeptBy number r) (module_word r.head.sections (word_at line 1)) (λ section. Ok (with_item (item.Load number section) r.body)) (module_word_in r.head.sections (word_at line 1))
    (λ section formed. grown number r (closed r.body.items r.body.round ++ item.Load number section ∷ []) None r.body.prints (item.Load number section) is room some refl formed (inr refl) (omega arith) is.most_prints))
body_words_in word.Round number line r is room some =
    checked (KeptBy number r) (eqb (length (words_of line)) 1) code.Word (Ok (with_round r.body))
    (λ _. grown number r (closed r.body.items r.body.round) (Some []) r.body.prints (item.Round []) is room some refl (All-nil (IsFormedOn (cpus_of r.head) r.head.sections)) (inl refl) (omega arith) is.most_prints)
body_words_in word.Print number line r is room some = print_line_in item.Print number line r is room some tt refl refl
body_words_in word.Areas number line r is room some = print_line_in item.Areas number line r is room some tt refl refl
body_words_in word.On number line r is room some =
    checked (KeptBy number r) (is_some r.body.round) code.NoRound _
    (λ inside. bound (λ on. IsFormedOn (cpus_of r.head) r.head.sections on × (on.line ≡ number)) (KeptBy number r) (on_line (cpus_of r.head) r.head.sections number line) (λ on. Ok (with_op on r.body)) (on_line_in (cpus_of r.head) r.head.sections number line)
    (λ on formed. op_kept number r on r.body.items r.body.round refl refl inside is room some formed))

-- at the end of the lines
ended : (shows_kept : Bool) (number : ℕ) (r : Reading TraceBody) → IsReading number r → AreClosed r.head.sections → IsFormedTrace (trace_from shows_kept r)
ended shows_kept number r is closed_sections = record {
  cpus = cpus_in r.head is.head;
  area = area_in r.head is.head;
  frames = by_default (λ n. (1 ≤ n) × (n ≤ 1024)) r.head.frames 1024 is.head.frames (omega arith, omega arith);
  vectors = by_default (λ n. n ≤ 64) r.head.vectors 64 is.head.vectors (omega arith);
  kernel = closed_sections.0;
  sections = is.head.open_sections.are;
  tags = closed_sections.1;
  items = is.items;
  lines = rises_to 2 number 131073 (numbers_of (closed r.body.items r.body.round)) is.within is.lines;
  few_items = omega (arith, is.few, is.within);
  few_prints = omega (arith, is.few_prints, is.most_prints);
}

all_in : (shows_kept : Bool) (lines : List (List ℕ)) (tail : List ℕ) → IfOk (judged_lines (word_line trace_keyword begun body_words) 2 lines tail empty_reading) (λ r. IsFormedTrace (trace_from shows_kept r))
all_in shows_kept lines tail =
    lines_in trace_keyword begun body_words IsReading (λ r. IsFormedTrace (trace_from shows_kept r)) (λ number r is. is.head) passes
    (λ number r head is room before formed. before_body number r head is room (outside number r is before) formed)
    body_words_in (ended shows_kept) 2 lines tail empty_reading nothing_read

pub trace_is_formed : (text : List ℕ) (trace : Trace) → trace_of text ≡ Ok trace → IsFormedTrace trace
unfolding trace_of
trace_is_formed text trace e =
    IfOk-at_ok IsFormedTrace e
    (given IsFormedTrace (at 1 (first_line (lines_of text) (tail_of text))) _ (λ header.
    given IsFormedTrace (at 1 (trace_header header)) _ (λ shows_kept.
    bound (λ r. IsFormedTrace (trace_from shows_kept r)) IsFormedTrace (judged_lines (word_line trace_keyword begun body_words) 2 (drop 1 (lines_of text)) (tail_of text) empty_reading) (λ r. Ok (trace_from shows_kept r)) (all_in shows_kept (drop 1 (lines_of text)) (tail_of text))
    (λ r formed. formed))))

pub read_is_formed : (r : Result Trace TextError) (text : List ℕ) → Reads r (trace_of text) → IfOk r (λ trace. IsFormedTrace trace)
read_is_formed (Ok trace) text h = trace_is_formed text trace h
read_is_formed (Err e) text h = tt
