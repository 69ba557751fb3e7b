-- What a run answers.
use Rattle.std.proofs.Common.{◌≡◌, ℕ, ◌≤◌, ◌==◌, ◌⊎◌, inl, inr, Bool, true, false, List, [], ◌∷◌, ◌++◌, length, Option, Some, None, Result, Ok, Err, refl, sym, ap, ◌∙◌, subst, codes, decimal}
use Rattle.std.specs.Prelude.{⊤, MatchResult, if◌then◌else◌}
use Rattle.tag_section.specs.Section.{names_of}
use Rattle.module_area.specs.Area.{least_start}
use Rattle.input_form.specs.declared.code.Code.{Code}
use Rattle.input_form.specs.declared.code.Code.TheVariants as code
use Rattle.input_form.specs.Codes.{code_text}
use Rattle.trace.specs.declared.traces.Item.{Item}
use Rattle.trace.specs.declared.traces.Item.TheVariants as item
use Rattle.trace.specs.declared.traces.Trace.{Trace}
use Rattle.trace.specs.TraceReading.{trace_of}
use Rattle.round_check.specs.Walk.{rounds_of}
use Rattle.trace_play.specs.Machine.{Machine}
use Rattle.trace_play.specs.Play.{Outcome, Played, item_played, nothing_played, play, refusal_of, run_text, section_len, trace_played, trace_text, unless_refused, unless_room}
use Rattle.trace_play.specs.Answer.{RunAnswer, answered, checked_answer, formed_answer, refusal_text, run_answer}
use Rattle.trace_play.specs.Answer as meaning
use Rattle.plant.specs.Table.{PlantShown}
use Rattle.profile_top.specs.declared.answer.Answer.{Answer}
use Rattle.profile_top.specs.Answers.{Gives, Written, input_limit, refused}
use Rattle.profile_top.specs.Commands.{IsRunnable, RunLeaves, written_of}
use Rattle.trace_run.specs.Runs.{HasRun}
use Rattle.profile_top.specs.Spelled.{Accepts, Refuses, RunSays}

-- ---- a `load` line that is refused

-- its code is one of two
abbrev IsOfLoad : Option (ℕ × Code) → Type 0
IsOfLoad None = ⊤
IsOfLoad (Some why) = (why.1 ≡ code.Full) ⊎ (why.1 ≡ code.NoRoom)

no_room : (line : ℕ) (start : Option ℕ) → IsOfLoad (unless_room line start)
no_room line None = inr refl
no_room line (Some start) = tt

full : (is_full : Bool) (line : ℕ) (start : Option ℕ) → IsOfLoad (if is_full then Some (line, code.Full) else unless_room line start)
full true line start = inl refl
full false line start = no_room line start

item_refused : (trace : Trace) (what : Item) (p : Played) → IsOfLoad (refusal_of trace what p)
item_refused trace (item.Round ops) p = tt
item_refused trace (item.Load line section) p = full (length p.machine.area.entries == 64) line (least_start p.machine.area (section_len trace section))
item_refused trace item.Print p = tt
item_refused trace item.Areas p = tt

play_refused : (trace : Trace) (top : Option ℕ) (items : List Item) (p : Played) → IsOfLoad (play trace top items p).refused
play_refused trace top [] p = tt
play_refused trace top (what ∷ items) p =
    elim (refusal_of trace what p) as (λ (why : Option (ℕ × Code)). IsOfLoad why → IsOfLoad (elim why as (λ _. Outcome) [ None ↦ play trace top items (item_played trace top what p) | Some w ↦ record { played = p; refused = Some w } ]).refused) [
      | None ↦ λ none. play_refused trace top items (item_played trace top what p)
      | Some why ↦ λ of_load. of_load
    ] (item_refused trace what p)

load_codes : (trace : Trace) (line : ℕ) (why : Code) → (trace_played trace None).refused ≡ Some (line, why) → (why ≡ code.Full) ⊎ (why ≡ code.NoRoom)
load_codes trace line why e = subst IsOfLoad e (play_refused trace None trace.body (nothing_played trace))

-- which names no module, so that the text is the same for any names
same_text : (names : List (List ℕ)) (why : Code) → (why ≡ code.Full) ⊎ (why ≡ code.NoRoom) → code_text names why ≡ code_text [] why
unfolding code_text
same_text names why (inl full) = subst (λ (c : Code). code_text names c ≡ code_text [] c) (sym full) refl
same_text names why (inr no_room) = subst (λ (c : Code). code_text names c ≡ code_text [] c) (sym no_room) refl

same_line : (names : List (List ℕ)) (line : ℕ) (why : Code) → (why ≡ code.Full) ⊎ (why ≡ code.NoRoom) → refusal_text [] line why ≡ refusal_text names line why
unfolding refusal_text
same_line names line why of_load = ap (λ (text : List ℕ). codes "line " ++ decimal line ++ codes ": " ++ text ++ codes "\n") (sym (same_text names why of_load))

-- ---- what a trace gives whose rounds passed

abbrev ended : Trace → Option (ℕ × Code) → Written
ended trace why = written_of (answered (names_of trace.sections) (trace_played trace None).played.machine (unless_refused (run_text trace (trace_played trace None).played) why))

pub trace_refused : (trace : Trace) (answer : Answer) (line : ℕ) (why : Code) → (trace_played trace None).refused ≡ Some (line, why) → Gives answer (refused [] (line, why))
    → Gives answer (written_of (checked_answer None trace (Ok tt)))
trace_refused trace answer line why at_line gives = subst (λ (w : Option (ℕ × Code)). Gives answer (ended trace w)) (sym at_line)
    (record { status = gives.status; text = gives.text ∙ same_line (names_of trace.sections) line why (load_codes trace line why at_line) })

-- ---- what an input gives

form_refused : (input : List ℕ) (why : ℕ × Code) → trace_of input ≡ Err why → run_answer None input ≡ formed_answer None (Err why)
unfolding run_answer
form_refused input why e = ap (λ (r : Result Trace (ℕ × Code)). formed_answer None r) e

form_passed : (input : List ℕ) (trace : Trace) (rounds : Result ⊤ (ℕ × Code)) → trace_of input ≡ Ok trace → rounds_of trace ≡ rounds → run_answer None input ≡ checked_answer None trace rounds
unfolding run_answer
form_passed input trace rounds e r = ap (λ (r : Result Trace (ℕ × Code)). formed_answer None r) e ∙ ap (λ (r : Result ⊤ (ℕ × Code)). checked_answer None trace r) r

refusal_gives : (names : List (List ℕ)) (m : Machine) (answer : Answer) (line : ℕ) (why : Code) (run : RunAnswer) → run ≡ answered names m (Err (line, why)) → Gives answer (refused names (line, why)) → Gives answer (written_of run)
refusal_gives names m answer line why run is gives = subst (λ (r : RunAnswer). Gives answer (written_of r)) (sym is)
    (record { status = gives.status; text = gives.text })

pub form_gives : (input : List ℕ) (answer : Answer) (line : ℕ) (why : Code) → trace_of input ≡ Err (line, why) → Gives answer (refused [] (line, why)) → Gives answer (written_of (run_answer None input))
form_gives input answer line why e gives = refusal_gives [] meaning.untouched answer line why (run_answer None input) (form_refused input (line, why) e) gives

pub rounds_give : (input : List ℕ) (trace : Trace) (answer : Answer) (line : ℕ) (why : Code) → trace_of input ≡ Ok trace → rounds_of trace ≡ Err (line, why) → Gives answer (refused (names_of trace.sections) (line, why))
    → Gives answer (written_of (run_answer None input))
rounds_give input trace answer line why e r gives =
    refusal_gives (names_of trace.sections) meaning.untouched answer line why (run_answer None input) (form_passed input trace (Err (line, why)) e r) gives

pub run_gives : (input : List ℕ) (trace : Trace) (answer : Answer) → trace_of input ≡ Ok trace → rounds_of trace ≡ Ok tt → Gives answer (written_of (checked_answer None trace (Ok tt))) → Gives answer (written_of (run_answer None input))
run_gives input trace answer e r gives = subst (λ (run : RunAnswer). Gives answer (written_of run)) (sym (form_passed input trace (Ok tt) e r)) gives

-- ---- what it leaves

pub runs : (input : List ℕ) (trace : Trace) → length input ≤ input_limit → trace_of input ≡ Ok trace → rounds_of trace ≡ Ok tt → IsRunnable input
runs input trace within e r = record { within = within; trace = trace; form = e; rounds = r }

pub leaves_run : (input : List ℕ) (trace : Trace) (old new : PlantShown) → length input ≤ input_limit → trace_of input ≡ Ok trace → rounds_of trace ≡ Ok tt
    → HasRun (trace_played trace None).played.machine old new → RunLeaves input old new
leaves_run input trace old new within e r has = record {
  ran = λ _. subst (λ (run : RunAnswer). HasRun run.machine old new) (sym (form_passed input trace (Ok tt) e r)) (by_end (unless_refused (run_text trace (trace_played trace None).played) (trace_played trace None).refused));
  not_ran = λ barred. absurd (barred (runs input trace within e r));
}
  where
    by_end : (text : Result (List ℕ) (ℕ × Code)) → HasRun (answered (names_of trace.sections) (trace_played trace None).played.machine text).machine old new
    by_end (Ok text) = has
    by_end (Err why) = has

-- ---- spelled out

text_says : (names : List (List ℕ)) (m : Machine) (r : Result (List ℕ) (ℕ × Code)) (status : ℕ) (text : List ℕ) → status ≡ (answered names m r).status → text ≡ (answered names m r).text
    → MatchResult r (λ printed. Accepts printed status text) (λ why. Refuses names why status text)
unfolding refusal_text
text_says names m (Ok printed) status text s t = (s, t)
text_says names m (Err why) status text s t = (s, t)

abbrev TraceSays : Trace → ℕ → List ℕ → Type 0
TraceSays trace status text = MatchResult (trace_text trace None) (λ printed. Accepts printed status text) (λ why. Refuses (names_of trace.sections) why status text)

rounds_say : (trace : Trace) (r : Result ⊤ (ℕ × Code)) (status : ℕ) (text : List ℕ) → status ≡ (checked_answer None trace r).status → text ≡ (checked_answer None trace r).text
    → MatchResult r (λ done. TraceSays trace status text) (λ why. Refuses (names_of trace.sections) why status text)
unfolding refusal_text
rounds_say trace (Ok done) status text s t = text_says (names_of trace.sections) (trace_played trace None).played.machine (trace_text trace None) status text s t
rounds_say trace (Err why) status text s t = (s, t)

form_says : (r : Result Trace (ℕ × Code)) (status : ℕ) (text : List ℕ) → status ≡ (formed_answer None r).status → text ≡ (formed_answer None r).text
    → MatchResult r (λ trace. MatchResult (rounds_of trace) (λ done. TraceSays trace status text) (λ why. Refuses (names_of trace.sections) why status text)) (λ why. Refuses [] why status text)
unfolding refusal_text
form_says (Ok trace) status text s t = rounds_say trace (rounds_of trace) status text s t
form_says (Err why) status text s t = (s, t)

pub run_says : (input : List ℕ) (status : ℕ) (text : List ℕ) → status ≡ (run_answer None input).status → text ≡ (run_answer None input).text → RunSays input status text
unfolding run_answer
run_says input status text s t = form_says (trace_of input) status text s t
