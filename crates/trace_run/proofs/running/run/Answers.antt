use Rattle.std.proofs.Common.{◌∙◌, ◌++◌, List, ℕ, Err, ap, refl, sym}
use Rattle.std.specs.Option.{option_map}
use Rattle.std.proofs.lemmas.Result.{err_from_is_err_and}
use Rattle.plant.specs.Table.{PlantShown}
use Rattle.trace_play.specs.Play.{done_text, trace_played}
use Rattle.trace_run.specs.Items.{line_code}
use Rattle.trace_run.proofs.Ran.{at_end, begins, has_run_from}
use Rattle.trace_run.proofs.running.run.Goals as goal

pub finish-requires-clause-ended : goal.finish-requires-clause-ended
finish-requires-clause-ended g c =
    let b = c.in_ok-desk.ensures.begun in
    let s = begins c.args.plant.now.shape c.args.trace c.begin.new.trace c.as_slice-items.result.now c.in_ok-desk.desk c.requires.formed c.requires.passes c.in_ok-desk.ensures.trace c.as_slice-items.ensures b in
    let played = c.in_ok-outcome.ensures s in
    let shape = ap (λ (p : PlantShown). p.shape) c.in_ok-desk.ensures.plant in
    record { place = at_end c.args.top b.board c.args.trace c.requires.formed c.requires.passes; there = played.stands; shape = b.shape ∙ sym shape }

pub returns-in_err-finish-clause-refused : goal.returns-in_err-finish-clause-refused
returns-in_err-finish-clause-refused g c = λ line code e.
    let b = c.in_ok-desk.ensures.begun in
    let s = begins c.args.plant.now.shape c.args.trace c.begin.new.trace c.as_slice-items.result.now c.in_ok-desk.desk c.requires.formed c.requires.passes c.in_ok-desk.ensures.trace c.as_slice-items.ensures b in
    let played = c.in_ok-outcome.ensures s in
    let p = err_from_is_err_and c.from_residual-in_err-finish.result c.from_residual-in_err-finish.ensures.1 in
    (sym played.refused ∙ c.in_err-finish.ensures.refused line code (ap Err (sym p.2) ∙ sym p.1 ∙ e), refl)

pub returns-in_err-finish-clause-plant : goal.returns-in_err-finish-clause-plant
returns-in_err-finish-clause-plant g c = λ run.
    let b = c.in_ok-desk.ensures.begun in
    let s = begins c.args.plant.now.shape c.args.trace c.begin.new.trace c.as_slice-items.result.now c.in_ok-desk.desk c.requires.formed c.requires.passes c.in_ok-desk.ensures.trace c.as_slice-items.ensures b in
    let played = c.in_ok-outcome.ensures s in
    let shape = ap (λ (p : PlantShown). p.shape) c.in_ok-desk.ensures.plant in
    has_run_from (trace_played c.args.trace c.args.top).played.machine c.args.plant.now c.begin.new.plant c.finish.new.plant shape
    (c.in_err-finish.ensures.plant (at_end c.args.top b.board c.args.trace c.requires.formed c.requires.passes) played.stands (b.shape ∙ sym shape))

pub returns-clause-text : goal.returns-clause-text
returns-clause-text g c =
    let b = c.in_ok-desk.ensures.begun in
    let s = begins c.args.plant.now.shape c.args.trace c.begin.new.trace c.as_slice-items.result.now c.in_ok-desk.desk c.requires.formed c.requires.passes c.in_ok-desk.ensures.trace c.as_slice-items.ensures b in
    let played = c.in_ok-outcome.ensures s in
    let body = c.args.trace.body in
    let ended = c.in_ok-finish.ensures.text in
    let text = ended.1 (at_end c.args.top b.board c.args.trace c.requires.formed c.requires.passes) played.stands refl c.rounds_in-rounds.ensures c.ops_in-ops.ensures in (
      sym played.refused ∙ ap (option_map line_code) ended.0,
      c.in_ok-extend_from_slice.ensures.items
          ∙ ap (λ (xs : List ℕ). c.args.out.now.items ++ xs) (c.deref.ensures.value ∙ text ∙ ap (λ (xs : List ℕ). xs ++ done_text body (trace_played c.args.trace c.args.top).played.machine) (played.text_is c.new-text.ensures.items)),
    )

pub returns-clause-plant : goal.returns-clause-plant
returns-clause-plant g c = λ run.
    let b = c.in_ok-desk.ensures.begun in
    let s = begins c.args.plant.now.shape c.args.trace c.begin.new.trace c.as_slice-items.result.now c.in_ok-desk.desk c.requires.formed c.requires.passes c.in_ok-desk.ensures.trace c.as_slice-items.ensures b in
    let played = c.in_ok-outcome.ensures s in
    let shape = ap (λ (p : PlantShown). p.shape) c.in_ok-desk.ensures.plant in
    has_run_from (trace_played c.args.trace c.args.top).played.machine c.args.plant.now c.begin.new.plant c.finish.new.plant shape
    (c.in_ok-finish.ensures.plant (at_end c.args.top b.board c.args.trace c.requires.formed c.requires.passes) played.stands (b.shape ∙ sym shape))

pub returns-in_err-finish-clause-printed : goal.returns-in_err-finish-clause-printed
returns-in_err-finish-clause-printed g c = λ run kept some.
    let b = c.in_ok-desk.ensures.begun in
    let s = begins c.args.plant.now.shape c.args.trace c.begin.new.trace c.as_slice-items.result.now c.in_ok-desk.desk c.requires.formed c.requires.passes c.in_ok-desk.ensures.trace c.as_slice-items.ensures b in
    let played = c.in_ok-outcome.ensures s in
    c.in_err-finish.ensures.printed (at_end c.args.top b.board c.args.trace c.requires.formed c.requires.passes) played.stands kept some

pub returns-clause-printed : goal.returns-clause-printed
returns-clause-printed g c = λ run kept some.
    let b = c.in_ok-desk.ensures.begun in
    let s = begins c.args.plant.now.shape c.args.trace c.begin.new.trace c.as_slice-items.result.now c.in_ok-desk.desk c.requires.formed c.requires.passes c.in_ok-desk.ensures.trace c.as_slice-items.ensures b in
    let played = c.in_ok-outcome.ensures s in
    c.in_ok-finish.ensures.printed (at_end c.args.top b.board c.args.trace c.requires.formed c.requires.passes) played.stands kept some
