use Rattle.std.proofs.Common.{◌≡◌, ◌∙◌, List, refl, subst}
use Rattle.std.specs.Arc.{arc_value}
use Rattle.tag_section.specs.Section.{Section}
use Rattle.plant.specs.Fresh.{IsStarted}
use Rattle.trace_run.proofs.Ran.{started_same}
use Rattle.trace_run.proofs.running.begin.Goals as goal

pub returns-clause-begun : goal.returns-clause-begun
returns-clause-begun c =
    let k = c.args.plant.now.shape in
    let trace = c.args.trace.now in
    let own : arc_value c.in_ok-sections.sections ≡ trace.sections = c.in_ok-sections.ensures.ok ∙ c.replace-sections.ensures.value in
    let shared : arc_value c.in_ok-shared.shared ≡ trace.sections = c.in_ok-shared.ensures ∙ own in
    let s : IsStarted k trace trace.sections c.in_ok-started.started = subst (λ (sections : List Section). IsStarted k trace sections c.in_ok-started.started) shared (started_same k trace _ _ _ c.in_ok-started.ensures.started) in
    record { board = s.board; shape = s.shape; stands = c.begin.ensures k trace s c.requires.fits own refl }
