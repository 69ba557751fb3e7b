use Rattle.std.proofs.Common.{ap, subst, sym, ◌∙◌, ◌++◌, ◌≡◌, List, ℕ}
use Rattle.std.specs.Prelude.{All}
use Rattle.tag_rule.specs.Shown.{CpuShown}
use Rattle.run_text.specs.Rows.{quiet_rows}
use Rattle.trace_play.specs.Printed.{some_rows_text}
use Rattle.round_worker.proofs.KeptLemmas.{on_ok}
use Rattle.rounds.specs.Places.{machine_at}
use Rattle.rounds.proofs.PrintsAt.{above_kernel, boards, prints}
use Rattle.rounds.proofs.desk.Desk.print.Goals as goal

pub print_locked-requires-clause-tables : goal.print_locked-requires-clause-tables
print_locked-requires-clause-tables c =
    let r = c.requires in
    subst (λ (cpus : List CpuShown). All (λ (x : CpuShown). x.board ≡ c.args.self.now.locked.board) cpus) (sym c.as_mut_slice.ensures.value)
    (boards r.place.board r.place.trace (machine_at r.place) c.args.self.now r.there)

pub print_locked-requires-clause-modules : goal.print_locked-requires-clause-modules
print_locked-requires-clause-modules c = above_kernel c.requires.place c.args.self.now c.requires.there

pub returns-clause-text : goal.returns-clause-text
returns-clause-text c p at =
    on_ok c.print_locked.result
    (λ (text : c.print_locked.new.out.items ≡ c.args.out.now.items ++ some_rows_text c.args.top c.args.self.now.locked.sections (quiet_rows c.args.kept c.args.self.now.locked c.as_mut_slice.result.now)).
    text
    ∙ ap (λ (cpus : List CpuShown). c.args.out.now.items ++ some_rows_text c.args.top c.args.self.now.locked.sections (quiet_rows c.args.kept c.args.self.now.locked cpus)) c.as_mut_slice.ensures.value
    ∙ ap (λ (text : List ℕ). c.args.out.now.items ++ text) (prints p c.args.self.now at c.tell.ensures c.args.kept c.args.top))
    c.print_locked.ensures.text
