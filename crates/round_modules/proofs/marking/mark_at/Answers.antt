use Rattle.std.proofs.Common.{ap, ◌∙◌, sym}
use Rattle.module_area.specs.Area.{Area}
use Rattle.round_modules.proofs.Marks.{is_left, is_marked, may_mark}
use Rattle.round_modules.proofs.marking.mark_at.Goals as goal

pub mark_dead_locked-requires : goal.mark_dead_locked-requires
mark_dead_locked-requires c =
    may_mark c.book.result.now c.args.locked.now.area.entries c.args.known.now c.args.place c.at-entry.result (ap (λ (a : Area). a.entries) c.book.ensures.value) c.book.ensures.holds.book.rising c.requires.place c.at-entry.ensures.value c.requires.unused (sym c.goes.ensures ∙ c.if-goes.true)

pub returns-then-goes-clause-area : goal.returns-then-goes-clause-area
returns-then-goes-clause-area c =
    is_marked c.args.locked.now c.mark_dead_locked.new.locked c.book.result.now c.args.known.now c.args.place c.at-entry.result (ap (λ (a : Area). a.entries) c.book.ensures.value) c.book.ensures.holds.book.rising c.requires.place c.at-entry.ensures.value (sym c.goes.ensures ∙ c.if-goes.true) c.mark_dead_locked.ensures.area

pub returns-else-goes-clause-area : goal.returns-else-goes-clause-area
returns-else-goes-clause-area c =
    is_left c.args.locked.now c.book.result.now c.args.known.now c.args.place c.at-entry.result (ap (λ (a : Area). a.entries) c.book.ensures.value) c.requires.place c.at-entry.ensures.value (sym c.goes.ensures ∙ c.if-goes.false)
