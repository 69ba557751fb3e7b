use Rattle.std.proofs.Common.{◌≡◌, ◌+◌, ◌≤◌, None, [], All, filter, map, sym, ap, ◌∙◌, subst, arith}
use Rattle.std.specs.Arc.{arc_value}
use Rattle.std.specs.List.{range_with_len}
use Rattle.std.proofs.lemmas.List.Elements.{All-filter, All-take, All-weaker}
use Rattle.tag_rule.specs.Shown.{Board, CpuShown, PassShown}
use Rattle.module_area.specs.declared.entry.Entry.{Entry}
use Rattle.module_area.specs.Area.{Area, LiesIn}
use Rattle.reclaim.specs.Quiet.{is_unquiet}
use Rattle.reclaim.specs.State.{IsNamed, LockedShown, part_of}
use Rattle.round_modules.specs.Inside.{outside}
use Rattle.round_modules.specs.Known.{known_area, runs_of}
use Rattle.round_modules.proofs.CpuLists.{alike_boards, alike_numbers}
use Rattle.round_modules.proofs.Leaves.{alike_board, left_alike, met_split, noted_alike}
use Rattle.round_modules.proofs.Gone.{AreGone, are_gone}
use Rattle.round_modules.proofs.Closed.{entries_known, first_known}
use Rattle.round_modules.proofs.ending.end.Goals as goal

-- ---- the CPUs go out

pub leave_all-requires-clause-tables : goal.leave_all-requires-clause-tables
leave_all-requires-clause-tables c =
    let same = noted_alike (part_of c.args.locked.now).records c.args.cpus.now c.meet_all.new.cpus c.meet_all.ensures.noted in
    All-take (λ (x : CpuShown). x.board ≡ c.meet_all.new.self.board) c.args.inside c.meet_all.new.cpus (alike_board c.args.locked.now.board c.meet_all.new.self.board c.args.cpus.now c.meet_all.new.cpus same (ap (λ (x : LockedShown). x.board) c.meet_all.ensures.same.0) c.requires.tables.1)

pub leave_all-requires-clause-hands : goal.leave_all-requires-clause-hands
leave_all-requires-clause-hands c =
    let same = noted_alike (part_of c.args.locked.now).records c.args.cpus.now c.meet_all.new.cpus c.meet_all.ensures.noted in
    All-take (λ (x : CpuShown). x.part.hand ≡ None) c.args.inside c.meet_all.new.cpus (alike_boards (λ (x : CpuShown). x.part.hand ≡ None) (λ x h. h) (λ x h. h) c.args.cpus.now c.meet_all.new.cpus same c.requires.hands)

pub leave_all-requires-clause-inside : goal.leave_all-requires-clause-inside
leave_all-requires-clause-inside c =
    (met_split c.args.inside (runs_of c.args.known.now) (part_of c.args.locked.now).records c.args.cpus.now c.meet_all.new.cpus c.meet_all.ensures.noted c.requires.some.1 c.requires.inside).within

pub meet_all-requires-2-clause-tables : goal.meet_all-requires-2-clause-tables
meet_all-requires-2-clause-tables c =
    let board : c.leave_all.new.locked.board ≡ c.args.locked.now.board = c.leave_all.ensures.same.board ∙ ap (λ (x : LockedShown). x.board) c.meet_all.ensures.same.0 in
    let same = left_alike c.args.inside (part_of c.args.locked.now).records c.args.cpus.now c.meet_all.new.cpus c.leave_all.new.cpus c.meet_all.ensures.noted c.leave_all.ensures.cpus in
    (ap (λ (x : PassShown). x.board) c.meet_all.ensures.same.1 ∙ (c.requires.tables.0 ∙ sym board), alike_board c.args.locked.now.board c.leave_all.new.locked.board c.args.cpus.now _ same board c.requires.tables.1)

pub meet_all-requires-2-clause-all : goal.meet_all-requires-2-clause-all
meet_all-requires-2-clause-all c =
    let board : c.leave_all.new.locked.board ≡ c.args.locked.now.board = c.leave_all.ensures.same.board ∙ ap (λ (x : LockedShown). x.board) c.meet_all.ensures.same.0 in
    let same = left_alike c.args.inside (part_of c.args.locked.now).records c.args.cpus.now c.meet_all.new.cpus c.leave_all.new.cpus c.meet_all.ensures.noted c.leave_all.ensures.cpus in
    alike_numbers c.args.cpus.now _ same ∙ (c.requires.all ∙ ap (λ (b : Board). range_with_len 0 b.shape.cpus) (sym board))

-- ---- they are gone, and the book is what is known

pub mark_unknown-requires : goal.mark_unknown-requires
mark_unknown-requires c =
    let gone = are_gone c.tell.ensures c.requires.some c.requires.inside c.requires.noted c.meet_all.ensures.same.0 c.meet_all.ensures.noted c.meet_all.ensures.met c.leave_all.ensures.cpus c.leave_all.ensures.same c.meet_all-2.ensures.same.0 c.meet_all-2.ensures.noted c.meet_all-2.ensures.met in
    record { unused = gone.users }

pub clean_quiet_locked-requires-clause-tables : goal.clean_quiet_locked-requires-clause-tables
clean_quiet_locked-requires-clause-tables c =
    let gone = are_gone c.tell.ensures c.requires.some c.requires.inside c.requires.noted c.meet_all.ensures.same.0 c.meet_all.ensures.noted c.meet_all.ensures.met c.leave_all.ensures.cpus c.leave_all.ensures.same c.meet_all-2.ensures.same.0 c.meet_all-2.ensures.noted c.meet_all-2.ensures.met in
    alike_board c.args.locked.now.board c.mark_unknown.new.locked.board c.args.cpus.now c.meet_all-2.new.cpus gone.alike (c.mark_unknown.ensures.same.0 ∙ gone.same.board) c.requires.tables.1

pub clean_quiet_locked-requires-clause-all : goal.clean_quiet_locked-requires-clause-all
clean_quiet_locked-requires-clause-all c =
    let gone = are_gone c.tell.ensures c.requires.some c.requires.inside c.requires.noted c.meet_all.ensures.same.0 c.meet_all.ensures.noted c.meet_all.ensures.met c.leave_all.ensures.cpus c.leave_all.ensures.same c.meet_all-2.ensures.same.0 c.meet_all-2.ensures.noted c.meet_all-2.ensures.met in
    alike_numbers c.args.cpus.now c.meet_all-2.new.cpus gone.alike ∙ (c.requires.all ∙ ap (λ (b : Board). range_with_len 0 b.shape.cpus) (sym (c.mark_unknown.ensures.same.0 ∙ gone.same.board)))

-- the same, as the cleaning leaves it; the entries then, and where their area begins
gone : (c : goal.After-put_sections-arg-1) → AreGone c.args.locked.now c.meet_all-2.new.self c.args.cpus.now c.meet_all-2.new.cpus c.args.known.now
gone c = are_gone c.tell.ensures c.requires.some c.requires.inside c.requires.noted c.meet_all.ensures.same.0 c.meet_all.ensures.noted c.meet_all.ensures.met c.leave_all.ensures.cpus c.leave_all.ensures.same c.meet_all-2.ensures.same.0 c.meet_all-2.ensures.noted c.meet_all-2.ensures.met

left : (c : goal.After-put_sections-arg-1) → c.clean_quiet_locked.new.locked.area.entries ≡ filter (is_unquiet c.args.cpus.now) c.args.known.now
left c =
    entries_known c.args.locked.now c.meet_all-2.new.self c.mark_unknown.new.locked c.clean_quiet_locked.new.locked c.args.cpus.now c.meet_all-2.new.cpus c.args.tags c.args.known.now c.tell-2.ensures (gone c)
    c.requires.book c.requires.users c.requires.held c.requires.counted c.mark_unknown.ensures.area c.clean_quiet_locked.ensures.exact

begins : (c : goal.After-put_sections-arg-1) → c.clean_quiet_locked.new.locked.area.first ≡ c.args.locked.now.board.shape.kernel_tags
begins c = first_known c.args.locked.now c.meet_all-2.new.self c.mark_unknown.new.locked c.clean_quiet_locked.new.locked c.meet_all-2.new.cpus c.args.known.now c.tell-2.ensures (gone c).same c.mark_unknown.ensures.area c.clean_quiet_locked.ensures.exact

pub put_sections-requires-clause-named : goal.put_sections-requires-clause-named
put_sections-requires-clause-named c =
    let named = IsNamed (arc_value c.args.sections) in
    subst (All named) (sym (left c)) (All-filter (is_unquiet c.args.cpus.now) named c.args.known.now c.requires.named)

pub put_sections-requires-clause-lie : goal.put_sections-requires-clause-lie
put_sections-requires-clause-lie c =
    let first = begins c in
    let area : Area = known_area c.args.locked.now.board.shape c.args.tags c.args.known.now in
    let P : Entry → Type 0 = λ e. e.start + e.length ≤ c.clean_quiet_locked.new.locked.area.first + c.args.tags in
    subst (All P) (sym (left c)) (All-filter (is_unquiet c.args.cpus.now) P c.args.known.now (All-weaker (λ (e : Entry). LiesIn area e.start e.length) P (λ e lies. omega (arith, lies.1, first)) c.args.known.now c.requires.book.in_area))

pub returns-clause-area : goal.returns-clause-area
returns-clause-area c =
    let is = left c.before in
    let first = begins c.before in
    ap (λ (x : LockedShown). x.area) c.put_sections.ensures ∙ (λ i. record { entries = is i; first = first i; tags = c.args.tags })

pub returns-clause-outside : goal.returns-clause-outside
returns-clause-outside c = subst (All (λ (x : CpuShown). x.part.runs ≡ [])) (sym c.clean_quiet_locked.ensures.same) (gone c.before).none

pub returns-clause-rest : goal.returns-clause-rest
returns-clause-rest c = ap (map outside) c.clean_quiet_locked.ensures.same ∙ (gone c.before).alike
