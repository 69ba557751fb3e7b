use Rattle.std.proofs.Common.{◌≡◌, [], ◌++◌, map, drop, length, All, arith, sym, ap, ◌∙◌, subst, List}
use Rattle.std.proofs.lemmas.List.Elements.{All-take}
use Rattle.tag_rule.specs.Shown.{Board, CpuShown}
use Rattle.reclaim.specs.State.{LockedShown, part_of}
use Rattle.round_modules.specs.Inside.{AreInside, AreNoted, notes_in, outside}
use Rattle.round_modules.specs.Known.{AreLoadedIn, runs_of}
use Rattle.round_modules.proofs.CpuLists.{alike_boards, came_in, length_noted, none_noted, outside_come_in, outside_noted}
use Rattle.round_modules.proofs.Knows.{known_loaded, known_long, known_noted, known_rises, noted_along, notes_come_in}
use Rattle.round_modules.proofs.beginning.begin.Goals as goal

pub enter_all-requires-clause-tables : goal.enter_all-requires-clause-tables
enter_all-requires-clause-tables c =
    let l = c.args.locked.now in
    let same = ap (map outside) c.meet_all.ensures.noted ∙ outside_noted (part_of l).records c.args.cpus.now in
    let old = subst (λ (b : Board). All (λ (x : CpuShown). x.board ≡ b) c.args.cpus.now) (sym (ap (λ (x : LockedShown). x.board) c.meet_all.ensures.same.0)) c.requires.tables.1 in
    All-take (λ (x : CpuShown). x.board ≡ c.meet_all.new.self.board) c.args.inside c.meet_all.new.cpus (alike_boards (λ (x : CpuShown). x.board ≡ c.meet_all.new.self.board) (λ x h. h) (λ x h. h) c.args.cpus.now c.meet_all.new.cpus same old)

pub enter_all-requires-clause-outside : goal.enter_all-requires-clause-outside
enter_all-requires-clause-outside c =
    All-take (λ (x : CpuShown). x.part.runs ≡ []) c.args.inside c.meet_all.new.cpus (subst (All (λ (x : CpuShown). x.part.runs ≡ [])) (sym c.meet_all.ensures.noted) (none_noted (part_of c.args.locked.now).records c.args.cpus.now c.requires.outside))

pub enter_all-requires-clause-few : goal.enter_all-requires-clause-few
enter_all-requires-clause-few c = omega (arith, known_long c.args.locked.now.area.entries c.args.known.now c.requires.known, c.tell.ensures.book.few)

pub enter_all-requires-clause-rising : goal.enter_all-requires-clause-rising
enter_all-requires-clause-rising c = known_rises c.args.locked.now.area.entries c.args.known.now c.requires.known c.tell.ensures.book.rising

pub enter_all-requires-clause-loaded : goal.enter_all-requires-clause-loaded
enter_all-requires-clause-loaded c =
    subst (λ (x : LockedShown). AreLoadedIn x.area.entries c.args.known.now) (sym c.meet_all.ensures.same.0) (known_loaded c.args.locked.now.area.entries c.args.known.now c.requires.known c.tell.ensures.book.rising)

pub returns-clause-inside : goal.returns-clause-inside
returns-clause-inside c =
    let none = subst (All (λ (x : CpuShown). x.part.runs ≡ [])) (sym c.meet_all.ensures.noted) (none_noted (part_of c.args.locked.now).records c.args.cpus.now c.requires.outside) in
    let whole = ap (λ (xs : List CpuShown). xs ++ drop c.args.inside c.meet_all.new.cpus) c.enter_all.ensures.cpus in
    let long = ap length c.meet_all.ensures.noted ∙ length_noted (part_of c.args.locked.now).records c.args.cpus.now in
    subst (λ (xs : List CpuShown). AreInside c.args.inside (runs_of c.args.known.now) xs) (sym whole) (came_in c.args.inside (runs_of c.args.known.now) c.meet_all.new.cpus (omega (arith, c.requires.some.1, long)) none)

pub returns-clause-noted : goal.returns-clause-noted
returns-clause-noted c =
    let l = c.args.locked.now in
    let runs = runs_of c.args.known.now in
    let whole = ap (λ (xs : List CpuShown). xs ++ drop c.args.inside c.meet_all.new.cpus) c.enter_all.ensures.cpus in
    let given = subst (λ (xs : List CpuShown). AreNoted c.args.known.now xs) (sym c.meet_all.ensures.noted) (known_noted l.area.entries c.args.known.now c.args.cpus.now (omega (arith, c.requires.some.0, c.requires.some.1)) c.requires.known) in
    noted_along c.args.known.now c.meet_all.new.cpus _ (ap (map notes_in) whole ∙ notes_come_in c.args.inside runs c.meet_all.new.cpus) given

pub returns-clause-rest : goal.returns-clause-rest
returns-clause-rest c =
    let whole = ap (λ (xs : List CpuShown). xs ++ drop c.args.inside c.meet_all.new.cpus) c.enter_all.ensures.cpus in
    ap (map outside) whole ∙ (outside_come_in c.args.inside (runs_of c.args.known.now) c.meet_all.new.cpus ∙ (ap (map outside) c.meet_all.ensures.noted ∙ outside_noted (part_of c.args.locked.now).records c.args.cpus.now))
