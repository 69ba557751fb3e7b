use Rattle.std.proofs.Common.{◌≡◌, All, Some, IsSome, refl, sym, ap, ◌∙◌, subst}
use Rattle.std.proofs.lemmas.Option.{same_Some}
use Rattle.tag_rule.proofs.AllMeet.{boards_stay}
use Rattle.tag_rule.specs.Shown.{CpuShown}
use Rattle.module_area.specs.Area.{Area}
use Rattle.module_area.specs.Entries.{entry_of}
use Rattle.module_area.specs.declared.entry.Entry.{Entry}
use Rattle.reclaim.specs.State.{LockedShown, part_of}
use Rattle.reclaim.proofs.InsideFirst.{there}
use Rattle.reclaim.proofs.tests.tie.meet_first.Goals as goal

pub unwrap-requires : goal.unwrap-requires
unwrap-requires c =
    let l = c.args.locked.now in
    let t = there l.board.shape l c.args.pass.now.next c.args.id c.args.cpus.now c.meet_all.new.cpus c.tell.ensures.book c.meet_all.ensures.noted c.requires.inside c.meet_all.ensures.met in
    let now : ◌≡◌ {A = Area} c.book.result.now l.area = c.book.ensures.value ∙ ap (λ (x : LockedShown). x.area) c.meet_all.ensures.same.0 in
    let got : c.get.result ≡ Some t.entry = c.get.ensures.value ∙ (ap (λ (a : Area). entry_of a.entries c.args.id) now ∙ t.is) in
    subst IsSome (sym got) refl

pub returns-clause-loaded : goal.returns-clause-loaded
returns-clause-loaded c =
    let l = c.args.locked.now in
    let t = there l.board.shape l c.args.pass.now.next c.args.id c.args.cpus.now c.meet_all.new.cpus c.tell.ensures.book c.meet_all.ensures.noted c.requires.inside c.meet_all.ensures.met in
    let now : ◌≡◌ {A = Area} c.book.result.now l.area = c.book.ensures.value ∙ ap (λ (x : LockedShown). x.area) c.meet_all.ensures.same.0 in
    let got : c.get.result ≡ Some t.entry = c.get.ensures.value ∙ (ap (λ (a : Area). entry_of a.entries c.args.id) now ∙ t.is) in
    let same : c.unwrap.result ≡ t.entry = same_Some c.unwrap.result t.entry (sym c.unwrap.ensures ∙ got) in (
      ap (λ (x : LockedShown). entry_of x.area.entries c.args.id) c.meet_all.ensures.same.0 ∙ (t.is ∙ ap (λ (e : Entry). Some e) (sym same)),
      ap (λ (e : Entry). e.state) same ∙ t.loaded,
    )

pub returns-clause-cpus : goal.returns-clause-cpus
returns-clause-cpus c =
    subst (λ xs. All (λ (x : CpuShown). x.board ≡ c.args.locked.now.board) xs) (sym c.meet_all.ensures.noted)
    (boards_stay c.args.locked.now.board (part_of c.args.locked.now).records c.args.cpus.now c.requires.tables.1)
