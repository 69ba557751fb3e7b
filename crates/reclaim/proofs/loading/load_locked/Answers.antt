use Rattle.std.proofs.Common.{All, OnOk, subst}
use Rattle.module_area.specs.Entries.{IsLoadedAs}
use Rattle.reclaim.specs.Loading.{LoadEnds, early_refusal}
use Rattle.tag_section.specs.Section.{tags_in}
use Rattle.reclaim.proofs.Load.{admitted, late_ends, prepared_all}
use Rattle.reclaim.proofs.loading.load_locked.Goals as goal

pub load-requires-clause-unnamed : goal.load-requires-clause-unnamed
load-requires-clause-unnamed c =
    let unnamed = subst (λ r. OnOk r (All (λ e. ¬ IsLoadedAs c.args.section e) c.args.locked.now.area.entries)) c.in_ok-size.was c.admit.ensures.unnamed in
    prepared_all (λ e. ¬ IsLoadedAs c.args.section e) c.in_ok-size.size c.args.locked.now c.make_room.new.self c.make_room.ensures unnamed

pub returns-clause-answer : goal.returns-clause-answer
returns-clause-answer c =
    let tags = tags_in c.args.locked.now.sections c.args.section in
    let a = admitted (early_refusal c.args.section c.args.locked.now) c.admit.result c.in_ok-size.size tags c.admit.ensures.answer c.in_ok-size.was in
    let ends : LoadEnds c.args.section c.in_ok-size.size c.args.pass.now.next c.args.locked.now c.load.new.self c.load.result = record { mid = c.make_room.new.self; prepared = c.make_room.ensures; ends = c.load.ensures.ends } in
    late_ends _ _ _ a.not_refused (subst (λ n. LoadEnds c.args.section n c.args.pass.now.next c.args.locked.now c.load.new.self c.load.result) a.same ends)
