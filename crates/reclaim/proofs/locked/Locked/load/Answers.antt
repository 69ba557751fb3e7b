use Rattle.std.proofs.Common.{◌≡◌, ◌<◌, nat_lt, length, All, Ok, Result, ℕ, refl, sym, subst, ap, ◌∙◌, arith}
use Rattle.std.specs.Arc.{arc_value}
use Rattle.tag_model.specs.declared.state.ListPart.{ListPart}
use Rattle.tag_model.specs.declared.state.Record.{Record}
use Rattle.std.specs.List.{list_all}
use Rattle.tag_rule.specs.Listed.{with_loaded}
use Rattle.tag_rule.specs.Shown.{ListShown}
use Rattle.module_area.specs.declared.book.AreaError.{AreaError}
use Rattle.module_area.specs.Area.{IsBook, least_start}
use Rattle.module_area.specs.Entries.{IsLoadedAs}
use Rattle.reclaim.specs.Loading.{late_refusal, loaded_as}
use Rattle.tag_section.specs.Section.{tags_in}
use Rattle.reclaim.specs.State.{LockedShown}
use Rattle.reclaim.specs.Tied.{locked_shown}
use Rattle.core_list.proofs.Refused.{Says}
use Rattle.reclaim.proofs.Load.{above_entries, late_ends, late_none, locked_loaded, may_load, part_loaded, reserved_area, reserves}
use Rattle.reclaim.proofs.Tying.{shows, ties}
use Rattle.reclaim.proofs.locked.Locked.load.Goals as goal

pub load_list-id-requires-clause-range : goal.load_list-id-requires-clause-range
load_list-id-requires-clause-range c =
    let l = locked_shown c.self.inside in
    let is = sym c.in-Some.is ∙ (c.start_for.ensures ∙ ap (λ (x : LockedShown). least_start x.area c.args.size) (sym c.self.view_is)) in
    may_load l c.self.inside.list.part c.args.size c.in-Some.start c.self.invariant.locked c.requires.some_tags c.self.invariant.part is

pub reserve-requires-clause-rising : goal.reserve-requires-clause-rising
reserve-requires-clause-rising c = above_entries c.self.inside.book.entries c.load_list-id.result (ap (λ (x : ListPart). list_all (λ (r : Record). nat_lt r.id c.load_list-id.result) x.records) (sym c.self.invariant.part) ∙ c.load_list-id.ensures.above.1)

pub unwrap-start-requires : goal.unwrap-start-requires
unwrap-start-requires c =
    let l = locked_shown c.self.inside in
    let is = sym c.in-Some.is ∙ (c.start_for.ensures ∙ ap (λ (x : LockedShown). least_start x.area c.args.size) (sym c.self.view_is)) in
    let unnamed = subst (λ (x : LockedShown). All (λ e. ¬ IsLoadedAs c.args.section e) x.area.entries) (sym c.self.view_is) c.requires.unnamed in
    let says : Says c.args.section c.args.size l.area c.reserve.result = record { same_name = c.reserve.ensures.same_name; book_full = c.reserve.ensures.book_full; no_room = c.reserve.ensures.no_room; never = c.reserve.ensures.never } in
    reserves c.args.section c.args.size c.in-Some.start l.area c.reserve.result says unnamed (λ full. c.if-count.false (c.count.ensures.value ∙ full)) is

pub invariant_of-self : goal.invariant_of-self
invariant_of-self c =
    let l = locked_shown c.self.inside in
    let id = c.load_list-id.result in
    let is = sym c.in-Some.is ∙ (c.start_for.ensures ∙ ap (λ (x : LockedShown). least_start x.area c.args.size) (sym c.self.view_is)) in
    let area = reserved_area l c.reserve.new.self id c.args.section c.args.size c.unwrap-start.result c.reserve.result c.self.invariant.locked c.requires.some_tags c.unwrap-start.ensures c.reserve.ensures.reserved in
    let named = subst (λ (x : LockedShown). (c.args.section < length x.sections) × (tags_in x.sections c.args.section ≡ c.args.size)) (sym c.self.view_is) c.requires.named in
    let part = ap (λ (x : ListShown). x.part) c.load_list-id.ensures.list ∙ (ap (with_loaded id c.args.section c.in-Some.start c.args.size) c.self.invariant.part ∙ part_loaded l id c.args.section c.args.size c.in-Some.start is) in
    ties (loaded_as id c.args.section c.args.size l) c.reserve.new.self c.load_list-id.new.list (arc_value c.self.inside.sections)
    (locked_loaded l id c.args.section c.args.size c.self.invariant.locked (subst IsBook area c.reserve.ensures.formed) named.0 named.1) area (ap (λ (x : ListShown). x.board) c.load_list-id.ensures.list) refl part

pub returns-clause-ends : goal.returns-clause-ends
returns-clause-ends c =
    let l = locked_shown c.self.inside in
    let id = c.load_list-id.result in
    let is = sym c.in-Some.is ∙ (c.start_for.ensures ∙ ap (λ (x : LockedShown). least_start x.area c.args.size) (sym c.self.view_is)) in
    let area = reserved_area l c.reserve.new.self id c.args.section c.args.size c.unwrap-start.result c.reserve.result c.self.invariant.locked c.requires.some_tags c.unwrap-start.ensures c.reserve.ensures.reserved in
    let part = ap (λ (x : ListShown). x.part) c.load_list-id.ensures.list ∙ (ap (with_loaded id c.args.section c.in-Some.start c.args.size) c.self.invariant.part ∙ part_loaded l id c.args.section c.args.size c.in-Some.start is) in
    let view = shows (loaded_as id c.args.section c.args.size l) c.reserve.new.self c.load_list-id.new.list (arc_value c.self.inside.sections) area (ap (λ (x : ListShown). x.board) c.load_list-id.ensures.list) refl part in
    let none = late_none c.args.size c.args.pass.now.next c.in-Some.start l.area (λ full. c.if-count.false (c.count.ensures.value ∙ full)) (omega (arith, c.if-next-from.false, c.from.ensures, c.next.ensures)) is in
    let refused = ap (λ (x : LockedShown). late_refusal c.args.size c.args.pass.now.next x.area) (sym c.self.view_is) ∙ none in
    late_ends _ _ _ refused (ap (λ (n : ℕ). let r : Result ℕ AreaError = Ok n in r) c.load_list-id.ensures.id, view ∙ (λ i. loaded_as (c.load_list-id.ensures.id i) c.args.section c.args.size (c.self.view_is i)))
