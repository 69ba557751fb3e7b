use Rattle.std.proofs.Common.{◌≡◌, ℕ, ◌+◌, ◌∷◌, [], ◌++◌, refl, sym, ap, ◌∙◌}
use Rattle.std.proofs.lemmas.Result.{err_from_is_err_and}
use Rattle.module_area.specs.declared.entry.State.TheVariants.{Loaded}
use Rattle.module_area.specs.Area.{Area}
use Rattle.module_area.proofs.StartLemmas.{least_start_is}
use Rattle.module_list.specs.Listing as listing
use Rattle.module_list.specs.Listing.{bare}
use Rattle.module_list.proofs.Bare.{bare_loaded}
use Rattle.core_list.specs.ListState.{listed, loaded, or_zero}
use Rattle.core_list.proofs.Listed.{listed_loaded}
use Rattle.core_list.proofs.Methods.{fields_are, goes_along, ids_below, kept_is, state_of}
use Rattle.core_list.proofs.Refused.{Says, refused_as, accepted_at}
use Rattle.core_list.proofs.list.CoreList.load.Goals as goal

pub returns-in_err-start-clause-answer : goal.returns-in_err-start-clause-answer
returns-in_err-start-clause-answer c =
    let r = c.reserve.ensures in
    let s = c.self.inside in
    let l = state_of s.book s.last_id s.list in
    let says : Says c.args.section c.args.length s.book c.reserve.result = record { same_name = r.same_name; book_full = r.book_full; no_room = r.no_room; never = r.never } in
    let refused = refused_as c.args.section c.args.length l c.reserve.result c.in_err-start.field-0.0 says c.if-self.false c.in_err-start.was in
    let p = err_from_is_err_and c.from_residual.result c.from_residual.ensures.1 in
    rw (sym c.self.view_is, refused, p.1, p.2) refl

pub load-requires-clause-above : goal.load-requires-clause-above
load-requires-clause-above c = let s = c.self.inside in ids_below s.book s.last_id s.list c.self.invariant.1 c.self.invariant.0.given

pub returns-clause-answer : goal.returns-clause-answer
returns-clause-answer c =
    let r = c.reserve.ensures in
    let s = c.self.inside in
    let l = state_of s.book s.last_id s.list in
    let says : Says c.args.section c.args.length s.book c.reserve.result = record { same_name = r.same_name; book_full = r.book_full; no_room = r.no_room; never = r.never } in
    let accepted = accepted_at c.args.section c.args.length c.in_ok-start.start l c.reserve.result says c.if-self.false c.self.invariant.0.book c.requires c.in_ok-start.ensures.reserved.0 c.in_ok-start.was in
    rw (sym c.self.view_is, accepted) refl

-- the area and what is kept, behind the load
area_is : (c : goal.After-self-1) → ◌≡◌ {A = Area} c.reserve.new.self (loaded c.args.section c.args.length (state_of c.self.inside.book c.self.inside.last_id c.self.inside.list)).area
area_is c =
    let s = c.self.inside in
    let start_is = ap or_zero (least_start_is s.book c.args.length c.in_ok-start.start c.self.invariant.0.book c.requires c.in_ok-start.ensures.reserved.0) in
    let of : ℕ → Area = λ n. record { entries = s.book.entries ++ record { id = s.last_id + 1; section = c.args.section; start = n; length = c.args.length; state = Loaded; users = 0 } ∷ []; first = s.book.first; tags = s.book.tags } in
    c.in_ok-start.ensures.reserved.1 ∙ ap of (sym start_is)

kept : (c : goal.After-self-1) → c.load.new.self ≡ bare (listed (loaded c.args.section c.args.length (state_of c.self.inside.book c.self.inside.last_id c.self.inside.list)))
kept c =
    let s = c.self.inside in
    let l = state_of s.book s.last_id s.list in
    let start_is = ap or_zero (least_start_is s.book c.args.length c.in_ok-start.start c.self.invariant.0.book c.requires c.in_ok-start.ensures.reserved.0) in
    goes_along l (loaded c.args.section c.args.length l) s.list c.load.new.self (listing.loaded (s.last_id + 1) c.args.section c.in_ok-start.start c.args.length) (kept_is s.book s.last_id s.list c.self.invariant.1) c.load.ensures
    (listed_loaded l c.args.section c.args.length ∙ ap (λ n. listing.loaded (s.last_id + 1) c.args.section n c.args.length (listed l)) start_is) (bare_loaded (listed l) (s.last_id + 1) c.args.section c.in_ok-start.start c.args.length)

pub returns-clause-ok : goal.returns-clause-ok
returns-clause-ok c =
    let s = c.self.inside in
    let l = state_of s.book s.last_id s.list in
    fields_are (loaded c.args.section c.args.length l) c.reserve.new.self (s.last_id + 1) c.load.new.self (area_is c) (λ i. s.last_id + 1) (kept c) ∙ ap (loaded c.args.section c.args.length) c.self.view_is
