use Rattle.std.proofs.Common.{sym, ap, ◌∙◌, subst}
use Rattle.module_list.specs.Listing.{bare}
use Rattle.module_list.proofs.Bare.{bare_left}
use Rattle.core_list.specs.ListState.{IsList, left_list, listed}
use Rattle.core_list.proofs.Kept.{list_left}
use Rattle.core_list.proofs.Listed.{listed_left}
use Rattle.core_list.proofs.Methods.{fields_are, kept_is, state_of, still_kept}
use Rattle.core_list.proofs.list.CoreList.leave.Goals as goal

pub invariant_of-self : goal.invariant_of-self
invariant_of-self c =
    let s = c.self.inside in
    let l = state_of s.book s.last_id s.list in
    let m = left_list c.args.id l in
    -- the users stand in the book alone
    let same = kept_is s.book s.last_id s.list c.self.invariant.1 ∙ (sym (bare_left (listed l) c.args.id) ∙ ap bare (sym (listed_left l c.args.id))) in (
      subst IsList (sym (fields_are m c.leave.new.self s.last_id s.list c.leave.ensures.after (λ i. s.last_id) same)) (list_left l c.args.id c.self.invariant.0),
      still_kept m c.leave.new.self s.list c.leave.ensures.after same,
    )
