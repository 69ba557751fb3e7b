use Rattle.std.proofs.Common.{sym, ap, ◌∙◌, subst}
use Rattle.module_list.specs.Listing.{bare}
use Rattle.module_list.proofs.Bare.{bare_entered}
use Rattle.core_list.specs.ListState.{IsList, entered_list, listed}
use Rattle.core_list.proofs.Kept.{list_entered}
use Rattle.core_list.proofs.Listed.{listed_entered}
use Rattle.core_list.proofs.Methods.{fields_are, kept_is, state_of, still_kept}
use Rattle.core_list.proofs.list.CoreList.enter.Goals as goal

pub invariant_of-self : goal.invariant_of-self
invariant_of-self c =
    let s = c.self.inside in
    let l = state_of s.book s.last_id s.list in
    let m = entered_list c.args.id l in
    -- the users stand in the book alone
    let same = kept_is s.book s.last_id s.list c.self.invariant.1 ∙ (sym (bare_entered (listed l) c.args.id) ∙ ap bare (sym (listed_entered l c.args.id))) in (
      subst IsList (sym (fields_are m c.enter.new.self s.last_id s.list c.enter.ensures.after (λ i. s.last_id) same)) (list_entered l c.args.id c.self.invariant.0),
      still_kept m c.enter.new.self s.list c.enter.ensures.after same,
    )
