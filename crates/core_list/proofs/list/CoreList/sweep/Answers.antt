use Rattle.std.proofs.Common.{refl, sym, ap, ◌∙◌, subst}
use Rattle.module_list.specs.Listing as listing
use Rattle.module_list.proofs.Bare.{bare_swept}
use Rattle.core_list.specs.ListState.{IsList, listed, swept_list}
use Rattle.core_list.proofs.Kept.{list_swept}
use Rattle.core_list.proofs.Methods.{fields_are, goes_along, kept_is, state_of, still_kept}
use Rattle.core_list.proofs.list.CoreList.sweep.Goals as goal

pub invariant_of-self : goal.invariant_of-self
invariant_of-self c =
    let s = c.self.inside in
    let l = state_of s.book s.last_id s.list in
    let same = goes_along l (swept_list l) s.list c.sweep.new.self listing.swept (kept_is s.book s.last_id s.list c.self.invariant.1) c.sweep.ensures refl (bare_swept (listed l)) in (
      subst IsList (sym (fields_are (swept_list l) s.book s.last_id c.sweep.new.self (λ i. s.book) (λ i. s.last_id) same)) (list_swept l c.self.invariant.0),
      still_kept (swept_list l) s.book c.sweep.new.self (λ i. s.book) same,
    )

pub returns : goal.returns
returns c =
    let s = c.self.inside in
    let l = state_of s.book s.last_id s.list in
    let same = goes_along l (swept_list l) s.list c.sweep.new.self listing.swept (kept_is s.book s.last_id s.list c.self.invariant.1) c.sweep.ensures refl (bare_swept (listed l)) in
    fields_are (swept_list l) s.book s.last_id c.sweep.new.self (λ i. s.book) (λ i. s.last_id) same ∙ ap swept_list c.self.view_is
