use Rattle.std.proofs.Common.{sym, ap, ◌∙◌, subst}
use Rattle.module_list.specs.Listing as listing
use Rattle.module_list.proofs.Bare.{bare_read_to}
use Rattle.core_list.specs.ListState.{IsList, listed, read_to}
use Rattle.core_list.proofs.Kept.{list_read_to}
use Rattle.core_list.proofs.Listed.{listed_read_to}
use Rattle.core_list.proofs.Methods.{area_read_to, fields_are, goes_along, kept_is, last_read_to, state_of, still_kept}
use Rattle.core_list.proofs.list.CoreList.read_to.Goals as goal

pub invariant_of-self : goal.invariant_of-self
invariant_of-self c =
    let s = c.self.inside in
    let l = state_of s.book s.last_id s.list in
    let m = read_to c.args.cpu c.args.sum l in
    let same = goes_along l m s.list c.read_to.new.self (listing.read_to c.args.cpu c.args.sum) (kept_is s.book s.last_id s.list c.self.invariant.1) c.read_to.ensures (listed_read_to c.args.cpu c.args.sum l) (bare_read_to c.args.cpu c.args.sum (listed l)) in (
      subst IsList (sym (fields_are m s.book s.last_id c.read_to.new.self (sym (area_read_to c.args.cpu c.args.sum l)) (sym (last_read_to c.args.cpu c.args.sum l)) same)) (list_read_to c.args.cpu c.args.sum l c.self.invariant.0),
      still_kept m s.book c.read_to.new.self (sym (area_read_to c.args.cpu c.args.sum l)) same,
    )

pub returns : goal.returns
returns c =
    let s = c.self.inside in
    let l = state_of s.book s.last_id s.list in
    let m = read_to c.args.cpu c.args.sum l in
    let same = goes_along l m s.list c.read_to.new.self (listing.read_to c.args.cpu c.args.sum) (kept_is s.book s.last_id s.list c.self.invariant.1) c.read_to.ensures (listed_read_to c.args.cpu c.args.sum l) (bare_read_to c.args.cpu c.args.sum (listed l)) in
    fields_are m s.book s.last_id c.read_to.new.self (sym (area_read_to c.args.cpu c.args.sum l)) (sym (last_read_to c.args.cpu c.args.sum l)) same ∙ ap (read_to c.args.cpu c.args.sum) c.self.view_is
