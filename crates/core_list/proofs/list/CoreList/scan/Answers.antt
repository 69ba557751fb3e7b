use Rattle.std.proofs.Common.{sym, ap, ◌∙◌, subst, IsTrue}
use Rattle.tag_model.specs.Laws.{sweep_fits}
use Rattle.module_list.specs.Listing as listing
use Rattle.module_list.proofs.Bare.{bare_scanned}
use Rattle.core_list.specs.ListState.{ListState, IsList, listed, records_of, scanned}
use Rattle.core_list.proofs.Kept.{list_scanned}
use Rattle.core_list.proofs.Listed.{listed_scanned}
use Rattle.core_list.proofs.Methods.{area_scanned, fields_are, fits_kept, goes_along, kept_is, last_scanned, state_of, still_kept}
use Rattle.core_list.proofs.list.CoreList.scan.Goals as goal

pub scan-requires-clause-fits : goal.scan-requires-clause-fits
scan-requires-clause-fits c =
    let s = c.self.inside in
    fits_kept c.args.shape s.book s.list c.self.invariant.1 (subst (λ (l : ListState). IsTrue (sweep_fits c.args.shape l.sweep (records_of l))) (sym c.self.view_is) c.requires.fits)

pub invariant_of-self : goal.invariant_of-self
invariant_of-self c =
    let s = c.self.inside in
    let l = state_of s.book s.last_id s.list in
    let m = scanned c.args.shape c.args.word l in
    let fits = subst (λ (x : ListState). IsTrue (sweep_fits c.args.shape x.sweep (records_of x))) (sym c.self.view_is) c.requires.fits in
    let same = goes_along l m s.list c.scan.new.self (listing.scanned c.args.shape c.args.word) (kept_is s.book s.last_id s.list c.self.invariant.1) c.scan.ensures.after (listed_scanned c.args.shape c.args.word l) (bare_scanned c.args.shape c.args.word (listed l)) in (
      subst IsList (sym (fields_are m s.book s.last_id c.scan.new.self (sym (area_scanned c.args.shape c.args.word l)) (sym (last_scanned c.args.shape c.args.word l)) same)) (list_scanned c.args.shape c.args.word l c.self.invariant.0 fits),
      still_kept m s.book c.scan.new.self (sym (area_scanned c.args.shape c.args.word l)) same,
    )

pub returns-clause-after : goal.returns-clause-after
returns-clause-after c =
    let s = c.self.inside in
    let l = state_of s.book s.last_id s.list in
    let m = scanned c.args.shape c.args.word l in
    let same = goes_along l m s.list c.scan.new.self (listing.scanned c.args.shape c.args.word) (kept_is s.book s.last_id s.list c.self.invariant.1) c.scan.ensures.after (listed_scanned c.args.shape c.args.word l) (bare_scanned c.args.shape c.args.word (listed l)) in
    fields_are m s.book s.last_id c.scan.new.self (sym (area_scanned c.args.shape c.args.word l)) (sym (last_scanned c.args.shape c.args.word l)) same ∙ ap (scanned c.args.shape c.args.word) c.self.view_is
