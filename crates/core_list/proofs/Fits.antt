-- A sweep goes on to fit its list: what it reads next is a tag of a dead module that is on its list.
use Rattle.std.proofs.Common.{◌≡◌, ℕ, ◌+◌, ◌<◌, ◌≤◌, List, [], ◌∷◌, map, All, refl, sym, subst, arith, true}
use Rattle.std.specs.List.{list_all}
use Rattle.std.proofs.lemmas.Bool.{and_parts, and_from}
use Rattle.std.proofs.lemmas.List.Elements.{All-head, All-tail}
use Rattle.tag_model.specs.declared.shape.Shape.{Shape}
use Rattle.tag_model.specs.declared.state.Kind.TheVariants.{Bytes}
use Rattle.tag_model.specs.declared.state.Record.{Record}
use Rattle.tag_model.specs.declared.state.Sweep.{Sweep}
use Rattle.tag_model.specs.declared.state.Sweep.TheVariants as sweep
use Rattle.tag_model.specs.Laws.{are_dead, rises_from, sweep_fits}
use Rattle.tag_model.specs.StepRules.{dead_ids}
use Rattle.tag_model.specs.WordState.{record_fits}
use Rattle.tag_model.proofs.Lists.{record_fits_from}
use Rattle.tag_model.proofs.Passes.{PassBase, SweepOk, begins_pass_ok}
use Rattle.tag_model.proofs.Records.{dead_are_dead, rises_dead}
use Rattle.tag_model.proofs.ScanRow.{reading_fits, scan_ok}
use Rattle.module_area.specs.declared.entry.Entry.{Entry}
use Rattle.module_area.specs.Area.{Area, IsBook}
use Rattle.core_list.specs.ListState.{ListState, IsList, record_of, left_ids, records_of, scanned, scanned_at, sum_read, swept_list}
use Rattle.core_list.proofs.Kept.{list_scanned}
use Rattle.core_list.proofs.Split.{book_apart, book_rises}

-- the area's tags are tags of the shape, behind the kernel's
pub record IsWithin (k : Shape) (area : Area) : Type 0 where
  pub some_cpu : 0 < k.cpus
  pub above_kernel : k.kernel_tags ≤ area.first
  pub within : area.first + area.tags ≤ k.tags

records_fit : (k : Shape) (first tags : ℕ) (entries : List Entry) → k.kernel_tags ≤ first → first + tags ≤ k.tags → All (λ e. 0 < e.id) entries → All (λ e. 1 ≤ e.length) entries
    → All (λ e. (first ≤ e.start) × (e.start + e.length ≤ first + tags)) entries → list_all (record_fits k) (map record_of entries) ≡ true
records_fit k first tags [] low high ids lengths lie = refl
records_fit k first tags (e ∷ es) low high ids lengths lie =
    let lies = All-head (λ e. (first ≤ e.start) × (e.start + e.length ≤ first + tags)) e es lie in
    and_from _ _
    (record_fits_from k (record_of e) (record { id_above = All-head (λ e. 0 < e.id) e es ids; some = All-head (λ e. 1 ≤ e.length) e es lengths; above_kernel = omega (arith, lies.0); within = omega (arith, lies.1) }))
    (records_fit k first tags es low high (All-tail (λ e. 0 < e.id) e es ids) (All-tail (λ e. 1 ≤ e.length) e es lengths) (All-tail (λ e. (first ≤ e.start) × (e.start + e.length ≤ first + tags)) e es lie))

-- in a state with no part nothing is counted
pass_base : (k : Shape) (area : Area) → IsBook area → IsWithin k area → PassBase k (map record_of area.entries) []
pass_base k area book w = record {
  some_cpu = w.some_cpu;
  fit = records_fit k area.first area.tags area.entries w.above_kernel w.within book.above_zero book.some_tags book.in_area;
  apart = book_apart area book;
  fresh = λ kind t. omega arith;
}

nothing_counted : (k : Shape) (s : Sweep) (records : List Record) → sweep_fits k s records ≡ true → SweepOk k s records []
nothing_counted k sweep.None records fits = record { fits = fits; reading = tt; cleared = λ kind t h. refl }
nothing_counted k (sweep.Done left) records fits = record { fits = fits; reading = tt; cleared = λ kind t h. refl }
nothing_counted k (sweep.Reading left r) records fits = record { fits = fits; reading = omega arith; cleared = λ kind t h. refl }

pub fits_swept : (k : Shape) (l : ListState) → IsList l → IsWithin k l.area → sweep_fits k (swept_list l).sweep (records_of l) ≡ true
fits_swept k l ok w =
    (begins_pass_ok k Bytes (dead_ids (records_of l)) (records_of l) [] (pass_base k l.area ok.book w) (rises_dead 0 (records_of l) (book_rises l.area ok.book)) (dead_are_dead (records_of l)) (λ e t h. refl)).fits

-- a list that is one, and whose sweep fits, in the same area
pub record KeepsFits (k : Shape) (old new : ListState) : Type 0 where
  pub is_list : IsList new
  pub fits : sweep_fits k new.sweep (records_of new) ≡ true
  pub first : new.area.first ≡ old.area.first
  pub tags : new.area.tags ≡ old.area.tags

pub fits_scanned : (k : Shape) (word : ℕ) (l new : ListState) → IsList l → IsWithin k l.area → sweep_fits k l.sweep (records_of l) ≡ true → new ≡ scanned k word l → KeepsFits k l new
fits_scanned k word l new ok w fits is = subst (KeepsFits k l) (sym is) (go l.sweep fits fits (list_scanned k word l ok fits))
  where
    go : (s : Sweep) → sweep_fits k l.sweep (records_of l) ≡ true → sweep_fits k s (records_of l) ≡ true → IsList (scanned_at k word l s) → KeepsFits k l (scanned_at k word l s)
    go sweep.None all fits is_list = record { is_list = is_list; fits = all; first = refl; tags = refl }
    go (sweep.Done left) all fits is_list = record { is_list = is_list; fits = all; first = refl; tags = refl }
    go (sweep.Reading left r) all fits is_list =
        let after = (scan_ok k left r (sum_read r word) (records_of l) [] (pass_base k l.area ok.book w) refl (nothing_counted k (sweep.Reading left r) (records_of l) fits) (omega arith) (omega arith)).fits in
        record { is_list = is_list; fits = after; first = refl; tags = refl }

-- what is left on the list of a sweep that fits is dead
pub left_dead : (k : Shape) (s : Sweep) (records : List Record) → sweep_fits k s records ≡ true → are_dead (left_ids s) records ≡ true
left_dead k sweep.None records fits = refl
left_dead k (sweep.Done left) records fits = (and_parts (rises_from 0 left) (are_dead left records) fits).1
left_dead k (sweep.Reading left r) records fits = (reading_fits k left r records fits).dead
