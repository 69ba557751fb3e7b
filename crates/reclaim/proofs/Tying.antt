-- A book and a list that come to a value, and what holds of it.
use Rattle.std.proofs.Common.{◌≡◌, ℕ, List, [], ◌∷◌, map, Some, IsSomeAnd, refl, sym, ap, ◌∙◌, subst, true, not, ◌==◌}
use Rattle.std.proofs.lemmas.List.Elements.{All-filter}
use Rattle.tag_model.specs.declared.state.ListPart.{ListPart}
use Rattle.tag_model.specs.declared.state.Record.{Record}
use Rattle.tag_model.specs.declared.state.Sweep.TheVariants as sweep
use Rattle.tag_model.specs.Laws.{are_dead}
use Rattle.tag_model.specs.StepRules.{without_id}
use Rattle.tag_model.specs.Sweeping.{ids_left}
use Rattle.tag_rule.specs.Shown.{ListShown}
use Rattle.tag_section.specs.Section.{Section}
use Rattle.module_area.specs.declared.entry.Entry.{Entry}
use Rattle.module_area.specs.declared.entry.State.TheVariants.{Dead}
use Rattle.module_area.specs.Entries.{entry_of, without_entry}
use Rattle.module_area.specs.Area.{Area}
use Rattle.module_area.proofs.BookLemmas.{IsBook-filter}
use Rattle.module_list.specs.Listing as listing
use Rattle.module_list.specs.Listing.{listing_of, list_part, may_release, releasable}
use Rattle.core_list.specs.ListState.{record_of}
use Rattle.core_list.proofs.Methods.{may_release_first, releases_dead, releasing}
use Rattle.core_list.proofs.Split.{records_without}
use Rattle.reclaim.specs.State.{IsLocked, IsNamed, LockedShown, part_of}
use Rattle.reclaim.specs.Steps.{with_listing}
use Rattle.reclaim.specs.Sweeps.{released}
use Rattle.reclaim.specs.Tied.{AreTied, shown}

-- the fields show the value
pub shows : (l : LockedShown) (book : Area) (list : ListShown) (sections : List Section) → ◌≡◌ {A = Area} book l.area → list.board ≡ l.board → sections ≡ l.sections → list.part ≡ part_of l → shown book list sections ≡ l
shows l book list sections area board names part = λ i. record { board = board i; area = area i; sections = names i; sweep = (part i).sweep; stops = (part i).stops; reads = (part i).reads }

pub ties : (l : LockedShown) (book : Area) (list : ListShown) (sections : List Section) → IsLocked l → ◌≡◌ {A = Area} book l.area → list.board ≡ l.board → sections ≡ l.sections → list.part ≡ part_of l → AreTied book list sections
ties l book list sections ok area board names part =
    let same = shows l book list sections area board names part in
    record { part = part ∙ ap part_of (sym same); locked = subst IsLocked (sym same) ok }

-- ---- a release

-- the module that is released is dead
pub dead_first : (l : LockedShown) (p : ListPart) (id : ℕ) → IsLocked l → p ≡ part_of l → are_dead (ids_left p.sweep) p.records ≡ true → releasable l.sweep ≡ Some id → IsSomeAnd (entry_of l.area.entries id) (λ e. e.state ≡ Dead)
dead_first l p id ok part dead first =
    let r = releasing l.sweep id (sym first) in
    releases_dead l.area l.sweep id r.rest ok.book r.done (subst (λ (q : ListPart). are_dead (ids_left q.sweep) q.records ≡ true) part dead)

pub may_release_it : (l : LockedShown) (p : ListPart) (id : ℕ) → p ≡ part_of l → releasable l.sweep ≡ Some id → may_release id p.sweep ≡ true
may_release_it l p id part first = subst (λ (q : ListPart). may_release id q.sweep ≡ true) (sym part) (may_release_first l.sweep id (sym first))

pub part_released : (l : LockedShown) (id : ℕ) → releasable l.sweep ≡ Some id → with_listing (listing.released id) (part_of l) ≡ part_of (released id l)
part_released l id first =
    let r = releasing l.sweep id (sym first) in
    let of : List Record → List ℕ → ListPart = λ rs ids. record { records = rs; sweep = sweep.Done (without_id id ids); stops = l.stops; reads = l.reads; away = [] } in
    ap (λ s. list_part l.reads [] (listing.released_at id (listing_of (part_of l)) s)) r.done
    ∙ (ap (λ rs. of rs (id ∷ r.rest)) (sym (records_without id l.area.entries)) ∙ ap (λ s. of (map record_of (without_entry id l.area.entries)) (ids_left s)) (sym r.done))

pub locked_released : (l : LockedShown) (id : ℕ) → IsLocked l → IsLocked (released id l)
locked_released l id ok = record {
  checked = ok.checked;
  book = IsBook-filter l.area.entries l.area.first l.area.tags ok.book (λ e. not (e.id == id));
  first = ok.first;
  within = ok.within;
  named = All-filter (λ (e : Entry). not (e.id == id)) (IsNamed l.sections) l.area.entries ok.named;
  still = refl;
}
