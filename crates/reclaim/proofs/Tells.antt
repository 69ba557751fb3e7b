-- What a cell that meets the list tells of the book.
use Rattle.std.proofs.Common.{◌≡◌, ◌≢◌, ℕ, ◌==◌, ◌&&◌, nat_lt, map, IsSomeAnd, Option, Some, Result, Ok, Err, IfOk, IsNone, ◌↔◌, sym, ◌∙◌, subst, arith, true, ne_eqb}
use Rattle.std.specs.List.{list_any}
use Rattle.std.specs.declared.alloc.AllocError.{AllocError}
use Rattle.std.proofs.lemmas.Bool.{cond-false, false≢true}
use Rattle.tag_model.specs.declared.state.Held.{Held}
use Rattle.tag_model.specs.declared.state.Held.TheVariants as held
use Rattle.reclaim.specs.State.{LockedShown}
use Rattle.reclaim.specs.Telling.{IsUntold}
use Rattle.tag_model.specs.declared.shape.Shape.{Shape}
use Rattle.tag_model.specs.declared.state.Record.{Record}
use Rattle.tag_model.specs.declared.state.Tag.{Tag}
use Rattle.tag_model.specs.Telling.{is_covered_by}
use Rattle.tag_model.specs.WordState.{in_range}
use Rattle.tag_model.proofs.Lists.{in_range_means}
use Rattle.module_area.specs.declared.entry.Entry.{Entry}
use Rattle.module_area.specs.Entries.{Covers, entry_of}
use Rattle.module_area.specs.Area.{Area, IsBook}
use Rattle.core_list.specs.ListState.{record_of}
use Rattle.core_list.proofs.Split.{the_entry}

-- a module's tag is in the range of the entry of its module
pub covered_entry : (k : Shape) (area : Area) (tag : Tag) → IsBook area → tag.module ≢ 0 → is_covered_by k (map record_of area.entries) tag ≡ true → IsSomeAnd (entry_of area.entries tag.module) (λ e. Covers e tag.number)
covered_entry k area tag book some covered =
    let there : list_any (λ (r : Record). (r.id == tag.module) && in_range r.start r.length tag.number) (map record_of area.entries) ≡ true =
    sym (cond-false (tag.module == 0) (nat_lt tag.number k.kernel_tags) (list_any (λ (r : Record). (r.id == tag.module) && in_range r.start r.length tag.number) (map record_of area.entries)) (ne_eqb tag.module 0 some)) ∙ covered in
    let t = the_entry area tag.module (λ r. in_range r.start r.length tag.number) book there in
    let within = in_range_means t.entry.start t.entry.length tag.number t.passes in
    subst (λ o. IsSomeAnd o (λ (e : Entry). Covers e tag.number)) (sym t.is) (omega (arith, within), omega (arith, within))

-- a module's tag is told
pub told_some : (l : LockedShown) (was : Held) (tag : Tag) (size : ℕ) (answer : Result (Option Tag) AllocError) → was ≡ held.Counted tag size → tag.module ≢ 0 → IfOk answer (λ told. told ≡ Some tag) → IfOk answer (λ told. IsNone told ↔ IsUntold l was)
told_some l was tag size (Ok told) is some h = (λ none. absurd (false≢true (sym (subst IsNone h none))), λ untold. absurd (some (subst (IsUntold l) is untold).0))
told_some l was tag size (Err error) is some h = tt
