-- A CPU that came into a module may count under the module's first tag.
use Rattle.std.proofs.Common.{◌≡◌, ◌≢◌, ℕ, ◌≤◌, ◌==◌, ◌&&◌, nat_lt, ◌++◌, List, [], ◌∷◌, Some, ◌∙◌, sym, subst, arith, Bool, true, eq-eqb, ne_eqb}
use Rattle.std.specs.List.{list_any}
use Rattle.std.proofs.lemmas.Bool.{and_from, cond-false}
use Rattle.tag_model.specs.declared.shape.Shape.{Shape}
use Rattle.tag_model.specs.declared.state.Run.{Run}
use Rattle.tag_model.specs.declared.state.Tag.{Tag}
use Rattle.tag_model.specs.StepRules.{may_begin}
use Rattle.tag_model.specs.WordState.{in_range}
use Rattle.tag_model.proofs.Found.{any_at}
use Rattle.tag_model.proofs.Lists.{in_range_from}
use Rattle.tag_rule.specs.Runs.{with_runs}
use Rattle.tag_rule.specs.Shown.{CpuShown}
use Rattle.module_area.specs.declared.entry.Entry.{Entry}
use Rattle.module_area.specs.Entries.{entry_of}
use Rattle.module_area.specs.Area.{Area, IsBook}
use Rattle.core_list.specs.ListState.{run_of}
use Rattle.core_list.proofs.Split.{entry_holds}

abbrev pub first_tag : ℕ → Entry → Tag
first_tag id e = record { number = e.start; «module» = id }

pub may_first : (k : Shape) (area : Area) (id : ℕ) (e : Entry) (runs : List Run) → IsBook area → id ≢ 0 → entry_of area.entries id ≡ Some e → e.id ≡ id → may_begin k (first_tag id e) (runs ++ run_of e ∷ []) ≡ true
may_first k area id e runs book some found same =
    let test : Run → Bool = λ r. (r.id == id) && in_range r.start r.length e.start in
    let long : 1 ≤ e.length = entry_holds (λ (x : Entry). 1 ≤ x.length) area.entries id e book.some_tags found in
    cond-false (id == 0) (nat_lt e.start k.kernel_tags) (list_any test (runs ++ run_of e ∷ [])) (ne_eqb id 0 some)
    ∙ any_at test runs (run_of e) [] (and_from _ _ (eq-eqb e.id id same) (in_range_from e.start e.length e.start (omega arith) (omega (arith, long))))

pub entered_may : (area : Area) (id : ℕ) (e : Entry) (was cpu : CpuShown) → IsBook area → id ≢ 0 → entry_of area.entries id ≡ Some e → e.id ≡ id → cpu ≡ with_runs (was.part.runs ++ run_of e ∷ []) was → may_begin cpu.board.shape (first_tag id e) cpu.part.runs ≡ true
entered_may area id e was cpu book some found same is = subst (λ (c : CpuShown). may_begin c.board.shape (first_tag id e) c.part.runs ≡ true) (sym is) (may_first was.board.shape area id e was.part.runs book some found same)
