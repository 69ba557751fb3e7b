-- A tag under which a CPU may count is one of the table's tags.
use Rattle.std.proofs.Common.{◌+◌, ◌<◌, ◌^◌, ◌==◌, List, [], ◌∷◌, nat_lt, sym, ap, ◌∙◌, arith, ⊎_elim, leb-true, ltb-true}
use Rattle.page_ext.proofs.Cells.{range_high}
use Rattle.std.specs.Prelude.{◌&&◌, ◌||◌}
use Rattle.std.specs.Bool.{IsTrue}
use Rattle.std.specs.List.{list_all, list_any}
use Rattle.std.proofs.lemmas.Bool.{cases_Bool, cond-true, cond-false, and_parts}
use Rattle.tag_model.specs.declared.shape.Shape.{Shape}
use Rattle.tag_model.specs.declared.state.Run.{Run}
use Rattle.tag_model.specs.declared.state.Tag.{Tag}
use Rattle.tag_model.specs.WordState.{in_range}
use Rattle.tag_rule.specs.Seated.{IsCpuShown, run_in_tags}
use Rattle.tag_rule.specs.Shown.{CpuShown}
use Rattle.round_worker.specs.Shown.{may_count}

low : (k : Shape) (tag : Tag) (runs : List Run) → IsTrue (list_all (run_in_tags k) runs) → IsTrue (list_any (λ (r : Run). (r.id == tag.module) && in_range r.start r.length tag.number) runs) → tag.number < k.tags
low k tag [] all any = let no : ⊥ = cc in absurd no
low k tag (run ∷ runs) all any =
    let parts = and_parts (run_in_tags k run) (list_all (run_in_tags k) runs) all in
    let within = in_range run.start run.length tag.number in
    let here = (run.id == tag.module) && within in
    let rest = list_any (λ (r : Run). (r.id == tag.module) && in_range r.start r.length tag.number) runs in
    ⊎_elim
    (λ yes. omega (arith, range_high run.start run.length tag.number (and_parts (run.id == tag.module) within yes).1, leb-true (run.start + run.length) k.tags parts.0))
    (λ no. low k tag runs parts.1 (ap (λ b. b || rest) (sym no) ∙ any))
    (cases_Bool here)

pub may_count_low : (cpu : CpuShown) (tag : Tag) → IsCpuShown cpu → IsTrue (may_count cpu tag) → tag.number < 2 ^ 32
may_count_low cpu tag holds may =
    let k = cpu.board.shape in
    let kernel = nat_lt tag.number k.kernel_tags in
    let inside = list_any (λ (r : Run). (r.id == tag.module) && in_range r.start r.length tag.number) cpu.part.runs in
    let is_kernel = tag.module == 0 in
    let limit = holds.checked.few_tags in
    ⊎_elim
    (λ yes. omega (arith, ltb-true tag.number k.kernel_tags (sym (cond-true is_kernel kernel inside yes) ∙ may), holds.checked.few_kernel_tags, limit))
    (λ no. omega (arith, low k tag cpu.part.runs holds.holds.runs (sym (cond-false is_kernel kernel inside no) ∙ may), limit))
    (cases_Bool is_kernel)
