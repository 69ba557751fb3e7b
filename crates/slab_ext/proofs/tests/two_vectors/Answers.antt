use Rattle.std.proofs.Common.{ℕ, ◌≡◌, ◌-◌, Vec, Global, vec_len, List, Some, length, slice_get, get_or, sym, ap, ◌∙◌, subst, arith}
use Rattle.std.proofs.lemmas.List.FromFn.{length-map-range_with_len}
use Rattle.std.proofs.lemmas.List.{length-map}
use Rattle.std.proofs.lemmas.Option.{same_Some, slice_get-get_or}
use Rattle.tag_model.specs.declared.shape.Shape.{Shape}
use Rattle.tag_rule.specs.Made.{fresh_vectors}
use Rattle.tag_rule.specs.Shown.{PoolShown}
use Rattle.tag_rule.specs.declared.cells.CellPool.{CellPool}
use Rattle.slab_ext.proofs.Made.{made_whole, pools_of}
use Rattle.slab_ext.proofs.tests.two_vectors.Goals as goal

pub new-requires-clause-whole : goal.new-requires-clause-whole
new-requires-clause-whole c =
    let made = c.in_ok-objects.ensures in
    let objects = c.in_ok-objects.field-0.objects in
    let own = c.unwrap-pools.result in
    let items : Vec CellPool Global → List PoolShown = λ v. v.items in
    let vectors : ℕ → List PoolShown = fresh_vectors made.board in
    let one : made.board.shape.cpus ≡ 1 = ap (λ (k : Shape). k.cpus) made.shape in
    let many : vec_len objects ≡ 1 = omega (arith, one, objects.ok.0, length-map objects.items items, ap (λ (ps : List (List PoolShown)). length ps) made.objects, length-map-range_with_len vectors 0 made.board.shape.cpus) in
    let last : get_or objects.items (vec_len objects - 1) own ≡ own = same_Some _ _ (sym (c.pop.ensures.value own (omega arith)) ∙ c.unwrap-pools.ensures) in
    let here : slice_get objects.items (vec_len objects - 1) ≡ Some own = slice_get-get_or objects.items (vec_len objects - 1) own (omega (arith, many, objects.ok.0)) ∙ ap (λ v. Some v) last in
    let first : slice_get objects.items 0 ≡ Some own = subst (λ n. slice_get objects.items (n - 1) ≡ Some own) many here in
    let of_cpu = pools_of items made.board objects.items 0 own made.objects first in
    λ number pool below there.
    made_whole made.board 0 number pool of_cpu.0 (subst (λ ps. slice_get ps number ≡ Some pool) of_cpu.1 there)
