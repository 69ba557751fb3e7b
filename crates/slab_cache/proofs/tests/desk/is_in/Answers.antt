use Rattle.std.proofs.Common.{ℕ, ◌≡◌, ◌<◌, ◌==◌, Bool, true, Some, slice_get, ap, ◌∙◌, subst, arith}
use Rattle.std.specs.Int.{bit_at}
use Rattle.std.proofs.lemmas.Bool.{eq-eqb}
use Rattle.std.proofs.lemmas.Option.{slice_get-get_or}
use Rattle.slab_cache.specs.Bits.{class_at, places_of}
use Rattle.slab_cache.specs.Classes.{objects_in}
use Rattle.slab_cache.specs.Shown.{SlabShown}
use Rattle.slab_cache.proofs.Marks.{length_marks, mark_at}
use Rattle.slab_cache.proofs.tests.desk.is_in.Goals as goal

taken_of : (objects free place : ℕ) → place < objects → bit_at free place ≡ 0 → slice_get (places_of objects free) place ≡ Some true
taken_of objects free place within none =
    let mark : ℕ → Bool = λ i. bit_at free i == 0 in
    slice_get-get_or (places_of objects free) place true (omega (arith, within, length_marks mark objects))
    ∙ ap (λ b. Some b) (mark_at mark objects place true within ∙ eq-eqb (bit_at free place) 0 none)

pub returns-clause-taken : goal.returns-clause-taken
returns-clause-taken c same =
    let within : c.args.place.now.place < objects_in (class_at c.slab.inside.class.index) = subst (λ n. c.args.place.now.place < n) c.objects.ensures.value c.if-place-objects.false in
    subst (λ (s : SlabShown). slice_get s.slab.places c.args.place.now.place ≡ Some true) c.slab.view_is
    (taken_of (objects_in (class_at c.slab.inside.class.index)) c.slab.inside.free c.args.place.now.place within c.if-slab-place-ne0.false)
