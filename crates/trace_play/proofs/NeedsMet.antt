-- The ops of a checked trace have all that their CPUs need for them.
use Rattle.std.proofs.Common.{◌≡◌, ◌≢◌, ℕ, ◌+◌, ◌-◌, ◌^◌, ◌<◌, ◌≤◌, Bool, true, false, cond, T, eqb, List, [], ◌∷◌, length, map, get_or, Option, Some, None, All, IsSome, refl, sym, ap, ◌∙◌, subst, arith, eqb-true}
use Rattle.std.specs.Prelude.{◌&&◌}
use Rattle.std.specs.List.{filter}
use Rattle.std.proofs.lemmas.Option.{slice_get-get_or}
use Rattle.std.proofs.lemmas.List.Elements.{All-head, All-tail}
use Rattle.std.proofs.lemmas.Nat.{pow_pos}
use Rattle.std.proofs.lemmas.Bool.{and_parts}
use Rattle.tag_model.specs.declared.state.Held.{Held}
use Rattle.tag_section.specs.Section.{Section}
use Rattle.module_area.specs.declared.entry.Entry.{Entry}
use Rattle.slab_cache.specs.Slabs.{Slab, NodeState, slab_at}
use Rattle.slab_cache.specs.Storage as storage
use Rattle.slab_cache.specs.Storage.{Storage, home_of}
use Rattle.trace.specs.declared.traces.OnOp.{OnOp}
use Rattle.trace.specs.declared.traces.TraceOp.{TraceOp}
use Rattle.trace.specs.declared.traces.TraceOp.TheVariants as op
use Rattle.trace.specs.Formed.{IsFormedOp, IsFormedOn}
use Rattle.trace_play.specs.Live.{Content, Nothing, Stored, content_at}
use Rattle.trace_play.specs.Worker.{WorkerState, done}
use Rattle.trace_play.specs.Barrier.{ops_of}
use Rattle.trace_play.specs.Alone.{rises}
use Rattle.trace_play.specs.Fits.{entry_at, OpFits, AllFit}
use Rattle.trace_play.specs.Fitting.{Each, IsInRange, IsPlace, IsOf, IsThere, FreeFits}
use Rattle.trace_play.specs.Owned.{one_if, is_in, has_frame, same_vector, is_object_at, is_taken, is_taken_at, slab_has_frame, slabs_sum, NodeSound}
use Rattle.trace_play.specs.Sound.{content_weight}
use Rattle.trace_play.proofs.KeysFit.{content_is}
use Rattle.trace_play.proofs.LiveSums.{found_weight, sum_found}
use Rattle.trace_play.proofs.NodeLemmas.{is_in_it, own_home, must_be, same_number, taken_within}
use Rattle.trace_play.proofs.Rising.{worker_rises}
use Rattle.trace_play.proofs.WorkerSound.{worker_sum, AllSound, step_sound}

-- ---- storage that is given is there

block_within : (node : NodeState) (all : (Storage → ℕ) → ℕ) → NodeSound node all → (home frame order : ℕ) (holds : Held) → home ≡ node.node.cpu
    → ((weight : Storage → ℕ) → weight (storage.Pages (record { home = home; frame = frame; order = order; holds = holds })) ≤ all weight) → frame + 2 ^ order ≤ length node.node.frames
block_within node all sound home frame order holds own given =
    let c = node.node.cpu in
    let some = pow_pos order in
    let last = frame + 2 ^ order - 1 in
    let has : has_frame c last (storage.Pages (record { home = home; frame = frame; order = order; holds = holds })) ≡ 1 =
    ap (λ h. one_if (eqb h c && is_in last frame order)) own ∙ own_home c (is_in last frame order) ∙ ap one_if (is_in_it last frame order (omega arith) (omega arith)) in
    let g = given (has_frame c last) in
    let f = sound.frames last in
    let below : last < length node.node.frames = taken_within node.node.frames last (must_be (all (has_frame c last) + slabs_sum (slab_has_frame last) 0 node.slabs) (get_or node.node.frames last false) f (omega arith)) in
    omega arith

pub object_place : (node : NodeState) (all : (Storage → ℕ) → ℕ) → NodeSound node all → (frame place : ℕ) (vector : Option ℕ) → 1 ≤ all (is_object_at node.node.cpu frame place vector) → IsPlace frame place vector node
object_place node all sound frame place vector some =
    let o = sound.objects frame place vector in
    let f = found (slab_at frame node) (omega arith) in
    let below = taken_within f.0.places place f.2 in
    record {
      slab = f.0;
      here = f.1;
      taken = slice_get-get_or f.0.places place false below ∙ ap Some f.2;
      has = sym f.3;
    }
  where
    vectors_are : (a b : Option ℕ) → same_vector a b ≡ true → a ≡ b
    vectors_are None None e = refl
    vectors_are None (Some b) e = let no : ⊥ = cc in absurd no
    vectors_are (Some a) None e = let no : ⊥ = cc in absurd no
    vectors_are (Some a) (Some b) e = ap Some (eqb-true a b e)

    one_of : (b : Bool) → 1 ≤ one_if b → b ≡ true
    one_of true h = refl
    one_of false h = absurd (omega arith)

    found : (o : Option Slab) → 1 ≤ is_taken_at vector place o → (slab : Slab) × (o ≡ Some slab) × (is_taken place slab ≡ true) × (vector ≡ slab.vector)
    found None h = absurd (omega arith)
    found (Some slab) h = let b = and_parts (is_taken place slab) (same_vector vector slab.vector) (one_of _ h) in (slab, refl, b.0, vectors_are vector slab.vector b.1)

pub storage_there : (node : NodeState) (all : (Storage → ℕ) → ℕ) → NodeSound node all → (given : Storage) → home_of given ≡ node.node.cpu → ((weight : Storage → ℕ) → weight given ≤ all weight) → IsOf node given
storage_there node all sound (storage.Pages block) own given = block_within node all sound block.home block.frame block.order block.holds own given
storage_there node all sound (storage.Object home frame place vector holds) own given =
    let c = node.node.cpu in
    let w : is_object_at c frame place (Some vector) (storage.Object home frame place vector holds) ≡ 1 =
    ap (λ h. one_if (eqb h c && (eqb frame frame && (eqb place place && eqb vector vector)))) own ∙ (λ i. one_if (same_number c i && (same_number frame i && (same_number place i && same_number vector i)))) in
    let g = given (is_object_at c frame place (Some vector)) in
    object_place node all sound frame place (Some vector) (omega arith)
storage_there node all sound (storage.Uncounted home frame place) own given =
    let c = node.node.cpu in
    let w : is_object_at c frame place None (storage.Uncounted home frame place) ≡ 1 =
    ap (λ h. one_if (eqb h c && (eqb frame frame && (eqb place place && true)))) own ∙ (λ i. one_if (same_number c i && (same_number frame i && (same_number place i && true)))) in
    let g = given (is_object_at c frame place None) in
    object_place node all sound frame place None (omega arith)

module _ (cpu count : ℕ) (nodes : ℕ → NodeState) (els : (Storage → ℕ) → ℕ) (below : cpu < count) (are : (h : ℕ) → h < count → h ≢ cpu → (nodes h).node.cpu ≡ h) where
  freed_there : (key : ℕ) (w : WorkerState) → T (rises w.live) → IsSome (entry_at key w.live) → AllSound cpu count nodes els w.seat.node (worker_sum els w) → IsThere (content_at key w.live) w
  freed_there key w r some s = by (entry_at key w.live) refl some
    where
      there : (content : Content) → entry_at key w.live ≡ Some content → IsThere content w
      there (Nothing order) e = tt
      there (Stored given) e =
          λ own. storage_there w.seat.node (worker_sum els w) s.own given own
          (λ weight. let f = sum_found (content_weight weight) key w.live r in let g = ap (found_weight (content_weight weight)) e in omega arith)

      by : (o : Option Content) → entry_at key w.live ≡ o → IsSome o → IsThere (content_at key w.live) w
      by None e h = let no : ⊥ = cc in absurd no
      by (Some content) e h = subst (λ (c : Content). IsThere c w) (sym (content_is key w.live content e)) (there content e)

  free_fits : (what : TraceOp) (w : WorkerState) → T (rises w.live) → OpFits what w.live → AllSound cpu count nodes els w.seat.node (worker_sum els w) → FreeFits what w
  free_fits (op.Page key order) w r f s = tt
  free_fits (op.Kmalloc key size) w r f s = tt
  free_fits (op.Free key) w r f s = freed_there key w r f s
  free_fits (op.Split key order first) w r f s = tt
  free_fits (op.Swap one two) w r f s = tt
  free_fits (op.Trim key pages) w r f s = tt
  free_fits (op.Hook section index) w r f s = tt
  free_fits op.Unhook w r f s = tt
  free_fits (op.Enter section) w r f s = tt
  free_fits (op.Leave section) w r f s = tt
  free_fits (op.Unload section) w r f s = tt

  pub all_there : (entries : List Entry) (ops : List TraceOp) (w : WorkerState) → T (rises w.live) → AllFit entries ops w → AllSound cpu count nodes els w.seat.node (worker_sum els w) → Each FreeFits entries ops w
  all_there entries [] w r f s = tt
  all_there entries (what ∷ ops) w r f s =
      (free_fits what w r f.0 s, all_there entries ops (done entries what w) (worker_rises entries (what ∷ []) w r) f.1 (step_sound cpu count nodes els below are entries what w r f.0 s))

-- ---- numbers in their ranges

range_of : (sections : List Section) (what : TraceOp) → IsFormedOp sections what → IsInRange what
range_of sections (op.Page key order) is = is.1
range_of sections (op.Kmalloc key size) is = (omega (arith, is.1), is.2)
range_of sections (op.Free key) is = tt
range_of sections (op.Split key order first) is = tt
range_of sections (op.Swap one two) is = is.2
range_of sections (op.Trim key pages) is = omega (arith, is.1)
range_of sections (op.Hook section index) is = tt
range_of sections op.Unhook is = tt
range_of sections (op.Enter section) is = tt
range_of sections (op.Leave section) is = tt
range_of sections (op.Unload section) is = tt

pub all_in_range : (cpus : ℕ) (sections : List Section) (cpu : ℕ) (entries : List Entry) (ops : List OnOp) → All (IsFormedOn cpus sections) ops → (w : WorkerState) → Each (λ what w. IsInRange what) entries (ops_of cpu ops) w
all_in_range cpus sections cpu entries [] are w = tt
all_in_range cpus sections cpu entries (on ∷ ops) are w =
    by (eqb on.cpu cpu)
    (range_of sections on.op (All-head (IsFormedOn cpus sections) on ops are).1)
    (λ w. all_in_range cpus sections cpu entries ops (All-tail (IsFormedOn cpus sections) on ops are) w)
  where
    by : (b : Bool) → IsInRange on.op → ((w : WorkerState) → Each (λ what w. IsInRange what) entries (ops_of cpu ops) w)
        → Each (λ what w. IsInRange what) entries (map (λ (x : OnOp). x.op) (cond b (on ∷ filter (λ (x : OnOp). eqb x.cpu cpu) ops) (filter (λ (x : OnOp). eqb x.cpu cpu) ops))) w
    by true here later = (here, later (done entries on.op w))
    by false here later = later w
