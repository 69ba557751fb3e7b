-- A worker's machine stays sound, op by op.
use Rattle.std.proofs.Common.{◌≡◌, ◌≢◌, ℕ, zero, suc, ◌+◌, ◌*◌, ◌^◌, ◌<◌, ◌≤◌, Bool, true, false, cond, not, T, eqb, leb, ltb, List, [], ◌∷◌, Option, Some, None, IsSome, refl, sym, ap, ◌∙◌, subst, subst₂, arith, eqb-true, ne_eqb, add-zero, lt-ltb, ltb-true, ltb-false, leb-true, leb-false}
use Rattle.std.specs.Prelude.{◌&&◌, sum_by, if◌then◌else◌}
use Rattle.std.proofs.lemmas.List.Sums.{sum_by_push}
use Rattle.std.proofs.Math.Nat.{add_assoc, add-mul, one-mul, zero-mul, mul-le-mul_right}
use Rattle.tag_model.specs.declared.state.Held.{Held}
use Rattle.tag_model.specs.Moves.{Move}
use Rattle.tag_model.specs.RefMoves.{close_moves, trimmed}
use Rattle.module_area.specs.declared.entry.Entry.{Entry}
use Rattle.page_ext.specs.Blocks.{Block}
use Rattle.split_swap.specs.Parts.{parts_in, part_at}
use Rattle.slab_cache.specs.Slabs.{NodeState}
use Rattle.slab_cache.specs.Storage as storage
use Rattle.slab_cache.specs.Storage.{Storage, Pages, Object, Uncounted, home_of}
use Rattle.slab_cache.specs.Giving.{Given, given_block, given_object}
use Rattle.slab_cache.specs.Homing.{come_home}
use Rattle.trace.specs.declared.traces.TraceOp.{TraceOp}
use Rattle.trace.specs.declared.traces.TraceOp.TheVariants as op
use Rattle.trace_play.specs.Live.{Content, Nothing, Stored, Live, put, without, held_of, with_held, is_nothing, part_in, split_live, swap_live, trim_live}
use Rattle.trace_play.specs.Worker.{WorkerState, cpu_of, current_tag, with_moves, with_node, with_live, one_given, allocated, given_back, with_taken, closed, sent_home, freed, done, all_done}
use Rattle.trace_play.specs.Alone.{rises}
use Rattle.trace_play.specs.Fits.{entry_at, IsUnbound, IsBlockOf, SplitFits, SwapFits, TrimFits, OpFits, AllFit}
use Rattle.trace_play.specs.Owned.{one_if, is_in, has_frame, same_vector, is_object_at, has_cell_of, slab_has_frame, slabs_sum, NodeSound}
use Rattle.trace_play.specs.Sound.{content_weight, live_sum, is_away}
use Rattle.trace_play.proofs.Entries.{find_put, sorted_put}
use Rattle.trace_play.proofs.KeysFit.{in_parts, content_is}
use Rattle.trace_play.proofs.Rising.{worker_rises}
use Rattle.trace_play.proofs.LiveSums.{found_weight, sum_without, sum_found}
use Rattle.trace_play.proofs.LiveChanges.{parts_sum, put_unbound, put_alike, split_sum}
use Rattle.trace_play.proofs.NodeLemmas.{gives, gives_block, homes, IsGiven, MaybeGiven, IsHome}

-- ---- weights that a node reads

pub record SameFor (home : ℕ) (all all' : (Storage → ℕ) → ℕ) : Type 0 where
  pub frames : (f : ℕ) → all' (has_frame home f) ≡ all (has_frame home f)
  pub objects : (f p : ℕ) (v : Option ℕ) → all' (is_object_at home f p v) ≡ all (is_object_at home f p v)
  pub cells : (v p : ℕ) → all' (has_cell_of home v p) ≡ all (has_cell_of home v p)

pub same_node : (node : NodeState) (all all' : (Storage → ℕ) → ℕ) → SameFor node.node.cpu all all' → NodeSound node all → NodeSound node all'
same_node node all all' same sound = record {
  long = sound.long;
  frames = λ f. ap (λ n. n + slabs_sum (slab_has_frame f) 0 node.slabs) (same.frames f) ∙ sound.frames f;
  objects = λ f p v. same.objects f p v ∙ sound.objects f p v;
  vectors = sound.vectors;
  cells = λ v p. same.cells v p ∙ sound.cells v p;
  few = sound.few;
}

-- storage of another home weighs nothing
module _ (home : ℕ) where
  other_frame : (f : ℕ) (given : Storage) → home_of given ≢ home → has_frame home f given ≡ 0
  other_frame f (Pages block) differ = ap (λ b. one_if (b && is_in f block.frame block.order)) (ne_eqb block.home home differ)
  other_frame f (Object h g p v holds) differ = refl
  other_frame f (Uncounted h g p) differ = refl

  other_object : (f p : ℕ) (v : Option ℕ) (given : Storage) → home_of given ≢ home → is_object_at home f p v given ≡ 0
  other_object f p v (Pages block) differ = refl
  other_object f p v (Object h g q u holds) differ = ap (λ b. one_if (b && (eqb g f && (eqb q p && same_vector v (Some u))))) (ne_eqb h home differ)
  other_object f p v (Uncounted h g q) differ = ap (λ b. one_if (b && (eqb g f && (eqb q p && same_vector v None)))) (ne_eqb h home differ)

  other_cell : (v p : ℕ) (given : Storage) → home_of given ≢ home → has_cell_of home v p given ≡ 0
  other_cell v p (Pages block) differ = refl
  other_cell v p (Object h g q u holds) differ = ap (λ b. one_if (b && (eqb q p && eqb v u))) (ne_eqb h home differ)
  other_cell v p (Uncounted h g q) differ = refl

  pub same_without : (all all' : (Storage → ℕ) → ℕ) (given : Storage) → home_of given ≢ home → ((weight : Storage → ℕ) → all weight ≡ weight given + all' weight) → SameFor home all all'
  same_without all all' given differ less = record {
    frames = λ f. let l = less (has_frame home f) in let w = other_frame f given differ in omega arith;
    objects = λ f p v. let l = less (is_object_at home f p v) in let w = other_object f p v given differ in omega arith;
    cells = λ v p. let l = less (has_cell_of home v p) in let w = other_cell v p given differ in omega arith;
  }

  pub same_with : (all all' : (Storage → ℕ) → ℕ) (given : Storage) → home_of given ≢ home → ((weight : Storage → ℕ) → all' weight ≡ all weight + weight given) → SameFor home all all'
  same_with all all' given differ more = record {
    frames = λ f. let l = more (has_frame home f) in let w = other_frame f given differ in omega arith;
    objects = λ f p v. let l = more (is_object_at home f p v) in let w = other_object f p v given differ in omega arith;
    cells = λ v p. let l = more (has_cell_of home v p) in let w = other_cell v p given differ in omega arith;
  }

-- ---- weights of blocks and of their parts

-- a block weighs the same whatever its cell holds, and as much as its parts
pub record Plain (weight : Storage → ℕ) : Type 0 where
  pub closed_one : (given : Storage) → weight (closed given) ≡ weight given
  pub held : (home frame order : ℕ) (a b : Held) → weight (Pages (record { home = home; frame = frame; order = order; holds = a })) ≡ weight (Pages (record { home = home; frame = frame; order = order; holds = b }))
  pub parts : (block : Block) (order : ℕ) → order < block.order → parts_sum (λ place. weight (Pages (part_at order place block))) 0 (parts_in order block.order) ≡ weight (Pages block)

no_parts : (part : ℕ → ℕ) → ((place : ℕ) → part place ≡ 0) → (count from : ℕ) → parts_sum part from count ≡ 0
no_parts part none zero from = refl
no_parts part none (suc count) from = let h = none from in let t = no_parts part none count (from + 1) in omega arith

-- the frames from one on, in two pieces
two_pieces : (f a b c : ℕ) → a ≤ b → b ≤ c → one_if (leb a f && ltb f b) + one_if (leb b f && ltb f c) ≡ one_if (leb a f && ltb f c)
two_pieces f a b c low high =
    by (leb a f) (ltb f b) (leb b f) (ltb f c) refl refl refl refl
  where
    by : (p q s t : Bool) → leb a f ≡ p → ltb f b ≡ q → leb b f ≡ s → ltb f c ≡ t → one_if (p && q) + one_if (s && t) ≡ one_if (p && t)
    by true true true t e g h i = let x = ltb-true f b g in let y = leb-true b f h in absurd (omega arith)
    by true true false true e g h i = refl
    by true true false false e g h i = let x = ltb-true f b g in let y = ltb-false f c i in absurd (omega arith)
    by true false true t e g h i = omega arith
    by true false false t e g h i = let x = ltb-false f b g in let y = leb-false b f h in absurd (omega arith)
    by false q true true e g h i = let x = leb-false a f e in let y = leb-true b f h in absurd (omega arith)
    by false q true false e g h i = refl
    by false q false t e g h i = refl

frames_in_parts : (f base size count from : ℕ) → parts_sum (λ place. one_if (leb (base + place * size) f && ltb f (base + place * size + size))) from count ≡ one_if (leb (base + from * size) f && ltb f (base + (from + count) * size))
frames_in_parts f base size zero from = sym (ap (λ n. one_if (leb (base + from * size) f && ltb f (base + n * size))) (add-zero from) ∙ nowhere (base + from * size))
  where
    nowhere : (a : ℕ) → one_if (leb a f && ltb f a) ≡ 0
    nowhere a = by (leb a f) (ltb f a) refl refl
      where
        by : (p q : Bool) → leb a f ≡ p → ltb f a ≡ q → one_if (p && q) ≡ 0
        by true true e g = let x = leb-true a f e in let y = ltb-true f a g in absurd (omega arith)
        by true false e g = refl
        by false q e g = refl
frames_in_parts f base size (suc count) from =
    let here = base + from * size in
    let next : base + (from + 1) * size ≡ here + size = ap (λ n. base + n) (add-mul from 1 size ∙ ap (λ n. from * size + n) (one-mul size)) ∙ sym (add_assoc base (from * size) size) in
    let end : (from + 1) + count ≡ from + suc count = omega arith in
    let later : parts_sum (λ place. one_if (leb (base + place * size) f && ltb f (base + place * size + size))) (from + 1) count ≡ one_if (leb (here + size) f && ltb f (base + (from + suc count) * size)) =
    frames_in_parts f base size count (from + 1) ∙ subst₂ (λ a n. one_if (leb (base + (from + 1) * size) f && ltb f (base + ((from + 1) + count) * size)) ≡ one_if (leb a f && ltb f (base + n * size))) next end refl in
    let far : here + size ≤ base + (from + suc count) * size =
    subst (λ n. n ≤ base + (from + suc count) * size) next (let m : (from + 1) * size ≤ (from + suc count) * size = mul-le-mul_right size (let l : from + 1 ≤ from + suc count = omega arith in l) in omega arith) in
    ap (λ n. one_if (leb here f && ltb f (here + size)) + n) later ∙ two_pieces f here (here + size) (base + (from + suc count) * size) (omega arith) far

frame_closed : (home f : ℕ) (given : Storage) → has_frame home f (closed given) ≡ has_frame home f given
frame_closed home f (Pages block) = refl
frame_closed home f (Object h frame place vector holds) = refl
frame_closed home f (Uncounted h frame place) = refl

object_closed : (home f p : ℕ) (v : Option ℕ) (given : Storage) → is_object_at home f p v (closed given) ≡ is_object_at home f p v given
object_closed home f p v (Pages block) = refl
object_closed home f p v (Object h frame place vector holds) = refl
object_closed home f p v (Uncounted h frame place) = refl

cell_closed : (home v p : ℕ) (given : Storage) → has_cell_of home v p (closed given) ≡ has_cell_of home v p given
cell_closed home v p (Pages block) = refl
cell_closed home v p (Object h frame place vector holds) = refl
cell_closed home v p (Uncounted h frame place) = refl

pub plain_frame : (home f : ℕ) → Plain (has_frame home f)
plain_frame home f = record {
  closed_one = λ given. frame_closed home f given;
  held = λ h g order a b. refl;
  parts = λ block order below. by (eqb block.home home) block order below;
}
  where
    by : (b : Bool) (block : Block) (order : ℕ) → order < block.order → parts_sum (λ place. one_if (b && is_in f (block.frame + place * 2 ^ order) order)) 0 (parts_in order block.order) ≡ one_if (b && is_in f block.frame block.order)
    by false block order below = no_parts (λ place. 0) (λ place. refl) (parts_in order block.order) 0
    by true block order below =
        frames_in_parts f block.frame (2 ^ order) (parts_in order block.order) 0
        ∙ (λ i. one_if (leb (zero_more block.frame (2 ^ order) i) f && ltb f (block.frame + all_of block.order order below i)))
      where
        zero_more : (a s : ℕ) → a + 0 * s ≡ a
        zero_more a s = ap (λ n. a + n) (zero-mul s) ∙ add-zero a

        all_of : (whole order : ℕ) → order < whole → (0 + parts_in order whole) * 2 ^ order ≡ 2 ^ whole
        all_of whole order below = ap (λ n. n * 2 ^ order) (let z : 0 + parts_in order whole ≡ parts_in order whole = omega arith in z) ∙ sym (in_parts whole order below)

pub plain_object : (home f p : ℕ) (v : Option ℕ) → Plain (is_object_at home f p v)
plain_object home f p v = record { closed_one = λ given. object_closed home f p v given; held = λ h g order a b. refl; parts = λ block order below. no_parts (λ place. 0) (λ place. refl) (parts_in order block.order) 0 }

pub plain_cell : (home v p : ℕ) → Plain (has_cell_of home v p)
plain_cell home v p = record { closed_one = λ given. cell_closed home v p given; held = λ h g order a b. refl; parts = λ block order below. no_parts (λ place. 0) (λ place. refl) (parts_in order block.order) 0 }

-- ---- a worker and the other nodes

-- the sum of a weight over the worker's storage and that which others send home
abbrev pub worker_sum : ((Storage → ℕ) → ℕ) → WorkerState → (Storage → ℕ) → ℕ
worker_sum elsewhere w weight = live_sum weight w.live + (sum_by weight w.seat.returning + elsewhere weight)

module _ (cpu count : ℕ) (nodes : ℕ → NodeState) (elsewhere : (Storage → ℕ) → ℕ) where
  pub record AllSound (node : NodeState) (all : (Storage → ℕ) → ℕ) : Type 0 where
    pub cpu_is : node.node.cpu ≡ cpu
    pub own : NodeSound node all
    pub others : (h : ℕ) → h < count → h ≢ cpu → NodeSound (nodes h) all
    pub homes : all (is_away count) ≡ 0

  module _ (below : cpu < count) (are : (h : ℕ) → h < count → h ≢ cpu → (nodes h).node.cpu ≡ h) where
    pub same_sums : (node : NodeState) (all all' : (Storage → ℕ) → ℕ) → ((weight : Storage → ℕ) → all' weight ≡ all weight) → AllSound node all → AllSound node all'
    same_sums node all all' same s = record {
      cpu_is = s.cpu_is;
      own = same_node node all all' (record { frames = λ f. same _; objects = λ f p v. same _; cells = λ v p. same _ }) s.own;
      others = λ h low differ. same_node (nodes h) all all' (record { frames = λ f. same _; objects = λ f p v. same _; cells = λ v p. same _ }) (s.others h low differ);
      homes = same (is_away count) ∙ s.homes;
    }

    same_weights : (node : NodeState) (all all' : (Storage → ℕ) → ℕ) → ((h : ℕ) → SameFor h all all') → (all (is_away count) ≡ 0 → all' (is_away count) ≡ 0) → AllSound node all → AllSound node all'
    same_weights node all all' same away s = record {
      cpu_is = s.cpu_is;
      own = same_node node all all' (same node.node.cpu) s.own;
      others = λ h low differ. same_node (nodes h) all all' (same (nodes h).node.cpu) (s.others h low differ);
      homes = away s.homes;
    }

    at_home : (given : Storage) → home_of given ≡ cpu → is_away count given ≡ 0
    at_home given is = ap (λ b. one_if (not b)) (lt-ltb (home_of given) count (omega arith))

    was_given : (node : NodeState) (all all' : (Storage → ℕ) → ℕ) (given : Given) → AllSound node all → IsGiven node all given → ((weight : Storage → ℕ) → all' weight ≡ all weight + weight given.storage) → AllSound given.node all'
    unfolding IsGiven
    was_given node all all' given s is more =
        let home : home_of given.storage ≡ cpu = is.1 ∙ s.cpu_is in
        record {
          cpu_is = is.2 ∙ s.cpu_is;
          own = is.0 all' more;
          others = λ h low differ. same_node (nodes h) all all' (same_with (nodes h).node.cpu all all' given.storage (λ e. differ (sym (are h low differ) ∙ sym e ∙ home)) more) (s.others h low differ);
          homes = let m = more (is_away count) in let z = at_home given.storage home in let was = s.homes in omega arith;
        }

    came_home : (node : NodeState) (all all' : (Storage → ℕ) → ℕ) (given : Storage) → AllSound node all → home_of given ≡ cpu → ((weight : Storage → ℕ) → all weight ≡ weight given + all' weight) → AllSound (come_home given node).node all'
    unfolding IsHome
    came_home node all all' given s own less =
        let h = homes node all all' s.own given (own ∙ sym s.cpu_is) less in
        record {
          cpu_is = h.1 ∙ s.cpu_is;
          own = h.0;
          others = λ k low differ. same_node (nodes k) all all' (same_without (nodes k).node.cpu all all' given (λ e. differ (sym (are k low differ) ∙ sym e ∙ own)) less) (s.others k low differ);
          homes = let l = less (is_away count) in let was = s.homes in omega arith;
        }

    away_closed : (given : Storage) → is_away count (closed given) ≡ is_away count given
    away_closed (Pages block) = refl
    away_closed (Object home frame place vector holds) = refl
    away_closed (Uncounted home frame place) = refl

    -- ---- the ops

    plain_same : (all all' : (Storage → ℕ) → ℕ) → ((weight : Storage → ℕ) → Plain weight → all' weight ≡ all weight) → (h : ℕ) → SameFor h all all'
    plain_same all all' same h = record { frames = λ f. same (has_frame h f) (plain_frame h f); objects = λ f p v. same (is_object_at h f p v) (plain_object h f p v); cells = λ v p. same (has_cell_of h v p) (plain_cell h v p) }

    abbrev SoundWorker : WorkerState → Type 0
    SoundWorker w = AllSound w.seat.node (worker_sum elsewhere w)

    one_given_sound : (given : Storage) (w : WorkerState) → SoundWorker w → SoundWorker (one_given given w)
    one_given_sound (storage.Pages block) w s = s
    one_given_sound (storage.Object home frame place vector holds) w s = s
    one_given_sound (storage.Uncounted home frame place) w s = s

    allocated_sound : (key order : ℕ) (given : Option Given) (w : WorkerState) → T (rises w.live) → IsUnbound key w.live → SoundWorker w → MaybeGiven w.seat.node (worker_sum elsewhere w) given → SoundWorker (allocated key order given w)
    allocated_sound key order None w r none s is =
        same_sums w.seat.node (worker_sum elsewhere w) (worker_sum elsewhere (allocated key order None w)) (λ weight. ap (λ n. n + (sum_by weight w.seat.returning + elsewhere weight)) (put_unbound (content_weight weight) key (Nothing order) w.live r none ∙ add-zero _)) s
    allocated_sound key order (Some given) w r none s is =
        let now = with_moves given.moves (with_node given.node (with_live (put key (Stored given.storage) w.live) w)) in
        one_given_sound given.storage now
        (was_given w.seat.node (worker_sum elsewhere w) (worker_sum elsewhere now) given s is
        (λ weight. let p = put_unbound (content_weight weight) key (Stored given.storage) w.live r none in omega arith))

    back_sound : (content : Content) (w : WorkerState) (live : Live) (moves : List Move) → SoundWorker w → ((weight : Storage → ℕ) → live_sum weight live + content_weight weight content ≡ live_sum weight w.live) → SoundWorker (given_back content (with_moves moves (with_live live w)))
    back_sound (Nothing order) w live moves s less =
        same_sums w.seat.node (worker_sum elsewhere w) (worker_sum elsewhere (with_moves moves (with_live live w))) (λ weight. let l = less weight in omega arith) s
    back_sound (Stored given) w live moves s less = by (eqb (home_of given) w.seat.node.node.cpu) refl
      where
        by : (b : Bool) → eqb (home_of given) w.seat.node.node.cpu ≡ b → SoundWorker (cond {A = WorkerState} b (with_taken (come_home given w.seat.node) (with_moves moves (with_live live w))) (sent_home given (with_moves moves (with_live live w))))
        by true e =
            came_home w.seat.node (worker_sum elsewhere w) (worker_sum elsewhere (with_taken (come_home given w.seat.node) (with_moves moves (with_live live w)))) given s (eqb-true _ _ e ∙ s.cpu_is)
            (λ weight. let l = less weight in omega arith)
        by false e =
            let now = sent_home given (with_moves moves (with_live live w)) in
            let more : (weight : Storage → ℕ) → weight (closed given) ≡ weight given → worker_sum elsewhere now weight ≡ worker_sum elsewhere w weight =
            λ weight same. let l = less weight in let p = sum_by_push weight w.seat.returning (closed given) in omega arith in
            same_weights w.seat.node (worker_sum elsewhere w) (worker_sum elsewhere now)
            (plain_same (worker_sum elsewhere w) (worker_sum elsewhere now) (λ weight plain. more weight (plain.closed_one given)))
            (λ none. more (is_away count) (away_closed given) ∙ none) s

    freed_sound : (key : ℕ) (w : WorkerState) → T (rises w.live) → IsSome (entry_at key w.live) → SoundWorker w → SoundWorker (freed key w)
    freed_sound key w r some s = by (entry_at key w.live) refl some
      where
        by : (o : Option Content) → entry_at key w.live ≡ o → IsSome o → SoundWorker (freed key w)
        by None e h = let no : ⊥ = cc in absurd no
        by (Some content) e h =
            subst (λ (c : Content). SoundWorker (given_back c (with_moves (close_moves (cpu_of w) (held_of c)) (with_live (without key w.live) w)))) (sym (content_is key w.live content e))
            (back_sound content w (without key w.live) (close_moves (cpu_of w) (held_of content)) s
            (λ weight. let l = sum_without (content_weight weight) key w.live r in let f = ap (found_weight (content_weight weight)) e in omega arith))

    held_alike : (weight : Storage → ℕ) → Plain weight → (change : Held → Held) (content : Content) → content_weight weight (with_held change content) ≡ content_weight weight content
    held_alike weight plain change (Nothing order) = refl
    held_alike weight plain change (Stored (Pages block)) = plain.held block.home block.frame block.order (change block.holds) block.holds
    held_alike weight plain change (Stored (Object home frame place vector holds)) = refl
    held_alike weight plain change (Stored (Uncounted home frame place)) = refl

    away_held : (change : Held → Held) (content : Content) → content_weight (is_away count) (with_held change content) ≡ content_weight (is_away count) content
    away_held change (Nothing order) = refl
    away_held change (Stored (Pages block)) = refl
    away_held change (Stored (Object home frame place vector holds)) = refl
    away_held change (Stored (Uncounted home frame place)) = refl

    -- a live list that weighs as much, and one of which nothing is away
    relived : (w : WorkerState) (live : Live) → ((weight : Storage → ℕ) → Plain weight → live_sum weight live ≡ live_sum weight w.live) → (live_sum (is_away count) w.live ≡ 0 → live_sum (is_away count) live ≡ 0) → SoundWorker w → SoundWorker (with_live live w)
    relived w live same away s =
        same_weights w.seat.node (worker_sum elsewhere w) (worker_sum elsewhere (with_live live w))
        (plain_same (worker_sum elsewhere w) (worker_sum elsewhere (with_live live w)) (λ weight plain. ap (λ n. n + (sum_by weight w.seat.returning + elsewhere weight)) (same weight plain)))
        (λ z. let a = away (omega arith) in omega arith) s

    -- ---- a split

    parts_weigh : (weight : Storage → ℕ) → Plain weight → (order whole bytes : ℕ) (content : Content) → order < whole → IsBlockOf whole bytes content → parts_sum (λ place. content_weight weight (part_in order place content)) 0 (parts_in order whole) ≡ content_weight weight content
    parts_weigh weight plain order whole bytes (Nothing of) below is = no_parts (λ place. 0) (λ place. refl) (parts_in order whole) 0
    parts_weigh weight plain order whole bytes (Stored (Pages block)) below is =
        subst (λ n. parts_sum (λ place. weight (Pages (part_at order place block))) 0 (parts_in order n) ≡ weight (Pages block)) is.0 (plain.parts block order (omega (arith, is.0)))
    parts_weigh weight plain order whole bytes (Stored (Object home frame place vector holds)) below is = absurd is
    parts_weigh weight plain order whole bytes (Stored (Uncounted home frame place)) below is = absurd is

    parts_away : (order whole bytes : ℕ) (content : Content) → IsBlockOf whole bytes content → content_weight (is_away count) content ≡ 0 → parts_sum (λ place. content_weight (is_away count) (part_in order place content)) 0 (parts_in order whole) ≡ 0
    parts_away order whole bytes (Nothing of) is none = no_parts (λ place. 0) (λ place. refl) (parts_in order whole) 0
    parts_away order whole bytes (Stored (Pages block)) is none = no_parts (λ place. is_away count (Pages (part_at order place block))) (λ place. none) (parts_in order whole) 0
    parts_away order whole bytes (Stored (Object home frame place vector holds)) is none = absurd is
    parts_away order whole bytes (Stored (Uncounted home frame place)) is none = absurd is

    split_sound : (key order first : ℕ) (w : WorkerState) → T (rises w.live) → SplitFits key order first w.live → SoundWorker w → SoundWorker (with_live (split_live key order first w.live) w)
    split_sound key order first w r f s =
        relived w (split_live key order first w.live)
        (λ weight plain.
        let t = split_sum (content_weight weight) key order first w r f in
        let p = parts_weigh weight plain order f.whole _ f.block.content f.above f.block.is in
        omega arith)
        (λ none.
        let t = split_sum (content_weight (is_away count)) key order first w r f in
        let found = sum_found (content_weight (is_away count)) key w.live r in
        let is = ap (found_weight (content_weight (is_away count))) f.block.found in
        let z : content_weight (is_away count) f.block.content ≡ 0 = omega arith in
        let p = parts_away order f.whole _ f.block.content f.block.is z in
        omega arith)
        s

    -- ---- a swap and a trim

    swap_sum : (weight : Storage → ℕ) → ((change : Held → Held) (content : Content) → content_weight weight (with_held change content) ≡ content_weight weight content)
        → (one two : ℕ) (x y : Content) (live : Live) → T (rises live) → entry_at one live ≡ Some x → entry_at two live ≡ Some y
        → live_sum weight (put one (with_held (λ _. held_of y) x) (put two (with_held (λ _. held_of x) y) live)) ≡ live_sum weight live
    swap_sum weight alike one two x y live r found also =
        let s = with_held (λ _. held_of y) x in
        let t = with_held (λ _. held_of x) y in
        let first = put_alike (content_weight weight) two y t live r also (alike (λ _. held_of x) y) in
        let there = find_put one two t live in
        let up = sorted_put two t live r in
        by (eqb one two) refl there first up
      where
        by : (b : Bool) → eqb one two ≡ b → entry_at one (put two (with_held (λ _. held_of x) y) live) ≡ cond b (Some (with_held (λ _. held_of x) y)) (entry_at one live) → live_sum weight (put two (with_held (λ _. held_of x) y) live) ≡ live_sum weight live → T (rises (put two (with_held (λ _. held_of x) y) live))
            → live_sum weight (put one (with_held (λ _. held_of y) x) (put two (with_held (λ _. held_of x) y) live)) ≡ live_sum weight live
        by true e there first up =
            let same : Some x ≡ Some y = sym found ∙ ap (λ k. entry_at k live) (eqb-true one two e) ∙ also in
            let both : x ≡ y = cc in
            put_alike (content_weight weight) one (with_held (λ _. held_of x) y) (with_held (λ _. held_of y) x) (put two (with_held (λ _. held_of x) y) live) up there
            (alike (λ _. held_of y) x ∙ ap (content_weight weight) both ∙ sym (alike (λ _. held_of x) y))
            ∙ first
        by false e there first up =
            put_alike (content_weight weight) one x (with_held (λ _. held_of y) x) (put two (with_held (λ _. held_of x) y) live) up (there ∙ found) (alike (λ _. held_of y) x) ∙ first

    swap_sound : (one two : ℕ) (w : WorkerState) → T (rises w.live) → SwapFits one two w.live → SoundWorker w → SoundWorker (with_live (swap_live one two w.live) w)
    swap_sound one two w r f s =
        let x = f.first.content in
        let y = f.second.content in
        let there = content_is one w.live x f.first.found in
        let also = content_is two w.live y f.second.found in
        let sums = λ (weight : Storage → ℕ) (alike : (change : Held → Held) (content : Content) → content_weight weight (with_held change content) ≡ content_weight weight content). swap_sum weight alike one two x y w.live r f.first.found f.second.found in
        subst₂ (λ (c d : Content). SoundWorker (with_live (if is_nothing c then w.live else (if is_nothing d then w.live else put one (with_held (λ _. held_of d) c) (put two (with_held (λ _. held_of c) d) w.live))) w)) (sym there) (sym also)
        (by (is_nothing x) (is_nothing y) _
        (relived w (put one (with_held (λ _. held_of y) x) (put two (with_held (λ _. held_of x) y) w.live))
        (λ weight plain. sums weight (held_alike weight plain))
        (λ none. sums (is_away count) away_held ∙ none) s))
      where
        by : (b c : Bool) (now : Live) → SoundWorker (with_live now w) → SoundWorker (with_live (if b then w.live else (if c then w.live else now)) w)
        by true c now h = s
        by false true now h = s
        by false false now h = h

    trim_sound : (key bytes : ℕ) (w : WorkerState) → T (rises w.live) → TrimFits key bytes w.live → SoundWorker w → SoundWorker (with_live (trim_live key bytes w.live) w)
    trim_sound key bytes w r f s =
        let content = f.block.content in
        subst (λ (c : Content). SoundWorker (with_live (put key (with_held (trimmed bytes) c) w.live) w)) (sym (content_is key w.live content f.block.found))
        (relived w (put key (with_held (trimmed bytes) content) w.live)
        (λ weight plain. put_alike (content_weight weight) key content (with_held (trimmed bytes) content) w.live r f.block.found (held_alike weight plain (trimmed bytes) content))
        (λ none. put_alike (content_weight (is_away count)) key content (with_held (trimmed bytes) content) w.live r f.block.found (away_held (trimmed bytes) content) ∙ none) s)

    -- ---- all

    pub step_sound : (entries : List Entry) (what : TraceOp) (w : WorkerState) → T (rises w.live) → OpFits what w.live → SoundWorker w → SoundWorker (done entries what w)
    step_sound entries (op.Page key order) w r f s = allocated_sound key order (given_block (current_tag w) order w.seat.node) w r f s (gives_block w.seat.node (worker_sum elsewhere w) s.own (current_tag w) order)
    step_sound entries (op.Kmalloc key size) w r f s = allocated_sound key 0 (given_object (current_tag w) size w.seat.node) w r f s (gives w.seat.node (worker_sum elsewhere w) s.own (current_tag w) size)
    step_sound entries (op.Free key) w r f s = freed_sound key w r f s
    step_sound entries (op.Split key order first) w r f s = split_sound key order first w r f s
    step_sound entries (op.Swap one two) w r f s = swap_sound one two w r f s
    step_sound entries (op.Trim key pages) w r f s = trim_sound key (pages * 4096) w r f s
    step_sound entries (op.Hook section index) w r f s = s
    step_sound entries op.Unhook w r f s = s
    step_sound entries (op.Enter section) w r f s = s
    step_sound entries (op.Leave section) w r f s = s
    step_sound entries (op.Unload section) w r f s = s

    pub all_sound : (entries : List Entry) (ops : List TraceOp) (w : WorkerState) → T (rises w.live) → AllFit entries ops w → SoundWorker w → SoundWorker (all_done entries ops w)
    all_sound entries [] w r f s = s
    all_sound entries (what ∷ ops) w r f s = all_sound entries ops (done entries what w) (worker_rises entries (what ∷ []) w r) f.1 (step_sound entries what w r f.0 s)
