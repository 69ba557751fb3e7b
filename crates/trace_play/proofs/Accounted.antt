-- What was added under a tag is what was taken away and what is live, op by op.
use Rattle.std.proofs.Common.{◌≡◌, ℕ, zero, suc, ◌+◌, ◌-◌, ◌*◌, ◌%◌, ◌==◌, ◌^◌, ◌<◌, Bool, true, false, cond, T, IsTrue, eqb, List, [], ◌++◌, length, set, get_or, Option, Some, None, IsSome, refl, sym, ap, ◌∙◌, subst, subst₂, arith, eqb-true}
use Rattle.std.specs.Prelude.{if◌then◌else◌}
use Rattle.std.specs.Bool.{⊤}
use Rattle.std.specs.Option.{option_map}
use Rattle.std.proofs.lemmas.Grind.{get_or-set_at}
use Rattle.std.proofs.lemmas.List.Sums.{sum_by-append}
use Rattle.std.proofs.lemmas.List.Quantifiers.{position-Some}
use Rattle.std.proofs.lemmas.Nat.{pow_pos}
use Rattle.std.proofs.Math.Nat.{mul-zero, zero-mul, suc-mul, mul-mod_left}
use Rattle.tag_model.specs.declared.state.Tag.{Tag}
use Rattle.tag_model.specs.declared.state.Held.{Held}
use Rattle.tag_model.specs.declared.state.Held.TheVariants as held
use Rattle.tag_model.specs.declared.state.Kind.{Kind}
use Rattle.tag_model.specs.Moves.{Move}
use Rattle.tag_model.specs.Reference.{held_counts}
use Rattle.tag_model.specs.RefMoves.{reference_to, part_of, trimmed, open_moves, close_moves, split_moves, trim_moves, all_up, all_down}
use Rattle.tag_model.specs.ListMachine.{LeavesSome, is_even}
use Rattle.tag_model.proofs.OpMoves.{close_down, close_up, open_down, open_up, split_down, split_up, trim_down, trim_up}
use Rattle.buddy.proofs.FrameLemmas.{all_within, all_at, least_told}
use Rattle.module_area.specs.declared.entry.Entry.{Entry}
use Rattle.page_ext.specs.Blocks.{page_bytes}
use Rattle.split_swap.specs.Parts.{parts_in}
use Rattle.slab_cache.specs.Classes.{class_of, slab_order}
use Rattle.slab_cache.specs.Classes as classes
use Rattle.slab_cache.specs.Slabs.{Slab, NodeState, slab_at, with_slab, with_pages, with_vector, lowest_vector, open_frame, is_open, free_place, with_place, is_used, new_slab, slab_held}
use Rattle.slab_cache.specs.Storage as storage
use Rattle.slab_cache.specs.Storage.{Storage, Pages, Object, Uncounted, object_at}
use Rattle.slab_cache.specs.Giving.{Given, given_block, given_object, block_from, object_from, with_new_slab, object_from_new, slab_or_new, object_or_block, start_in}
use Rattle.slab_cache.specs.Homing.{Taken, come_home, place_home, without_slab}
use Rattle.trace.specs.declared.traces.TraceOp.{TraceOp}
use Rattle.trace.specs.declared.traces.TraceOp.TheVariants as op
use Rattle.trace_play.specs.Live.{Content, Nothing, Stored, Live, content_at, put, without, held_of, order_of, with_held, is_nothing, part_in, swap_live}
use Rattle.trace_play.specs.Worker.{WorkerState, cpu_of, current_tag, with_moves, with_node, with_live, one_given, allocated, is_home, given_back, with_taken, sent_home, freed, split, trim, done}
use Rattle.trace_play.specs.Alone.{rises}
use Rattle.trace_play.specs.Fits.{entry_at, IsUnbound, HasBytes, IsBlockOf, SplitFits, SwapFits, TrimFits, OpFits}
use Rattle.trace_play.specs.Owned.{slabs_sum, NodeSound}
use Rattle.trace_play.proofs.Entries.{find_put, sorted_put}
use Rattle.trace_play.proofs.KeysFit.{bytes_in_parts, content_is, order_is}
use Rattle.trace_play.proofs.LiveSums.{found_weight, entries_sum, sum_put, sum_without}
use Rattle.trace_play.proofs.LiveChanges.{parts_sum, put_unbound, split_sum}
use Rattle.trace_play.proofs.NodeLemmas.{sum_at, sum_stays, has_slab_within, no_slab_at}
use Rattle.slab_cache.proofs.GivenLemmas.{slabs_of_vector}

-- ---- the moves of one reference

opened : (cpu : ℕ) (kind : Kind) (t : ℕ) (h : Held) → all_up kind t (open_moves cpu h) ≡ all_down kind t (open_moves cpu h) + held_counts kind t h
opened cpu kind t h = omega (arith, open_up cpu kind t h, open_down cpu kind t h)

closed_moves : (cpu : ℕ) (kind : Kind) (t : ℕ) (h : Held) → all_down kind t (close_moves cpu h) ≡ all_up kind t (close_moves cpu h) + held_counts kind t h
closed_moves cpu kind t h = omega (arith, close_up cpu kind t h, close_down cpu kind t h)

module _ (kind : Kind) (t : ℕ) where
  pub ups : (one two : List Move) → all_up kind t (one ++ two) ≡ all_up kind t one + all_up kind t two
  ups one two = sum_by-append _ one two

  pub downs : (one two : List Move) → all_down kind t (one ++ two) ≡ all_down kind t one + all_down kind t two
  downs one two = sum_by-append _ one two

  -- ---- a node

  -- the reference of a slab's block
  abbrev pub slab_counts : ℕ → Option Slab → ℕ
  slab_counts start None = 0
  slab_counts start (Some slab) = held_counts kind t (slab_held slab.class)

  abbrev pub node_counts : NodeState → ℕ
  node_counts node = slabs_sum slab_counts 0 node.slabs

  abbrev GivenCounts : NodeState → Given → Type 0
  GivenCounts node given = all_up kind t given.moves + node_counts node ≡ all_down kind t given.moves + (held_counts kind t (storage.held_of given.storage) + node_counts given.node)

  abbrev pub MaybeCounts : NodeState → Option Given → Type 0
  MaybeCounts node None = ⊤
  MaybeCounts node (Some given) = GivenCounts node given

  pub block_counts : (tag : Option Tag) (order : ℕ) (node : NodeState) → MaybeCounts node (given_block tag order node)
  block_counts tag order node = by (start_in order node)
    where
      by : (start : Option ℕ) → MaybeCounts node (option_map (block_from tag order node) start)
      by None = tt
      by (Some start) = let o = opened node.node.cpu kind t (reference_to tag (page_bytes order)) in omega arith

  object_counts : (tag : Option Tag) (class frame : ℕ) (node : NodeState) (slab : Slab) → slab_at frame node ≡ Some slab → GivenCounts node (object_from tag class frame node slab)
  object_counts tag class frame node slab there =
      let place = free_place slab in
      let object = object_at node.node.cpu frame place slab.vector (reference_to tag class) in
      let o = opened node.node.cpu kind t (storage.held_of object) in
      let s = sum_stays slab_counts node.slabs frame (Some (with_place true place slab)) (has_slab_within node.slabs frame slab there) (sym (ap (slab_counts frame) there)) in
      omega arith

  new_counts : (node : NodeState) (all : (Storage → ℕ) → ℕ) → NodeSound node all → (tag : Option Tag) (class start : ℕ) → start_in (slab_order class) node ≡ Some start → GivenCounts node (object_from_new tag class node start)
  new_counts node all sound tag class start found =
      let vector = lowest_vector node in
      let slab = new_slab class vector in
      let bare = with_vector true vector (with_pages true start (slab_order class) node) in
      let with_it = with_new_slab class start node in
      let is = (least_told node.node.frames (slab_order class) start found).is in
      let within = all_within false node.node.frames start (slab_order class) is.free in
      let some = pow_pos (slab_order class) in
      let below : start < length node.slabs = omega (arith, sound.long) in
      let slabs : bare.slabs ≡ node.slabs = slabs_of_vector true vector (with_pages true start (slab_order class) node) in
      let below' : start < length bare.slabs = subst (λ (xs : List (Option Slab)). start < length xs) (sym slabs) below in
      let none = no_slab_at node all sound start below (all_at false false node.node.frames start (slab_order class) start is.free (omega arith) (omega arith)) in
      let sums : slabs_sum slab_counts 0 (set bare.slabs start (Some slab)) + slab_counts start (get_or bare.slabs start None) ≡ slabs_sum slab_counts 0 bare.slabs + slab_counts start (Some slab) = sum_at slab_counts bare.slabs start (Some slab) below' in
      let old : slab_counts start (get_or bare.slabs start None) ≡ 0 = ap (λ (xs : List (Option Slab)). slab_counts start (get_or xs start None)) slabs ∙ ap (slab_counts start) none in
      let same : slabs_sum slab_counts 0 bare.slabs ≡ node_counts node = ap (slabs_sum slab_counts 0) slabs in
      let there : slab_at start with_it ≡ Some slab = get_or-set_at bare.slabs start start (Some slab) None refl below' in
      let given = object_from tag class start with_it slab in
      let o = object_counts tag class start with_it slab there in
      let opens = opened node.node.cpu kind t (slab_held class) in
      let u = ups (open_moves node.node.cpu (slab_held class)) given.moves in
      let d = downs (open_moves node.node.cpu (slab_held class)) given.moves in
      omega arith

  pub gives_counts : (node : NodeState) (all : (Storage → ℕ) → ℕ) → NodeSound node all → (tag : Option Tag) (size : ℕ) → MaybeCounts node (given_object tag size node)
  gives_counts node all sound tag size = by (class_of size)
    where
      is_some_slab : (class : ℕ) (o : Option Slab) → is_open class o ≡ true → (slab : Slab) × (o ≡ Some slab)
      is_some_slab class None e = let no : ⊥ = cc in absurd no
      is_some_slab class (Some slab) e = (slab, refl)

      by_start : (class : ℕ) (start : Option ℕ) → start_in (slab_order class) node ≡ start → MaybeCounts node (option_map (object_from_new tag class node) start)
      by_start class None e = tt
      by_start class (Some start) e = new_counts node all sound tag class start e

      by_frame : (class : ℕ) (frame : Option ℕ) → open_frame class node ≡ frame → MaybeCounts node (slab_or_new tag class node frame)
      by_frame class None e = by_start class (start_in (slab_order class) node) refl
      by_frame class (Some frame) e =
          let found = is_some_slab class (slab_at frame node) (position-Some (is_open class) node.slabs frame None e).1 in
          subst (λ (o : Option Slab). MaybeCounts node (option_map (object_from tag class frame node) o)) (sym found.1) (object_counts tag class frame node found.0 found.1)

      by : (class : Option ℕ) → MaybeCounts node (object_or_block tag size node class)
      by None = block_counts tag (classes.order_of size) node
      by (Some class) = by_frame class (open_frame class node) refl

  -- what comes home takes a slab along, or nothing
  abbrev pub HomeCounts : NodeState → Taken → Type 0
  HomeCounts node taken = all_up kind t taken.moves + node_counts node ≡ all_down kind t taken.moves + node_counts taken.node

  place_counts_home : (frame place : ℕ) (node : NodeState) → HomeCounts node (place_home frame place node (slab_at frame node))
  place_counts_home frame place node = by (slab_at frame node) refl
    where
      left : (slab : Slab) (b : Bool) → frame < length node.slabs → held_counts kind t (slab_held slab.class) ≡ slab_counts frame (get_or node.slabs frame None)
          → HomeCounts node (cond {A = Taken} b (record { node = with_slab frame (Some slab) node; moves = [] }) (record { node = without_slab frame slab node; moves = close_moves node.node.cpu (slab_held slab.class) }))
      left slab true below same = ap (λ n. 0 + n) (sym (sum_stays slab_counts node.slabs frame (Some slab) below same))
      left slab false below same =
          let sums = sum_at slab_counts node.slabs frame None below in
          let c = closed_moves node.node.cpu kind t (slab_held slab.class) in
          let after : node_counts (without_slab frame slab node) ≡ slabs_sum slab_counts 0 (set node.slabs frame None) = ap (slabs_sum slab_counts 0) (slabs_of_vector false slab.vector (with_pages false frame (slab_order slab.class) (with_slab frame None node))) in
          omega arith

      by : (o : Option Slab) → slab_at frame node ≡ o → HomeCounts node (place_home frame place node o)
      by None e = refl
      by (Some slab) e = left (with_place false place slab) (is_used (with_place false place slab)) (has_slab_within node.slabs frame slab e) (sym (ap (slab_counts frame) e))

  pub home_counts : (given : Storage) (node : NodeState) → HomeCounts node (come_home given node)
  home_counts (Pages block) node = refl
  home_counts (Object home frame place vector holds) node = place_counts_home frame place node
  home_counts (Uncounted home frame place) node = place_counts_home frame place node

-- ---- the moves of a split and of a trim

even_parts : (parts bytes share : ℕ) (h : Held) → HasBytes bytes h → bytes ≡ share * parts → IsTrue (is_even parts h)
even_parts parts bytes share held.None has whole = absurd has
even_parts parts bytes share held.Empty has whole = refl
even_parts parts bytes share (held.Counted tag size) has whole = ap (λ n. n % parts == 0) (has ∙ whole) ∙ ap (λ n. n == 0) (mul-mod_left share parts)

split_moved : (cpu parts : ℕ) (kind : Kind) (t : ℕ) (h : Held) → 0 < parts → IsTrue (is_even parts h)
    → all_up kind t (split_moves cpu parts h) + held_counts kind t h ≡ all_down kind t (split_moves cpu parts h) + parts * held_counts kind t (part_of parts h)
split_moved cpu parts kind t h some even = omega (arith, split_up cpu parts kind t h some even, split_down cpu parts kind t h)

leaves_some : (bytes left : ℕ) (h : Held) → HasBytes left h → bytes < left → LeavesSome bytes h
leaves_some bytes left held.None has low = absurd has
leaves_some bytes left held.Empty has low = tt
leaves_some bytes left (held.Counted tag size) has low = omega (arith, has)

trim_moved : (cpu bytes : ℕ) (kind : Kind) (t : ℕ) (h : Held) → LeavesSome bytes h
    → held_counts kind t (trimmed bytes h) + all_down kind t (trim_moves cpu bytes h) ≡ held_counts kind t h + all_up kind t (trim_moves cpu bytes h)
trim_moved cpu bytes kind t h some = omega (arith, trim_up cpu bytes kind t h, trim_down cpu bytes kind t h some)

-- ---- an op

module _ (kind : Kind) (t rest : ℕ) where
  abbrev pub counts : Content → ℕ
  counts content = held_counts kind t (held_of content)

  abbrev pub live_counts : Live → ℕ
  live_counts live = entries_sum counts live

  abbrev pub Accounts : WorkerState → Type 0
  Accounts w = all_up kind t w.tally.moves ≡ all_down kind t w.tally.moves + (live_counts w.live + (node_counts kind t w.seat.node + rest))

  one_given_accounts : (given : Storage) (w : WorkerState) → Accounts w → Accounts (one_given given w)
  one_given_accounts (Pages block) w a = a
  one_given_accounts (Object home frame place vector holds) w a = a
  one_given_accounts (Uncounted home frame place) w a = a

  allocated_accounts : (key order : ℕ) (given : Option Given) (w : WorkerState) → T (rises w.live) → IsUnbound key w.live → MaybeCounts kind t w.seat.node given → Accounts w → Accounts (allocated key order given w)
  allocated_accounts key order None w r none is a = let p = put_unbound counts key (Nothing order) w.live r none in omega arith
  allocated_accounts key order (Some given) w r none is a =
      one_given_accounts given.storage (with_moves given.moves (with_node given.node (with_live (put key (Stored given.storage) w.live) w)))
      (let p = put_unbound counts key (Stored given.storage) w.live r none in
      let u = ups kind t w.tally.moves given.moves in
      let d = downs kind t w.tally.moves given.moves in
      omega arith)

  back_accounts : (content : Content) (w : WorkerState) → Accounts w → Accounts (given_back content w)
  back_accounts (Nothing order) w a = a
  back_accounts (Stored given) w a = by (is_home given w)
    where
      by : (b : Bool) → Accounts (cond {A = WorkerState} b (with_taken (come_home given w.seat.node) w) (sent_home given w))
      by true =
          let h = home_counts kind t given w.seat.node in
          let u = ups kind t w.tally.moves (come_home given w.seat.node).moves in
          let d = downs kind t w.tally.moves (come_home given w.seat.node).moves in
          omega arith
      by false = a

  freed_accounts : (key : ℕ) (w : WorkerState) → T (rises w.live) → IsSome (entry_at key w.live) → Accounts w → Accounts (freed key w)
  freed_accounts key w r some a = by (entry_at key w.live) refl some
    where
      by : (o : Option Content) → entry_at key w.live ≡ o → IsSome o → Accounts (freed key w)
      by None e h = let no : ⊥ = cc in absurd no
      by (Some content) e h =
          let there = content_is key w.live content e in
          let moves = close_moves (cpu_of w) (held_of (content_at key w.live)) in
          back_accounts (content_at key w.live) (with_moves moves (with_live (without key w.live) w))
          (let l = sum_without counts key w.live r in
          let f = ap (found_weight counts) e in
          let c = closed_moves (cpu_of w) kind t (held_of (content_at key w.live)) in
          let same = ap counts there in
          let u = ups kind t w.tally.moves moves in
          let d = downs kind t w.tally.moves moves in
          omega arith)

  same_share : (c count from : ℕ) → parts_sum (λ place. c) from count ≡ count * c
  same_share c zero from = sym (zero-mul c)
  same_share c (suc count) from = let later = same_share c count (from + 1) in omega (arith, suc-mul count c)

  -- what a split adds is what its parts count more
  parts_count : (cpu order whole : ℕ) (content : Content) → order < whole → IsBlockOf whole (4096 * 2 ^ whole) content
      → all_up kind t (split_moves cpu (parts_in order whole) (held_of content)) + counts content ≡ all_down kind t (split_moves cpu (parts_in order whole) (held_of content)) + parts_sum (λ place. counts (part_in order place content)) 0 (parts_in order whole)
  parts_count cpu order whole (Nothing of) below is = ap (λ n. 0 + n) (sym (same_share 0 (parts_in order whole) 0 ∙ mul-zero (parts_in order whole)))
  parts_count cpu order whole (Stored (Pages block)) below is =
      let parts = parts_in order whole in
      let moved = split_moved cpu parts kind t block.holds (pow_pos (whole - order)) (even_parts parts (4096 * 2 ^ whole) (4096 * 2 ^ order) block.holds is.1 (bytes_in_parts whole order below)) in
      let same : parts_sum (λ place. counts (part_in order place (Stored (Pages block)))) 0 parts ≡ parts * held_counts kind t (part_of parts block.holds) =
      same_share (held_counts kind t (part_of (parts_in order block.order) block.holds)) parts 0 ∙ ap (λ n. parts * held_counts kind t (part_of (parts_in order n) block.holds)) is.0 in
      omega arith
  parts_count cpu order whole (Stored (Object home frame place vector holds)) below is = absurd is
  parts_count cpu order whole (Stored (Uncounted home frame place)) below is = absurd is

  split_accounts : (key order first : ℕ) (w : WorkerState) → T (rises w.live) → SplitFits key order first w.live → Accounts w → Accounts (split key order first w)
  split_accounts key order first w r f a =
      let content = f.block.content in
      let there = content_is key w.live content f.block.found in
      let parts : parts_in order (order_of (content_at key w.live)) ≡ parts_in order f.whole = ap (λ c. parts_in order (order_of c)) there ∙ ap (parts_in order) (order_is f.whole _ content f.block.is) in
      let moves = split_moves (cpu_of w) (parts_in order (order_of (content_at key w.live))) (held_of (content_at key w.live)) in
      let moves_are : moves ≡ split_moves (cpu_of w) (parts_in order f.whole) (held_of content) = λ i. split_moves (cpu_of w) (parts i) (held_of (there i)) in
      let p = parts_count (cpu_of w) order f.whole content f.above f.block.is in
      let s = split_sum counts key order first w r f in
      let u = ups kind t w.tally.moves moves in
      let d = downs kind t w.tally.moves moves in
      let up = ap (all_up kind t) moves_are in
      let down = ap (all_down kind t) moves_are in
      omega arith

  takes_over : (order bytes : ℕ) (h : Held) (content : Content) → is_nothing content ≡ false → IsBlockOf order bytes content → held_of (with_held (λ _. h) content) ≡ h
  takes_over order bytes h (Nothing of) some is = let no : ⊥ = cc in absurd no
  takes_over order bytes h (Stored (Pages block)) some is = refl
  takes_over order bytes h (Stored (Object home frame place vector holds)) some is = absurd is
  takes_over order bytes h (Stored (Uncounted home frame place)) some is = absurd is

  swap_accounts : (one two : ℕ) (w : WorkerState) → T (rises w.live) → SwapFits one two w.live → Accounts w → Accounts (with_live (swap_live one two w.live) w)
  swap_accounts one two w r f a =
      let x = f.first.content in
      let y = f.second.content in
      subst₂ (λ (c d : Content). Accounts (with_live (if is_nothing c then w.live else (if is_nothing d then w.live else put one (with_held (λ _. held_of d) c) (put two (with_held (λ _. held_of c) d) w.live))) w))
      (sym (content_is one w.live x f.first.found)) (sym (content_is two w.live y f.second.found))
      (by (is_nothing x) (is_nothing y) refl refl)
    where
      same_live : (now : Live) → live_counts now ≡ live_counts w.live → Accounts (with_live now w)
      same_live now e = omega arith

      either : (b : Bool) → eqb one two ≡ b → (s t' : Content) → counts s ≡ counts f.second.content → counts t' ≡ counts f.first.content
          → live_counts (put two t' w.live) + found_weight counts (entry_at two w.live) ≡ live_counts w.live + counts t' → found_weight counts (entry_at two w.live) ≡ counts f.second.content
          → live_counts (put one s (put two t' w.live)) + found_weight counts (entry_at one (put two t' w.live)) ≡ live_counts (put two t' w.live) + counts s
          → found_weight counts (entry_at one (put two t' w.live)) ≡ found_weight counts (cond (eqb one two) (Some t') (entry_at one w.live))
          → live_counts (put one s (put two t' w.live)) ≡ live_counts w.live
      either true e s t' cs ct s1 f1 s2 f2 =
          let same : Some f.first.content ≡ Some f.second.content = sym f.first.found ∙ ap (λ k. entry_at k w.live) (eqb-true one two e) ∙ f.second.found in
          let both : f.first.content ≡ f.second.content = cc in
          let c = ap counts both in
          let g : found_weight counts (cond (eqb one two) (Some t') (entry_at one w.live)) ≡ counts t' = ap (λ b. found_weight counts (cond b (Some t') (entry_at one w.live))) e in
          omega arith
      either false e s t' cs ct s1 f1 s2 f2 =
          let g : found_weight counts (cond (eqb one two) (Some t') (entry_at one w.live)) ≡ found_weight counts (entry_at one w.live) = ap (λ b. found_weight counts (cond b (Some t') (entry_at one w.live))) e in
          let h = ap (found_weight counts) f.first.found in
          omega arith

      by : (b c : Bool) → is_nothing f.first.content ≡ b → is_nothing f.second.content ≡ c
          → Accounts (with_live (if b then w.live else (if c then w.live else put one (with_held (λ _. held_of f.second.content) f.first.content) (put two (with_held (λ _. held_of f.first.content) f.second.content) w.live))) w)
      by true c e g = a
      by false true e g = a
      by false false e g =
          let s = with_held (λ _. held_of f.second.content) f.first.content in
          let t' = with_held (λ _. held_of f.first.content) f.second.content in
          let cs : counts s ≡ counts f.second.content = ap (held_counts kind t) (takes_over f.order _ (held_of f.second.content) f.first.content e f.first.is) in
          let ct : counts t' ≡ counts f.first.content = ap (held_counts kind t) (takes_over f.order _ (held_of f.first.content) f.second.content g f.second.is) in
          let s1 = sum_put counts two t' w.live r in
          let f1 = ap (found_weight counts) f.second.found in
          let s2 = sum_put counts one s (put two t' w.live) (sorted_put two t' w.live r) in
          let f2 = ap (found_weight counts) (find_put one two t' w.live) in
          same_live (put one s (put two t' w.live)) (either (eqb one two) refl s t' cs ct s1 f1 s2 f2)

  trim_counts : (cpu bytes order left : ℕ) (content : Content) → IsBlockOf order left content → bytes < left
      → counts (with_held (trimmed bytes) content) + all_down kind t (trim_moves cpu bytes (held_of content)) ≡ counts content + all_up kind t (trim_moves cpu bytes (held_of content))
  trim_counts cpu bytes order left (Nothing of) is low = refl
  trim_counts cpu bytes order left (Stored (Pages block)) is low = trim_moved cpu bytes kind t block.holds (leaves_some bytes left block.holds is.1 low)
  trim_counts cpu bytes order left (Stored (Object home frame place vector holds)) is low = absurd is
  trim_counts cpu bytes order left (Stored (Uncounted home frame place)) is low = absurd is

  trim_accounts : (key bytes : ℕ) (w : WorkerState) → T (rises w.live) → TrimFits key bytes w.live → Accounts w → Accounts (trim key bytes w)
  trim_accounts key bytes w r f a =
      let content = f.block.content in
      let there = content_is key w.live content f.block.found in
      let moves = trim_moves (cpu_of w) bytes (held_of content) in
      let u = ups kind t w.tally.moves moves in
      let d = downs kind t w.tally.moves moves in
      let s = sum_put counts key (with_held (trimmed bytes) content) w.live r in
      let g = ap (found_weight counts) f.block.found in
      let c = trim_counts (cpu_of w) bytes f.order f.left content f.block.is f.more in
      subst (λ (x : Content). Accounts (with_moves (trim_moves (cpu_of w) bytes (held_of x)) (with_live (put key (with_held (trimmed bytes) x) w.live) w))) (sym there) (omega arith)

  pub step_accounts : (all : (Storage → ℕ) → ℕ) (entries : List Entry) (what : TraceOp) (w : WorkerState) → T (rises w.live) → OpFits what w.live → NodeSound w.seat.node all → Accounts w → Accounts (done entries what w)
  step_accounts all entries (op.Page key order) w r f s a = allocated_accounts key order (given_block (current_tag w) order w.seat.node) w r f (block_counts kind t (current_tag w) order w.seat.node) a
  step_accounts all entries (op.Kmalloc key size) w r f s a = allocated_accounts key 0 (given_object (current_tag w) size w.seat.node) w r f (gives_counts kind t w.seat.node all s (current_tag w) size) a
  step_accounts all entries (op.Free key) w r f s a = freed_accounts key w r f a
  step_accounts all entries (op.Split key order first) w r f s a = split_accounts key order first w r f a
  step_accounts all entries (op.Swap one two) w r f s a = swap_accounts one two w r f a
  step_accounts all entries (op.Trim key pages) w r f s a = trim_accounts key (pages * 4096) w r f a
  step_accounts all entries (op.Hook section index) w r f s a = a
  step_accounts all entries op.Unhook w r f s a = a
  step_accounts all entries (op.Enter section) w r f s a = a
  step_accounts all entries (op.Leave section) w r f s a = a
  step_accounts all entries (op.Unload section) w r f s a = a
