-- Each live reference of a checked trace is what its cell of the table holds.
use Rattle.std.proofs.Common.{◌≡◌, ℕ, zero, suc, ◌+◌, ◌<◌, ◌≤◌, Bool, true, false, cond, eqb, List, [], ◌∷◌, ◌++◌, length, map, set, get_or, Option, Some, None, Ok, refl, sym, ap, ◌∙◌, subst, arith, eqb-true, eq-eqb}
use Rattle.std.specs.Prelude.{◌&&◌, count_by, slice_get}
use Rattle.std.specs.Bool.{⊤}
use Rattle.std.specs.List.{find, flat_map, enumerate_from, range_with_len}
use Rattle.std.proofs.lemmas.Bool.{eqb-false}
use Rattle.std.proofs.lemmas.Grind.{get_or-set_at}
use Rattle.std.proofs.lemmas.List.{length-set, length-map, get_or-set_other, length-replicate}
use Rattle.std.proofs.lemmas.List.FromFn.{length-map-range_with_len, get_or-map-range_with_len}
use Rattle.std.proofs.lemmas.List.Sums.{sum_by-cons}
use Rattle.tag_model.specs.declared.shape.Shape.{Shape}
use Rattle.tag_model.specs.declared.state.Held.{Held}
use Rattle.tag_model.specs.Index.{Slot, Word, Page, Object, IsSlot, index_of}
use Rattle.tag_model.proofs.Slots.{slots_apart}
use Rattle.tag_model.specs.declared.state.Tag.{Tag}
use Rattle.tag_model.specs.RefMoves.{close_moves}
use Rattle.module_area.specs.declared.entry.Entry.{Entry}
use Rattle.std.specs.Option.{option_map}
use Rattle.slab_cache.specs.Slabs.{Slab, NodeState, slab_at, with_slab, with_pages, with_vector, lowest_vector, open_frame, with_place, is_used, slab_held}
use Rattle.slab_cache.specs.Storage as storage
use Rattle.slab_cache.specs.Storage.{Storage, home_of}
use Rattle.slab_cache.specs.Giving.{Given, given_block, given_object, block_from, object_from, with_new_slab, object_from_new, slab_or_new, object_or_block, start_in}
use Rattle.slab_cache.specs.Classes.{class_of, slab_order}
use Rattle.slab_cache.specs.Classes as classes
use Rattle.slab_cache.specs.Homing.{Taken, come_home, place_home, without_slab}
use Rattle.trace.specs.declared.traces.Item.{Item}
use Rattle.trace.specs.declared.traces.Item.TheVariants as item
use Rattle.trace.specs.declared.traces.OnOp.{OnOp}
use Rattle.trace.specs.declared.traces.TraceOp.{TraceOp}
use Rattle.trace.specs.declared.traces.TraceOp.TheVariants as op
use Rattle.trace.specs.declared.traces.Trace.{Trace}
use Rattle.trace.specs.Formed.{IsFormedTrace}
use Rattle.round_check.specs.Walk.{rounds_of}
use Rattle.round_check.proofs.Named.{by_bool}
use Rattle.trace_play.specs.Live.{Content, Nothing, Stored, Live, put, content_at, held_of, without}
use Rattle.trace_play.specs.Worker.{Seat, WorkerState, cpu_of, current_tag, with_moves, with_node, with_live, one_given, allocated, is_home, given_back, with_taken, sent_home, done, all_done}
use Rattle.trace_play.specs.Barrier.{ops_of, cpu_done, cpus_done, modules_done, on_its_way, none_returning, none_on_its_way, storage_home, round_done}
use Rattle.trace_play.specs.Machine.{Machine, fresh_seat, seat_at, worker_at, content_cell, slab_cell, slab_cells, live_cells}
use Rattle.trace_play.specs.Left.{held_or_none, HasRoom, IsInItsCell}
use Rattle.trace_play.specs.Play.{Played, item_played, nothing_played, played_so_far}
use Rattle.trace_play.specs.Owned.{one_if, is_in, has_frame, is_object_at, same_vector, slab_has_frame, slab_has_vector, slabs_sum, places_of}
use Rattle.trace_play.specs.Sound.{content_weight, live_sum, storage_sum, is_away, IsSound, same_slot}
use Rattle.trace_play.proofs.NodeLemmas.{starts_in, same_number, own_home, must_be, taken_within, sum_has, has_slab_within}
use Rattle.trace_play.proofs.Rising.{fold_keeps, play_keeps}
use Rattle.trace_play.proofs.TraceFits.{modules_seats}
use Rattle.trace_play.proofs.MachineSound.{has_home, machines_are_sound}
use Rattle.trace_play.proofs.CellsApart.{no_two}
use Rattle.trace_play.proofs.NeedsMet.{object_place}
use Rattle.tag_model.proofs.ListRows.{same_kind_refl}

-- ---- what holds of each element

abbrev Each : {X : Type 0} → (X → Type 0) → List X → Type 0
Each P [] = ⊤
Each P (x ∷ xs) = P x × Each P xs

each_map : {X : Type 0} (P Q : X → Type 0) (xs : List X) → ((x : X) → P x → Q x) → Each P xs → Each Q xs
each_map P Q [] f h = tt
each_map P Q (x ∷ xs) f h = (f x h.0, each_map P Q xs f h.1)

each_append : {X : Type 0} (P : X → Type 0) (xs ys : List X) → Each P xs → Each P ys → Each P (xs ++ ys)
each_append P [] ys h g = g
each_append P (x ∷ xs) ys h g = (h.0, each_append P xs ys h.1 g)

each_flat : {X A : Type 0} (P : A → Type 0) (f : X → List A) (xs : List X) → Each (λ x. Each P (f x)) xs → Each P (flat_map f xs)
each_flat P f [] h = tt
each_flat P f (x ∷ xs) h = each_append P (f x) (flat_map f xs) h.0 (each_flat P f xs h.1)

each_at : {X : Type 0} (P : X → Type 0) (xs : List X) (i : ℕ) (x : X) → slice_get xs i ≡ Some x → Each P xs → P x
each_at P [] i x e h = let no : ⊥ = cc in absurd no
each_at P (y ∷ ys) zero x e h = let same : y ≡ x = cc in subst P same h.0
each_at P (y ∷ ys) (suc i) x e h = each_at P ys i x e h.1

-- ---- one content of a live list

abbrev Weighs : ((Storage → ℕ) → ℕ) → Content → Type 0
Weighs all content = (weight : Storage → ℕ) → content_weight weight content ≤ all weight

each_weighs : (live : Live) → Each (λ (e : ℕ × Content). Weighs (λ weight. live_sum weight live) e.1) live
each_weighs [] = tt
each_weighs (e ∷ live) = (
  λ weight. let c = sum_by-cons (λ (x : ℕ × Content). content_weight weight x.1) e live in omega arith,
  each_map (λ (x : ℕ × Content). Weighs (λ weight. live_sum weight live) x.1) (λ (x : ℕ × Content). Weighs (λ weight. live_sum weight (e ∷ live)) x.1) live
      (λ x h weight. let c = sum_by-cons (λ (y : ℕ × Content). content_weight weight y.1) e live in let g = h weight in omega arith)
      (each_weighs live),
)

-- ---- slots in their ranges

module _ (k : Shape) (m : Machine) (frames vectors : ℕ) (s : IsSound m) (cpus_fit : length m.seats ≤ k.cpus) (frames_fit : frames ≤ k.frames) (vectors_fit : vectors ≤ k.vectors)
    (sizes : (h : ℕ) → h < length m.seats → (length (seat_at h m).node.slabs ≡ frames) × (length (seat_at h m).node.vectors ≡ vectors)) where
  abbrev InRange : Slot × Held → Type 0
  InRange entry = IsSlot k entry.0

  at_home : (given : Storage) → ((weight : Storage → ℕ) → weight given ≤ storage_sum m weight) → home_of given < length m.seats
  at_home given le = let l = le (is_away (length m.seats)) in let z = s.homes in has_home (length m.seats) given (omega arith)

  content_in : (content : Content) → Weighs (storage_sum m) content → Each InRange (content_cell content)
  content_in (Nothing order) h = tt
  content_in (Stored (storage.Pages block)) h =
      let home = block.home in
      let low : home < length m.seats = at_home (storage.Pages block) h in
      let node = s.nodes home low in
      let size = (sizes home low).0 in
      let cpu = s.cpus home low in
      let l = h (has_frame home block.frame) in
      let w : has_frame home block.frame (storage.Pages block) ≡ 1 = own_home home (is_in block.frame block.frame block.order) ∙ ap one_if (starts_in block.frame block.order) in
      let slabs = slabs_sum (slab_has_frame block.frame) 0 (seat_at home m).node.slabs in
      let f = subst (λ c. storage_sum m (has_frame c block.frame) + slabs ≡ one_if (get_or (seat_at home m).node.node.frames block.frame false)) cpu (node.frames block.frame) in
      let taken = must_be (storage_sum m (has_frame home block.frame) + slabs) (get_or (seat_at home m).node.node.frames block.frame false) f (omega arith) in
      let within = taken_within (seat_at home m).node.node.frames block.frame taken in
      let long = node.long in
      (((omega arith), (omega arith)), tt)
  content_in (Stored (storage.Object home frame place vector holds)) h =
      let given = storage.Object home frame place vector holds in
      let low : home < length m.seats = at_home given h in
      let node = s.nodes home low in
      let n = (seat_at home m).node in
      let cpu = s.cpus home low in
      let l = h (is_object_at home frame place (Some vector)) in
      let w : is_object_at home frame place (Some vector) given ≡ 1 = λ i. one_if (same_number home i && (same_number frame i && (same_number place i && same_number vector i))) in
      let some : 1 ≤ storage_sum m (is_object_at n.node.cpu frame place (Some vector)) = subst (λ c. 1 ≤ storage_sum m (is_object_at c frame place (Some vector))) (sym cpu) (omega arith) in
      let there = object_place n (storage_sum m) node frame place (Some vector) some in
      let few = node.few frame in
      let places = ap places_of there.here in
      let place_low : place < length there.slab.places = got_within there.slab.places place true there.taken in
      let below = has_slab_within n.slabs frame there.slab there.here in
      let has = sum_has (slab_has_vector vector) n.slabs frame below refl in
      let one : slab_has_vector vector frame (get_or n.slabs frame None) ≡ 1 = ap (slab_has_vector vector frame) there.here ∙ ap (λ o. one_if (same_vector (Some vector) o)) there.has ∙ ap one_if (same_number vector) in
      let v = node.vectors vector in
      let out = must_be (slabs_sum (slab_has_vector vector) 0 n.slabs) (get_or n.vectors vector false) v (omega arith) in
      let vector_low = taken_within n.vectors vector out in
      let size = (sizes home low).1 in
      (((omega arith), (omega arith), (omega arith)), tt)
    where
      got_within : (xs : List Bool) (i : ℕ) (x : Bool) → slice_get xs i ≡ Some x → i < length xs
      got_within [] i x e = let no : ⊥ = cc in absurd no
      got_within (y ∷ ys) zero x e = omega arith
      got_within (y ∷ ys) (suc i) x e = let l = got_within ys i x e in omega arith
  content_in (Stored (storage.Uncounted home frame place)) h = tt

  slabs_in : (cpu : ℕ) → cpu < length m.seats → (slabs : List (Option Slab)) (from : ℕ) → from + length slabs ≤ frames → Each (λ (entry : ℕ × Option Slab). Each InRange (slab_cell cpu entry.0 entry.1)) (enumerate_from from slabs)
  slabs_in cpu low [] from few = tt
  slabs_in cpu low (slab ∷ slabs) from few = (one slab, slabs_in cpu low slabs (from + 1) (omega arith))
    where
      one : (slab : Option Slab) → Each InRange (slab_cell cpu from slab)
      one None = tt
      one (Some slab) = (((omega arith), (omega arith)), tt)

  seat_in : (seat : Seat) → seat.node.node.cpu < length m.seats → length seat.node.slabs ≡ frames → Each InRange (slab_cells seat.node)
  seat_in seat low long =
      each_flat InRange (λ (entry : ℕ × Option Slab). slab_cell seat.node.node.cpu entry.0 entry.1) (enumerate_from 0 seat.node.slabs) (slabs_in seat.node.node.cpu low seat.node.slabs 0 (omega arith))

  seats_in : Each (λ (seat : Seat). Each InRange (slab_cells seat.node)) m.seats
  seats_in = from_places m.seats (λ i d low.
      let same = any_default m.seats i d (fresh_seat 0 0 i) low in
      subst (λ (x : Seat). Each InRange (slab_cells x.node)) (sym same) (seat_in (seat_at i m) (let c = s.cpus i low in omega arith) (sizes i low).0))
    where
      any_default : (xs : List Seat) (i : ℕ) (c d : Seat) → i < length xs → get_or xs i c ≡ get_or xs i d
      any_default [] i c d low = absurd (omega arith)
      any_default (x ∷ xs) zero c d low = refl
      any_default (x ∷ xs) (suc i) c d low = any_default xs i c d (omega arith)

      from_places : (xs : List Seat) → ((i : ℕ) (d : Seat) → i < length xs → Each InRange (slab_cells (get_or xs i d).node)) → Each (λ (seat : Seat). Each InRange (slab_cells seat.node)) xs
      from_places [] h = tt
      from_places (x ∷ xs) h = (h 0 x (omega arith), from_places xs (λ i d low. h (suc i) d (omega arith)))

  pub all_in_range : Each InRange (live_cells m)
  all_in_range =
      each_append InRange (flat_map (λ (entry : ℕ × Content). content_cell entry.1) m.live) (flat_map (λ (seat : Seat). slab_cells seat.node) m.seats)
      (each_flat InRange (λ (entry : ℕ × Content). content_cell entry.1) m.live
      (each_map (λ (e : ℕ × Content). Weighs (λ weight. live_sum weight m.live) e.1) (λ (e : ℕ × Content). Each InRange (content_cell e.1)) m.live
      (λ e h. content_in e.1 (λ weight. let g = h weight in omega arith)) (each_weighs m.live)))
      (each_flat InRange (λ (seat : Seat). slab_cells seat.node) m.seats seats_in)

-- ---- the one that is found

same_itself : (slot : Slot) → same_slot slot slot ≡ true
same_itself (Page a f) = λ i. same_number a i && same_number f i
same_itself (Object a v p) = λ i. same_number a i && (same_number v i && same_number p i)
same_itself (Word a kind t) = λ i. same_number a i && (same_kind_refl kind i && same_number t i)

one_counted : (slot : Slot) (held : Held) (xs : List (Slot × Held)) (i : ℕ) → slice_get xs i ≡ Some (slot, held) → 1 ≤ count_by (λ (e : Slot × Held). same_slot slot e.0) xs
one_counted slot held [] i e = let no : ⊥ = cc in absurd no
one_counted slot held (x ∷ xs) zero e =
    let same : x ≡ (slot, held) = cc in
    let one : cond {A = ℕ} (same_slot slot x.0) 1 0 ≡ 1 = ap (λ (y : Slot × Held). cond {A = ℕ} (same_slot slot y.0) 1 0) same ∙ ap (λ b. cond {A = ℕ} b 1 0) (same_itself slot) in
    omega (arith, sum_by-cons (λ (e : Slot × Held). cond {A = ℕ} (same_slot slot e.0) 1 0) x xs)
one_counted slot held (x ∷ xs) (suc i) e =
    let rest = one_counted slot held xs i e in
    omega (arith, sum_by-cons (λ (e : Slot × Held). cond {A = ℕ} (same_slot slot e.0) 1 0) x xs)

found_there : (k : Shape) (slot : Slot) (held : Held) (xs : List (Slot × Held)) (i : ℕ) → IsSlot k slot → Each (λ (e : Slot × Held). IsSlot k e.0) xs → count_by (λ (e : Slot × Held). same_slot slot e.0) xs ≤ 1 → slice_get xs i ≡ Some (slot, held)
    → find (λ (e : Slot × Held). eqb (index_of k e.0) (index_of k slot)) xs ≡ Some (slot, held)
found_there k slot held [] i is are few e = let no : ⊥ = cc in absurd no
found_there k slot held (x ∷ xs) zero is are few e =
    let same : x ≡ (slot, held) = cc in
    ap (λ b. cond b (Some x) (find (λ (e : Slot × Held). eqb (index_of k e.0) (index_of k slot)) xs)) (ap (λ (y : Slot × Held). eqb (index_of k y.0) (index_of k slot)) same ∙ eq-eqb (index_of k slot) (index_of k slot) refl) ∙ ap Some same
found_there k slot held (x ∷ xs) (suc i) is are few e =
    let c = sum_by-cons (λ (e : Slot × Held). cond {A = ℕ} (same_slot slot e.0) 1 0) x xs in
    let later = one_counted slot held xs i e in
    by_bool {P = find (λ (e : Slot × Held). eqb (index_of k e.0) (index_of k slot)) (x ∷ xs) ≡ Some (slot, held)} (eqb (index_of k x.0) (index_of k slot))
    (λ t.
    let same : x.0 ≡ slot = slots_apart k x.0 slot are.0 is (eqb-true _ _ t) in
    let one : cond {A = ℕ} (same_slot slot x.0) 1 0 ≡ 1 = ap (λ y. cond {A = ℕ} (same_slot slot y) 1 0) same ∙ ap (λ b. cond {A = ℕ} b 1 0) (same_itself slot) in
    absurd (omega arith))
    (λ t. ap (λ b. cond b (Some x) (find (λ (e : Slot × Held). eqb (index_of k e.0) (index_of k slot)) xs)) t ∙ found_there k slot held xs i is are.1 (omega arith) e)

-- ---- how large nodes are

-- as many slots for slabs and as many vectors
pub record SameSize (before now : NodeState) : Type 0 where
  pub slabs : length now.slabs ≡ length before.slabs
  pub vectors : length now.vectors ≡ length before.vectors

same_size : (node : NodeState) → SameSize node node
same_size node = record { slabs = refl; vectors = refl }

size_then : (a b c : NodeState) → SameSize a b → SameSize b c → SameSize a c
size_then a b c p q = record { slabs = q.slabs ∙ p.slabs; vectors = q.vectors ∙ p.vectors }

vector_size : (out : Bool) (vector : Option ℕ) (node : NodeState) → SameSize node (with_vector out vector node)
vector_size out None node = same_size node
vector_size out (Some v) node = record { slabs = refl; vectors = length-set node.vectors v out }

slab_size : (frame : ℕ) (slab : Option Slab) (node : NodeState) → SameSize node (with_slab frame slab node)
slab_size frame slab node = record { slabs = length-set node.slabs frame slab; vectors = refl }

abbrev pub MaybeSize : NodeState → Option Given → Type 0
MaybeSize node None = ⊤
MaybeSize node (Some given) = SameSize node given.node

block_size : (tag : Option Tag) (order : ℕ) (node : NodeState) → MaybeSize node (given_block tag order node)
block_size tag order node = by (start_in order node)
  where
    by : (start : Option ℕ) → MaybeSize node (option_map (block_from tag order node) start)
    by None = tt
    by (Some start) = record { slabs = refl; vectors = refl }

pub object_size : (tag : Option Tag) (size : ℕ) (node : NodeState) → MaybeSize node (given_object tag size node)
object_size tag size node = by (class_of size)
  where
    by_start : (class : ℕ) (start : Option ℕ) → MaybeSize node (option_map (object_from_new tag class node) start)
    by_start class None = tt
    by_start class (Some start) =
        let bare = with_pages true start (slab_order class) node in
        let with_it = with_vector true (lowest_vector node) bare in
        let new = with_new_slab class start node in
        size_then node with_it _ (size_then node bare with_it (record { slabs = refl; vectors = refl }) (vector_size true (lowest_vector node) bare)) (size_then with_it new _ (slab_size start _ with_it) (slab_size start _ new))

    by_slab : (class frame : ℕ) (slab : Option Slab) → MaybeSize node (option_map (object_from tag class frame node) slab)
    by_slab class frame None = tt
    by_slab class frame (Some slab) = slab_size frame _ node

    by_frame : (class : ℕ) (frame : Option ℕ) → MaybeSize node (slab_or_new tag class node frame)
    by_frame class None = by_start class (start_in (slab_order class) node)
    by_frame class (Some frame) = by_slab class frame (slab_at frame node)

    by : (class : Option ℕ) → MaybeSize node (object_or_block tag size node class)
    by None = block_size tag (classes.order_of size) node
    by (Some class) = by_frame class (open_frame class node)

place_size : (frame place : ℕ) (node : NodeState) (o : Option Slab) → SameSize node (place_home frame place node o).node
place_size frame place node None = same_size node
place_size frame place node (Some slab) = by (is_used (with_place false place slab))
  where
    by : (b : Bool) → SameSize node (cond {A = Taken} b (record { node = with_slab frame (Some (with_place false place slab)) node; moves = [] }) (record { node = without_slab frame (with_place false place slab) node; moves = close_moves node.node.cpu (slab_held slab.class) })).node
    by true = slab_size frame _ node
    by false =
        let gone = with_pages false frame (slab_order slab.class) (with_slab frame None node) in
        size_then node gone _ (record { slabs = length-set node.slabs frame None; vectors = refl }) (vector_size false slab.vector gone)

pub home_size : (given : Storage) (node : NodeState) → SameSize node (come_home given node).node
home_size (storage.Pages block) node = record { slabs = refl; vectors = refl }
home_size (storage.Object home frame place vector holds) node = place_size frame place node (slab_at frame node)
home_size (storage.Uncounted home frame place) node = place_size frame place node (slab_at frame node)

one_given_size : (given : Storage) (node : NodeState) (w : WorkerState) → SameSize node w.seat.node → SameSize node (one_given given w).seat.node
one_given_size (storage.Pages block) node w h = h
one_given_size (storage.Object home frame place vector holds) node w h = h
one_given_size (storage.Uncounted home frame place) node w h = h

allocated_size : (key order : ℕ) (given : Option Given) (w : WorkerState) → MaybeSize w.seat.node given → SameSize w.seat.node (allocated key order given w).seat.node
allocated_size key order None w h = same_size w.seat.node
allocated_size key order (Some given) w h = one_given_size given.storage w.seat.node (with_moves given.moves (with_node given.node (with_live (put key (Stored given.storage) w.live) w))) h

back_size : (content : Content) (w : WorkerState) → SameSize w.seat.node (given_back content w).seat.node
back_size (Nothing order) w = same_size w.seat.node
back_size (Stored given) w = by (is_home given w)
  where
    by : (b : Bool) → SameSize w.seat.node (cond {A = WorkerState} b (with_taken (come_home given w.seat.node) w) (sent_home given w)).seat.node
    by true = home_size given w.seat.node
    by false = same_size w.seat.node

step_size : (entries : List Entry) (what : TraceOp) (w : WorkerState) → SameSize w.seat.node (done entries what w).seat.node
step_size entries (op.Page key order) w = allocated_size key order (given_block (current_tag w) order w.seat.node) w (block_size (current_tag w) order w.seat.node)
step_size entries (op.Kmalloc key size) w = allocated_size key 0 (given_object (current_tag w) size w.seat.node) w (object_size (current_tag w) size w.seat.node)
step_size entries (op.Free key) w = back_size (content_at key w.live) (with_moves (close_moves (cpu_of w) (held_of (content_at key w.live))) (with_live (without key w.live) w))
step_size entries (op.Split key order first) w = same_size w.seat.node
step_size entries (op.Swap one two) w = same_size w.seat.node
step_size entries (op.Trim key pages) w = same_size w.seat.node
step_size entries (op.Hook section index) w = same_size w.seat.node
step_size entries op.Unhook w = same_size w.seat.node
step_size entries (op.Enter section) w = same_size w.seat.node
step_size entries (op.Leave section) w = same_size w.seat.node
step_size entries (op.Unload section) w = same_size w.seat.node

all_size : (entries : List Entry) (ops : List TraceOp) (w : WorkerState) → SameSize w.seat.node (all_done entries ops w).seat.node
all_size entries [] w = same_size w.seat.node
all_size entries (what ∷ ops) w = size_then w.seat.node (done entries what w).seat.node _ (step_size entries what w) (all_size entries ops (done entries what w))

-- each seat is as large as it was made
pub record Sized (count frames vectors : ℕ) (m : Machine) : Type 0 where
  pub long : length m.seats ≡ count
  pub sizes : (h : ℕ) → h < count → (length (seat_at h m).node.slabs ≡ frames) × (length (seat_at h m).node.vectors ≡ vectors)

-- where one seat's node changes
seat_changes : (count frames vectors : ℕ) (m now : Machine) (at : ℕ) (seat : Seat) → now.seats ≡ set m.seats at seat → (at < count → SameSize (seat_at at m).node seat.node) → Sized count frames vectors m → Sized count frames vectors now
seat_changes count frames vectors m now at seat are same s = record {
  long = ap length are ∙ length-set m.seats at seat ∙ s.long;
  sizes = λ h low.
      subst (λ seats. (length (get_or seats h (fresh_seat 0 0 h)).node.slabs ≡ frames) × (length (get_or seats h (fresh_seat 0 0 h)).node.vectors ≡ vectors)) (sym are)
      (by_bool {P = (length (get_or (set m.seats at seat) h (fresh_seat 0 0 h)).node.slabs ≡ frames) × (length (get_or (set m.seats at seat) h (fresh_seat 0 0 h)).node.vectors ≡ vectors)} (eqb h at)
      (λ e.
      let is : h ≡ at = eqb-true h at e in
      let there = get_or-set_at m.seats at h seat (fresh_seat 0 0 h) is (omega (arith, s.long)) in
      let old = s.sizes at (omega arith) in
      let size = same (omega arith) in
      (ap (λ (x : Seat). length x.node.slabs) there ∙ size.slabs ∙ old.0, ap (λ (x : Seat). length x.node.vectors) there ∙ size.vectors ∙ old.1))
      (λ e.
      let there = get_or-set_other m.seats at h seat (fresh_seat 0 0 h) (eqb-false h at e) in
      let old = s.sizes h low in
      (ap (λ (x : Seat). length x.node.slabs) there ∙ old.0, ap (λ (x : Seat). length x.node.vectors) there ∙ old.1)));
}

none_sized : (seats : List Seat) (h : ℕ) (d : Seat) → (get_or (map none_returning seats) h (none_returning d)).node ≡ (get_or seats h d).node
none_sized [] h d = refl
none_sized (seat ∷ seats) zero d = refl
none_sized (seat ∷ seats) (suc h) d = none_sized seats h d

round_sized : (count frames vectors : ℕ) (ops : List OnOp) (m : Machine) → Sized count frames vectors m → Sized count frames vectors (round_done ops m)
round_sized count frames vectors ops m s =
    let left = cpus_done ops m in
    let marked = modules_done ops left in
    let turns : Sized count frames vectors left =
    fold_keeps (Sized count frames vectors) (cpu_done ops)
    (λ x cpu h. seat_changes count frames vectors x (cpu_done ops x cpu) cpu _ refl (λ low. all_size x.area.entries (ops_of cpu ops) (worker_at cpu x)) h)
    (range_with_len 0 (length m.seats)) m s in
    let same = modules_seats ops left in
    let out : Sized count frames vectors (none_on_its_way marked) = record {
      long = length-map marked.seats none_returning ∙ ap length same ∙ turns.long;
      sizes = λ h low.
          let n = none_sized marked.seats h (fresh_seat 0 0 h) ∙ ap (λ seats. (get_or seats h (fresh_seat 0 0 h)).node) same in
          let old = turns.sizes h low in
          (ap (λ (x : NodeState). length x.slabs) n ∙ old.0, ap (λ (x : NodeState). length x.vectors) n ∙ old.1);
    } in
    let home = fold_keeps (Sized count frames vectors) storage_home
    (λ x given h. seat_changes count frames vectors x (storage_home x given) (home_of given) _ refl (λ low. home_size given (seat_at (home_of given) x).node) h)
    (on_its_way marked) (none_on_its_way marked) out in
    record { long = home.long; sizes = home.sizes }

item_sized : (count frames vectors : ℕ) (trace : Trace) (top : Option ℕ) (what : Item) (p : Played) → Sized count frames vectors p.machine → Sized count frames vectors (item_played trace top what p).machine
item_sized count frames vectors trace top (item.Round ops) p s = round_sized count frames vectors ops p.machine s
item_sized count frames vectors trace top (item.Load line section) p s = record { long = s.long; sizes = s.sizes }
item_sized count frames vectors trace top item.Print p s = s
item_sized count frames vectors trace top item.Areas p s = s

pub sized_after : (trace : Trace) (top : Option ℕ) (items : List Item) → Sized trace.cpus trace.frames trace.vectors (played_so_far trace top items).played.machine
sized_after trace top items =
    play_keeps (Sized trace.cpus trace.frames trace.vectors) trace top (item_sized trace.cpus trace.frames trace.vectors trace top) items (nothing_played trace)
    (record {
      long = length-map-range_with_len (fresh_seat trace.frames trace.vectors) 0 trace.cpus;
      sizes = λ h low.
          let there = get_or-map-range_with_len (fresh_seat trace.frames trace.vectors) 0 trace.cpus h h (fresh_seat 0 0 h) low (omega arith) in
          (ap (λ (x : Seat). length x.node.slabs) there ∙ length-replicate trace.frames None, ap (λ (x : Seat). length x.node.vectors) there ∙ length-replicate trace.vectors false);
    })

-- ---- a checked trace

pub in_their_cells : (k : Shape) (trace : Trace) (top : Option ℕ) → HasRoom k trace → IsFormedTrace trace → rounds_of trace ≡ Ok tt → (front back : List Item) → trace.body ≡ front ++ back
    → (i : ℕ) (entry : Slot × Held) → slice_get (live_cells (played_so_far trace top front).played.machine) i ≡ Some entry → IsInItsCell k (played_so_far trace top front).played.machine entry
in_their_cells k trace top room formed passes front back stands i entry e =
    let m = (played_so_far trace top front).played.machine in
    let s = machines_are_sound trace top formed passes front back stands in
    let z = sized_after trace top front in
    let few = room.cpus in
    let all = all_in_range k m trace.frames trace.vectors s (omega (arith, z.long)) room.frames room.vectors (λ h low. z.sizes h (omega (arith, z.long))) in
    let slot = each_at (λ (x : Slot × Held). IsSlot k x.0) (live_cells m) i entry e all in
    record {
      slot = slot;
      holds = ap held_or_none (found_there k entry.0 entry.1 (live_cells m) i slot all (no_two m s entry.0) e);
    }
