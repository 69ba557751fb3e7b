-- In a sound machine no slot of the table has two references.
use Rattle.std.proofs.Common.{◌≡◌, ◌≢◌, ℕ, zero, suc, ◌+◌, ◌<◌, ◌≤◌, Bool, true, false, cond, not, eqb, ltb, List, [], ◌∷◌, length, get_or, Option, Some, None, refl, sym, ap, ◌∙◌, subst, arith, eqb-true, ne_eqb, ltb-true, ltb-false}
use Rattle.std.specs.Prelude.{◌&&◌, sum_by, count_by}
use Rattle.std.specs.List.{flat_map, enumerate_from}
use Rattle.std.proofs.lemmas.List.Sums.{sum_by-cons, sum_by-append, sum_by-le-sum_by}
use Rattle.std.proofs.lemmas.Bool.{and_parts, and_from}
use Rattle.tag_model.specs.declared.state.Held.{Held}
use Rattle.tag_model.specs.declared.state.Kind.{Kind}
use Rattle.tag_model.specs.Index.{Slot, Word, Page, Object}
use Rattle.slab_cache.specs.Classes.{slab_order}
use Rattle.slab_cache.specs.Slabs.{Slab, slab_held}
use Rattle.slab_cache.specs.Storage as storage
use Rattle.slab_cache.specs.Storage.{Storage}
use Rattle.trace_play.specs.Live.{Content, Nothing, Stored, Live}
use Rattle.trace_play.specs.Worker.{Seat}
use Rattle.trace_play.specs.Machine.{Machine, fresh_seat, seat_at, content_cell, slab_cell, slab_cells}
use Rattle.trace_play.specs.Owned.{one_if, is_in, has_frame, has_cell_of, is_taken, same_vector, slab_has_frame, slab_has_vector, slab_has_cell, slabs_sum}
use Rattle.trace_play.specs.Sound.{content_weight, live_sum, storage_sum, is_away, IsSound, same_slot, references_in}
use Rattle.trace_play.proofs.NodeLemmas.{starts_in, same_number}
use Rattle.round_check.proofs.Named.{by_bool}

-- ---- counts

abbrev in_slot : Slot → Slot × Held → Bool
in_slot slot entry = same_slot slot entry.0

pub count_flat : {X A : Type 0} (p : A → Bool) (f : X → List A) (xs : List X) → count_by p (flat_map f xs) ≡ sum_by (λ x. count_by p (f x)) xs
count_flat p f [] = refl
count_flat p f (x ∷ xs) = sum_by-append (λ a. cond {A = ℕ} (p a) 1 0) (f x) (flat_map f xs) ∙ ap (λ n. count_by p (f x) + n) (count_flat p f xs) ∙ sym (sum_by-cons (λ x. count_by p (f x)) x xs)

references_are : (slot : Slot) (m : Machine) → references_in slot m ≡ sum_by (λ (entry : ℕ × Content). count_by (in_slot slot) (content_cell entry.1)) m.live + sum_by (λ (seat : Seat). count_by (in_slot slot) (slab_cells seat.node)) m.seats
references_are slot m =
    sum_by-append (λ (e : Slot × Held). cond {A = ℕ} (in_slot slot e) 1 0) (flat_map (λ (entry : ℕ × Content). content_cell entry.1) m.live) (flat_map (λ (seat : Seat). slab_cells seat.node) m.seats)
    ∙ (λ i. count_flat (in_slot slot) (λ (entry : ℕ × Content). content_cell entry.1) m.live i + count_flat (in_slot slot) (λ (seat : Seat). slab_cells seat.node) m.seats i)

-- a sum in which one place alone may have something
only_one : {X : Type 0} (g : X → ℕ) (xs : List X) (h bound : ℕ) (d : X) → (h < length xs → g (get_or xs h d) ≤ bound) → ((i : ℕ) → i < length xs → i ≢ h → g (get_or xs i d) ≡ 0) → sum_by g xs ≤ bound
only_one g [] h bound d here none = omega arith
only_one g (x ∷ xs) zero bound d here none =
    let rest = only_one g xs (length xs) 0 d (λ low. absurd (omega arith)) (λ i low differ. none (suc i) (omega arith) (λ e. omega arith)) in
    let first = here (omega arith) in
    omega (arith, sum_by-cons g x xs)
only_one g (x ∷ xs) (suc h) bound d here none =
    let rest = only_one g xs h bound d (λ low. here (omega arith)) (λ i low differ. none (suc i) (omega arith) (λ e. omega arith)) in
    let first = none 0 (omega arith) (λ e. omega arith) in
    omega (arith, sum_by-cons g x xs)

-- ---- one content

one_le : (a b : Bool) → (a ≡ true → b ≡ true) → one_if a ≤ one_if b
one_le true b h = let e = ap one_if (h refl) in omega arith
one_le false b h = omega arith

one_of : (b : Bool) → cond {A = ℕ} b 1 0 ≤ one_if b
one_of true = omega arith
one_of false = omega arith

page_one : (h f : ℕ) (content : Content) → count_by (in_slot (Page h f)) (content_cell content) ≤ content_weight (has_frame h f) content
page_one h f (Nothing order) = omega arith
page_one h f (Stored (storage.Pages block)) =
    let le = one_le (eqb h block.home && eqb f block.frame) (eqb block.home h && is_in f block.frame block.order)
    (λ e. let b = and_parts (eqb h block.home) (eqb f block.frame) e in
    and_from (eqb block.home h) (is_in f block.frame block.order) (ap (λ n. eqb block.home n) (eqb-true h block.home b.0) ∙ same_number block.home) (ap (λ n. is_in n block.frame block.order) (eqb-true f block.frame b.1) ∙ starts_in block.frame block.order)) in
    let c = one_of (eqb h block.home && eqb f block.frame) in
    omega arith
page_one h f (Stored (storage.Object home frame place vector holds)) = omega arith
page_one h f (Stored (storage.Uncounted home frame place)) = omega arith

object_one : (h v p : ℕ) (content : Content) → count_by (in_slot (Object h v p)) (content_cell content) ≤ content_weight (has_cell_of h v p) content
object_one h v p (Nothing order) = omega arith
object_one h v p (Stored (storage.Pages block)) = omega arith
object_one h v p (Stored (storage.Object home frame place vector holds)) =
    let le = one_le (eqb h home && (eqb v vector && eqb p place)) (eqb home h && (eqb place p && eqb v vector))
    (λ e. let b = and_parts (eqb h home) (eqb v vector && eqb p place) e in let c = and_parts (eqb v vector) (eqb p place) b.1 in
    and_from (eqb home h) (eqb place p && eqb v vector) (ap (λ n. eqb home n) (eqb-true h home b.0) ∙ same_number home) (and_from (eqb place p) (eqb v vector) (ap (λ n. eqb place n) (eqb-true p place c.1) ∙ same_number place) c.0)) in
    let c = one_of (eqb h home && (eqb v vector && eqb p place)) in
    omega arith
object_one h v p (Stored (storage.Uncounted home frame place)) = omega arith

word_one : (a t : ℕ) (kind : Kind) (content : Content) → count_by (in_slot (Word a kind t)) (content_cell content) ≤ content_weight (λ given. 0) content
word_one a t kind (Nothing order) = omega arith
word_one a t kind (Stored (storage.Pages block)) = omega arith
word_one a t kind (Stored (storage.Object home frame place vector holds)) = omega arith
word_one a t kind (Stored (storage.Uncounted home frame place)) = omega arith

-- a weight of a home that is no CPU's is 0
frame_away : (h f count : ℕ) (given : Storage) → count ≤ h → has_frame h f given ≤ is_away count given
frame_away h f count (storage.Pages block) high =
    one_le (eqb block.home h && is_in f block.frame block.order) (not (ltb block.home count))
    (λ e. let b = and_parts (eqb block.home h) (is_in f block.frame block.order) e in let same = eqb-true block.home h b.0 in not_below block.home count (omega arith))
  where
    not_below : (a b : ℕ) → b ≤ a → not (ltb a b) ≡ true
    not_below a b low = by_bool (ltb a b) (λ t. let l = ltb-true a b t in absurd (omega arith)) (λ t. ap not t)
frame_away h f count (storage.Object home frame place vector holds) high = omega arith
frame_away h f count (storage.Uncounted home frame place) high = omega arith

cell_away : (h v p count : ℕ) (given : Storage) → count ≤ h → has_cell_of h v p given ≤ is_away count given
cell_away h v p count (storage.Pages block) high = omega arith
cell_away h v p count (storage.Object home frame place vector holds) high =
    one_le (eqb home h && (eqb place p && eqb v vector)) (not (ltb home count))
    (λ e. let b = and_parts (eqb home h) (eqb place p && eqb v vector) e in let same = eqb-true home h b.0 in not_below home count (omega arith))
  where
    not_below : (a b : ℕ) → b ≤ a → not (ltb a b) ≡ true
    not_below a b low = by_bool (ltb a b) (λ t. let l = ltb-true a b t in absurd (omega arith)) (λ t. ap not t)
cell_away h v p count (storage.Uncounted home frame place) high = omega arith

live_le : (f g : Storage → ℕ) (live : Live) → ((given : Storage) → f given ≤ g given) → live_sum f live ≤ live_sum g live
live_le f g live le = sum_by-le-sum_by (λ (e : ℕ × Content). content_weight f e.1) (λ (e : ℕ × Content). content_weight g e.1) live (λ e. by e.1)
  where
    by : (content : Content) → content_weight f content ≤ content_weight g content
    by (Nothing order) = omega arith
    by (Stored given) = le given

no_weight : (live : Live) → live_sum (λ given. 0) live ≡ 0
no_weight [] = refl
no_weight (e ∷ live) = sum_by-cons (λ (x : ℕ × Content). content_weight (λ given. 0) x.1) e live ∙ (λ i. zero_one e.1 i + no_weight live i)
  where
    zero_one : (content : Content) → content_weight (λ given. 0) content ≡ 0
    zero_one (Nothing order) = refl
    zero_one (Stored given) = refl

-- ---- the slabs of a node

slab_one : (h f cpu start : ℕ) (slab : Option Slab) → count_by (in_slot (Page h f)) (slab_cell cpu start slab) ≤ slab_has_frame f start slab
slab_one h f cpu start None = omega arith
slab_one h f cpu start (Some slab) =
    let le = one_le (eqb h cpu && eqb f start) (is_in f start (slab_order slab.class)) (λ e. let b = and_parts (eqb h cpu) (eqb f start) e in ap (λ n. is_in n start (slab_order slab.class)) (eqb-true f start b.1) ∙ starts_in start (slab_order slab.class)) in
    let c = one_of (eqb h cpu && eqb f start) in
    omega arith

slab_else : (h f cpu start : ℕ) (slab : Option Slab) → h ≢ cpu → count_by (in_slot (Page h f)) (slab_cell cpu start slab) ≡ 0
slab_else h f cpu start None differ = refl
slab_else h f cpu start (Some slab) differ = ap (λ b. 0 + cond {A = ℕ} (b && eqb f start) 1 0) (ne_eqb h cpu differ)

slabs_count : (slot : Slot) (cpu : ℕ) (slabs : List (Option Slab)) (from : ℕ) → count_by (in_slot slot) (flat_map (λ (entry : ℕ × Option Slab). slab_cell cpu entry.0 entry.1) (enumerate_from from slabs)) ≡ slabs_sum (λ start slab. count_by (in_slot slot) (slab_cell cpu start slab)) from slabs
slabs_count slot cpu [] from = refl
slabs_count slot cpu (slab ∷ slabs) from =
    sum_by-append (λ (e : Slot × Held). cond {A = ℕ} (in_slot slot e) 1 0) (slab_cell cpu from slab) (flat_map (λ (entry : ℕ × Option Slab). slab_cell cpu entry.0 entry.1) (enumerate_from (from + 1) slabs))
    ∙ ap (λ n. count_by (in_slot slot) (slab_cell cpu from slab) + n) (slabs_count slot cpu slabs (from + 1))

slabs_le : (f g : ℕ → Option Slab → ℕ) → ((start : ℕ) (slab : Option Slab) → f start slab ≤ g start slab) → (slabs : List (Option Slab)) (from : ℕ) → slabs_sum f from slabs ≤ slabs_sum g from slabs
slabs_le f g le [] from = omega arith
slabs_le f g le (slab ∷ slabs) from = let a = le from slab in let b = slabs_le f g le slabs (from + 1) in omega arith

slabs_zero : (f : ℕ → Option Slab → ℕ) → ((start : ℕ) (slab : Option Slab) → f start slab ≡ 0) → (slabs : List (Option Slab)) (from : ℕ) → slabs_sum f from slabs ≡ 0
slabs_zero f none [] from = refl
slabs_zero f none (slab ∷ slabs) from = let a = none from slab in let b = slabs_zero f none slabs (from + 1) in omega arith

cell_in_slab : (v p start : ℕ) (slab : Option Slab) → slab_has_cell v p start slab ≤ slab_has_vector v start slab
cell_in_slab v p start None = omega arith
cell_in_slab v p start (Some slab) = one_le (is_taken p slab && same_vector (Some v) slab.vector) (same_vector (Some v) slab.vector) (λ e. (and_parts (is_taken p slab) (same_vector (Some v) slab.vector) e).1)

other_slot : (slot : Slot) (cpu start : ℕ) (slab : Option Slab) → ((held : Held) → same_slot slot (Page cpu start) ≡ false) → count_by (in_slot slot) (slab_cell cpu start slab) ≡ 0
other_slot slot cpu start None differ = refl
other_slot slot cpu start (Some slab) differ = ap (λ b. 0 + cond {A = ℕ} b 1 0) (differ (slab_held slab.class))

one_at_most : (b : Bool) → one_if b ≤ 1
one_at_most true = omega arith
one_at_most false = omega arith

-- ---- a sound machine

module _ (m : Machine) (s : IsSound m) where
  away_sum : live_sum (is_away (length m.seats)) m.live ≡ 0
  away_sum = let h = s.homes in omega arith

  live_pages : (h f : ℕ) → sum_by (λ (entry : ℕ × Content). count_by (in_slot (Page h f)) (content_cell entry.1)) m.live ≤ live_sum (has_frame h f) m.live
  live_pages h f = sum_by-le-sum_by (λ (e : ℕ × Content). count_by (in_slot (Page h f)) (content_cell e.1)) (λ (e : ℕ × Content). content_weight (has_frame h f) e.1) m.live (λ e. page_one h f e.1)

  live_objects : (h v p : ℕ) → sum_by (λ (entry : ℕ × Content). count_by (in_slot (Object h v p)) (content_cell entry.1)) m.live ≤ live_sum (has_cell_of h v p) m.live
  live_objects h v p = sum_by-le-sum_by (λ (e : ℕ × Content). count_by (in_slot (Object h v p)) (content_cell e.1)) (λ (e : ℕ × Content). content_weight (has_cell_of h v p) e.1) m.live (λ e. object_one h v p e.1)

  node_count : (slot : Slot) (seat : Seat) → count_by (in_slot slot) (slab_cells seat.node) ≡ slabs_sum (λ start slab. count_by (in_slot slot) (slab_cell seat.node.node.cpu start slab)) 0 seat.node.slabs
  node_count slot seat = slabs_count slot seat.node.node.cpu seat.node.slabs 0

  seats_pages : (h f bound : ℕ) → (h < length m.seats → slabs_sum (slab_has_frame f) 0 (seat_at h m).node.slabs ≤ bound) → sum_by (λ (seat : Seat). count_by (in_slot (Page h f)) (slab_cells seat.node)) m.seats ≤ bound
  seats_pages h f bound here =
      only_one (λ (seat : Seat). count_by (in_slot (Page h f)) (slab_cells seat.node)) m.seats h bound (fresh_seat 0 0 h)
      (λ low.
      let le = slabs_le (λ start slab. count_by (in_slot (Page h f)) (slab_cell (seat_at h m).node.node.cpu start slab)) (slab_has_frame f) (λ start slab. slab_one h f (seat_at h m).node.node.cpu start slab) (seat_at h m).node.slabs 0 in
      let c = node_count (Page h f) (seat_at h m) in
      let b = here low in
      omega arith)
      (λ i low differ.
      let same : get_or m.seats i (fresh_seat 0 0 h) ≡ seat_at i m = any_default m.seats i (fresh_seat 0 0 h) (fresh_seat 0 0 i) low in
      ap (λ (seat : Seat). count_by (in_slot (Page h f)) (slab_cells seat.node)) same
      ∙ node_count (Page h f) (seat_at i m)
      ∙ slabs_zero (λ start slab. count_by (in_slot (Page h f)) (slab_cell (seat_at i m).node.node.cpu start slab)) (λ start slab. slab_else h f (seat_at i m).node.node.cpu start slab (λ e. differ (sym (e ∙ s.cpus i low)))) (seat_at i m).node.slabs 0)
    where
      any_default : (xs : List Seat) (i : ℕ) (c d : Seat) → i < length xs → get_or xs i c ≡ get_or xs i d
      any_default [] i c d low = absurd (omega arith)
      any_default (x ∷ xs) zero c d low = refl
      any_default (x ∷ xs) (suc i) c d low = any_default xs i c d (omega arith)

  seats_else : (slot : Slot) → ((cpu start : ℕ) → same_slot slot (Page cpu start) ≡ false) → sum_by (λ (seat : Seat). count_by (in_slot slot) (slab_cells seat.node)) m.seats ≡ 0
  seats_else slot differ = zeros m.seats
    where
      zeros : (seats : List Seat) → sum_by (λ (seat : Seat). count_by (in_slot slot) (slab_cells seat.node)) seats ≡ 0
      zeros [] = refl
      zeros (seat ∷ seats) =
          sum_by-cons (λ (x : Seat). count_by (in_slot slot) (slab_cells x.node)) seat seats
          ∙ (λ i. (slabs_count slot seat.node.node.cpu seat.node.slabs 0 ∙ slabs_zero (λ start slab. count_by (in_slot slot) (slab_cell seat.node.node.cpu start slab)) (λ start slab. other_slot slot seat.node.node.cpu start slab (λ held. differ seat.node.node.cpu start)) seat.node.slabs 0) i + zeros seats i)

  pub no_two : (slot : Slot) → references_in slot m ≤ 1
  no_two (Page h f) =
      let r = references_are (Page h f) m in
      let live = live_pages h f in
      by_bool (ltb h (length m.seats))
      (λ t.
      let low = ltb-true h (length m.seats) t in
      let node = s.nodes h low in
      let cpu = s.cpus h low in
      let seats = seats_pages h f (slabs_sum (slab_has_frame f) 0 (seat_at h m).node.slabs) (λ _. omega arith) in
      let frames = subst (λ c. storage_sum m (has_frame c f) + slabs_sum (slab_has_frame f) 0 (seat_at h m).node.slabs ≡ one_if (get_or (seat_at h m).node.node.frames f false)) cpu (node.frames f) in
      let most = one_at_most (get_or (seat_at h m).node.node.frames f false) in
      omega arith)
      (λ t.
      let high = ltb-false h (length m.seats) t in
      let none = live_le (has_frame h f) (is_away (length m.seats)) m.live (λ given. frame_away h f (length m.seats) given high) in
      let a = away_sum in
      let seats = seats_pages h f 0 (λ low. absurd (omega arith)) in
      omega arith)
  no_two (Object h v p) =
      let r = references_are (Object h v p) m in
      let live = live_objects h v p in
      let seats = seats_else (Object h v p) (λ cpu start. refl) in
      by_bool (ltb h (length m.seats))
      (λ t.
      let low = ltb-true h (length m.seats) t in
      let node = s.nodes h low in
      let cpu = s.cpus h low in
      let cells = subst (λ c. storage_sum m (has_cell_of c v p) ≡ slabs_sum (slab_has_cell v p) 0 (seat_at h m).node.slabs) cpu (node.cells v p) in
      let le = slabs_le (slab_has_cell v p) (slab_has_vector v) (λ start slab. cell_in_slab v p start slab) (seat_at h m).node.slabs 0 in
      let vectors = node.vectors v in
      let most = one_at_most (get_or (seat_at h m).node.vectors v false) in
      omega arith)
      (λ t.
      let high = ltb-false h (length m.seats) t in
      let none = live_le (has_cell_of h v p) (is_away (length m.seats)) m.live (λ given. cell_away h v p (length m.seats) given high) in
      let a = away_sum in
      omega arith)
  no_two (Word a kind t) =
      let r = references_are (Word a kind t) m in
      let live = sum_by-le-sum_by (λ (e : ℕ × Content). count_by (in_slot (Word a kind t)) (content_cell e.1)) (λ (e : ℕ × Content). content_weight (λ given. 0) e.1) m.live (λ e. word_one a t kind e.1) in
      let none = no_weight m.live in
      let seats = seats_else (Word a kind t) (λ cpu start. refl) in
      omega arith
