-- How many references a checked trace has at most.
use Rattle.std.proofs.Common.{◌≡◌, ℕ, ◌+◌, ◌-◌, ◌*◌, ◌<◌, ◌≤◌, Bool, true, false, cond, T, eqb, List, [], ◌∷◌, length, get_or, Option, Some, None, nat_cmp, Less, refl, sym, ap, ◌∙◌, subst, arith, eq-eqb, eqb-true, length-append, ⊎_elim}
use Rattle.std.specs.Prelude.{⊤}
use Rattle.std.specs.List.{enumerate_from, flat_map}
use Rattle.std.specs.Cmp.{ranked, unsigned_tied}
use Rattle.std.specs.FinMap.Entries.{below_all, find, is_sorted}
use Rattle.std.proofs.lemmas.Bool.{cases_lt}
use Rattle.std.proofs.lemmas.List.{get_or_default, get_or_past}
use Rattle.std.proofs.lemmas.List.Concat.{length-flat_map}
use Rattle.std.proofs.lemmas.List.FromFn.{length-enumerate_from}
use Rattle.std.proofs.lemmas.List.Sums.{sum_by-cons, sum_by-le}
use Rattle.tag_model.specs.declared.state.Held.{Held}
use Rattle.tag_model.specs.declared.state.Held.TheVariants as held
use Rattle.tag_model.specs.declared.state.Kind.TheVariants.{Calls}
use Rattle.tag_model.specs.Index.{Slot}
use Rattle.tag_model.specs.Reference.{held_counts, live_total}
use Rattle.slab_cache.specs.Slabs.{Slab}
use Rattle.slab_cache.specs.Storage.{Object, Pages, Uncounted}
use Rattle.round_check.specs.declared.keys.KeyState.{KeyState}
use Rattle.round_check.specs.Keys.{key_at}
use Rattle.round_check.specs.Tables.{unbound}
use Rattle.round_check.proofs.Named.{by_bool}
use Rattle.trace_play.specs.Live.{Content, Live, Nothing, Stored}
use Rattle.trace_play.specs.Machine.{Machine, content_cell, fresh_seat, live_cells, seat_at, slab_cell, slab_cells}
use Rattle.trace_play.specs.Worker.{Seat}
use Rattle.trace_play.specs.Fits.{Agree, IsBoundAs, entry_at}
use Rattle.trace_play.proofs.Entries.{find_below, first_true, less, second_true}
use Rattle.trace_play.proofs.CellsFound.{Sized}

-- ---- keys

key_low : (keys : List KeyState) (live : Live) → length keys ≡ 65536 → Agree keys live → (key : ℕ) (content : Content) → entry_at key live ≡ Some content → key < 65536
key_low keys live long agree key content is = ⊎_elim (λ low. low) (λ high. absurd (none (omega (arith, long, high)))) (cases_lt key 65536)
  where
    none : length keys ≤ key → ⊥
    none past =
        let beyond : key_at keys key ≡ unbound = get_or_past keys key unbound past in
        subst (λ (o : Option Content). IsBoundAs None o) is (subst (λ (s : KeyState). IsBoundAs s.bound (entry_at key live)) beyond (agree key))

abbrev Low : ℕ → Live → Type 0
Low n [] = ⊤
Low n (e ∷ es) = (e.0 < n) × Low n es

abbrev Above : ℕ → Live → Type 0
Above n [] = ⊤
Above n (e ∷ es) = (n ≤ e.0) × Above n es

all_low : (n : ℕ) (es : Live) → T (is_sorted nat_cmp es) → ((key : ℕ) (content : Content) → find nat_cmp key es ≡ Some content → key < n) → Low n es
all_low n [] up found = tt
all_low n (e ∷ es) up found = (
  found e.0 e.1 (ap (λ b. cond b (Some e.1) (find nat_cmp e.0 es)) (unsigned_tied e.0 e.0 ∙ same e.0)),
  all_low n es (second_true _ _ up)
      (λ key content is.
      by_bool {P = key < n} (eqb key e.0)
      (λ t. let none = find_below e.0 es (first_true _ _ up) in let no : ⊥ = cc (is, ap (λ k. find nat_cmp k es) (eqb-true key e.0 t), none) in absurd no)
      (λ t. found key content (ap (λ b. cond b (Some e.1) (find nat_cmp key es)) (unsigned_tied key e.0 ∙ t) ∙ is))),
)
  where
    same : (n : ℕ) → eqb n n ≡ true
    same n = eq-eqb n n refl

above : (x : ℕ) (es : Live) → T (below_all nat_cmp x es) → Above (x + 1) es
above x [] h = tt
above x (e ∷ es) h = (let l : x < e.0 = ranked x e.0 Less (sym (less _ (first_true _ _ h))) in omega (arith, l), above x es (second_true _ _ h))

count_low : (n from : ℕ) (es : Live) → T (is_sorted nat_cmp es) → Low n es → Above from es → length es ≤ n - from
count_low n from [] up low high = omega arith
count_low n from (e ∷ es) up low high =
    let rest = count_low n (e.0 + 1) es (second_true _ _ up) low.1 (above e.0 es (first_true _ _ up)) in
    omega (arith, low.0, high.0, rest)

from_none : (es : Live) → Above 0 es
from_none [] = tt
from_none (e ∷ es) = (omega arith, from_none es)

-- ---- cells

one_cell : (content : Content) → length (content_cell content) ≤ 1
one_cell (Nothing order) = omega arith
one_cell (Stored (Pages block)) = omega arith
one_cell (Stored (Object home frame place vector holds)) = omega arith
one_cell (Stored (Uncounted home frame place)) = omega arith

one_slab : (cpu frame : ℕ) (slab : Option Slab) → length (slab_cell cpu frame slab) ≤ 1
one_slab cpu frame None = omega arith
one_slab cpu frame (Some slab) = omega arith

flat_most : {X A : Type 0} (f : X → List A) (most : ℕ) (xs : List X) → ((n : ℕ) (d : X) → n < length xs → length (f (get_or xs n d)) ≤ most) → length (flat_map f xs) ≤ length xs * most
flat_most f most xs each = subst (λ n. n ≤ length xs * most) (sym (length-flat_map f xs)) (sum_by-le (λ x. length (f x)) most xs each)

pub few_cells : (trace_cpus frames vectors : ℕ) (keys : List KeyState) (m : Machine) → trace_cpus ≤ 64 → frames ≤ 1024 → length keys ≡ 65536 → Agree keys m.live → T (is_sorted nat_cmp m.live) → Sized trace_cpus frames vectors m → length (live_cells m) ≤ 131072
few_cells count frames vectors keys m cpus few long agree up s =
    let low = all_low 65536 m.live up (key_low keys m.live long agree) in
    let keys_most = count_low 65536 0 m.live up low (from_none m.live) in
    let live_most = flat_most (λ (e : ℕ × Content). content_cell e.1) 1 m.live (λ n d below. one_cell _) in
    let seat_most : (n : ℕ) (d : Seat) → n < length m.seats → length (slab_cells (get_or m.seats n d).node) ≤ frames =
    λ n d below.
    let same : get_or m.seats n d ≡ seat_at n m = get_or_same m.seats n d (fresh_seat 0 0 n) below in
    let size = (s.sizes n (omega (arith, s.long, below))).0 in
    let here = flat_most (λ (e : ℕ × Option Slab). slab_cell (seat_at n m).node.node.cpu e.0 e.1) 1 (enumerate_from 0 (seat_at n m).node.slabs) (λ k e low. one_slab _ _ _) in
    subst (λ (x : Seat). length (slab_cells x.node) ≤ frames) (sym same) (omega (arith, here, length-enumerate_from 0 (seat_at n m).node.slabs, size)) in
    let slabs_most = flat_most (λ (seat : Seat). slab_cells seat.node) frames m.seats seat_most in
    let most : length m.seats * frames ≤ 64 * 1024 = mul_most (length m.seats) frames (omega (arith, s.long, cpus)) few in
    omega (arith, length-append (flat_map (λ (e : ℕ × Content). content_cell e.1) m.live) (flat_map (λ (seat : Seat). slab_cells seat.node) m.seats), live_most, keys_most, slabs_most, most)
  where
    get_or_same : {X : Type 0} (xs : List X) (n : ℕ) (d e : X) → n < length xs → get_or xs n d ≡ get_or xs n e
    get_or_same xs n d e below = get_or_default xs n d e below

    mul_most : (a b : ℕ) → a ≤ 64 → b ≤ 1024 → a * b ≤ 64 * 1024
    mul_most a b p q = grind arith

-- ---- calls

pub calls_most : (t : ℕ) (cells : List (Slot × Held)) → live_total Calls t cells ≤ length cells
calls_most t [] = omega arith
calls_most t (cell ∷ cells) = omega (arith, sum_by-cons (λ (entry : Slot × Held). held_counts Calls t entry.1) cell cells, one cell.1, calls_most t cells)
  where
    by : (b : Bool) → cond {A = ℕ} b 1 0 ≤ 1
    by true = omega arith
    by false = omega arith

    one : (h : Held) → held_counts Calls t h ≤ 1
    one held.None = omega arith
    one held.Empty = omega arith
    one (held.Counted tag size) = by (eqb tag.number t)
