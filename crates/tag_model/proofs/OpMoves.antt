-- The moves of an op are what it does to the bytes and the calls under each tag.
use Rattle.std.proofs.Common.{◌≡◌, ◌≢◌, ℕ, ◌+◌, ◌-◌, ◌*◌, ◌/◌, ◌%◌, ◌<◌, ◌==◌, Bool, true, false, cond, T, suc, List, [], ◌∷◌, length, IsTrue, ◌||◌, refl, ap, sym, ◌∙◌, subst, arith}
use Rattle.std.specs.List.{list_any}
use Rattle.std.proofs.Math.Nat.{mul_comm}
use Rattle.std.proofs.lemmas.List.Sums.{sum_by-cons}
use Rattle.std.proofs.lemmas.Nat.{div-add-mod'}
use Rattle.tag_model.specs.declared.state.Held.{Held}
use Rattle.tag_model.specs.declared.state.Held.TheVariants as held
use Rattle.tag_model.specs.declared.state.Kind.{Kind}
use Rattle.tag_model.specs.declared.state.Tag.{Tag}
use Rattle.tag_model.specs.declared.state.Kind.TheVariants.{Bytes, Calls}
use Rattle.tag_model.specs.Reference.{held_counts, live_total}
use Rattle.tag_model.specs.RefMoves.{part_of, trimmed, open_moves, close_moves, split_moves, trim_moves, all_up, all_down}
use Rattle.tag_model.specs.ListMachine.{Live, in_order, held_at, without, with_held, with_each, RefOp, Open, Mark, Close, Split, Swap, Trim, done, op_moves, MayDo, AreNew, is_even, LeavesSome, parts_of}
use Rattle.tag_model.proofs.LiveLists.{counts_with, held_in_order, held_elsewhere, held_here}

-- ---- one reference: what its moves add and take away

pub open_up : (cpu : ℕ) (kind : Kind) (t : ℕ) (h : Held) → all_up kind t (open_moves cpu h) ≡ held_counts kind t h
open_up cpu kind t held.None = refl
open_up cpu kind t held.Empty = refl
open_up cpu Bytes t (held.Counted tag size) = grind (arith, sum_by-cons)
open_up cpu Calls t (held.Counted tag size) = grind (arith, sum_by-cons)

pub open_down : (cpu : ℕ) (kind : Kind) (t : ℕ) (h : Held) → all_down kind t (open_moves cpu h) ≡ 0
open_down cpu kind t held.None = refl
open_down cpu kind t held.Empty = refl
open_down cpu Bytes t (held.Counted tag size) = grind (arith, sum_by-cons)
open_down cpu Calls t (held.Counted tag size) = grind (arith, sum_by-cons)

pub close_up : (cpu : ℕ) (kind : Kind) (t : ℕ) (h : Held) → all_up kind t (close_moves cpu h) ≡ 0
close_up cpu kind t held.None = refl
close_up cpu kind t held.Empty = refl
close_up cpu Bytes t (held.Counted tag size) = grind (arith, sum_by-cons)
close_up cpu Calls t (held.Counted tag size) = grind (arith, sum_by-cons)

pub close_down : (cpu : ℕ) (kind : Kind) (t : ℕ) (h : Held) → all_down kind t (close_moves cpu h) ≡ held_counts kind t h
close_down cpu kind t held.None = refl
close_down cpu kind t held.Empty = refl
close_down cpu Bytes t (held.Counted tag size) = grind (arith, sum_by-cons)
close_down cpu Calls t (held.Counted tag size) = grind (arith, sum_by-cons)

pub split_down : (cpu parts : ℕ) (kind : Kind) (t : ℕ) (h : Held) → all_down kind t (split_moves cpu parts h) ≡ 0
split_down cpu parts kind t held.None = refl
split_down cpu parts kind t held.Empty = refl
split_down cpu parts Bytes t (held.Counted tag size) = grind (arith, sum_by-cons)
split_down cpu parts Calls t (held.Counted tag size) = grind (arith, sum_by-cons)

pub equal_share : (parts size : ℕ) → IsTrue (size % parts == 0) → size ≡ parts * (size / parts)
equal_share parts size even =
    let rest : size % parts ≡ 0 = grind arith in
    let whole = div-add-mod' size parts in
    let turned = mul_comm parts (size / parts) in
    omega (arith, rest, whole, turned)

shared_bytes : (b : Bool) (parts size : ℕ) → IsTrue (size % parts == 0) → cond b size 0 ≡ parts * cond b (size / parts) 0
shared_bytes true parts size even = equal_share parts size even
shared_bytes false parts size even = omega arith

shared_calls : (b : Bool) (parts : ℕ) → 0 < parts → cond {A = ℕ} b (parts - 1) 0 + cond {A = ℕ} b 1 0 ≡ parts * cond {A = ℕ} b 1 0
shared_calls true parts some = omega (arith, some)
shared_calls false parts some = omega arith

pub split_up : (cpu parts : ℕ) (kind : Kind) (t : ℕ) (h : Held) → 0 < parts → IsTrue (is_even parts h) → all_up kind t (split_moves cpu parts h) + held_counts kind t h ≡ parts * held_counts kind t (part_of parts h)
split_up cpu parts kind t held.None some even = omega arith
split_up cpu parts kind t held.Empty some even = omega arith
split_up cpu parts Bytes t (held.Counted tag size) some even =
    let moved : all_up Bytes t (split_moves cpu parts (held.Counted tag size)) ≡ 0 = grind (arith, sum_by-cons) in
    omega (arith, moved, shared_bytes (tag.number == t) parts size even)
split_up cpu parts Calls t (held.Counted tag size) some even =
    let moved : all_up Calls t (split_moves cpu parts (held.Counted tag size)) ≡ cond (tag.number == t) (parts - 1) 0 = grind (arith, sum_by-cons) in
    omega (arith, moved, shared_calls (tag.number == t) parts some)

pub trim_up : (cpu bytes : ℕ) (kind : Kind) (t : ℕ) (h : Held) → all_up kind t (trim_moves cpu bytes h) ≡ 0
trim_up cpu bytes kind t held.None = refl
trim_up cpu bytes kind t held.Empty = refl
trim_up cpu bytes Bytes t (held.Counted tag size) = grind (arith, sum_by-cons)
trim_up cpu bytes Calls t (held.Counted tag size) = grind (arith, sum_by-cons)

pub trim_down : (cpu bytes : ℕ) (kind : Kind) (t : ℕ) (h : Held) → LeavesSome bytes h → held_counts kind t (trimmed bytes h) + all_down kind t (trim_moves cpu bytes h) ≡ held_counts kind t h
trim_down cpu bytes kind t held.None less = refl
trim_down cpu bytes kind t held.Empty less = refl
trim_down cpu bytes Bytes t (held.Counted tag size) less = grind (arith, sum_by-cons)
trim_down cpu bytes Calls t (held.Counted tag size) less = grind (arith, sum_by-cons)

-- ---- places that get the parts of a split

head_other : (a b : Bool) → (a || b) ≡ false → a ≡ false
head_other true b e = e
head_other false b e = refl

tail_other : (a b : Bool) → (a || b) ≡ false → b ≡ false
tail_other true b e = cc
tail_other false b e = e

test_apart : (p k : ℕ) → (p == k) ≡ false → p ≢ k
test_apart p k e = grind arith

test_other : (p k : ℕ) → p ≢ k → (p == k) ≡ false
test_other p k ne = grind arith

-- a place among the others is written: those behind it are still new
still_new : (others : List ℕ) (place k : ℕ) (h : Held) (es : Live) → AreNew others place es → list_any (λ p. p == k) others ≡ false → AreNew others place (with_held k h es)
still_new [] place k h es new lacks = tt
still_new (p ∷ ps) place k h es new lacks =
    let ne : p ≢ k = test_apart p k (head_other (p == k) (list_any (λ p. p == k) ps) lacks) in
    (held_elsewhere p k h es ne ∙ new.0, new.1, new.2, still_new ps place k h es new.3 (tail_other (p == k) (list_any (λ p. p == k) ps) lacks))

-- the first place isn't among the others
lacks_first : (others : List ℕ) (place : ℕ) (es : Live) → AreNew others place es → list_any (λ p. p == place) others ≡ false
lacks_first [] place es new = refl
lacks_first (p ∷ ps) place es new = rw (test_other p place new.1) (lacks_first ps place es new.3)

suc_times : (n c : ℕ) → suc n * c ≡ n * c + c
suc_times n c = grind arith

each_counts : (kind : Kind) (t : ℕ) (h : Held) (others : List ℕ) (place : ℕ) (es : Live) → AreNew others place es → T (in_order es)
    → live_total kind t (with_each others h es) ≡ live_total kind t es + length others * held_counts kind t h
each_counts kind t h [] place es new o = omega arith
each_counts kind t h (p ∷ ps) place es new o =
    let empty : held_counts kind t (held_at p es) ≡ 0 = ap (held_counts kind t) new.0 in
    let one : live_total kind t (with_held p h es) + held_counts kind t (held_at p es) ≡ live_total kind t es + held_counts kind t h = counts_with kind t p h es o in
    let later : live_total kind t (with_each ps h (with_held p h es)) ≡ live_total kind t (with_held p h es) + length ps * held_counts kind t h = each_counts kind t h ps place (with_held p h es) (still_new ps place p h es new.3 new.2) (held_in_order p h es o) in
    let more : length (p ∷ ps) * held_counts kind t h ≡ length ps * held_counts kind t h + held_counts kind t h = suc_times (length ps) (held_counts kind t h) in
    omega (arith, empty, one, later, more)

each_in_order : (others : List ℕ) (h : Held) (es : Live) → T (in_order es) → T (in_order (with_each others h es))
each_in_order [] h es o = o
each_in_order (p ∷ ps) h es o = each_in_order ps h (with_held p h es) (held_in_order p h es o)

-- ---- each op

pub opened : (kind : Kind) (t place : ℕ) (h : Held) (live : Live) → T (in_order live) → held_at place live ≡ held.None → live_total kind t (with_held place h live) ≡ live_total kind t live + held_counts kind t h
opened kind t place h live o free =
    let empty : held_counts kind t (held_at place live) ≡ 0 = ap (held_counts kind t) free in
    omega (arith, counts_with kind t place h live o, empty)

pub closed : (kind : Kind) (t place : ℕ) (live : Live) → T (in_order live) → live_total kind t (without place live) + held_counts kind t (held_at place live) ≡ live_total kind t live
closed kind t place live o = omega (arith, counts_with kind t place held.None live o)

pub split : (kind : Kind) (t place : ℕ) (others : List ℕ) (live : Live) → T (in_order live) → AreNew others place live
    → live_total kind t (done (Split place others) live) + held_counts kind t (held_at place live) ≡ live_total kind t live + parts_of others * held_counts kind t (part_of (parts_of others) (held_at place live))
split kind t place others live o new =
    let part = part_of (parts_of others) (held_at place live) in
    let first : live_total kind t (with_held place part live) + held_counts kind t (held_at place live) ≡ live_total kind t live + held_counts kind t part = counts_with kind t place part live o in
    let rest : live_total kind t (with_each others part (with_held place part live)) ≡ live_total kind t (with_held place part live) + length others * held_counts kind t part =
    each_counts kind t part others place (with_held place part live) (still_new others place place part live new (lacks_first others place live new)) (held_in_order place part live o) in
    let more : (length others + 1) * held_counts kind t part ≡ length others * held_counts kind t part + held_counts kind t part = grind arith in
    omega (arith, first, rest, more)

exchanged : (one two : ℕ) (live : Live) → held_at one (with_held two (held_at one live) live) ≡ held_at one live
exchanged one two live = elim (one == two) as (λ b. (one == two) ≡ b → held_at one (with_held two (held_at one live) live) ≡ held_at one live) [
  | true ↦ λ e. let same : one ≡ two = grind arith in subst (λ q. held_at q (with_held two (held_at one live) live) ≡ held_at one live) (sym same) (held_here two (held_at one live) live)
  | false ↦ λ e. held_elsewhere one two (held_at one live) live (test_apart one two e)
] refl

pub swapped : (kind : Kind) (t one two : ℕ) (live : Live) → T (in_order live) → live_total kind t (done (Swap one two) live) ≡ live_total kind t live
swapped kind t one two live o =
    let there = with_held two (held_at one live) live in
    let first : live_total kind t there + held_counts kind t (held_at two live) ≡ live_total kind t live + held_counts kind t (held_at one live) = counts_with kind t two (held_at one live) live o in
    let second : live_total kind t (with_held one (held_at two live) there) + held_counts kind t (held_at one there) ≡ live_total kind t there + held_counts kind t (held_at two live) =
    counts_with kind t one (held_at two live) there (held_in_order two (held_at one live) live o) in
    let same : held_counts kind t (held_at one there) ≡ held_counts kind t (held_at one live) = ap (held_counts kind t) (exchanged one two live) in
    omega (arith, first, second, same)

pub op_sums : (cpu : ℕ) (op : RefOp) (live : Live) (kind : Kind) (t : ℕ) → T (in_order live) → MayDo op live
    → live_total kind t (done op live) + all_down kind t (op_moves cpu op live) ≡ live_total kind t live + all_up kind t (op_moves cpu op live)
op_sums cpu (Open place tag size) live kind t o may =
    omega (arith, opened kind t place (held.Counted tag size) live o may.0, open_up cpu kind t (held.Counted tag size), open_down cpu kind t (held.Counted tag size))
op_sums cpu (Mark place) live kind t o may = omega (arith, opened kind t place held.Empty live o may)
op_sums cpu (Close place) live kind t o may = omega (arith, closed kind t place live o, close_up cpu kind t (held_at place live), close_down cpu kind t (held_at place live))
op_sums cpu (Split place others) live kind t o may =
    omega (arith, split kind t place others live o may.0, split_up cpu (parts_of others) kind t (held_at place live) (omega arith) may.1, split_down cpu (parts_of others) kind t (held_at place live))
op_sums cpu (Swap one two) live kind t o may = omega (arith, swapped kind t one two live o)
op_sums cpu (Trim place bytes) live kind t o may =
    omega (arith, counts_with kind t place (trimmed bytes (held_at place live)) live o, trim_up cpu bytes kind t (held_at place live), trim_down cpu bytes kind t (held_at place live) may)

pub op_in_order : (op : RefOp) (live : Live) → T (in_order live) → T (in_order (done op live))
op_in_order (Open place tag size) live o = held_in_order place (held.Counted tag size) live o
op_in_order (Mark place) live o = held_in_order place held.Empty live o
op_in_order (Close place) live o = held_in_order place held.None live o
op_in_order (Split place others) live o = each_in_order (place ∷ others) (part_of (parts_of others) (held_at place live)) live o
op_in_order (Swap one two) live o = held_in_order one (held_at two live) (with_held two (held_at one live) live) (held_in_order two (held_at one live) live o)
op_in_order (Trim place bytes) live o = held_in_order place (trimmed bytes (held_at place live)) live o

-- ---- splits and trims by themselves

even_bytes : (parts t : ℕ) (h : Held) → IsTrue (is_even parts h) → held_counts Bytes t h ≡ parts * held_counts Bytes t (part_of parts h)
even_bytes parts t held.None even = omega arith
even_bytes parts t held.Empty even = omega arith
even_bytes parts t (held.Counted tag size) even = shared_bytes (tag.number == t) parts size even

pub split_bytes : (t place : ℕ) (others : List ℕ) (live : Live) → T (in_order live) → MayDo (Split place others) live → live_total Bytes t (done (Split place others) live) ≡ live_total Bytes t live
split_bytes t place others live o may =
    omega (arith, split Bytes t place others live o may.0, even_bytes (parts_of others) t (held_at place live) may.1)

each_call : (parts t : ℕ) (h : Held) → held_counts Calls t (part_of parts h) ≡ held_counts Calls t h
each_call parts t held.None = refl
each_call parts t held.Empty = refl
each_call parts t (held.Counted tag size) = refl

pub split_calls : (t place : ℕ) (others : List ℕ) (live : Live) → T (in_order live) → MayDo (Split place others) live
    → live_total Calls t (done (Split place others) live) ≡ live_total Calls t live + length others * held_counts Calls t (held_at place live)
split_calls t place others live o may =
    let h = held_at place live in
    let same : parts_of others * held_counts Calls t (part_of (parts_of others) h) ≡ parts_of others * held_counts Calls t h = ap (λ c. parts_of others * c) (each_call (parts_of others) t h) in
    let more : (length others + 1) * held_counts Calls t h ≡ length others * held_counts Calls t h + held_counts Calls t h = grind arith in
    omega (arith, split Calls t place others live o may.0, same, more)

trimmed_call : (bytes t : ℕ) (h : Held) → held_counts Calls t (trimmed bytes h) ≡ held_counts Calls t h
trimmed_call bytes t held.None = refl
trimmed_call bytes t held.Empty = refl
trimmed_call bytes t (held.Counted tag size) = refl

pub trim_calls : (t place bytes : ℕ) (live : Live) → T (in_order live) → live_total Calls t (done (Trim place bytes) live) ≡ live_total Calls t live
trim_calls t place bytes live o = omega (arith, counts_with Calls t place (trimmed bytes (held_at place live)) live o, trimmed_call bytes t (held_at place live))

trimmed_bytes : (b : Bool) (bytes size : ℕ) → bytes < size → cond b (size - bytes) 0 + cond b bytes 0 ≡ cond b size 0
trimmed_bytes true bytes size less = omega (arith, less)
trimmed_bytes false bytes size less = refl

pub trim_bytes : (t place bytes : ℕ) (tag : Tag) (size : ℕ) (live : Live) → T (in_order live) → held_at place live ≡ held.Counted tag size → bytes < size
    → live_total Bytes t (done (Trim place bytes) live) + held_counts Bytes t (held.Counted tag bytes) ≡ live_total Bytes t live
trim_bytes t place bytes tag size live o is less =
    let before : held_counts Bytes t (held_at place live) ≡ cond (tag.number == t) size 0 = ap (held_counts Bytes t) is in
    let after : held_counts Bytes t (trimmed bytes (held_at place live)) ≡ cond (tag.number == t) (size - bytes) 0 = ap (λ h. held_counts Bytes t (trimmed bytes h)) is in
    omega (arith, counts_with Bytes t place (trimmed bytes (held_at place live)) live o, before, after, trimmed_bytes (tag.number == t) bytes size less)
