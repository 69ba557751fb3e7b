-- The slabs of a node, and the sets of the frames of those that are open.
use Rattle.std.proofs.Common.{ℕ, zero, suc, ◌≡◌, ◌≢◌, ◌+◌, ◌<◌, ◌≤◌, Bool, true, false, ◌==◌, ◌&&◌, cond, not, nat_lt, List, [], ◌∷◌, length, map, get_or, slice_get, slice_set, replicate, position, Option, Some, None, refl, sym, ap, ◌∙◌, subst, inl, inr, arith}
use Rattle.std.specs.List.{list_any, position_or_len}
use Rattle.std.proofs.lemmas.Bool.{cases_eq, eq-eqb}
use Rattle.std.proofs.lemmas.List.{get_or-map, get_or-set_same, get_or-set_other, length-map, length-replicate, length-set, map-set, set-set, same_lists}
use Rattle.std.proofs.lemmas.List.Folds.{list_any_at}
use Rattle.std.proofs.Math.Seq.{map-set_same}
use Rattle.std.proofs.lemmas.Option.{get_or_from_slice_get, same_Some, slice_get_within}
use Rattle.slab_cache.specs.Bits.{class_at}
use Rattle.slab_cache.specs.Classes.{classes}
use Rattle.slab_cache.specs.Shown.{SlabShown}
use Rattle.slab_cache.proofs.ClassLemmas.{classes_differ}
use Rattle.slab_cache.specs.Tables.{GetsPlace, IsTable, LosesPlace, TakesPlace, is_open_slab, open_at, place_in, slab_without, with_slab_state}
use Rattle.slab_cache.specs.Slabs.{free_place, is_used, with_place}
use Rattle.slab_cache.specs.declared.place.Place.{Place}

-- ---- a new table

all_alike : {X Y : Type 0} (f : X → Y) (y : Y) (xs : List X) → ((x : X) → f x ≡ y) → map f xs ≡ replicate (length xs) y
all_alike f y [] same = refl
all_alike f y (x ∷ xs) same = λ i. same x i ∷ all_alike f y xs same i

map_replicate : {X Y : Type 0} (f : X → Y) (n : ℕ) (x : X) → map f (replicate n x) ≡ replicate n (f x)
map_replicate f zero x = refl
map_replicate f (suc n) x = ap (λ ys. f x ∷ ys) (map_replicate f n x)

pub new_table : (frames : ℕ) (slabs : List (Option SlabShown)) (sets : List (List Bool)) → frames ≤ 1024 → slabs ≡ replicate frames None → sets ≡ replicate 13 (replicate frames false) → IsTable slabs sets
new_table frames slabs sets few none no_sets = subst (λ ss. IsTable ss sets) (sym none) (record {
  few = omega (arith, few, length-replicate {A = Option SlabShown} frames None);
  by_class = no_sets ∙ sym (all_alike (open_at (replicate frames None)) (replicate frames false) classes (λ class. map_replicate (is_open_slab class) frames None));
})

-- ---- the lowest open frame

pub first_of_map : {X Y : Type 0} (q : Y → Bool) (f : X → Y) (xs : List X) → position_or_len q (map f xs) ≡ position_or_len (λ x. q (f x)) xs
first_of_map q f [] = refl
first_of_map q f (x ∷ xs) = ap (λ n. cond {A = ℕ} (not (q (f x))) (1 + n) 0) (first_of_map q f xs)

pub position_of_map : {X Y : Type 0} (q : Y → Bool) (f : X → Y) (xs : List X) → position q (map f xs) ≡ position (λ x. q (f x)) xs
position_of_map q f xs =
    let at : ℕ → ℕ → Option ℕ = λ i n. cond (nat_lt i n) (Some i) None in
    ap (λ i. at i (length (map f xs))) (first_of_map q f xs) ∙ ap (at (position_or_len (λ x. q (f x)) xs)) (length-map xs f)

-- the set of a class
pub set_of : (slabs : List (Option SlabShown)) (sets : List (List Bool)) (class : ℕ) (d : List Bool) → IsTable slabs sets → class < 13 → get_or sets class d ≡ open_at slabs (class_at class)
set_of slabs sets class d table small = ap (λ ss. get_or ss class d) table.by_class ∙ get_or-map (open_at slabs) classes class 0 d small

-- ---- what is at a frame is replaced

pub any_default : {X : Type 0} (xs : List X) (i : ℕ) (d e : X) → i < length xs → get_or xs i d ≡ get_or xs i e
any_default [] i d e within = absurd (omega arith)
any_default (x ∷ xs) zero d e within = refl
any_default (x ∷ xs) (suc i) d e within = any_default xs i d e (omega arith)

-- no slab, or one of the class
abbrev pub IsOf : ℕ → Option SlabShown → Type 0
IsOf class None = Unit {0}
IsOf class (Some slab) = class_at class ≡ slab.slab.class

-- it is open for no other class
never_other : (slab : Option SlabShown) (class other : ℕ) → IsOf class slab → class < 13 → other < 13 → other ≢ class → is_open_slab (class_at other) slab ≡ false
never_other None class other own small few ne = refl
never_other (Some slab) class other own small few ne = ap (λ c. (c == class_at other) && list_any not slab.slab.places) (sym own) ∙ ap (λ b. b && list_any not slab.slab.places) (classes_differ class other small few (λ same. ne (sym same)))

thirteen : (slabs : List (Option SlabShown)) (sets : List (List Bool)) → IsTable slabs sets → length sets ≡ 13
thirteen slabs sets table = ap (λ (ss : List (List Bool)). length ss) table.by_class ∙ length-map classes (open_at slabs)

-- the set of a class has a bit for each frame
pub set_long : (slabs : List (Option SlabShown)) (sets : List (List Bool)) (frame class : ℕ) (set d : List Bool) → IsTable slabs sets → frame < length slabs → class < 13 → set ≡ get_or sets class d → frame < length set
set_long slabs sets frame class set d table within small is = omega (arith, within, ap (λ (s : List Bool). length s) (is ∙ set_of slabs sets class d table small), length-map slabs (is_open_slab (class_at class)))

-- of each class, an open slab is there where one was: the sets are right as they are
pub as_open : (slabs : List (Option SlabShown)) (sets : List (List Bool)) (frame : ℕ) (slab : Option SlabShown) → IsTable slabs sets
    → ((class : ℕ) → class < 13 → is_open_slab (class_at class) slab ≡ is_open_slab (class_at class) (get_or slabs frame None)) → IsTable (slice_set slabs frame slab) sets
as_open slabs sets frame slab table alike =
    let long = thirteen slabs sets table in
    record {
      few = (let few = table.few in omega (arith, length-set slabs frame slab));
      by_class = same_lists _ _ (long ∙ sym (length-map classes (open_at (slice_set slabs frame slab))))
          (λ class d below.
          let small : class < 13 = omega (arith, long) in
          set_of slabs sets class d table small ∙ sym (get_or-map (open_at (slice_set slabs frame slab)) classes class 0 d small ∙ map-set_same (is_open_slab (class_at class)) slabs frame slab None (alike class small)));
    }

-- both are of one class, and are open or not alike
pub as_open_of : (slabs : List (Option SlabShown)) (sets : List (List Bool)) (frame class : ℕ) (slab : Option SlabShown) → IsTable slabs sets → class < 13 → IsOf class slab → IsOf class (get_or slabs frame None)
    → is_open_slab (class_at class) slab ≡ is_open_slab (class_at class) (get_or slabs frame None) → IsTable (slice_set slabs frame slab) sets
as_open_of slabs sets frame class slab table small own was alike =
    as_open slabs sets frame slab table
    (λ other few. elim (cases_eq other class) [
      | inl same ↦ subst (λ k. is_open_slab (class_at k) slab ≡ is_open_slab (class_at k) (get_or slabs frame None)) (sym same) alike
      | inr ne ↦ never_other slab class other own small few ne ∙ sym (never_other (get_or slabs frame None) class other was small few ne)
    ])

-- both are of one class, and the set of that class is put right
pub put_right : (slabs : List (Option SlabShown)) (sets : List (List Bool)) (frame class : ℕ) (slab : Option SlabShown) (set after d : List Bool) → IsTable slabs sets → class < 13 → IsOf class slab → IsOf class (get_or slabs frame None)
    → set ≡ get_or sets class d → after ≡ slice_set set frame (is_open_slab (class_at class) slab) → IsTable (slice_set slabs frame slab) (slice_set sets class after)
put_right slabs sets frame class slab set after d table small own was is put =
    let long = thirteen slabs sets table in
    record {
      few = (let few = table.few in omega (arith, length-set slabs frame slab));
      by_class = same_lists _ _ (length-set sets class after ∙ long ∙ sym (length-map classes (open_at (slice_set slabs frame slab))))
          (λ other e below.
          let few : other < 13 = omega (arith, length-set sets class after, long) in
          at other e few ∙ sym (get_or-map (open_at (slice_set slabs frame slab)) classes other 0 e few));
    }
  where
    at : (other : ℕ) (e : List Bool) → other < 13 → get_or (slice_set sets class after) other e ≡ open_at (slice_set slabs frame slab) (class_at other)
    at other e few = elim (cases_eq other class) [
      | inl same ↦ subst (λ k. get_or (slice_set sets class after) k e ≡ open_at (slice_set slabs frame slab) (class_at k)) (sym same)
          (get_or-set_same sets class after e (omega (arith, small, thirteen slabs sets table)) ∙ put ∙ ap (λ s. slice_set s frame (is_open_slab (class_at class) slab)) (is ∙ set_of slabs sets class d table small)
          ∙ sym (map-set (is_open_slab (class_at class)) slabs frame slab))
      | inr ne ↦ get_or-set_other sets class other after e ne ∙ set_of slabs sets other e table few
          ∙ sym (map-set_same (is_open_slab (class_at other)) slabs frame slab None (never_other slab class other own small few ne ∙ sym (never_other (get_or slabs frame None) class other was small few ne)))
    ]

-- ---- a slab changes in its place

pub there : (items slabs : List (Option SlabShown)) (frame : ℕ) (slab : Option SlabShown) → items ≡ slabs → slice_get slabs frame ≡ Some slab → slice_get items frame ≡ Some slab
there items slabs frame slab is here = subst (λ (ss : List (Option SlabShown)). slice_get ss frame ≡ Some slab) (sym is) here

-- the slab that is lent is the one that begins there
pub lent_slab : (slabs : List (Option SlabShown)) (frame : ℕ) (slab lent : SlabShown) (item d : Option SlabShown) → slice_get slabs frame ≡ Some (Some slab) → item ≡ get_or slabs frame d → Some lent ≡ item → lent ≡ slab
lent_slab slabs frame slab lent item d here is some = same_Some lent slab (some ∙ is ∙ get_or_from_slice_get slabs frame (Some slab) d here)

pub changed : (slabs : List (Option SlabShown)) (sets : List (List Bool)) (frame class : ℕ) (slab new : SlabShown) (set after d : List Bool) → IsTable slabs sets → class < 13 → slice_get slabs frame ≡ Some (Some slab)
    → class_at class ≡ slab.slab.class → class_at class ≡ new.slab.class → set ≡ get_or sets class d → after ≡ slice_set set frame (is_open_slab (class_at class) (Some new)) → IsTable (slice_set slabs frame (Some new)) (slice_set sets class after)
changed slabs sets frame class slab new set after d table small here own kept is put =
    put_right slabs sets frame class (Some new) set after d table small kept (subst (IsOf class) (sym (get_or_from_slice_get slabs frame (Some slab) None here)) own) is put

pub unchanged : (slabs : List (Option SlabShown)) (sets : List (List Bool)) (frame class : ℕ) (slab new : SlabShown) → IsTable slabs sets → class < 13 → slice_get slabs frame ≡ Some (Some slab) → class_at class ≡ slab.slab.class → class_at class ≡ new.slab.class
    → is_open_slab (class_at class) (Some slab) ≡ true → is_open_slab (class_at class) (Some new) ≡ true → IsTable (slice_set slabs frame (Some new)) sets
unchanged slabs sets frame class slab new table small here own kept was still =
    let is = get_or_from_slice_get slabs frame (Some slab) None here in
    as_open_of slabs sets frame class (Some new) table small kept (subst (IsOf class) (sym is) own) (still ∙ sym (ap (is_open_slab (class_at class)) is ∙ was))

-- it is open exactly where it has a free place
pub open_if_free : (slab : SlabShown) (class : ℕ) → class_at class ≡ slab.slab.class → is_open_slab (class_at class) (Some slab) ≡ list_any not slab.slab.places
open_if_free slab class own = ap (λ b. b && list_any not slab.slab.places) (eq-eqb slab.slab.class (class_at class) (sym own))

-- a place that is given back is free
pub has_free_place : (slab : SlabShown) (place : ℕ) → slice_get slab.slab.places place ≡ Some true → list_any not (slab_without place slab).slab.places ≡ true
has_free_place slab place taken =
    let within = slice_get_within slab.slab.places place true taken in
    list_any_at not (slice_set slab.slab.places place false) place true (omega (arith, within, length-set slab.slab.places place false)) (ap not (get_or-set_same slab.slab.places place false true within))

pub takes_one : (items slabs : List (Option SlabShown)) (frame : ℕ) (slab lent left : SlabShown) (place : Place) → items ≡ slabs → slice_get slabs frame ≡ Some (Some slab) → lent ≡ slab → place ≡ place_in lent (free_place lent.slab)
    → left ≡ with_slab_state (with_place true (free_place lent.slab) lent.slab) lent → TakesPlace frame slabs (slice_set items frame (Some left)) place
takes_one items slabs frame slab lent left place is here same given taken = record {
  slab = slab;
  here = here;
  given = given ∙ ap (λ (s : SlabShown). place_in s (free_place s.slab)) same;
  now = ap (λ ss. slice_set ss frame (Some left)) is ∙ ap (λ l. slice_set slabs frame (Some l)) (taken ∙ ap (λ (s : SlabShown). with_slab_state (with_place true (free_place s.slab) s.slab) s) same);
}

pub gets_one : (items slabs : List (Option SlabShown)) (slab lent left : SlabShown) (place : Place) (used : Bool) → items ≡ slabs → slice_get slabs place.frame ≡ Some (Some slab) → lent ≡ slab
    → left ≡ slab_without place.place lent → used ≡ is_used left.slab → GetsPlace slabs place (slice_set items place.frame (Some left)) used
gets_one items slabs slab lent left place used is here same given is_left =
    let now : left ≡ slab_without place.place slab = given ∙ ap (slab_without place.place) same in
    record {
      slab = slab;
      here = here;
      now = ap (λ ss. slice_set ss place.frame (Some left)) is ∙ ap (λ l. slice_set slabs place.frame (Some l)) now;
      used = is_left ∙ ap (λ (s : SlabShown). is_used s.slab) now;
    }

pub loses_emptied : (slabs middle after : List (Option SlabShown)) (place : Place) (empty : Option SlabShown) (left : Bool) → GetsPlace slabs place middle left → left ≡ false → after ≡ slice_set middle place.frame None → empty ≡ get_or middle place.frame None
    → LosesPlace slabs place after empty
loses_emptied slabs middle after place empty left got none out was =
    let without = slab_without place.place got.slab in
    let unused : is_used without.slab ≡ false = sym got.used ∙ none in
    record {
      slab = got.slab;
      here = got.here;
      now = out ∙ ap (λ m. slice_set m place.frame None) got.now ∙ set-set slabs place.frame (Some without) None ∙ ap (λ b. slice_set slabs place.frame (cond b (Some without) None)) (sym unused);
      gone = was ∙ ap (λ m. get_or m place.frame None) got.now ∙ get_or-set_same slabs place.frame (Some without) None (slice_get_within slabs place.frame (Some got.slab) got.here) ∙ ap (λ b. cond b None (Some without)) (sym unused);
    }
