-- The words and cells of a table have indexes of their own.
use Rattle.std.proofs.Common.{◌≡◌, ℕ, ◌+◌, ◌*◌, ◌/◌, ◌<◌, ◌≤◌, refl, ap, sym, ◌∙◌, arith}
use Rattle.std.proofs.lemmas.Nat.{div-mul-add, mul-add-lt}
use Rattle.std.proofs.Math.Nat.{mul_comm}
use Rattle.tag_model.specs.declared.shape.Shape.{Shape}
use Rattle.tag_model.specs.declared.state.Kind.{Kind}
use Rattle.tag_model.specs.declared.state.Kind.TheVariants.{Bytes, Calls}
use Rattle.tag_model.specs.WordState.{word_place}
use Rattle.tag_model.specs.Index.{Slot, Word, Page, Object, IsSlot, index_of, word_count, first_cell, first_object}

-- a row and a column, from the place in a table of rows
pub same_row : (n a b x y : ℕ) → x < n → y < n → a * n + x ≡ b * n + y → (a ≡ b) × (x ≡ y)
same_row n a b x y below_x below_y e =
    let row : a ≡ b = sym (div-mul-add a n x below_x) ∙ ap (λ z. z / n) e ∙ div-mul-add b n y below_y in
    let rows : a * n ≡ b * n = ap (λ z. z * n) row in
    (row, omega (arith, e, rows))

place_within : (kind : Kind) (t n : ℕ) → t < n → word_place kind t < 2 * n
place_within Bytes t n h = omega (arith, h)
place_within Calls t n h = omega (arith, h)

same_place : (a b : Kind) (t u : ℕ) → word_place a t ≡ word_place b u → (a ≡ b) × (t ≡ u)
same_place Bytes Bytes t u e = (refl, omega (arith, e))
same_place Calls Calls t u e = (refl, omega (arith, e))
same_place Bytes Calls t u e = absurd (omega (arith, e))
same_place Calls Bytes t u e = absurd (omega (arith, e))

-- ---- the three spans follow one another

word_before : (k : Shape) (cpu : ℕ) (kind : Kind) (t : ℕ) → cpu < k.cpus → t < k.tags → index_of k (Word cpu kind t) < first_cell k
word_before k cpu kind t c h =
    let within = mul-add-lt cpu (2 * k.tags) (word_place kind t) k.cpus c (place_within kind t k.tags h) in
    let turned = mul_comm k.cpus (2 * k.tags) in
    omega (arith, within, turned)

page_before : (k : Shape) (cpu frame : ℕ) → cpu < k.cpus → frame < k.frames → index_of k (Page cpu frame) < first_object k
page_before k cpu frame c h =
    let within = mul-add-lt cpu k.frames frame k.cpus c h in
    let turned = mul_comm k.cpus k.frames in
    omega (arith, within, turned)

object_before : (k : Shape) (cpu vector place : ℕ) → cpu < k.cpus → vector < k.vectors → place < 64 → index_of k (Object cpu vector place) < word_count k
object_before k cpu vector place c h p =
    let row = mul-add-lt cpu k.vectors vector k.cpus c h in
    let turned = mul_comm k.cpus k.vectors in
    let front : k.cpus * (2 * k.tags) ≡ 2 * k.cpus * k.tags = grind arith in
    omega (arith, row, turned, front, p)

spans : (k : Shape) → (first_cell k ≤ first_object k) × (first_object k ≤ word_count k)
spans k = let front : k.cpus * (2 * k.tags) ≡ 2 * k.cpus * k.tags = grind arith in (omega arith, omega (arith, front))

pub slots_below : (k : Shape) (a : Slot) → IsSlot k a → index_of k a < word_count k
slots_below k (Word cpu kind t) s = omega (arith, word_before k cpu kind t s.0 s.1, (spans k).0, (spans k).1)
slots_below k (Page cpu frame) s = omega (arith, page_before k cpu frame s.0 s.1, (spans k).1)
slots_below k (Object cpu vector place) s = object_before k cpu vector place s.0 s.1 s.2

-- ---- none stands where another does

pub slots_apart : (k : Shape) (a b : Slot) → IsSlot k a → IsSlot k b → index_of k a ≡ index_of k b → a ≡ b
slots_apart k (Word c kind t) (Word d other u) s r e =
    let at = same_row (2 * k.tags) c d (word_place kind t) (word_place other u) (place_within kind t k.tags s.1) (place_within other u k.tags r.1) (omega (arith, e)) in
    let place = same_place kind other t u at.1 in
    rw (at.0, place.0, place.1) refl
slots_apart k (Page c f) (Page d g) s r e =
    let at = same_row k.frames c d f g s.1 r.1 (omega (arith, e)) in
    rw (at.0, at.1) refl
slots_apart k (Object c v p) (Object d w q) s r e =
    let row = same_row 64 (c * k.vectors + v) (d * k.vectors + w) p q s.2 r.2 (omega (arith, e)) in
    let at = same_row k.vectors c d v w s.1 r.1 row.0 in
    rw (at.0, at.1, row.1) refl
slots_apart k (Word c kind t) (Page d g) s r e = absurd (omega (arith, e, word_before k c kind t s.0 s.1))
slots_apart k (Word c kind t) (Object d w q) s r e = absurd (omega (arith, e, word_before k c kind t s.0 s.1, (spans k).0))
slots_apart k (Page c f) (Word d other u) s r e = absurd (omega (arith, e, word_before k d other u r.0 r.1))
slots_apart k (Page c f) (Object d w q) s r e = absurd (omega (arith, e, page_before k c f s.0 s.1))
slots_apart k (Object c v p) (Word d other u) s r e = absurd (omega (arith, e, word_before k d other u r.0 r.1, (spans k).0))
slots_apart k (Object c v p) (Page d g) s r e = absurd (omega (arith, e, page_before k d g r.0 r.1))
