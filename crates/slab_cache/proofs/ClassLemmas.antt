-- Classes by their numbers, and orders by size.
use Rattle.std.proofs.Common.{lit<, ℕ, zero, suc, ◌≡◌, ◌≢◌, ◌==◌, ◌*◌, ◌%◌, ◌^◌, ◌<◌, ◌≤◌, false, nat_le, unwrap_or, Some, None, position, refl, sym, ap, ◌∙◌, arith, inl, inr}
use Rattle.std.proofs.Math.Pow.{pow_mono}
use Rattle.std.proofs.lemmas.Bool.{cases_lt, le-leb, lt-leb, ne_eqb}
use Rattle.page_ext.specs.Blocks.{page_bytes}
use Rattle.slab_cache.specs.Classes.{classes, class_of, objects_in, order_of}
use Rattle.slab_cache.specs.Bits.{class_at}
use Rattle.slab_cache.proofs.Marks.{first_number, found_at, no_number, not_found}

pub class_found : (size i : ℕ) → position (nat_le size) classes ≡ Some i → Some (class_at i) ≡ class_of size
class_found size i is = sym (found_at (nat_le size) classes 0 i is)

pub class_none : (size : ℕ) → position (nat_le size) classes ≡ None → None ≡ class_of size
class_none size is = sym (not_found (nat_le size) classes is)

-- `4096 << order`
pub page_shift : (order : ℕ) → order ≤ 10 → 4096 * 2 ^ order % 18446744073709551616 ≡ page_bytes order
page_shift order small = omega (arith, pow_mono {i = order} {j = 10} small)

pub order_found : (size order : ℕ) → order < 11 → size ≤ page_bytes order → ((k : ℕ) → k < order → page_bytes k < size) → order_of size ≡ order
order_found size order small fits before =
    ap (λ o. unwrap_or o 10) (first_number (λ k. nat_le size (page_bytes k)) 11 order small (le-leb size (page_bytes order) fits) (λ k below. lt-leb size (page_bytes k) (before k below)))

pub order_last : (size : ℕ) → ((k : ℕ) → k < 10 → page_bytes k < size) → order_of size ≡ 10
order_last size before = elim (cases_lt (page_bytes 10) size) [
  | inr fits ↦ order_found size 10 (omega arith) fits before
  | inl above ↦ ap (λ o. unwrap_or o 10) (no_number (λ k. nat_le size (page_bytes k)) 11 (λ k below. lt-leb size (page_bytes k) (past k above below)))
]
  where
    past : (k : ℕ) → page_bytes 10 < size → k < 11 → page_bytes k < size
    past k above below = omega (arith, above, pow_mono {i = k} {j = 10} (omega arith))

-- ---- classes are told apart by their numbers

abbrev number_of : ℕ → ℕ
number_of class = unwrap_or (position (λ c. c == class) classes) 0

number_at : (i : ℕ) → i < 13 → number_of (class_at i) ≡ i
number_at zero h = refl
number_at (suc zero) h = refl
number_at (suc (suc zero)) h = refl
number_at (suc (suc (suc zero))) h = refl
number_at (suc (suc (suc (suc zero)))) h = refl
number_at (suc (suc (suc (suc (suc zero))))) h = refl
number_at (suc (suc (suc (suc (suc (suc zero)))))) h = refl
number_at (suc (suc (suc (suc (suc (suc (suc zero))))))) h = refl
number_at (suc (suc (suc (suc (suc (suc (suc (suc zero)))))))) h = refl
number_at (suc (suc (suc (suc (suc (suc (suc (suc (suc zero))))))))) h = refl
number_at (suc (suc (suc (suc (suc (suc (suc (suc (suc (suc zero)))))))))) h = refl
number_at (suc (suc (suc (suc (suc (suc (suc (suc (suc (suc (suc zero))))))))))) h = refl
number_at (suc (suc (suc (suc (suc (suc (suc (suc (suc (suc (suc (suc zero)))))))))))) h = refl
number_at (suc (suc (suc (suc (suc (suc (suc (suc (suc (suc (suc (suc (suc n))))))))))))) h = absurd (omega arith)

pub classes_differ : (a b : ℕ) → a < 13 → b < 13 → a ≢ b → (class_at a == class_at b) ≡ false
classes_differ a b small few ne = ne_eqb _ _ (λ e. ne (sym (number_at a small) ∙ ap number_of e ∙ number_at b few))

pub objects_few : (class : ℕ) → objects_in class ≤ 64
objects_few class = omega arith

pub objects_some : (i : ℕ) → i < 13 → 0 < objects_in (class_at i)
objects_some zero h = lit< tt
objects_some (suc zero) h = lit< tt
objects_some (suc (suc zero)) h = lit< tt
objects_some (suc (suc (suc zero))) h = lit< tt
objects_some (suc (suc (suc (suc zero)))) h = lit< tt
objects_some (suc (suc (suc (suc (suc zero))))) h = lit< tt
objects_some (suc (suc (suc (suc (suc (suc zero)))))) h = lit< tt
objects_some (suc (suc (suc (suc (suc (suc (suc zero))))))) h = lit< tt
objects_some (suc (suc (suc (suc (suc (suc (suc (suc zero)))))))) h = lit< tt
objects_some (suc (suc (suc (suc (suc (suc (suc (suc (suc zero))))))))) h = lit< tt
objects_some (suc (suc (suc (suc (suc (suc (suc (suc (suc (suc zero)))))))))) h = lit< tt
objects_some (suc (suc (suc (suc (suc (suc (suc (suc (suc (suc (suc zero))))))))))) h = lit< tt
objects_some (suc (suc (suc (suc (suc (suc (suc (suc (suc (suc (suc (suc zero)))))))))))) h = lit< tt
objects_some (suc (suc (suc (suc (suc (suc (suc (suc (suc (suc (suc (suc (suc n))))))))))))) h = absurd (omega arith)
