-- Orders below 6, and from 6 to 10, one by one.
use Rattle.std.proofs.Common.{ℕ, zero, suc, ◌≡◌, ◌+◌, ◌-◌, ◌*◌, ◌%◌, ◌^◌, ◌<◌, ◌≤◌, arith, refl}
use Rattle.std.proofs.Math.Pow.{pow_mono}

pub below_six : (P : ℕ → Type 0) → P 0 → P 1 → P 2 → P 3 → P 4 → P 5 → (order : ℕ) → order < 6 → P order
below_six P a b c d e f zero h = a
below_six P a b c d e f (suc zero) h = b
below_six P a b c d e f (suc (suc zero)) h = c
below_six P a b c d e f (suc (suc (suc zero))) h = d
below_six P a b c d e f (suc (suc (suc (suc zero)))) h = e
below_six P a b c d e f (suc (suc (suc (suc (suc zero))))) h = f
below_six P a b c d e f (suc (suc (suc (suc (suc (suc n)))))) h = absurd (omega arith)

pub six_to_ten : (P : ℕ → Type 0) → P 6 → P 7 → P 8 → P 9 → P 10 → (order : ℕ) → 6 ≤ order → order ≤ 10 → P order
six_to_ten P a b c d e (suc (suc (suc (suc (suc (suc zero)))))) l h = a
six_to_ten P a b c d e (suc (suc (suc (suc (suc (suc (suc zero))))))) l h = b
six_to_ten P a b c d e (suc (suc (suc (suc (suc (suc (suc (suc zero)))))))) l h = c
six_to_ten P a b c d e (suc (suc (suc (suc (suc (suc (suc (suc (suc zero))))))))) l h = d
six_to_ten P a b c d e (suc (suc (suc (suc (suc (suc (suc (suc (suc (suc zero)))))))))) l h = e
six_to_ten P a b c d e n l h = absurd (omega arith)

-- an aligned run of an order below 6 stays in one word
pub record InWord (start order : ℕ) : Type 0 where
  pub small : 2 ^ order ≤ 32
  pub some : 0 < 2 ^ order
  pub ends : start % 64 + 2 ^ order ≤ 64
  pub aligned : start % 64 % 2 ^ order ≡ 0

pub in_word : (start order : ℕ) → order < 6 → start % 2 ^ order ≡ 0 → InWord start order
in_word start order below =
    below_six (λ o. start % 2 ^ o ≡ 0 → InWord start o)
    (λ h. record { small = omega arith; some = omega arith; ends = omega arith; aligned = omega arith })
    (λ h. record { small = omega arith; some = omega arith; ends = omega arith; aligned = omega arith })
    (λ h. record { small = omega arith; some = omega arith; ends = omega arith; aligned = omega arith })
    (λ h. record { small = omega arith; some = omega arith; ends = omega arith; aligned = omega arith })
    (λ h. record { small = omega arith; some = omega arith; ends = omega arith; aligned = omega arith })
    (λ h. record { small = omega arith; some = omega arith; ends = omega arith; aligned = omega arith })
    order below

-- a place in a word is a multiple of 2 ^ order where the bit's number is
pub from_word : (k t order : ℕ) → order < 6 → t < 64 → t % 2 ^ order ≡ 0 → (64 * k + t) % 2 ^ order ≡ 0
from_word k t order below =
    below_six (λ o. t < 64 → t % 2 ^ o ≡ 0 → (64 * k + t) % 2 ^ o ≡ 0)
    (λ l h. omega arith) (λ l h. omega arith) (λ l h. omega arith) (λ l h. omega arith) (λ l h. omega arith) (λ l h. omega arith)
    order below

-- an aligned run of an order from 6 on is a run of words
pub record OfWords (order : ℕ) : Type 0 where
  pub count : 2 ^ order ≡ 64 * 2 ^ (order - 6)
  pub some : 0 < 2 ^ (order - 6)
  pub few : 2 ^ (order - 6) ≤ 16
  pub shift : 1 * 2 ^ (order - 6) % 18446744073709551616 ≡ 2 ^ (order - 6)

pub of_words : (order : ℕ) → 6 ≤ order → order ≤ 10 → OfWords order
of_words order low high =
    six_to_ten OfWords
    (record { count = refl; some = omega arith; few = omega arith; shift = refl })
    (record { count = refl; some = omega arith; few = omega arith; shift = refl })
    (record { count = refl; some = omega arith; few = omega arith; shift = refl })
    (record { count = refl; some = omega arith; few = omega arith; shift = refl })
    (record { count = refl; some = omega arith; few = omega arith; shift = refl })
    order low high

-- `1 << order`
pub shifted : (order : ℕ) → order ≤ 10 → 1 * 2 ^ order % 4294967296 ≡ 2 ^ order
shifted order small = omega (arith, pow_mono {i = order} {j = 10} small)
