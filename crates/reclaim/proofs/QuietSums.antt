-- The words of CPUs from one on, added up.
use Rattle.std.proofs.Common.{◌≡◌, ℕ, zero, suc, ◌+◌, ◌<◌, ◌≤◌, nat_le, List, [], ◌∷◌, length, get_or, map, sum_by, refl, subst, arith, false, if◌then◌else◌, le-leb}
use Rattle.std.specs.List.{range_with_len}
use Rattle.std.proofs.lemmas.Bool.{cond-true, cond-false, lt-leb}
use Rattle.std.proofs.lemmas.List.Sums.{sum_by-cons}
use Rattle.tag_model.specs.declared.state.Kind.{Kind}
use Rattle.tag_rule.specs.Shown.{CpuShown}
use Rattle.percpu_words.specs.CpuWords.{word_in}

abbrev pub number : CpuShown → ℕ
number c = c.part.number

-- the word, where the CPU's number is this one or above
abbrev pub from : ℕ → Kind → ℕ → CpuShown → ℕ
from i kind t c = if nat_le i c.part.number then word_in kind t c else 0

-- these are CPUs of rising numbers
abbrev pub AreFrom : ℕ → List CpuShown → Type 0
AreFrom low cpus = map number cpus ≡ range_with_len low (length cpus)

pub first_number : (low : ℕ) (c : CpuShown) (cpus : List CpuShown) → AreFrom low (c ∷ cpus) → c.part.number ≡ low
first_number low c cpus are = cc

pub rest_numbers : (low : ℕ) (c : CpuShown) (cpus : List CpuShown) → AreFrom low (c ∷ cpus) → AreFrom (low + 1) cpus
rest_numbers low c cpus are = cc

-- from no CPU on, all words
pub from_all : (i low : ℕ) (kind : Kind) (t : ℕ) (cpus : List CpuShown) → i ≤ low → AreFrom low cpus → sum_by (from i kind t) cpus ≡ sum_by (word_in kind t) cpus
from_all i low kind t [] below are = refl
from_all i low kind t (c ∷ cpus) below are =
    let later = from_all i (low + 1) kind t cpus (omega arith) (rest_numbers low c cpus are) in
    let here : from i kind t c ≡ word_in kind t c = cond-true (nat_le i c.part.number) (word_in kind t c) 0 (le-leb i c.part.number (omega (arith, first_number low c cpus are))) in
    omega (arith, sum_by-cons (from i kind t) c cpus, sum_by-cons (word_in kind t) c cpus, later, here)

-- the word of one CPU, and those from the next on
pub from_next : (low j : ℕ) (kind : Kind) (t : ℕ) (cpus : List CpuShown) (d : CpuShown) → AreFrom low cpus → j < length cpus
    → sum_by (from (low + j) kind t) cpus ≡ word_in kind t (get_or cpus j d) + sum_by (from (low + j + 1) kind t) cpus
from_next low j kind t [] d are below = absurd (omega (arith, below))
from_next low zero kind t (c ∷ cpus) d are below =
    let first = first_number low c cpus are in
    let here : from (low + 0) kind t c ≡ word_in kind t c = cond-true (nat_le (low + 0) c.part.number) (word_in kind t c) 0 (le-leb (low + 0) c.part.number (omega (arith, first))) in
    let past : from (low + 0 + 1) kind t c ≡ 0 = cond-false (nat_le (low + 0 + 1) c.part.number) (word_in kind t c) 0 (not_le (low + 0 + 1) c.part.number (omega (arith, first))) in
    let one = from_all (low + 0) (low + 1) kind t cpus (omega arith) (rest_numbers low c cpus are) in
    let two = from_all (low + 0 + 1) (low + 1) kind t cpus (omega arith) (rest_numbers low c cpus are) in
    omega (arith, sum_by-cons (from (low + 0) kind t) c cpus, sum_by-cons (from (low + 0 + 1) kind t) c cpus, here, past, one, two)
  where
    not_le : (a b : ℕ) → b < a → nat_le a b ≡ false
    not_le a b h = lt-leb a b h
from_next low (suc j) kind t (c ∷ cpus) d are below =
    let first = first_number low c cpus are in
    let later = from_next (low + 1) j kind t cpus d (rest_numbers low c cpus are) (omega (arith, below)) in
    let one : from (low + suc j) kind t c ≡ 0 = cond-false (nat_le (low + suc j) c.part.number) (word_in kind t c) 0 (lt-leb (low + suc j) c.part.number (omega (arith, first))) in
    let two : from (low + suc j + 1) kind t c ≡ 0 = cond-false (nat_le (low + suc j + 1) c.part.number) (word_in kind t c) 0 (lt-leb (low + suc j + 1) c.part.number (omega (arith, first))) in
    let same : low + 1 + j ≡ low + suc j = omega arith in
    omega (
      arith,
      sum_by-cons (from (low + suc j) kind t) c cpus,
      sum_by-cons (from (low + suc j + 1) kind t) c cpus,
      one,
      two,
      subst (λ n. sum_by (from n kind t) cpus ≡ word_in kind t (get_or cpus j d) + sum_by (from (n + 1) kind t) cpus) same later,
    )

-- past the last CPU there are none
pub from_none : (i low : ℕ) (kind : Kind) (t : ℕ) (cpus : List CpuShown) → low + length cpus ≤ i → AreFrom low cpus → sum_by (from i kind t) cpus ≡ 0
from_none i low kind t [] past are = refl
from_none i low kind t (c ∷ cpus) past are =
    let later = from_none i (low + 1) kind t cpus (omega (arith, past)) (rest_numbers low c cpus are) in
    let here : from i kind t c ≡ 0 = cond-false (nat_le i c.part.number) (word_in kind t c) 0 (lt-leb i c.part.number (omega (arith, past, first_number low c cpus are))) in
    omega (arith, sum_by-cons (from i kind t) c cpus, later, here)
