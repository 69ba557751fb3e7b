-- Which words a CPU owns, and which a run of cells does.
use Rattle.std.proofs.Common.{◌≡◌, ℕ, ◌+◌, ◌*◌, ◌<◌, ◌≤◌, ◌==◌, zero, suc, sum_by, sym, refl, ◌∙◌, arith, false, suc-mul, mul-le-mul_right}
use Rattle.std.specs.List.{range_with_len}
use Rattle.std.proofs.lemmas.Bool.Decides.{nat_tests}
use Rattle.std.proofs.lemmas.List.Sums.{sum_by-cons}
use Rattle.tag_model.specs.declared.shape.Shape.{Shape}
use Rattle.tag_model.specs.declared.state.CpuPart.{CpuPart}
use Rattle.tag_model.specs.declared.state.Part.TheVariants.{Cpu}
use Rattle.tag_model.specs.Index.{first_word, first_cell}
use Rattle.tag_model.specs.WordState.{one_if, in_range}
use Rattle.tag_rule.specs.Fresh.{empty_cell, places}
use Rattle.tag_rule.specs.Rule.{owns}

-- the span of one CPU, and of those behind it
pub span_more : (start size more q : ℕ) → one_if (in_range start size q) + one_if (in_range (start + size) more q) ≡ one_if (in_range start (size + more) q)
span_more start size more q = grind (arith, nat_tests)

pub empty_span : (start q : ℕ) → one_if (in_range start 0 q) ≡ 0
empty_span start q = grind (arith, nat_tests)

pub first_span : (a m q : ℕ) → one_if (a == q) + one_if (in_range (a + 1) m q) ≡ one_if (in_range a (suc m) q)
first_span a m q = grind (arith, nat_tests)

-- a run of cells owns its words
pub run_owns : (k : Shape) (q a m : ℕ) → sum_by (owns k q) (places (range_with_len a m)) ≡ one_if (in_range a m q)
run_owns k q a zero = sym (empty_span a q)
run_owns k q a (suc m) = omega (arith, run_owns k q (a + 1) m, sum_by-cons (owns k q) (empty_cell a) (places (range_with_len (a + 1) m)), first_span a m q)

outside_span : (start size q : ℕ) → start + size ≤ q → in_range start size q ≡ false
outside_span start size q h = grind (arith, nat_tests)

pub below_cells : (k : Shape) (n : ℕ) → n < k.cpus → first_word k n + 2 * k.tags ≤ first_cell k
below_cells k n h =
    let more : suc n * (2 * k.tags) ≤ k.cpus * (2 * k.tags) = mul-le-mul_right (2 * k.tags) h in
    omega (arith, suc-mul n (2 * k.tags))

-- a CPU owns no cell
pub no_cell : (k : Shape) (c : CpuPart) (q : ℕ) → c.number < k.cpus → first_cell k ≤ q → owns k q (Cpu c) ≡ 0
no_cell k c q low high = rw (outside_span (first_word k c.number) (2 * k.tags) q (omega (arith, below_cells k c.number low))) refl

pub behind_first : (k : Shape) (q m : ℕ) → sum_by (owns k q) (places (range_with_len (q + 1) m)) ≡ 0
behind_first k q m = run_owns k q (q + 1) m ∙ none
  where
    none : one_if (in_range (q + 1) m q) ≡ 0
    none = grind (arith, nat_tests)
