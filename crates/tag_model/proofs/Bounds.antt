-- What is counted stays below 2^63, so where a sweep begins to read a tag, all its words together are at least what is counted.
use Rattle.std.proofs.Common.{◌≡◌, ℕ, ◌+◌, ◌*◌, ◌^◌, ◌<◌, ◌≤◌, ◌==◌, nat_lt, nat_le, List, [], ◌∷◌, sum_by, refl, arith, cond, Bool, true, false, not, Option, Some, None, slice_index, zero, suc, ltb-true, le-ltb, le-leb, zero-add}
use Rattle.std.proofs.lemmas.Bool.{and_parts}
use Rattle.std.proofs.lemmas.Bool.Decides.{nat_tests}
use Rattle.std.proofs.lemmas.List.Sums.{sum_by-cons}
use Rattle.tag_model.specs.declared.limits.TheConstants.{SIZE_END}
use Rattle.tag_model.specs.declared.shape.Shape.{Shape}
use Rattle.tag_model.specs.declared.state.Hand.{Hand}
use Rattle.tag_model.specs.declared.state.Held.{Held}
use Rattle.tag_model.specs.declared.state.Held.TheVariants as held
use Rattle.tag_model.specs.declared.state.Kind.{Kind}
use Rattle.tag_model.specs.declared.state.Kind.TheVariants.{Bytes, Calls}
use Rattle.tag_model.specs.declared.state.Part.{Part}
use Rattle.tag_model.specs.declared.state.Part.TheVariants.{Cpu, Place, Modules, NextId}
use Rattle.tag_model.specs.Laws.{OneOfEach, SumLaw}
use Rattle.tag_model.specs.Reference.{hand_counts, held_counts, hand_fits, held_fits}
use Rattle.tag_model.specs.Shape.{IsChecked}
use Rattle.tag_model.specs.Wrap.{wrap}
use Rattle.tag_model.specs.WordState.{one_if, Every, word_place, word_of, word_from, counted, is_cpu, is_place, part_fits}
use Rattle.tag_model.proofs.CpuFits.{hand_fits_means, cpu_fits_means}
use Rattle.tag_model.proofs.Found.{none_fails}

pub sum_same : (f g : Part → ℕ) (ps : List Part) → ((p : Part) → f p ≡ g p) → sum_by f ps ≡ sum_by g ps
sum_same f g [] h = refl
sum_same f g (p ∷ ps) h = omega (arith, sum_by-cons f p ps, sum_by-cons g p ps, h p, sum_same f g ps h)

-- what holds of each part holds of the first and of each behind it
pub every_first : (test : Part → Bool) (p : Part) (ps : List Part) → Every test (p ∷ ps) → test p ≡ true
every_first test p ps e = none_fails (test p) (omega (arith, sum_by-cons (λ q. one_if (not (test q))) p ps))

pub every_rest : (test : Part → Bool) (p : Part) (ps : List Part) → Every test (p ∷ ps) → Every test ps
every_rest test p ps e = omega (arith, sum_by-cons (λ q. one_if (not (test q))) p ps)

-- ---- there are no more CPUs than the shape has

cpu_below : ℕ → Part → ℕ
cpu_below n (Cpu c) = one_if (nat_lt c.number n)
cpu_below n (Place m h) = 0
cpu_below n (Modules l) = 0
cpu_below n (NextId id) = 0

abbrev pub some_cpu : Part → ℕ
some_cpu (Cpu c) = 1
some_cpu (Place n h) = 0
some_cpu (Modules l) = 0
some_cpu (NextId id) = 0

one_more : (a n : ℕ) → one_if (nat_lt a (suc n)) ≡ one_if (nat_lt a n) + one_if (a == n)
one_more a n = grind (arith, nat_tests)

below_more_at : (n : ℕ) (p : Part) → cpu_below (suc n) p ≡ cpu_below n p + is_cpu n p
unfolding cpu_below
below_more_at n (Cpu c) = one_more c.number n
below_more_at n (Place m h) = refl
below_more_at n (Modules l) = refl
below_more_at n (NextId id) = refl

sum_two : (f g h : Part → ℕ) (ps : List Part) → ((p : Part) → f p ≡ g p + h p) → sum_by f ps ≡ sum_by g ps + sum_by h ps
sum_two f g h [] e = refl
sum_two f g h (p ∷ ps) e = omega (arith, sum_by-cons f p ps, sum_by-cons g p ps, sum_by-cons h p ps, e p, sum_two f g h ps e)

none_below : (a : ℕ) → one_if (nat_lt a 0) ≡ 0
none_below a = rw (le-ltb a 0 (omega arith)) refl

below_none_at : (p : Part) → cpu_below 0 p ≡ 0
unfolding cpu_below
below_none_at (Cpu c) = none_below c.number
below_none_at (Place m h) = refl
below_none_at (Modules l) = refl
below_none_at (NextId id) = refl

sum_nothing : (f : Part → ℕ) (ps : List Part) → ((p : Part) → f p ≡ 0) → sum_by f ps ≡ 0
sum_nothing f [] e = refl
sum_nothing f (p ∷ ps) e = omega (arith, sum_by-cons f p ps, e p, sum_nothing f ps e)

below_few : (n : ℕ) (ps : List Part) → ((m : ℕ) → m < n → sum_by (is_cpu m) ps ≤ 1) → sum_by (cpu_below n) ps ≤ n
below_few zero ps h = omega (arith, sum_nothing (cpu_below 0) ps below_none_at)
below_few (suc n) ps h = omega (arith, sum_two (cpu_below (suc n)) (cpu_below n) (is_cpu n) ps (below_more_at n), below_few n ps (λ m e. h m (omega arith)), h n (omega arith))

cpu_within_at : (k : Shape) (p : Part) → part_fits k p ≡ true → some_cpu p ≤ cpu_below k.cpus p
unfolding cpu_below
cpu_within_at k (Cpu c) e = rw (cpu_fits_means k c e).number (omega arith)
cpu_within_at k (Place m h) e = omega arith
cpu_within_at k (Modules l) e = omega arith
cpu_within_at k (NextId id) e = omega arith

cpus_within : (k : Shape) (ps : List Part) → Every (part_fits k) ps → sum_by some_cpu ps ≤ sum_by (cpu_below k.cpus) ps
cpus_within k [] e = omega arith
cpus_within k (p ∷ ps) e = omega (arith, sum_by-cons some_cpu p ps, sum_by-cons (cpu_below k.cpus) p ps, cpu_within_at k p (every_first (part_fits k) p ps e), cpus_within k ps (every_rest (part_fits k) p ps e))

pub few_cpus : (k : Shape) (ps : List Part) → OneOfEach k ps → Every (part_fits k) ps → sum_by some_cpu ps ≤ k.cpus
few_cpus k ps each fits = omega (arith, cpus_within k ps fits, below_few k.cpus ps (λ m e. omega (arith, each.cpus m e)))

-- ---- each hand and each place counts less than 2^44

at_most : (b : Bool) (x : ℕ) → cond {A = ℕ} b x 0 ≤ x
at_most true x = omega arith
at_most false x = omega arith

hand_small : (kind : Kind) (t : ℕ) (hand : Option Hand) → hand_fits hand ≡ true → hand_counts kind t hand ≤ 2 ^ 44
hand_small kind t None e = omega arith
hand_small Bytes t (Some h) e = omega (arith, at_most (h.tag.number == t) h.bytes, (hand_fits_means h e).bytes)
hand_small Calls t (Some h) e = omega (arith, at_most (h.tag.number == t) h.calls, (hand_fits_means h e).calls)

held_small : (kind : Kind) (t : ℕ) (h : Held) → held_fits h ≡ true → held_counts kind t h ≤ 2 ^ 44
held_small kind t held.None e = omega arith
held_small kind t held.Empty e = omega arith
held_small Bytes t (held.Counted tag size) e = omega (arith, at_most (tag.number == t) size, ltb-true size SIZE_END (and_parts (nat_lt 0 size) (nat_lt size SIZE_END) e).1)
held_small Calls t (held.Counted tag size) e = omega (arith, at_most (tag.number == t) 1)

part_small : (k : Shape) (kind : Kind) (t : ℕ) (p : Part) → part_fits k p ≡ true → counted kind t p ≤ 2 ^ 44 * is_place p + 2 ^ 44 * some_cpu p
part_small k kind t (Cpu c) e = omega (arith, hand_small kind t c.hand (cpu_fits_means k c e).hand)
part_small k kind t (Place n h) e = omega (arith, held_small kind t h e)
part_small k kind t (Modules l) e = omega arith
part_small k kind t (NextId id) e = omega arith

counts_small : (k : Shape) (kind : Kind) (t : ℕ) (ps : List Part) → Every (part_fits k) ps → sum_by (counted kind t) ps ≤ 2 ^ 44 * sum_by is_place ps + 2 ^ 44 * sum_by some_cpu ps
counts_small k kind t [] e = omega arith
counts_small k kind t (p ∷ ps) e =
    omega (arith, sum_by-cons (counted kind t) p ps, sum_by-cons is_place p ps, sum_by-cons some_cpu p ps, part_small k kind t p (every_first (part_fits k) p ps e), counts_small k kind t ps (every_rest (part_fits k) p ps e))

-- what is counted under a tag is below 2^63
pub counted_below : (k : Shape) (kind : Kind) (t : ℕ) (ps : List Part) → IsChecked k → OneOfEach k ps → Every (part_fits k) ps → sum_by (counted kind t) ps < 2 ^ 63
counted_below k kind t ps ok each fits = omega (arith, counts_small k kind t ps fits, few_cpus k ps each fits, ok.few_cpus, each.few_places)

-- ---- the words of the CPUs from one on

pub from_first_at : (kind : Kind) (t : ℕ) (p : Part) → word_from 0 kind t p ≡ word_of kind t p
from_first_at kind t (Cpu c) = rw (le-leb 0 c.number (omega arith)) refl
from_first_at kind t (Place n h) = refl
from_first_at kind t (Modules l) = refl
from_first_at kind t (NextId id) = refl

-- at the first CPU of a tag all its words are still to read: they are at least what is counted
pub fresh : (k : Shape) (ps : List Part) → IsChecked k → OneOfEach k ps → Every (part_fits k) ps → SumLaw ps → (kind : Kind) (t : ℕ) → sum_by (counted kind t) ps ≤ wrap (0 + sum_by (word_from 0 kind t) ps)
fresh k ps ok each fits law kind t =
    let below = counted_below k kind t ps ok each fits in
    let same = sum_same (word_from 0 kind t) (word_of kind t) ps (from_first_at kind t) in
    rw (same, zero-add) (omega (arith, law.sums kind t))

-- at a CPU that isn't among the parts they read as at the next one
other_cpu : (a i x : ℕ) → one_if (a == i) ≡ 0 → cond {A = ℕ} (nat_le i a) x 0 ≡ cond (nat_le (i + 1) a) x 0
other_cpu a i x e = grind (arith, nat_tests)

next_from_at : (i : ℕ) (kind : Kind) (t : ℕ) (p : Part) → is_cpu i p ≡ 0 → word_from i kind t p ≡ word_from (i + 1) kind t p
next_from_at i kind t (Cpu c) e = other_cpu c.number i (slice_index c.words (word_place kind t)) e
next_from_at i kind t (Place n h) e = refl
next_from_at i kind t (Modules l) e = refl
next_from_at i kind t (NextId id) e = refl

pub next_from : (i : ℕ) (kind : Kind) (t : ℕ) (ps : List Part) → sum_by (is_cpu i) ps ≡ 0 → sum_by (word_from i kind t) ps ≡ sum_by (word_from (i + 1) kind t) ps
next_from i kind t [] e = refl
next_from i kind t (p ∷ ps) e =
    let here : is_cpu i p ≡ 0 = omega (arith, sum_by-cons (is_cpu i) p ps) in
    omega (arith, sum_by-cons (word_from i kind t) p ps, sum_by-cons (word_from (i + 1) kind t) p ps, next_from_at i kind t p here, next_from i kind t ps (omega (arith, sum_by-cons (is_cpu i) p ps)))

-- behind the last CPU there is nothing to read
past_cpu : (a i n x : ℕ) → n ≤ i → nat_lt a n ≡ true → cond {A = ℕ} (nat_le i a) x 0 ≡ 0
past_cpu a i n x h e = grind (arith, nat_tests)

none_from_at : (k : Shape) (i : ℕ) (kind : Kind) (t : ℕ) (p : Part) → k.cpus ≤ i → part_fits k p ≡ true → word_from i kind t p ≡ 0
none_from_at k i kind t (Cpu c) h e = past_cpu c.number i k.cpus (slice_index c.words (word_place kind t)) h (cpu_fits_means k c e).number
none_from_at k i kind t (Place n held) h e = refl
none_from_at k i kind t (Modules l) h e = refl
none_from_at k i kind t (NextId id) h e = refl

pub none_from : (k : Shape) (i : ℕ) (kind : Kind) (t : ℕ) (ps : List Part) → k.cpus ≤ i → Every (part_fits k) ps → sum_by (word_from i kind t) ps ≡ 0
none_from k i kind t [] h e = refl
none_from k i kind t (p ∷ ps) h e = omega (arith, sum_by-cons (word_from i kind t) p ps, none_from_at k i kind t p h (every_first (part_fits k) p ps e), none_from k i kind t ps h (every_rest (part_fits k) p ps e))
