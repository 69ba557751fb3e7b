-- A made-up state for one kind and tag: CPUs with no hand whose words of it are those that are lent, and a hand that counts one, as if something were counted under the tag. The sweep law of `tag_model` holds in it as long as the words don't add up to 0.
use Rattle.std.proofs.Common.{◌≡◌, ◌≢◌, ℕ, ◌+◌, ◌*◌, ◌<◌, ◌≤◌, ◌==◌, nat_le, List, [], ◌∷◌, length, map, replicate, sum_by, slice_index, slice_set, None, Some, refl, ap, ◌∙◌, subst, arith, Bool, true, false, not, cond, All, eq-eqb, ne_eqb, lt-ltb, inl, inr, ◌⊎◌}
use Rattle.std.specs.List.{list_all}
use Rattle.std.proofs.lemmas.Bool.{and_from, cond-true, cond-false, cases_eq}
use Rattle.std.proofs.lemmas.List.{get_or-set_same, get_or-set_other, get_or-replicate, length-set, length-replicate}
use Rattle.std.proofs.lemmas.List.Elements.{All-head, All-tail}
use Rattle.std.proofs.lemmas.List.Sums.{sum_by-cons}
use Rattle.tag_model.specs.declared.shape.Shape.{Shape}
use Rattle.tag_model.specs.declared.state.Hand.{Hand}
use Rattle.tag_model.specs.declared.state.Kind.{Kind}
use Rattle.tag_model.specs.declared.state.Kind.TheVariants.{Bytes, Calls}
use Rattle.tag_model.specs.declared.state.Part.{Part}
use Rattle.tag_model.specs.declared.state.Part.TheVariants.{Cpu}
use Rattle.tag_model.specs.declared.state.Record.{Record}
use Rattle.tag_model.specs.Reference.{amount, hand_fits}
use Rattle.tag_model.specs.Wrap.{wrap}
use Rattle.tag_model.specs.WordState.{Every, counted, one_if, part_fits, record_fits, word_from, word_place}
use Rattle.tag_model.proofs.Lists.{Apart}
use Rattle.tag_model.proofs.Passes.{PassBase}
use Rattle.tag_model.proofs.Words.{word_within}
use Rattle.tag_rule.specs.Shown.{CpuShown}
use Rattle.percpu_words.specs.CpuWords.{word_in}
use Rattle.reclaim.specs.Quiet.{total}
use Rattle.reclaim.proofs.QuietSums.{AreFrom, from, from_all, number}

abbrev pub no_words : Shape → List ℕ
no_words k = replicate (2 * k.tags) 0

abbrev pub made : Shape → Kind → ℕ → CpuShown → Part
made k kind t c = Cpu (record { number = c.part.number; words = slice_set (no_words k) (word_place kind t) (word_in kind t c); hand = None; runs = []; notes = [] })

abbrev pub one_in_hand : Kind → ℕ → Hand
one_in_hand kind t = record { tag = record { number = t; «module» = 0 }; bytes = amount kind 1 0; calls = 1; opening = false }

abbrev pub holder : Shape → Kind → ℕ → Part
holder k kind t = Cpu (record { number = 0; words = slice_set (no_words k) (word_place Calls t) (amount kind 1 0); hand = Some (one_in_hand kind t); runs = []; notes = [] })

abbrev pub made_up : Shape → Kind → ℕ → List CpuShown → List Part
made_up k kind t cpus = holder k kind t ∷ map (made k kind t) cpus

-- ---- words

set_here : (k : Shape) (kind : Kind) (t v : ℕ) → t < k.tags → slice_index (slice_set (no_words k) (word_place kind t) v) (word_place kind t) ≡ v
set_here k kind t v small = get_or-set_same (no_words k) (word_place kind t) v 0 (word_within kind t k.tags (no_words k) small (length-replicate (2 * k.tags) 0))

set_there : (k : Shape) (place other v : ℕ) → other ≢ place → slice_index (slice_set (no_words k) place v) other ≡ slice_index (no_words k) other
set_there k place other v apart = get_or-set_other (no_words k) place other v 0 apart

none_there : (k : Shape) (kind : Kind) (t : ℕ) → t < k.tags → slice_index (no_words k) (word_place kind t) ≡ 0
none_there k kind t small = get_or-replicate (2 * k.tags) (word_place kind t) 0 0 (omega (arith, word_within kind t k.tags (no_words k) small (length-replicate (2 * k.tags) 0), length-replicate {A = ℕ} (2 * k.tags) 0))

words_made : (k : Shape) (i : ℕ) (kind : Kind) (t : ℕ) (cpus : List CpuShown) → t < k.tags → sum_by (word_from i kind t) (map (made k kind t) cpus) ≡ sum_by (from i kind t) cpus
words_made k i kind t [] small = refl
words_made k i kind t (c ∷ cpus) small =
    let here : word_from i kind t (made k kind t c) ≡ from i kind t c = ap (λ w. cond (nat_le i c.part.number) w 0) (set_here k kind t (word_in kind t c) small) in
    omega (arith, sum_by-cons (word_from i kind t) (made k kind t c) (map (made k kind t) cpus), sum_by-cons (from i kind t) c cpus, here, words_made k i kind t cpus small)

held_word : (k : Shape) (kind : Kind) (t : ℕ) → t < k.tags → slice_index (slice_set (no_words k) (word_place Calls t) (amount kind 1 0)) (word_place kind t) ≡ 0
held_word k Bytes t small = set_there k (word_place Calls t) (word_place Bytes t) 1 (λ e. omega (arith, e)) ∙ none_there k Bytes t small
held_word k Calls t small = set_here k Calls t 0 small

both_zero : (b : Bool) (n : ℕ) → n ≡ 0 → cond b n 0 ≡ 0
both_zero true n e = e
both_zero false n e = refl

-- from some CPU on, the made-up words of the kind and tag are those that are lent
pub words_of : (k : Shape) (i : ℕ) (kind : Kind) (t : ℕ) (cpus : List CpuShown) → t < k.tags → sum_by (word_from i kind t) (made_up k kind t cpus) ≡ sum_by (from i kind t) cpus
words_of k i kind t cpus small =
    let here : word_from i kind t (holder k kind t) ≡ 0 = both_zero (nat_le i 0) (slice_index (slice_set (no_words k) (word_place Calls t) (amount kind 1 0)) (word_place kind t)) (held_word k kind t small) in
    omega (arith, sum_by-cons (word_from i kind t) (holder k kind t) (map (made k kind t) cpus), here, words_made k i kind t cpus small)

-- a hand of bytes has a call of its own
call_of : (k : Shape) (t : ℕ) (cpus : List CpuShown) → t < k.tags → 1 ≤ sum_by (word_from 0 Calls t) (made_up k Bytes t cpus)
call_of k t cpus small =
    let here : word_from 0 Calls t (holder k Bytes t) ≡ 1 = set_here k Calls t 1 small in
    omega (arith, sum_by-cons (word_from 0 Calls t) (holder k Bytes t) (map (made k Bytes t) cpus), here)

no_calls : (k : Shape) (t : ℕ) (cpus : List CpuShown) → t < k.tags → sum_by (word_from 0 Calls t) (map (made k Bytes t) cpus) ≡ 0
no_calls k t [] small = refl
no_calls k t (c ∷ cpus) small =
    let here : word_from 0 Calls t (made k Bytes t c) ≡ 0 = both_zero (nat_le 0 c.part.number) (slice_index (slice_set (no_words k) (word_place Bytes t) (word_in Bytes t c)) (word_place Calls t)) (set_there k (word_place Bytes t) (word_place Calls t) (word_in Bytes t c) (λ e. omega (arith, e)) ∙ none_there k Calls t small) in
    omega (arith, sum_by-cons (word_from 0 Calls t) (made k Bytes t c) (map (made k Bytes t) cpus), here, no_calls k t cpus small)

one_call : (k : Shape) (t : ℕ) (cpus : List CpuShown) → t < k.tags → sum_by (word_from 0 Calls t) (made_up k Bytes t cpus) ≡ 1
one_call k t cpus small =
    let here : word_from 0 Calls t (holder k Bytes t) ≡ 1 = set_here k Calls t 1 small in
    omega (arith, sum_by-cons (word_from 0 Calls t) (holder k Bytes t) (map (made k Bytes t) cpus), here, no_calls k t cpus small)

-- ---- what is counted

none_made : (k : Shape) (kind : Kind) (t : ℕ) (cpus : List CpuShown) (other : Kind) (u : ℕ) → sum_by (counted other u) (map (made k kind t) cpus) ≡ 0
none_made k kind t [] other u = refl
none_made k kind t (c ∷ cpus) other u = omega (arith, sum_by-cons (counted other u) (made k kind t c) (map (made k kind t) cpus), none_made k kind t cpus other u)

counts : (k : Shape) (kind : Kind) (t : ℕ) (cpus : List CpuShown) (other : Kind) (u : ℕ) → sum_by (counted other u) (made_up k kind t cpus) ≡ cond (t == u) (amount other (amount kind 1 0) 1) 0
counts k kind t cpus other u = omega (arith, sum_by-cons (counted other u) (holder k kind t) (map (made k kind t) cpus), none_made k kind t cpus other u)

pub counts_here : (k : Shape) (kind : Kind) (t : ℕ) (cpus : List CpuShown) → sum_by (counted kind t) (made_up k kind t cpus) ≡ 1
counts_here k kind t cpus = counts k kind t cpus kind t ∙ (cond-true (t == t) (amount kind (amount kind 1 0) 1) 0 (eq-eqb t t refl) ∙ one kind)
  where
    one : (kind : Kind) → amount kind (amount kind 1 0) 1 ≡ 1
    one Bytes = refl
    one Calls = refl

pub counts_other : (k : Shape) (kind : Kind) (t : ℕ) (cpus : List CpuShown) (other : Kind) (u : ℕ) → t ≢ u → sum_by (counted other u) (made_up k kind t cpus) ≡ 0
counts_other k kind t cpus other u apart = counts k kind t cpus other u ∙ cond-false (t == u) (amount other (amount kind 1 0) 1) 0 (ne_eqb t u apart)

pub counts_no_bytes : (k : Shape) (t : ℕ) (cpus : List CpuShown) (u : ℕ) → sum_by (counted Bytes u) (made_up k Calls t cpus) ≡ 0
counts_no_bytes k t cpus u = counts k Calls t cpus Bytes u ∙ both_zero (t == u) 0 refl

counts_a_call : (k : Shape) (t : ℕ) (cpus : List CpuShown) → sum_by (counted Calls t) (made_up k Bytes t cpus) ≡ 1
counts_a_call k t cpus = counts k Bytes t cpus Calls t ∙ cond-true (t == t) 1 0 (eq-eqb t t refl)

-- ---- the base of a pass

enough : (k : Shape) (kind : Kind) (t : ℕ) (cpus : List CpuShown) → t < k.tags → AreFrom 0 cpus → total kind t cpus ≢ 0 → (other : Kind) (u : ℕ) → sum_by (counted other u) (made_up k kind t cpus) ≤ wrap (0 + sum_by (word_from 0 other u) (made_up k kind t cpus))
enough k kind t cpus small are some other u = go (cases_eq t u)
  where
    same : (kind other : Kind) → total kind t cpus ≢ 0 → sum_by (counted other t) (made_up k kind t cpus) ≤ wrap (0 + sum_by (word_from 0 other t) (made_up k kind t cpus))
    same Bytes Bytes some = omega (arith, counts_here k Bytes t cpus, words_of k 0 Bytes t cpus small, from_all 0 0 Bytes t cpus (omega arith) are, some)
    same Calls Calls some = omega (arith, counts_here k Calls t cpus, words_of k 0 Calls t cpus small, from_all 0 0 Calls t cpus (omega arith) are, some)
    same Bytes Calls some = omega (arith, counts_a_call k t cpus, one_call k t cpus small)
    same Calls Bytes some = omega (arith, counts_no_bytes k t cpus t)

    go : (t ≡ u) ⊎ (t ≢ u) → sum_by (counted other u) (made_up k kind t cpus) ≤ wrap (0 + sum_by (word_from 0 other u) (made_up k kind t cpus))
    go (inl is) = subst (λ n. sum_by (counted other n) (made_up k kind t cpus) ≤ wrap (0 + sum_by (word_from 0 other n) (made_up k kind t cpus))) is (same kind other some)
    go (inr apart) = omega (arith, counts_other k kind t cpus other u apart)

pub base_of : (k : Shape) (records : List Record) (kind : Kind) (t : ℕ) (cpus : List CpuShown) → 0 < k.cpus → list_all (record_fits k) records ≡ true → Apart records → t < k.tags → AreFrom 0 cpus → total kind t cpus ≢ 0 → PassBase k records (made_up k kind t cpus)
base_of k records kind t cpus some_cpu fit apart small are some = record { some_cpu = some_cpu; fit = fit; apart = apart; fresh = enough k kind t cpus small are some }

-- ---- the parts are in their bounds

long : (k : Shape) (place v : ℕ) → (length (slice_set (no_words k) place v) == 2 * k.tags) ≡ true
long k place v = eq-eqb _ _ (length-set (no_words k) place v ∙ length-replicate {A = ℕ} (2 * k.tags) 0)

fits_made : (k : Shape) (kind : Kind) (t : ℕ) (cpus : List CpuShown) → All (λ c. number c < k.cpus) cpus → Every (part_fits k) (map (made k kind t) cpus)
fits_made k kind t [] below = refl
fits_made k kind t (c ∷ cpus) below =
    let here : part_fits k (made k kind t c) ≡ true = and_from _ _ (and_from _ _ (and_from _ _ (lt-ltb c.part.number k.cpus (All-head (λ x. number x < k.cpus) c cpus below)) (long k (word_place kind t) (word_in kind t c))) refl) refl in
    let none : one_if (not (part_fits k (made k kind t c))) ≡ 0 = ap (λ b. one_if (not b)) here in
    omega (arith, sum_by-cons (λ p. one_if (not (part_fits k p))) (made k kind t c) (map (made k kind t) cpus), none, fits_made k kind t cpus (All-tail (λ x. number x < k.cpus) c cpus below))

pub fits_up : (k : Shape) (kind : Kind) (t : ℕ) (cpus : List CpuShown) → 0 < k.cpus → All (λ c. number c < k.cpus) cpus → Every (part_fits k) (made_up k kind t cpus)
fits_up k kind t cpus some below =
    let here : part_fits k (holder k kind t) ≡ true = and_from _ _ (and_from _ _ (and_from _ _ (lt-ltb 0 k.cpus some) (long k (word_place Calls t) (amount kind 1 0))) (fit kind)) refl in
    let none : one_if (not (part_fits k (holder k kind t))) ≡ 0 = ap (λ b. one_if (not b)) here in
    omega (arith, sum_by-cons (λ p. one_if (not (part_fits k p))) (holder k kind t) (map (made k kind t) cpus), none, fits_made k kind t cpus below)
  where
    fit : (kind : Kind) → hand_fits (Some (one_in_hand kind t)) ≡ true
    fit Bytes = refl
    fit Calls = refl
