-- A CPU's words, where one is raised or lowered.
use Rattle.std.proofs.Common.{◌≡◌, ℕ, ◌+◌, ◌*◌, ◌<◌, ◌≤◌, ◌≢◌, List, length, arith, subst, inl, inr, slice_index}
use Rattle.std.proofs.lemmas.Bool.{cases_eq}
use Rattle.std.proofs.lemmas.List.{get_or-set_same, get_or-set_other}
use Rattle.tag_model.specs.declared.state.Kind.{Kind}
use Rattle.tag_model.specs.declared.state.Kind.TheVariants.{Bytes, Calls}
use Rattle.tag_model.specs.Wrap.{wrap, wrap_minus}
use Rattle.tag_model.specs.WordState.{word_place}
use Rattle.tag_model.specs.StepRules.{raised, lowered}

-- what holds of one word of a CPU, and of each word that stands elsewhere, holds of each word
pub by_word : (P : Kind → ℕ → Type 0) (kind : Kind) (t : ℕ) → P kind t → ((other : Kind) (u : ℕ) → word_place other u ≢ word_place kind t → P other u) → (other : Kind) (u : ℕ) → P other u
by_word P Bytes t here rest Bytes u =
    elim (cases_eq t u) [ inl e ↦ subst (λ x. P Bytes x) e here | inr ne ↦ rest Bytes u (λ e. ne (omega arith)) ]
by_word P Bytes t here rest Calls u = rest Calls u (λ e. omega arith)
by_word P Calls t here rest Bytes u = rest Bytes u (λ e. omega arith)
by_word P Calls t here rest Calls u =
    elim (cases_eq t u) [ inl e ↦ subst (λ x. P Calls x) e here | inr ne ↦ rest Calls u (λ e. ne (omega arith)) ]

-- each tag of the shape has its two words
pub word_within : (kind : Kind) (t tags : ℕ) (words : List ℕ) → t < tags → length words ≡ 2 * tags → word_place kind t < length words
word_within Bytes t tags words h e = omega arith
word_within Calls t tags words h e = omega arith

pub raised_here : (kind : Kind) (t n : ℕ) (words : List ℕ) → word_place kind t < length words → slice_index (raised kind t n words) (word_place kind t) ≡ wrap (slice_index words (word_place kind t) + n)
raised_here kind t n words h = get_or-set_same words (word_place kind t) _ 0 h

pub raised_elsewhere : (kind : Kind) (t n : ℕ) (words : List ℕ) (q : ℕ) → q ≢ word_place kind t → slice_index (raised kind t n words) q ≡ slice_index words q
raised_elsewhere kind t n words q ne = get_or-set_other words (word_place kind t) q _ 0 ne

pub lowered_here : (kind : Kind) (t n : ℕ) (words : List ℕ) → word_place kind t < length words → slice_index (lowered kind t n words) (word_place kind t) ≡ wrap_minus (slice_index words (word_place kind t)) n
lowered_here kind t n words h = get_or-set_same words (word_place kind t) _ 0 h

pub lowered_elsewhere : (kind : Kind) (t n : ℕ) (words : List ℕ) (q : ℕ) → q ≢ word_place kind t → slice_index (lowered kind t n words) q ≡ slice_index words q
lowered_elsewhere kind t n words q ne = get_or-set_other words (word_place kind t) q _ 0 ne

-- ---- sums that wrap: w and c are the other parts' words and counts, x and h the CPU's, n what moves

pub both_rise : (w x c h n : ℕ) → wrap (w + x) ≡ wrap (c + h) → wrap (w + wrap (x + n)) ≡ wrap (c + (h + n))
both_rise w x c h n e = omega arith

pub both_fall : (w x c h n : ℕ) → wrap (w + x) ≡ wrap (c + (h + n)) → wrap (w + wrap_minus x n) ≡ wrap (c + h)
both_fall w x c h n e = omega arith

-- where the words read are at least what is counted, both may fall
pub bound_falls : (s w x c h n : ℕ) → c + (h + n) ≤ wrap (s + (w + x)) → c + h ≤ wrap (s + (w + wrap_minus x n))
bound_falls s w x c h n e = omega arith
