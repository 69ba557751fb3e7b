-- The words of a core, added over its CPUs, are those of its word state.
use Rattle.std.proofs.Common.{◌≡◌, ℕ, ◌+◌, List, [], ◌∷◌, ◌++◌, length, get_or, refl, sym, ap, ◌∙◌, arith, Option, sum_by}
use Rattle.std.proofs.lemmas.List.Sums.{sum_by-cons}
use Rattle.tag_model.specs.declared.state.Hand.{Hand}
use Rattle.tag_model.specs.declared.state.Held.{Held}
use Rattle.tag_model.specs.declared.state.Kind.{Kind}
use Rattle.tag_model.specs.declared.state.Part.TheVariants.{Cpu, Place, Modules, NextId}
use Rattle.tag_model.specs.Wrap.{wrap}
use Rattle.tag_model.specs.WordState.{word_of, word_place, counted}
use Rattle.core_steps.specs.CoreState.{CoreState, IsCore, cpu_part, cpu_parts, place_parts, runs_of, list_parts, state_with, word_state, total_of}
use Rattle.core_list.specs.ListState.{list_part}
use Rattle.tag_model.specs.declared.state.Run.{Run}
use Rattle.core_steps.proofs.Parts.{sum_both, sum_two}

sum_cpus : (kind : Kind) (t n : ℕ) (hands : List (Option Hand)) (words : List (List ℕ)) (runs : ℕ → List Run) → length hands ≡ length words → sum_by (word_of kind t) (cpu_parts n hands words runs) ≡ sum_by (λ (own : List ℕ). get_or own (word_place kind t) 0) words
sum_cpus kind t n [] [] runs len = refl
sum_cpus kind t n [] (own ∷ words) runs len = absurd (omega arith)
sum_cpus kind t n (hand ∷ hands) [] runs len = absurd (omega arith)
sum_cpus kind t n (hand ∷ hands) (own ∷ words) runs len =
    omega (
      arith,
      sum_by-cons (word_of kind t) (Cpu (cpu_part n hand own (runs n))) (cpu_parts (n + 1) hands words runs),
      sum_by-cons (λ (w : List ℕ). get_or w (word_place kind t) 0) own words,
      sum_cpus kind t (n + 1) hands words runs (omega arith),
    )

sum_places : (kind : Kind) (t n : ℕ) (places : List Held) → sum_by (word_of kind t) (place_parts n places) ≡ 0
sum_places kind t n [] = refl
sum_places kind t n (held ∷ places) = omega (arith, sum_by-cons (word_of kind t) (Place n held) (place_parts (n + 1) places), sum_places kind t (n + 1) places)

pub sum_words : (s : CoreState) → IsCore s → (kind : Kind) (t : ℕ) → sum_by (word_of kind t) (word_state s) ≡ sum_by (λ (own : List ℕ). get_or own (word_place kind t) 0) s.words
unfolding state_with
sum_words s core kind t =
    let cpus = cpu_parts 0 s.machine.hands s.words (runs_of s.modules) in let places = place_parts 0 s.machine.places in
    let lists = list_parts 0 [] s.modules.list in
    omega (
      arith,
      sum_both (word_of kind t) cpus (places ++ lists),
      sum_both (word_of kind t) places lists,
      sum_two (word_of kind t) (Modules (list_part 0 [] s.modules.list)) (NextId (s.modules.list.last_id + 1)),
      sum_cpus kind t 0 s.machine.hands s.words (runs_of s.modules) (core.machine.hands ∙ sym core.words),
      sum_places kind t 0 s.machine.places,
    )

-- what is added over the CPUs is what is counted, wrapped
pub totals_counted : (s : CoreState) → IsCore s → (kind : Kind) (t : ℕ) → total_of s.words kind t ≡ wrap (sum_by (counted kind t) (word_state s))
totals_counted s core kind t = ap wrap (sym (sum_words s core kind t)) ∙ core.safe.sums.sums kind t
