-- With no hand out, what is counted is what the places hold.
use Rattle.std.proofs.Common.{◌≡◌, ℕ, suc, ◌+◌, ◌<◌, List, [], ◌∷◌, ◌++◌, length, get_or, refl, sym, ap, ◌∙◌, arith, Option, None, sum_by, true, false, ◌^◌}
use Rattle.std.proofs.lemmas.List.Sums.{sum_by-cons, sum_by-append}
use Rattle.tag_model.specs.declared.state.Hand.{Hand}
use Rattle.tag_model.specs.declared.state.Held.{Held}
use Rattle.tag_model.specs.declared.state.Held.TheVariants as held
use Rattle.tag_model.specs.declared.state.Kind.{Kind}
use Rattle.tag_model.specs.declared.state.Part.{Part}
use Rattle.tag_model.specs.declared.state.Part.TheVariants.{Cpu, Place, Modules, NextId}
use Rattle.tag_model.specs.Laws.{has_hand, hand_number, live_of, live_pair, of_reader, reader_number}
use Rattle.tag_model.specs.Reference.{held_counts, live_total}
use Rattle.tag_model.specs.Wrap.{wrap}
use Rattle.tag_model.specs.declared.state.Sweep.{Sweep}
use Rattle.tag_model.specs.declared.state.Sweep.TheVariants as sweep
use Rattle.tag_model.proofs.Bounds.{counted_below}
use Rattle.tag_model.proofs.Live.{live_counts, live_words}
use Rattle.core_list.specs.declared.list.Next.TheVariants.{Nothing}
use Rattle.module_ops.specs.Modules.{is_nothing}
use Rattle.cpu_ops.specs.Machine.{hand_at}
use Rattle.core_steps.specs.CoreState.{CoreState, IsCore, cpu_part, cpu_parts, place_parts, runs_of, list_parts, state_with, word_state, total_of}
use Rattle.core_list.specs.ListState.{ListState, list_part, next_of}
use Rattle.tag_model.specs.declared.state.Run.{Run}
use Rattle.core_steps.proofs.Parts.{sum_both, sum_two}
use Rattle.core_steps.proofs.Totals.{sum_words}

no_hands : (n : ℕ) (hands : List (Option Hand)) (words : List (List ℕ)) (runs : ℕ → List Run) → ((i : ℕ) → i < length hands → get_or hands i None ≡ None) → sum_by has_hand (cpu_parts n hands words runs) ≡ 0
no_hands n [] words runs none = refl
no_hands n (hand ∷ hands) [] runs none = refl
no_hands n (hand ∷ hands) (own ∷ words) runs none =
    let first : hand ≡ None = none 0 (omega arith) in
    let e : hand_number hand ≡ 0 = ap hand_number first in
    omega (arith, sum_by-cons has_hand (Cpu (cpu_part n hand own (runs n))) (cpu_parts (n + 1) hands words runs), no_hands (n + 1) hands words runs (λ i below. none (suc i) (omega arith)))

no_place_hands : (n : ℕ) (places : List Held) → sum_by has_hand (place_parts n places) ≡ 0
no_place_hands n [] = refl
no_place_hands n (x ∷ places) = omega (arith, sum_by-cons has_hand (Place n x) (place_parts (n + 1) places), no_place_hands (n + 1) places)

-- no hand is out
pub quiet_hands : (s : CoreState) → IsCore s → ((cpu : ℕ) → cpu < s.shape.cpus → hand_at s.machine cpu ≡ None) → sum_by has_hand (word_state s) ≡ 0
unfolding state_with
quiet_hands s core quiet =
    let cpus = cpu_parts 0 s.machine.hands s.words (runs_of s.modules) in let places = place_parts 0 s.machine.places in let lists = list_parts 0 [] s.modules.list in
    omega (
      arith,
      sum_both has_hand cpus (places ++ lists),
      sum_both has_hand places lists,
      sum_two has_hand (Modules (list_part 0 [] s.modules.list)) (NextId (s.modules.list.last_id + 1)),
      no_hands 0 s.machine.hands s.words (runs_of s.modules) (λ i below. quiet i (omega (arith, core.machine.hands))),
      no_place_hands 0 s.machine.places,
    )

pub quiet_totals : (s : CoreState) (kind : Kind) (t : ℕ) → IsCore s → ((cpu : ℕ) → cpu < s.shape.cpus → hand_at s.machine cpu ≡ None) → total_of s.words kind t ≡ wrap (live_total kind t (live_of (word_state s)))
quiet_totals s kind t core quiet = ap wrap (sym (sum_words s core kind t)) ∙ live_words s.shape (word_state s) kind t core.safe (quiet_hands s core quiet)

-- what is live fits a word, so nothing is lost
pub quiet_exact : (s : CoreState) (kind : Kind) (t : ℕ) → IsCore s → ((cpu : ℕ) → cpu < s.shape.cpus → hand_at s.machine cpu ≡ None) → total_of s.words kind t ≡ live_total kind t (live_of (word_state s))
quiet_exact s kind t core quiet =
    let same = live_counts kind t (word_state s) (quiet_hands s core quiet) in
    let below = counted_below s.shape kind t (word_state s) core.shape core.safe.each core.safe.fits in
    quiet_totals s kind t core quiet ∙ small (live_total kind t (live_of (word_state s))) (omega (arith, same, below))
  where
    small : (n : ℕ) → n < 2 ^ 63 → wrap n ≡ n
    small n h = omega arith

-- ---- the sweep isn't reading

no_cpu_reads : (n : ℕ) (hands : List (Option Hand)) (words : List (List ℕ)) (runs : ℕ → List Run) → sum_by (of_reader (λ r. 1)) (cpu_parts n hands words runs) ≡ 0
no_cpu_reads n [] words runs = refl
no_cpu_reads n (hand ∷ hands) [] runs = refl
no_cpu_reads n (hand ∷ hands) (own ∷ words) runs = omega (arith, sum_by-cons (of_reader (λ r. 1)) (Cpu (cpu_part n hand own (runs n))) (cpu_parts (n + 1) hands words runs), no_cpu_reads (n + 1) hands words runs)

no_place_reads : (n : ℕ) (places : List Held) → sum_by (of_reader (λ r. 1)) (place_parts n places) ≡ 0
no_place_reads n [] = refl
no_place_reads n (x ∷ places) = omega (arith, sum_by-cons (of_reader (λ r. 1)) (Place n x) (place_parts (n + 1) places), no_place_reads (n + 1) places)

rests : (x : Sweep) → is_nothing (next_of x) ≡ true → reader_number (λ r. 1) x ≡ 0
rests sweep.None e = refl
rests (sweep.Done left) e = refl
rests (sweep.Reading left r) e = absurd (cc)

nothing_next : (x : Sweep) → is_nothing (next_of x) ≡ true → next_of x ≡ Nothing
nothing_next sweep.None e = refl
nothing_next (sweep.Done []) e = refl
nothing_next (sweep.Done (id ∷ left)) e = absurd (cc)
nothing_next (sweep.Reading left r) e = absurd (cc)

pub at_rest : (s : CoreState) → IsCore s → s.modules.manager.under_way ≡ false → next_of s.modules.list.sweep ≡ Nothing
at_rest s core off = nothing_next s.modules.list.sweep (core.modules.at_rest off)

pub reads_nothing : (s : CoreState) → IsCore s → s.modules.manager.under_way ≡ false → sum_by (of_reader (λ r. 1)) (word_state s) ≡ 0
unfolding state_with
reads_nothing s core off =
    let cpus = cpu_parts 0 s.machine.hands s.words (runs_of s.modules) in let places = place_parts 0 s.machine.places in let lists = list_parts 0 [] s.modules.list in
    omega (
      arith,
      sum_both (of_reader (λ r. 1)) cpus (places ++ lists),
      sum_both (of_reader (λ r. 1)) places lists,
      sum_two (of_reader (λ r. 1)) (Modules (list_part 0 [] s.modules.list)) (NextId (s.modules.list.last_id + 1)),
      no_cpu_reads 0 s.machine.hands s.words (runs_of s.modules),
      no_place_reads 0 s.machine.places,
      rests s.modules.list.sweep (core.modules.at_rest off),
    )

-- ---- the live list is that of the places

live_cpus : (kind : Kind) (t n : ℕ) (hands : List (Option Hand)) (words : List (List ℕ)) (runs : ℕ → List Run) (rest : List Part) → live_total kind t (live_of (cpu_parts n hands words runs ++ rest)) ≡ live_total kind t (live_of rest)
live_cpus kind t n [] words runs rest = refl
live_cpus kind t n (hand ∷ hands) [] runs rest = refl
live_cpus kind t n (hand ∷ hands) (own ∷ words) runs rest = live_cpus kind t (n + 1) hands words runs rest

live_place : (kind : Kind) (t n : ℕ) (x : Held) → live_total kind t (live_pair (Place n x)) ≡ held_counts kind t x
live_place kind t n held.None = refl
live_place kind t n held.Empty = refl
live_place kind t n (held.Counted tag size) = omega arith

live_rest : (kind : Kind) (t n : ℕ) (places : List Held) (list : ListState) → live_total kind t (live_of (place_parts n places ++ list_parts 0 [] list)) ≡ sum_by (held_counts kind t) places
live_rest kind t n [] list = refl
live_rest kind t n (x ∷ places) list =
    omega (
      arith,
      live_place kind t n x,
      live_rest kind t (n + 1) places list,
      sum_by-cons (held_counts kind t) x places,
      sum_by-append (λ (entry : ℕ × Held). held_counts kind t entry.1) (live_pair (Place n x)) (live_of (place_parts (n + 1) places ++ list_parts 0 [] list)),
    )

pub live_places : (s : CoreState) (kind : Kind) (t : ℕ) → live_total kind t (live_of (word_state s)) ≡ sum_by (held_counts kind t) s.machine.places
unfolding state_with
live_places s kind t = live_cpus kind t 0 s.machine.hands s.words (runs_of s.modules) (place_parts 0 s.machine.places ++ list_parts 0 [] s.modules.list) ∙ live_rest kind t 0 s.machine.places s.modules.list
