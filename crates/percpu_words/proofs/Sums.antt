-- The words of CPUs, as sums over the parts that they are.
use Rattle.std.proofs.Common.{◌≡◌, ℕ, ◌+◌, List, [], ◌∷◌, map, sum_by, refl, ap, sym, ◌∙◌, arith}
use Rattle.std.proofs.lemmas.List.Sums.{sum_by-cons, sum_by-append}
use Rattle.tag_model.specs.declared.shape.Shape.{Shape}
use Rattle.tag_model.specs.declared.state.Kind.{Kind}
use Rattle.tag_model.specs.declared.state.ListPart.{ListPart}
use Rattle.tag_model.specs.declared.state.Part.{Part}
use Rattle.tag_model.specs.declared.state.Part.TheVariants.{Cpu, Modules, NextId}
use Rattle.tag_model.specs.Laws.{Safe, has_hand, live_of}
use Rattle.tag_model.specs.Reference.{live_total}
use Rattle.tag_model.specs.StepRules.{Stands}
use Rattle.tag_model.specs.Telling.{AreAllLent}
use Rattle.tag_model.specs.WordState.{word_of}
use Rattle.tag_model.specs.Wrap.{wrap}
use Rattle.tag_model.proofs.Lent.{all_lent}
use Rattle.tag_model.proofs.Live.{live_words}
use Rattle.tag_rule.specs.Shown.{CpuShown}
use Rattle.percpu_words.specs.CpuWords.{lent, word_in}

words_of_cpus : (kind : Kind) (t : ℕ) (cpus : List CpuShown) → sum_by (word_of kind t) (map (λ (c : CpuShown). Cpu c.part) cpus) ≡ sum_by (word_in kind t) cpus
words_of_cpus kind t [] = refl
words_of_cpus kind t (c ∷ cpus) =
    let later : sum_by (word_of kind t) (map (λ (c : CpuShown). Cpu c.part) cpus) ≡ sum_by (word_in kind t) cpus = words_of_cpus kind t cpus in
    sum_by-cons (word_of kind t) (Cpu c.part) (map (λ (c : CpuShown). Cpu c.part) cpus) ∙ ap (λ n. word_in kind t c + n) later ∙ sym (sum_by-cons (word_in kind t) c cpus)

words_lent : (kind : Kind) (t : ℕ) (cpus : List CpuShown) (l : ListPart) (next : ℕ) → sum_by (word_of kind t) (lent cpus l next) ≡ sum_by (word_in kind t) cpus
words_lent kind t cpus l next =
    let none : sum_by (word_of kind t) (Modules l ∷ NextId next ∷ []) ≡ 0 = sum_by-cons (word_of kind t) (Modules l) (NextId next ∷ []) ∙ sum_by-cons (word_of kind t) (NextId next) [] in
    omega (arith, sum_by-append (word_of kind t) (map (λ (c : CpuShown). Cpu c.part) cpus) (Modules l ∷ NextId next ∷ []), none, words_of_cpus kind t cpus)

pub quiet_totals : (k : Shape) (cpus : List CpuShown) (l : ListPart) (next : ℕ) (parts : List Part) (kind : Kind) (t : ℕ) → AreAllLent k (lent cpus l next) → Stands (lent cpus l next) parts → Safe k parts → sum_by has_hand parts ≡ 0
    → wrap (sum_by (word_in kind t) cpus) ≡ wrap (live_total kind t (live_of parts))
quiet_totals k cpus l next parts kind t all stands safe quiet =
    ap wrap (sym (all_lent k (lent cpus l next) parts all stands safe (word_of kind t) (λ n held. refl) ∙ words_lent kind t cpus l next)) ∙ live_words k parts kind t safe quiet
