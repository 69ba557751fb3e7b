-- What holds of the words that both languages take.
use Rattle.std.proofs.Common.{◌≡◌, ℕ, ◌<◌, ◌≤◌, cond, ◌&&◌, ltb, leb, List, length, Option, Some, None, Ok, IfOk, IfSome, refl}
use Rattle.std.specs.Option.{ok_or, option_and_then}
use Rattle.std.proofs.lemmas.Bool.{cond_both, and_parts, leb-true, ltb-true}
use Rattle.tag_section.proofs.Names.{number_found}
use Rattle.tag_section.specs.Section.{Section, section_at, number_of}
use Rattle.text_form.specs.Numbers.{number_value, number_in, number_below}
use Rattle.input_form.specs.declared.code.Code.{Code}
use Rattle.input_form.specs.declared.code.Code.TheVariants as code
use Rattle.input_form.specs.Places.{module_word, tag_word, IsModule, IsTag}
use Rattle.input_form.specs.Words.{number_word, cpu_word}
use Rattle.input_form.proofs.Judged.{bound, checked, from_some}

range_in : (low high : ℕ) (value : Option ℕ) → IfSome (option_and_then (λ n. cond (leb low n && leb n high) (Some n) None) value) (λ n. (low ≤ n) × (n ≤ high))
range_in low high None = tt
range_in low high (Some n) =
    cond_both (leb low n && leb n high) (Some n) None (λ r. IfSome r (λ n. (low ≤ n) × (n ≤ high)))
    (λ both. let parts = and_parts _ _ both in (leb-true low n parts.0, leb-true n high parts.1))
    (λ _. tt)

range_below : (limit : ℕ) (value : Option ℕ) → IfSome (option_and_then (λ n. cond (ltb n limit) (Some n) None) value) (λ n. n < limit)
range_below limit None = tt
range_below limit (Some n) = cond_both (ltb n limit) (Some n) None (λ r. IfSome r (λ n. n < limit)) (λ below. ltb-true n limit below) (λ _. tt)

pub number_word_in : (low high : ℕ) (word : List ℕ) → IfOk (number_word low high word) (λ n. (low ≤ n) × (n ≤ high))
unfolding number_word
number_word_in low high word = from_some (λ n. (low ≤ n) × (n ≤ high)) (number_in low high word) code.Number (range_in low high (number_value word))

pub cpu_word_in : (cpus : ℕ) (word : List ℕ) → IfOk (cpu_word cpus word) (λ n. n < cpus)
unfolding cpu_word
cpu_word_in cpus word = from_some (λ n. n < cpus) (number_below cpus word) code.Cpu (range_below cpus (number_value word))

-- a section that is found is declared
found : (sections : List Section) (word : List ℕ) (c : Code) → IfOk (ok_or (number_of sections word) c) (λ n. n < length sections)
found sections word c = from_some (λ n. n < length sections) (number_of sections word) c (first (number_of sections word) (number_found sections word (number_of sections word) refl))
  where
    first : (o : Option ℕ) → IfSome o (λ n. (n < length sections) × ((section_at sections n).name ≡ word)) → IfSome o (λ n. n < length sections)
    first None h = tt
    first (Some n) h = h.0

pub module_word_in : (sections : List Section) (word : List ℕ) → IfOk (module_word sections word) (IsModule sections)
unfolding module_word
module_word_in sections word =
    bound (λ n. n < length sections) (IsModule sections) _ _ (found sections word code.Module)
    (λ n below. checked (IsModule sections) (ltb 0 n) code.Module (Ok n) (λ above. (ltb-true 0 n above, below)))

pub tag_word_in : (sections : List Section) (word : List ℕ) → IfOk (tag_word sections word) (λ (t : ℕ × ℕ). IsTag sections t.0 t.1)
unfolding tag_word
tag_word_in sections word =
    bound (λ n. n < length sections) (λ (t : ℕ × ℕ). IsTag sections t.0 t.1) _ _ (found sections _ code.Tag)
    (λ n below.
    bound (λ k. k < length (section_at sections n).tags) (λ (t : ℕ × ℕ). IsTag sections t.0 t.1) _ (λ k. Ok (n, k))
    (from_some (λ k. k < length (section_at sections n).tags) _ code.Tag (range_below (length (section_at sections n).tags) _))
    (λ k inside. (below, inside)))
