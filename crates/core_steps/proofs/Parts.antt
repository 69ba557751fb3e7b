-- A core's word state as a list of parts: where each stands, and what a change of one or two of them is.
use Rattle.std.proofs.Common.{◌≡◌, ℕ, zero, suc, ◌≢◌, ◌+◌, ◌<◌, ◌≤◌, List, [], ◌∷◌, ◌++◌, length, get_or, set, refl, ap, ◌∙◌, arith, add-zero, Option, None, sum_by}
use Rattle.std.proofs.lemmas.List.Sums.{sum_by-cons}
use Rattle.tag_model.specs.declared.state.Hand.{Hand}
use Rattle.tag_model.specs.declared.state.Held.{Held}
use Rattle.tag_model.specs.declared.state.Run.{Run}
use Rattle.tag_model.specs.declared.state.Held.TheVariants as held
use Rattle.tag_model.specs.declared.state.Part.{Part}
use Rattle.tag_model.specs.declared.state.Part.TheVariants.{Cpu, Place}
use Rattle.tag_model.specs.StepRules.{Becomes}
use Rattle.core_steps.specs.CoreState.{cpu_part, cpu_parts, place_parts}

-- ---- a list with one element taken out

pub without : List Part → ℕ → List Part
without [] i = []
without (x ∷ xs) zero = xs
without (x ∷ xs) (suc i) = x ∷ without xs i

pub sum_without : (f : Part → ℕ) (xs : List Part) (i : ℕ) (x : Part) → i < length xs → get_or xs i x ≡ x → sum_by f xs ≡ sum_by f (without xs i) + f x
unfolding without
sum_without f [] i x h e = absurd (omega arith)
sum_without f (y ∷ xs) zero x h e = let same : f y ≡ f x = ap f e in omega (arith, sum_by-cons f y xs)
sum_without f (y ∷ xs) (suc i) x h e = let rest = sum_without f xs i x (omega arith) e in omega (arith, sum_by-cons f y xs, sum_by-cons f y (without xs i))

pub sum_replaced : (f : Part → ℕ) (xs : List Part) (i : ℕ) (y : Part) → i < length xs → sum_by f (set xs i y) ≡ sum_by f (without xs i) + f y
unfolding without
sum_replaced f [] i y h = absurd (omega arith)
sum_replaced f (x ∷ xs) zero y h = omega (arith, sum_by-cons f y xs)
sum_replaced f (x ∷ xs) (suc i) y h = let rest = sum_replaced f xs i y (omega arith) in omega (arith, sum_by-cons f x (set xs i y), sum_by-cons f x (without xs i))

pub sum_both : (f : Part → ℕ) (xs ys : List Part) → sum_by f (xs ++ ys) ≡ sum_by f xs + sum_by f ys
sum_both f [] ys = omega arith
sum_both f (x ∷ xs) ys = let rest = sum_both f xs ys in omega (arith, sum_by-cons f x xs, sum_by-cons f x (xs ++ ys))

pub sum_one : (f : Part → ℕ) (x : Part) → sum_by f (x ∷ []) ≡ f x
sum_one f x = omega (arith, sum_by-cons f x [])

pub sum_two : (f : Part → ℕ) (x y : Part) → sum_by f (x ∷ y ∷ []) ≡ f x + f y
sum_two f x y = omega (arith, sum_by-cons f x (y ∷ []), sum_by-cons f y [])

-- one element is replaced, in the first of two lists
pub becomes_first : (a b : List Part) (i : ℕ) (x y : Part) → i < length a → get_or a i x ≡ x → Becomes (x ∷ []) (y ∷ []) (a ++ b) (set a i y ++ b)
becomes_first a b i x y h e = record {
  rest = without a i ++ b;
  before = λ f. let s = sum_both f a b in let t = sum_without f a i x h e in let u = sum_both f (without a i) b in let o = sum_one f x in omega arith;
  after = λ f. let s = sum_both f (set a i y) b in let t = sum_replaced f a i y h in let u = sum_both f (without a i) b in let o = sum_one f y in omega arith;
}

-- one element of each of two lists is replaced
pub becomes_both : (a b c : List Part) (i j : ℕ) (x y u v : Part) → i < length a → get_or a i x ≡ x → j < length b → get_or b j u ≡ u
    → Becomes (x ∷ u ∷ []) (y ∷ v ∷ []) (a ++ (b ++ c)) (set a i y ++ (set b j v ++ c))
becomes_both a b c i j x y u v h e g d = record {
  rest = without a i ++ (without b j ++ c);
  before = λ f.
      let s = sum_both f a (b ++ c) in let s' = sum_both f b c in
      let t = sum_without f a i x h e in let t' = sum_without f b j u g d in
      let w = sum_both f (without a i) (without b j ++ c) in let w' = sum_both f (without b j) c in let o = sum_two f x u in omega arith;
  after = λ f.
      let s = sum_both f (set a i y) (set b j v ++ c) in let s' = sum_both f (set b j v) c in
      let t = sum_replaced f a i y h in let t' = sum_replaced f b j v g in
      let w = sum_both f (without a i) (without b j ++ c) in let w' = sum_both f (without b j) c in let o = sum_two f y v in omega arith;
}

-- an element behind two lists is replaced
pub becomes_list : (a b c : List Part) (u v : Part) → Becomes (u ∷ []) (v ∷ []) (a ++ (b ++ u ∷ c)) (a ++ (b ++ v ∷ c))
becomes_list a b c u v = record {
  rest = a ++ (b ++ c);
  before = λ f.
      let s = sum_both f a (b ++ u ∷ c) in let t = sum_both f b (u ∷ c) in let h = sum_by-cons f u c in
      let w = sum_both f a (b ++ c) in let x = sum_both f b c in let o = sum_one f u in omega arith;
  after = λ f.
      let s = sum_both f a (b ++ v ∷ c) in let t = sum_both f b (v ∷ c) in let h = sum_by-cons f v c in
      let w = sum_both f a (b ++ c) in let x = sum_both f b c in let o = sum_one f v in omega arith;
}

-- an element of the first list and one behind two lists are replaced
pub becomes_cpu_list : (a b c : List Part) (i : ℕ) (x y u v : Part) → i < length a → get_or a i x ≡ x
    → Becomes (x ∷ u ∷ []) (y ∷ v ∷ []) (a ++ (b ++ u ∷ c)) (set a i y ++ (b ++ v ∷ c))
becomes_cpu_list a b c i x y u v h e = record {
  rest = without a i ++ (b ++ c);
  before = λ f.
      let s = sum_both f a (b ++ u ∷ c) in let t = sum_both f b (u ∷ c) in let k = sum_by-cons f u c in
      let q = sum_without f a i x h e in
      let w = sum_both f (without a i) (b ++ c) in let z = sum_both f b c in let o = sum_two f x u in omega arith;
  after = λ f.
      let s = sum_both f (set a i y) (b ++ v ∷ c) in let t = sum_both f b (v ∷ c) in let k = sum_by-cons f v c in
      let q = sum_replaced f a i y h in
      let w = sum_both f (without a i) (b ++ c) in let z = sum_both f b c in let o = sum_two f y v in omega arith;
}

-- the last two elements are replaced
pub becomes_load : (a b : List Part) (u v x y : Part) → Becomes (u ∷ x ∷ []) (v ∷ y ∷ []) (a ++ (b ++ u ∷ x ∷ [])) (a ++ (b ++ v ∷ y ∷ []))
becomes_load a b u v x y = record {
  rest = a ++ b;
  before = λ f. let s = sum_both f a (b ++ u ∷ x ∷ []) in let t = sum_both f b (u ∷ x ∷ []) in let w = sum_both f a b in omega arith;
  after = λ f. let s = sum_both f a (b ++ v ∷ y ∷ []) in let t = sum_both f b (v ∷ y ∷ []) in let w = sum_both f a b in omega arith;
}

-- ---- CPUs and places, by number

pub length-cpu_parts : (n : ℕ) (hands : List (Option Hand)) (words : List (List ℕ)) (runs : ℕ → List Run) → length hands ≡ length words → length (cpu_parts n hands words runs) ≡ length hands
length-cpu_parts n [] words runs h = refl
length-cpu_parts n (x ∷ hands) [] runs h = absurd (omega arith)
length-cpu_parts n (x ∷ hands) (w ∷ words) runs h = ap suc (length-cpu_parts (n + 1) hands words runs (omega arith))

pub get_or-cpu_parts : (n : ℕ) (hands : List (Option Hand)) (words : List (List ℕ)) (runs : ℕ → List Run) (i : ℕ) (d : Part) → length hands ≡ length words → i < length hands
    → get_or (cpu_parts n hands words runs) i d ≡ Cpu (cpu_part (n + i) (get_or hands i None) (get_or words i []) (runs (n + i)))
get_or-cpu_parts n [] words runs i d h l = absurd (omega arith)
get_or-cpu_parts n (x ∷ hands) [] runs i d h l = absurd (omega arith)
get_or-cpu_parts n (x ∷ hands) (w ∷ words) runs zero d h l = rw add-zero refl
get_or-cpu_parts n (x ∷ hands) (w ∷ words) runs (suc i) d h l =
    let place : n + 1 + i ≡ n + suc i = omega arith in
    get_or-cpu_parts (n + 1) hands words runs i d (omega arith) (omega arith) ∙ ap (λ (k : ℕ). Cpu (cpu_part k (get_or hands i None) (get_or words i []) (runs k))) place

-- one CPU's hand and words change
pub cpu_parts-set : (n : ℕ) (hands : List (Option Hand)) (words : List (List ℕ)) (runs : ℕ → List Run) (i : ℕ) (hand : Option Hand) (own : List ℕ) → length hands ≡ length words → i < length hands
    → cpu_parts n (set hands i hand) (set words i own) runs ≡ set (cpu_parts n hands words runs) i (Cpu (cpu_part (n + i) hand own (runs (n + i))))
cpu_parts-set n [] words runs i hand own h l = absurd (omega arith)
cpu_parts-set n (x ∷ hands) [] runs i hand own h l = absurd (omega arith)
cpu_parts-set n (x ∷ hands) (w ∷ words) runs zero hand own h l = rw add-zero refl
cpu_parts-set n (x ∷ hands) (w ∷ words) runs (suc i) hand own h l =
    let place : n + 1 + i ≡ n + suc i = omega arith in
    ap (λ (ps : List Part). Cpu (cpu_part n x w (runs n)) ∷ ps)
    (cpu_parts-set (n + 1) hands words runs i hand own (omega arith) (omega arith) ∙ ap (λ (k : ℕ). set (cpu_parts (n + 1) hands words runs) i (Cpu (cpu_part k hand own (runs k)))) place)

-- runs that are the same from a number on
pub cpu_parts-same : (n : ℕ) (hands : List (Option Hand)) (words : List (List ℕ)) (runs others : ℕ → List Run) → ((j : ℕ) → n ≤ j → runs j ≡ others j) → cpu_parts n hands words runs ≡ cpu_parts n hands words others
cpu_parts-same n [] words runs others same = refl
cpu_parts-same n (x ∷ hands) [] runs others same = refl
cpu_parts-same n (x ∷ hands) (w ∷ words) runs others same =
    ap (λ (r : List Run). Cpu (cpu_part n x w r) ∷ cpu_parts (n + 1) hands words runs) (same n (omega arith))
    ∙ ap (λ (ps : List Part). Cpu (cpu_part n x w (others n)) ∷ ps) (cpu_parts-same (n + 1) hands words runs others (λ j l. same j (omega arith)))

-- one CPU's runs change
pub cpu_parts-runs : (n : ℕ) (hands : List (Option Hand)) (words : List (List ℕ)) (runs others : ℕ → List Run) (i : ℕ) → length hands ≡ length words → i < length hands
    → ((j : ℕ) → j ≢ n + i → others j ≡ runs j)
    → cpu_parts n hands words others ≡ set (cpu_parts n hands words runs) i (Cpu (cpu_part (n + i) (get_or hands i None) (get_or words i []) (others (n + i))))
cpu_parts-runs n [] words runs others i h l same = absurd (omega arith)
cpu_parts-runs n (x ∷ hands) [] runs others i h l same = absurd (omega arith)
cpu_parts-runs n (x ∷ hands) (w ∷ words) runs others zero h l same =
    rw add-zero (ap (λ (ps : List Part). Cpu (cpu_part n x w (others n)) ∷ ps) (cpu_parts-same (n + 1) hands words others runs (λ j m. same j (omega arith))))
cpu_parts-runs n (x ∷ hands) (w ∷ words) runs others (suc i) h l same =
    let place : n + 1 + i ≡ n + suc i = omega arith in
    ap (λ (r : List Run). Cpu (cpu_part n x w r) ∷ cpu_parts (n + 1) hands words others) (same n (omega arith))
    ∙ ap (λ (ps : List Part). Cpu (cpu_part n x w (runs n)) ∷ ps)
    (cpu_parts-runs (n + 1) hands words runs others i (omega arith) (omega arith) (λ j m. same j (omega arith))
    ∙ ap (λ (k : ℕ). set (cpu_parts (n + 1) hands words runs) i (Cpu (cpu_part k (get_or hands i None) (get_or words i []) (others k)))) place)

pub length-place_parts : (n : ℕ) (places : List Held) → length (place_parts n places) ≡ length places
length-place_parts n [] = refl
length-place_parts n (x ∷ places) = ap suc (length-place_parts (n + 1) places)

pub get_or-place_parts : (n : ℕ) (places : List Held) (i : ℕ) (d : Part) → i < length places → get_or (place_parts n places) i d ≡ Place (n + i) (get_or places i held.None)
get_or-place_parts n [] i d l = absurd (omega arith)
get_or-place_parts n (x ∷ places) zero d l = rw add-zero refl
get_or-place_parts n (x ∷ places) (suc i) d l =
    let place : n + 1 + i ≡ n + suc i = omega arith in
    get_or-place_parts (n + 1) places i d (omega arith) ∙ ap (λ (k : ℕ). Place k (get_or places i held.None)) place

pub place_parts-set : (n : ℕ) (places : List Held) (i : ℕ) (x : Held) → i < length places → place_parts n (set places i x) ≡ set (place_parts n places) i (Place (n + i) x)
place_parts-set n [] i x l = absurd (omega arith)
place_parts-set n (y ∷ places) zero x l = rw add-zero refl
place_parts-set n (y ∷ places) (suc i) x l =
    let place : n + 1 + i ≡ n + suc i = omega arith in
    ap (λ (ps : List Part). Place n y ∷ ps) (place_parts-set (n + 1) places i x (omega arith) ∙ ap (λ (k : ℕ). set (place_parts (n + 1) places) i (Place k x)) place)
