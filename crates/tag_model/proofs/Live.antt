-- Where no CPU has a hand, what is counted is what the live list holds.
use Rattle.std.proofs.Common.{◌≡◌, ℕ, ◌≤◌, ◌==◌, List, [], ◌∷◌, sum_by, count_by, refl, arith, cond, true, ◌∙◌, Option, Some, None}
use Rattle.std.specs.List.{list_all}
use Rattle.std.proofs.lemmas.Bool.{and_from}
use Rattle.std.proofs.lemmas.List.Sums.{sum_by-cons, sum_by-append}
use Rattle.std.proofs.lemmas.List.Folds.{list_all-append}
use Rattle.tag_model.specs.declared.shape.Shape.{Shape}
use Rattle.tag_model.specs.declared.state.Hand.{Hand}
use Rattle.tag_model.specs.declared.state.Held.{Held}
use Rattle.tag_model.specs.declared.state.Held.TheVariants as held
use Rattle.tag_model.specs.declared.state.Kind.{Kind}
use Rattle.tag_model.specs.declared.state.Part.{Part}
use Rattle.tag_model.specs.declared.state.Part.TheVariants.{Cpu, Place, Modules, NextId}
use Rattle.tag_model.specs.Laws.{Safe, hand_number, has_hand, is_held, live_pair, live_of}
use Rattle.tag_model.specs.Reference.{hand_counts, held_counts, live_total}
use Rattle.tag_model.specs.WordState.{word_of, counted, is_place_at}
use Rattle.tag_model.specs.Wrap.{wrap}

no_hand_counts : (kind : Kind) (t : ℕ) (hand : Option Hand) → hand_number hand ≡ 0 → hand_counts kind t hand ≡ 0
no_hand_counts kind t None e = refl
no_hand_counts kind t (Some h) e = absurd (omega arith)

pair_counts : (kind : Kind) (t : ℕ) (p : Part) → has_hand p ≡ 0 → counted kind t p ≡ live_total kind t (live_pair p)
pair_counts kind t (Cpu c) e = no_hand_counts kind t c.hand e
pair_counts kind t (Place n held.None) e = refl
pair_counts kind t (Place n held.Empty) e = refl
pair_counts kind t (Place n (held.Counted tag size)) e = omega arith
pair_counts kind t (Modules l) e = refl
pair_counts kind t (NextId id) e = refl

pub live_counts : (kind : Kind) (t : ℕ) (ps : List Part) → sum_by has_hand ps ≡ 0 → sum_by (counted kind t) ps ≡ live_total kind t (live_of ps)
live_counts kind t [] e = refl
live_counts kind t (p ∷ ps) e =
    let hands = sum_by-cons has_hand p ps in
    let head = pair_counts kind t p (omega arith) in
    let tail = live_counts kind t ps (omega arith) in
    omega (arith, sum_by-cons (counted kind t) p ps, sum_by-append (λ (entry : ℕ × Held). held_counts kind t entry.1) (live_pair p) (live_of ps))

pub live_words : (k : Shape) (ps : List Part) (kind : Kind) (t : ℕ) → Safe k ps → sum_by has_hand ps ≡ 0 → wrap (sum_by (word_of kind t) ps) ≡ wrap (live_total kind t (live_of ps))
live_words k ps kind t safe e = rw (← live_counts kind t ps e) (safe.sums.sums kind t)

pair_once : (n : ℕ) (p : Part) → count_by (λ (entry : ℕ × Held). entry.0 == n) (live_pair p) ≤ is_place_at n p
pair_once n (Cpu c) = omega arith
pair_once n (Place m held.None) = omega arith
pair_once n (Place m held.Empty) = omega arith
pair_once n (Place m (held.Counted tag size)) = omega arith
pair_once n (Modules l) = omega arith
pair_once n (NextId id) = omega arith

live_once_by_place : (n : ℕ) (ps : List Part) → count_by (λ (entry : ℕ × Held). entry.0 == n) (live_of ps) ≤ sum_by (is_place_at n) ps
live_once_by_place n [] = omega arith
live_once_by_place n (p ∷ ps) =
    omega (arith, live_once_by_place n ps, pair_once n p, sum_by-cons (is_place_at n) p ps, sum_by-append (λ (entry : ℕ × Held). cond {A = ℕ} (entry.0 == n) 1 0) (live_pair p) (live_of ps))

pub live_once : (k : Shape) (ps : List Part) (n : ℕ) → Safe k ps → count_by (λ (entry : ℕ × Held). entry.0 == n) (live_of ps) ≤ 1
live_once k ps n safe = omega (arith, live_once_by_place n ps, safe.each.places n)

pair_held : (p : Part) → list_all (λ (entry : ℕ × Held). is_held entry.1) (live_pair p) ≡ true
pair_held (Cpu c) = refl
pair_held (Place n held.None) = refl
pair_held (Place n held.Empty) = refl
pair_held (Place n (held.Counted tag size)) = refl
pair_held (Modules l) = refl
pair_held (NextId id) = refl

pub live_held : (ps : List Part) → list_all (λ (entry : ℕ × Held). is_held entry.1) (live_of ps) ≡ true
live_held [] = refl
live_held (p ∷ ps) = list_all-append (λ (entry : ℕ × Held). is_held entry.1) (live_pair p) (live_of ps) ∙ and_from _ _ (pair_held p) (live_held ps)
