-- CPUs of the table, by number, and what moves make of them.
use Rattle.std.proofs.Common.{◌≡◌, ℕ, zero, suc, ◌+◌, ◌<◌, ◌≤◌, Bool, true, false, cond, eqb, ltb, List, [], ◌∷◌, ◌++◌, length, map, get_or, None, refl, sym, ap, ◌∙◌, arith, le-ltb, eqb-true}
use Rattle.std.specs.Prelude.{slice_index, slice_set, ◌*◌, drop, replicate, take}
use Rattle.std.specs.List.{list_all, range_with_len}
use Rattle.std.proofs.lemmas.List.{get_or-map, length-map}
use Rattle.std.proofs.lemmas.List.FromFn.{get_or-map-range_with_len, length-map-range_with_len}
use Rattle.std.proofs.lemmas.List.Sums.{fold-append}
use Rattle.std.proofs.lemmas.Bool.{and_parts}
use Rattle.tag_model.specs.Moves.{Move}
use Rattle.tag_model.specs.WordState.{word_place}
use Rattle.tag_model.specs.Wrap.{wrap_minus}
use Rattle.tag_model.specs.RefMoves.{words_after_move, words_after_moves}
use Rattle.tag_rule.specs.Shown.{Board, CpuShown}
use Rattle.tag_ref.specs.Refs.{moved_by}
use Rattle.round_modules.specs.Inside.{outside}
use Rattle.trace_play.specs.Machine.{Machine}
use Rattle.trace_play.proofs.MovesOf.{AreOf}
use Rattle.standing.specs.Standing.{CpusStand, standing_cpu}

-- as many as the table has
pub stand_long : (b : Board) (m : Machine) (cpus : List CpuShown) → CpusStand b m cpus → length cpus ≡ b.shape.cpus
stand_long b m cpus s = sym (length-map cpus outside) ∙ ap length s ∙ length-map-range_with_len (standing_cpu b m) 0 b.shape.cpus

-- the one of a number
pub stand_at : (b : Board) (m : Machine) (cpus : List CpuShown) (i : ℕ) (d : CpuShown) → CpusStand b m cpus → i < length cpus → outside (get_or cpus i d) ≡ standing_cpu b m i
stand_at b m cpus i d s low =
    sym (get_or-map outside cpus i d (outside d) low)
    ∙ ap (λ xs. get_or xs i (outside d)) s
    ∙ get_or-map-range_with_len (standing_cpu b m) 0 b.shape.cpus i i (outside d) (omega (arith, low, stand_long b m cpus s)) (omega arith)

-- ---- moves

-- moves that are none of the CPU's
pub none_of : (cpu : ℕ) (is_one : ℕ → Bool) → is_one cpu ≡ false → (words : List ℕ) (moves : List Move) → AreOf is_one moves → words_after_moves cpu words moves ≡ words
none_of cpu is_one out words [] a = refl
none_of cpu is_one out words (move ∷ moves) a =
    let both = and_parts (is_one move.cpu) (list_all (λ (m : Move). is_one m.cpu) moves) a in
    ap (λ ws. words_after_moves cpu ws moves) (by (eqb move.cpu cpu) refl both.0) ∙ none_of cpu is_one out words moves both.1
  where
    by : (b : Bool) → eqb move.cpu cpu ≡ b → is_one move.cpu ≡ true → words_after_move cpu words move ≡ words
    by true e one = let same = eqb-true move.cpu cpu e in let no : ⊥ = cc (one, ap is_one same, out) in absurd no
    by false e one = ap (λ b. cond b (slice_set words (word_place move.kind move.tag) (wrap_minus (slice_index words (word_place move.kind move.tag) + move.up) move.down)) words) e

-- the machine's moves are these, and then those
pub moved_machine : (b : Board) (m next : Machine) (moves : List Move) → next.tally.moves ≡ m.tally.moves ++ moves → (n : ℕ) → standing_cpu b next n ≡ moved_by moves (standing_cpu b m n)
moved_machine b m next moves e n =
    ap (λ ws. let c : CpuShown = record { board = b; part = record { number = n; words = ws; hand = None; runs = []; notes = [] } } in c)
    (ap (words_after_moves n (replicate (2 * b.shape.tags) 0)) e ∙ fold-append (words_after_move n) (replicate (2 * b.shape.tags) 0) m.tally.moves moves)

-- the first CPUs move, and the moves are theirs alone
pub first_moved : (b : Board) (m next : Machine) (moves : List Move) (n : ℕ) (cpus : List CpuShown) → next.tally.moves ≡ m.tally.moves ++ moves → AreOf (λ cpu. ltb cpu n) moves → CpusStand b m cpus
    → CpusStand b next (map (moved_by moves) (take n cpus) ++ drop n cpus)
first_moved b m next moves n cpus e low s =
    all_moved n 0 cpus (omega arith) (λ i d below high. let at = stand_at b m cpus i d s below in not_its (get_or cpus i d) (omega (arith, high, ap (λ (c : CpuShown). c.part.number) at)))
    ∙ outside_moved cpus
    ∙ ap (map (moved_by moves)) s
    ∙ both_maps (range_with_len 0 b.shape.cpus)
  where
    not_its : (c : CpuShown) → n ≤ c.part.number → moved_by moves c ≡ c
    not_its c high = ap (λ ws. let d : CpuShown = record c { part = record c.part { words = ws } } in d) (none_of c.part.number (λ cpu. ltb cpu n) (le-ltb c.part.number n high) c.part.words moves low)

    outside_moved : (xs : List CpuShown) → map outside (map (moved_by moves) xs) ≡ map (moved_by moves) (map outside xs)
    outside_moved [] = refl
    outside_moved (x ∷ xs) = ap (λ ys. outside (moved_by moves x) ∷ ys) (outside_moved xs)

    both_maps : (ns : List ℕ) → map (moved_by moves) (map (standing_cpu b m) ns) ≡ map (standing_cpu b next) ns
    both_maps [] = refl
    both_maps (x ∷ xs) = (λ i. sym (moved_machine b m next moves e x) i ∷ both_maps xs i)

    none_moved : (xs : List CpuShown) (from : ℕ) → n ≤ from → ((i : ℕ) (d : CpuShown) → i < length xs → n ≤ from + i → moved_by moves (get_or xs i d) ≡ get_or xs i d) → map outside xs ≡ map outside (map (moved_by moves) xs)
    none_moved [] from past same = refl
    none_moved (x ∷ xs) from past same =
        (λ i. outside (sym (same 0 x (omega arith) (omega (arith, past))) i) ∷ none_moved xs (from + 1) (omega (arith, past)) (λ j d low high. same (suc j) d (omega (arith, low)) (omega (arith, high))) i)

    all_moved : (many from : ℕ) (xs : List CpuShown) → from + many ≡ n → ((i : ℕ) (d : CpuShown) → i < length xs → n ≤ from + i → moved_by moves (get_or xs i d) ≡ get_or xs i d)
        → map outside (map (moved_by moves) (take many xs) ++ drop many xs) ≡ map outside (map (moved_by moves) xs)
    all_moved zero from xs e same = none_moved xs from (omega (arith, e)) same
    all_moved (suc many) from [] e same = refl
    all_moved (suc many) from (x ∷ xs) e same = ap (λ ys. outside (moved_by moves x) ∷ ys) (all_moved many (from + 1) xs (omega (arith, e)) (λ j d low high. same (suc j) d (omega (arith, low)) (omega (arith, high))))
