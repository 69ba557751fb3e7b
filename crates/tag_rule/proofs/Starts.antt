-- A table of words that are all 0, with all parts fresh in one view, meets the rule.
use Rattle.std.proofs.Common.{◌≡◌, ℕ, ◌+◌, ◌-◌, ◌*◌, ◌<◌, ◌≤◌, ◌==◌, zero, suc, List, [], ◌∷◌, ◌++◌, length, replicate, take, drop, get_or, append_assoc, sum_by, sym, refl, ap, ◌∙◌, arith, cond, not, Bool, true, false, nat_lt, mul-le-mul_right, lt-ltb, eq-eqb}
use Rattle.std.specs.List.{list_all, range_with_len}
use Rattle.std.proofs.lemmas.Bool.Decides.{nat_tests}
use Rattle.std.proofs.lemmas.List.{length-replicate}
use Rattle.std.proofs.lemmas.List.Sums.{sum_by-append, sum_by-cons}
use Rattle.std.proofs.lemmas.List.FromFn.{length-map-range_with_len}
use Rattle.std.proofs.Math.Seq.{drop-append_seam}
use Rattle.atomic_table.specs.Table.{Me, opening}
use Rattle.tag_model.specs.declared.limits.TheConstants.{MAX_PLACES}
use Rattle.tag_model.specs.declared.shape.Shape.{Shape}
use Rattle.tag_model.specs.declared.state.Part.{Part}
use Rattle.tag_model.specs.declared.state.Run.{Run}
use Rattle.tag_model.specs.declared.state.Part.TheVariants.{Modules, NextId}
use Rattle.tag_model.specs.Index.{first_word, first_cell, first_object, word_count}
use Rattle.tag_model.specs.Laws.{OneOfEach, is_fresh}
use Rattle.tag_model.specs.Shape.{IsChecked}
use Rattle.tag_model.specs.WordState.{one_if, Every, in_range, is_cpu, is_list, is_pass, is_place, is_place_at}
use Rattle.tag_model.proofs.Fresh.{fresh_safe}
use Rattle.std.specs.Arc.{arc_value}
use Rattle.atomic_table.specs.Seated.{TableId}
use Rattle.tag_rule.specs.declared.modules.ListSeat.TheInside as list
use Rattle.tag_rule.specs.declared.view.View.{View}
use Rattle.tag_rule.specs.declared.words.Words.{Words}
use Rattle.module_list.specs.Listing.{fresh_listing}
use Rattle.tag_rule.specs.Seated.{list_in}
use Rattle.tag_rule.proofs.Tellings.{list_seat}
use Rattle.tag_rule.specs.Shown.{ListShown, PassShown}
use Rattle.tag_rule.specs.Tokens.{board_of, IsListSeat}
use Rattle.tag_rule.specs.Fresh.{fresh_list, cpu_at, fresh_cpus, empty_cell, places, page_count, object_count, first_parts, first_view}
use Rattle.tag_rule.specs.Rule.{owns, value, all_parts, view_of, Ruled}
use Rattle.tag_rule.proofs.Spans.{empty_span, first_span, span_more, run_owns}

-- ---- sums over the fresh parts

cells : Shape → List Part
cells k = places (range_with_len (first_cell k) (page_count k + object_count k))

sum_first : (f : Part → ℕ) (k : Shape) → sum_by f (all_parts (first_view k ∷ [])) ≡ sum_by f (fresh_cpus k 0 k.cpus) + sum_by f (cells k) + f (Modules fresh_list) + f (NextId 1)
unfolding cells
sum_first f k = omega (
  arith,
  sum_by-append f (first_parts k) [],
  sum_by-append f (fresh_cpus k 0 k.cpus) (cells k ++ (Modules fresh_list ∷ NextId 1 ∷ [])),
  sum_by-append f (cells k) (Modules fresh_list ∷ NextId 1 ∷ []),
  sum_by-cons f (Modules fresh_list) (NextId 1 ∷ []),
  sum_by-cons f (NextId 1) [],
)

none_of_cpus : (f : Part → ℕ) (k : Shape) (n m : ℕ) → ((i : ℕ) → n ≤ i → i < n + m → f (cpu_at k i) ≡ 0) → sum_by f (fresh_cpus k n m) ≡ 0
none_of_cpus f k n zero h = refl
none_of_cpus f k n (suc m) h = omega (arith, sum_by-cons f (cpu_at k n) (fresh_cpus k (n + 1) m), h n (omega arith) (omega arith), none_of_cpus f k (n + 1) m (λ i low high. h i (omega arith) (omega arith)))

none_of_run : (f : Part → ℕ) (a m : ℕ) → ((i : ℕ) → f (empty_cell i) ≡ 0) → sum_by f (places (range_with_len a m)) ≡ 0
none_of_run f a zero h = refl
none_of_run f a (suc m) h = omega (arith, sum_by-cons f (empty_cell a) (places (range_with_len (a + 1) m)), h a, none_of_run f (a + 1) m h)

-- ---- each word is owned once

cpus_own : (k : Shape) (q n m : ℕ) → sum_by (owns k q) (fresh_cpus k n m) ≡ one_if (in_range (first_word k n) (m * (2 * k.tags)) q)
cpus_own k q n zero = let none : 0 * (2 * k.tags) ≡ 0 = grind arith in sym (ap (λ (x : ℕ). one_if (in_range (first_word k n) x q)) none ∙ empty_span (first_word k n) q)
cpus_own k q n (suc m) =
    let next : first_word k (n + 1) ≡ first_word k n + 2 * k.tags = let e : (n + 1) * (2 * k.tags) ≡ n * (2 * k.tags) + 2 * k.tags = grind arith in omega arith in
    let size : suc m * (2 * k.tags) ≡ 2 * k.tags + m * (2 * k.tags) = grind arith in
    let moved : one_if (in_range (first_word k (n + 1)) (m * (2 * k.tags)) q) ≡ one_if (in_range (first_word k n + 2 * k.tags) (m * (2 * k.tags)) q) = ap (λ (x : ℕ). one_if (in_range x (m * (2 * k.tags)) q)) next in
    let whole : one_if (in_range (first_word k n) (suc m * (2 * k.tags)) q) ≡ one_if (in_range (first_word k n) (2 * k.tags + m * (2 * k.tags)) q) = ap (λ (x : ℕ). one_if (in_range (first_word k n) x q)) size in
    omega (arith, sum_by-cons (owns k q) (cpu_at k n) (fresh_cpus k (n + 1) m), cpus_own k q (n + 1) m, moved, whole, span_more (first_word k n) (2 * k.tags) (m * (2 * k.tags)) q)

all_words : (k : Shape) → first_cell k + (page_count k + object_count k) ≡ word_count k
all_words k =
    let words : k.cpus * (2 * k.tags) ≡ 2 * k.cpus * k.tags = grind arith in
    let objects : k.cpus * (k.vectors * 64) ≡ k.cpus * k.vectors * 64 = grind arith in
    omega arith

in_all : (a m q : ℕ) → a ≤ q → q < a + m → one_if (in_range a m q) ≡ 1
in_all a m q low high = grind (arith, nat_tests)

owned_once : (k : Shape) (q : ℕ) → 0 < q → q < word_count k → sum_by (owns k q) (all_parts (first_view k ∷ [])) ≡ 1
unfolding cells
owned_once k q low high =
    omega (
      arith,
      sum_first (owns k q) k,
      cpus_own k q 0 k.cpus,
      run_owns k q (first_cell k) (page_count k + object_count k),
      span_more (first_word k 0) (k.cpus * (2 * k.tags)) (page_count k + object_count k) q,
      in_all (first_word k 0) (k.cpus * (2 * k.tags) + (page_count k + object_count k)) q (omega arith) (omega (arith, all_words k)),
      same,
    )
  where
    same : one_if (in_range (first_word k 0 + k.cpus * (2 * k.tags)) (page_count k + object_count k) q) ≡ one_if (in_range (first_cell k) (page_count k + object_count k) q)
    same = let e : first_word k 0 + k.cpus * (2 * k.tags) ≡ first_cell k = let z : 0 * (2 * k.tags) ≡ 0 = grind arith in omega arith in ap (λ (x : ℕ). one_if (in_range x (page_count k + object_count k) q)) e

-- ---- each word is 0

zero_at : (n i : ℕ) → get_or {A = ℕ} (replicate n 0) i 0 ≡ 0
zero_at zero i = refl
zero_at (suc n) zero = refl
zero_at (suc n) (suc i) = zero_at n i

either_zero : (b : Bool) (x : ℕ) → x ≡ 0 → cond b x 0 ≡ 0
either_zero true x e = e
either_zero false x e = refl

says_zero : (k : Shape) (q i : ℕ) → value k q (cpu_at k i) ≡ 0
says_zero k q i = either_zero (in_range (first_word k i) (2 * k.tags) q) _ (zero_at (2 * k.tags) (q - first_word k i))

all_zero : (k : Shape) (q : ℕ) → sum_by (value k q) (all_parts (first_view k ∷ [])) ≡ 0
unfolding cells
all_zero k q = omega (arith, sum_first (value k q) k, none_of_cpus (value k q) k 0 k.cpus (λ i low high. says_zero k q i), none_of_run (value k q) (first_cell k) (page_count k + object_count k) (λ i. either_zero (i == q) 0 refl))

-- ---- one part of each kind

cpu_once : (k : Shape) (n i m : ℕ) → sum_by (is_cpu n) (fresh_cpus k i m) ≡ one_if (in_range i m n)
cpu_once k n i zero = sym (empty_span i n)
cpu_once k n i (suc m) = omega (arith, sum_by-cons (is_cpu n) (cpu_at k i) (fresh_cpus k (i + 1) m), cpu_once k n (i + 1) m, first_span i m n)

place_once : (n a m : ℕ) → sum_by (is_place_at n) (places (range_with_len a m)) ≡ one_if (in_range a m n)
place_once n a zero = sym (empty_span a n)
place_once n a (suc m) = omega (arith, sum_by-cons (is_place_at n) (empty_cell a) (places (range_with_len (a + 1) m)), place_once n (a + 1) m, first_span a m n)

places_count : (a m : ℕ) → sum_by is_place (places (range_with_len a m)) ≡ m
places_count a zero = refl
places_count a (suc m) = omega (arith, sum_by-cons is_place (empty_cell a) (places (range_with_len (a + 1) m)), places_count (a + 1) m)

few_cells : (k : Shape) → IsChecked k → page_count k + object_count k ≤ MAX_PLACES
few_cells k ok =
    let frames : k.cpus * k.frames ≤ 64 * k.frames = mul-le-mul_right k.frames ok.few_cpus in
    let vectors : k.cpus * (k.vectors * 64) ≤ 64 * (k.vectors * 64) = mul-le-mul_right (k.vectors * 64) ok.few_cpus in
    omega (arith, ok.few_frames, ok.few_vectors)

at_most_one : (b : Bool) → one_if b ≤ 1
at_most_one true = omega arith
at_most_one false = omega arith

each : (k : Shape) → IsChecked k → OneOfEach k (all_parts (first_view k ∷ []))
unfolding cells
each k ok = record {
  cpus = λ n h. omega (arith, sum_first (is_cpu n) k, cpu_once k n 0 k.cpus, in_all 0 k.cpus n (omega arith) (omega arith), none_of_run (is_cpu n) (first_cell k) (page_count k + object_count k) (λ i. refl));
  list = omega (arith, sum_first is_list k, none_of_cpus is_list k 0 k.cpus (λ i low high. refl), none_of_run is_list (first_cell k) (page_count k + object_count k) (λ i. refl));
  pass = omega (arith, sum_first is_pass k, none_of_cpus is_pass k 0 k.cpus (λ i low high. refl), none_of_run is_pass (first_cell k) (page_count k + object_count k) (λ i. refl));
  places = λ n. omega (arith, sum_first (is_place_at n) k, none_of_cpus (is_place_at n) k 0 k.cpus (λ i low high. refl), place_once n (first_cell k) (page_count k + object_count k), at_most_one (in_range (first_cell k) (page_count k + object_count k) n));
  few_places = omega (arith, sum_first is_place k, none_of_cpus is_place k 0 k.cpus (λ i low high. refl), places_count (first_cell k) (page_count k + object_count k), few_cells k ok);
}

-- ---- all of them are fresh

all_of_zeros : (n : ℕ) → list_all (λ w. w == 0) (replicate n 0) ≡ true
all_of_zeros zero = refl
all_of_zeros (suc n) = all_of_zeros n

cpu_fresh : (k : Shape) (i : ℕ) → i < k.cpus → one_if (not (is_fresh k (cpu_at k i))) ≡ 0
cpu_fresh k i h =
    let number : nat_lt i k.cpus ≡ true = lt-ltb i k.cpus h in
    let long : (length (replicate (2 * k.tags) 0) == 2 * k.tags) ≡ true = eq-eqb _ _ (length-replicate {A = ℕ} (2 * k.tags) 0) in
    rw (number, long, all_of_zeros (2 * k.tags)) refl

fresh : (k : Shape) → Every (is_fresh k) (all_parts (first_view k ∷ []))
unfolding cells
fresh k = omega (
  arith,
  sum_first (λ p. one_if (not (is_fresh k p))) k,
  none_of_cpus (λ p. one_if (not (is_fresh k p))) k 0 k.cpus (λ i low high. cpu_fresh k i (omega arith)),
  none_of_run (λ p. one_if (not (is_fresh k p))) (first_cell k) (page_count k + object_count k) (λ i. refl),
)

pub starts : (k : Shape) → IsChecked k → Ruled k (opening (replicate (word_count k) 0) [] (first_view k))
starts k ok = record {
  checked = ok;
  wide = length-replicate {A = ℕ} (word_count k) 0;
  owned = owned_once k;
  exact = λ q low high. all_zero k q ∙ sym (zero_at (word_count k) q);
  safe = fresh_safe k _ (each k ok) (fresh k);
}

-- ---- the seat's parts, as the tokens are taken

abbrev pub Known : Type 0
Known = Me (Unit {0}) View

abbrev pub tail : List Part
tail = Modules fresh_list ∷ NextId 1 ∷ []

abbrev pub all_cells : Shape → List Part
all_cells k = places (range_with_len (first_cell k) (page_count k + object_count k))

abbrev pub pages_of : Shape → List Part
pages_of k = places (range_with_len (first_cell k) (page_count k))

abbrev pub objects_of : Shape → List Part
objects_of k = places (range_with_len (first_object k) (object_count k))

run_split : (a m n : ℕ) → places (range_with_len a (m + n)) ≡ places (range_with_len a m) ++ places (range_with_len (a + m) n)
run_split a zero n = let size : 0 + n ≡ n = omega arith in let from : a ≡ a + 0 = omega arith in λ i. places (range_with_len (from i) (size i))
run_split a (suc m) n =
    let size : suc m + n ≡ suc (m + n) = omega arith in
    let from : a + 1 + m ≡ a + suc m = omega arith in
    ap (λ (x : ℕ). places (range_with_len a x)) size ∙ ap (λ (ps : List Part). empty_cell a ∷ ps) (run_split (a + 1) m n ∙ ap (λ (x : ℕ). places (range_with_len (a + 1) m) ++ places (range_with_len x n)) from)

pub cells_split : (k : Shape) → all_cells k ++ tail ≡ pages_of k ++ (objects_of k ++ tail)
cells_split k = ap (λ (ps : List Part). ps ++ tail) (run_split (first_cell k) (page_count k) (object_count k)) ∙ append_assoc (pages_of k) (objects_of k) tail

-- what stands behind the front
pub behind : (next m : Known) (xs ys : List Part) (n : ℕ) → length xs ≡ n → m ≡ (view_of (xs ++ ys), []) → next ≡ (view_of (drop n m.0.parts), []) → next ≡ (view_of ys, [])
behind next m xs ys n long is took =
    took ∙ ap (λ (ps : List Part). (view_of ps, [])) (ap (λ (x : Known). drop n x.0.parts) is ∙ (ap (λ (i : ℕ). drop i (xs ++ ys)) (sym long) ∙ drop-append_seam xs ys))

pub front_is : (m : Known) (xs ys : List Part) (n : ℕ) → length xs ≡ n → m ≡ (view_of (xs ++ ys), []) → m ≡ (view_of (xs ++ drop n m.0.parts), [])
front_is m xs ys n long is =
    let left : drop n m.0.parts ≡ ys = ap (λ (x : Known). drop n x.0.parts) is ∙ (ap (λ (i : ℕ). drop i (xs ++ ys)) (sym long) ∙ drop-append_seam xs ys) in
    is ∙ ap (λ (ps : List Part). (view_of (xs ++ ps), [])) (sym left)

pub cpus_long : (k : Shape) → length (fresh_cpus k 0 k.cpus) ≡ k.cpus
cpus_long k = length-map-range_with_len (cpu_at k) 0 k.cpus

pub run_long : (a n : ℕ) → length (places (range_with_len a n)) ≡ n
run_long a n = length-map-range_with_len empty_cell a n

pub list_last : (m last : Known) → last ≡ (view_of tail, []) → m ≡ (view_of (take 1 last.0.parts), []) → m ≡ (view_of (Modules fresh_list ∷ []), [])
list_last m last is took = took ∙ ap (λ (x : Known). (view_of (take 1 x.0.parts), [])) is

pub pass_last : (m last : Known) → last ≡ (view_of tail, []) → m ≡ (view_of (drop 1 last.0.parts), last.1) → m ≡ (view_of (NextId 1 ∷ []), [])
pass_last m last is took = took ∙ ap (λ (x : Known). (view_of (drop 1 x.0.parts), x.1)) is

module _ (k : Shape) (m0 m1 m2 m3 : Known) where
  pub stage0 : m0 ≡ (first_view k, []) → m0 ≡ (view_of (fresh_cpus k 0 k.cpus ++ drop k.cpus m0.0.parts), [])
  stage0 is = front_is m0 (fresh_cpus k 0 k.cpus) (all_cells k ++ tail) k.cpus (cpus_long k) is

  pub stage1 : m0 ≡ (first_view k, []) → m1 ≡ (view_of (drop k.cpus m0.0.parts), []) → m1 ≡ (view_of (pages_of k ++ (objects_of k ++ tail)), [])
  stage1 is took = behind m1 m0 (fresh_cpus k 0 k.cpus) (all_cells k ++ tail) k.cpus (cpus_long k) is took ∙ ap (λ (ps : List Part). (view_of ps, [])) (cells_split k)

  pub stage2 : m1 ≡ (view_of (pages_of k ++ (objects_of k ++ tail)), []) → m2 ≡ (view_of (drop (page_count k) m1.0.parts), []) → m2 ≡ (view_of (objects_of k ++ tail), [])
  stage2 is took = behind m2 m1 (pages_of k) (objects_of k ++ tail) (page_count k) (run_long (first_cell k) (page_count k)) is took

  pub stage3 : m2 ≡ (view_of (objects_of k ++ tail), []) → m3 ≡ (view_of (drop (object_count k) m2.0.parts), []) → m3 ≡ (view_of tail, [])
  stage3 is took = behind m3 m2 (objects_of k) tail (object_count k) (run_long (first_object k) (object_count k)) is took

  pub front1 : m1 ≡ (view_of (pages_of k ++ (objects_of k ++ tail)), []) → m1 ≡ (view_of (pages_of k ++ drop (page_count k) m1.0.parts), [])
  front1 is = front_is m1 (pages_of k) (objects_of k ++ tail) (page_count k) (run_long (first_cell k) (page_count k)) is

  pub front2 : m2 ≡ (view_of (objects_of k ++ tail), []) → m2 ≡ (view_of (objects_of k ++ drop (object_count k) m2.0.parts), [])
  front2 is = front_is m2 (objects_of k) tail (object_count k) (run_long (first_object k) (object_count k)) is

pub list_after : (s : list.Inside) → s.seat.table_id ≡ (arc_value s.words).table.shared.table_id → s.seat.me ≡ (view_of (Modules fresh_list ∷ []), []) → s.kept ≡ fresh_listing → IsListSeat s
list_after s table me kept = list_seat s fresh_list table me (record {
  rises = refl;
  in_area = refl;
  apart = λ t. omega arith;
  sweep = refl;
  users = refl;
  away = λ ahead run behind e. absurd (nothing_there ahead run behind e);
}) kept
  where
    nothing_there : (ahead : List Run) (run : Run) (behind : List Run) → ◌≡◌ {A = List Run} [] (ahead ++ run ∷ behind) → ⊥
    nothing_there [] run behind e = absurd (cc)
    nothing_there (r ∷ ahead) run behind e = absurd (cc)

pub list_shows : (own : Words) (m : Known) → m ≡ (view_of (Modules fresh_list ∷ []), []) → ◌≡◌ {A = ListShown} (record { board = board_of own; part = list_in m.0.parts }) (record { board = board_of own; part = fresh_list })
list_shows own m me = ap (λ (x : Known). record { board = board_of own; part = list_in x.0.parts }) me

pub pass_shows : (own : Words) (k : Shape) (table : TableId) → own.shape ≡ k → table ≡ own.table.shared.table_id → ◌≡◌ {A = PassShown} (record { board = record { table = table; shape = k }; next = 1 }) (record { board = board_of own; next = 1 })
pass_shows own k table shape same = λ i. record { board = record { table = same i; shape = sym shape i }; next = 1 }
