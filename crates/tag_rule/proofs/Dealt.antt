-- The first seat's parts are dealt out from the front.
use Rattle.std.proofs.Common.{◌≡◌, ℕ, ◌+◌, ◌-◌, ◌*◌, ◌<◌, ◌≤◌, ◌==◌, ◌&&◌, zero, suc, Vec, Global, List, [], ◌∷◌, ◌++◌, map, length, take, drop, count_by, sym, refl, ap, subst, ◌∙◌, arith, cond, Bool, true, false, nat_le, nat_lt, add-one, suc-mul, mul-le-mul_right, le-leb, lt-ltb}
use Rattle.std.specs.List.{range_with_len}
use Rattle.std.proofs.lemmas.Bool.{and_from}
use Rattle.std.proofs.lemmas.List.{length-map, map-append, take-append-le, drop-append-le, take-append-drop}
use Rattle.std.proofs.lemmas.List.FromFn.{take-map-range_with_len, map-range_with_len_more}
use Rattle.std.proofs.lemmas.List.Sums.{sum_by-cons}
use Rattle.std.proofs.Math.Seq.{take-append_seam}
use Rattle.atomic_table.specs.Table.{Me}
use Rattle.tag_model.specs.declared.shape.Shape.{Shape}
use Rattle.tag_model.specs.declared.state.Part.{Part}
use Rattle.tag_model.specs.Index.{first_cell, first_object, object_index, word_count}
use Rattle.tag_model.specs.WordState.{one_if, in_range}
use Rattle.tag_rule.specs.declared.view.View.{View}
use Rattle.tag_rule.specs.Fresh.{cpu_at, empty_cell, fresh_cpus, object_count, places}
use Rattle.tag_rule.specs.Made.{fresh_vectors, pools}
use Rattle.tag_rule.specs.Rule.{view_of}
use Rattle.tag_rule.specs.Seated.{cells_in, CellsHold}
use Rattle.tag_model.proofs.Lists.{all_range}
use Rattle.tag_rule.proofs.Pools.{cells_of, drop_places}
use Rattle.tag_rule.specs.declared.words.Words.{Words}
use Rattle.tag_rule.specs.Shown.{PoolShown}
use Rattle.tag_rule.specs.Tokens.{board_of}
use Rattle.tag_rule.proofs.Spans.{empty_span, first_span}
use Rattle.tag_rule.proofs.Starts.{run_long}

abbrev Known : Type 0
Known = Me (Unit {0}) View

-- ---- one after another

-- of parts that are made by their number, the n-th stands at the front once n are gone
pub drop_made : (f : ℕ → Part) (a count n : ℕ) (rest : List Part) → n < count → drop n (map f (range_with_len a count) ++ rest) ≡ f (a + n) ∷ drop (suc n) (map f (range_with_len a count) ++ rest)
drop_made f a zero n rest h = absurd (omega arith)
drop_made f a (suc count) zero rest h = let same : a ≡ a + 0 = omega arith in ap (λ (x : ℕ). f x ∷ (map f (range_with_len (a + 1) count) ++ rest)) same
drop_made f a (suc count) (suc n) rest h =
    let same : a + 1 + n ≡ a + suc n = omega arith in
    drop_made f (a + 1) count n rest (omega arith) ∙ ap (λ (x : ℕ). f x ∷ drop (suc n) (map f (range_with_len (a + 1) count) ++ rest)) same

drop_nothing : (n : ℕ) → drop {A = Part} n [] ≡ []
drop_nothing zero = refl
drop_nothing (suc n) = refl

pub drop_again : (m n : ℕ) (xs : List Part) → drop m (drop n xs) ≡ drop (n + m) xs
drop_again m zero xs = let same : m ≡ 0 + m = omega arith in ap (λ (k : ℕ). drop k xs) same
drop_again m (suc n) [] = drop_nothing m ∙ sym (drop_nothing (suc n + m))
drop_again m (suc n) (x ∷ xs) = let same : suc (n + m) ≡ suc n + m = omega arith in drop_again m n xs ∙ ap (λ (k : ℕ). drop k (x ∷ xs)) same

-- ---- runs of cells

-- so many cells from the front of a run
pub take_run : (a m n : ℕ) (rest : List Part) → n ≤ m → take n (places (range_with_len a m) ++ rest) ≡ places (range_with_len a n)
take_run a m n rest h = take-append-le n (places (range_with_len a m)) rest (omega (arith, run_long a m)) ∙ take-map-range_with_len empty_cell a m n h

pub drop_run : (a m n : ℕ) (rest : List Part) → n ≤ m → drop n (places (range_with_len a m) ++ rest) ≡ places (range_with_len (a + n) (m - n)) ++ rest
drop_run a m n rest h = drop-append-le n (places (range_with_len a m)) rest (omega (arith, run_long a m)) ∙ ap (λ (ps : List Part). ps ++ rest) (drop_places n a m)

-- once so many cells of a run are gone, the next ones stand at the front
pub next_run : (parts : List Part) (first total done size : ℕ) (rest : List Part) → parts ≡ places (range_with_len first total) ++ rest → done + size ≤ total → drop done parts ≡ places (range_with_len (first + done) size) ++ drop size (drop done parts)
next_run parts first total done size rest is h =
    let left : drop done parts ≡ places (range_with_len (first + done) (total - done)) ++ rest = ap (λ (ps : List Part). drop done ps) is ∙ drop_run first total done rest (omega arith) in
    let front : take size (drop done parts) ≡ places (range_with_len (first + done) size) = ap (λ (ps : List Part). take size ps) left ∙ take_run (first + done) (total - done) size rest (omega arith) in
    sym (take-append-drop size (drop done parts)) ∙ ap (λ (ps : List Part). ps ++ drop size (drop done parts)) front

-- ---- what a fresh pool keeps

pub count_run : (n a m : ℕ) → count_by (λ x. x == n) (range_with_len a m) ≡ one_if (in_range a m n)
count_run n a zero = sym (empty_span a n)
count_run n a (suc m) = omega (arith, count_run n (a + 1) m, sum_by-cons (λ (x : ℕ). cond {A = ℕ} (x == n) 1 0) a (range_with_len (a + 1) m), first_span a m n)

pub range_holds : (k : Shape) (first size : ℕ) → first_cell k ≤ first → first + size ≤ word_count k → CellsHold k (range_with_len first size)
range_holds k first size low high = record {
  once = λ n. omega (arith, count_run n first size, at_most_one (in_range first size n));
  within = all_range (λ n. nat_le (first_cell k) n && nat_lt n (word_count k)) first size (λ n from to. and_from _ _ (le-leb (first_cell k) n (omega arith)) (lt-ltb n (word_count k) (omega arith)));
}
  where
    at_most_one : (b : Bool) → one_if b ≤ 1
    at_most_one true = omega arith
    at_most_one false = omega arith

-- the front of a seat's parts
pub front_of : (m old : Known) (xs : List ℕ) (n : ℕ) → length xs ≡ n → old ≡ (view_of (places xs ++ drop n old.0.parts), []) → m ≡ (view_of (take n old.0.parts), []) → m ≡ (view_of (places xs), [])
front_of m old xs n long is front =
    let whole : old.0.parts ≡ places xs ++ drop n old.0.parts = ap (λ (x : Known). x.0.parts) is in
    let len : length (places xs) ≡ n = length-map xs empty_cell ∙ long in
    front ∙ ap (λ (ps : List Part). (view_of ps, [])) (ap (λ (ps : List Part). take n ps) whole ∙ (ap (λ (i : ℕ). take i (places xs ++ drop n old.0.parts)) (sym len) ∙ take-append_seam (places xs) (drop n old.0.parts)))

pub pool_is : (shared own : Words) (m : Known) (xs : List ℕ) → shared ≡ own → m ≡ (view_of (places xs), []) → ◌≡◌ {A = PoolShown} (record { board = board_of shared; cells = cells_in m.0.parts }) (record { board = board_of own; cells = xs })
pool_is shared own m xs same is = let cells : cells_in m.0.parts ≡ xs = ap (λ (x : Known). cells_in x.0.parts) is ∙ cells_of xs in λ i. record { board = board_of (same i); cells = cells i }

-- ---- one token more

pub cpu_front : (m p : Known) (k : Shape) (n : ℕ) → p ≡ (view_of (fresh_cpus k 0 k.cpus ++ drop k.cpus p.0.parts), []) → m ≡ (view_of (drop n p.0.parts), []) → n < k.cpus → m ≡ (view_of (cpu_at k n ∷ drop 1 m.0.parts), [])
cpu_front m p k n whole is h =
    let parts : p.0.parts ≡ fresh_cpus k 0 k.cpus ++ drop k.cpus p.0.parts = ap (λ (x : Known). x.0.parts) whole in
    let same : 0 + n ≡ n = omega arith in
    let front : drop n p.0.parts ≡ cpu_at k n ∷ drop (suc n) p.0.parts =
    ap (λ (ps : List Part). drop n ps) parts ∙ drop_made (cpu_at k) 0 k.cpus n (drop k.cpus p.0.parts) h ∙ (λ i. cpu_at k (same i) ∷ drop (suc n) (sym parts i)) in
    let behind : drop 1 m.0.parts ≡ drop (suc n) p.0.parts = ap (λ (x : Known). drop 1 x.0.parts) is ∙ ap (λ (ps : List Part). drop 1 ps) front in
    is ∙ ap (λ (ps : List Part). (view_of ps, [])) (front ∙ ap (λ (ps : List Part). cpu_at k n ∷ ps) (sym behind))

-- the parts that are left
pub left_then : (next m p : Known) (done more total : ℕ) → m ≡ (view_of (drop done p.0.parts), []) → next ≡ (view_of (drop more m.0.parts), []) → done + more ≡ total → next ≡ (view_of (drop total p.0.parts), [])
left_then next m p done more total is took sum =
    took ∙ ap (λ (ps : List Part). (view_of ps, [])) (ap (λ (x : Known). drop more x.0.parts) is ∙ (drop_again more done p.0.parts ∙ ap (λ (n : ℕ). drop n p.0.parts) sum))

pub run_front : (m p : Known) (first total done size : ℕ) → p ≡ (view_of (places (range_with_len first total) ++ drop total p.0.parts), []) → m ≡ (view_of (drop done p.0.parts), []) → done + size ≤ total
    → m ≡ (view_of (places (range_with_len (first + done) size) ++ drop size m.0.parts), [])
run_front m p first total done size whole is h =
    let parts : p.0.parts ≡ places (range_with_len first total) ++ drop total p.0.parts = ap (λ (x : Known). x.0.parts) whole in
    let left : m.0.parts ≡ drop done p.0.parts = ap (λ (x : Known). x.0.parts) is in
    is ∙ ap (λ (ps : List Part). (view_of ps, [])) (next_run p.0.parts first total done size (drop total p.0.parts) parts h ∙ ap (λ (ps : List Part). places (range_with_len (first + done) size) ++ drop size ps) (sym left))

pub one_row_more : (n count size : ℕ) → n < count → n * size + size ≤ count * size
one_row_more n count size h =
    let more : suc n * size ≤ count * size = mul-le-mul_right size h in
    omega (arith, suc-mul n size)

pub next_row : (n size : ℕ) → n * size + size ≡ (n + 1) * size
next_row n size = sym (rw add-one (suc-mul n size))

pub map_more : {X : Type 0} (f : ℕ → X) (n : ℕ) (xs ys : List X) (x : X) → xs ≡ map f (range_with_len 0 n) → x ≡ f n → ys ≡ xs ++ x ∷ [] → ys ≡ map f (range_with_len 0 (n + 1))
map_more f n xs ys x was is more = let same : 0 + n ≡ n = omega arith in more ∙ (λ i. was i ++ is i ∷ []) ∙ sym (map-range_with_len_more f 0 n n same)

-- ---- the vectors of all CPUs

objects_begin : (k : Shape) → word_count k - k.cpus * (k.vectors * 64) ≡ first_object k
objects_begin k =
    let words : k.cpus * (2 * k.tags) ≡ 2 * k.cpus * k.tags = grind arith in
    let cells : k.cpus * (k.vectors * 64) ≡ k.cpus * k.vectors * 64 = grind arith in
    omega arith

module _ (w own : Words) (words cpu : ℕ) (same : w ≡ own) (all : words ≡ word_count w.shape) (low : cpu < w.shape.cpus) where
  begin : words - w.shape.cpus * (w.shape.vectors * 64) + cpu * (w.shape.vectors * 64) ≡ first_object w.shape + cpu * (w.shape.vectors * 64)
  begin = let e : words - w.shape.cpus * (w.shape.vectors * 64) ≡ first_object w.shape = ap (λ (n : ℕ). n - w.shape.cpus * (w.shape.vectors * 64)) all ∙ objects_begin w.shape in omega arith

  pub objects_front : (m p : Known) → p ≡ (view_of (places (range_with_len (first_object own.shape) (object_count own.shape)) ++ drop (object_count own.shape) p.0.parts), []) → m ≡ (view_of (drop (cpu * (w.shape.vectors * 64)) p.0.parts), [])
      → m ≡ (view_of (places (range_with_len (words - w.shape.cpus * (w.shape.vectors * 64) + cpu * (w.shape.vectors * 64)) (w.shape.vectors * 64)) ++ drop (w.shape.vectors * 64) m.0.parts), [])
  objects_front m p whole is =
      let here = subst (λ (x : Words). p ≡ (view_of (places (range_with_len (first_object x.shape) (object_count x.shape)) ++ drop (object_count x.shape) p.0.parts), [])) (sym same) whole in
      subst (λ (n : ℕ). m ≡ (view_of (places (range_with_len n (w.shape.vectors * 64)) ++ drop (w.shape.vectors * 64) m.0.parts), [])) (sym begin)
      (run_front m p (first_object w.shape) (object_count w.shape) (cpu * (w.shape.vectors * 64)) (w.shape.vectors * 64) here is (one_row_more cpu w.shape.cpus (w.shape.vectors * 64) low))

  cell_at : (v : ℕ) → words - w.shape.cpus * (w.shape.vectors * 64) + cpu * (w.shape.vectors * 64) + v * 64 ≡ object_index w.shape cpu v 0
  cell_at v =
      let row : 64 * (cpu * w.shape.vectors + v) ≡ cpu * (w.shape.vectors * 64) + v * 64 = grind arith in
      omega (arith, begin)

  pub vectors_are : (xs : List PoolShown) → xs ≡ pools (board_of own) (words - w.shape.cpus * (w.shape.vectors * 64) + cpu * (w.shape.vectors * 64)) w.shape.vectors 64 → xs ≡ fresh_vectors (board_of own) cpu
  vectors_are xs is =
      is ∙ (λ i. map (λ (v : ℕ). record { board = board_of own; cells = range_with_len (cell_at v i) 64 }) (range_with_len 0 w.shape.vectors))
      ∙ (λ i. map (λ (v : ℕ). record { board = board_of own; cells = range_with_len (object_index (same i).shape cpu v 0) 64 }) (range_with_len 0 (same i).shape.vectors))

pub items_more : {X : Type 0} (f : ℕ → List X) (n : ℕ) (xs ys : List (Vec X Global)) (x : Vec X Global) → map (λ (v : Vec X Global). v.items) xs ≡ map f (range_with_len 0 n) → x.items ≡ f n → ys ≡ xs ++ x ∷ []
    → map (λ (v : Vec X Global). v.items) ys ≡ map f (range_with_len 0 (n + 1))
items_more {X} f n xs ys x was is more =
    map_more f n (map (λ (v : Vec X Global). v.items) xs) (map (λ (v : Vec X Global). v.items) ys) x.items was is (ap (λ (zs : List (Vec X Global)). map (λ (v : Vec X Global). v.items) zs) more ∙ map-append (λ (v : Vec X Global). v.items) xs (x ∷ []))
