-- In a checked trace the words of all CPUs for a tag, added, wrap to what is live under it.
use Rattle.std.proofs.Common.{◌≡◌, ℕ, zero, suc, ◌+◌, ◌-◌, ◌%◌, ◌^◌, ◌<◌, ◌≤◌, Bool, true, false, cond, eqb, leb, ltb, List, [], ◌∷◌, ◌++◌, length, Option, Ok, refl, sym, ap, ◌∙◌, subst, arith, eqb-true, lt-ltb, le-leb, ltb-true, ltb-false, leb-true, leb-false, add-zero}
use Rattle.std.specs.Prelude.{◌&&◌, fold, sum_by, if◌then◌else◌}
use Rattle.std.specs.List.{list_all, range_with_len}
use Rattle.std.proofs.lemmas.Bool.{eqb-false, and_parts}
use Rattle.std.proofs.lemmas.List.{length-set}
use Rattle.std.proofs.lemmas.List.FromFn.{length-map-range_with_len}
use Rattle.std.proofs.lemmas.List.Sums.{sum_by-cons}
use Rattle.tag_model.specs.declared.state.Held.TheVariants as held
use Rattle.tag_model.specs.declared.state.Kind.{Kind}
use Rattle.tag_model.specs.declared.state.Kind.TheVariants.{Bytes, Calls}
use Rattle.tag_model.specs.Laws.{same_kind}
use Rattle.tag_model.specs.Wrap.{wrap, wrap_minus}
use Rattle.tag_model.specs.Moves.{Move, is_on}
use Rattle.tag_model.specs.RefMoves.{is_under, all_up, all_down}
use Rattle.module_area.specs.declared.entry.Entry.{Entry}
use Rattle.slab_cache.specs.Classes as classes
use Rattle.slab_cache.specs.Storage.{Storage, home_of}
use Rattle.slab_cache.specs.Homing.{come_home}
use Rattle.trace.specs.declared.traces.Item.{Item}
use Rattle.trace.specs.declared.traces.Item.TheVariants as item
use Rattle.trace.specs.declared.traces.OnOp.{OnOp}
use Rattle.trace.specs.declared.traces.Trace.{Trace}
use Rattle.trace.specs.declared.traces.TraceOp.{TraceOp}
use Rattle.trace.specs.declared.traces.TraceOp.TheVariants as op
use Rattle.trace.specs.Formed.{IsFormedItem, IsFormedTrace}
use Rattle.round_check.specs.declared.walk.Walk.{Walk}
use Rattle.round_check.specs.Formed.{FitsItem}
use Rattle.round_check.specs.Walk.{begun, walk_item, rounds_of}
use Rattle.trace_play.specs.Worker.{WorkerState, cpu_of, all_done}
use Rattle.trace_play.specs.Machine.{Machine, live_cells, fresh_seat, seat_at, worker_at}
use Rattle.trace_play.specs.Barrier.{ops_of, cpus_done, modules_done, on_its_way, none_on_its_way, storage_home, all_home}
use Rattle.trace_play.specs.Play.{Played, item_played, played_so_far}
use Rattle.trace_play.specs.Sound.{IsSound}
use Rattle.tag_model.specs.Reference.{live_total}
use Rattle.trace_play.specs.Printed.{tag_row}
use Rattle.trace_play.specs.Totals.{IsAccounted, TellsLive, words_total}
use Rattle.trace_play.proofs.Rising.{modules_live}
use Rattle.trace_play.proofs.MovesOf.{AreOf, all_of, home_moves_of, of_both}
use Rattle.trace_play.proofs.MachineSound.{turns, item_sound, first_sound, after_items, OnTheWay, home_low, one_home, sets_out, same_parts}
use Rattle.trace_play.proofs.TraceFits.{Between, fits_of_round, modules_seats, round_count}
use Rattle.trace_play.proofs.TotalsHold.{accounted, modules_tally, totals_after}

-- ---- moves of the CPUs below a number

module _ (count : ℕ) where
  abbrev pub AreLow : List Move → Type 0
  AreLow = AreOf (λ cpu. ltb cpu count)

  all_low : (cpu : ℕ) → cpu < count → (entries : List Entry) (ops : List TraceOp) (w : WorkerState) → cpu_of w ≡ cpu → AreLow w.tally.moves → AreLow (all_done entries ops w).tally.moves
  all_low cpu low entries ops w own a = all_of (λ c. ltb c count) entries ops w (ap (λ c. ltb c count) own ∙ lt-ltb cpu count low) a

  -- ---- the barrier

  all_home_low : (many : ℕ) (rest : List Storage) (m : Machine) → many ≤ count → OnTheWay many m rest → AreLow m.tally.moves → AreLow (fold storage_home m rest).tally.moves
  all_home_low many [] m few o a = a
  all_home_low many (given ∷ rest) m few o a =
      let home = home_of given in
      let low = home_low many m given rest o in
      let cpu = o.cpus home (omega (arith, o.long)) in
      all_home_low many rest (storage_home m given) few (one_home many m given rest o)
      (of_both (λ c. ltb c count) m.tally.moves (come_home given (seat_at home m).node).moves a (home_moves_of (λ c. ltb c count) given (seat_at home m).node (lt-ltb _ count (omega (arith, o.long)))))

  pub record LowMoves (m : Machine) : Type 0 where
    pub sound : IsSound m
    pub seats : length m.seats ≡ count
    pub low : AreLow m.tally.moves

  barrier_low : (ops : List OnOp) (m : Machine) → length m.seats ≤ count → IsSound m → AreLow m.tally.moves → AreLow (all_home (modules_done ops m)).tally.moves
  barrier_low ops m few s a =
      let marked = modules_done ops m in
      let marked_sound = same_parts m marked (modules_seats ops m) (modules_live ops m) s in
      let long : length marked.seats ≡ length m.seats = ap length (modules_seats ops m) in
      all_home_low (length marked.seats) (on_its_way marked) (none_on_its_way marked) (omega arith) (sets_out marked marked_sound)
      (subst AreLow (sym (ap (λ t. t.moves) (modules_tally Bytes 0 ops m))) a)

-- ---- the items

item_low : (trace : Trace) (top : Option ℕ) (what : Item) (walk next : Walk) (p : Played) → FitsItem what → IsFormedItem trace.cpus trace.sections what → walk_item what walk ≡ Ok next → Between trace walk p.machine → LowMoves trace.cpus p.machine → LowMoves trace.cpus (item_played trace top what p).machine
unfolding walk_item
item_low trace top (item.Round ops) walk next p are formed e b s =
    let f = fits_of_round trace ops walk next p.machine are formed b e in
    let same : f.after ≡ next = cc (f.walked, e) in
    let left = turns ops (begun walk) next p.machine are (record { keys = b.fits.keys; modules = b.fits.modules }) e b.rise b.agree f same (λ (now : Machine). (length now.seats ≡ trace.cpus) × AreLow trace.cpus now.tally.moves)
    (λ cpu now low up fit sound h. (
      length-set now.seats cpu _ ∙ h.0,
      all_low trace.cpus cpu (omega (arith, h.0)) now.area.entries (ops_of cpu ops) (worker_at cpu now) (sound.cpus cpu low) h.1,
    ))
    s.sound (s.seats, s.low) in
    record {
      sound = item_sound trace top (item.Round ops) walk next p are formed e b s.sound;
      seats = round_count ops p.machine ∙ s.seats;
      low = barrier_low trace.cpus ops (cpus_done ops p.machine) (omega (arith, left.also.0)) left.sound left.also.1;
    }
item_low trace top (item.Load line section) walk next p are formed e b s = record { sound = item_sound trace top (item.Load line section) walk next p are formed e b s.sound; seats = s.seats; low = s.low }
item_low trace top item.Print walk next p are formed e b s = s
item_low trace top item.Areas walk next p are formed e b s = s

pub low_after : (trace : Trace) (top : Option ℕ) → IsFormedTrace trace → rounds_of trace ≡ Ok tt → (front back : List Item) → trace.body ≡ front ++ back → LowMoves trace.cpus (played_so_far trace top front).played.machine
low_after trace top formed passes front back stands =
    after_items (LowMoves trace.cpus) trace top (item_low trace top) formed passes front back stands
    (record { sound = first_sound trace; seats = length-map-range_with_len (fresh_seat trace.frames trace.vectors) 0 trace.cpus; low = refl })

-- ---- sums over CPUs and over moves

zeros : {X : Type 0} (xs : List X) → sum_by (λ x. 0) xs ≡ 0
zeros [] = refl
zeros (x ∷ xs) = sum_by-cons (λ y. 0) x xs ∙ ap (λ n. 0 + n) (zeros xs)

one_row : (f : ℕ → Move → ℕ) (mv : Move) (moves : List Move) (cpus : List ℕ) → sum_by (λ c. sum_by (f c) (mv ∷ moves)) cpus ≡ sum_by (λ c. f c mv) cpus + sum_by (λ c. sum_by (f c) moves) cpus
one_row f mv moves [] = refl
one_row f mv moves (c ∷ cpus) =
    let rest = one_row f mv moves cpus in
    omega (arith, sum_by-cons (λ c. sum_by (f c) (mv ∷ moves)) c cpus, sum_by-cons (f c) mv moves, sum_by-cons (λ c. f c mv) c cpus, sum_by-cons (λ c. sum_by (f c) moves) c cpus)

each_way : (f : ℕ → Move → ℕ) (cpus : List ℕ) (moves : List Move) → sum_by (λ c. sum_by (f c) moves) cpus ≡ sum_by (λ mv. sum_by (λ c. f c mv) cpus) moves
each_way f cpus [] = zeros cpus
each_way f cpus (mv ∷ moves) = one_row f mv moves cpus ∙ ap (λ n. sum_by (λ c. f c mv) cpus + n) (each_way f cpus moves) ∙ sym (sum_by-cons (λ mv. sum_by (λ c. f c mv) cpus) mv moves)

-- of the CPUs one made a move
one_cpu : (x a : ℕ) (b : Bool) (n from : ℕ) → sum_by (λ c. cond (eqb x c && b) a 0) (range_with_len from n) ≡ cond (leb from x && ltb x (from + n)) (cond b a 0) 0
one_cpu x a b zero from = sym (nowhere (leb from x) (ltb x (from + 0)) refl refl)
  where
    nowhere : (p q : Bool) → leb from x ≡ p → ltb x (from + 0) ≡ q → cond (p && q) (cond b a 0) 0 ≡ 0
    nowhere true true e g = let l = leb-true from x e in let h = ltb-true x (from + 0) g in absurd (omega arith)
    nowhere true false e g = refl
    nowhere false q e g = refl
one_cpu x a b (suc n) from =
    sum_by-cons (λ c. cond (eqb x c && b) a 0) from (range_with_len (from + 1) n)
    ∙ ap (λ k. cond (eqb x from && b) a 0 + k) (one_cpu x a b n (from + 1))
    ∙ by (eqb x from) (leb (from + 1) x) (ltb x (from + 1 + n)) (leb from x) (ltb x (from + suc n)) refl refl refl refl refl
  where
    by : (p q r s t : Bool) → eqb x from ≡ p → leb (from + 1) x ≡ q → ltb x (from + 1 + n) ≡ r → leb from x ≡ s → ltb x (from + suc n) ≡ t → cond (p && b) a 0 + cond (q && r) (cond b a 0) 0 ≡ cond (s && t) (cond b a 0) 0
    by true true r s t e g h i j = let y = eqb-true x from e in let l = leb-true (from + 1) x g in absurd (omega arith)
    by true false r true true e g h i j = add-zero (cond b a 0)
    by true false r true false e g h i j = let y = eqb-true x from e in let l = ltb-false x (from + suc n) j in absurd (omega arith)
    by true false r false t e g h i j = let y = eqb-true x from e in let l = leb-false from x i in absurd (omega arith)
    by false true true true true e g h i j = omega arith
    by false true true true false e g h i j = let y = ltb-true x (from + 1 + n) h in let l = ltb-false x (from + suc n) j in absurd (omega arith)
    by false true r false t e g h i j = let y = leb-true (from + 1) x g in let l = leb-false from x i in absurd (omega arith)
    by false true false true true e g h i j = let y = ltb-false x (from + 1 + n) h in let l = ltb-true x (from + suc n) j in absurd (omega arith)
    by false true false true false e g h i j = refl
    by false false r true t e g h i j = let y = leb-false (from + 1) x g in let l = leb-true from x i in let z = eqb-false x from e in absurd (z (omega arith))
    by false false r false t e g h i j = refl

module _ (kind : Kind) (t : ℕ) where
  abbrev up_on : ℕ → Move → ℕ
  up_on cpu mv = if is_on cpu kind t mv then mv.up else 0

  abbrev down_on : ℕ → Move → ℕ
  down_on cpu mv = if is_on cpu kind t mv then mv.down else 0

  column : (count : ℕ) (mv : Move) (a : ℕ) → mv.cpu < count → sum_by (λ c. if is_on c kind t mv then a else 0) (range_with_len 0 count) ≡ (if is_under kind t mv then a else 0)
  column count mv a low =
      ap (λ (f : ℕ → ℕ). sum_by f (range_with_len 0 count)) (λ i c. cond (regroup (eqb mv.cpu c) (same_kind kind mv.kind) (eqb mv.tag t) i) a 0)
      ∙ one_cpu mv.cpu a (is_under kind t mv) count 0
      ∙ ap (λ b. cond b (if is_under kind t mv then a else 0) 0) (le-low mv.cpu count low)
    where
      regroup : (p q r : Bool) → (p && q && r) ≡ (p && (q && r))
      regroup true q r = refl
      regroup false q r = refl

      le-low : (x n : ℕ) → x < n → (leb 0 x && ltb x (0 + n)) ≡ true
      le-low x n l = ap (λ b. b && ltb x (0 + n)) (le-leb 0 x (omega arith)) ∙ lt-ltb x (0 + n) (omega arith)

  ups_of_all : (count : ℕ) (moves : List Move) → AreLow count moves → sum_by (λ mv. sum_by (λ c. up_on c mv) (range_with_len 0 count)) moves ≡ all_up kind t moves
  ups_of_all count [] low = refl
  ups_of_all count (mv ∷ moves) low =
      let b = and_parts (ltb mv.cpu count) (list_all (λ (x : Move). ltb x.cpu count) moves) low in
      sum_by-cons (λ mv. sum_by (λ c. up_on c mv) (range_with_len 0 count)) mv moves
      ∙ (λ i. column count mv mv.up (ltb-true mv.cpu count b.0) i + ups_of_all count moves b.1 i)
      ∙ sym (sum_by-cons (λ (m : Move). if is_under kind t m then m.up else 0) mv moves)

  downs_of_all : (count : ℕ) (moves : List Move) → AreLow count moves → sum_by (λ mv. sum_by (λ c. down_on c mv) (range_with_len 0 count)) moves ≡ all_down kind t moves
  downs_of_all count [] low = refl
  downs_of_all count (mv ∷ moves) low =
      let b = and_parts (ltb mv.cpu count) (list_all (λ (x : Move). ltb x.cpu count) moves) low in
      sum_by-cons (λ mv. sum_by (λ c. down_on c mv) (range_with_len 0 count)) mv moves
      ∙ (λ i. column count mv mv.down (ltb-true mv.cpu count b.0) i + downs_of_all count moves b.1 i)
      ∙ sym (sum_by-cons (λ (m : Move). if is_under kind t m then m.down else 0) mv moves)

-- ---- wrapped

one_word : (up down words ups downs : ℕ) → (words + downs) % 2 ^ 64 ≡ ups % 2 ^ 64 → ((up + (2 ^ 64 - down % 2 ^ 64)) % 2 ^ 64 + words + (down + downs)) % 2 ^ 64 ≡ (up + ups) % 2 ^ 64
one_word up down words ups downs e = omega arith

words_wrap : (up down : ℕ → ℕ) (cpus : List ℕ) → (sum_by (λ c. wrap_minus (up c) (down c)) cpus + sum_by down cpus) % 2 ^ 64 ≡ sum_by up cpus % 2 ^ 64
words_wrap up down [] = refl
words_wrap up down (c ∷ cpus) =
    let later = words_wrap up down cpus in
    ap (λ n. n % 2 ^ 64) (λ i. sum_by-cons (λ c. wrap_minus (up c) (down c)) c cpus i + sum_by-cons down c cpus i)
    ∙ one_word (up c) (down c) (sum_by (λ c. wrap_minus (up c) (down c)) cpus) (sum_by up cpus) (sum_by down cpus) later
    ∙ ap (λ n. n % 2 ^ 64) (sym (sum_by-cons up c cpus))

taken_off : (words downs live : ℕ) → (words + downs) % 2 ^ 64 ≡ (downs + live) % 2 ^ 64 → words % 2 ^ 64 ≡ live % 2 ^ 64
taken_off words downs live e = omega arith

pub words_are_live : (m : Machine) → IsAccounted m → AreLow (length m.seats) m.tally.moves → (kind : Kind) (t live : ℕ) → all_up kind t m.tally.moves ≡ all_down kind t m.tally.moves + live → wrap (words_total m kind t) ≡ wrap live
words_are_live m accounts low kind t live e =
    let cpus = range_with_len 0 (length m.seats) in
    let moves = m.tally.moves in
    let up : sum_by (λ c. sum_by (up_on kind t c) moves) cpus ≡ all_up kind t moves = each_way (up_on kind t) cpus moves ∙ ups_of_all kind t (length m.seats) moves low in
    let down : sum_by (λ c. sum_by (down_on kind t c) moves) cpus ≡ all_down kind t moves = each_way (down_on kind t) cpus moves ∙ downs_of_all kind t (length m.seats) moves low in
    taken_off (words_total m kind t) (all_down kind t moves) live
    (ap (λ n. (words_total m kind t + n) % 2 ^ 64) (sym down) ∙ words_wrap (λ c. sum_by (up_on kind t c) moves) (λ c. sum_by (down_on kind t c) moves) cpus ∙ ap (λ n. n % 2 ^ 64) (up ∙ e))

pub rows_tell : (trace : Trace) (top : Option ℕ) → IsFormedTrace trace → rounds_of trace ≡ Ok tt → (front back : List Item) → trace.body ≡ front ++ back → (section start index : ℕ) (kept : Bool)
    → TellsLive (played_so_far trace top front).played.machine (start + index) (tag_row (played_so_far trace top front).played.machine section start kept index)
rows_tell trace top formed passes front back stands section start index kept =
    let m = (played_so_far trace top front).played.machine in
    let l = low_after trace top formed passes front back stands in
    let low : AreLow (length m.seats) m.tally.moves = subst (λ n. AreLow n m.tally.moves) (sym l.seats) l.low in
    let accounts : IsAccounted m = λ kind tag. accounted kind tag m (totals_after kind tag trace top formed passes front back stands) in
    record {
      bytes = refl;
      calls = refl;
      byte_words = sym (words_are_live m accounts low Bytes (start + index) (live_total Bytes (start + index) (live_cells m)) (accounts Bytes (start + index)));
      call_words = sym (words_are_live m accounts low Calls (start + index) (live_total Calls (start + index) (live_cells m)) (accounts Calls (start + index)));
    }
