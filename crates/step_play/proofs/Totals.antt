-- A core's totals and words, where its words are the sums of moves.
use Rattle.std.proofs.Common.{◌≡◌, ℕ, zero, suc, ◌+◌, ◌*◌, ◌/◌, ◌%◌, ◌<◌, List, [], ◌∷◌, ◌++◌, get_or, map, refl, sym, ap, ◌∙◌, subst, arith, sum_by, false, append_assoc, append-nil, add-zero, add-one, zero-add}
use Rattle.std.proofs.lemmas.List.FromFn.{get_or-map-range_with_len, map-range_with_len_more}
use Rattle.std.proofs.lemmas.List.Sums.{sum_by-cons}
use Rattle.std.proofs.lemmas.Grind.{flat_map-append}
use Rattle.std.specs.List.{range_with_len}
use Rattle.tag_model.specs.declared.state.Kind.{Kind}
use Rattle.tag_model.specs.declared.state.Kind.TheVariants.{Bytes, Calls}
use Rattle.tag_model.specs.Wrap.{wrap}
use Rattle.tag_model.specs.Moves.{Move, moved_word}
use Rattle.tag_model.specs.WordState.{word_place}
use Rattle.core_steps.specs.CoreState.{CoreState, total_of}
use Rattle.core_steps.specs.Moved.{kind_at, own_moved, words_moved}
use Rattle.tag_model.specs.declared.shape.Shape.{Shape}
use Rattle.allocinfo.specs.declared.rows.Row.{Row}
use Rattle.step_play.specs.Printed.{Setting, total_moved, section_rows, words_text, cpu_text, cpu_line}
use Rattle.step_play.specs.Schedule.{Played}
use Rattle.step_play.specs.Playing.{Shows}

kind_here : (kind : Kind) (t : ℕ) → kind_at (word_place kind t) ≡ kind
kind_here Bytes t = let even : (2 * t + 0) % 2 ≡ 0 = omega arith in rw even refl
kind_here Calls t = let odd : (2 * t + 1) % 2 ≡ 1 = omega arith in rw odd refl

half_here : (kind : Kind) (t : ℕ) → word_place kind t / 2 ≡ t
half_here Bytes t = omega arith
half_here Calls t = omega arith

below_here : (kind : Kind) (tags t : ℕ) → t < tags → word_place kind t < 2 * tags
below_here Bytes tags t h = omega arith
below_here Calls tags t h = omega arith

-- a word of a CPU
pub word_here : (tags : ℕ) (moves : List Move) (cpu : ℕ) (kind : Kind) (t : ℕ) → t < tags → get_or (own_moved tags moves cpu) (word_place kind t) 0 ≡ moved_word moves cpu kind t
word_here tags moves cpu kind t h =
    get_or-map-range_with_len (λ q. moved_word moves cpu (kind_at q) (q / 2)) 0 (2 * tags) (word_place kind t) (word_place kind t) 0 (below_here kind tags t h) (omega arith)
    ∙ ap (λ (k : Kind). moved_word moves cpu k (word_place kind t / 2)) (kind_here kind t) ∙ ap (moved_word moves cpu kind) (half_here kind t)

sum_here : (tags : ℕ) (moves : List Move) (kind : Kind) (t : ℕ) → t < tags → (cpus : List ℕ)
    → sum_by (λ (own : List ℕ). get_or own (word_place kind t) 0) (map (own_moved tags moves) cpus) ≡ sum_by (λ cpu. moved_word moves cpu kind t) cpus
sum_here tags moves kind t h [] = refl
sum_here tags moves kind t h (c ∷ cpus) =
    omega (
      arith,
      sum_by-cons (λ (own : List ℕ). get_or own (word_place kind t) 0) (own_moved tags moves c) (map (own_moved tags moves) cpus),
      sum_by-cons (λ cpu. moved_word moves cpu kind t) c cpus,
      word_here tags moves c kind t h,
      sum_here tags moves kind t h cpus,
    )

pub total_here : (cpus tags : ℕ) (moves : List Move) (kind : Kind) (t : ℕ) → t < tags → total_of (words_moved cpus tags moves) kind t ≡ total_moved cpus moves kind t
unfolding words_moved
total_here cpus tags moves kind t h = ap wrap (sum_here tags moves kind t h (range_with_len 0 cpus))

-- one row more
pub rows_more : (s : Setting) (now : CoreState) (text : List ℕ) (p : Played) (old rows : List Row) (section start i bytes calls : ℕ) → Shows s now text p → start + i < now.shape.tags → rows ≡ old ++ section_rows s p.moves section start i
    → bytes ≡ total_of now.words Bytes (start + i) → calls ≡ total_of now.words Calls (start + i)
    → rows ++ record { bytes = bytes; calls = calls; section = section; index = i; kept = false } ∷ [] ≡ old ++ section_rows s p.moves section start (i + 1)
rows_more s now text p old rows section start i bytes calls shows below so_far b k =
    let tags : now.shape ≡ s.shape = ap (λ (c : CoreState). c.shape) shows.core in
    let within : start + i < s.shape.tags = subst (λ (x : Shape). start + i < x.tags) tags below in
    let words : now.words ≡ words_moved s.shape.cpus s.shape.tags p.moves = ap (λ (c : CoreState). c.words) shows.core in
    let bytes_is : bytes ≡ total_moved s.shape.cpus p.moves Bytes (start + i) = b ∙ ap (λ (w : List (List ℕ)). total_of w Bytes (start + i)) words ∙ total_here s.shape.cpus s.shape.tags p.moves Bytes (start + i) within in
    let calls_is : calls ≡ total_moved s.shape.cpus p.moves Calls (start + i) = k ∙ ap (λ (w : List (List ℕ)). total_of w Calls (start + i)) words ∙ total_here s.shape.cpus s.shape.tags p.moves Calls (start + i) within in
    rw (so_far, bytes_is, calls_is)
    (append_assoc old (section_rows s p.moves section start i) _
    ∙ ap (λ (r : List Row). old ++ r)
    (sym (map-range_with_len_more (λ index. record { bytes = total_moved s.shape.cpus p.moves Bytes (start + index); calls = total_moved s.shape.cpus p.moves Calls (start + index); section = section; index = index; kept = false }) 0 i i (omega arith))))

own_shown : (s : Setting) (now : CoreState) (text : List ℕ) (p : Played) (cpu : ℕ) → Shows s now text p → cpu < now.shape.cpus → get_or now.words cpu [] ≡ own_moved s.shape.tags p.moves cpu
unfolding words_moved
own_shown s now text p cpu shows below =
    let shape : now.shape ≡ s.shape = ap (λ (c : CoreState). c.shape) shows.core in
    let words : now.words ≡ words_moved s.shape.cpus s.shape.tags p.moves = ap (λ (c : CoreState). c.words) shows.core in
    rw words (get_or-map-range_with_len (own_moved s.shape.tags p.moves) 0 s.shape.cpus cpu cpu [] (subst (λ (x : Shape). cpu < x.cpus) shape below) (omega arith))

range_more : (a n : ℕ) → range_with_len a (suc n) ≡ range_with_len a n ++ (a + n) ∷ []
range_more a zero = rw add-zero refl
range_more a (suc n) = let place : a + 1 + n ≡ a + suc n = omega arith in ap (λ (xs : List ℕ). a ∷ xs) (range_more (a + 1) n ∙ ap (λ (k : ℕ). range_with_len (a + 1) n ++ k ∷ []) place)

words_line_more : (n : ℕ) (moves : List Move) (t : ℕ) → words_text (n + 1) moves t ≡ words_text n moves t ++ cpu_line moves t n
words_line_more n moves t =
    let more : range_with_len 0 (n + 1) ≡ range_with_len 0 n ++ n ∷ [] = rw add-one (range_more 0 n ∙ ap (λ (k : ℕ). range_with_len 0 n ++ k ∷ []) (zero-add n)) in
    rw more (flat_map-append (cpu_line moves t) (range_with_len 0 n) (n ∷ []) ∙ ap (λ (x : List ℕ). words_text n moves t ++ x) (append-nil (cpu_line moves t n)))

-- one CPU's line more
pub cpus_more : (s : Setting) (now : CoreState) (text : List ℕ) (p : Played) (so_far next : List ℕ) (cpu tag bytes calls : ℕ) → Shows s now text p → cpu < now.shape.cpus → tag < now.shape.tags
    → so_far ≡ text ++ words_text cpu p.moves tag
    → bytes ≡ get_or (get_or now.words cpu []) (word_place Bytes tag) 0 → calls ≡ get_or (get_or now.words cpu []) (word_place Calls tag) 0
    → next ≡ so_far ++ cpu_text cpu bytes calls → next ≡ text ++ words_text (cpu + 1) p.moves tag
cpus_more s now text p so_far next cpu tag bytes calls shows below small before b k e =
    let shape : now.shape ≡ s.shape = ap (λ (c : CoreState). c.shape) shows.core in
    let within : tag < s.shape.tags = subst (λ (x : Shape). tag < x.tags) shape small in
    let own = own_shown s now text p cpu shows below in
    let bytes_is : bytes ≡ moved_word p.moves cpu Bytes tag = b ∙ ap (λ (w : List ℕ). get_or w (word_place Bytes tag) 0) own ∙ word_here s.shape.tags p.moves cpu Bytes tag within in
    let calls_is : calls ≡ moved_word p.moves cpu Calls tag = k ∙ ap (λ (w : List ℕ). get_or w (word_place Calls tag) 0) own ∙ word_here s.shape.tags p.moves cpu Calls tag within in
    e ∙ ap (λ (t : List ℕ). t ++ cpu_text cpu bytes calls) before
    ∙ append_assoc text (words_text cpu p.moves tag) (cpu_text cpu bytes calls)
    ∙ ap (λ (t : List ℕ). text ++ (words_text cpu p.moves tag ++ t)) (ap (λ (n : ℕ). cpu_text cpu n calls) bytes_is ∙ ap (cpu_text cpu (moved_word p.moves cpu Bytes tag)) calls_is)
    ∙ ap (λ (t : List ℕ). text ++ t) (sym (words_line_more cpu p.moves tag))
