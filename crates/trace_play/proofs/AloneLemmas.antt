-- What a CPU does among others' keys is what it does alone.
use Rattle.std.proofs.Common.{◌≡◌, ℕ, zero, suc, ◌+◌, ◌-◌, Bool, true, false, not, T, eqb, List, [], ◌∷◌, ◌++◌, Option, Some, None, unwrap_or, refl, sym, ap, ◌∙◌, subst, append_assoc, append-nil, add-zero, arith, eqb-true, ne_eqb}
use Rattle.std.proofs.Math.Nat.{add_assoc}
use Rattle.std.proofs.lemmas.Nat.{pow_pos}
use Rattle.std.proofs.lemmas.Bool.{cond-true, cond-false, and_from, and_parts}
use Rattle.std.specs.Prelude.{fold, ◌&&◌, ◌<◌, ◌*◌, if◌then◌else◌}
use Rattle.std.specs.List.{list_all, range_with_len}
use Rattle.tag_model.specs.Moves.{Move}
use Rattle.tag_model.specs.RefMoves.{close_moves, split_moves, trim_moves, trimmed}
use Rattle.module_area.specs.declared.entry.Entry.{Entry}
use Rattle.slab_cache.specs.Storage as storage
use Rattle.slab_cache.specs.Storage.{Storage, home_of}
use Rattle.slab_cache.specs.Giving.{Given}
use Rattle.slab_cache.specs.Homing.{come_home}
use Rattle.trace.specs.declared.traces.TraceOp.{TraceOp}
use Rattle.trace.specs.declared.traces.TraceOp.TheVariants as op
use Rattle.split_swap.specs.Parts.{parts_in}
use Rattle.trace_play.specs.Live.{Content, Nothing, Stored, Live, content_at, put, without, held_of, order_of, with_held, is_nothing, part_in, part_key, swap_live}
use Rattle.trace_play.specs.Worker.{Seat, Tally, WorkerState, with_moves, with_live, with_node, allocated, is_home, given_back, freed, split, trim, one_given, with_taken, sent_home, done, all_done}
use Rattle.trace_play.specs.Alone.{rises, kept, named_by, names_only, alone, joined, put_all, others, rejoined}
use Rattle.trace_play.proofs.Entries.{kept_put, dropped_put, kept_kept, kept_within, find_kept, sorted_put, sorted_kept, rejoins}

pub holds : {b : Bool} → b ≡ true → T b
holds e = subst T (sym e) tt

pub holding : (b : Bool) → T b → b ≡ true
holding true h = refl
holding false h = absurd h

-- ---- which keys an op touches

-- keys that pass the test were put or taken away, and no other
pub data Touches (mine : ℕ → Bool) : Live → Live → Type 0 where
  not_any : {live : Live} → Touches mine live live
  puts : {before : Live} {after : Live} (key : ℕ) (content : Content) → mine key ≡ true → Touches mine (put key content before) after → Touches mine before after
  takes : {before : Live} {after : Live} (key : ℕ) → mine key ≡ true → Touches mine (without key before) after → Touches mine before after

pub still_rises : {mine : ℕ → Bool} (before after : Live) → Touches mine before after → T (rises before) → T (rises after)
still_rises before after not_any r = r
still_rises before after (puts key content is rest) r = still_rises (put key content before) after rest (sorted_put key content before r)
still_rises before after (takes key is rest) r = still_rises (without key before) after rest (sorted_kept _ before r)

-- a taken key isn't among the others
untaken : (mine : ℕ → Bool) (key q : ℕ) → mine key ≡ true → others mine q ≡ true → not (eqb q key) ≡ true
untaken mine key q is h = by (eqb q key) refl
  where
    by : (b : Bool) → eqb q key ≡ b → not b ≡ true
    by true e = let same : q ≡ key = eqb-true q key e in let no : ⊥ = cc in absurd no
    by false e = refl

pub others_stay : {mine : ℕ → Bool} (before after : Live) → Touches mine before after → T (rises before) → kept (others mine) after ≡ kept (others mine) before
others_stay before after not_any r = refl
others_stay {mine} before after (puts key content is rest) r =
    others_stay (put key content before) after rest (sorted_put key content before r)
    ∙ dropped_put (others mine) key content before r (ap not is)
others_stay {mine} before after (takes key is rest) r =
    others_stay (without key before) after rest (sorted_kept _ before r)
    ∙ kept_within (others mine) (λ other. not (eqb other key)) before r (λ q h. untaken mine key q is h)

-- ---- a split's keys

-- the keys of the parts but the first are the new ones
parts_named : (mine : ℕ → Bool) (key first count from new : ℕ) → 0 < from → new ≡ first + from - 1 → list_all mine (range_with_len new count) ≡ true
    → list_all (λ place. mine (part_key key first place)) (range_with_len from count) ≡ true
parts_named mine key first zero from new above is all = refl
parts_named mine key first (suc count) from new above is all =
    let here = and_parts (mine new) (list_all mine (range_with_len (new + 1) count)) all in
    let later : part_key key first from ≡ new = cond-false (eqb from 0) key (first + from - 1) (ne_eqb from 0 (λ e. omega arith)) ∙ sym is in
    and_from (mine (part_key key first from)) (list_all (λ place. mine (part_key key first place)) (range_with_len (from + 1) count))
    (ap mine later ∙ here.0)
    (parts_named mine key first count (from + 1) (new + 1) (omega arith) (omega arith) here.1)

all_parts : (mine : ℕ → Bool) (key first parts : ℕ) → 0 < parts → list_all mine (key ∷ range_with_len first (parts - 1)) ≡ true
    → list_all (λ place. mine (part_key key first place)) (range_with_len 0 parts) ≡ true
all_parts mine key first zero above all = absurd (omega arith)
all_parts mine key first (suc more) above all =
    let less : suc more - 1 ≡ more = omega arith in
    let named = and_parts (mine key) (list_all mine (range_with_len first (suc more - 1))) all in
    and_from (mine key) (list_all (λ place. mine (part_key key first place)) (range_with_len 1 more))
    named.0
    (parts_named mine key first more 1 first (omega arith) (omega arith) (subst (λ n. list_all mine (range_with_len first n) ≡ true) less named.1))

-- ---- each op

pub one_given_live : (given : Storage) (w : WorkerState) → (one_given given w).live ≡ w.live
one_given_live (storage.Pages block) w = refl
one_given_live (storage.Object home frame place vector holds) w = refl
one_given_live (storage.Uncounted home frame place) w = refl

either_live : (b : Bool) (x y : WorkerState) (live : Live) → x.live ≡ live → y.live ≡ live → (if b then x else y).live ≡ live
either_live true x y live p q = p
either_live false x y live p q = q

pub freed_live : (content : Content) (w : WorkerState) → (given_back content w).live ≡ w.live
freed_live (Nothing order) w = refl
freed_live (Stored given) w = either_live (is_home given w) _ _ w.live refl refl

module _ (mine : ℕ → Bool) where
  puts_parts : (key first : ℕ) (part : ℕ → Content) (places : List ℕ) (live : Live) → list_all (λ place. mine (part_key key first place)) places ≡ true
      → Touches mine live (fold (λ parts place. put (part_key key first place) (part place) parts) live places)
  puts_parts key first part [] live all = not_any
  puts_parts key first part (place ∷ places) live all =
      let here = and_parts (mine (part_key key first place)) (list_all (λ place. mine (part_key key first place)) places) all in
      puts (part_key key first place) (part place) here.0 (puts_parts key first part places (put (part_key key first place) (part place) live) here.1)

  kept_parts : (key first : ℕ) (part : ℕ → Content) (places : List ℕ) (live : Live) → T (rises live) → list_all (λ place. mine (part_key key first place)) places ≡ true
      → kept mine (fold (λ parts place. put (part_key key first place) (part place) parts) live places) ≡ fold (λ parts place. put (part_key key first place) (part place) parts) (kept mine live) places
  kept_parts key first part [] live r all = refl
  kept_parts key first part (place ∷ places) live r all =
      let here = and_parts (mine (part_key key first place)) (list_all (λ place. mine (part_key key first place)) places) all in
      kept_parts key first part places (put (part_key key first place) (part place) live) (sorted_put (part_key key first place) (part place) live r) here.1
      ∙ ap (λ now. fold (λ parts place. put (part_key key first place) (part place) parts) now places) (kept_put mine (part_key key first place) (part place) live r here.0)

  one_named : (key : ℕ) → list_all mine (key ∷ []) ≡ true → mine key ≡ true
  one_named key all = (and_parts (mine key) true all).0

  swap_touches : (one two : ℕ) (live : Live) → mine one ≡ true → mine two ≡ true → (a b : Bool) (left right : Content) → Touches mine live (if a then live else (if b then live else put one left (put two right live)))
  swap_touches one two live is also true b left right = not_any
  swap_touches one two live is also false true left right = not_any
  swap_touches one two live is also false false left right = puts two right also (puts one left is not_any)

  allocated_touches : (key order : ℕ) (given : Option Given) (w : WorkerState) → mine key ≡ true → Touches mine w.live (allocated key order given w).live
  allocated_touches key order None w is = puts key (Nothing order) is not_any
  allocated_touches key order (Some given) w is =
      subst (λ (live : Live). Touches mine w.live live) (sym (one_given_live given.storage (with_moves given.moves (with_node given.node (with_live (put key (Stored given.storage) w.live) w)))))
      (puts key (Stored given.storage) is not_any)

  touches : (entries : List Entry) (what : TraceOp) (w : WorkerState) → list_all mine (named_by w.live what) ≡ true → Touches mine w.live (done entries what w).live
  touches entries (op.Page key order) w all = allocated_touches key order _ w (one_named key all)
  touches entries (op.Kmalloc key size) w all = allocated_touches key 0 _ w (one_named key all)
  touches entries (op.Free key) w all = subst (λ (live : Live). Touches mine w.live live) (sym (freed_live (content_at key w.live) _)) (takes key (one_named key all) not_any)
  touches entries (op.Split key order first) w all = puts_parts key first _ _ w.live (all_parts mine key first (parts_in order (order_of (content_at key w.live))) (pow_pos _) all)
  touches entries (op.Swap one two) w all =
      let names = and_parts (mine one) (list_all mine (two ∷ [])) all in
      swap_touches one two w.live names.0 (one_named two names.1) (is_nothing (content_at one w.live)) (is_nothing (content_at two w.live)) _ _
  touches entries (op.Trim key pages) w all = puts key _ (one_named key all) not_any
  touches entries (op.Hook section index) w all = not_any
  touches entries op.Unhook w all = not_any
  touches entries (op.Enter section) w all = not_any
  touches entries (op.Leave section) w all = not_any
  touches entries (op.Unload section) w all = not_any

-- ---- all ops

pub all_touch : (mine : ℕ → Bool) (entries : List Entry) (ops : List TraceOp) (w : WorkerState) → names_only mine entries ops w ≡ true → Touches mine w.live (all_done entries ops w).live
all_touch mine entries [] w all = not_any
all_touch mine entries (what ∷ ops) w all =
    let here = and_parts (list_all mine (named_by w.live what)) (names_only mine entries ops (done entries what w)) all in
    then_touch mine w.live (done entries what w).live (all_done entries ops (done entries what w)).live (touches mine entries what w here.0) (all_touch mine entries ops (done entries what w) here.1)
  where
    then_touch : (mine : ℕ → Bool) (one two three : Live) → Touches mine one two → Touches mine two three → Touches mine one three
    then_touch mine one two three not_any b = b
    then_touch mine one two three (puts key content is a) b = puts key content is (then_touch mine (put key content one) two three a b)
    then_touch mine one two three (takes key is a) b = takes key is (then_touch mine (without key one) two three a b)

-- ---- the same among others' keys

-- the worker's own keys alone
abbrev pub own_part : (ℕ → Bool) → WorkerState → WorkerState
own_part mine w = record w { live = kept mine w.live }

-- with something done before
abbrev pub after : Tally → WorkerState → WorkerState
after before w = record w { tally = joined before w.tally }

whole : {s s' : Seat} {l l' : Live} {ms ms' : List Move} {f f' u u' : ℕ} → s ≡ s' → l ≡ l' → ms ≡ ms' → f ≡ f' → u ≡ u'
    → ◌≡◌ {A = WorkerState} (record { seat = s; live = l; tally = record { moves = ms; failed = f; uncounted = u } }) (record { seat = s'; live = l'; tally = record { moves = ms'; failed = f'; uncounted = u' } })
whole a b c d e = λ i. record { seat = a i; live = b i; tally = record { moves = c i; failed = d i; uncounted = e i } }

abbrev among_others : (ℕ → Bool) → Seat → Live → Tally → Tally → WorkerState
among_others mine seat live before tally = record { seat = seat; live = live; tally = joined before tally }

abbrev by_itself : (ℕ → Bool) → Seat → Live → Tally → Tally → WorkerState
by_itself mine seat live before tally = record { seat = seat; live = kept mine live; tally = tally }

module _ (mine : ℕ → Bool) (seat : Seat) (live : Live) (before tally : Tally) (r : T (rises live)) where
  abbrev among : WorkerState
  among = among_others mine seat live before tally

  abbrev own : WorkerState
  own = by_itself mine seat live before tally

  found : (key : ℕ) → mine key ≡ true → content_at key (kept mine live) ≡ content_at key live
  found key is = ap (λ o. unwrap_or o (Nothing 0)) (find_kept mine key live ∙ cond-true (mine key) _ _ is)

  allocated_same : (key order : ℕ) (given : Option Given) → mine key ≡ true → own_part mine (allocated key order given among) ≡ after before (allocated key order given own)
  allocated_same key order None is = whole refl (kept_put mine key (Nothing order) live r is) refl (add_assoc before.failed tally.failed 1) refl
  allocated_same key order (Some given) is = by given.storage _ _ (kept_put mine key (Stored given.storage) live r is)
    where
      by : (what : Storage) (left right : Live) → kept mine left ≡ right
          → own_part mine (one_given what (with_moves given.moves (with_node given.node (with_live left among)))) ≡ after before (one_given what (with_moves given.moves (with_node given.node (with_live right own))))
      by (storage.Pages block) left right same = whole refl same (append_assoc before.moves tally.moves given.moves) refl refl
      by (storage.Object home frame place vector holds) left right same = whole refl same (append_assoc before.moves tally.moves given.moves) refl refl
      by (storage.Uncounted home frame place) left right same = whole refl same (append_assoc before.moves tally.moves given.moves) refl (add_assoc before.uncounted tally.uncounted 1)

  back_same : (moves : List Move) (content : Content) (left right : Live) → kept mine left ≡ right
      → own_part mine (given_back content (with_moves moves (with_live left among))) ≡ after before (given_back content (with_moves moves (with_live right own)))
  back_same moves (Nothing order) left right same = whole refl same (append_assoc before.moves tally.moves moves) refl refl
  back_same moves (Stored what) left right same = by (eqb (home_of what) seat.node.node.cpu)
    where
      by : (b : Bool)
          → own_part mine (if b then with_taken (come_home what seat.node) (with_moves moves (with_live left among)) else sent_home what (with_moves moves (with_live left among)))
          ≡ after before (if b then with_taken (come_home what seat.node) (with_moves moves (with_live right own)) else sent_home what (with_moves moves (with_live right own)))
      by true =
          let came = (come_home what seat.node).moves in
          whole refl same (ap (λ (ms : List Move). ms ++ came) (append_assoc before.moves tally.moves moves) ∙ append_assoc before.moves (tally.moves ++ moves) came) refl refl
      by false = whole refl same (append_assoc before.moves tally.moves moves) refl refl

  freed_same : (key : ℕ) → mine key ≡ true → own_part mine (freed key among) ≡ after before (freed key own)
  freed_same key is =
      let cpu = seat.node.node.cpu in
      let as_own = λ (content : Content). after before (given_back content (with_moves (close_moves cpu (held_of content)) (with_live (without key (kept mine live)) own))) in
      back_same (close_moves cpu (held_of (content_at key live))) (content_at key live) _ _ (kept_kept mine (λ other. not (eqb other key)) live r)
      ∙ ap as_own (sym (found key is))

  split_same : (key order first : ℕ) → list_all mine (named_by live (op.Split key order first)) ≡ true → own_part mine (split key order first among) ≡ after before (split key order first own)
  split_same key order first all =
      let cpu = seat.node.node.cpu in
      let is = (and_parts (mine key) (list_all mine (range_with_len first (parts_in order (order_of (content_at key live)) - 1))) all).0 in
      let into = λ (content : Content) (now : Live). fold (λ parts place. put (part_key key first place) (part_in order place content) parts) now (range_with_len 0 (parts_in order (order_of content))) in
      let as_own = λ (content : Content). after before (with_moves (split_moves cpu (parts_in order (order_of content)) (held_of content)) (with_live (into content (kept mine live)) own)) in
      whole refl
      (kept_parts mine key first (λ place. part_in order place (content_at key live)) (range_with_len 0 (parts_in order (order_of (content_at key live)))) live r
      (all_parts mine key first (parts_in order (order_of (content_at key live))) (pow_pos _) all))
      (append_assoc before.moves tally.moves _) refl refl
      ∙ ap as_own (sym (found key is))

  kept_swap : (one two : ℕ) → mine one ≡ true → mine two ≡ true → (x y : Bool) (left right : Content)
      → kept mine (if x then live else (if y then live else put one left (put two right live))) ≡ (if x then kept mine live else (if y then kept mine live else put one left (put two right (kept mine live))))
  kept_swap one two is also true y left right = refl
  kept_swap one two is also false true left right = refl
  kept_swap one two is also false false left right = kept_put mine one left (put two right live) (sorted_put two right live r) is ∙ ap (put one left) (kept_put mine two right live r also)

  swap_same : (one two : ℕ) → mine one ≡ true → mine two ≡ true → own_part mine (with_live (swap_live one two live) among) ≡ after before (with_live (swap_live one two (kept mine live)) own)
  swap_same one two is also =
      let swapped = λ (a b : Content) (now : Live). if is_nothing a then now else (if is_nothing b then now else put one (with_held (λ _. held_of b) a) (put two (with_held (λ _. held_of a) b) now)) in
      let a = content_at one live in
      let b = content_at two live in
      whole refl
      (kept_swap one two is also (is_nothing a) (is_nothing b) (with_held (λ _. held_of b) a) (with_held (λ _. held_of a) b)
      ∙ ap (λ (c : Content). swapped c b (kept mine live)) (sym (found one is))
      ∙ ap (λ (c : Content). swapped (content_at one (kept mine live)) c (kept mine live)) (sym (found two also)))
      refl refl refl

  trim_same : (key bytes : ℕ) → mine key ≡ true → own_part mine (trim key bytes among) ≡ after before (trim key bytes own)
  trim_same key bytes is =
      let cpu = seat.node.node.cpu in
      let as_own = λ (content : Content). after before (with_moves (trim_moves cpu bytes (held_of content)) (with_live (put key (with_held (trimmed bytes) content) (kept mine live)) own)) in
      whole refl (kept_put mine key (with_held (trimmed bytes) (content_at key live)) live r is) (append_assoc before.moves tally.moves _) refl refl
      ∙ ap as_own (sym (found key is))

  step_same : (entries : List Entry) (what : TraceOp) → list_all mine (named_by live what) ≡ true → own_part mine (done entries what among) ≡ after before (done entries what own)
  step_same entries (op.Page key order) all = allocated_same key order _ (one_named mine key all)
  step_same entries (op.Kmalloc key size) all = allocated_same key 0 _ (one_named mine key all)
  step_same entries (op.Free key) all = freed_same key (one_named mine key all)
  step_same entries (op.Split key order first) all = split_same key order first all
  step_same entries (op.Swap one two) all =
      let names = and_parts (mine one) (list_all mine (two ∷ [])) all in
      swap_same one two names.0 (one_named mine two names.1)
  step_same entries (op.Trim key pages) all = trim_same key (pages * 4096) (one_named mine key all)
  step_same entries (op.Hook section index) all = refl
  step_same entries op.Unhook all = refl
  step_same entries (op.Enter section) all = refl
  step_same entries (op.Leave section) all = refl
  step_same entries (op.Unload section) all = refl

  -- a CPU names its own keys, whichever others there are
  names_same : (what : TraceOp) → list_all mine (named_by (kept mine live) what) ≡ list_all mine (named_by live what)
  names_same (op.Page key order) = refl
  names_same (op.Kmalloc key size) = refl
  names_same (op.Free key) = refl
  names_same (op.Split key order first) = by (mine key) refl
    where
      by : (b : Bool) → mine key ≡ b
          → (b && list_all mine (range_with_len first (parts_in order (order_of (content_at key (kept mine live))) - 1))) ≡ (b && list_all mine (range_with_len first (parts_in order (order_of (content_at key live)) - 1)))
      by true is = ap (λ (content : Content). list_all mine (range_with_len first (parts_in order (order_of content) - 1))) (found key is)
      by false is = refl
  names_same (op.Swap one two) = refl
  names_same (op.Trim key pages) = refl
  names_same (op.Hook section index) = refl
  names_same op.Unhook = refl
  names_same (op.Enter section) = refl
  names_same (op.Leave section) = refl
  names_same (op.Unload section) = refl

-- a worker does among others' keys what another with its keys alone does, behind what was done before
module _ (mine : ℕ → Bool) (entries : List Entry) (before : Tally) where
  abbrev IsAmong : WorkerState → WorkerState → Type 0
  IsAmong w v = own_part mine w ≡ after before v

  as_among : (w v : WorkerState) → IsAmong w v → w ≡ among_others mine v.seat w.live before v.tally
  as_among w v e = λ i. record { seat = (e i).seat; live = w.live; tally = (e i).tally }

  as_own : (w v : WorkerState) → IsAmong w v → by_itself mine v.seat w.live before v.tally ≡ v
  as_own w v e = λ i. record { seat = v.seat; live = (e i).live; tally = v.tally }

  step_among : (what : TraceOp) (w v : WorkerState) → T (rises w.live) → IsAmong w v → list_all mine (named_by w.live what) ≡ true → IsAmong (done entries what w) (done entries what v)
  step_among what w v r e all =
      ap (λ (x : WorkerState). own_part mine (done entries what x)) (as_among w v e)
      ∙ step_same mine v.seat w.live before v.tally r entries what all
      ∙ ap (λ (x : WorkerState). after before (done entries what x)) (as_own w v e)

  names_among : (what : TraceOp) (w v : WorkerState) → T (rises w.live) → IsAmong w v → list_all mine (named_by v.live what) ≡ list_all mine (named_by w.live what)
  names_among what w v r e = ap (λ (live : Live). list_all mine (named_by live what)) (sym (ap (λ (x : WorkerState). x.live) e)) ∙ names_same mine v.seat w.live before v.tally r what

  next_rises : (what : TraceOp) (w : WorkerState) → T (rises w.live) → list_all mine (named_by w.live what) ≡ true → T (rises (done entries what w).live)
  next_rises what w r all = still_rises w.live (done entries what w).live (touches mine entries what w all) r

  all_among : (ops : List TraceOp) (w v : WorkerState) → T (rises w.live) → IsAmong w v → names_only mine entries ops w ≡ true → IsAmong (all_done entries ops w) (all_done entries ops v)
  all_among [] w v r e all = e
  all_among (what ∷ ops) w v r e all =
      let here = and_parts (list_all mine (named_by w.live what)) (names_only mine entries ops (done entries what w)) all in
      all_among ops (done entries what w) (done entries what v) (next_rises what w r here.0) (step_among what w v r e here.0) here.1

  and_agree : (a b x y : Bool) → a ≡ b → (b ≡ true → x ≡ y) → (a && x) ≡ (b && y)
  and_agree true true x y e h = h refl
  and_agree true false x y e h = let no : ⊥ = cc in absurd no
  and_agree false true x y e h = let no : ⊥ = cc in absurd no
  and_agree false false x y e h = refl

  all_names : (ops : List TraceOp) (w v : WorkerState) → T (rises w.live) → IsAmong w v → names_only mine entries ops v ≡ names_only mine entries ops w
  all_names [] w v r e = refl
  all_names (what ∷ ops) w v r e =
      and_agree (list_all mine (named_by v.live what)) (list_all mine (named_by w.live what)) _ _ (names_among what w v r e)
      (λ all. all_names ops (done entries what w) (done entries what v) (next_rises what w r all) (step_among what w v r e all))

begins_among : (mine : ℕ → Bool) (w : WorkerState) → own_part mine w ≡ after w.tally (alone mine w)
begins_among mine w = whole refl refl (sym (append-nil w.tally.moves)) (sym (add-zero w.tally.failed)) (sym (add-zero w.tally.uncounted))

-- what it does among others' keys is what it does alone, with the other keys beside it
pub is_alone : (mine : ℕ → Bool) (entries : List Entry) (ops : List TraceOp) (w : WorkerState) → rises w.live ≡ true → names_only mine entries ops w ≡ true
    → all_done entries ops w ≡ rejoined mine w (all_done entries ops (alone mine w))
is_alone mine entries ops w r all =
    let left = all_done entries ops w in
    let worker = all_done entries ops (alone mine w) in
    let same : own_part mine left ≡ after w.tally worker = all_among mine entries w.tally ops w (alone mine w) (holds r) (begins_among mine w) all in
    let touched = all_touch mine entries ops w all in
    let live : left.live ≡ put_all (kept (others mine) w.live) worker.live =
    sym (rejoins mine left.live (still_rises w.live left.live touched (holds r)))
    ∙ (λ i. put_all (others_stay w.live left.live touched (holds r) i) ((same i).live)) in
    λ i. record { seat = (same i).seat; live = live i; tally = (same i).tally }

pub own_names : (mine : ℕ → Bool) (entries : List Entry) (ops : List TraceOp) (w : WorkerState) → rises w.live ≡ true → names_only mine entries ops (alone mine w) ≡ names_only mine entries ops w
own_names mine entries ops w r = all_names mine entries w.tally ops w (alone mine w) (holds r) (begins_among mine w)

pub own_keys : (mine : ℕ → Bool) (entries : List Entry) (ops : List TraceOp) (w : WorkerState) → rises w.live ≡ true → names_only mine entries ops w ≡ true
    → kept mine (all_done entries ops w).live ≡ (all_done entries ops (alone mine w)).live
own_keys mine entries ops w r all = ap (λ (x : WorkerState). x.live) (all_among mine entries w.tally ops w (alone mine w) (holds r) (begins_among mine w) all)

pub other_keys : (mine : ℕ → Bool) (entries : List Entry) (ops : List TraceOp) (w : WorkerState) → rises w.live ≡ true → names_only mine entries ops w ≡ true
    → kept (others mine) (all_done entries ops w).live ≡ kept (others mine) w.live
other_keys mine entries ops w r all = others_stay w.live (all_done entries ops w).live (all_touch mine entries ops w all) (holds r)
