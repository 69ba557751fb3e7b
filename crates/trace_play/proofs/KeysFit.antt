-- A line that passed fits the live list where that agrees with the table, and leaves them so.
use Rattle.std.proofs.Common.{◌≡◌, ◌≢◌, ℕ, zero, suc, ◌+◌, ◌-◌, ◌*◌, ◌/◌, ◌^◌, ◌<◌, ◌≤◌, Bool, true, false, cond, not, eqb, List, [], ◌∷◌, length, map, Option, Some, None, unwrap_or, IsSome, refl, sym, ap, ◌∙◌, subst, subst₂, arith, eqb-true, eq-eqb, ne_eqb}
use Rattle.std.specs.Prelude.{fold, ◌&&◌, ◌||◌, if◌then◌else◌}
use Rattle.std.specs.List.{list_all, range_with_len}
use Rattle.std.specs.Option.{option_map}
use Rattle.std.proofs.lemmas.Bool.{cond-false, eqb-false}
use Rattle.std.proofs.lemmas.Grind.{get_or-set_at}
use Rattle.std.proofs.lemmas.List.{length-set, get_or-set_other}
use Rattle.std.proofs.lemmas.Nat.{pow-add, pow_pos}
use Rattle.std.proofs.Math.Nat.{div-eq_of_eq-mul_left, mul_assoc, mul_comm}
use Rattle.tag_model.specs.declared.state.Tag.{Tag}
use Rattle.tag_model.specs.declared.state.Held.{Held}
use Rattle.tag_model.specs.declared.state.Held.TheVariants as held
use Rattle.tag_model.specs.RefMoves.{part_of, trimmed, reference_to}
use Rattle.module_area.specs.declared.entry.Entry.{Entry}
use Rattle.page_ext.specs.Blocks.{page_bytes}
use Rattle.slab_cache.specs.Slabs.{NodeState}
use Rattle.slab_cache.specs.Storage.{Pages, Object, Uncounted}
use Rattle.slab_cache.specs.Giving.{Given, given_block, given_object, start_in, block_from}
use Rattle.trace.specs.declared.traces.TraceOp.{TraceOp}
use Rattle.trace.specs.declared.traces.TraceOp.TheVariants as op
use Rattle.round_check.specs.declared.keys.Block.{Block}
use Rattle.round_check.specs.declared.keys.Bound.{Bound}
use Rattle.round_check.specs.declared.keys.Bound.TheVariants as kept
use Rattle.round_check.specs.declared.keys.KeyState.{KeyState}
use Rattle.round_check.specs.declared.keys.Turn.{Turn}
use Rattle.round_check.specs.declared.walk.Walk.{Walk}
use Rattle.round_check.specs.Keys.{key_at, new_count, bind, bind_all, whole_block}
use Rattle.round_check.specs.Rounds.{is_one_of, new_keys, keys_of}
use Rattle.round_check.specs.Tables.{unbound}
use Rattle.round_check.specs.Walk.{turn_of}
use Rattle.split_swap.specs.Parts.{parts_in}
use Rattle.trace_play.specs.Live.{Content, Nothing, Stored, Live, content_at, put, without, held_of, order_of, with_held, is_nothing, part_in, part_key, split_live, swap_live, trim_live}
use Rattle.trace_play.specs.Worker.{WorkerState, current_tag, allocated, freed, with_moves, with_live, with_node, done}
use Rattle.trace_play.specs.Alone.{named_by}
use Rattle.trace_play.specs.Fits.{entry_at, IsUnbound, HasBytes, IsBlockOf, SplitFits, SwapFits, TrimFits, OpFits, IsBlockAs, IsBoundAs, AgreeAt}
use Rattle.trace_play.proofs.Entries.{find_put, find_kept}
use Rattle.trace_play.proofs.AloneLemmas.{one_given_live, freed_live}
use Rattle.trace_play.proofs.Told.{TakeTold, GiveTold, SplitTold, SwapTold, TrimTold, OpTold}

or_right : (a b : Bool) → b ≡ true → (a || b) ≡ true
or_right true b e = refl
or_right false b e = e

-- ---- numbers

-- 2 ^ whole is so many times 2 ^ order
pub in_parts : (whole order : ℕ) → order < whole → 2 ^ whole ≡ 2 ^ (whole - order) * 2 ^ order
in_parts whole order below = ap (λ n. 2 ^ n) (let e : whole ≡ (whole - order) + order = omega arith in e) ∙ pow-add 2 (whole - order) order

parts_are : (whole order : ℕ) → order < whole → 2 ^ whole / 2 ^ order ≡ 2 ^ (whole - order)
parts_are whole order below = div-eq_of_eq-mul_left (pow_pos order) (in_parts whole order below)

pub bytes_in_parts : (whole order : ℕ) → order < whole → 4096 * 2 ^ whole ≡ 4096 * 2 ^ order * 2 ^ (whole - order)
bytes_in_parts whole order below = ap (λ n. 4096 * n) (in_parts whole order below) ∙ shuffle 4096 (2 ^ (whole - order)) (2 ^ order)
  where
    shuffle : (a b c : ℕ) → a * (b * c) ≡ a * c * b
    shuffle a b c = ap (λ n. a * n) (mul_comm b c) ∙ sym (mul_assoc a c b)

bytes_of_part : (whole order : ℕ) → order < whole → 4096 * 2 ^ whole / 2 ^ (whole - order) ≡ 4096 * 2 ^ order
bytes_of_part whole order below = div-eq_of_eq-mul_left (pow_pos (whole - order)) (bytes_in_parts whole order below)

-- ---- what a found entry is

block_found : (bound : Option Bound) (entry : Option Content) (block : Block) → bound ≡ Some (kept.Block block) → IsBoundAs bound entry → (content : Content) × (entry ≡ Some content) × IsBlockAs block content
block_found bound entry block e h = by entry (subst (λ b. IsBoundAs b entry) e h)
  where
    by : (entry : Option Content) → IsBoundAs (Some (kept.Block block)) entry → (content : Content) × (entry ≡ Some content) × IsBlockAs block content
    by None h = absurd h
    by (Some content) h = (content, refl, h)

free_found : (bound : Option Bound) (entry : Option Content) → bound ≡ None → IsBoundAs bound entry → entry ≡ None
free_found bound entry e h = by entry (subst (λ b. IsBoundAs b entry) e h)
  where
    by : (entry : Option Content) → IsBoundAs None entry → entry ≡ None
    by None h = refl
    by (Some content) h = absurd h

some_found : (bound : Option Bound) (entry : Option Content) (what : Bound) → bound ≡ Some what → IsBoundAs bound entry → IsSome entry
some_found bound entry what e h = by what entry (subst (λ b. IsBoundAs b entry) e h)
  where
    by : (what : Bound) (entry : Option Content) → IsBoundAs (Some what) entry → IsSome entry
    by kept.Object None h = absurd h
    by (kept.Block block) None h = absurd h
    by what (Some content) h = refl

pub content_is : (key : ℕ) (live : Live) (content : Content) → entry_at key live ≡ Some content → content_at key live ≡ content
content_is key live content e = ap (λ o. unwrap_or o (Nothing 0)) e

pub order_is : (order bytes : ℕ) (content : Content) → IsBlockOf order bytes content → order_of content ≡ order
order_is order bytes (Nothing whole) h = h
order_is order bytes (Stored (Pages block)) h = h.0
order_is order bytes (Stored (Object home frame place vector holds)) h = absurd h
order_is order bytes (Stored (Uncounted home frame place)) h = absurd h

-- an untrimmed block of the table
as_block : (block : Block) (order : ℕ) (content : Content) → block.order ≡ order → block.pages ≡ 2 ^ order → IsBlockOf order (4096 * 2 ^ order) content → IsBlockAs block content
as_block block order content o p h = record {
  is = subst₂ (λ a b. IsBlockOf a (4096 * b) content) (sym o) (sym p) h;
  whole = λ _. p ∙ ap (λ n. 2 ^ n) (sym o);
}

-- and the other way round
of_block : (block : Block) (order : ℕ) (content : Content) → block.order ≡ order → block.pages ≡ 2 ^ order → IsBlockAs block content → IsBlockOf order (4096 * 2 ^ order) content
of_block block order content o p h = subst₂ (λ a b. IsBlockOf a (4096 * b) content) o p h.is

-- ---- one key bound and put

bound_at : (keys : List KeyState) (turn : Turn) (what : Option Bound) (key q : ℕ) → key < length keys → (key_at (bind keys turn what key) q).bound ≡ cond (eqb q key) what (key_at keys q).bound
bound_at keys turn what key q below = by (eqb q key) refl
  where
    by : (b : Bool) → eqb q key ≡ b → (key_at (bind keys turn what key) q).bound ≡ cond b what (key_at keys q).bound
    by true e = ap (λ (s : KeyState). s.bound) (get_or-set_at keys key q (record { bound = what; round = turn.round; cpu = turn.cpu }) unbound (eqb-true q key e) below)
    by false e = ap (λ (s : KeyState). s.bound) (get_or-set_other keys key q (record { bound = what; round = turn.round; cpu = turn.cpu }) unbound (eqb-false q key e))

module _ (mine : ℕ → Bool) where
  pub agree_put : (keys : List KeyState) (turn : Turn) (what : Option Bound) (key : ℕ) (content : Content) (live : Live) → AgreeAt mine keys live → key < length keys → IsBoundAs what (Some content)
      → AgreeAt mine (bind keys turn what key) (put key content live)
  agree_put keys turn what key content live a below is q own =
      subst₂ IsBoundAs (sym (bound_at keys turn what key q below)) (sym (find_put q key content live)) (by (eqb q key))
    where
      by : (b : Bool) → IsBoundAs (cond b what (key_at keys q).bound) (cond b (Some content) (entry_at q live))
      by true = is
      by false = a q own

  agree_drop : (keys : List KeyState) (turn : Turn) (key : ℕ) (live : Live) → AgreeAt mine keys live → key < length keys → AgreeAt mine (bind keys turn None key) (without key live)
  agree_drop keys turn key live a below q own =
      subst₂ IsBoundAs (sym (bound_at keys turn None key q below)) (sym (find_kept (λ other. not (eqb other key)) q live)) (by (eqb q key))
    where
      by : (b : Bool) → IsBoundAs (cond b None (key_at keys q).bound) (cond (not b) (entry_at q live) None)
      by true = tt
      by false = a q own

  agree_parts : (turn : Turn) (what : Option Bound) (key first : ℕ) (part : ℕ → Content) → ((place : ℕ) → IsBoundAs what (Some (part place)))
      → (places : List ℕ) (keys : List KeyState) (live : Live) → length keys ≡ 65536 → AgreeAt mine keys live → ((k : ℕ) → is_one_of (map (part_key key first) places) k ≡ true → k < 65536)
      → AgreeAt mine (bind_all keys turn what (map (part_key key first) places)) (fold (λ parts place. put (part_key key first place) (part place) parts) live places)
  agree_parts turn what key first part are [] keys live long a within = a
  agree_parts turn what key first part are (place ∷ places) keys live long a within =
      let here = part_key key first place in
      let below : here < 65536 = within here (ap (λ b. b || is_one_of (map (part_key key first) places) here) (eq-eqb here here refl)) in
      agree_parts turn what key first part are places (bind keys turn what here) (put here (part place) live)
      (length-set keys here _ ∙ long)
      (agree_put keys turn what here (part place) live a (omega (arith, long)) (are place))
      (λ k h. within k (or_right (eqb here k) (is_one_of (map (part_key key first) places) k) h))

  -- two keys that have whole blocks of one order
  agree_two : (keys : List KeyState) (turn : Turn) (one two order : ℕ) (block other : Block) (x y : Content) (live now : Live) → length keys ≡ 65536 → AgreeAt mine keys live → one < 65536 → two < 65536
      → block.order ≡ order → block.pages ≡ 2 ^ order → other.order ≡ order → other.pages ≡ 2 ^ order → IsBlockOf order (4096 * 2 ^ order) x → IsBlockOf order (4096 * 2 ^ order) y
      → ((q : ℕ) → entry_at q now ≡ cond (eqb q one) (Some x) (cond (eqb q two) (Some y) (entry_at q live)))
      → AgreeAt mine (bind (bind keys turn (Some (kept.Block block)) one) turn (Some (kept.Block other)) two) now
  agree_two keys turn one two order block other x y live now long a low low' o p o' p' is is' found q own =
      let first = bind keys turn (Some (kept.Block block)) one in
      subst₂ IsBoundAs
      (sym (bound_at first turn (Some (kept.Block other)) two q (omega (arith, long, length-set keys one (record { bound = Some (kept.Block block); round = turn.round; cpu = turn.cpu }))) ∙ ap (cond (eqb q two) (Some (kept.Block other))) (bound_at keys turn (Some (kept.Block block)) one q (omega (arith, long)))))
      (sym (found q))
      (by (eqb q one) (eqb q two))
    where
      by : (b c : Bool) → IsBoundAs (cond c (Some (kept.Block other)) (cond b (Some (kept.Block block)) (key_at keys q).bound)) (cond b (Some x) (cond c (Some y) (entry_at q live)))
      by true true = as_block other order x o' p' is
      by true false = as_block block order x o p is
      by false true = as_block other order y o' p' is'
      by false false = a q own

-- ---- a split's keys

later_keys : (key first count from new : ℕ) → 0 < from → new ≡ first + from - 1 → map (part_key key first) (range_with_len from count) ≡ range_with_len new count
later_keys key first zero from new above is = refl
later_keys key first (suc count) from new above is =
    let here : part_key key first from ≡ new = cond-false (eqb from 0) key (first + from - 1) (ne_eqb from 0 (λ e. omega arith)) ∙ sym is in
    λ i. here i ∷ later_keys key first count (from + 1) (new + 1) (omega arith) (omega arith) i

part_keys_are : (key first count : ℕ) → map (part_key key first) (range_with_len 0 (suc count)) ≡ key ∷ range_with_len first count
part_keys_are key first count = ap (λ names. key ∷ names) (later_keys key first count 1 first (omega arith) (omega arith))

in_the_range : (count first k : ℕ) → first ≤ k → k < first + count → is_one_of (range_with_len first count) k ≡ true
in_the_range zero first k low high = absurd (omega arith)
in_the_range (suc count) first k low high = by (eqb first k) refl (λ apart. in_the_range count (first + 1) k (omega arith) (omega arith))
  where
    by : (b : Bool) → eqb first k ≡ b → (first ≢ k → is_one_of (range_with_len (first + 1) count) k ≡ true) → (b || is_one_of (range_with_len (first + 1) count) k) ≡ true
    by true e later = refl
    by false e later = later (eqb-false first k e)

all_mine : (mine : ℕ → Bool) (names : List ℕ) → ((k : ℕ) → is_one_of names k ≡ true → mine k ≡ true) → list_all mine names ≡ true
all_mine mine [] h = refl
all_mine mine (name ∷ names) h =
    and_true (mine name) (list_all mine names) (h name (ap (λ b. b || is_one_of names name) (eq-eqb name name refl)))
    (all_mine mine names (λ k e. h k (or_right (eqb name k) (is_one_of names k) e)))
  where
    and_true : (a b : Bool) → a ≡ true → b ≡ true → (a && b) ≡ true
    and_true true b p q = q
    and_true false b p q = let no : ⊥ = cc in absurd no

-- ---- what becomes of a block

part_has : (parts bytes less : ℕ) (holds : Held) → bytes / parts ≡ less → HasBytes bytes holds → HasBytes less (part_of parts holds)
part_has parts bytes less held.None e h = absurd h
part_has parts bytes less held.Empty e h = tt
part_has parts bytes less (held.Counted tag size) e h = ap (λ n. n / parts) h ∙ e

part_is : (whole order place : ℕ) (content : Content) → order < whole → IsBlockOf whole (4096 * 2 ^ whole) content → IsBlockOf order (4096 * 2 ^ order) (part_in order place content)
part_is whole order place (Nothing of) below h = refl
part_is whole order place (Stored (Pages block)) below h =
    (refl, part_has (parts_in order block.order) (4096 * 2 ^ whole) (4096 * 2 ^ order) block.holds (ap (λ n. 4096 * 2 ^ whole / 2 ^ (n - order)) h.0 ∙ bytes_of_part whole order below) h.1)
part_is whole order place (Stored (Object home frame part vector holds)) below h = absurd h
part_is whole order place (Stored (Uncounted home frame part)) below h = absurd h

trimmed_has : (left bytes : ℕ) (holds : Held) → HasBytes left holds → HasBytes (left - bytes) (trimmed bytes holds)
trimmed_has left bytes held.None h = absurd h
trimmed_has left bytes held.Empty h = tt
trimmed_has left bytes (held.Counted tag size) h = ap (λ n. n - bytes) h

trimmed_is : (order left bytes : ℕ) (content : Content) → IsBlockOf order left content → IsBlockOf order (left - bytes) (with_held (trimmed bytes) content)
trimmed_is order left bytes (Nothing of) h = h
trimmed_is order left bytes (Stored (Pages block)) h = (h.0, trimmed_has left bytes block.holds h.1)
trimmed_is order left bytes (Stored (Object home frame part vector holds)) h = absurd h
trimmed_is order left bytes (Stored (Uncounted home frame part)) h = absurd h

-- a block that takes over another's reference
taken_over : (order bytes : ℕ) (a b : Content) → is_nothing b ≡ false → IsBlockOf order bytes a → IsBlockOf order bytes b → IsBlockOf order bytes (with_held (λ _. held_of b) a)
taken_over order bytes (Nothing of) b some h g = h
taken_over order bytes (Stored (Pages block)) (Nothing of) some h g = let no : ⊥ = cc in absurd no
taken_over order bytes (Stored (Pages block)) (Stored (Pages other)) some h g = (h.0, g.1)
taken_over order bytes (Stored (Pages block)) (Stored (Object home frame part vector holds)) some h g = absurd g
taken_over order bytes (Stored (Pages block)) (Stored (Uncounted home frame part)) some h g = absurd g
taken_over order bytes (Stored (Object home frame part vector holds)) b some h g = absurd h
taken_over order bytes (Stored (Uncounted home frame part)) b some h g = absurd h

new_has : (tag : Option Tag) (bytes : ℕ) → HasBytes bytes (reference_to tag bytes)
new_has None bytes = tt
new_has (Some tag) bytes = refl

-- what an allocation leaves under its key
given_content : ℕ → Option Given → Content
given_content order None = Nothing order
given_content order (Some given) = Stored given.storage

new_is : (tag : Option Tag) (order : ℕ) (node : NodeState) (start : Option ℕ) → IsBlockOf order (4096 * 2 ^ order) (given_content order (option_map (block_from tag order node) start))
unfolding given_content
new_is tag order node None = refl
new_is tag order node (Some start) = (refl, new_has tag (page_bytes order))

allocated_live : (key order : ℕ) (given : Option Given) (w : WorkerState) → (allocated key order given w).live ≡ put key (given_content order given) w.live
unfolding given_content
allocated_live key order None w = refl
allocated_live key order (Some given) w = one_given_live given.storage (with_moves given.moves (with_node given.node (with_live (put key (Stored given.storage) w.live) w)))

pub any_is : (content : Content) → IsBoundAs (Some kept.Object) (Some content)
any_is content = tt

-- ---- an op

pub record StepFits (mine : ℕ → Bool) (what : TraceOp) (live now : Live) (keys : List KeyState) : Type 0 where
  pub fits : OpFits what live
  pub names : list_all mine (named_by live what) ≡ true
  pub after : AgreeAt mine keys now

abbrev NamesMine : (ℕ → Bool) → List ℕ → Type 0
NamesMine mine names = (k : ℕ) → is_one_of names k ≡ true → mine k ≡ true

one_mine : (mine : ℕ → Bool) (key : ℕ) → NamesMine mine (key ∷ []) → mine key ≡ true
one_mine mine key h = h key (ap (λ b. b || false) (eq-eqb key key refl))

one_within : (key : ℕ) → ((k : ℕ) → is_one_of (key ∷ []) k ≡ true → k < 65536) → key < 65536
one_within key h = h key (ap (λ b. b || false) (eq-eqb key key refl))

module _ (mine : ℕ → Bool) (cpu : ℕ) (here next : Walk) (w : WorkerState) (long : length here.keys ≡ 65536) (a : AgreeAt mine here.keys w.live) where
  take_fits : (key order : ℕ) (what : Bound) (given : Option Given) → key < 65536 → NamesMine mine (key ∷ []) → TakeTold here.keys (turn_of here cpu) key what next.keys → IsBoundAs (Some what) (Some (given_content order given))
      → IsUnbound key w.live × (list_all mine (key ∷ []) ≡ true) × AgreeAt mine next.keys (allocated key order given w).live
  take_fits key order what given below names told is =
      let own = one_mine mine key names in (
        free_found (key_at here.keys key).bound (entry_at key w.live) told.free (a key own),
        all_mine mine (key ∷ []) names,
        subst₂ (AgreeAt mine) (sym told.keys_are) (sym (allocated_live key order given w))
            (agree_put mine here.keys (turn_of here cpu) (Some what) key (given_content order given) w.live a (omega (arith, long)) is),
      )

  give_fits : (key : ℕ) → key < 65536 → NamesMine mine (key ∷ []) → GiveTold here.keys (turn_of here cpu) key next.keys
      → IsSome (entry_at key w.live) × (list_all mine (key ∷ []) ≡ true) × AgreeAt mine next.keys (freed key w).live
  give_fits key below names told =
      let own = one_mine mine key names in (
        some_found (key_at here.keys key).bound (entry_at key w.live) told.what told.found (a key own),
        all_mine mine (key ∷ []) names,
        subst₂ (AgreeAt mine) (sym told.keys_are) (sym (freed_live (content_at key w.live) _)) (agree_drop mine here.keys (turn_of here cpu) key w.live a (omega (arith, long))),
      )

  split_fits : (key order first : ℕ) → NamesMine mine (key ∷ new_keys (key_at here.keys key).bound order first) → ((k : ℕ) → is_one_of (key ∷ new_keys (key_at here.keys key).bound order first) k ≡ true → k < 65536)
      → SplitTold here.keys (turn_of here cpu) key order first next.keys
      → SplitFits key order first w.live × (list_all mine (named_by w.live (op.Split key order first)) ≡ true) × AgreeAt mine next.keys (split_live key order first w.live)
  split_fits key order first names within told =
      let block = told.block in
      let count = new_count block order in
      let names_are : NamesMine mine (key ∷ range_with_len first count) = subst (λ b. NamesMine mine (key ∷ new_keys b order first)) told.found names in
      let within_are : (k : ℕ) → is_one_of (key ∷ range_with_len first count) k ≡ true → k < 65536 = subst (λ b. (k : ℕ) → is_one_of (key ∷ new_keys b order first) k ≡ true → k < 65536) told.found within in
      let own : mine key ≡ true = names_are key (ap (λ b. b || is_one_of (range_with_len first count) key) (eq-eqb key key refl)) in
      let found = block_found (key_at here.keys key).bound (entry_at key w.live) block told.found (a key own) in
      let content = found.0 in
      let pages : block.pages ≡ 2 ^ block.order = found.2.whole told.whole in
      let is : IsBlockOf block.order (4096 * 2 ^ block.order) content = of_block block block.order content refl pages found.2 in
      let content_there : content_at key w.live ≡ content = content_is key w.live content found.1 in
      let parts : parts_in order (order_of (content_at key w.live)) ≡ parts_in order block.order = ap (λ c. parts_in order (order_of c)) content_there ∙ ap (parts_in order) (order_is block.order (4096 * 2 ^ block.order) content is) in
      let count_is : count ≡ parts_in order block.order - 1 = ap (λ n. n / 2 ^ order - 1) pages ∙ ap (λ n. n - 1) (parts_are block.order order told.below) in
      let some_parts : 0 < parts_in order block.order = pow_pos (block.order - order) in
      let sucs : parts_in order (order_of (content_at key w.live)) ≡ suc count = parts ∙ (let e : parts_in order block.order ≡ suc count = omega (arith, count_is, some_parts) in e) in
      let places_are : map (part_key key first) (range_with_len 0 (suc count)) ≡ key ∷ range_with_len first count = part_keys_are key first count in
      let last : first + count - 1 ≤ 65535 = told.last in
      let moved : AgreeAt mine (bind_all here.keys (turn_of here cpu) (Some (whole_block order)) (map (part_key key first) (range_with_len 0 (suc count)))) (fold (λ parts place. put (part_key key first place) (part_in order place content) parts) w.live (range_with_len 0 (suc count))) =
      agree_parts mine (turn_of here cpu) (Some (whole_block order)) key first (λ place. part_in order place content)
      (λ place. as_block (record { order = order; pages = 2 ^ order; trimmed = false }) order (part_in order place content) refl refl (part_is block.order order place content told.below is))
      (range_with_len 0 (suc count)) here.keys w.live long a
      (subst (λ ks. (k : ℕ) → is_one_of ks k ≡ true → k < 65536) (sym places_are) within_are) in (
        record {
          whole = block.order;
          above = told.below;
          block = record { content = content; found = found.1; is = is };
          keys = omega (arith, count_is, some_parts, last);
          unbound = λ k low high.
              let there : is_one_of (range_with_len first count) k ≡ true = in_the_range count first k low (omega (arith, count_is)) in
              free_found (key_at here.keys k).bound (entry_at k w.live) (told.free k there) (a k (names_are k (or_right (eqb key k) (is_one_of (range_with_len first count) k) there)));
        },
        subst (λ n. list_all mine (key ∷ range_with_len first n) ≡ true) (count_is ∙ sym (ap (λ n. n - 1) parts)) (all_mine mine (key ∷ range_with_len first count) names_are),
        subst₂ (AgreeAt mine) (ap (bind_all here.keys (turn_of here cpu) (Some (whole_block order))) places_are ∙ sym told.keys_are)
            (ap (λ c. fold (λ parts place. put (part_key key first place) (part_in order place c) parts) w.live (range_with_len 0 (suc count))) (sym content_there)
            ∙ ap (λ n. fold (λ parts place. put (part_key key first place) (part_in order place (content_at key w.live)) parts) w.live (range_with_len 0 n)) (sym sucs))
            moved,
      )

  swap_fits : (one two : ℕ) → one < 65536 → two < 65536 → NamesMine mine (one ∷ two ∷ []) → SwapTold here.keys (turn_of here cpu) one two next.keys
      → SwapFits one two w.live × (list_all mine (one ∷ two ∷ []) ≡ true) × AgreeAt mine next.keys (swap_live one two w.live)
  swap_fits one two below below' names told =
      let block = told.block in
      let other = told.other in
      let order = block.order in
      let own : mine one ≡ true = names one (ap (λ b. b || (eqb two one || false)) (eq-eqb one one refl)) in
      let own' : mine two ≡ true = names two (or_right (eqb one two) (eqb two two || false) (ap (λ b. b || false) (eq-eqb two two refl))) in
      let found = block_found (key_at here.keys one).bound (entry_at one w.live) block told.found (a one own) in
      let also = block_found (key_at here.keys two).bound (entry_at two w.live) other told.also (a two own') in
      let x = found.0 in
      let y = also.0 in
      let p : block.pages ≡ 2 ^ order = found.2.whole told.whole in
      let p' : other.pages ≡ 2 ^ order = also.2.whole told.also_whole ∙ ap (λ n. 2 ^ n) (sym told.orders) in
      let is : IsBlockOf order (4096 * 2 ^ order) x = of_block block order x refl p found.2 in
      let is' : IsBlockOf order (4096 * 2 ^ order) y = of_block other order y (sym told.orders) p' also.2 in
      let there : content_at one w.live ≡ x = content_is one w.live x found.1 in
      let there' : content_at two w.live ≡ y = content_is two w.live y also.1 in
      let binds = λ (s t : Content) (now : Live) (i : IsBlockOf order (4096 * 2 ^ order) s) (j : IsBlockOf order (4096 * 2 ^ order) t) (f : (q : ℕ) → entry_at q now ≡ cond (eqb q one) (Some s) (cond (eqb q two) (Some t) (entry_at q w.live))).
      subst (λ (ks : List KeyState). AgreeAt mine ks now) (sym told.keys_are)
      (agree_two mine here.keys (turn_of here cpu) one two order block other s t w.live now long a below below' refl p (sym told.orders) p' i j f) in
      let stays : (q : ℕ) → entry_at q w.live ≡ cond (eqb q one) (Some x) (cond (eqb q two) (Some y) (entry_at q w.live)) = λ q. still_there q one two x y found.1 also.1 in
      let s = with_held (λ _. held_of y) x in
      let t = with_held (λ _. held_of x) y in (
        record {
          order = order;
          first = record { content = x; found = found.1; is = is };
          second = record { content = y; found = also.1; is = is' };
        },
        all_mine mine (one ∷ two ∷ []) names,
        subst₂ (λ c d. AgreeAt mine next.keys (if is_nothing c then w.live else (if is_nothing d then w.live else put one (with_held (λ _. held_of d) c) (put two (with_held (λ _. held_of c) d) w.live)))) (sym there) (sym there')
            (either_way (is_nothing x) (is_nothing y) (put one s (put two t w.live)) (binds x y w.live is is' stays)
            (λ some some'. binds s t (put one s (put two t w.live)) (taken_over order (4096 * 2 ^ order) x y some' is is') (taken_over order (4096 * 2 ^ order) y x some is' is)
            (λ q. find_put q one s (put two t w.live) ∙ ap (cond (eqb q one) (Some s)) (find_put q two t w.live)))),
      )
    where
      still_there : (q one two : ℕ) (x y : Content) → entry_at one w.live ≡ Some x → entry_at two w.live ≡ Some y → entry_at q w.live ≡ cond (eqb q one) (Some x) (cond (eqb q two) (Some y) (entry_at q w.live))
      still_there q one two x y e f = by (eqb q one) (eqb q two) (λ h. ap (λ k. entry_at k w.live) (eqb-true q one h) ∙ e) (λ h. ap (λ k. entry_at k w.live) (eqb-true q two h) ∙ f)
        where
          by : (b c : Bool) → (b ≡ true → entry_at q w.live ≡ Some x) → (c ≡ true → entry_at q w.live ≡ Some y) → entry_at q w.live ≡ cond b (Some x) (cond c (Some y) (entry_at q w.live))
          by true c g h = g refl
          by false true g h = h refl
          by false false g h = refl

      either_way : (b c : Bool) (now : Live) → AgreeAt mine next.keys w.live → (b ≡ false → c ≡ false → AgreeAt mine next.keys now) → AgreeAt mine next.keys (if b then w.live else (if c then w.live else now))
      either_way true c now h g = h
      either_way false true now h g = h
      either_way false false now h g = g refl refl

  trim_fits : (key pages : ℕ) → key < 65536 → NamesMine mine (key ∷ []) → TrimTold here.keys (turn_of here cpu) key pages next.keys
      → TrimFits key (pages * 4096) w.live × (list_all mine (key ∷ []) ≡ true) × AgreeAt mine next.keys (trim_live key (pages * 4096) w.live)
  trim_fits key pages below names told =
      let block = told.block in
      let own = one_mine mine key names in
      let found = block_found (key_at here.keys key).bound (entry_at key w.live) block told.found (a key own) in
      let content = found.0 in
      let few : pages < block.pages = told.below in
      let left : 4096 * block.pages - pages * 4096 ≡ 4096 * (block.pages - pages) = omega arith in
      let is : IsBlockOf block.order (4096 * (block.pages - pages)) (with_held (trimmed (pages * 4096)) content) =
      subst (λ n. IsBlockOf block.order n (with_held (trimmed (pages * 4096)) content)) left (trimmed_is block.order (4096 * block.pages) (pages * 4096) content found.2.is) in (
        record {
          order = block.order;
          left = 4096 * block.pages;
          block = record { content = content; found = found.1; is = found.2.is };
          more = omega arith;
        },
        all_mine mine (key ∷ []) names,
        subst₂ (AgreeAt mine) (sym told.keys_are) (ap (λ c. put key (with_held (trimmed (pages * 4096)) c) w.live) (sym (content_is key w.live content found.1)))
            (agree_put mine here.keys (turn_of here cpu) (Some (kept.Block (record block { pages = block.pages - pages; trimmed = true }))) key (with_held (trimmed (pages * 4096)) content) w.live a (omega (arith, long))
            (record { is = is; whole = λ e. let no : ⊥ = cc in absurd no })),
      )

  pub step_fits : (entries : List Entry) (what : TraceOp) → OpTold cpu what here next → ((k : ℕ) → is_one_of (keys_of here.keys what) k ≡ true → k < 65536) → NamesMine mine (keys_of here.keys what)
      → StepFits mine what w.live (done entries what w).live next.keys
  step_fits entries (op.Page key order) told within names =
      let f = take_fits key order (whole_block order) (given_block (current_tag w) order w.seat.node) (one_within key within) names told
      (as_block (record { order = order; pages = 2 ^ order; trimmed = false }) order _ refl refl (new_is (current_tag w) order w.seat.node (start_in order w.seat.node))) in
      record { fits = f.0; names = f.1; after = f.2 }
  step_fits entries (op.Kmalloc key size) told within names =
      let f = take_fits key 0 kept.Object (given_object (current_tag w) size w.seat.node) (one_within key within) names told tt in
      record { fits = f.0; names = f.1; after = f.2 }
  step_fits entries (op.Free key) told within names =
      let f = give_fits key (one_within key within) names told in
      record { fits = f.0; names = f.1; after = f.2 }
  step_fits entries (op.Split key order first) told within names =
      let f = split_fits key order first names within told in
      record { fits = f.0; names = f.1; after = f.2 }
  step_fits entries (op.Swap one two) told within names =
      let f = swap_fits one two (within one (ap (λ b. b || (eqb two one || false)) (eq-eqb one one refl))) (within two (or_right (eqb one two) (eqb two two || false) (ap (λ b. b || false) (eq-eqb two two refl)))) names told in
      record { fits = f.0; names = f.1; after = f.2 }
  step_fits entries (op.Trim key pages) told within names =
      let f = trim_fits key pages (one_within key within) names told in
      record { fits = f.0; names = f.1; after = f.2 }
  step_fits entries (op.Hook section index) told within names = record { fits = tt; names = refl; after = subst (λ (ks : List KeyState). AgreeAt mine ks w.live) (sym told) a }
  step_fits entries op.Unhook told within names = record { fits = tt; names = refl; after = subst (λ (ks : List KeyState). AgreeAt mine ks w.live) (sym told) a }
  step_fits entries (op.Enter section) told within names = record { fits = tt; names = refl; after = subst (λ (ks : List KeyState). AgreeAt mine ks w.live) (sym told) a }
  step_fits entries (op.Leave section) told within names = record { fits = tt; names = refl; after = subst (λ (ks : List KeyState). AgreeAt mine ks w.live) (sym told) a }
  step_fits entries (op.Unload section) told within names = record { fits = tt; names = refl; after = subst (λ (ks : List KeyState). AgreeAt mine ks w.live) (sym told) a }
