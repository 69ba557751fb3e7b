-- What a line that passes does to the keys that it names, and that it leaves the others.
use Rattle.std.proofs.Common.{◌≡◌, ◌≢◌, ℕ, zero, suc, ◌+◌, ◌-◌, ◌<◌, Bool, true, false, not, ◌&&◌, ◌||◌, eqb, leb, ltb, List, [], ◌∷◌, length, set, Option, Some, None, Ok, IfOk, refl, sym, ap, ◌∙◌, subst, arith}
use Rattle.std.specs.Bool.{⊤}
use Rattle.std.specs.List.{range_with_len}
use Rattle.std.specs.Option.{ok_or}
use Rattle.std.proofs.lemmas.Bool.{cond_both, eqb-true, eqb-false, leb-true}
use Rattle.std.proofs.lemmas.Grind.{get_or-set_at}
use Rattle.std.proofs.lemmas.List.{length-set, get_or-set_other}
use Rattle.input_form.specs.declared.code.Code.{Code}
use Rattle.input_form.specs.declared.code.Code.TheVariants as code
use Rattle.input_form.proofs.Judged.{bound, given, passed, skipped, checked, checks, weaker}
use Rattle.round_check.specs.declared.keys.Bound.{Bound}
use Rattle.round_check.specs.declared.keys.Bound.TheVariants as kept
use Rattle.round_check.specs.declared.keys.KeyState.{KeyState}
use Rattle.round_check.specs.declared.keys.Turn.{Turn}
use Rattle.round_check.specs.Keys.{key_at, own_key, own_keys, free_key, free_keys, bound_key, block_of, new_count, bind, bind_all, take_key, give_key, split_key, part_keys, swap_keys, trim_key}
use Rattle.round_check.specs.Rounds.{new_keys, is_one_of}
use Rattle.round_check.specs.Tables.{unbound}

pub by_bool : {P : Type 0} (b : Bool) → (b ≡ true → P) → (b ≡ false → P) → P
by_bool {P} b so otherwise = cond_both b true true (λ _. P) so otherwise

pub no_truth : {P : Type 0} → false ≡ true → P
no_truth e = let no : ⊥ = cc in absurd no

or_false : (a b : Bool) → (a || b) ≡ false → (a ≡ false) × (b ≡ false)
or_false true b e = let no : ⊥ = cc in absurd no
or_false false b e = (refl, e)

pub or_left : (a b : Bool) → (a || b) ≡ true → b ≡ false → a ≡ true
or_left true b e none = refl
or_left false b e none = let no : ⊥ = cc in absurd no

-- ---- what is bound

-- the line of the turn has bound or freed the keys, and no other
pub record Binds (turn : Turn) (names : List ℕ) (keys new : List KeyState) : Type 0 where
  pub long : length new ≡ length keys
  pub stamped : (k : ℕ) → is_one_of names k ≡ true → k < length keys → ((key_at new k).round ≡ turn.round) × ((key_at new k).cpu ≡ turn.cpu)
  pub others : (k : ℕ) → is_one_of names k ≡ false → key_at new k ≡ key_at keys k

pub binds_none : (turn : Turn) (keys : List KeyState) → Binds turn [] keys keys
binds_none turn keys = record { long = refl; stamped = λ k h _. no_truth h; others = λ k _. refl }

pub binds_more : (turn : Turn) (what : Option Bound) (key : ℕ) (names : List ℕ) (keys new : List KeyState) → Binds turn names (bind keys turn what key) new → Binds turn (key ∷ names) keys new
binds_more turn what key names keys new after =
    let entry : KeyState = record { bound = what; round = turn.round; cpu = turn.cpu } in
    let same : length (set keys key entry) ≡ length keys = length-set keys key entry in
    record {
      long = after.long ∙ same;
      stamped = λ k h below.
          by_bool (is_one_of names k)
          (λ later. after.stamped k later (omega arith))
          (λ none.
          let here : key ≡ k = eqb-true key k (or_left (eqb key k) (is_one_of names k) h none) in
          let is : key_at new k ≡ entry = after.others k none ∙ get_or-set_at keys key k entry unbound (sym here) (omega arith) in
          (ap (λ (s : KeyState). s.round) is, ap (λ (s : KeyState). s.cpu) is));
      others = λ k h.
          let parts = or_false (eqb key k) (is_one_of names k) h in
          let apart : k ≢ key = λ e. eqb-false key k parts.0 (sym e) in
          after.others k parts.1 ∙ get_or-set_other keys key k entry unbound apart;
    }

binds_all : (turn : Turn) (what : Option Bound) (names : List ℕ) (keys : List KeyState) → Binds turn names keys (bind_all keys turn what names)
binds_all turn what [] keys = binds_none turn keys
binds_all turn what (key ∷ names) keys = binds_more turn what key names keys _ (binds_all turn what names (bind keys turn what key))

-- ---- what was found

-- no earlier line of the round, of another CPU, names the key
abbrev pub is_own : List KeyState → Turn → ℕ → Bool
is_own keys turn key = not (eqb (key_at keys key).round turn.round && not (eqb (key_at keys key).cpu turn.cpu))

pub own_in : (keys : List KeyState) (turn : Turn) (key : ℕ) → IfOk (own_key keys turn key) (λ _. is_own keys turn key ≡ true)
unfolding own_key
own_in keys turn key = checks (is_own keys turn key) (code.SharedKey key) (λ own. own)

-- the line of the turn may name the keys, which are keys
pub record Owns (turn : Turn) (names : List ℕ) (keys : List KeyState) : Type 0 where
  pub own : (k : ℕ) → is_one_of names k ≡ true → is_own keys turn k ≡ true
  pub within : (k : ℕ) → is_one_of names k ≡ true → k < 65536

owns_none : (turn : Turn) (keys : List KeyState) → Owns turn [] keys
owns_none turn keys = record { own = λ k h. no_truth h; within = λ k h. no_truth h }

owns_more : (turn : Turn) (key : ℕ) (names : List ℕ) (keys : List KeyState) → is_own keys turn key ≡ true → key < 65536 → Owns turn names keys → Owns turn (key ∷ names) keys
owns_more turn key names keys own below others = record {
  own = λ k h. by_bool (is_one_of names k) (others.own k) (λ none. subst (λ n. is_own keys turn n ≡ true) (here k h none) own);
  within = λ k h. by_bool (is_one_of names k) (others.within k) (λ none. subst (λ n. n < 65536) (here k h none) below);
}
  where
    here : (k : ℕ) → (eqb key k || is_one_of names k) ≡ true → is_one_of names k ≡ false → key ≡ k
    here k h none = eqb-true key k (or_left (eqb key k) (is_one_of names k) h none)

own_keys_in : (turn : Turn) (names : List ℕ) (keys : List KeyState) → IfOk (own_keys keys turn names) (λ _. (k : ℕ) → is_one_of names k ≡ true → is_own keys turn k ≡ true)
own_keys_in turn [] keys = λ k h. no_truth h
own_keys_in turn (key ∷ names) keys =
    let all : ⊤ → Type 0 = λ _. (k : ℕ) → is_one_of (key ∷ names) k ≡ true → is_own keys turn k ≡ true in
    passed {Q = is_own keys turn key ≡ true} all (own_key keys turn key) (own_keys keys turn names) (own_in keys turn key)
    (λ own. weaker (λ _. (k : ℕ) → is_one_of names k ≡ true → is_own keys turn k ≡ true) all (own_keys keys turn names)
    (λ x later k h. by_bool (is_one_of names k) (later k)
    (λ none. subst (λ n. is_own keys turn n ≡ true) (eqb-true key k (or_left (eqb key k) (is_one_of names k) h none)) own))
    (own_keys_in turn names keys))

in_range : (count first k : ℕ) → is_one_of (range_with_len first count) k ≡ true → k < first + count
in_range zero first k h = no_truth h
in_range (suc count) first k h =
    by_bool (is_one_of (range_with_len (first + 1) count) k)
    (λ later. let rest = in_range count (first + 1) k later in omega arith)
    (λ none. let here : first ≡ k = eqb-true first k (or_left (eqb first k) (is_one_of (range_with_len (first + 1) count) k) h none) in omega arith)

-- ---- the lines

-- a line that passed, by the keys that it names
pub record Named (turn : Turn) (names : List ℕ) (keys new : List KeyState) : Type 0 where
  pub owns : Owns turn names keys
  pub binds : Binds turn names keys new

pub named_none : (turn : Turn) (keys : List KeyState) → Named turn [] keys keys
named_none turn keys = record { owns = owns_none turn keys; binds = binds_none turn keys }

pub named_one : (turn : Turn) (what : Option Bound) (key : ℕ) (keys : List KeyState) → key < 65536 → is_own keys turn key ≡ true → Named turn (key ∷ []) keys (bind keys turn what key)
named_one turn what key keys below own = record {
  owns = owns_more turn key [] keys own below (owns_none turn keys);
  binds = binds_more turn what key [] keys _ (binds_none turn (bind keys turn what key));
}

pub take_key_in : (keys : List KeyState) (turn : Turn) (key : ℕ) (what : Bound) → key < 65536 → IfOk (take_key keys turn key what) (Named turn (key ∷ []) keys)
unfolding take_key
take_key_in keys turn key what below =
    let after = Named turn (key ∷ []) keys in
    passed {Q = is_own keys turn key ≡ true} after (own_key keys turn key) _ (own_in keys turn key)
    (λ own. skipped after (free_key keys key) _ (named_one turn (Some what) key keys below own))

pub some_in : {A : Type 0} (o : Option A) (c : Code) → IfOk (ok_or o c) (λ x. o ≡ Some x)
some_in None c = tt
some_in (Some x) c = refl

pub bound_in : (keys : List KeyState) (key : ℕ) → IfOk (bound_key keys key) (λ what. (key_at keys key).bound ≡ Some what)
unfolding bound_key
bound_in keys key = some_in (key_at keys key).bound (code.NoKey key)

pub block_in : (key : ℕ) (what : Bound) → IfOk (block_of key what) (λ block. what ≡ kept.Block block)
block_in key kept.Object = tt
block_in key (kept.Block block) = refl

-- a key that is freed was bound
pub give_key_in : (keys : List KeyState) (turn : Turn) (key : ℕ) → key < 65536 → IfOk (give_key keys turn key) (λ new. Named turn (key ∷ []) keys new × ((what : Bound) × ((key_at keys key).bound ≡ Some what)))
unfolding give_key
give_key_in keys turn key below =
    let after : List KeyState → Type 0 = λ new. Named turn (key ∷ []) keys new × ((what : Bound) × ((key_at keys key).bound ≡ Some what)) in
    passed {Q = is_own keys turn key ≡ true} after (own_key keys turn key) _ (own_in keys turn key)
    (λ own. bound (λ what. (key_at keys key).bound ≡ Some what) after (bound_key keys key) (λ _. Ok (bind keys turn None key)) (bound_in keys key)
    (λ what is. (named_one turn None key keys below own, (what, is))))

pub trim_key_in : (keys : List KeyState) (turn : Turn) (key pages : ℕ) → key < 65536 → IfOk (trim_key keys turn key pages) (Named turn (key ∷ []) keys)
unfolding trim_key
trim_key_in keys turn key pages below =
    let after = Named turn (key ∷ []) keys in
    passed {Q = is_own keys turn key ≡ true} after (own_key keys turn key) _ (own_in keys turn key)
    (λ own. given after (bound_key keys key) _
    (λ what. given after (block_of key what) _
    (λ block. checked after (ltb pages block.pages) code.Pages _
    (λ _. named_one turn _ key keys below own))))

pub swap_keys_in : (keys : List KeyState) (turn : Turn) (one two : ℕ) → one < 65536 → two < 65536 → IfOk (swap_keys keys turn one two) (Named turn (one ∷ two ∷ []) keys)
unfolding swap_keys
swap_keys_in keys turn one two below below' =
    let after = Named turn (one ∷ two ∷ []) keys in
    passed {Q = is_own keys turn one ≡ true} after (own_key keys turn one) _ (own_in keys turn one)
    (λ own. passed {Q = is_own keys turn two ≡ true} after (own_key keys turn two) _ (own_in keys turn two)
    (λ own'. given after (bound_key keys one) _
    (λ first. given after (bound_key keys two) _
    (λ second. given after (block_of one first) _
    (λ block. given after (block_of two second) _
    (λ other. checked after (not block.trimmed) (code.Trimmed one) _
    (λ _. checked after (not other.trimmed) (code.Trimmed two) _
    (λ _. checked after (eqb block.order other.order) code.Orders _
    (λ _. record {
      owns = owns_more turn one (two ∷ []) keys own below (owns_more turn two [] keys own' below' (owns_none turn keys));
      binds = binds_more turn (Some first) one (two ∷ []) keys _ (binds_more turn (Some second) two [] (bind keys turn (Some first) one) _ (binds_none turn _));
    })))))))))

part_keys_in : (keys : List KeyState) (turn : Turn) (key order first count : ℕ) → key < 65536 → is_own keys turn key ≡ true → IfOk (part_keys keys turn key order first count) (Named turn (key ∷ range_with_len first count) keys)
unfolding part_keys
part_keys_in keys turn key order first count below own =
    let after = Named turn (key ∷ range_with_len first count) keys in
    checked after (leb (first + count - 1) 65535) code.Keys _
    (λ fits. passed {Q = (k : ℕ) → is_one_of (range_with_len first count) k ≡ true → is_own keys turn k ≡ true} after (own_keys keys turn (range_with_len first count)) _ (own_keys_in turn (range_with_len first count) keys)
    (λ all. skipped after (free_keys keys (range_with_len first count)) _ (record {
      owns = owns_more turn key (range_with_len first count) keys own below (record { own = all; within = λ k h. let last = leb-true (first + count - 1) 65535 fits in let inside = in_range count first k h in omega arith });
      binds = binds_all turn _ (key ∷ range_with_len first count) keys;
    })))

pub split_key_in : (keys : List KeyState) (turn : Turn) (key order first : ℕ) → key < 65536 → IfOk (split_key keys turn key order first) (Named turn (key ∷ new_keys (key_at keys key).bound order first) keys)
unfolding split_key
split_key_in keys turn key order first below =
    let after = Named turn (key ∷ new_keys (key_at keys key).bound order first) keys in
    passed {Q = is_own keys turn key ≡ true} after (own_key keys turn key) _ (own_in keys turn key)
    (λ own. bound (λ what. (key_at keys key).bound ≡ Some what) after (bound_key keys key) _ (bound_in keys key)
    (λ what is. bound (λ block. what ≡ kept.Block block) after (block_of key what) _ (block_in key what)
    (λ block same. checked after (not block.trimmed) (code.Trimmed key) _
    (λ _. checked after (ltb order block.order) code.Orders _
    (λ _. subst (λ found. IfOk (part_keys keys turn key order first (new_count block order)) (Named turn (key ∷ new_keys found order first) keys)) (sym (is ∙ ap Some same))
    (part_keys_in keys turn key order first (new_count block order) below own))))))
