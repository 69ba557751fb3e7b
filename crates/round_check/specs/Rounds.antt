-- A checked trace's rounds, line by line.
use Rattle.std.specs.Prelude.{ℕ, ◌≡◌, ◌==◌, Bool, List, [], ◌∷◌, ◌++◌, Option, Some, Ok}
use Rattle.std.specs.List.{list_any, range_with_len}
use Rattle.trace.specs.declared.traces.Item.{Item}
use Rattle.trace.specs.declared.traces.Item.TheVariants as item
use Rattle.trace.specs.declared.traces.OnOp.{OnOp}
use Rattle.trace.specs.declared.traces.TraceOp.{TraceOp}
use Rattle.trace.specs.declared.traces.TraceOp.TheVariants as op
use Rattle.trace.specs.declared.traces.Trace.{Trace}
use Rattle.round_check.specs.declared.keys.Bound.{Bound}
use Rattle.round_check.specs.declared.keys.Bound.TheVariants as kept
use Rattle.round_check.specs.declared.keys.KeyState.{KeyState}
use Rattle.round_check.specs.declared.walk.Walk.{Walk}
use Rattle.round_check.specs.Keys.{key_at, new_count}
use Rattle.round_check.specs.Walk.{start, begun, walk_ops, walk_items}

-- the new keys of a split to an order, from the first on
abbrev pub new_keys : Option Bound → ℕ → ℕ → List ℕ
new_keys (Some (kept.Block block)) order first = range_with_len first (new_count block order)
new_keys _ order first = []

-- the keys that an op names; a split names its new keys too
abbrev pub keys_of : List KeyState → TraceOp → List ℕ
keys_of keys (op.Page key order) = key ∷ []
keys_of keys (op.Kmalloc key size) = key ∷ []
keys_of keys (op.Free key) = key ∷ []
keys_of keys (op.Split key order first) = key ∷ new_keys (key_at keys key).bound order first
keys_of keys (op.Swap one two) = one ∷ two ∷ []
keys_of keys (op.Trim key pages) = key ∷ []
keys_of keys _ = []

abbrev pub is_one_of : List ℕ → ℕ → Bool
is_one_of keys key = list_any (λ other. other == key) keys

-- whether the op names the key
abbrev pub names_key : List KeyState → TraceOp → ℕ → Bool
names_key keys op key = is_one_of (keys_of keys op) key

-- a round of a trace, and what the lines before it left
pub record IsRound (trace : Trace) (ops : List OnOp) (before : Walk) : Type 0 where
  pub front : List Item
  pub back : List Item
  pub stands : trace.body ≡ front ++ item.Round ops ∷ back
  pub left : Walk
  pub walked : walk_items front start ≡ Ok left
  pub begins : before ≡ begun left

-- a line of a round, and what the lines before it left
pub record IsLine (before : Walk) (ops : List OnOp) (on : OnOp) (here : Walk) : Type 0 where
  pub front : List OnOp
  pub back : List OnOp
  pub stands : ops ≡ front ++ on ∷ back
  pub walked : walk_ops front before ≡ Ok here
