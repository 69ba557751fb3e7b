-- What the checks of a line ask of its keys, and what the line leaves.
use Rattle.std.specs.Prelude.{ℕ, ◌≡◌, ◌+◌, ◌-◌, ◌/◌, ◌^◌, ◌==◌, true, false, ◌&&◌, not, nat_lt, nat_le, List, [], ◌∷◌, Option, Some, None, is_none, Result, Ok, Err, ⊤, slice_index_or, slice_set}
use Rattle.std.specs.List.{range_with_len}
use Rattle.std.specs.Option.{ok_or}
use Rattle.input_form.specs.declared.code.Code.{Code}
use Rattle.input_form.specs.declared.code.Code.TheVariants as code
use Rattle.input_form.specs.Judging.{◌>>=◌, ◌>>◌, need}
use Rattle.round_check.specs.declared.keys.Block.{Block}
use Rattle.round_check.specs.declared.keys.Bound.{Bound}
use Rattle.round_check.specs.declared.keys.Bound.TheVariants as kept
use Rattle.round_check.specs.declared.keys.KeyState.{KeyState}
use Rattle.round_check.specs.declared.keys.Turn.{Turn}
use Rattle.round_check.specs.Tables.{unbound}

abbrev pub key_at : List KeyState → ℕ → KeyState
key_at keys key = slice_index_or keys key unbound

-- no earlier line of this round, of another CPU, names the key
unfoldable pub own_key : List KeyState → Turn → ℕ → Result ⊤ Code
own_key keys turn key = need (not ((key_at keys key).round == turn.round && not ((key_at keys key).cpu == turn.cpu))) (code.SharedKey key)

unfoldable pub bound_key : List KeyState → ℕ → Result Bound Code
bound_key keys key = ok_or (key_at keys key).bound (code.NoKey key)

unfoldable pub free_key : List KeyState → ℕ → Result ⊤ Code
free_key keys key = need (is_none (key_at keys key).bound) (code.Bound key)

-- the block that a key is bound to
abbrev pub block_of : ℕ → Bound → Result Block Code
block_of key kept.Object = Err (code.Kind key)
block_of key (kept.Block block) = Ok block

-- a block of an order, untrimmed
abbrev pub whole_block : ℕ → Bound
whole_block order = kept.Block (record { order = order; pages = 2 ^ order; trimmed = false })

-- how many new keys a split of a block to an order has
abbrev pub new_count : Block → ℕ → ℕ
new_count block order = block.pages / 2 ^ order - 1

-- the line of the turn names the key, which is then bound so
abbrev pub bind : List KeyState → Turn → Option Bound → ℕ → List KeyState
bind keys turn bound key = slice_set keys key (record { bound = bound; round = turn.round; cpu = turn.cpu })

-- the same of several keys
abbrev pub own_keys : List KeyState → Turn → List ℕ → Result ⊤ Code
own_keys keys turn [] = Ok tt
own_keys keys turn (new ∷ others) = do
  own_key keys turn new
  own_keys keys turn others

abbrev pub free_keys : List KeyState → List ℕ → Result ⊤ Code
free_keys keys [] = Ok tt
free_keys keys (new ∷ others) = do
  free_key keys new
  free_keys keys others

abbrev pub bind_all : List KeyState → Turn → Option Bound → List ℕ → List KeyState
bind_all keys turn bound [] = keys
bind_all keys turn bound (new ∷ others) = bind_all (bind keys turn bound new) turn bound others

-- `page` and `kmalloc`
unfoldable pub take_key : List KeyState → Turn → ℕ → Bound → Result (List KeyState) Code
take_key keys turn key bound = do
  own_key keys turn key
  free_key keys key
  Ok (bind keys turn (Some bound) key)

-- `free`
unfoldable pub give_key : List KeyState → Turn → ℕ → Result (List KeyState) Code
give_key keys turn key = do
  own_key keys turn key
  bound ← bound_key keys key
  Ok (bind keys turn None key)

-- the new keys of a split, once the split block is known
unfoldable pub part_keys : List KeyState → Turn → ℕ → ℕ → ℕ → ℕ → Result (List KeyState) Code
part_keys keys turn key order first count = do
  need (nat_le (first + count - 1) 65535) code.Keys
  own_keys keys turn (range_with_len first count)
  free_keys keys (range_with_len first count)
  Ok (bind_all keys turn (Some (whole_block order)) (key ∷ range_with_len first count))

-- `split`
unfoldable pub split_key : List KeyState → Turn → ℕ → ℕ → ℕ → Result (List KeyState) Code
split_key keys turn key order first = do
  own_key keys turn key
  bound ← bound_key keys key
  block ← block_of key bound
  need (not block.trimmed) (code.Trimmed key)
  need (nat_lt order block.order) code.Orders
  part_keys keys turn key order first (new_count block order)

-- `swap`
unfoldable pub swap_keys : List KeyState → Turn → ℕ → ℕ → Result (List KeyState) Code
swap_keys keys turn one two = do
  own_key keys turn one
  own_key keys turn two
  first ← bound_key keys one
  second ← bound_key keys two
  block ← block_of one first
  other ← block_of two second
  need (not block.trimmed) (code.Trimmed one)
  need (not other.trimmed) (code.Trimmed two)
  need (block.order == other.order) code.Orders
  Ok (bind (bind keys turn (Some first) one) turn (Some second) two)

-- `trim`
unfoldable pub trim_key : List KeyState → Turn → ℕ → ℕ → Result (List KeyState) Code
trim_key keys turn key pages = do
  own_key keys turn key
  bound ← bound_key keys key
  block ← block_of key bound
  need (nat_lt pages block.pages) code.Pages
  Ok (bind keys turn (Some (kept.Block (record block { pages = block.pages - pages; trimmed = true }))) key)

-- What a call left is what judging the line gives.
abbrev pub Settles : {S : Type 0} → Result ⊤ Code → S → Result S Code → Type 0
Settles (Ok done) new judged = judged ≡ Ok new
Settles (Err code) new judged = judged ≡ Err code
