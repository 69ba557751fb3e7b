-- Which keys are reserved, kept beside them.
use Rattle.std.specs.Prelude.{◌≡◌, ℕ, ◌<◌, ◌+◌, ◌==◌, ◌&&◌, nat_le, nat_lt, Bool, true, false, List, length, slice_index_or, if◌then◌else◌}
use Rattle.cpu_ops.specs.declared.op.CpuOp.{CpuOp}
use Rattle.cpu_ops.specs.declared.op.TheConstants.{KEY_END}
use Rattle.tag_model.specs.declared.state.Held.{Held}
use Rattle.cpu_ops.specs.Machine.{Waiting, is_reserved, names_key, step_count}

-- whether the key is reserved
abbrev pub flag_at : List Bool → ℕ → Bool
flag_at flags key = slice_index_or flags key false

-- each key has a place, and a flag which says whether an op under way names it
pub record AreReserved (flags : List Bool) (places : List Held) (waiting : List Waiting) : Type 0 where
  pub has_places : length places ≡ KEY_END
  pub has_flags : length flags ≡ KEY_END
  pub exact : (key : ℕ) → key < KEY_END → flag_at flags key ≡ is_reserved key waiting

-- the keys that the op names have this flag, and the others keep theirs
pub record Flagged (op : CpuOp) (flag : Bool) (old new : List Bool) : Type 0 where
  pub same : length new ≡ length old
  pub flags : (key : ℕ) → key < length old → flag_at new key ≡ (if names_key key op then flag else flag_at old key)

-- the keys from `first` up to, and without, `end` have this flag, and the others keep theirs
pub record FlaggedFrom (first end : ℕ) (flag : Bool) (old new : List Bool) : Type 0 where
  pub same : length new ≡ length old
  pub flags : (key : ℕ) → key < length old → flag_at new key ≡ (if nat_le first key && nat_lt key end then flag else flag_at old key)

-- the op goes on after its first step, or is over after its last one
abbrev pub Noted : CpuOp → Bool → Bool → List Bool → List Bool → Type 0
Noted op true false old new = Flagged op true old new
Noted op false true old new = Flagged op false old new
Noted op first last old new = new ≡ old

-- what a step of the op changes: its first reserves its keys, and its last frees them
abbrev pub Notes : CpuOp → ℕ → List Bool → List Bool → Type 0
Notes op done old new = Noted op (done == 0) (done + 1 == step_count op) old new
