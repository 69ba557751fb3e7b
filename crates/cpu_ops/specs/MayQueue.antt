-- What may be queued on a CPU.
use Rattle.std.specs.Prelude.{◌≡◌, ◌≢◌, ℕ, ◌+◌, ◌-◌, ◌<◌, ◌≤◌, false, List, length}
use Rattle.tag_model.specs.declared.limits.TheConstants.{SIZE_END}
use Rattle.tag_section.specs.Section.{Section, tags_in}
use Rattle.cpu_ops.specs.declared.op.CpuOp.{CpuOp}
use Rattle.cpu_ops.specs.declared.op.CpuOp.TheVariants.{Open, Close, Split, Swap, Trim, Enter, Leave}
use Rattle.cpu_ops.specs.declared.op.TheConstants.{KEY_END, MAX_PARTS}
use Rattle.cpu_ops.specs.Machine.{is_new_key}

pub record IsOpen (sections : List Section) (key section index size : ℕ) : Type 0 where
  pub some_key : 0 < key
  pub key_below : key < KEY_END
  pub has_section : section < length sections
  pub in_section : index < tags_in sections section
  pub some_bytes : 0 < size
  pub size_below : size < SIZE_END

-- keys are from 1 to 65,535
pub record IsKey (key : ℕ) : Type 0 where
  pub some_key : 0 < key
  pub key_below : key < KEY_END

-- a split's last new key is one, and none of them is the key that is split
pub record IsSplit (key parts first : ℕ) : Type 0 where
  pub some_key : 0 < key
  pub key_below : key < KEY_END
  pub two_parts : 2 ≤ parts
  pub few_parts : parts ≤ MAX_PARTS
  pub some_first : 0 < first
  pub last_below : first + parts - 2 < KEY_END
  pub apart : is_new_key key parts first ≡ false

-- a swap is of two keys
pub record IsSwap (one two : ℕ) : Type 0 where
  pub first : IsKey one
  pub second : IsKey two
  pub apart : one ≢ two

pub record IsTrim (key bytes : ℕ) : Type 0 where
  pub some_key : 0 < key
  pub key_below : key < KEY_END
  pub some_bytes : 0 < bytes
  pub bytes_below : bytes < SIZE_END

-- the section is a module's
pub record IsModule (sections : List Section) (section : ℕ) : Type 0 where
  pub behind_kernel : 0 < section
  pub has_section : section < length sections

-- an op of a CPU
abbrev pub IsOp : List Section → CpuOp → Type 0
IsOp sections (Open key section index size) = IsOpen sections key section index size
IsOp sections (Close key) = IsKey key
IsOp sections (Split key parts first) = IsSplit key parts first
IsOp sections (Swap one two) = IsSwap one two
IsOp sections (Trim key bytes) = IsTrim key bytes
IsOp sections (Enter section) = IsModule sections section
IsOp sections (Leave section) = IsModule sections section
