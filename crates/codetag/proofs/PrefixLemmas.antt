-- Texts that begin with another.
use Rattle.std.proofs.Common.{◌≡◌, ℕ, List, ◌++◌}
use Rattle.std.proofs.Math.Seq.{take-append_seam}
use Rattle.codetag.specs.Prefix.{IsPrefix}

-- what was appended to begins the result
pub prefix_append : (front more whole : List ℕ) → whole ≡ front ++ more → IsPrefix front whole
prefix_append front more whole joined = rw joined (take-append_seam front more)
