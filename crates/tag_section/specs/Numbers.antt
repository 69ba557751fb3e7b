-- The map from the sections' names to their numbers.
use Rattle.std.specs.Prelude.{ℕ, ◌≡◌, List, Option, Vec}
use Rattle.std.specs.declared.alloc.Global.{Global}
use Rattle.std.specs.Ordering.{nat_cmp}
use Rattle.std.specs.Cmp.Lexicographic.{slice_cmp}
use Rattle.std.specs.BTreeMap.{BTreeMap, get_by}
use Rattle.tag_section.specs.Section.{Section, number_of}

-- what the map has at a name
abbrev pub number_at : BTreeMap (Vec ℕ Global) ℕ → List ℕ → Option ℕ
number_at numbers name = get_by (λ key. slice_cmp nat_cmp name key.items) numbers

-- the map has the number of each section at its name, and nothing else
abbrev pub AreNumbers : BTreeMap (Vec ℕ Global) ℕ → List Section → Type 0
AreNumbers numbers sections = (name : List ℕ) → number_at numbers name ≡ number_of sections name
