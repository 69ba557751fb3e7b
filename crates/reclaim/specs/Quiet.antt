-- Under which dead modules nothing is counted, by the words of all CPUs.
use Rattle.std.specs.Prelude.{◌≡◌, ℕ, ◌==◌, ◌&&◌, not, Bool, IsTrue, List, sum_by, slice_index_or}
use Rattle.std.specs.List.{list_all, range_with_len}
use Rattle.tag_model.specs.declared.shape.Shape.{Shape}
use Rattle.tag_model.specs.declared.state.Kind.{Kind}
use Rattle.tag_model.specs.declared.state.Kind.TheVariants.{Bytes, Calls}
use Rattle.tag_model.specs.declared.state.ListPart.{ListPart}
use Rattle.tag_model.specs.Laws.{sweep_fits}
use Rattle.tag_model.specs.Wrap.{wrap}
use Rattle.tag_rule.specs.Shown.{CpuShown}
use Rattle.percpu_words.specs.CpuWords.{word_in}
use Rattle.module_area.specs.declared.entry.Entry.{Entry}
use Rattle.module_area.specs.Entries.{is_dead}
use Rattle.reclaim.specs.Steps.{ScansOne}

-- the words of a kind for a tag, added over the CPUs
abbrev pub total : Kind → ℕ → List CpuShown → ℕ
total kind t cpus = wrap (sum_by (word_in kind t) cpus)

-- the bytes and the calls of the tag add up to 0
abbrev pub is_quiet_tag : List CpuShown → ℕ → Bool
is_quiet_tag cpus t = (total Bytes t cpus == 0) && (total Calls t cpus == 0)

-- so do those of each tag of the entry
abbrev pub is_quiet : List CpuShown → Entry → Bool
is_quiet cpus e = list_all (is_quiet_tag cpus) (range_with_len e.start e.length)

-- the entry is that of a loaded module, or of a dead one with a tag whose words don't add up to 0
abbrev pub is_unquiet : List CpuShown → Entry → Bool
is_unquiet cpus e = not (is_dead e.state && is_quiet cpus e)

-- ---- reads of words that are lent

-- the sweep has read the next word, which is that of the CPU of this number
pub record ScansOwn (k : Shape) (cpus : List CpuShown) (old new : ListPart) : Type 0 where
  pub one : ScansOne k old new
  pub fits : IsTrue (sweep_fits k old.sweep old.records)
  pub own : (d : CpuShown) → one.cpu ≡ (slice_index_or cpus one.reader.cpu d).part

pub data OwnReads (k : Shape) (cpus : List CpuShown) (old : ListPart) : ListPart → Type 0 where
  no_own : OwnReads k cpus old old
  then_own : {mid new : ListPart} → OwnReads k cpus old mid → ScansOwn k cpus mid new → OwnReads k cpus old new
