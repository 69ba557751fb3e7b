-- What the steps of a sweep make of the list's share of the word state.
use Rattle.std.specs.Prelude.{ℕ, ◌<◌, ◌==◌, ◌&&◌, IsTrue, List}
use Rattle.std.specs.List.{list_any}
use Rattle.tag_model.specs.declared.shape.Shape.{Shape}
use Rattle.tag_model.specs.declared.state.CpuPart.{CpuPart}
use Rattle.tag_model.specs.declared.state.ListPart.{ListPart}
use Rattle.tag_model.specs.declared.state.Reader.{Reader}
use Rattle.tag_model.specs.declared.state.Record.{Record}
use Rattle.tag_model.specs.Laws.{is_listed}
use Rattle.tag_model.specs.StepRules.{Scans}
use Rattle.tag_model.specs.Sweeping.{reads_left}
use Rattle.tag_model.specs.WordState.{in_range}
use Rattle.module_list.specs.Listing.{Listing, list_part, listing_of}

-- a change of what is listed
abbrev pub with_listing : (Listing → Listing) → ListPart → ListPart
with_listing change l = list_part l.reads l.away (change (listing_of l))

-- the sweep has read the next word, of a module on its list and of a tag in its range, and has fewer to read
pub record ScansOne (k : Shape) (old new : ListPart) : Type 0 where
  pub left : List ℕ
  pub reader : Reader
  pub cpu : CpuPart
  pub row : Scans k left reader cpu old new
  pub listed : IsTrue (is_listed left reader.id)
  pub within : IsTrue (list_any (λ (r : Record). (r.id == reader.id) && in_range r.start r.length reader.tag) old.records)
  pub falls : reads_left k new.records new.sweep < reads_left k old.records old.sweep

-- the sweep has read some words, one after another
pub data Reads (k : Shape) (old : ListPart) : ListPart → Type 0 where
  no_read : Reads k old old
  then_read : {mid new : ListPart} → Reads k old mid → ScansOne k mid new → Reads k old new
