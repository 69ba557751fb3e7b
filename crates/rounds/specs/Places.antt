-- A desk at a place between two items of a checked trace.
use Rattle.std.specs.Prelude.{ℕ, ◌≡◌, ◌++◌, ◌∷◌, None, Ok, Option, List}
use Rattle.tag_rule.specs.Shown.{Board}
use Rattle.round_check.specs.Walk.{rounds_of}
use Rattle.trace.specs.Formed.{IsFormedTrace}
use Rattle.input_form.specs.declared.code.Code.{Code}
use Rattle.trace.specs.declared.traces.Item.{Item}
use Rattle.trace.specs.declared.traces.Item.TheVariants as item
use Rattle.trace.specs.declared.traces.Trace.{Trace}
use Rattle.trace_play.specs.Machine.{Machine}
use Rattle.trace_play.specs.Play.{load_refusal, loaded, played_so_far, section_len}
use Rattle.rounds.specs.Turns.{StandsAt}
use Rattle.rounds.specs.declared.desk.Desk.{Desk}

-- the items before it and those behind it, in a run of a checked trace on a table
pub record Place : Type 0 where
  pub board : Board
  pub trace : Trace
  pub top : Option ℕ
  pub front : List Item
  pub back : List Item
  pub formed : IsFormedTrace trace
  pub passes : rounds_of trace ≡ Ok tt
  pub stands : trace.body ≡ front ++ back

-- the machine there
abbrev pub machine_at : Place → Machine
machine_at p = (played_so_far p.trace p.top p.front).played.machine

-- the desk is as that machine
abbrev pub IsThere : Place → Desk → Type 0
IsThere p d = StandsAt p.board p.trace (machine_at p) d

-- the desk is at some place
pub record IsSomewhere (d : Desk) : Type 0 where
  pub place : Place
  pub there : IsThere place d

-- the next item loads the section, and nothing before it was refused
pub record IsLoad (section : ℕ) (p : Place) : Type 0 where
  pub line : ℕ
  pub rest : List Item
  pub next : p.back ≡ item.Load line section ∷ rest
  pub none : (played_so_far p.trace p.top p.front).refused ≡ None

-- why the meaning refuses it, if it does
abbrev pub refusal_here : (section : ℕ) (p : Place) → IsLoad section p → Option (ℕ × Code)
refusal_here section p i = load_refusal i.line (section_len p.trace section) (machine_at p)

-- the machine that it leaves
abbrev pub loaded_here : ℕ → Place → Machine
loaded_here section p = loaded section (section_len p.trace section) (machine_at p)

-- the desk is at a place with such an item
pub record LoadsNext (section : ℕ) (d : Desk) : Type 0 where
  pub place : Place
  pub there : IsThere place d
  pub load : IsLoad section place
