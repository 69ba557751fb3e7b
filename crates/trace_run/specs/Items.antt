-- What playing the items of a trace leaves.
use Rattle.std.specs.Prelude.{ℕ, ◌≡◌, ◌∷◌, Bool, None, Ok, List, []}
use Rattle.std.specs.Option.{option_map}
use Rattle.input_form.specs.declared.code.Code.{Code}
use Rattle.tag_rule.specs.Shown.{Board}
use Rattle.round_check.specs.Walk.{rounds_of}
use Rattle.trace.specs.Formed.{IsFormedTrace}
use Rattle.trace.specs.declared.traces.Item.{Item}
use Rattle.trace.specs.declared.traces.Trace.{Trace}
use Rattle.trace_play.specs.Machine.{machine_of}
use Rattle.trace_play.specs.Play as meant
use Rattle.trace_play.specs.Play.{Played, play, played_so_far}
use Rattle.rounds.specs.Places.{IsThere, Place}
use Rattle.rounds.specs.Turns.{StandsAt}
use Rattle.rounds.specs.declared.desk.Desk.{Desk}
use Rattle.trace_run.specs.declared.outcome.Outcome.{Outcome}
use Rattle.trace_run.specs.declared.outcome.Refusal.{Refusal}

abbrev pub line_code : Refusal → ℕ × Code
line_code why = (why.line, why.code)

-- the desk and the refusal are those of the meaning, and so is the text where the old one was what was there before
pub record IsPlayed (b : Board) (trace : Trace) (o : meant.Outcome) (old before new : List ℕ) (after : Outcome) : Type 0 where
  pub stands : StandsAt b trace o.played.machine after.desk
  pub refused : option_map line_code after.refused ≡ o.refused
  pub text_is : old ≡ before → new ≡ o.played.text

-- ---- one item

-- what was played before a place
abbrev pub played_at : Place → Played
played_at p = (played_so_far p.trace p.top p.front).played

-- the item is the next one, and nothing before it was refused
pub record IsNext (what : Item) (p : Place) : Type 0 where
  pub rest : List Item
  pub next : p.back ≡ what ∷ rest
  pub none : (played_so_far p.trace p.top p.front).refused ≡ None

-- what the meaning makes of it
abbrev pub next_played : Item → Place → meant.Outcome
next_played what p = play p.trace p.top (what ∷ []) (played_at p)

-- the desk is at a place with such an item
pub record PlaysNext (what : Item) (d : Desk) : Type 0 where
  pub place : Place
  pub there : IsThere place d
  pub next : IsNext what place

-- ---- all items

-- a run of a checked trace with these items begins with the desk
pub record Begins (items : List Item) (kept : Bool) (d : Desk) : Type 0 where
  pub board : Board
  pub trace : Trace
  pub formed : IsFormedTrace trace
  pub passes : rounds_of trace ≡ Ok tt
  pub items_are : trace.body ≡ items
  pub kept_is : trace.shows_kept ≡ kept
  pub stands : StandsAt board trace (machine_of trace) d
