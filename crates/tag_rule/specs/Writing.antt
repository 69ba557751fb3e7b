-- What a store into a cell makes of the parts of a CPU and its cells.
use Rattle.std.specs.Prelude.{Option, List, [], ◌∷◌}
use Rattle.tag_model.specs.declared.state.Hand.{Hand}
use Rattle.tag_model.specs.declared.state.Held.{Held}
use Rattle.tag_model.specs.declared.state.Part.{Part}
use Rattle.tag_model.specs.declared.state.Part.TheVariants.{Cpu, Place, Modules, NextId}
use Rattle.tag_rule.specs.Steps.{with_hand}

-- the CPU at the front has the hand
abbrev pub hands : Option Hand → Part → Part
hands hand (Cpu c) = Cpu (with_hand hand c)
hands hand (Place n h) = Place n h
hands hand (Modules l) = Modules l
hands hand (NextId id) = NextId id

-- the place holds this
abbrev pub holding : Held → Part → Part
holding held (Cpu c) = Cpu c
holding held (Place n h) = Place n held
holding held (Modules l) = Modules l
holding held (NextId id) = NextId id

-- the first part is the CPU, and the second the place that is written
abbrev pub written : Option Hand → Held → List Part → List Part
written hand held [] = []
written hand held (p ∷ []) = p ∷ []
written hand held (p ∷ q ∷ parts) = hands hand p ∷ holding held q ∷ parts
