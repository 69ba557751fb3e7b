-- What the scripts that the tests play have in hand and in a cell.
use Rattle.std.specs.Prelude.{Bool}
use Rattle.tag_model.specs.declared.shape.Shape.{Shape}
use Rattle.tag_model.specs.declared.state.Hand.{Hand}
use Rattle.tag_model.specs.declared.state.Held.{Held}
use Rattle.tag_model.specs.declared.state.Held.TheVariants as held

abbrev pub small_shape : Shape
small_shape = record { cpus = 1; tags = 4; kernel_tags = 2; frames = 4; vectors = 1 }

-- two frames under the tag 1 of the kernel
abbrev pub counted_two : Held
counted_two = held.Counted (record { number = 1; «module» = 0 }) 8192

abbrev pub in_hand : Bool → Hand
in_hand opening = record { tag = record { number = 1; «module» = 0 }; bytes = 8192; calls = 1; opening = opening }
