-- A small state that is worked by hand, and what breaks it. Two CPUs, two tags of the kernel, and two modules of two tags each: the first is loaded and CPU 0 runs inside it, the second is dead. CPU 1 is between two steps of a free, and a sweep has read CPU 0's word.
use Rattle.std.specs.Prelude.{true, false, Some, None, List, [], ◌∷◌, ◌++◌}
use Rattle.tag_model.specs.declared.shape.Shape.{Shape}
use Rattle.tag_model.specs.declared.state.Tag.{Tag}
use Rattle.tag_model.specs.declared.state.Hand.{Hand}
use Rattle.tag_model.specs.declared.state.Held.TheVariants as held
use Rattle.tag_model.specs.declared.state.Kind.TheVariants.{Bytes}
use Rattle.tag_model.specs.declared.state.Run.{Run}
use Rattle.tag_model.specs.declared.state.Note.{Note}
use Rattle.tag_model.specs.declared.state.Record.{Record}
use Rattle.tag_model.specs.declared.state.Reader.{Reader}
use Rattle.tag_model.specs.declared.state.Sweep.{Sweep}
use Rattle.tag_model.specs.declared.state.Sweep.TheVariants as sweep
use Rattle.tag_model.specs.declared.state.CpuPart.{CpuPart}
use Rattle.tag_model.specs.declared.state.ListPart.{ListPart}
use Rattle.tag_model.specs.declared.state.Part.{Part}
use Rattle.tag_model.specs.declared.state.Part.TheVariants.{Cpu, Place, Modules, NextId}

abbrev pub small_shape : Shape
small_shape = record { cpus = 2; tags = 6; kernel_tags = 2; frames = 0; vectors = 0 }

abbrev pub kernel_tag : Tag
kernel_tag = record { number = 0; «module» = 0 }

-- the first tag of the dead module
abbrev pub dead_tag : Tag
dead_tag = record { number = 4; «module» = 2 }

abbrev pub first_module : Record
first_module = record { id = 1; section = 1; start = 2; length = 2; dead = false; users = 1 }

abbrev pub second_module : Record
second_module = record { id = 2; section = 2; start = 4; length = 2; dead = true; users = 0 }

abbrev pub run_inside : Run
run_inside = record { id = 1; section = 1; start = 2; length = 2 }

abbrev pub note_of_dead : Note
note_of_dead = record { id = 2; section = 2; start = 4; length = 2; seen_dead = true }

-- a free took the reference in hand and subtracted 16 of 32 bytes
abbrev pub freeing : Hand
freeing = record { tag = dead_tag; bytes = 16; calls = 1; opening = false }

abbrev pub first_cpu : CpuPart
first_cpu = record { number = 0; words = 8 ∷ 1 ∷ 0 ∷ 0 ∷ 0 ∷ 0 ∷ 0 ∷ 0 ∷ 100 ∷ 2 ∷ 0 ∷ 0 ∷ []; hand = None; runs = run_inside ∷ []; notes = note_of_dead ∷ [] }

-- its bytes of the dead tag are 20 less than 2^64
abbrev pub second_cpu : CpuPart
second_cpu = record { number = 1; words = 0 ∷ 0 ∷ 0 ∷ 0 ∷ 0 ∷ 0 ∷ 0 ∷ 0 ∷ 18446744073709551596 ∷ 0 ∷ 0 ∷ 0 ∷ []; hand = Some freeing; runs = []; notes = [] }

abbrev pub small_places : List Part
small_places = Place 0 (held.Counted dead_tag 64) ∷ Place 1 (held.Counted kernel_tag 8) ∷ Place 2 held.Empty ∷ []

-- the sweep reads the bytes of the dead tag, and stands at CPU 1
abbrev pub at_second : Reader
at_second = record { pass = Bytes; id = 2; tag = 4; cpu = 1; sum = 100 }

abbrev pub small_list : ListPart
small_list = record { records = first_module ∷ second_module ∷ []; sweep = sweep.Reading (2 ∷ []) at_second; stops = []; reads = 1; away = [] }

abbrev pub state_of : CpuPart → CpuPart → List Part → ListPart → List Part
state_of c d places l = Cpu c ∷ Cpu d ∷ (places ++ Modules l ∷ NextId 3 ∷ [])

abbrev pub small_state : List Part
small_state = state_of first_cpu second_cpu small_places small_list

-- ---- one thing is other than there

abbrev pub with_note : Note → List Part
with_note note = state_of (record first_cpu { notes = note ∷ [] }) second_cpu small_places small_list

abbrev pub with_hand : Hand → List Part
with_hand hand = state_of first_cpu (record second_cpu { hand = Some hand }) small_places small_list

abbrev pub with_places : List Part → List Part
with_places places = state_of first_cpu second_cpu places small_list

abbrev pub with_list : ListPart → List Part
with_list l = state_of first_cpu second_cpu small_places l

abbrev pub with_sweep : Sweep → List Part
with_sweep s = with_list (record small_list { sweep = s })

abbrev pub with_records : List Record → List Part
with_records records = with_list (record small_list { records = records })
