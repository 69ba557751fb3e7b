-- What an event tells is there: a section that is a module's, and one of its tags.
use Rattle.std.specs.Prelude.{◌<◌, List}
use Rattle.tag_section.specs.Section.{Section, tags_in}
use Rattle.module_ops.specs.declared.event.Event.{Event}
use Rattle.module_ops.specs.declared.event.Event.TheVariants.{Stepped, Released, Kept}
use Rattle.cpu_ops.specs.MayQueue.{IsModule}

abbrev pub EventFits : List Section → Event → Type 0
EventFits sections Stepped = Unit {0}
EventFits sections (Released section by) = IsModule sections section
EventFits sections (Kept section index kind sum by) = IsModule sections section × (index < tags_in sections section)
