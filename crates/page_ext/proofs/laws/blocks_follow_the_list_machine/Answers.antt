use Rattle.std.proofs.Common.{ℕ, ◌≡◌, Option, Some, None}
use Rattle.tag_model.specs.declared.state.Tag.{Tag}
use Rattle.tag_model.specs.declared.state.Held.TheVariants as held
use Rattle.tag_model.specs.ListMachine.{Live, done, held_at}
use Rattle.tag_model.specs.RefMoves.{reference_to}
use Rattle.tag_model.proofs.LiveLists.{held_here}
use Rattle.page_ext.specs.Paging.{alloc_op}
use Rattle.page_ext.proofs.laws.blocks_follow_the_list_machine.Goals as goal

allocated : (tag : Option Tag) (size place : ℕ) (live : Live) → held_at place (done (alloc_op tag size place) live) ≡ reference_to tag size
allocated None size place live = held_here place held.Empty live
allocated (Some tag) size place live = held_here place (held.Counted tag size) live

pub returns-clause-allocated : goal.returns-clause-allocated
returns-clause-allocated c = allocated

pub returns-clause-freed : goal.returns-clause-freed
returns-clause-freed c = λ place live. held_here place held.None live
