use Rattle.std.proofs.Common.{refl}
use Rattle.module_area.specs.Entries.{entered}
use Rattle.module_area.proofs.BookLemmas.{IsBook-written, written_is}
use Rattle.module_area.proofs.book.Book.enter.Goals as goal

pub invariant_of-self : goal.invariant_of-self
invariant_of-self c = (
  IsBook-written _ _ c.self.view_is c.self.invariant.0 c.place_of-place.result c.index_mut.result.now (entered c.index_mut.result.now)
      c.place_of-place.ensures.within c.index_mut.ensures.value (record { same_id = refl; same_section = refl; same_start = refl; same_length = refl; was_loaded = λ h. h }),
  c.self.invariant.1,
)

pub returns-clause-after : goal.returns-clause-after
returns-clause-after c =
    written_is _ _ c.self.view_is c.self.invariant.0 c.args.id c.place_of-place.result c.index_mut.result.now entered
    c.place_of-place.ensures.within c.place_of-place.ensures.there c.index_mut.ensures.value

pub returns-clause-formed : goal.returns-clause-formed
returns-clause-formed c = (invariant_of-self c).0
