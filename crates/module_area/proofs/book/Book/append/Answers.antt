use Rattle.std.proofs.Common.{◌≡◌, ◌++◌, ◌∷◌, [], arith}
use Rattle.module_area.specs.declared.entry.State.TheVariants.{Loaded}
use Rattle.module_area.specs.declared.entry.Entry.{Entry}
use Rattle.module_area.proofs.BookLemmas.{IsBook-appended}
use Rattle.module_area.proofs.book.Book.append.Goals as goal

pub invariant_of-self : goal.invariant_of-self
invariant_of-self c =
    let new : Entry = record { id = c.args.id; section = c.args.section; start = c.args.start; length = c.args.size; state = Loaded; users = 0 } in
    let grown : c.push.new.self.items ≡ c.self.inside.entries.items ++ new ∷ [] = grind arith in
    let r = c.requires in (
      IsBook-appended _ _ c.self.view_is c.self.invariant.0 new r.room r.above_zero r.rising r.new_section r.some_tags r.least _ grown,
      omega (arith, c.push.ensures.capacity, c.self.invariant.1),
    )

pub returns-clause-formed : goal.returns-clause-formed
returns-clause-formed c = (invariant_of-self c).0
