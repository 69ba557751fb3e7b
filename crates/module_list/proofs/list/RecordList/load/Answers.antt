use Rattle.std.proofs.Common.{◌≡◌, ◌<◌, ◌++◌, ◌∷◌, [], false, length, nat_lt, sym, subst, arith, IsTrue}
use Rattle.std.specs.List.{list_all}
use Rattle.tag_model.specs.declared.state.Record.{Record}
use Rattle.module_list.specs.Listing.{Listing, IsListing, record_limit}
use Rattle.module_list.specs.Stages.{sweep_of}
use Rattle.module_list.proofs.Keeps.{keeps_loaded}
use Rattle.module_list.proofs.Methods.{listing}
use Rattle.module_list.proofs.list.RecordList.load.Goals as goal

pub invariant_of-self : goal.invariant_of-self
invariant_of-self c =
    let s = c.self.inside in
    let l = listing s.records.items (sweep_of s.stage s.left.items) s.stops.items in
    let fresh : Record = record { id = c.args.id; section = c.args.section; start = c.args.start; length = c.args.size; dead = false; users = 0 } in
    let grown : c.push.new.self.items ≡ s.records.items ++ fresh ∷ [] = grind arith in
    let room = subst (λ (x : Listing). length x.records < record_limit) (sym c.self.view_is) c.requires.room in
    let above = subst (λ (x : Listing). IsTrue (list_all (λ (r : Record). nat_lt r.id c.args.id) x.records)) (sym c.self.view_is) c.requires.above in (
      subst (λ rs. IsListing (listing rs l.sweep l.stops)) (sym grown) (keeps_loaded l c.args.id c.args.section c.args.start c.args.size c.self.invariant.0 room c.requires.above_zero above c.requires.end),
      omega (arith, c.push.ensures.capacity, c.self.invariant.1),
      c.self.invariant.2,
      c.self.invariant.3,
    )
