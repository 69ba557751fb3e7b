use Rattle.std.proofs.Common.{◌+◌, nat_le, leb-true, arith, sym, ◌∙◌}
use Rattle.tag_model.specs.declared.state.Record.{Record}
use Rattle.module_list.proofs.At.{holds_at, none_there, range_at}
use Rattle.module_list.proofs.list.end_of.Goals as goal

pub overflow_add-result : goal.overflow_add-result
overflow_add-result c =
    let r = c.in-Some.record in
    let found = sym c.record_of.ensures ∙ c.in-Some.is in
    let small = leb-true (r.start + r.length) 4294967295 (holds_at (λ (x : Record). nat_le (x.start + x.length) 4294967295) c.args.records.now c.args.id r c.requires.rises found c.requires.ends) in
    omega arith

pub returns-in-Some : goal.returns-in-Some
returns-in-Some c = sym (range_at c.args.records.now c.args.id c.in-Some.record c.requires.rises (sym c.record_of.ensures ∙ c.in-Some.is)).end

pub returns-in-None : goal.returns-in-None
returns-in-None c = sym (none_there (λ r. r.start + r.length) c.args.id c.args.records.now (sym c.record_of.ensures ∙ c.in-None.is))
