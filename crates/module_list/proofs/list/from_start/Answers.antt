use Rattle.std.proofs.Common.{ℕ, sym, ap, ◌∙◌}
use Rattle.tag_model.specs.declared.state.Reader.{Reader}
use Rattle.module_list.proofs.At.{none_there, range_at}
use Rattle.module_list.proofs.list.from_start.Goals as goal

pub returns-in-Some : goal.returns-in-Some
returns-in-Some c =
    let from : ℕ → Reader = λ tag. record { pass = c.args.pass; id = c.args.id; tag = tag; cpu = 0; sum = 0 } in
    ap from (sym (range_at c.args.records.now c.args.id c.in-Some.record c.requires (sym c.record_of.ensures ∙ c.in-Some.is)).start)

pub returns-in-None : goal.returns-in-None
returns-in-None c =
    let from : ℕ → Reader = λ tag. record { pass = c.args.pass; id = c.args.id; tag = tag; cpu = 0; sum = 0 } in
    ap from (sym (none_there (λ r. r.start) c.args.id c.args.records.now (sym c.record_of.ensures ∙ c.in-None.is)))
