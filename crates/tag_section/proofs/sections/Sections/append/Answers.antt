use Rattle.std.proofs.Common.{◌≡◌, length, sym, subst, arith}
use Rattle.tag_section.specs.Section.{with_section, MayBegin}
use Rattle.tag_section.proofs.SectionLemmas.{appended}
use Rattle.tag_section.proofs.sections.Sections.append.Goals as goal

pub invariant_of-self-2 : goal.invariant_of-self-2
invariant_of-self-2 c =
    let sections = c.self.inside.sections.items in
    let grown : c.push.new.self.items ≡ with_section sections c.args.name.now = grind arith in
    let number : c.len-number.result ≡ length sections = omega (arith, c.self.inside.sections.ok.0) in
    appended sections c.push.new.self.items c.args.name.now c.self.inside.numbers c.insert.new.self c.in_ok-key.key _
    c.self.invariant.0 c.self.invariant.1 (subst (λ s. MayBegin s c.args.name.now) (sym c.self.view_is) c.requires)
    grown c.in_ok-key.ensures.items number c.in_ok-insert.ensures.updates
