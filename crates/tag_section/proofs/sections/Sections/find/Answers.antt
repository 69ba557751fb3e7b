use Rattle.std.proofs.Common.{ap, ◌∙◌}
use Rattle.tag_section.specs.Section.{number_of}
use Rattle.tag_section.proofs.Names.{number_found, number_none_iff}
use Rattle.tag_section.proofs.sections.Sections.find.Goals as goal

pub returns-clause-found : goal.returns-clause-found
returns-clause-found c =
    number_found c.args.self.now c.args.name.now c.copied.result
    (c.copied.ensures ∙ (c.get.ensures.value ∙ (c.self.invariant.1 c.args.name.now ∙ ap (λ s. number_of s c.args.name.now) c.self.view_is)))

pub returns-clause-none : goal.returns-clause-none
returns-clause-none c =
    number_none_iff c.args.self.now c.args.name.now c.copied.result
    (c.copied.ensures ∙ (c.get.ensures.value ∙ (c.self.invariant.1 c.args.name.now ∙ ap (λ s. number_of s c.args.name.now) c.self.view_is)))
