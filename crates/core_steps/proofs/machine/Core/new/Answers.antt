use Rattle.std.proofs.Common.{refl, ap, ◌∙◌}
use Rattle.module_ops.specs.Modules.{fresh_modules}
use Rattle.core_steps.proofs.Fresh.{core_fresh}
use Rattle.core_steps.proofs.Meaning.{core_of_fresh}
use Rattle.core_steps.proofs.machine.Core.new.Goals as goal

pub invariant_of-result : goal.invariant_of-result
invariant_of-result c =
    core_fresh c.args.shape c.args.sections c.in_ok-new.field-0 c.in_ok-no_words.field-0.items c.in_ok-new-2.field-0
    c.requires.shape c.requires.sections c.in_ok-new.ensures c.in_ok-no_words.ensures (c.in_ok-new-2.ensures ∙ ap (fresh_modules c.args.shape) c.count.ensures.value)

pub returns-clause-value : goal.returns-clause-value
returns-clause-value c = rw (c.in_ok-new.ensures, c.in_ok-no_words.ensures, c.in_ok-new-2.ensures, c.count.ensures.value) refl

pub returns-clause-safe : goal.returns-clause-safe
returns-clause-safe c =
    (core_fresh c.args.shape c.args.sections c.in_ok-new.field-0 c.in_ok-no_words.field-0.items c.in_ok-new-2.field-0
    c.requires.shape c.requires.sections c.in_ok-new.ensures c.in_ok-no_words.ensures (c.in_ok-new-2.ensures ∙ ap (fresh_modules c.args.shape) c.count.ensures.value)).safe

pub returns-clause-moved : goal.returns-clause-moved
returns-clause-moved c = rw (c.in_ok-new.ensures, c.in_ok-no_words.ensures, c.in_ok-new-2.ensures, c.count.ensures.value) (core_of_fresh c.args.shape c.args.sections)
