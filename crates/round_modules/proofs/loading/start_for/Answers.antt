use Rattle.std.proofs.Common.{ap, ◌∙◌}
use Rattle.module_area.specs.Area.{Area, least_start}
use Rattle.round_modules.proofs.loading.start_for.Goals as goal

pub returns : goal.returns
returns c = c.least_start.ensures.value ∙ ap (λ (a : Area). least_start a c.args.size) c.book.ensures.value
