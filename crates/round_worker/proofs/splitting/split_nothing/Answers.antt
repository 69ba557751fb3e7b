use Rattle.std.proofs.Common.{ℕ, List, replicate, ap, ◌∙◌}
use Rattle.round_worker.specs.declared.keys.Kept.{Kept}
use Rattle.round_worker.specs.declared.keys.Kept.TheVariants.{Nothing}
use Rattle.round_worker.specs.Parting.{with_parts}
use Rattle.round_worker.proofs.KeptLemmas.{on_ok}
use Rattle.round_worker.proofs.Splits.{nothing_parts}
use Rattle.round_worker.proofs.splitting.split_nothing.Goals as goal

pub returns-clause-put : goal.returns-clause-put
returns-clause-put c =
    let order = c.args.to.order in
    on_ok c.put_nothings.result
    (λ put. put ∙ ap (λ (kepts : List Kept). with_parts c.args.to.key c.args.to.first kepts 0 c.args.keys.now) (ap (λ (n : ℕ). replicate n (Nothing order)) c.parts_in.ensures ∙ nothing_parts order c.args.whole))
    c.put_nothings.ensures.put
