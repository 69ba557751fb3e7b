use Rattle.std.proofs.Common.{◌≡◌, List, OnOk, ap, subst, sym, ◌∙◌}
use Rattle.round_worker.specs.declared.keys.Kept.{Kept}
use Rattle.round_worker.specs.Parting.{kept_parts, with_parts}
use Rattle.round_worker.proofs.KeptLemmas.{on_ok}
use Rattle.round_worker.proofs.Splits.{same_parts}
use Rattle.round_worker.proofs.splitting.split_kept.Goals as goal

pub returns-in-Block-clause-put : goal.returns-in-Block-clause-put
returns-in-Block-clause-put c =
    let order = c.args.to.order in
    subst (λ (k : Kept). OnOk c.split_block.result (c.split_block.new.keys ≡ with_parts c.args.to.key c.args.to.first (kept_parts order k) 0 c.args.keys.now)) (sym c.in-Block.is)
    (on_ok c.split_block.result
    (λ put. put ∙ ap (λ (kepts : List Kept). with_parts c.args.to.key c.args.to.first kepts 0 c.args.keys.now) (same_parts order c.in-Block.block))
    c.split_block.ensures.put)
