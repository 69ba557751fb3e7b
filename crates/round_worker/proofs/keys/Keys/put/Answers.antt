use Rattle.std.proofs.Common.{ap, nat_cmp, ◌∙◌}
use Rattle.std.specs.FinMap.Entries.{put}
use Rattle.round_worker.specs.Kept.{KeyList}
use Rattle.round_worker.proofs.KeyLemmas.{put_among}
use Rattle.round_worker.proofs.keys.Keys.put.Goals as goal

pub returns-clause-put : goal.returns-clause-put
returns-clause-put c =
    put_among c.self.inside.kept.entries c.insert.new.self.entries c.args.key c.args.kept c.in_ok-insert.ensures.updates.0
    ∙ ap (λ (es : KeyList). put nat_cmp c.args.key c.args.kept es) c.self.view_is
