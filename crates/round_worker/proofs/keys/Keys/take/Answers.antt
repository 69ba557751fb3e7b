use Rattle.std.proofs.Common.{ap, sym, subst, nat_cmp, ◌∙◌}
use Rattle.std.specs.Bool.{IsTrue}
use Rattle.std.specs.FinMap.Entries.{find, is_sorted}
use Rattle.trace_play.proofs.AloneLemmas.{holding}
use Rattle.round_worker.specs.Kept.{KeyList}
use Rattle.round_worker.proofs.KeyLemmas.{find_by_key, others, rises, taken_out}
use Rattle.round_worker.proofs.keys.Keys.take.Goals as goal

pub returns-clause-value : goal.returns-clause-value
returns-clause-value c = c.remove.ensures.value ∙ sym (find_by_key c.self.inside.kept.entries c.args.key) ∙ ap (λ (es : KeyList). find nat_cmp c.args.key es) c.self.view_is

pub returns-clause-keys : goal.returns-clause-keys
returns-clause-keys c =
    taken_out c.self.inside.kept.entries c.remove.new.self.entries c.args.key c.remove.ensures.updates.0
    ∙ ap (λ (es : KeyList). others c.args.key es) c.self.view_is

pub returns-clause-rises : goal.returns-clause-rises
returns-clause-rises c = subst (λ (es : KeyList). IsTrue (is_sorted nat_cmp es)) c.self.view_is (holding _ (rises c.self.inside.kept.entries))
