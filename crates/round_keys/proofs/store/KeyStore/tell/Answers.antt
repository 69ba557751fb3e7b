use Rattle.std.proofs.Common.{nat_cmp, subst}
use Rattle.std.specs.Bool.{IsTrue}
use Rattle.std.specs.FinMap.Entries.{is_sorted}
use Rattle.round_worker.specs.Kept.{KeyList}
use Rattle.trace_play.proofs.AloneLemmas.{holding}
use Rattle.round_keys.proofs.PageLemmas.{pages_rise}
use Rattle.round_keys.proofs.store.KeyStore.tell.Goals as goal

pub returns : goal.returns
returns c =
    subst (λ (es : KeyList). IsTrue (is_sorted nat_cmp es)) c.self.view_is (holding _ (pages_rise (λ page. page.items) c.self.inside.pages.items c.self.invariant.all))
