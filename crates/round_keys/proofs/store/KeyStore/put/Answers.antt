use Rattle.std.proofs.Common.{ap, nat_cmp, ◌∙◌}
use Rattle.std.specs.FinMap.Entries.{put}
use Rattle.round_worker.specs.Kept.{KeyList}
use Rattle.round_worker.proofs.KeptLemmas.{on_ok}
use Rattle.round_keys.proofs.PageLemmas.{on_err, place_put, place_same}
use Rattle.round_keys.proofs.store.KeyStore.put.Goals as goal

pub returns-clause-put : goal.returns-clause-put
returns-clause-put c =
    let pages = c.grow_pages.new.pages.items in
    on_ok c.put_at.result
    (λ written. place_put (λ page. page.items) pages c.args.key c.index_mut.result.now c.put_at.new.slots c.args.kept c.in_ok-grow_pages.ensures.there c.index_mut.ensures.value c.put_at.ensures.page written (c.grow_pages.ensures.all c.self.invariant.all)
    ∙ ap (λ (es : KeyList). put nat_cmp c.args.key c.args.kept es) (c.grow_pages.ensures.same ∙ c.self.view_is))
    c.put_at.ensures.put

pub returns-clause-err : goal.returns-clause-err
returns-clause-err c =
    let pages = c.grow_pages.new.pages.items in
    on_err c.put_at.result
    (λ written. place_same (λ page. page.items) pages c.args.key c.index_mut.result.now c.put_at.new.slots c.in_ok-grow_pages.ensures.there c.index_mut.ensures.value c.put_at.ensures.page written (c.grow_pages.ensures.all c.self.invariant.all)
    ∙ c.grow_pages.ensures.same ∙ c.self.view_is)
    c.put_at.ensures.err
