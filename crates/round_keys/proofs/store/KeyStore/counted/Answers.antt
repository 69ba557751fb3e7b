use Rattle.std.proofs.Common.{map, ap, ◌∙◌}
use Rattle.round_worker.specs.Kept.{KeyList, live_of}
use Rattle.round_keys.specs.Stored.{counted_in, counts_on}
use Rattle.round_keys.proofs.StoredLemmas.{pages_counted}
use Rattle.round_keys.proofs.store.KeyStore.counted.Goals as goal

pub returns : goal.returns
returns c =
    c.counted_in_pages.ensures.counted ∙ ap (λ pages. counts_on (map (λ page. page.items) pages)) c.as_slice.ensures.value
    ∙ pages_counted 0 (map (λ page. page.items) c.self.inside.pages.items) ∙ ap (λ (es : KeyList). counted_in (live_of es)) c.self.view_is
