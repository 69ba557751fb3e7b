use Rattle.std.proofs.Common.{ap, length, nat_cmp, subst, ◌∙◌, ◌<◌, ◌/◌, ◌≤◌, arith}
use Rattle.std.specs.FinMap.Entries.{find, where_key}
use Rattle.std.proofs.Common.{eqb, not, ◌≡◌}
use Rattle.round_worker.specs.Kept.{KeyList}
use Rattle.round_keys.proofs.PageLemmas.{none_taken, none_there, place_found, place_taken}
use Rattle.round_keys.proofs.store.KeyStore.take.Goals as goal

pub returns-then-number-len-clause-value : goal.returns-then-number-len-clause-value
returns-then-number-len-clause-value c =
    let low : c.args.key / 256 < length c.self.inside.pages.items = omega (arith, c.if-number-len.true, c.len.ensures, c.self.inside.pages.ok.0) in
    c.take_at.ensures.value ∙ place_found (λ page. page.items) c.self.inside.pages.items c.args.key c.index_mut.result.now low c.index_mut.ensures.value c.self.invariant.all
    ∙ ap (λ (es : KeyList). find nat_cmp c.args.key es) c.self.view_is

pub returns-then-number-len-clause-keys : goal.returns-then-number-len-clause-keys
returns-then-number-len-clause-keys c =
    let low : c.args.key / 256 < length c.self.inside.pages.items = omega (arith, c.if-number-len.true, c.len.ensures, c.self.inside.pages.ok.0) in
    place_taken (λ page. page.items) c.self.inside.pages.items c.args.key c.index_mut.result.now c.take_at.new.slots low c.index_mut.ensures.value c.take_at.ensures.page c.take_at.ensures.taken c.self.invariant.all
    ∙ ap (λ (es : KeyList). where_key nat_cmp (λ other. not (eqb other c.args.key)) es) c.self.view_is

pub returns-else-number-len-clause-value : goal.returns-else-number-len-clause-value
returns-else-number-len-clause-value c =
    let high : length c.self.inside.pages.items ≤ c.args.key / 256 = omega (arith, c.if-number-len.false, c.len.ensures, c.self.inside.pages.ok.0) in
    none_there (λ page. page.items) c.self.inside.pages.items c.args.key high c.self.invariant.all ∙ ap (λ (es : KeyList). find nat_cmp c.args.key es) c.self.view_is

pub returns-else-number-len-clause-keys : goal.returns-else-number-len-clause-keys
returns-else-number-len-clause-keys c =
    let high : length c.self.inside.pages.items ≤ c.args.key / 256 = omega (arith, c.if-number-len.false, c.len.ensures, c.self.inside.pages.ok.0) in
    subst (λ (es : KeyList). es ≡ where_key nat_cmp (λ other. not (eqb other c.args.key)) es) c.self.view_is (none_taken (λ page. page.items) c.self.inside.pages.items c.args.key high c.self.invariant.all)
