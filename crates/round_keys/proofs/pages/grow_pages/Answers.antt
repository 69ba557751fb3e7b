use Rattle.std.proofs.Common.{List, All, length, subst, sym, ap, ◌∙◌, ◌+◌, ◌++◌, ◌∷◌, [], ◌≡◌, ◌≤◌, map, arith}
use Rattle.std.proofs.lemmas.List.{length-append}
use Rattle.round_keys.specs.Pages.{IsPage, pages_from}
use Rattle.round_keys.proofs.PageLemmas.{all_more, page_more}
use Rattle.round_keys.proofs.pages.grow_pages.Goals as goal

pub loop-alloc-preserved : goal.loop-alloc-preserved
loop-alloc-preserved c =
    let now = c.loop-alloc.pages.items in
    let items : c.push.new.self.items ≡ now ++ c.new.result ∷ [] = c.in_ok-push.ensures.items in
    let longer : length c.push.new.self.items ≡ length now + 1 = ap length items ∙ length-append now (c.new.result ∷ []) in
    let more : length now ≤ c.args.number = omega (arith, c.loop-alloc-test.true, c.len.ensures, c.loop-alloc.pages.ok.0) in
    record {
      same = ap (λ pages. pages_from 0 (map (λ page. page.items) pages)) items ∙ page_more (λ page. page.items) 0 now c.new.result c.new.ensures.items ∙ c.loop-alloc.invariant.same;
      all = λ all. subst (λ pages. All (λ page. IsPage page.items) pages) (sym items) (all_more (λ page. page.items) now c.new.result c.new.ensures.items (c.loop-alloc.invariant.all all));
      few = λ few. omega (arith, longer, more, c.requires.small);
    }
