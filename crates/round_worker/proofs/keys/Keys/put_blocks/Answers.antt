use Rattle.std.proofs.Common.{◌≡◌, ℕ, ◌+◌, ◌∷◌, All, List, nat_cmp, ap, length, subst, sym, ◌∙◌, arith}
use Rattle.std.specs.FinMap.Entries.{put}
use Rattle.std.specs.Vec.Iter.{into_iter_items}
use Rattle.std.proofs.lemmas.List.Elements.{All-head, All-tail}
use Rattle.page_ext.specs.Shown.{BlockShown}
use Rattle.trace_play.specs.Live.{part_key}
use Rattle.round_worker.specs.declared.keys.Kept.TheVariants.{Block}
use Rattle.round_worker.specs.Kept.{IsKept, KeyList}
use Rattle.round_worker.specs.Parting.{blocks, with_parts}
use Rattle.round_worker.proofs.KeptLemmas.{kept_put}
use Rattle.round_worker.proofs.keys.Keys.put_blocks.Goals as goal

pub loop-block-preserved : goal.loop-block-preserved
loop-block-preserved c =
    let key = part_key c.args.key c.args.first c.loop-block.place in
    let rest = into_iter_items c.next.new.self in
    let items : into_iter_items c.loop-block.block-iterator ≡ c.in-Some.block ∷ rest = c.in-Some.ensures.steps.0 in
    let put_there : c.put.new.self ≡ put nat_cmp key (Block c.in-Some.block) c.loop-block.self =
    c.in_ok-put.ensures.put ∙ ap (λ (k : ℕ). put nat_cmp k (Block c.in-Some.block) c.loop-block.self) c.part_key.ensures in
    record {
      next = tt;
      finite = tt;
      put = ap (λ (keys : KeyList). with_parts c.args.key c.args.first (blocks rest) (c.loop-block.place + 1) keys) put_there
          ∙ ap (λ (parts : List BlockShown). with_parts c.args.key c.args.first (blocks parts) c.loop-block.place c.loop-block.self) (sym items) ∙ c.loop-block.invariant.put;
      few = omega (arith, c.loop-block.invariant.few, ap (λ (parts : List BlockShown). length parts) items);
      kept = λ board own all.
          let both = c.loop-block.invariant.kept board own all in
          let parts = subst (λ (parts : List BlockShown). All (IsKept board) (blocks parts)) items both.1 in (
            kept_put board c.loop-block.self c.put.new.self key (Block c.in-Some.block) put_there both.0 (All-head (IsKept board) (Block c.in-Some.block) (blocks rest) parts),
            All-tail (IsKept board) (Block c.in-Some.block) (blocks rest) parts,
          );
    }
