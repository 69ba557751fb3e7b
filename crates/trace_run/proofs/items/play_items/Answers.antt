use Rattle.std.proofs.Common.{◌≡◌, ◌<◌, ◌≤◌, ◌∙◌, [], None, length, get_or, arith, refl, sym, subst}
use Rattle.trace_play.specs.Play.{Outcome}
use Rattle.trace_run.specs.Items.{IsPlayed}
use Rattle.trace_run.proofs.Through.{all_played, ended, gone_on, next_at, place_at}
use Rattle.trace_run.proofs.items.play_items.Goals as goal

pub play_item-requires-after_bounds : goal.play_item-requires-after_bounds
play_item-requires-after_bounds g c κs within =
    let s = c.requires in
    let i = c.loop-item.item-index in
    let here = c.loop-item.invariant s in
    let low : i < length c.args.items.now = omega (arith, c.loop-item-test.true, c.loop-item.auto.item-index-end) in
    let is : get_or c.args.items.now i c.item-item.result ≡ c.item-item.result = sym c.item-item.is in
    record {
      place = place_at c.args.top c.args.items.now c.args.kept c.args.desk s i;
      there = here.0;
      next = next_at c.args.top c.args.items.now c.args.kept c.args.desk s i c.item-item.result low is here.1;
    }

pub returns-then-is_some : goal.returns-then-is_some
returns-then-is_some g c = λ s.
    let i = c.loop-item.item-index in
    let here = c.loop-item.invariant s in
    let low : i < length c.args.items.now = omega (arith, c.loop-item-test.true, c.loop-item.auto.item-index-end) in
    let is : get_or c.args.items.now i c.item-item.result ≡ c.item-item.result = sym c.item-item.is in
    let next = next_at c.args.top c.args.items.now c.args.kept c.args.desk s i c.item-item.result low is here.1 in
    ended c.args.top c.args.items.now c.args.kept c.args.desk s i c.item-item.result low is here.1 c.args.out.now.items c.loop-item.out.items c.play_item.new.out.items c.in_ok-after.after here.2
    (c.in_ok-after.ensures (place_at c.args.top c.args.items.now c.args.kept c.args.desk s i) here.0 next refl s.kept_is)
    (sym c.is_some.ensures ∙ c.if-is_some.true)

pub loop-item-preserved : goal.loop-item-preserved
loop-item-preserved g c = λ s.
    let i = c.loop-item.item-index in
    let here = c.loop-item.invariant s in
    let low : i < length c.args.items.now = omega (arith, c.loop-item-test.true, c.loop-item.auto.item-index-end) in
    let is : get_or c.args.items.now i c.item-item.result ≡ c.item-item.result = sym c.item-item.is in
    let next = next_at c.args.top c.args.items.now c.args.kept c.args.desk s i c.item-item.result low is here.1 in
    gone_on c.args.top c.args.items.now c.args.kept c.args.desk s i c.item-item.result low is here.1 c.args.out.now.items c.loop-item.out.items c.play_item.new.out.items c.in_ok-after.after here.2
    (c.in_ok-after.ensures (place_at c.args.top c.args.items.now c.args.kept c.args.desk s i) here.0 next refl s.kept_is)
    (sym c.is_some.ensures ∙ c.if-is_some.false)

pub returns : goal.returns
returns g c = λ s.
    let i = c.loop-item.item-index in
    let here = c.loop-item.invariant s in
    let past : length c.args.items.now ≤ i = omega (arith, c.loop-item-test.false, c.loop-item.auto.item-index-end) in
    subst (λ (o : Outcome). IsPlayed s.board s.trace o c.args.out.now.items [] c.loop-item.out.items (record { desk = c.loop-item.desk; refused = None }))
    (all_played c.args.top c.args.items.now c.args.kept c.args.desk s i past)
    (record { stands = here.0; refused = sym here.1; text_is = here.2 })
