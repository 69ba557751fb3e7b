use Rattle.std.proofs.Common.{IfOk, ap, sym, subst, ◌≡◌, ◌∙◌}
use Rattle.trace.specs.declared.traces.Item.{Item}
use Rattle.trace.specs.declared.traces.Item.TheVariants as item
use Rattle.trace_run.specs.Items.{IsNext, IsPlayed, next_played, played_at}
use Rattle.trace_run.proofs.item.play_item.Goals as goal

pub returns-in-Load : goal.returns-in-Load
returns-in-Load g c = λ p there next top kept.
    subst (λ (what : Item). IsPlayed p.board p.trace (next_played what p) c.args.out.now.items (played_at p).text c.args.out.now.items c.play_load.result) (sym c.in-Load.is)
    (c.play_load.ensures p c.args.out.now.items there (subst (λ (what : Item). IsNext what p) c.in-Load.is next))

pub returns-in-Round : goal.returns-in-Round
returns-in-Round g c = λ p there next top kept.
    let is : c.args.item.now ≡ item.Round c.as_slice.result.now = c.in-Round.is ∙ ap item.Round (sym c.as_slice.ensures) in
    subst (λ (what : Item). IfOk c.play_round.result (IsPlayed p.board p.trace (next_played what p) c.args.out.now.items (played_at p).text c.args.out.now.items)) (sym is)
    (c.play_round.ensures p c.args.out.now.items there (subst (λ (what : Item). IsNext what p) is next))

pub returns-in-Print : goal.returns-in-Print
returns-in-Print g c = λ p there next top kept.
    subst (λ (what : Item). IfOk c.play_print.result (IsPlayed p.board p.trace (next_played what p) c.args.out.now.items (played_at p).text c.play_print.new.out.items)) (sym c.in-Print.is)
    (c.play_print.ensures p there (subst (λ (what : Item). IsNext what p) c.in-Print.is next) top kept)

pub returns-in-Areas : goal.returns-in-Areas
returns-in-Areas g c = λ p there next top kept.
    subst (λ (what : Item). IfOk c.play_areas.result (IsPlayed p.board p.trace (next_played what p) c.args.out.now.items (played_at p).text c.play_areas.new.out.items)) (sym c.in-Areas.is)
    (c.play_areas.ensures p there (subst (λ (what : Item). IsNext what p) c.in-Areas.is next))
