use Rattle.std.proofs.Common.{◌≡◌, ℕ, [], replicate, ap, sym, subst, rules, ◌∙◌}
use Rattle.std.specs.Arc.{arc_value}
use Rattle.atomic_table.specs.Table.{opening}
use Rattle.tag_model.specs.declared.shape.Shape.{Shape}
use Rattle.tag_rule.specs.declared.words.Words.{Words}
use Rattle.tag_rule.specs.Fresh.{first_view}
use Rattle.tag_rule.specs.Rule.{Ruled}
use Rattle.tag_rule.specs.Tokens.{board_of}
use Rattle.tag_rule.proofs.Starts.{starts, stage0, stage1, stage2, stage3, front1, front2, list_last, pass_last, list_after, list_shows, pass_shows}
use Rattle.tag_rule.proofs.making.make.Goals as goal

pub of_words-requires : goal.of_words-requires
of_words-requires c =
    let zeros : c.in_ok-zeros.zeros.items ≡ replicate c.words.result 0 = search rules in
    subst (λ ws. Ruled c.args.shape (opening ws [] (first_view c.args.shape))) (sym (c.deref.ensures.value ∙ zeros ∙ ap (λ (n : ℕ). replicate n 0) c.words.ensures)) (starts c.args.shape c.requires)

pub take_cpus-requires-clause-front : goal.take_cpus-requires-clause-front
take_cpus-requires-clause-front c =
    let same = ap (λ (w : Words). w.shape) c.in_ok-words.ensures.ok in
    let begun = c.in_ok-table.ensures.4 ∙ ap (λ (k : Shape). (first_view k, [])) (sym same) in
    stage0 (arc_value c.in_ok-words.words).shape c.in_ok-table.seat.me c.in_ok-table.seat.me c.in_ok-table.seat.me c.in_ok-table.seat.me begun

pub take_pages-requires-clause-front : goal.take_pages-requires-clause-front
take_pages-requires-clause-front c =
    let m0 = c.in_ok-table.seat.me in
    let m1 = c.take_cpus.new.seat.me in
    let k = (arc_value c.in_ok-words.words).shape in
    let same = ap (λ (w : Words). w.shape) c.in_ok-words.ensures.ok in
    let begun = c.in_ok-table.ensures.4 ∙ ap (λ (k : Shape). (first_view k, [])) (sym same) in
    front1 k m0 m1 m1 m1 (stage1 k m0 m1 m1 m1 begun c.in_ok-cpus.ensures.seat.1)

pub take_objects-requires-clause-front : goal.take_objects-requires-clause-front
take_objects-requires-clause-front c =
    let m0 = c.in_ok-table.seat.me in
    let m1 = c.take_cpus.new.seat.me in
    let m2 = c.take_pages.new.seat.me in
    let k = (arc_value c.in_ok-words.words).shape in
    let same = ap (λ (w : Words). w.shape) c.in_ok-words.ensures.ok in
    let begun = c.in_ok-table.ensures.4 ∙ ap (λ (k : Shape). (first_view k, [])) (sym same) in
    front2 k m0 m1 m2 m2 (stage2 k m0 m1 m2 m2 (stage1 k m0 m1 m1 m1 begun c.in_ok-cpus.ensures.seat.1) c.in_ok-pages.ensures.seat.1)

pub invariant_of-list : goal.invariant_of-list
invariant_of-list c =
    let m0 = c.in_ok-table.seat.me in
    let m1 = c.take_cpus.new.seat.me in
    let m2 = c.take_pages.new.seat.me in
    let m3 = c.take_objects.new.seat.me in
    let k = (arc_value c.in_ok-words.words).shape in
    let same = ap (λ (w : Words). w.shape) c.in_ok-words.ensures.ok in
    let begun = c.in_ok-table.ensures.4 ∙ ap (λ (k : Shape). (first_view k, [])) (sym same) in
    let last = stage3 k m0 m1 m2 m3 (stage2 k m0 m1 m2 m2 (stage1 k m0 m1 m1 m1 begun c.in_ok-cpus.ensures.seat.1) c.in_ok-pages.ensures.seat.1) c.in_ok-objects.ensures.seat.1 in
    list_after _ (search rules) (list_last _ _ last c.take_front-list_seat.ensures.gone.1) (search rules)

pub invariant_of-loads : goal.invariant_of-loads
invariant_of-loads c =
    let m0 = c.in_ok-table.seat.me in
    let m1 = c.take_cpus.new.seat.me in
    let m2 = c.take_pages.new.seat.me in
    let m3 = c.take_objects.new.seat.me in
    let k = (arc_value c.in_ok-words.words).shape in
    let same = ap (λ (w : Words). w.shape) c.in_ok-words.ensures.ok in
    let begun = c.in_ok-table.ensures.4 ∙ ap (λ (k : Shape). (first_view k, [])) (sym same) in
    let last = stage3 k m0 m1 m2 m3 (stage2 k m0 m1 m2 m2 (stage1 k m0 m1 m1 m1 begun c.in_ok-cpus.ensures.seat.1) c.in_ok-pages.ensures.seat.1) c.in_ok-objects.ensures.seat.1 in
    record { me = pass_last _ _ last c.take_front-list_seat.ensures.kept.1 }

pub returns : goal.returns
returns c =
    let m0 = c.in_ok-table.seat.me in
    let m1 = c.take_cpus.new.seat.me in
    let m2 = c.take_pages.new.seat.me in
    let m3 = c.take_objects.new.seat.me in
    let k = (arc_value c.in_ok-words.words).shape in
    let same = ap (λ (w : Words). w.shape) c.in_ok-words.ensures.ok in
    let begun = c.in_ok-table.ensures.4 ∙ ap (λ (k : Shape). (first_view k, [])) (sym same) in
    let last = stage3 k m0 m1 m2 m3 (stage2 k m0 m1 m2 m2 (stage1 k m0 m1 m1 m1 begun c.in_ok-cpus.ensures.seat.1) c.in_ok-pages.ensures.seat.1) c.in_ok-objects.ensures.seat.1 in
    record {
      board = board_of (arc_value c.in_ok-words.words);
      shape = same;
      cpus = c.in_ok-cpus.ensures.cpus;
      pages = c.in_ok-pages.ensures.pools;
      objects = c.in_ok-objects.ensures.pools;
      list = list_shows (arc_value c.in_ok-words.words) c.take_front-list_seat.result.me (list_last _ _ last c.take_front-list_seat.ensures.gone.1);
      loads = pass_shows (arc_value c.in_ok-words.words) _ _ same (search rules);
    }
