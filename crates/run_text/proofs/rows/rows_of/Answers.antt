use Rattle.std.proofs.Common.{◌≡◌, All, refl, sym, ◌∙◌, subst}
use Rattle.tag_rule.specs.Shown.{CpuShown}
use Rattle.tag_iter.specs.Walks.{places_left}
use Rattle.run_text.specs.Rows.{quiet_rows}
use Rattle.run_text.proofs.PlaceLemmas.{none_taken, place_low, rows_begin, rows_end, rows_more, smaller, step_taken, words_for}
use Rattle.run_text.proofs.rows.rows_of.Goals as goal

pub loop-place-init : goal.loop-place-init
loop-place-init c = record {
  left = rows_begin c.args.kept c.args.locked.now c.args.cpus.now c.new-rows.result.items c.iter_for-iter.result c.new-rows.ensures.items c.iter_for-iter.ensures;
  same = refl;
}

pub row_at-requires : goal.row_at-requires
row_at-requires c =
    let l = c.args.locked.now in
    let taken = step_taken c.loop-place.iter l c.next_locked.result c.in-Some.place c.next_locked.new.iter c.tell.ensures c.next_locked.ensures.value c.in-Some.is c.next_locked.ensures.after in
    words_for l.board c.loop-place.cpus c.in-Some.place.number
    (subst (All (λ (x : CpuShown). x.board ≡ l.board)) (sym c.loop-place.invariant.same) c.requires.tables)
    (place_low c.loop-place.iter l c.in-Some.place (places_left c.next_locked.new.iter l) c.tell.ensures c.requires.kernel taken)

pub loop-place-smaller : goal.loop-place-smaller
loop-place-smaller c =
    let l = c.args.locked.now in
    smaller c.in-Some.place (places_left c.loop-place.iter l) (places_left c.next_locked.new.iter l)
    (step_taken c.loop-place.iter l c.next_locked.result c.in-Some.place c.next_locked.new.iter c.tell.ensures c.next_locked.ensures.value c.in-Some.is c.next_locked.ensures.after)

pub loop-place-preserved : goal.loop-place-preserved
loop-place-preserved c =
    let l = c.args.locked.now in
    let taken = step_taken c.loop-place.iter l c.next_locked.result c.in-Some.place c.next_locked.new.iter c.tell.ensures c.next_locked.ensures.value c.in-Some.is c.next_locked.ensures.after in
    record {
      left =
          rows_more c.args.cpus.now c.loop-place.cpus c.loop-place.rows.items c.push.new.self.items (quiet_rows c.args.kept l c.args.cpus.now) (places_left c.loop-place.iter l) (places_left c.next_locked.new.iter l) c.in-Some.place c.row_at.result
          c.loop-place.invariant.left taken c.loop-place.invariant.same c.row_at.ensures.row c.in_ok-push.ensures.items;
      same = c.row_at.ensures.same ∙ c.loop-place.invariant.same;
    }

pub returns-clause-rows : goal.returns-clause-rows
returns-clause-rows c =
    let l = c.args.locked.now in
    rows_end c.args.cpus.now c.loop-place.rows.items (quiet_rows c.args.kept l c.args.cpus.now) (places_left c.loop-place.iter l) c.loop-place.invariant.left
    (none_taken c.loop-place.iter l c.next_locked.result c.tell.ensures c.next_locked.ensures.value c.in_default.is)
