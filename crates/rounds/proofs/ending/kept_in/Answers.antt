use Rattle.std.proofs.Common.{◌≡◌, ℕ, ◌+◌, ◌≤◌, Bool, true, false, cond, get_or, sym, ap, ap₂, ◌∙◌, arith}
use Rattle.std.proofs.lemmas.List.Sums.{sum_by_more}
use Rattle.std.proofs.lemmas.Option.{same_Some, slice_get-get_or, slice_get_within}
use Rattle.module_area.specs.Entries.{is_dead}
use Rattle.module_area.specs.declared.entry.Entry.{Entry}
use Rattle.rounds.proofs.ending.kept_in.Goals as goal

one_most : (b : Bool) → cond {A = ℕ} b 1 0 ≤ 1
one_most true = omega arith
one_most false = omega arith

pub loop-place-preserved : goal.loop-place-preserved
loop-place-preserved c =
    let book = c.book-book.result.now.entries in
    let place = c.loop-place.place in
    let e = c.at.result in
    let low = slice_get_within book place e c.at.ensures.value in
    let same : e ≡ get_or book place e = same_Some _ _ (sym c.at.ensures.value ∙ slice_get-get_or book place e low) in
    let one : c.from-kept.result ≡ cond {A = ℕ} (is_dead e.state) 1 0 = grind (arith, c.from-kept.ensures, c.is_dead.ensures) in
    let more = sum_by_more (λ (x : Entry). cond {A = ℕ} (is_dead x.state) 1 0) book place e low in (
      ap₂ (λ a b. a + b) c.loop-place.invariant.0 (one ∙ ap (λ (x : Entry). cond {A = ℕ} (is_dead x.state) 1 0) same) ∙ sym more,
      omega (arith, c.loop-place.invariant.1, one, one_most (is_dead e.state)),
    )
