use Rattle.std.proofs.Common.{List, [], ◌∷◌, ◌++◌, take, sym, ap, ◌∙◌}
use Rattle.std.proofs.lemmas.List.{take_more}
use Rattle.std.proofs.lemmas.Option.{same_Some, slice_get-get_or, slice_get_within}
use Rattle.module_area.specs.declared.entry.Entry.{Entry}
use Rattle.rounds.proofs.dealing.entries_of.Goals as goal

pub loop-place-preserved : goal.loop-place-preserved
loop-place-preserved c =
    let book = c.book-book.result.now.entries in
    let place = c.loop-place.place in
    let e = c.at.result in
    let low = slice_get_within book place e c.at.ensures.value in
    let same = same_Some _ _ (sym c.at.ensures.value ∙ slice_get-get_or book place e low) in
    c.in_ok-push.ensures.items
    ∙ (ap (λ (es : List Entry). es ++ e ∷ []) c.loop-place.invariant
    ∙ (ap (λ (x : Entry). take place book ++ x ∷ []) same ∙ sym (take_more book place e low)))
