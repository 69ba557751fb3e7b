-- Whatever a call answers, its values are of the same table.
use Rattle.std.proofs.Common.{◌≡◌, ℕ, ◌+◌, Option, None, Some, Result, Ok, Err, OnOk, OnErr, MatchOption, ap, ◌∙◌}
use Rattle.module_area.specs.declared.book.AreaError.{AreaError}
use Rattle.tag_rule.specs.Shown.{PassShown}
use Rattle.reclaim.specs.Loading.{LoadEnds, early_refusal, late_refusal, loaded_as}
use Rattle.tag_section.specs.Section.{tags_in}
use Rattle.reclaim.specs.State.{LockedShown}
use Rattle.reclaim.proofs.Load.{prepared_board}

pub load_board : (section next : ℕ) (old new : LockedShown) (answer : Result ℕ AreaError) → MatchOption (early_refusal section old) (LoadEnds section (tags_in old.sections section) next old new answer) (λ why. (answer ≡ Err why) × (new ≡ old)) → new.board ≡ old.board
load_board section next old new answer told = go (early_refusal section old) told
  where
    late : (size : ℕ) → LoadEnds section size next old new answer → new.board ≡ old.board
    late size l = at (late_refusal size next l.mid.area) l.ends ∙ prepared_board size old l.mid l.prepared
      where
        at : (o : Option AreaError) → MatchOption o ((answer ≡ Ok next) × (new ≡ loaded_as next section size l.mid)) (λ why. (answer ≡ Err why) × (new ≡ l.mid)) → new.board ≡ l.mid.board
        at None h = ap (λ (x : LockedShown). x.board) h.1
        at (Some why) h = ap (λ (x : LockedShown). x.board) h.1

    go : (o : Option AreaError) → MatchOption o (LoadEnds section (tags_in old.sections section) next old new answer) (λ why. (answer ≡ Err why) × (new ≡ old)) → new.board ≡ old.board
    go None h = late (tags_in old.sections section) h
    go (Some why) h = ap (λ (x : LockedShown). x.board) h.1

pub pass_board : (old new : PassShown) (answer : Result ℕ AreaError) → OnOk answer (new ≡ record old { next = old.next + 1 }) → OnErr answer (new ≡ old) → new.board ≡ old.board
pass_board old new (Ok id) ok err = ap (λ (p : PassShown). p.board) ok
pass_board old new (Err why) ok err = ap (λ (p : PassShown). p.board) err
