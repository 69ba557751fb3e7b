use Rattle.std.proofs.Common.{ℕ, ◌≡◌, ◌+◌, ◌-◌, ◌*◌, ◌^◌, ◌≤◌, List, true, length, take, drop, ◌++◌, Option, MatchOption, sym, ap, ◌∙◌, subst, arith}
use Rattle.buddy.specs.Bits.{IsFlipped, IsZone, IsLeastRun, HasNoRun, frames_of}
use Rattle.buddy.specs.Frames.{marked, HasNoStart, IsLeastStart}
use Rattle.buddy.proofs.Orders.{shifted}
use Rattle.buddy.proofs.FrameLemmas.{least_is, none_is}
use Rattle.buddy.proofs.ZoneLemmas.{Taken, taken, least_of_run, none_of_run, run_within, written}
use Rattle.buddy.proofs.zone.Zone.take.Goals as goal

no_start : (c : goal.After-from_residual) → HasNoStart c.args.self.now c.args.order
no_start c =
    subst (λ fs. HasNoStart fs c.args.order) c.self.view_is
    (none_of_run c.self.inside.words.items c.self.inside.frames c.args.order (subst (λ ws. HasNoRun ws c.args.order) c.deref.ensures.value c.in_err-start.ensures))

pub returns-in_err-start-clause-value : goal.returns-in_err-start-clause-value
returns-in_err-start-clause-value c = c.from_residual.ensures ∙ sym (none_is c.args.self.now c.args.order (no_start c))

pub returns-in_err-start-clause-least : goal.returns-in_err-start-clause-least
returns-in_err-start-clause-least c =
    subst (λ (o : Option ℕ). MatchOption o (HasNoStart c.args.self.now c.args.order) (IsLeastStart c.args.self.now c.args.order)) (sym c.from_residual.ensures) (no_start c)

pub flip-requires-clause-within : goal.flip-requires-clause-within
flip-requires-clause-within c =
    let run = subst (λ ws. IsLeastRun ws c.args.order c.in_ok-start.start) c.deref.ensures.value c.in_ok-start.ensures in
    subst (λ (ws : List ℕ). c.in_ok-start.start + 2 ^ c.args.order ≤ 64 * length ws) (sym c.deref_mut.ensures.value)
    (run_within c.self.inside.words.items c.args.order c.in_ok-start.start run.is)

pub overflow_sub-self : goal.overflow_sub-self
overflow_sub-self c =
    let run = subst (λ ws. IsLeastRun ws c.args.order c.in_ok-start.start) c.deref.ensures.value c.in_ok-start.ensures in
    let t = taken c.self.inside.words.items c.flip.new.words c.self.inside.frames c.self.inside.free c.args.order c.in_ok-start.start c.self.invariant run.is
    (subst (λ ws. IsFlipped ws c.flip.new.words c.in_ok-start.start (2 ^ c.args.order)) c.deref_mut.ensures.value c.flip.ensures) in
    omega (arith, shifted c.args.order c.requires, t.enough)

least_run_was : (c : goal.After-self-2-1) → IsLeastRun c.self.inside.words.items c.args.order c.in_ok-start.start
least_run_was c = subst (λ ws. IsLeastRun ws c.args.order c.in_ok-start.start) c.deref.ensures.value c.in_ok-start.ensures

now_taken : (c : goal.After-self-2-1) → Taken c.self.inside.words.items c.flip.new.words c.self.inside.frames c.self.inside.free c.args.order c.in_ok-start.start
now_taken c =
    taken c.self.inside.words.items c.flip.new.words c.self.inside.frames c.self.inside.free c.args.order c.in_ok-start.start c.self.invariant (least_run_was c).is
    (subst (λ ws. IsFlipped ws c.flip.new.words c.in_ok-start.start (2 ^ c.args.order)) c.deref_mut.ensures.value c.flip.ensures)

words_are : (c : goal.After-self-2-1) → take c.self.inside.words.len (c.flip.new.words ++ drop (length c.flip.new.words) c.self.inside.words.items) ≡ c.flip.new.words
words_are c = written c.self.inside.words.len c.flip.new.words c.self.inside.words.items (c.flip.ensures.same_length ∙ c.deref_mut.ensures.len)

pub invariant_of-self : goal.invariant_of-self
invariant_of-self c =
    let P : ℕ → Type 0 = λ n. IsZone (take c.self.inside.words.len (c.flip.new.words ++ drop (length c.flip.new.words) c.self.inside.words.items)) c.self.inside.frames (c.self.inside.free - n) in
    let Q : List ℕ → Type 0 = λ ws. IsZone ws c.self.inside.frames (c.self.inside.free - 2 ^ c.args.order) in
    subst P (sym (shifted c.args.order c.requires)) (subst Q (sym (words_are c)) (now_taken c).zone)

least_start_was : (c : goal.After-self-2-1) → IsLeastStart c.args.self.now c.args.order c.in_ok-start.start
least_start_was c =
    subst (λ fs. IsLeastStart fs c.args.order c.in_ok-start.start) c.self.view_is
    (least_of_run c.self.inside.words.items c.self.inside.frames c.self.inside.free c.args.order c.in_ok-start.start c.self.invariant (least_run_was c))

pub returns-clause-value : goal.returns-clause-value
returns-clause-value c = sym (least_is c.args.self.now c.args.order c.in_ok-start.start (least_start_was c))

pub returns-clause-least : goal.returns-clause-least
returns-clause-least c = least_start_was c

pub returns-clause-taken : goal.returns-clause-taken
returns-clause-taken c =
    ap (frames_of c.self.inside.frames) (words_are c) ∙ (now_taken c).after ∙ ap (marked true c.in_ok-start.start c.args.order) c.self.view_is
