use Rattle.std.proofs.Common.{ℕ, ◌≡◌, ◌+◌, ◌*◌, ◌^◌, ◌≤◌, List, true, false, length, take, drop, ◌++◌, sym, ap, ◌∙◌, subst, arith}
use Rattle.buddy.specs.Bits.{IsFlipped, IsZone, frames_of}
use Rattle.buddy.specs.Frames.{AllAre, marked}
use Rattle.buddy.proofs.Orders.{shifted}
use Rattle.buddy.proofs.ZoneLemmas.{Given, given, given_within, free_few, written}
use Rattle.buddy.proofs.zone.Zone.give.Goals as goal

was_taken : (c : goal.After-deref_mut) → AllAre true (frames_of c.self.inside.frames c.self.inside.words.items) c.args.frame c.args.order
was_taken c = subst (λ fs. AllAre true fs c.args.frame c.args.order) (sym c.self.view_is) c.requires.taken

pub flip-requires-clause-within : goal.flip-requires-clause-within
flip-requires-clause-within c =
    subst (λ (ws : List ℕ). c.args.frame + 2 ^ c.args.order ≤ 64 * length ws) (sym c.deref_mut.ensures.value)
    (given_within c.self.inside.words.items c.self.inside.frames c.self.inside.free c.args.order c.args.frame c.self.invariant
    (subst (λ fs. AllAre true fs c.args.frame c.args.order) (sym c.self.view_is) c.requires.taken))

now_given : (c : goal.After-self-2-1) → Given c.self.inside.words.items c.flip.new.words c.self.inside.frames c.self.inside.free c.args.order c.args.frame
now_given c =
    given c.self.inside.words.items c.flip.new.words c.self.inside.frames c.self.inside.free c.args.order c.args.frame c.self.invariant
    (subst (λ fs. AllAre true fs c.args.frame c.args.order) (sym c.self.view_is) c.requires.taken)
    (subst (λ ws. IsFlipped ws c.flip.new.words c.args.frame (2 ^ c.args.order)) c.deref_mut.ensures.value c.flip.ensures)

pub overflow_add-self : goal.overflow_add-self
overflow_add-self c =
    let g = given c.self.inside.words.items c.flip.new.words c.self.inside.frames c.self.inside.free c.args.order c.args.frame c.self.invariant
    (subst (λ fs. AllAre true fs c.args.frame c.args.order) (sym c.self.view_is) c.requires.taken)
    (subst (λ ws. IsFlipped ws c.flip.new.words c.args.frame (2 ^ c.args.order)) c.deref_mut.ensures.value c.flip.ensures) in
    omega (arith, shifted c.args.order c.requires.small, free_few _ _ _ g.zone)

words_are : (c : goal.After-self-2-1) → take c.self.inside.words.len (c.flip.new.words ++ drop (length c.flip.new.words) c.self.inside.words.items) ≡ c.flip.new.words
words_are c = written c.self.inside.words.len c.flip.new.words c.self.inside.words.items (c.flip.ensures.same_length ∙ c.deref_mut.ensures.len)

pub invariant_of-self : goal.invariant_of-self
invariant_of-self c =
    let P : ℕ → Type 0 = λ n. IsZone (take c.self.inside.words.len (c.flip.new.words ++ drop (length c.flip.new.words) c.self.inside.words.items)) c.self.inside.frames (c.self.inside.free + n) in
    let Q : List ℕ → Type 0 = λ ws. IsZone ws c.self.inside.frames (c.self.inside.free + 2 ^ c.args.order) in
    subst P (sym (shifted c.args.order c.requires.small)) (subst Q (sym (words_are c)) (now_given c).zone)

pub returns : goal.returns
returns c =
    ap (frames_of c.self.inside.frames) (words_are c) ∙ (now_given c).after ∙ ap (marked false c.args.frame c.args.order) c.self.view_is
