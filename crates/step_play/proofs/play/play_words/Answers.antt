use Rattle.std.proofs.Common.{ℕ, Option, Ok, ap, sym, subst}
use Rattle.step_play.specs.Printed.{words_text}
use Rattle.step_play.specs.Schedule.{words_of}
use Rattle.step_play.specs.Playing.{Follows, own_setting}
use Rattle.step_play.proofs.Stepping.{text_shown}
use Rattle.step_play.proofs.play.play_words.Goals as goal

pub returns-in-None : goal.returns-in-None
returns-in-None c = λ p shows.
    let s = own_setting c.args.core.now in
    ap (λ (o : Option ℕ). words_of s c.args.section o p) (sym (c.in-None.ensures.number s _ p shows))

pub returns-in_ok-write_words-in-Some : goal.returns-in_ok-write_words-in-Some
returns-in_ok-write_words-in-Some c = λ p shows.
    let s = own_setting c.args.core.now in
    subst (λ (o : Option ℕ). Follows {X = Unit {0}} s (Ok tt) c.args.core.now c.write_words.new.out.items (words_of s c.args.section o p)) (c.in-Some.ensures.number s _ p shows)
    (text_shown s c.args.core.now c.args.out.now.items c.write_words.new.out.items (words_text c.args.core.now.shape.cpus p.moves c.in-Some.number) p shows
    (rw (sym c.cpus.ensures) (c.in_ok-write_words-in-Some.ensures s p shows)))
