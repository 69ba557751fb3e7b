use Rattle.std.proofs.Common.{◌≡◌, ap, drop, map, ◌∙◌}
use Rattle.std.specs.String.{string_bytes}
use Rattle.profile_top.specs.Commands.{command_of}
use Rattle.memprof.proofs.serve.Goals as goal

pub returns-in-Ok-clause-ran : goal.returns-in-Ok-clause-ran
returns-in-Ok-clause-ran g c =
    let words_are : c.words.result.now ≡ drop 1 c.in-Ok.all.items = c.words.ensures.behind_the_name ∙ ap (drop 1) c.as_slice.ensures.value in
    rw c.in-Ok.is (λ input asked told. c.memprof.ensures.ran input (ap (λ words. command_of (map string_bytes words)) words_are ∙ asked) told)
