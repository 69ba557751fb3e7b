use Rattle.std.proofs.Common.{◌≡◌, List, arith, rules, subst}
use Rattle.std.specs.List.{All}
use Rattle.std.proofs.lemmas.List.Elements.{All-head, All-tail}
use Rattle.tag_rule.specs.Shown.{CpuShown}
use Rattle.tag_rule.specs.Tokens.{board_of}
use Rattle.tag_rule.proofs.meeting.+meeting.Goals as goal

pub meet_rest-meet_first-requires : goal.meet_rest-meet_first-requires
meet_rest-meet_first-requires t c =
    let all = subst (λ (cs : List CpuShown). All (λ (x : CpuShown). x.board ≡ board_of c.args.words.now) cs) c.in-Some.ensures.cases.0 c.requires.tables in
    (omega (arith, c.in-Some.ensures.cases.1, c.decreases), (search rules, (search rules, (All-head (λ (x : CpuShown). x.board ≡ board_of c.args.words.now) c.in-Some.first.now c.in-Some.rest.now all, All-tail (λ (x : CpuShown). x.board ≡ board_of c.args.words.now) c.in-Some.first.now c.in-Some.rest.now all))))
