use Rattle.std.proofs.Common.{◌≡◌, List, ◌++◌, ap, subst, sym, ◌∙◌}
use Rattle.std.specs.List.{All}
use Rattle.tag_rule.specs.declared.words.Words.{Words}
use Rattle.tag_rule.specs.Shown.{Board, CpuShown, ListShown, PassShown}
use Rattle.tag_rule.specs.Tokens.{board_of}
use Rattle.tag_rule.proofs.AllMeet.{boards_stay, met_shown}
use Rattle.tag_rule.proofs.meeting.meet_all.Goals as goal

pub meet_rest-all-requires-clause-tables : goal.meet_rest-all-requires-clause-tables
meet_rest-all-requires-clause-tables c =
    let board = ap (λ (w : Words). board_of w) c.deref-words.ensures ∙ ap (λ (x : ListShown). x.board) (c.list.view_is ∙ c.note_first.ensures.list) in
    let before = boards_stay c.args.list.now.board c.args.list.now.part.records c.args.cpus.now c.requires.tables.1 in
    subst (λ (b : Board). All (λ (x : CpuShown). x.board ≡ b) c.note_first.new.cpus) (sym board) (subst (λ (cs : List CpuShown). All (λ (x : CpuShown). x.board ≡ c.args.list.now.board) cs) (sym c.note_first.ensures.cpus) before)

pub returns-clause-met : goal.returns-clause-met
returns-clause-met c =
    let united = ap (λ m. m.0.parts) c.unite_seat.ensures.seat.1 ∙ (λ i. (c.split_off-all.ensures.gone.1 i).0.parts ++ (c.split_off-next.ensures.gone.1 i).0.parts) ∙ (λ i. (c.list.invariant.me i).0.parts ++ (c.pass.invariant.me i).0.parts) in
    met_shown _ _ _ _ _ _ _ _ _ _ _ c.deref-words.ensures (c.list.view_is ∙ c.note_first.ensures.list) (ap (λ (x : PassShown). x.next) c.pass.view_is) united c.meet_rest-all.ensures.safe c.note_first.ensures.cpus c.meet_rest-all.ensures.cpus c.requires.all
