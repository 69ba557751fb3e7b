use Rattle.std.proofs.Common.{◌≡◌, ◌-◌, ap, sym, ◌∙◌, arith}
use Rattle.tag_model.specs.declared.state.Held.TheVariants as held
use Rattle.tag_model.specs.RefMoves.{trim_moves, trimmed}
use Rattle.tag_ref.specs.Refs.{holding, moved_by}
use Rattle.tag_rule.specs.Shown.{CellShown}
use Rattle.tag_ref.proofs.RefSteps.{holds_bytes, lessens, meets_trim, no_trim_moves, NotCounted, some_left, small_held, trims, untrimmed, write_lowered}
use Rattle.tag_ref.proofs.refs.trim_ref.Goals as goal

pub sub_bytes-requires : goal.sub_bytes-requires
sub_bytes-requires c =
    let is = sym c.held.ensures ∙ c.in-Counted.is in
    let below = some_left c.args.cell.now.held c.in-Counted.tag c.in-Counted.size c.args.bytes is c.requires.within in
    holds_bytes c.args.cpu.now c.write_cell.new.cpu c.args.cell.now.held c.in-Counted.tag c.in-Counted.size c.args.bytes c.requires.no_hand is (omega (arith, below)) c.write_cell.ensures.cpu

pub write_cell-requires-in-Counted-clause-step : goal.write_cell-requires-in-Counted-clause-step
write_cell-requires-in-Counted-clause-step c =
    let is = sym c.held.ensures ∙ c.in-Counted.is in
    let below = some_left c.args.cell.now.held c.in-Counted.tag c.in-Counted.size c.args.bytes is c.requires.within in
    write_lowered c.args.cpu.now c.sub_bytes.new.cpu c.write_cell.new.cell.held c.in-Counted.tag c.in-Counted.size c.args.bytes
    (ap (λ (p : CellShown). p.held) c.write_cell.ensures.cell) below (small_held c.args.cell.now.held c.in-Counted.tag c.in-Counted.size is c.tell.ensures.holds.held)
    (lessens c.args.cpu.now c.write_cell.new.cpu c.sub_bytes.new.cpu c.args.cell.now.held c.in-Counted.tag c.in-Counted.size c.args.bytes c.requires.no_hand is c.write_cell.ensures.cpu c.sub_bytes.ensures.subtracted c.sub_bytes.ensures.board)

pub returns-in-Counted-clause-cpu : goal.returns-in-Counted-clause-cpu
returns-in-Counted-clause-cpu c =
    let is = sym c.held.ensures ∙ c.in-Counted.is in
    trims c.args.cpu.now c.sub_bytes.new.cpu c.write_cell-in-Counted.new.cpu c.args.cell.now.held c.write_cell.new.cell.held c.in-Counted.tag c.in-Counted.size c.args.bytes c.requires.no_hand is
    (ap (λ (p : CellShown). p.held) c.write_cell.ensures.cell)
    (lessens c.args.cpu.now c.write_cell.new.cpu c.sub_bytes.new.cpu c.args.cell.now.held c.in-Counted.tag c.in-Counted.size c.args.bytes c.requires.no_hand is c.write_cell.ensures.cpu c.sub_bytes.ensures.subtracted c.sub_bytes.ensures.board)
    c.write_cell-in-Counted.ensures.cpu

pub returns-in-Counted-clause-machine : goal.returns-in-Counted-clause-machine
returns-in-Counted-clause-machine c =
    let is = sym c.held.ensures ∙ c.in-Counted.is in
    let cell : c.write_cell-in-Counted.new.cell ≡ holding (trimmed c.args.bytes c.args.cell.now.held) c.args.cell.now =
    c.write_cell-in-Counted.ensures.cell ∙ ap (holding (held.Counted c.in-Counted.tag (c.in-Counted.size - c.args.bytes))) c.write_cell.ensures.cell ∙ ap (λ h. holding (trimmed c.args.bytes h) c.args.cell.now) (sym is) in
    meets_trim c.args.cpu.now c.write_cell-in-Counted.new.cpu c.args.cell.now c.write_cell-in-Counted.new.cell c.args.bytes cell (returns-in-Counted-clause-cpu c)

pub returns-in_default : goal.returns-in_default
returns-in_default c =
    let not_counted : NotCounted c.args.cell.now.held = λ tag size e. c.in_default.not-Counted tag size (c.held.ensures ∙ e) in
    let cell : c.args.cell.now ≡ holding (trimmed c.args.bytes c.args.cell.now.held) c.args.cell.now = ap (λ h. holding h c.args.cell.now) (sym (untrimmed c.args.cell.now.held c.args.bytes not_counted)) in
    let cpu : c.args.cpu.now ≡ moved_by (trim_moves c.args.cpu.now.part.number c.args.bytes c.args.cell.now.held) c.args.cpu.now =
    ap (λ moves. moved_by moves c.args.cpu.now) (sym (no_trim_moves c.args.cpu.now.part.number c.args.cell.now.held c.args.bytes not_counted)) in
    record { cell = cell; cpu = cpu; machine = meets_trim c.args.cpu.now c.args.cpu.now c.args.cell.now c.args.cell.now c.args.bytes cell cpu }
