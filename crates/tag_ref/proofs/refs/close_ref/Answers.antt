use Rattle.std.proofs.Common.{◌≡◌, refl, ap, sym, ◌∙◌, arith}
use Rattle.tag_model.specs.declared.state.Held.TheVariants as held
use Rattle.tag_ref.specs.Refs.{closed_as}
use Rattle.tag_ref.proofs.RefSteps.{clears_mark, closes, empty_mark, holds_bytes, holds_call, lessens, meets_close, write_cleared}
use Rattle.tag_ref.proofs.refs.close_ref.Goals as goal

pub write_cell-requires-clause-step : goal.write_cell-requires-clause-step
write_cell-requires-clause-step c = write_cleared c.args.cpu.now.part c.args.cell.now.held c.requires.no_hand c.tell.ensures.holds.held

pub sub_bytes-requires : goal.sub_bytes-requires
sub_bytes-requires c =
    holds_bytes c.args.cpu.now c.write_cell.new.cpu c.args.cell.now.held c.in-Counted.tag c.in-Counted.size c.in-Counted.size c.requires.no_hand (sym c.held-held.ensures ∙ c.in-Counted.is) (omega arith) c.write_cell.ensures.cpu

pub sub_call-requires : goal.sub_call-requires
sub_call-requires c =
    holds_call c.args.cpu.now c.sub_bytes.new.cpu c.in-Counted.tag c.in-Counted.size
    (lessens c.args.cpu.now c.write_cell.new.cpu c.sub_bytes.new.cpu c.args.cell.now.held c.in-Counted.tag c.in-Counted.size c.in-Counted.size c.requires.no_hand (sym c.held-held.ensures ∙ c.in-Counted.is) c.write_cell.ensures.cpu c.sub_bytes.ensures.subtracted c.sub_bytes.ensures.board)

pub returns-in-Counted-clause-cpu : goal.returns-in-Counted-clause-cpu
returns-in-Counted-clause-cpu c =
    closes c.args.cpu.now c.sub_bytes.new.cpu c.sub_call.new.cpu c.args.cell.now.held c.in-Counted.tag c.in-Counted.size c.requires.no_hand (sym c.held-held.ensures ∙ c.in-Counted.is)
    (lessens c.args.cpu.now c.write_cell.new.cpu c.sub_bytes.new.cpu c.args.cell.now.held c.in-Counted.tag c.in-Counted.size c.in-Counted.size c.requires.no_hand (sym c.held-held.ensures ∙ c.in-Counted.is) c.write_cell.ensures.cpu c.sub_bytes.ensures.subtracted c.sub_bytes.ensures.board)
    c.sub_call.ensures.subtracted c.sub_call.ensures.board

pub returns-in-Counted-clause-machine : goal.returns-in-Counted-clause-machine
returns-in-Counted-clause-machine c = meets_close c.args.cpu.now c.sub_call.new.cpu c.args.cell.now c.write_cell.new.cell c.write_cell.ensures.cell (returns-in-Counted-clause-cpu c)

pub returns-in_default : goal.returns-in_default
returns-in_default c =
    let is : c.args.cell.now.held ≡ held.Empty = empty_mark c.args.cell.now.held (λ tag size e. c.in_default.not-Counted tag size (c.held-held.ensures ∙ e)) c.requires.some in
    let cpu = clears_mark c.args.cpu.now c.write_cell.new.cpu c.args.cell.now.held is c.write_cell.ensures.cpu in
    record {
      answer = ap closed_as (sym is);
      was_empty = (λ e. is, λ e. refl);
      cell = c.write_cell.ensures.cell;
      cpu = cpu;
      machine = meets_close c.args.cpu.now c.write_cell.new.cpu c.args.cell.now c.write_cell.new.cell c.write_cell.ensures.cell cpu;
    }
