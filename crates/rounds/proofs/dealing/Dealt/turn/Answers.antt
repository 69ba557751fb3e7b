use Rattle.std.proofs.Common.{Vec, Global, map, ap}
use Rattle.trace.specs.declared.traces.OnOp.{OnOp}
use Rattle.rounds.proofs.TurnedDesk.{dealt_parts, desk_turned}
use Rattle.rounds.proofs.dealing.Dealt.turn.Goals as goal

pub turn_lanes-requires-clause-dealt : goal.turn_lanes-requires-clause-dealt
turn_lanes-requires-clause-dealt g c κs within = record {
  turn = c.requires.turn;
  is = dealt_parts c.requires.turn c.args.self c.requires.is _ _ _ (ap (map (λ (lane : Vec OnOp Global). lane.items)) c.as_slice.ensures.value) c.as_mut_slice.ensures.value c.as_mut_slice-2.ensures.value;
}

pub returns : goal.returns
returns g c = λ t is.
    let given = dealt_parts t c.args.self is _ _ _ (ap (map (λ (lane : Vec OnOp Global). lane.items)) c.as_slice.ensures.value) c.as_mut_slice.ensures.value c.as_mut_slice-2.ensures.value in
    desk_turned t c.args.self is _ _ _ c.in_ok-desk.field-0 c.as_mut_slice-2.ensures.value c.in_ok-desk.ensures.board (c.in_ok-desk.ensures.turned t given)
