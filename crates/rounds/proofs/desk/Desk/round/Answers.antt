use Rattle.rounds.proofs.desk.Desk.round.Goals as goal

pub turn-requires-after_bounds : goal.turn-requires-after_bounds
turn-requires-after_bounds g c κs within = record { turn = c.requires.turn; is = c.in_ok-dealt.ensures c.requires.turn c.requires.ops_are c.requires.is }

pub settle-requires : goal.settle-requires
settle-requires g c = record { turn = c.requires.turn; is = c.in_ok-turned.ensures c.requires.turn (c.in_ok-dealt.ensures c.requires.turn c.requires.ops_are c.requires.is) }

pub returns : goal.returns
returns g c = λ t e is. c.settle.ensures t (c.in_ok-turned.ensures t (c.in_ok-dealt.ensures t e is))
