use Rattle.rounds.proofs.TurnedLanes.{beside_left, few, finds_home, lanes_ready, taken, turned}
use Rattle.rounds.proofs.turning.turn_lanes.Goals as goal

pub slice_bounds-first-end : goal.slice_bounds-first-end
slice_bounds-first-end g c = let s = c.requires.dealt in few s.turn _ _ _ s.is

pub slice_bounds-first-end-2 : goal.slice_bounds-first-end-2
slice_bounds-first-end-2 g c = let s = c.requires.dealt in taken s.turn _ _ _ s.is

pub run_named-requires-clause-ready : goal.run_named-requires-clause-ready
run_named-requires-clause-ready g c κs within = let s = c.requires.dealt in lanes_ready s.turn _ _ _ s.is

pub bring_home-requires-clause-beside : goal.bring_home-requires-clause-beside
bring_home-requires-clause-beside g c = let s = c.requires.dealt in beside_left s.turn _ _ _ s.is _ _ c.in_ok-locked.ensures.done

pub bring_home-requires-clause-finds : goal.bring_home-requires-clause-finds
bring_home-requires-clause-finds g c = let s = c.requires.dealt in finds_home s.turn _ _ _ s.is _ _ c.in_ok-locked.ensures.done

pub returns-clause-turned : goal.returns-clause-turned
returns-clause-turned g c = λ t is. turned t _ _ _ is _ _ c.in_ok-locked.ensures.done _ _ c.bring_home.ensures.workers c.bring_home.ensures.cpus c.bring_home.ensures.beside
