use Rattle.core_steps.proofs.SweepBounds.{unload_bounded, clean_bounded, clean_of_nothing, sweep_falls, ends_exactly, stays_held}
use Rattle.core_steps.proofs.bounds.sweeps_are_bounded.Goals as goal

pub returns-clause-unload : goal.returns-clause-unload
returns-clause-unload c s section e ops core is found unused = unload_bounded s section e ops core is found

pub returns-clause-clean : goal.returns-clause-clean
returns-clause-clean c s ops core is = clean_bounded s ops core is

pub returns-clause-nothing_dead : goal.returns-clause-nothing_dead
returns-clause-nothing_dead c s ops is none = clean_of_nothing s ops is none

pub returns-clause-fewer : goal.returns-clause-fewer
returns-clause-fewer c s core way = sweep_falls s core way

pub returns-clause-ends : goal.returns-clause-ends
returns-clause-ends c s op ops core is = ends_exactly s op ops core is

pub returns-clause-held : goal.returns-clause-held
returns-clause-held c s cpu core way free = stays_held s cpu core way free
