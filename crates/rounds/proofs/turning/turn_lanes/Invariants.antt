use Rattle.rounds.proofs.turning.turn_lanes.Given as goal

abbrev pub ghosts-run_named : goal.ghosts-run_named
ghosts-run_named g a = record { board = a.locked.board }
