use Rattle.plant.proofs.tests.loaded_around.Given as goal

abbrev pub ghosts-loaded_behind : goal.ghosts-loaded_behind
ghosts-loaded_behind g a = record { board = a.locked.board }
