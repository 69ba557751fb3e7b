use Rattle.reclaim.proofs.tests.yard.work_beside.Given as goal

abbrev pub ghosts-work : goal.ghosts-work
ghosts-work g a = record { board = a.yard.locked.board }
