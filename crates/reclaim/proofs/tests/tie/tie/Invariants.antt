use Rattle.reclaim.proofs.tests.tie.tie.Given as goal

abbrev pub ghosts-tied : goal.ghosts-tied
ghosts-tied g a = record { board = a.stage.locked.board }
