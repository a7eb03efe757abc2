use Rattle.tacho.proofs.minutes.run.Given as goal

abbrev pub ghosts-run_pieces : goal.ghosts-run_pieces
ghosts-run_pieces a = record { name = a.blank.name; parts = a.blank.parts }
