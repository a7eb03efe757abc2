use Rattle.worked_values.proofs.minute_tests.given_and_read.Given as goal

abbrev pub ghosts-given_and_read_by : goal.ghosts-given_and_read_by
ghosts-given_and_read_by a = record { name = a.blank.name; parts = a.blank.parts }
