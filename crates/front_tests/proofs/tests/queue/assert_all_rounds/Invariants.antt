use Rattle.front_tests.proofs.tests.queue.assert_all_rounds.Given as goal

abbrev pub ghosts-all_rounds : goal.ghosts-all_rounds
ghosts-all_rounds g a = record { name = a.blank.name; parts = a.blank.parts }
