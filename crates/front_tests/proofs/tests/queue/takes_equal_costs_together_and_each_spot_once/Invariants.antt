use Rattle.front_tests.proofs.tests.queue.takes_equal_costs_together_and_each_spot_once.Given as goal

abbrev pub ghosts-two_passes : goal.ghosts-two_passes
ghosts-two_passes g a = record { name = a.blank.name; parts = a.blank.parts }
