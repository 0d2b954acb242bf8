use Rattle.front_tests.proofs.tests.queue.passes_of_antichain.Given as goal

abbrev pub ghosts-two_passes : goal.ghosts-two_passes
ghosts-two_passes g a = record { name = a.blank.name; parts = a.blank.parts }
