use Rattle.serving_tests.proofs.tests.feeds.follow.Given as goal

-- the store that is made here
abbrev pub ghosts-follow_in : goal.ghosts-follow_in
ghosts-follow_in g a = record { origin = record { chronicle = a.chronicle; first = 0; base = a.weights } }
