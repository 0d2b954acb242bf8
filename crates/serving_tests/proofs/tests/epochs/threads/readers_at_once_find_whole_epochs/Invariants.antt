use Rattle.serving_tests.proofs.tests.epochs.threads.readers_at_once_find_whole_epochs.Given as goal

-- the store that is made here
abbrev pub ghosts-publish_beside_readers : goal.ghosts-publish_beside_readers
ghosts-publish_beside_readers g a = record { origin = record { chronicle = a.chronicle; first = 0; base = a.weights } }
