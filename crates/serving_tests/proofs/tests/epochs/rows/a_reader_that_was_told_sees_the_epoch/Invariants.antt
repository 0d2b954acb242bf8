use Rattle.serving_tests.proofs.tests.epochs.rows.a_reader_that_was_told_sees_the_epoch.Given as goal

-- the store that is made here
abbrev pub ghosts-publish_and_close : goal.ghosts-publish_and_close
ghosts-publish_and_close g a = record { origin = record { chronicle = a.chronicle; first = 0; base = a.weights } }
