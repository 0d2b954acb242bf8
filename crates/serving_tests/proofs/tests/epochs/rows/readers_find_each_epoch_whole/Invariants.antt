use Rattle.serving_tests.proofs.tests.epochs.rows.readers_find_each_epoch_whole.Given as goal

-- the store that is made here
abbrev pub ghosts-publish_over_a_page : goal.ghosts-publish_over_a_page
ghosts-publish_over_a_page g a = record { origin = record { chronicle = a.chronicle; first = 7; base = a.weights } }
