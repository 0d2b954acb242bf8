use Rattle.serving_tests.proofs.tests.epochs.many.a_read_copies_changed_pages_alone.Given as goal

-- the store that is made here
abbrev pub ghosts-publish_often : goal.ghosts-publish_often
ghosts-publish_often g a = record { origin = record { chronicle = a.chronicle; first = 0; base = a.weights } }
