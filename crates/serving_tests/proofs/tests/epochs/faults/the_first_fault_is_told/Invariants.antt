use Rattle.serving_tests.proofs.tests.epochs.faults.the_first_fault_is_told.Given as goal

-- the store that is made here
abbrev pub ghosts-refuse_all : goal.ghosts-refuse_all
ghosts-refuse_all g a = record { origin = record { chronicle = a.chronicle; first = 4294967294; base = a.weights } }
