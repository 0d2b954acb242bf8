use Rattle.serving_tests.proofs.tests.sessions.session.serve_row.Given as goal

-- the store that is made here
abbrev pub ghosts-serve_store : goal.ghosts-serve_store
ghosts-serve_store g a = record { origin = record { chronicle = a.chronicle; first = 0; base = a.weights } }
