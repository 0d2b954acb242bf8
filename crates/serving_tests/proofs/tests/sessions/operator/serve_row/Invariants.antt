use Rattle.serving_tests.proofs.tests.sessions.operator.serve_row.Given as goal

-- the store that is made here
abbrev pub ghosts-operate : goal.ghosts-operate
ghosts-operate g a = record { origin = record { chronicle = a.chronicle; first = a.row.now.first; base = a.weights } }
