use Rattle.route_lanes.proofs.run.run_lanes.Given as goal

abbrev pub ghosts-run_in_store : goal.ghosts-run_in_store
ghosts-run_in_store g a = record { origin = record { chronicle = a.chronicle; first = a.first; base = a.weights } }
