use Rattle.route_lanes.proofs.serve.serve_lanes.Given as goal

abbrev pub ghosts-serve_in_store : goal.ghosts-serve_in_store
ghosts-serve_in_store g a = record { origin = record { chronicle = a.chronicle; first = a.first; base = a.weights } }
