use Rattle.route_lanes.proofs.follow.run_follow.Given as goal

abbrev pub ghosts-follow_in_store : goal.ghosts-follow_in_store
ghosts-follow_in_store g a = record { origin = record { chronicle = a.chronicle; first = a.first; base = a.weights } }
