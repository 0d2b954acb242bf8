use Rattle.route_lanes.proofs.leader.write_feed.Given as goal

abbrev pub ghosts-write_in_store : goal.ghosts-write_in_store
ghosts-write_in_store g a = record { origin = record { chronicle = a.chronicle; first = a.first; base = a.weights } }
