use Rattle.front_tests.proofs.tests.queue.rounds.Goals as goal

pub take-requires-send-C : goal.take-requires-send-C
take-requires-send-C g c κs within = record { owned = c.type_bounds.send-C.owned; leaving = c.type_bounds.send-C.leaving }

pub take-requires-send-C-Part : goal.take-requires-send-C-Part
take-requires-send-C-Part g c κs within = record { owned = c.type_bounds.send-C-Part.owned; leaving = c.type_bounds.send-C-Part.leaving }

pub take-requires-sync-C : goal.take-requires-sync-C
take-requires-sync-C g c κs within = record { shared = c.type_bounds.sync-C.shared }

pub take-requires-sync-C-Part : goal.take-requires-sync-C-Part
take-requires-sync-C-Part g c κs within = record { shared = c.type_bounds.sync-C-Part.shared }

pub take-requires-sync-G : goal.take-requires-sync-G
take-requires-sync-G g c κs within = record { shared = c.type_bounds.sync-G.shared }

pub take-requires-sync-R : goal.take-requires-sync-R
take-requires-sync-R g c κs within = record { shared = c.type_bounds.sync-R.shared }

pub take-requires-in-loop-round-send-C : goal.take-requires-in-loop-round-send-C
take-requires-in-loop-round-send-C g c κs within = record { owned = c.type_bounds.send-C.owned; leaving = c.type_bounds.send-C.leaving }

pub take-requires-in-loop-round-send-C-Part : goal.take-requires-in-loop-round-send-C-Part
take-requires-in-loop-round-send-C-Part g c κs within = record { owned = c.type_bounds.send-C-Part.owned; leaving = c.type_bounds.send-C-Part.leaving }

pub take-requires-in-loop-round-sync-C : goal.take-requires-in-loop-round-sync-C
take-requires-in-loop-round-sync-C g c κs within = record { shared = c.type_bounds.sync-C.shared }

pub take-requires-in-loop-round-sync-C-Part : goal.take-requires-in-loop-round-sync-C-Part
take-requires-in-loop-round-sync-C-Part g c κs within = record { shared = c.type_bounds.sync-C-Part.shared }

pub take-requires-in-loop-round-sync-G : goal.take-requires-in-loop-round-sync-G
take-requires-in-loop-round-sync-G g c κs within = record { shared = c.type_bounds.sync-G.shared }

pub take-requires-in-loop-round-sync-R : goal.take-requires-in-loop-round-sync-R
take-requires-in-loop-round-sync-R g c κs within = record { shared = c.type_bounds.sync-R.shared }
