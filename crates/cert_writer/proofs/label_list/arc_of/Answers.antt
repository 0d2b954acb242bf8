use Rattle.cert_writer.proofs.label_list.arc_of.Goals as goal

pub last_arc-requires-clause-all_relevant : goal.last_arc-requires-clause-all_relevant
last_arc-requires-clause-all_relevant g c = (c.requires.whole.limit, c.requires.whole.relevant)
