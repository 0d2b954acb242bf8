use Rattle.arc_graph.proofs.PageLemmas.{same_by_pages}
use Rattle.arc_graph.proofs.histories.pages_have_all_arcs.Goals as goal

pub returns-clause-equal : goal.returns-clause-equal
returns-clause-equal c = same_by_pages
