use Rattle.arc_graph.proofs.CopiedPageLemmas.{put_page}
use Rattle.arc_graph.proofs.weights.copy_page_of.Goals as goal

pub returns : goal.returns
returns c = put_page c.args.page c.min-end.result c.args.to.now c.args.from.now c.copy_from_slice.new.self c.requires.there c.requires.same c.min-end.ensures
    c.copy_from_slice.ensures.after
