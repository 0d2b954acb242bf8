use Rattle.still_commands.specs.Summary.{pair_of}
use Rattle.still_commands.proofs.CountLemmas.{counts_answered, fits_answered}
use Rattle.still_commands.proofs.counting.Counter.count_answer.Goals as goal

pub returns-clause-counts : goal.returns-clause-counts
returns-clause-counts g c =
    counts_answered c.args.self.now.network.now c.args.query.now.budget (pair_of c.args.query.now)
    c.args.counts.now c.count_routes.new.counts c.requires.answer.within c.in_ok-count_routes.ensures.counts

pub returns-clause-fits : goal.returns-clause-fits
returns-clause-fits g c =
    fits_answered c.args.self.now.network.now c.args.query.now.from c.args.query.now.to c.args.counts.now
    c.count_routes.new.counts c.requires.fits c.in_ok-count_routes.ensures.counts c.in_ok-count_routes.ensures.costs c.in_ok-count_routes.ensures.sums
