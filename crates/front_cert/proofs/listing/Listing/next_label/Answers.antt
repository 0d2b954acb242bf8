use Rattle.front_cert.specs.Listing.{line_of}
use Rattle.front_cert.proofs.PassedLemmas.{turned}
use Rattle.front_cert.proofs.listing.Listing.next_label.Goals as goal

pub returns-clause-passed : goal.returns-clause-passed
returns-clause-passed g c =
    turned c.args.self.now.cert.labels c.requires.ascending c.args.i (line_of c.label-label.result) c.label-label.ensures c.args.last.0
    (g.F.SettledFront.costs c.args.costs.now) (g.F.SettledFront.costs c.turn.new.costs) c.requires.passed c.turn.ensures.stays c.turn.ensures.begins
