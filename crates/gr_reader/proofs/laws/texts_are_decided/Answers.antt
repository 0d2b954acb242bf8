use Rattle.gr_reader.proofs.LawsLemmas.{texts_are_decided}
use Rattle.gr_reader.proofs.laws.texts_are_decided.Goals as goal

pub returns : goal.returns
returns g c = texts_are_decided g.G.Grammar.rules
