use Rattle.line_text.specs.Fields.{fields_of}
use Rattle.gr_reader.specs.Grammar.{weights_form}
use Rattle.gr_reader.proofs.WeightLemmas.{kind-capped}
use Rattle.gr_reader.proofs.weights.WeightFilesGrammar.record_in.Goals as goal

pub returns-clause-refused : goal.returns-clause-refused
returns-clause-refused c =
    let same = kind-capped c.args.sizes.now c.args.come (weights_form (fields_of c.args.line.now)) c.requires in
    rw (c.form_of.ensures, same) at c.arc_in.ensures.refused
