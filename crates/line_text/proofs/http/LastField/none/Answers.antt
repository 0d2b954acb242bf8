use Rattle.line_text.proofs.HttpLemmas.{shows_none}
use Rattle.line_text.proofs.http.LastField.none.Goals as goal

pub returns : goal.returns
returns c = shows_none
