use Rattle.std.proofs.Common.{◌∙◌}
use Rattle.line_text.proofs.HttpLemmas.{shows_http}
use Rattle.line_text.proofs.http.LastField.is_http.Goals as goal

pub returns : goal.returns
returns c line shows = c.ends_named.ensures ∙ shows_http c.args.self line shows
