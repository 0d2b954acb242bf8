use Rattle.line_text.proofs.HttpLemmas.{shows_ended, shows_on}
use Rattle.std.proofs.Common.{sym, ◌∙◌}
use Rattle.line_text.proofs.http.LastField.behind_one.Goals as goal

pub returns-then-is_blank : goal.returns-then-is_blank
returns-then-is_blank c text shows =
    rw c.is_named.ensures (shows_ended c.args.self text c.args.byte (sym c.is_blank.ensures ∙ c.if-is_blank.true) shows)

pub returns-else-is_blank : goal.returns-else-is_blank
returns-else-is_blank c text shows =
    rw c.go_on.ensures (shows_on c.args.self text c.args.byte (sym c.is_blank.ensures ∙ c.if-is_blank.false) shows)
