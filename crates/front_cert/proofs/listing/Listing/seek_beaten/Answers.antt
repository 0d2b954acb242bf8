use Rattle.std.proofs.Common.{ap, not, ◌∙◌}
use Rattle.front_cert.proofs.PassedLemmas.{unbeaten_if_none}
use Rattle.front_cert.proofs.listing.Listing.seek_beaten.Goals as goal

pub set_unbeaten-requires : goal.set_unbeaten-requires
set_unbeaten-requires c =
    λ none. unbeaten_if_none c.args.self.now.cert.labels c.in_ok-beaten.beaten c.in_ok-beaten.ensures (ap not (c.is_none.ensures ∙ ap not none))
