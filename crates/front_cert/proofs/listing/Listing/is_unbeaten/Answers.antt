use Rattle.front_cert.proofs.listing.Listing.is_unbeaten.Goals as goal

pub returns : goal.returns
returns c = rw (← c.self.view_is) c.self.invariant.2
