use Rattle.front_cert.proofs.listing.Listing.set_unbeaten.Goals as goal

pub invariant_of-self : goal.invariant_of-self
invariant_of-self c = (c.self.invariant.0, c.self.invariant.1, rw (← c.self.view_is) at c.requires)
