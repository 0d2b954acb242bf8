use Rattle.front_cert.proofs.listing.Listing.find_near.Goals as goal

pub returns : goal.returns
returns c arc = rw (← c.self.view_is) (rw c.deref-3.ensures.value at (c.arc_at.ensures arc))
