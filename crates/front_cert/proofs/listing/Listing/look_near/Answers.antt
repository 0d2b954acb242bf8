use Rattle.front_cert.proofs.listing.Listing.look_near.Goals as goal

pub returns-in-Some-clause-found : goal.returns-in-Some-clause-found
returns-in-Some-clause-found c arc = rw (← c.self.view_is) (rw c.deref-3.ensures.value at (c.in-Some.ensures arc))

pub returns-in-None-clause-found : goal.returns-in-None-clause-found
returns-in-None-clause-found c arc = rw (← c.self.view_is) (rw c.deref-3.ensures.value at (c.in-None.ensures arc))
