use Rattle.bulk_search.proofs.rounds.Rounds.into_found.Goals as goal

pub returns-in_ok-found-in-Narrow : goal.returns-in_ok-found-in-Narrow
returns-in_ok-found-in-Narrow g c =
    let search = rw c.in-Narrow.is at c.requires.search in
    let says = c.into_found-fronts.ensures in
    rw (c.in-Narrow.is, ← search.start, ← search.target, ← says.nodes, ← says.settled) c.in_ok-found-in-Narrow.ensures

pub returns-in_ok-found-in-Wide : goal.returns-in_ok-found-in-Wide
returns-in_ok-found-in-Wide g c =
    let search = rw c.in-Wide.is at c.requires.search in
    let says = c.into_found-fronts-in-Wide.ensures in
    rw (c.in-Wide.is, ← search.start, ← search.target, ← says.nodes, ← says.settled) c.in_ok-found-in-Wide.ensures
