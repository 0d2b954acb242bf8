use Rattle.list_laws.proofs.SetLaws.{none_of_empty}
use Rattle.bulk_rounds.proofs.FoundLemmas.{has_all}
use Rattle.bulk_core.proofs.rounds.Core.into_found.Goals as goal

pub returns-clause-relevant : goal.returns-clause-relevant
returns-clause-relevant g c task s v cost at =
    let all = has_all task c.args.self s at c.requires.none_taken
    (λ x is_open. let (i, there, _) = is_open.waits in none_of_empty c.args.self.queue c.requires.none_waits i there) v cost in
    rw (← c.self.view_is, c.into_fronts.ensures) (rw (← c.self.view_is) at all)
