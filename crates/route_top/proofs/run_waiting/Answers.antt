use Rattle.std.proofs.Common.{refl}
use Rattle.route_top.specs.Serve.{left_alone, serves}
use Rattle.route_top.proofs.OutputLemmas.{never_ten_of_follow, never_ten_of_lanes}
use Rattle.route_top.proofs.run_waiting.Goals as goal

pub returns-in-Lanes-clause-town : goal.returns-in-Lanes-clause-town
returns-in-Lanes-clause-town g c =
    left_alone (λ s also. let is = c.in-Lanes.is in cc)
    (never_ten_of_lanes (g.F.Source.state c.args.folder.now).files c.in-Lanes.asked c.run.ensures.ends) refl

pub returns-in-Serve-clause-town : goal.returns-in-Serve-clause-town
returns-in-Serve-clause-town g c = serves c.in-Serve.asked (let is = c.in-Serve.is in cc) c.run-in-Serve.ensures.town

pub returns-in-Follow-clause-town : goal.returns-in-Follow-clause-town
returns-in-Follow-clause-town g c =
    left_alone (λ s also. let is = c.in-Follow.is in cc)
    (never_ten_of_follow (g.F.Source.state c.args.folder.now).files c.in-Follow.asked c.run-in-Follow.ensures.ends) refl
