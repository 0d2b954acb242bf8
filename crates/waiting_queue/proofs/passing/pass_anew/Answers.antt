use Rattle.std.proofs.lemmas.Result.{IfOk-weaker}
use Rattle.waiting_item.specs.Waiting.{spot_in}
use Rattle.waiting_queue.proofs.TakingLemmas.{takes_alike}
use Rattle.waiting_queue.proofs.passing.pass_anew.Goals as goal

pub returns : goal.returns
returns g c = let r = c.pass_in_turn.result in let on = c.pass_in_turn.ensures in record {
  taken = IfOk-weaker r _ _ (λ _ (seen, same, is). takes_alike (spot_in g.C.StoredCost.components) (g.K.Look.IsOpen c.args.look.now) seen _ _ _
      (λ x. ((same x).1, (same x).0)) is.takes) on;
  sorted = IfOk-weaker r _ _ (λ _ (seen, same, is). is.sorted) on;
  shadow = IfOk-weaker r _ _ (λ _ (seen, same, is). is.shadow) on;
  descends = IfOk-weaker r _ _ (λ _ (seen, same, is). is.descends) on;
}
