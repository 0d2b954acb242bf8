use Rattle.std.proofs.Common.{◌≡◌, ◌∙◌, ℕ, arith, map, subst, sym}
use Rattle.std.specs.List.{range_with_len}
use Rattle.arc_graph.specs.Joiner.{Joiner}
use Rattle.arc_graph.specs.JoinerHolds.{JoinerHolds}
use Rattle.graph_gen.specs.declared.GenPlan.{GenPlan}
use Rattle.gen_laws.specs.Laws.{file_of, files_of}
use Rattle.still_commands.proofs.PlanLemmas.{only_want_in, stands_for_more}
use Rattle.still_commands.proofs.plan.plan_network.Goals as goal

pub loop-before-preserved : goal.loop-before-preserved
loop-before-preserved c = record {
  begun = omega (arith, c.loop-before.invariant.begun, c.in_ok-read_weights.ensures.begun);
  whole = c.in_ok-read_weights.ensures.come ∙ sym c.in_ok-read_weights.ensures.due;
  stands = stands_for_more c.args.plan.now c.loop-before.before c.loop-before.joiner c.read_weights.new.joiner c.loop-before.invariant.stands
      c.in_ok-read_weights.ensures;
}

-- the joiner stands for all files
all_stand : (plan : GenPlan) (n : ℕ) (joiner : Joiner) → n ≡ plan.criteria → JoinerHolds joiner (map (file_of plan) (range_with_len 1 n))
    → JoinerHolds joiner (files_of plan)
all_stand plan n joiner all stands = subst (λ k. JoinerHolds joiner (map (file_of plan) (range_with_len 1 k))) all stands

pub want_in-requires : goal.want_in-requires
want_in-requires c =
    let stands = all_stand c.args.plan.now c.loop-before.before c.loop-before.joiner (omega (arith, c.loop-before-test.false, c.loop-before.auto.before-end))
    c.loop-before.invariant.stands in
    only_want_in (files_of c.args.plan.now) c.in-Err.fault (c.weight_files_agree.ensures c.args.plan.now c.numbers_are_in_range.ensures)
    (c.in-Err.ensures.fault (files_of c.args.plan.now) stands)

pub returns-in-Ok-clause-network : goal.returns-in-Ok-clause-network
returns-in-Ok-clause-network c =
    c.in-Ok.ensures.joined (files_of c.args.plan.now) (all_stand c.args.plan.now c.loop-before.before c.loop-before.joiner
    (omega (arith, c.loop-before-test.false, c.loop-before.auto.before-end)) c.loop-before.invariant.stands)
