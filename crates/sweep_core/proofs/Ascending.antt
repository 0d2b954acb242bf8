-- What waits comes behind what is settled: the least item leaves, and what follows it costs at least as much in each component.
use Rattle.std.proofs.Common.{ℕ, List, inl, inr, sym, subst}
use Rattle.std.proofs.lemmas.Bool.{cases_eq}
use Rattle.std.proofs.lemmas.List.Elements.{All-push}
use Rattle.list_laws.proofs.Members.{all_from_in, each_in}
use Rattle.cost_vector.specs.Costs.{AtMost, LexLess}
use Rattle.cost_vector.proofs.Vectors.{LexLess_from_AtMost, LexLess-trans, cases_same}
use Rattle.sweep_parts.specs.Settled.{IsBehind, Pushes, costs_of}

-- what a cost doesn't come before, no cost does that is at least as great in each component
pub behind_above : (a b c : List ℕ) → AtMost a b → ¬ LexLess a c → ¬ LexLess b c
behind_above a b c at_most not less = elim (cases_same a b) [
  | inl same ↦ not (subst (λ x. LexLess x c) (sym same) less)
  | inr differs ↦ not (LexLess-trans a b c (LexLess_from_AtMost a b at_most differs) less)
]

pub all_behind_above : (costs : List (List ℕ)) (a b : List ℕ) → AtMost a b → IsBehind costs a → IsBehind costs b
all_behind_above costs a b at_most behind =
    all_from_in (λ x. ¬ LexLess b x) costs (λ x there. behind_above a b x at_most (each_in (λ y. ¬ LexLess a y) costs behind x there))

-- what comes behind all that was settled and behind the cost that is settled now comes behind all that is settled now
pub behind_pushed : (before after : List (List (List ℕ))) (v : ℕ) (c b : List ℕ) → Pushes before v c after
    → ((w : ℕ) → IsBehind (costs_of before w) b) → ¬ LexLess b c → (w : ℕ) → IsBehind (costs_of after w) b
behind_pushed before after v c b pushes behind last w = elim (cases_eq w v) [
  | inl here ↦ subst (λ u. IsBehind (costs_of after u) b) (sym here)
      (subst (λ costs. IsBehind costs b) (sym pushes.pushed) (All-push (λ x. ¬ LexLess b x) (costs_of before v) c (behind v) last))
  | inr other ↦ subst (λ costs. IsBehind costs b) (sym (pushes.others w other)) (behind w)
]
