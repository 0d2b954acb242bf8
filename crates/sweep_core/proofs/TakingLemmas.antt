-- What leaves a queue, time after time.
use Rattle.std.proofs.Common.{◌<◌, List, ◌∷◌, length, inl, inr, subst, sym, arith}
use Rattle.std.specs.Prelude.{All, Contains}
use Rattle.std.proofs.lemmas.List.Sorted.{Contains-permutation, IsPermutation-sym, length_permutation}
use Rattle.list_laws.proofs.Members.{all_from_in, cases_in, each_in, in_first, in_rest}
use Rattle.waiting_item.specs.Waiting.{Spot, Waiting}
use Rattle.sweep_parts.specs.Leaving.{LosesSpent, TakesLeast}

module _ (Spent : Spot → Type 0) where
  pub loses_none : (queue : List Waiting) → LosesSpent Spent queue queue
  loses_none queue = record { old = λ w there. there; kept = λ w there. inl there; fewer = omega arith }

  pub loses_more : (before between after : List Waiting) → LosesSpent Spent before between → LosesSpent Spent between after → LosesSpent Spent before after
  loses_more before between after first second = record {
    old = λ w there. first.old w (second.old w there);
    kept = λ w there. elim (first.kept w there) [ inr spent ↦ inr spent | inl still ↦ second.kept w still ];
    fewer = omega (arith, first.fewer, second.fewer);
  }

  pub takes_later : (before between after : List Waiting) (i : Waiting) → LosesSpent Spent before between → TakesLeast Spent between i after
      → TakesLeast Spent before i after
  takes_later before between after i loses takes =
      record { still = takes.still; loses = loses_more before between takes.still loses takes.loses; leaves = takes.leaves }

  -- one fewer waits
  pub fewer_wait : (before after : List Waiting) (i : Waiting) → TakesLeast Spent before i after → length after < length before
  fewer_wait before after i takes = omega (arith, length_permutation takes.still (i ∷ after) takes.leaves.rest, takes.loses.fewer)

  -- it waited
  pub taken_waited : (before after : List Waiting) (i : Waiting) → TakesLeast Spent before i after → Contains before i
  taken_waited before after i takes = takes.loses.old i
      (Contains-permutation (i ∷ after) takes.still i (IsPermutation-sym takes.still (i ∷ after) takes.leaves.rest) (in_first i after))

  -- a spent one that is taken isn't missed
  pub spent_taken : (before after : List Waiting) (i : Waiting) → TakesLeast Spent before i after → Spent i.spot → LosesSpent Spent before after
  spent_taken before after i takes spent = record {
    old = λ w there. takes.loses.old w
        (Contains-permutation (i ∷ after) takes.still w (IsPermutation-sym takes.still (i ∷ after) takes.leaves.rest) (in_rest i after w there));
    kept = λ w there. elim (takes.loses.kept w there) [
      | inr gone ↦ inr gone
      | inl still ↦ elim (cases_in i after w (Contains-permutation takes.still (i ∷ after) w takes.leaves.rest still)) [
        | inl same ↦ inr (subst (λ (z : Waiting). Spent z.spot) (sym same) spent)
        | inr waits ↦ inl waits
      ]
    ];
    fewer = omega (arith, fewer_wait before after i takes);
  }

  -- what holds of all that waited holds of all that is left
  pub all_left : (Q : Waiting → Type 0) (before after : List Waiting) → LosesSpent Spent before after → All Q before → All Q after
  all_left Q before after loses all = all_from_in Q after (λ w there. each_in Q before all w (loses.old w there))
