-- What a joiner keeps when an arc of a later file comes.
use Rattle.std.proofs.Common.{◌≡◌, ℕ, ◌+◌, ◌-◌, ◌^◌, ◌<◌, ◌≤◌, List, Option, length, get_or, set, arith, ◌∙◌, subst, sym}
use Rattle.std.specs.Prelude.{All}
use Rattle.std.proofs.lemmas.List.Elements.{All-get_or, All-set}
use Rattle.std.proofs.lemmas.List.{length-set}
use Rattle.arc_graph.specs.declared.join.OtherEnds.{OtherEnds}
use Rattle.arc_graph.specs.Joiner.{Joiner, IsJoiner}
use Rattle.arc_graph.specs.Stored.{IsStoredState}
use Rattle.arc_graph.proofs.Places.{stored_after_set}

-- one arc more has come, whose weight is stored
pub joining_after_arc : (j : Joiner) (vectors : List (List ℕ)) (known : Option OtherEnds) → 2 ≤ j.begun → j.come < j.due_arcs → length vectors ≡ length j.ends
    → All (IsStoredState j.begun) vectors → IsJoiner j → IsJoiner (record j { vectors = vectors; come = j.come + 1; other_ends = known })
joining_after_arc j vectors known later due matched stored kept = record {
  files = kept.files;
  come = omega arith;
  due = kept.due;
  none_begun = kept.none_begun;
  first_begun = λ one. absurd (omega arith);
  some_node = kept.some_node;
  nodes = kept.nodes;
  arcs = kept.arcs;
  tails = kept.tails;
  heads = kept.heads;
  matched = matched;
  stored = stored;
}

-- its weight is written at its place
pub joining_after_weight : (j : Joiner) (places : List ℕ) (x : ℕ) (known : Option OtherEnds) → 2 ≤ j.begun → j.come < j.due_arcs → j.come < length j.ends
    → x < 2 ^ 32 → places ≡ get_or j.vectors j.come places → IsJoiner j
    → IsJoiner (record j { vectors = set j.vectors j.come (set places (j.begun - 1) x); come = j.come + 1; other_ends = known })
joining_after_weight j places x known later due there small at kept =
    let Stored : List ℕ → Type 0 = IsStoredState j.begun in
    let stored : Stored places = subst Stored (sym at) (All-get_or Stored j.vectors j.come places (omega (arith, kept.matched)) kept.stored) in
    let written = set places (j.begun - 1) x in
    joining_after_arc j (set j.vectors j.come written) known later due (length-set j.vectors j.come written ∙ kept.matched)
    (All-set Stored j.vectors j.come written (stored_after_set j.begun places x (omega arith) small stored) kept.stored) kept
