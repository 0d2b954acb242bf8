use Rattle.std.proofs.Common.{◌≡◌, ℕ, ◌+◌, ◌-◌, ◌≤◌, List, ◌++◌, sym, ap, ◌∙◌, append_assoc, arith}
use Rattle.std.specs.List.{flat_map, range_with_len}
use Rattle.graph_gen.specs.Texts.{pair_line}
use Rattle.graph_gen.proofs.RangeLemmas.{flat_map-range_more}
use Rattle.graph_gen.proofs.pairs.pairs_file.Goals as goal

-- a line more behind a text
put_more : (line : ℕ → List ℕ) (n : ℕ) (text before now : List ℕ) → 1 ≤ n → before ≡ text ++ flat_map line (range_with_len 1 (n - 1))
    → now ≡ before ++ line n → now ≡ text ++ flat_map line (range_with_len 1 (n + 1 - 1))
put_more line n text before now some first second =
    let count : n - 1 + 1 ≡ n + 1 - 1 = omega arith in
    second ∙ ap (λ t. t ++ line n) first ∙ append_assoc text (flat_map line (range_with_len 1 (n - 1))) (line n)
    ∙ ap (λ t. text ++ t) (sym (flat_map-range_more line 1 (n - 1) n (omega arith)) ∙ ap (λ k. flat_map line (range_with_len 1 k)) count)

pub loop-number-preserved : goal.loop-number-preserved
loop-number-preserved c =
    put_more (pair_line c.args.plan.now) c.loop-number.number _ _ _ (omega arith) c.loop-number.invariant c.in_ok-put_pair.ensures
