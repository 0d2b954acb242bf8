use Rattle.std.proofs.Common.{◌≡◌, ◌∙◌, ◌+◌, ℕ, codes, length, map, sym, subst, arith}
use Rattle.std.specs.List.{range_with_len}
use Rattle.std.proofs.lemmas.Bool.{le-leb}
use Rattle.std.proofs.lemmas.List.{length-map}
use Rattle.std.proofs.lemmas.List.FromFn.{length-range_with_len}
use Rattle.line_text.proofs.WrittenLineLemmas.{line_of_fields}
use Rattle.gr_reader.specs.Rules.{IsWithinRange}
use Rattle.gr_reader.specs.Files.{IsFile}
use Rattle.gr_reader.proofs.WrittenFileLemmas.{SaysRecord, is_file}
use Rattle.query_reader.specs.Grammar.{max_pairs, pairs}
use Rattle.query_reader.proofs.WrittenPairLemmas.{count_fields, end_fields, says_count}
use Rattle.graph_gen.specs.Texts.{diagonal_node, pairs_text, reach, start_row}
use Rattle.gen_laws.specs.Laws.{pair_of}
use Rattle.gen_laws.proofs.GridLemmas.{all_range}
use Rattle.gen_laws.proofs.PairLemmas.{pair_in_range, says_pair_of}
use Rattle.gen_laws.proofs.pair_files_are_read.Goals as goal

pub returns : goal.returns
returns c = λ limits plan room is.
    let line = λ (i : ℕ). line_of_fields (codes "q")
    (end_fields (diagonal_node plan.side (start_row plan i)) (diagonal_node plan.side (start_row plan i + reach plan.side))) in
    let numbers = range_with_len 1 plan.pairs in
    let count : length numbers ≡ plan.pairs = length-range_with_len 1 plan.pairs in
    let all = all_range (SaysRecord pairs line (pair_of plan)) 1 plan.pairs (λ i low high. says_pair_of plan is i (omega arith)) in
    let ranges = all_range (λ i. IsWithinRange pairs plan.pairs (pair_of plan i)) 1 plan.pairs (λ i low high. pair_in_range plan is i (omega arith)) in
    let file = is_file pairs line (pair_of plan) limits (line_of_fields (codes "p") (count_fields plan.pairs)) plan.pairs numbers room.line room.file
    (says_count plan.pairs (omega (arith, is.pairs))) all (omega (arith, is.pairs)) (le-leb plan.pairs max_pairs (omega (arith, is.pairs))) count ranges in
    subst (λ (k : ℕ). IsFile pairs limits (pairs_text plan) k (map (pair_of plan) numbers)) (sym (length-map numbers (pair_of plan) ∙ count)) file
