-- The lines of files of pairs that are written, and what they say.
use Rattle.std.proofs.Common.{ℕ, ◌<◌, ◌^◌, List, [], ◌∷◌, Some, None, codes, decimal, ap, ◌∙◌, arith}
use Rattle.std.specs.Prelude.{if◌then◌else◌}
use Rattle.std.specs.List.{All}
use Rattle.std.proofs.lemmas.List.Elements.{All-cons}
use Rattle.line_text.proofs.WrittenLineLemmas.{IsField, IsShortField, byte_more, fields_are, fields_of-line, length-line, line_of_fields, line_text, none_short, numbers_more, one_byte}
use Rattle.gr_reader.specs.Rules.{is_ignored, number_of}
use Rattle.gr_reader.specs.Rules.LineForm.{Problem, Record}
use Rattle.gr_reader.proofs.WrittenFileLemmas.{SaysForm, number_of-decimal}
use Rattle.gr_reader.proofs.WrittenWeightLemmas.{is_p, is_sp}
use Rattle.query_reader.specs.Grammar.{pairs, pairs_form, problem_of}
use Rattle.query_reader.specs.Grammar as query

pub is_q : IsField (codes "q")
is_q = one_byte 113 (omega arith)

pub is_aux : IsField (codes "aux")
is_aux = byte_more 97 (117 ∷ 120 ∷ []) (omega arith) (byte_more 117 (120 ∷ []) (omega arith) (one_byte 120 (omega arith)))

pub is_p2p : IsField (codes "p2p")
is_p2p = byte_more 112 (50 ∷ 112 ∷ []) (omega arith) (byte_more 50 (112 ∷ []) (omega arith) (one_byte 112 (omega arith)))

-- the fields of a pair's line behind its word
abbrev pub end_fields : ℕ → ℕ → List (List ℕ)
end_fields from to = decimal from ∷ decimal to ∷ []

-- the line of a pair says it
pub says_pair : (from to : ℕ) → from < 10 ^ 16 → to < 10 ^ 16
    → SaysForm pairs (line_of_fields (codes "q") (end_fields from to)) (Record (record { from = from; to = to }))
says_pair from to low high =
    let all : All IsShortField (end_fields from to) = numbers_more from (decimal to ∷ []) low (numbers_more to [] high none_short) in
    record {
      text = line_text (codes "q") (end_fields from to) is_q (fields_are (end_fields from to) all);
      short = omega (arith, length-line (codes "q") (end_fields from to) all);
      says = ap (λ fs. if is_ignored fs then None else Some (pairs_form fs)) (fields_of-line (codes "q") (end_fields from to) is_q
          (fields_are (end_fields from to) all))
          ∙ ap (λ n. Some (query.pair_of n (number_of (decimal to)))) (number_of-decimal from (omega arith))
          ∙ ap (λ n. Some (query.pair_of (Some from) n)) (number_of-decimal to (omega arith));
    }

-- the fields of the first line behind its word
abbrev pub count_fields : ℕ → List (List ℕ)
count_fields count = codes "aux" ∷ codes "sp" ∷ codes "p2p" ∷ decimal count ∷ []

-- that line says the number of pairs
pub says_count : (count : ℕ) → count < 10 ^ 16 → SaysForm pairs (line_of_fields (codes "p") (count_fields count)) (Problem count)
says_count count few =
    let aux : IsShortField (codes "aux") = record { is = is_aux; short = omega arith } in
    let sp : IsShortField (codes "sp") = record { is = is_sp; short = omega arith } in
    let p2p : IsShortField (codes "p2p") = record { is = is_p2p; short = omega arith } in
    let all : All IsShortField (count_fields count) =
    All-cons IsShortField (codes "aux") (codes "sp" ∷ codes "p2p" ∷ decimal count ∷ []) aux
    (All-cons IsShortField (codes "sp") (codes "p2p" ∷ decimal count ∷ []) sp
    (All-cons IsShortField (codes "p2p") (decimal count ∷ []) p2p (numbers_more count [] few none_short))) in
    record {
      text = line_text (codes "p") (count_fields count) is_p (fields_are (count_fields count) all);
      short = omega (arith, length-line (codes "p") (count_fields count) all);
      says = ap (λ fs. if is_ignored fs then None else Some (pairs_form fs)) (fields_of-line (codes "p") (count_fields count) is_p
          (fields_are (count_fields count) all))
          ∙ ap (λ n. Some (problem_of n)) (number_of-decimal count (omega arith));
    }
