-- The files of pairs of the 9th DIMACS Implementation Challenge, and the first fault of a text that is none.
use Rattle.std.specs.Prelude.{ℕ, ◌^◌, ◌&&◌, nat_le, nat_lt, Bool, true, if◌then◌else◌, List, [], ◌∷◌, length, Option, Some}
use Rattle.std.specs.Prelude.{None, codes}
use Rattle.line_text.specs.declared.limits.LineLimits.{LineLimits}
use Rattle.gr_reader.specs.declared.fault.LineKind.{LineKind}
use Rattle.gr_reader.specs.Rules.{LineForm, Rules, is_word, number_of}
use Rattle.gr_reader.specs.Rules.LineForm.{Problem, Record, Malformed}
use Rattle.gr_reader.specs.Files.{IsFile, FirstFault}
use Rattle.query_reader.specs.declared.pairs.Pair.{Pair}

-- the most pairs of a file
abbrev pub max_pairs : ℕ
max_pairs = 1000000

-- the number of pairs
abbrev pub problem_of : Option ℕ → LineForm ℕ Pair
problem_of (Some count) = Problem count
problem_of None = Malformed

-- where a pair starts, and where it leads
abbrev pub pair_of : Option ℕ → Option ℕ → LineForm ℕ Pair
pair_of (Some from) (Some to) = Record (record { from = from; to = to })
pair_of (Some from) None = Malformed
pair_of None to = Malformed

-- the test that these are the words behind `p`
abbrev pub are_words : List ℕ → List ℕ → List ℕ → Bool
are_words aux sp p2p = is_word aux (codes "aux") && is_word sp (codes "sp") && is_word p2p (codes "p2p")

-- behind `p` stand exactly the fields `aux`, `sp`, `p2p` and a number
abbrev pub problem_from : List (List ℕ) → LineForm ℕ Pair
problem_from (aux ∷ sp ∷ p2p ∷ count ∷ []) =
    if are_words aux sp p2p then problem_of (number_of count) else Malformed
problem_from fields = Malformed

-- behind `q` stand exactly two numbers
abbrev pub pair_from : List (List ℕ) → LineForm ℕ Pair
pair_from (from ∷ to ∷ []) = pair_of (number_of from) (number_of to)
pair_from fields = Malformed

-- what a line of a file of pairs says
abbrev pub pairs_form : List (List ℕ) → LineForm ℕ Pair
pairs_form [] = Malformed
pairs_form (word ∷ fields) =
    if is_word word (codes "q")
    then pair_from fields
    else (if is_word word (codes "p") then problem_from fields else Malformed)

-- the test that a number can be a node's: it has 32 bits, and isn't 0
abbrev pub may_be_node : ℕ → Bool
may_be_node v = nat_le 1 v && nat_lt v (2 ^ 32)

-- Files of pairs say how many pairs there are, and then each: where it starts, and where it leads. None has a weight.
abbrev pub pairs : Rules ℕ Pair
pairs = record {
  form_from = pairs_form;
  is_size = λ count. nat_le count max_pairs;
  count = λ count. count;
  has_nodes = λ count pair. may_be_node pair.from && may_be_node pair.to;
  has_weight = λ pair. true;
}

-- the text is a file of these pairs
abbrev pub IsPairs : LineLimits → List ℕ → List Pair → Type 0
IsPairs limits bytes all = IsFile pairs limits bytes (length all) all

-- this line is the first that keeps the text from being a file of pairs, for this reason
abbrev pub PairFault : LineLimits → List ℕ → LineKind → ℕ → Type 0
PairFault limits bytes kind line = FirstFault pairs limits bytes kind line
