-- What the fields behind `p` say.
use Rattle.std.proofs.Common.{◌≡◌, ℕ, true, false, cond, List, [], ◌∷◌, Option, None, Some, refl, ap}
use Rattle.std.specs.Option.{option_map}
use Rattle.gr_reader.specs.Capped.{capped_number, only_number}
use Rattle.gr_reader.specs.Rules.{number_of}
use Rattle.gr_reader.specs.Rules.LineForm.{Malformed}
use Rattle.gr_reader.specs.declared.grammar.LineForm.TheVariants as read
use Rattle.query_reader.specs.Grammar.{are_words, problem_from, problem_of}
use Rattle.query_reader.specs.PairForms.{capped, or_malformed}

module _ (aux sp p2p : List ℕ) where
  other_words : (fields : List (List ℕ)) → are_words aux sp p2p ≡ false → problem_from (aux ∷ sp ∷ p2p ∷ fields) ≡ Malformed
  other_words [] e = refl
  other_words (count ∷ []) e = ap (λ b. cond b (problem_of (number_of count)) Malformed) e
  other_words (count ∷ other ∷ fields) e = refl

  right_words : (fields : List (List ℕ)) → are_words aux sp p2p ≡ true
      → problem_from (aux ∷ sp ∷ p2p ∷ fields) ≡ problem_of (only_number fields)
  right_words [] e = refl
  right_words (count ∷ []) e = ap (λ b. cond b (problem_of (number_of count)) Malformed) e
  right_words (count ∷ other ∷ fields) e = refl

capped_problem : (count : Option ℕ) → or_malformed (option_map (λ n. read.Problem n) (option_map capped_number count)) ≡ capped (problem_of count)
capped_problem None = refl
capped_problem (Some count) = refl

-- the fields of a text that begins with three words
module _ (aux sp p2p : List ℕ) (text first second rest : List (List ℕ)) (e : text ≡ aux ∷ first) (f : first ≡ sp ∷ second) (g : second ≡ p2p ∷ rest) where
  -- other words say nothing
  pub says_nothing : are_words aux sp p2p ≡ false → Malformed ≡ capped (problem_from text)
  says_nothing other = rw (e, f, g, other_words aux sp p2p rest other) refl

  -- behind the right words stands how many pairs there are
  pub says_count : are_words aux sp p2p ≡ true → (count : Option ℕ) → count ≡ option_map capped_number (only_number rest)
      → or_malformed (option_map (λ n. read.Problem n) count) ≡ capped (problem_from text)
  says_count right count counted = rw (e, f, g, right_words aux sp p2p rest right, counted) (capped_problem (only_number rest))
