-- Lines with their replies.
use Rattle.std.specs.Prelude.{ℕ, List, Option, map, filter_map}
use Rattle.std.specs.List.{flat_map}

-- a line without its LF, the number of the epoch that its reply names, if it names one, and the reply
pub record Exchange : Type 0 where
  pub line : List ℕ
  pub named : Option ℕ
  pub reply : List ℕ

-- the lines, in order
abbrev pub lines_exchanged : List Exchange → List (List ℕ)
lines_exchanged exchanges = map (λ t. t.line) exchanges

-- the numbers of epochs that the replies name, in order
abbrev pub numbers_named : List Exchange → List ℕ
numbers_named exchanges = filter_map (λ t. t.named) exchanges

-- the replies, one after another
abbrev pub text_exchanged : List Exchange → List ℕ
text_exchanged exchanges = flat_map (λ t. t.reply) exchanges
