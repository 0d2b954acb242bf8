-- The requests of a session and of an operator, as their lines write them.
use Rattle.std.specs.Prelude.{◌≡◌, ℕ, ⊤, List, [], ◌∷◌, length, map, codes}
use Rattle.std.specs.List.{AllZip}
use Rattle.line_text.specs.Fields.{fields_of}
use Rattle.session_requests.specs.declared.operator.OperatorRequest.{OperatorRequest}
use Rattle.session_requests.specs.declared.operator.OperatorRequest.TheVariants as operator
use Rattle.session_requests.specs.declared.session.SessionRequest.{SessionRequest}
use Rattle.session_requests.specs.declared.session.SessionRequest.TheVariants as session
use Rattle.session_requests.specs.Tokens.{Token, Writes}
use Rattle.session_requests.specs.Tokens.Token.{Word, Number, Bound}

-- what the fields of a session's request write, in this order
abbrev pub session_tokens : SessionRequest → List Token
session_tokens (session.Costs from to) = Word (codes "c") ∷ Number from ∷ Number to ∷ []
session_tokens (session.Walks from to) = Word (codes "q") ∷ Number from ∷ Number to ∷ []
session_tokens (session.Within from to limit) = Word (codes "l") ∷ Number from ∷ Number to ∷ map Bound limit
session_tokens (session.Goal from to) = Word (codes "g") ∷ Number from ∷ Number to ∷ []
session_tokens (session.GoalWithin from to limit) = Word (codes "h") ∷ Number from ∷ Number to ∷ map Bound limit
session_tokens (session.Wait epoch) = Word (codes "w") ∷ Number epoch ∷ []
session_tokens session.Epoch = Word (codes "e") ∷ []
session_tokens session.Bye = Word (codes "bye") ∷ []

-- what the fields of an operator's request write, in this order
abbrev pub operator_tokens : OperatorRequest → List Token
operator_tokens (operator.Set arc weight) = Word (codes "s") ∷ Number arc ∷ map Number weight
operator_tokens (operator.Shut arc) = Word (codes "x") ∷ Number arc ∷ []
operator_tokens operator.Drop = Word (codes "drop") ∷ []
operator_tokens operator.Publish = Word (codes "publish") ∷ []
operator_tokens operator.Bye = Word (codes "bye") ∷ []

-- a limit has a place for each of d criteria
abbrev pub LimitsEach : ℕ → SessionRequest → Type 0
LimitsEach d (session.Within from to limit) = length limit ≡ d
LimitsEach d (session.GoalWithin from to limit) = length limit ≡ d
LimitsEach d other = ⊤

-- a weight has a component for each of d criteria
abbrev pub WeighsEach : ℕ → OperatorRequest → Type 0
WeighsEach d (operator.Set arc weight) = length weight ≡ d
WeighsEach d other = ⊤

-- The line asks this of a session, where there are d criteria.
pub record AsksOfSession (d : ℕ) (text : List ℕ) (r : SessionRequest) : Type 0 where
  -- as many fields as tokens, and each writes its token
  pub written : AllZip Writes (fields_of text) (session_tokens r)
  pub each : LimitsEach d r

-- The line asks this of an operator, where there are d criteria.
pub record AsksOfOperator (d : ℕ) (text : List ℕ) (r : OperatorRequest) : Type 0 where
  -- as many fields as tokens, and each writes its token
  pub written : AllZip Writes (fields_of text) (operator_tokens r)
  pub each : WeighsEach d r
