-- The change that a line says is the one that it asks of an operator.
use Rattle.std.proofs.Common.{◌≡◌, List, [], ◌∷◌, ℕ, Option, Some, None, refl, ap}
use Rattle.std.specs.List.{AllZip}
use Rattle.std.specs.Option.{option_and_then}
use Rattle.line_text.specs.Fields.{fields_of}
use Rattle.session_requests.specs.declared.operator.OperatorRequest.{OperatorRequest}
use Rattle.session_requests.specs.declared.operator.OperatorRequest.TheVariants as asks
use Rattle.session_requests.specs.Readings.{operator_behind}
use Rattle.session_requests.specs.Requests.{AsksOfOperator, operator_tokens}
use Rattle.session_requests.specs.Tokens.{Writes}
use Rattle.session_requests.proofs.AsksOfOperatorLemmas.{asks_operator}
use Rattle.epoch_follow.specs.Runs.{change_asked, change_from}
use Rattle.epoch_follow.specs.Text.{FeedHead}

-- no request is asked without a field
asks_something : (r : OperatorRequest) → AllZip Writes [] (operator_tokens r) → ⊥
asks_something (asks.Set k w) written = absurd written
asks_something (asks.Shut k) written = absurd written
asks_something asks.Drop written = absurd written
asks_something asks.Publish written = absurd written
asks_something asks.Bye written = absurd written

module _ (head : FeedHead) (text : List ℕ) where
  -- a line that asks something says the change that it asks for
  pub says_asked : (r : OperatorRequest) → AsksOfOperator head.criteria text r → change_from head (fields_of text) ≡ change_asked head.arcs r
  says_asked r asked = by_fields (fields_of text) refl asked.written where
    by_fields : (fields : List (List ℕ)) → fields_of text ≡ fields → AllZip Writes fields (operator_tokens r)
        → change_from head fields ≡ change_asked head.arcs r
    by_fields [] e written = absurd (asks_something r written)
    by_fields (word ∷ fields) e written = ap (option_and_then (change_asked head.arcs)) ((asks_operator head.criteria text word fields e r).1 asked)

  -- one that asks nothing says none
  pub says_none : ((r : OperatorRequest) → AsksOfOperator head.criteria text r → ⊥) → change_from head (fields_of text) ≡ None
  says_none unasked = by_fields (fields_of text) refl where
    by_fields : (fields : List (List ℕ)) → fields_of text ≡ fields → change_from head fields ≡ None
    by_fields [] e = refl
    by_fields (word ∷ fields) e = by_request (operator_behind head.criteria word fields) refl where
      by_request : (request : Option OperatorRequest) → operator_behind head.criteria word fields ≡ request
          → option_and_then (change_asked head.arcs) request ≡ None
      by_request None is = refl
      by_request (Some r) is = absurd (unasked r ((asks_operator head.criteria text word fields e r).0 is))
