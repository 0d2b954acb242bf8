-- What is read of the parts of a line, or None. The private functions answer so; that it is what the line asks is proved.
use Rattle.std.specs.Prelude.{ℕ, zero, suc, if◌then◌else◌, List, [], ◌∷◌, Option, Some, None, option_map, codes}
use Rattle.std.specs.Str.{bytes_eq}
use Rattle.line_text.specs.Numerals.{numeral_of}
use Rattle.line_text.specs.declared.numerals.Numeral.{Numeral}
use Rattle.line_text.specs.declared.numerals.Numeral.TheVariants.{NotDigits, Above, Value}
use Rattle.session_requests.specs.declared.operator.OperatorRequest.{OperatorRequest}
use Rattle.session_requests.specs.declared.operator.OperatorRequest.TheVariants as operator
use Rattle.session_requests.specs.declared.session.SessionRequest.{SessionRequest}
use Rattle.session_requests.specs.declared.session.SessionRequest.TheVariants as session
use Rattle.session_requests.specs.Tokens.{max_number, max_bound}

-- the number, if there is one in range
abbrev pub value_in : Numeral → Option ℕ
value_in NotDigits = None
value_in Above = None
value_in (Value n) = Some n

-- the number of a request that a field writes
abbrev pub number_of : List ℕ → Option ℕ
number_of field = value_in (numeral_of field max_number)

-- the place of a limit that a field writes
abbrev pub place_of : List ℕ → Option (Option ℕ)
place_of field =
    if bytes_eq field (codes "-") then Some None else option_map Some (value_in (numeral_of field max_bound))

-- the first, and what follows, if both are read
abbrev pub pair_of : {A B : Type 0} → Option A → Option B → Option (A × B)
pair_of None rest = None
pair_of (Some first) None = None
pair_of (Some first) (Some rest) = Some (first, rest)

-- the number that one field writes
abbrev pub one_from : List (List ℕ) → Option ℕ
one_from (field ∷ []) = number_of field
one_from fields = None

-- the numbers that two fields write
abbrev pub two_from : List (List ℕ) → Option (ℕ × ℕ)
two_from [] = None
two_from (field ∷ fields) = pair_of (number_of field) (one_from fields)

-- what exactly n fields write, each read alike
abbrev pub each_of : {A : Type 0} → (List ℕ → Option A) → ℕ → List (List ℕ) → Option (List A)
each_of read zero [] = Some []
each_of read zero (field ∷ fields) = None
each_of read (suc n) [] = None
each_of read (suc n) (field ∷ fields) =
    option_map (λ pair. pair.0 ∷ pair.1) (pair_of (read field) (each_of read n fields))

-- two numbers, and a place for each of d criteria
abbrev pub within_from : ℕ → List (List ℕ) → Option (ℕ × ℕ × List (Option ℕ))
within_from d (from ∷ to ∷ places) =
    option_map (λ parts. (parts.0, parts.1.0, parts.1.1)) (pair_of (number_of from) (pair_of (number_of to) (each_of place_of d places)))
within_from d fields = None

-- an arc's number, and a component for each of d criteria
abbrev pub set_from : ℕ → List (List ℕ) → Option OperatorRequest
set_from d (arc ∷ components) =
    option_map (λ parts. operator.Set parts.0 parts.1) (pair_of (number_of arc) (each_of number_of d components))
set_from d fields = None

-- a session's request of a word and no further field
abbrev pub session_alone : List ℕ → List (List ℕ) → Option SessionRequest
session_alone word (field ∷ fields) = None
session_alone word [] =
    if bytes_eq word (codes "e") then Some session.Epoch
    else (if bytes_eq word (codes "bye") then Some session.Bye else None)

-- a session's request whose line begins with this word, where it is none of a query without a limit
abbrev pub session_other : ℕ → List ℕ → List (List ℕ) → Option SessionRequest
session_other d word fields =
    if bytes_eq word (codes "l") then option_map (λ parts. session.Within parts.0 parts.1 parts.2) (within_from d fields)
    else (if bytes_eq word (codes "h") then option_map (λ parts. session.GoalWithin parts.0 parts.1 parts.2) (within_from d fields)
    else (if bytes_eq word (codes "w") then option_map session.Wait (one_from fields)
    else session_alone word fields))

-- a session's request whose line begins with this word
abbrev pub session_behind : ℕ → List ℕ → List (List ℕ) → Option SessionRequest
session_behind d word fields =
    if bytes_eq word (codes "q") then option_map (λ ends. session.Walks ends.0 ends.1) (two_from fields)
    else (if bytes_eq word (codes "c") then option_map (λ ends. session.Costs ends.0 ends.1) (two_from fields)
    else (if bytes_eq word (codes "g") then option_map (λ ends. session.Goal ends.0 ends.1) (two_from fields)
    else session_other d word fields))

-- an operator's request of a word and no further field
abbrev pub operator_alone : List ℕ → List (List ℕ) → Option OperatorRequest
operator_alone word (field ∷ fields) = None
operator_alone word [] =
    if bytes_eq word (codes "drop") then Some operator.Drop
    else (if bytes_eq word (codes "publish") then Some operator.Publish
    else (if bytes_eq word (codes "bye") then Some operator.Bye else None))

-- an operator's request whose line begins with this word
abbrev pub operator_behind : ℕ → List ℕ → List (List ℕ) → Option OperatorRequest
operator_behind d word fields =
    if bytes_eq word (codes "s") then set_from d fields
    else (if bytes_eq word (codes "x") then option_map operator.Shut (one_from fields)
    else operator_alone word fields)
