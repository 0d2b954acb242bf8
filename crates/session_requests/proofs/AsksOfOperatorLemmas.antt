-- What is read of an operator's line is the one request that it asks.
use Rattle.std.proofs.Common.{◌≡◌, ◌↔◌, ℕ, List, [], ◌∷◌, Some, refl, subst, sym}
use Rattle.std.specs.Prelude.{codes}
use Rattle.std.specs.List.{AllZip}
use Rattle.line_text.specs.Fields.{fields_of}
use Rattle.session_requests.specs.declared.operator.OperatorRequest.{OperatorRequest}
use Rattle.session_requests.specs.declared.operator.OperatorRequest.TheVariants as operator
use Rattle.session_requests.specs.Readings.{each_of, number_of, one_from, operator_alone, operator_behind, pair_of, set_from}
use Rattle.session_requests.specs.Requests.{AsksOfOperator, WeighsEach, operator_tokens}
use Rattle.session_requests.specs.Tokens.{Writes}
use Rattle.session_requests.specs.Tokens.Token.{Number}
use Rattle.session_requests.proofs.WritesLemmas.{mapped, both, chosen, writes_number, reads_number, writes_one, reads_one, writes_each, reads_each}

-- the fields ask this of an operator
abbrev OperatorAsked : ℕ → List (List ℕ) → OperatorRequest → Type 0
OperatorAsked d fields r = AllZip Writes fields (operator_tokens r) × WeighsEach d r

set_asked : (d : ℕ) (fields : List (List ℕ)) (r : OperatorRequest) → set_from d fields ≡ Some r → OperatorAsked d (codes "s" ∷ fields) r
set_asked d [] r e = absurd cc
set_asked d (arc ∷ components) r e =
    mapped (λ parts. operator.Set parts.0 parts.1) (OperatorAsked d (codes "s" ∷ arc ∷ components))
    (pair_of (number_of arc) (each_of number_of d components)) r e
    (λ parts some.
    let read = both _ _ parts some in
    let weight = writes_each number_of Number writes_number d components parts.1 read.1 in
    ((refl, (writes_number arc parts.0 read.0, weight.0)), weight.1))

word_asked : (d : ℕ) (word : List ℕ) (fields : List (List ℕ)) (r : OperatorRequest) → operator_alone word fields ≡ Some r → OperatorAsked d (word ∷ fields) r
word_asked d word (field ∷ fields) r e = absurd cc
word_asked d word [] r e =
    let Asked = OperatorAsked d (word ∷ []) in
    chosen (Asked r) word (codes "drop") _ _ r e
    (λ is some. subst Asked (let same : operator.Drop ≡ r = cc in same) ((is, tt), tt))
    (λ e. chosen (Asked r) word (codes "publish") _ _ r e
    (λ is some. subst Asked (let same : operator.Publish ≡ r = cc in same) ((is, tt), tt))
    (λ e. chosen (Asked r) word (codes "bye") _ _ r e
    (λ is some. subst Asked (let same : operator.Bye ≡ r = cc in same) ((is, tt), tt))
    (λ none. absurd cc)))

operator_asked : (d : ℕ) (word : List ℕ) (fields : List (List ℕ)) (r : OperatorRequest)
    → operator_behind d word fields ≡ Some r → OperatorAsked d (word ∷ fields) r
operator_asked d word fields r e =
    let Asked = OperatorAsked d (word ∷ fields) in
    chosen (Asked r) word (codes "s") _ _ r e
    (λ is some. subst (λ w. OperatorAsked d (w ∷ fields) r) (sym is) (set_asked d fields r some))
    (λ e. chosen (Asked r) word (codes "x") _ _ r e
    (λ is some. mapped operator.Shut Asked (one_from fields) r some (λ n one. ((is, writes_one fields n one), tt)))
    (λ e. word_asked d word fields r e))

operator_read : (d : ℕ) (word : List ℕ) (fields : List (List ℕ)) (r : OperatorRequest)
    → OperatorAsked d (word ∷ fields) r → operator_behind d word fields ≡ Some r
operator_read d word (arc ∷ components) (operator.Set number weight) asked =
    rw (asked.0.0, reads_number arc number asked.0.1.0, reads_each number_of Number reads_number d components weight asked.0.1.1 asked.1) refl
operator_read d word [] (operator.Set number weight) asked = absurd asked.0.1
operator_read d word fields (operator.Shut arc) asked = rw (asked.0.0, reads_one fields arc asked.0.1) refl
operator_read d word [] operator.Drop asked = rw asked.0.0 refl
operator_read d word (field ∷ fields) operator.Drop asked = absurd asked.0.1
operator_read d word [] operator.Publish asked = rw asked.0.0 refl
operator_read d word (field ∷ fields) operator.Publish asked = absurd asked.0.1
operator_read d word [] operator.Bye asked = rw asked.0.0 refl
operator_read d word (field ∷ fields) operator.Bye asked = absurd asked.0.1

-- what is read of an operator's line is what it asks
pub asks_operator : (d : ℕ) (text word : List ℕ) (fields : List (List ℕ)) → fields_of text ≡ word ∷ fields
    → (r : OperatorRequest) → (operator_behind d word fields ≡ Some r) ↔ AsksOfOperator d text r
asks_operator d text word fields e r = (
  λ some. let asked = operator_asked d word fields r some in record { written = rw e asked.0; each = asked.1 },
  λ asks. operator_read d word fields r (rw e at asks.written, asks.each),
)
