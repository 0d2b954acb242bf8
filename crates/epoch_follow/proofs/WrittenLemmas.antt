-- The lines of a feed as they are written, and what they say when they are read.
use Rattle.std.proofs.Common.{◌≡◌, ℕ, ◌+◌, ◌<◌, ◌≤◌, ◌^◌, true, false, ◌&&◌, List, [], ◌∷◌, ◌++◌, Option, Some, None, length, map, codes, decimal, refl, sym, ap, ◌∙◌, arith, append_assoc, append-nil}
use Rattle.std.proofs.lemmas.List.{length-map}
use Rattle.std.specs.Prelude.{Bool, IfSome, if◌then◌else◌, nat_eq, nat_le, nat_lt, sum}
use Rattle.std.specs.List.{All, AllZip, flat_map}
use Rattle.std.proofs.lemmas.Bool.{le-leb, lt-ltb}
use Rattle.std.proofs.lemmas.Bool.Decides.{nat_tests}
use Rattle.std.proofs.lemmas.List.Elements.{All-cons, All-head, All-nil, All-tail, All-weaker}
use Rattle.answer_writer.specs.Replies.{and_number, end_line}
use Rattle.arc_graph.specs.declared.change.Change.{Change}
use Rattle.arc_graph.specs.History.{IsChange, max_pending}
use Rattle.std.proofs.lemmas.Grind.{flat_map-append}
use Rattle.cost_vector.specs.Costs.{max_criteria}
use Rattle.line_text.specs.Fields.{fields_of}
use Rattle.line_text.specs.Lines.{without_cr}
use Rattle.line_text.specs.Numerals.{at_most, is_digits, numeral_or_above, value_of}
use Rattle.line_text.specs.declared.numerals.Numeral.TheVariants.{Value, NotDigits}
use Rattle.line_text.proofs.WrittenLineLemmas.{IsField, IsLineText, IsShortField, behind_blank, byte_more, fields_are, fields_of-line, is_digits-decimal, length-line, line_of_fields, line_text, none_short, numbers_more, one_byte, value_of-decimal, without_cr-same}
use Rattle.road_network.specs.Limits.{max_epoch}
use Rattle.road_network.specs.Network.{IsVector}
use Rattle.session_requests.specs.Readings.{pair_of}
use Rattle.session_requests.specs.declared.operator.OperatorRequest.{OperatorRequest}
use Rattle.session_requests.specs.declared.operator.OperatorRequest.TheVariants as asks
use Rattle.session_requests.specs.Requests.{AsksOfOperator}
use Rattle.session_requests.specs.Tokens.{Writes, max_number}
use Rattle.session_requests.specs.Tokens.Token.{Number}
use Rattle.epoch_follow.specs.Runs.{begin_from, change_asked, change_from, is_arc, is_end, is_head, number_in, writes}
use Rattle.epoch_follow.specs.Text.{FeedHead, begin_line, change_line, end_of_message, head_line, message, messages, state_line}
use Rattle.epoch_follow.proofs.ChangeLemmas.{says_asked}

-- ---- a line of numbers

-- a line of a word and these numbers, without its LF
abbrev pub line_with : List ℕ → List ℕ → List ℕ
line_with word numbers = line_of_fields word (map decimal numbers)

-- the numbers are short
abbrev pub AreFew : List ℕ → Type 0
AreFew numbers = All (λ n. n < 10 ^ 16) numbers

short_numbers : (numbers : List ℕ) → AreFew numbers → All IsShortField (map decimal numbers)
short_numbers [] few = none_short
short_numbers (n ∷ numbers) few =
    numbers_more n (map decimal numbers) (All-head (λ n. n < 10 ^ 16) n numbers few) (short_numbers numbers (All-tail (λ n. n < 10 ^ 16) n numbers few))

-- A line that is a word and numbers: it has no LF and no CR, it isn't too long, and these are its fields.
pub record IsWritten (line : List ℕ) (word : List ℕ) (numbers : List ℕ) : Type 0 where
  pub text : IsLineText line
  pub short : length line ≤ 1024
  pub fields : fields_of (without_cr line) ≡ word ∷ map decimal numbers

pub is_written : (word : List ℕ) (numbers : List ℕ) → IsField word → length word ≤ 4 → length numbers ≤ 5 → AreFew numbers
    → IsWritten (line_with word numbers) word numbers
is_written word numbers is short count few =
    let fields = short_numbers numbers few in
    let text = line_text word (map decimal numbers) is (fields_are (map decimal numbers) fields) in
    record {
      text = text;
      short = omega (arith, length-line word (map decimal numbers) fields, length-map numbers decimal, short, count);
      fields = ap fields_of (without_cr-same (line_with word numbers) text) ∙ fields_of-line word (map decimal numbers) is (fields_are (map decimal numbers) fields);
    }

pub is_s : IsField (codes "s")
is_s = one_byte 115 (omega arith)

pub is_x : IsField (codes "x")
is_x = one_byte 120 (omega arith)

pub is_g : IsField (codes "g")
is_g = one_byte 103 (omega arith)

pub is_end_word : IsField (codes "end")
is_end_word = byte_more 101 (110 ∷ 100 ∷ []) (omega arith) (byte_more 110 (100 ∷ []) (omega arith) (one_byte 100 (omega arith)))

pub is_feed : IsField (codes "feed")
is_feed =
    byte_more 102 (101 ∷ 101 ∷ 100 ∷ []) (omega arith)
    (byte_more 101 (101 ∷ 100 ∷ []) (omega arith) (byte_more 101 (100 ∷ []) (omega arith) (one_byte 100 (omega arith))))

-- ---- the lines of a feed, without their LF

abbrev pub head_words : FeedHead → List ℕ
head_words head = line_with (codes "feed") (head.arcs ∷ head.criteria ∷ head.first ∷ [])

abbrev pub begin_words : ℕ → ℕ → List ℕ
begin_words epoch count = line_with (codes "g") (epoch ∷ count ∷ [])

abbrev pub end_words : ℕ → List ℕ
end_words epoch = line_with (codes "end") (epoch ∷ [])

abbrev pub state_words : ℕ → Option (List ℕ) → List ℕ
state_words arc (Some w) = line_with (codes "s") (arc ∷ w)
state_words arc None = line_with (codes "x") (arc ∷ [])

abbrev pub change_words : Change → List ℕ
change_words c = state_words c.arc.0 c.weight

-- a line with its LF
abbrev pub ended : List ℕ → List ℕ
ended line = line ++ end_line

numbers_text : (w : List ℕ) → flat_map behind_blank (map decimal w) ≡ flat_map and_number w
numbers_text [] = refl
numbers_text (x ∷ w) = ap (λ t. and_number x ++ t) (numbers_text w)

pub end_is : (epoch : ℕ) → end_of_message epoch ≡ ended (end_words epoch)
end_is epoch = ap (λ t. ended (codes "end" ++ t)) (sym (append-nil (and_number epoch)))

pub begin_is : (epoch count : ℕ) → begin_line epoch count ≡ ended (begin_words epoch count)
begin_is epoch count =
    ap (λ t. ended t) (append_assoc (codes "g") (and_number epoch) (and_number count))
    ∙ ap (λ t. ended (codes "g" ++ (and_number epoch ++ t))) (sym (append-nil (and_number count)))

pub head_is : (head : FeedHead) → head_line head ≡ ended (head_words head)
head_is head =
    let m = and_number head.arcs in
    let d = and_number head.criteria in
    let b = and_number head.first in
    ap (λ t. ended (t ++ b)) (append_assoc (codes "feed") m d) ∙ ap (λ t. ended t) (append_assoc (codes "feed") (m ++ d) b)
    ∙ ap (λ t. ended (codes "feed" ++ t)) (append_assoc m d b) ∙ ap (λ t. ended (codes "feed" ++ (m ++ (d ++ t)))) (sym (append-nil b))

pub change_is : (c : Change) → change_line c ≡ ended (change_words c)
change_is c = by_state c.weight where
  by_state : (state : Option (List ℕ)) → state_line c.arc.0 state ≡ ended (state_words c.arc.0 state)
  by_state None = ap (λ t. ended (codes "x" ++ t)) (sym (append-nil (and_number c.arc.0)))
  by_state (Some w) =
      ap (λ t. ended ((codes "s" ++ and_number c.arc.0) ++ t)) (sym (numbers_text w))
      ∙ ap (λ t. ended t) (append_assoc (codes "s") (and_number c.arc.0) (flat_map behind_blank (map decimal w)))

-- the lines of a message, and of messages that follow one another
abbrev pub message_words : ℕ → List Change → List (List ℕ)
message_words epoch cs = begin_words epoch (length cs) ∷ (map change_words cs ++ end_words epoch ∷ [])

abbrev pub messages_words : ℕ → List (List Change) → List (List ℕ)
messages_words epoch [] = []
messages_words epoch (cs ∷ css) = message_words epoch cs ++ messages_words (epoch + 1) css

changes_are : (cs : List Change) → flat_map change_line cs ≡ flat_map ended (map change_words cs)
changes_are [] = refl
changes_are (c ∷ cs) = ap (λ t. t ++ flat_map change_line cs) (change_is c) ∙ ap (λ t. ended (change_words c) ++ t) (changes_are cs)

texts_join : (a b : List (List ℕ)) → flat_map ended (a ++ b) ≡ flat_map ended a ++ flat_map ended b
texts_join a b = flat_map-append ended a b

pub message_is : (epoch : ℕ) (cs : List Change) → message epoch cs ≡ flat_map ended (message_words epoch cs)
message_is epoch cs =
    ap (λ t. (t ++ flat_map change_line cs) ++ end_of_message epoch) (begin_is epoch (length cs))
    ∙ ap (λ t. (ended (begin_words epoch (length cs)) ++ t) ++ end_of_message epoch) (changes_are cs)
    ∙ ap (λ t. (ended (begin_words epoch (length cs)) ++ flat_map ended (map change_words cs)) ++ t) (end_is epoch ∙ sym (append-nil (ended (end_words epoch))))
    ∙ append_assoc (ended (begin_words epoch (length cs))) (flat_map ended (map change_words cs)) (flat_map ended (end_words epoch ∷ []))
    ∙ ap (λ t. ended (begin_words epoch (length cs)) ++ t) (sym (texts_join (map change_words cs) (end_words epoch ∷ [])))

pub messages_are : (epoch : ℕ) (css : List (List Change)) → messages epoch css ≡ flat_map ended (messages_words epoch css)
messages_are epoch [] = refl
messages_are epoch (cs ∷ css) =
    ap (λ t. t ++ messages (epoch + 1) css) (message_is epoch cs) ∙ ap (λ t. flat_map ended (message_words epoch cs) ++ t) (messages_are (epoch + 1) css)
    ∙ sym (texts_join (message_words epoch cs) (messages_words (epoch + 1) css))

-- ---- what they say

digits_say : (digits : Bool) (value n greatest : ℕ) → digits ≡ true → value ≡ n → n ≤ greatest
    → (if digits then numeral_or_above (at_most greatest value) else NotDigits) ≡ Value n
digits_say digits value n greatest is same within =
    ap (λ b. if b then numeral_or_above (at_most greatest value) else NotDigits) is ∙ ap (λ v. numeral_or_above (at_most greatest v)) same
    ∙ ap (λ b. numeral_or_above (if b then None else Some n)) (not_above n greatest within) where
      not_above : (n greatest : ℕ) → n ≤ greatest → nat_lt greatest n ≡ false
      not_above n greatest within = grind (arith, nat_tests)

module _ (n : ℕ) (fits : n < 2 ^ 32) where
  digits : is_digits (decimal n) ≡ true
  digits = is_digits-decimal n (omega (arith, fits))

  value : value_of (decimal n) ≡ n
  value = value_of-decimal n (omega (arith, fits))

  -- a number of a request is written by its decimal
  pub number_written : Writes (decimal n) (Number n)
  number_written = digits_say (is_digits (decimal n)) (value_of (decimal n)) n max_number digits value (omega (arith, fits))

  -- so is a number in a range
  pub number_is : (least greatest : ℕ) → least ≤ n → n ≤ greatest → number_in least greatest (decimal n) ≡ Some n
  number_is least greatest low high =
      ap (λ b. if b && (nat_le least (value_of (decimal n)) && nat_le (value_of (decimal n)) greatest) then Some (value_of (decimal n)) else None) digits
      ∙ ap (λ v. if nat_le least v && nat_le v greatest then Some v else None) value
      ∙ ap (λ b. if b && nat_le n greatest then Some n else None) (le-leb least n low)
      ∙ ap (λ b. if b then Some n else None) (le-leb n greatest high)

  -- and a number that is known
  pub writes_is : writes n (decimal n) ≡ true
  writes_is = ap (λ b. b && nat_eq (value_of (decimal n)) n) digits ∙ ap (λ v. nat_eq v n) value ∙ same n where
    same : (n : ℕ) → nat_eq n n ≡ true
    same n = grind (arith, nat_tests)

few_of : (n : ℕ) → n < 2 ^ 32 → n < 10 ^ 16
few_of n below = omega arith

all_few : (w : List ℕ) → All (λ x. x < 2 ^ 32) w → AreFew w
all_few w all = All-weaker (λ x. x < 2 ^ 32) (λ x. x < 10 ^ 16) few_of w all

all_written : (w : List ℕ) → All (λ x. x < 2 ^ 32) w → AllZip Writes (map decimal w) (map Number w)
all_written [] all = tt
all_written (x ∷ w) all = (number_written x (All-head (λ x. x < 2 ^ 32) x w all), all_written w (All-tail (λ x. x < 2 ^ 32) x w all))

-- the numbers of a head are of 32 bits
pub record IsHead (head : FeedHead) : Type 0 where
  pub arcs : head.arcs < 2 ^ 32
  pub criteria : head.criteria ≤ max_criteria
  pub first : head.first < 2 ^ 32

few_one : (a : ℕ) → a < 2 ^ 32 → AreFew (a ∷ [])
few_one a below = All-cons (λ n. n < 10 ^ 16) a [] (few_of a below) (All-nil (λ n. n < 10 ^ 16))

few_more : (a : ℕ) (others : List ℕ) → a < 2 ^ 32 → AreFew others → AreFew (a ∷ others)
few_more a others below all = All-cons (λ n. n < 10 ^ 16) a others (few_of a below) all

-- ---- the first line

module _ (head : FeedHead) (is : IsHead head) where
  pub head_written : IsWritten (head_words head) (codes "feed") (head.arcs ∷ head.criteria ∷ head.first ∷ [])
  head_written =
      is_written (codes "feed") (head.arcs ∷ head.criteria ∷ head.first ∷ []) is_feed (omega arith) (omega arith)
      (few_more head.arcs (head.criteria ∷ head.first ∷ []) is.arcs
      (few_more head.criteria (head.first ∷ []) (omega (arith, is.criteria)) (few_one head.first is.first)))

  pub head_says : is_head head (fields_of (without_cr (head_words head))) ≡ true
  head_says =
      ap (is_head head) head_written.fields
      ∙ ap (λ b. b && (writes head.criteria (decimal head.criteria) && writes head.first (decimal head.first))) (writes_is head.arcs is.arcs)
      ∙ ap (λ b. b && writes head.first (decimal head.first)) (writes_is head.criteria (omega (arith, is.criteria))) ∙ writes_is head.first is.first

-- ---- the first and the last line of a message

module _ (epoch count : ℕ) (epoch_in : (1 ≤ epoch) × (epoch ≤ max_epoch)) (count_in : count ≤ max_pending) where
  pub begin_written : IsWritten (begin_words epoch count) (codes "g") (epoch ∷ count ∷ [])
  begin_written =
      is_written (codes "g") (epoch ∷ count ∷ []) is_g (omega arith) (omega arith)
      (few_more epoch (count ∷ []) (omega (arith, epoch_in.1)) (few_one count (omega (arith, count_in))))

  pub begin_says : begin_from (fields_of (without_cr (begin_words epoch count))) ≡ Some (epoch, count)
  begin_says =
      ap begin_from begin_written.fields
      ∙ ap (λ e. pair_of e (number_in 0 max_pending (decimal count))) (number_is epoch (omega (arith, epoch_in.1)) 1 max_epoch epoch_in.0 epoch_in.1)
      ∙ ap (λ p. pair_of (Some epoch) p) (number_is count (omega (arith, count_in)) 0 max_pending (omega arith) count_in)

module _ (epoch : ℕ) (below : epoch < 2 ^ 32) where
  pub end_written : IsWritten (end_words epoch) (codes "end") (epoch ∷ [])
  end_written = is_written (codes "end") (epoch ∷ []) is_end_word (omega arith) (omega arith) (few_one epoch below)

  pub end_says : is_end epoch (fields_of (without_cr (end_words epoch))) ≡ true
  end_says = ap (is_end epoch) end_written.fields ∙ writes_is epoch below

-- ---- the line of a change

module _ (head : FeedHead) (is : IsHead head) where
  arc_test : (k : ℕ) → 1 ≤ k → k ≤ head.arcs → is_arc head.arcs k ≡ true
  arc_test k low high = ap (λ b. b && nat_le k head.arcs) (le-leb 1 k low) ∙ le-leb k head.arcs high

  -- the change that is asked
  abbrev asked_change : ℕ → Option (List ℕ) → Change
  asked_change k state = record { arc = record { 0 = k }; weight = state }

  set_asked : (k : ℕ) (w : List ℕ) → 1 ≤ k → k ≤ head.arcs → 0 < sum w → change_asked head.arcs (asks.Set k w) ≡ Some (asked_change k (Some w))
  set_asked k w low high some =
      ap (λ b. if b && nat_lt 0 (sum w) then Some (asked_change k (Some w)) else None) (arc_test k low high)
      ∙ ap (λ b. if b then Some (asked_change k (Some w)) else None) (lt-ltb 0 (sum w) some)

  shut_asked : (k : ℕ) → 1 ≤ k → k ≤ head.arcs → change_asked head.arcs (asks.Shut k) ≡ Some (asked_change k None)
  shut_asked k low high = ap (λ b. if b then Some (asked_change k None) else None) (arc_test k low high)

  -- A line that says a change, and isn't too long.
  pub record SaysChange (line : List ℕ) (c : Change) : Type 0 where
    pub text : IsLineText line
    pub short : length line ≤ 1024
    pub says : change_from head (fields_of (without_cr line)) ≡ Some c

  by_request : (k : ℕ) (state : Option (List ℕ)) (line word : List ℕ) (numbers : List ℕ) (r : OperatorRequest) → IsWritten line word numbers
      → AsksOfOperator head.criteria (without_cr line) r → change_asked head.arcs r ≡ Some (asked_change k state) → SaysChange line (asked_change k state)
  by_request k state line word numbers r written asked e = record {
    text = written.text;
    short = written.short;
    says = says_asked head (without_cr line) r asked ∙ e;
  }

  pub change_says : (c : Change) → IsChange head.arcs head.criteria c → SaysChange (change_words c) c
  change_says c ok = by_state c.weight ok.vector ok.small where
    below : c.arc.0 < 2 ^ 32
    below = omega (arith, ok.there, is.arcs)

    by_state : (state : Option (List ℕ)) → IfSome state (IsVector head.criteria) → IfSome state (All (λ x. x < 2 ^ 32))
        → SaysChange (state_words c.arc.0 state) (asked_change c.arc.0 state)
    by_state None vector small =
        let written = is_written (codes "x") (c.arc.0 ∷ []) is_x (omega arith) (omega arith) (few_one c.arc.0 below) in
        by_request c.arc.0 None (state_words c.arc.0 None) (codes "x") (c.arc.0 ∷ []) (asks.Shut c.arc.0) written
        (record { written = rw written.fields (refl, (number_written c.arc.0 below, tt)); each = tt }) (shut_asked c.arc.0 ok.counted ok.there)
    by_state (Some w) vector small =
        let written = is_written (codes "s") (c.arc.0 ∷ w) is_s (omega arith) (omega (arith, vector.whole, is.criteria))
        (few_more c.arc.0 w below (all_few w small)) in
        by_request c.arc.0 (Some w) (state_words c.arc.0 (Some w)) (codes "s") (c.arc.0 ∷ w) (asks.Set c.arc.0 w) written
        (record { written = rw written.fields (refl, (number_written c.arc.0 below, all_written w small)); each = vector.whole })
        (set_asked c.arc.0 w ok.counted ok.there vector.nonzero)
