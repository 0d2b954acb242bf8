-- The text of a certificate reads back.
use Rattle.std.proofs.Common.{◌≡◌, ℕ, ◌+◌, ◌-◌, ◌*◌, ◌^◌, ◌<◌, ◌≤◌, Bool, true, false, List, [], ◌∷◌, ◌++◌, Option, Some, None, Result, Ok, Err, length, map, decimal, codes, inl, inr, refl, sym, ap, ap₂, subst, subst₂, ◌∙◌, arith, append_assoc, append-nil, length-append}
use Rattle.std.specs.Prelude.{All, AllPairs, Contains, if◌then◌else◌, ◌&&◌, is_none, nat_le, nat_lt}
use Rattle.std.specs.List.{flat_map}
use Rattle.std.specs.Option.{option_and_then, option_map}
use Rattle.std.specs.Ordering.{is_lt}
use Rattle.std.proofs.lemmas.Bool.Decides.{nat_tests}
use Rattle.std.proofs.lemmas.Fmt.{length-decimal-le}
use Rattle.std.proofs.lemmas.List.{length-map}
use Rattle.std.proofs.lemmas.List.Elements.{All-cons, All-head, All-map, All-nil, All-tail, All-weaker}
use Rattle.list_laws.proofs.Ascending.{ascending_same}
use Rattle.list_laws.proofs.Gets.{get_added}
use Rattle.list_laws.proofs.Members.{in_first}
use Rattle.list_laws.proofs.Pairs.{pair_with_first, pairs_rest}
use Rattle.line_text.specs.Fields.{fields_of}
use Rattle.line_text.specs.Lines.{lines_of, without_cr}
use Rattle.line_text.specs.Marks.{fault_of_marks, line_fault}
use Rattle.line_text.specs.Numerals.{is_digits, number_in, value_of}
use Rattle.line_text.proofs.WrittenLineLemmas.{IsField, IsLineText, behind_blank, decimal_field, fields_of-line, is_digits-decimal, line_of_fields, line_text, lines_of-line, one_byte, value_of-decimal, without_cr-same}
use Rattle.cost_vector.specs.Costs.{lex_cmp, no_limit}
use Rattle.cost_vector.proofs.Vectors.{LexLess-irrefl}
use Rattle.road_network.specs.Answers.{IsRelevant}
use Rattle.road_network.specs.Best.{IsBackwardLeast}
use Rattle.road_network.specs.Labels.{Label, last_arc}
use Rattle.road_network.proofs.BackwardLaws.{one_backward_least}
use Rattle.road_network.specs.Network.{Network}
use Rattle.arc_graph.specs.Graph.{IsRoadNetwork}
use Rattle.answer_writer.specs.Replies.{and_number, end_line}
use Rattle.cert_rules.specs.Certificates.{Certificate, IsBefore, IsCertificate, IsLine, max_component, max_labels}
use Rattle.cert_rules.specs.Meaning.{ListsRelevant}
use Rattle.cert_rules.specs.Rules.{Fails, HasNoFailure}
use Rattle.front_cert.specs.Listing.{Listing}
use Rattle.front_cert.specs.Reads.{ChecksText}
use Rattle.front_cert.specs.declared.fault.CertFault.{CertFault}
use Rattle.front_cert.specs.declared.fault.CertFault.TheVariants.{Line, Rule, Read, OutOfMemory}
use Rattle.front_cert.proofs.LookupLemmas.{before_trans}
use Rattle.line_text.specs.Texts.{size_in}
use Rattle.front_cert.specs.Text.{Draft, State, behind_line, begun_draft, cert_limits, components, follows, heading_from, label_from, last_label, or_fault, read_lines, read_text, stands_before, with_label, with_line}
use Rattle.cert_writer.specs.Text.{Accepts, cert_text, heading_line, label_line}

-- ---- lines of short fields

-- A field of 18 bytes at most.
record IsShort (field : List ℕ) : Type 0 where
  pub is : IsField field
  pub short : length field ≤ 18

short_number : (n : ℕ) → n ≤ 2 ^ 58 → IsShort (decimal n)
short_number n small =
    let fits : n < 2 ^ 64 = omega (arith, small) in
    record { is = decimal_field n fits; short = length-decimal-le 18 n (omega arith) (omega (arith, small)) fits }

are_fields : (fields : List (List ℕ)) → All IsShort fields → All IsField fields
are_fields fields all = All-weaker IsShort IsField (λ field short. short.is) fields all

length_line : (first : List ℕ) (others : List (List ℕ)) → All IsShort others → length (line_of_fields first others) ≤ length first + 19 * length others
length_line first [] all = omega (arith, length-append first [])
length_line first (next ∷ others) all =
    let rest = length_line next others (All-tail IsShort next others all) in
    let one = (All-head IsShort next others all).short in
    omega (arith, length-append first (32 ∷ line_of_fields next others), rest, one)

numbers_alike : (cs : List ℕ) → flat_map behind_blank (map decimal cs) ≡ flat_map and_number cs
numbers_alike [] = refl
numbers_alike (c ∷ cs) = ap (λ t. (32 ∷ decimal c) ++ t) (numbers_alike cs)

-- ---- the line of a label

abbrev label_fields : Label → List (List ℕ)
label_fields l = decimal l.node ∷ decimal l.arc ∷ map decimal l.cost

abbrev label_text : Label → List ℕ
label_text l = line_of_fields (codes "b") (label_fields l)

label_ended : (l : Label) → label_line l ≡ label_text l ++ end_line
label_ended l =
    let costs = flat_map and_number l.cost in
    ap (λ t. t ++ end_line) (append_assoc (codes "b" ++ and_number l.node) (and_number l.arc) costs ∙ append_assoc (codes "b") (and_number l.node) (and_number l.arc ++ costs)
    ∙ ap (λ t. codes "b" ++ (and_number l.node ++ (and_number l.arc ++ t))) (sym (numbers_alike l.cost)))

is_b : IsField (codes "b")
is_b = one_byte 98 (omega arith)

is_z : IsField (codes "z")
is_z = one_byte 122 (omega arith)

-- ---- numbers

reads_by : (least greatest : ℕ) (digits : Bool) (v n : ℕ) → digits ≡ true → v ≡ n → least ≤ n → n ≤ greatest
    → (if digits && (nat_le least v && nat_le v greatest) then Some v else None) ≡ Some n
reads_by least greatest digits v n are is low high = rw (are, is) (by_tests (nat_le least n) (nat_le n greatest) (grind (arith, nat_tests)) (grind (arith, nat_tests))) where
  by_tests : (a b : Bool) → a ≡ true → b ≡ true → (if true && (a && b) then Some n else None) ≡ Some n
  by_tests true true e f = refl
  by_tests true false e f = absurd cc
  by_tests false b e f = absurd cc

number_back : (least greatest n : ℕ) → n < 2 ^ 64 → least ≤ n → n ≤ greatest → number_in least greatest (decimal n) ≡ Some n
number_back least greatest n fits low high =
    reads_by least greatest (is_digits (decimal n)) (value_of (decimal n)) n (is_digits-decimal n fits) (value_of-decimal n fits) low high

components_back : (cs : List ℕ) → All (λ x. x ≤ max_component) cs → components (length cs) (map decimal cs) ≡ Some cs
components_back [] all = refl
components_back (c ∷ cs) all =
    let small = All-head (λ x. x ≤ max_component) c cs all in
    ap (option_and_then (λ x. option_map (λ xs. x ∷ xs) (components (length cs) (map decimal cs)))) (number_back 0 max_component c (omega (arith, small)) (omega arith) small)
    ∙ ap (option_map (λ xs. c ∷ xs)) (components_back cs (All-tail (λ x. x ≤ max_component) c cs all))

module _ (net : Network) (road : IsRoadNetwork net) where
  -- ---- what a label's line says

  module _ (l : Label) (line : IsLine net l) where
    label_short : All IsShort (label_fields l)
    label_short =
        All-cons IsShort (decimal l.node) (decimal l.arc ∷ map decimal l.cost) (short_number l.node (omega (arith, line.node.1, road.nodes)))
        (All-cons IsShort (decimal l.arc) (map decimal l.cost) (short_number l.arc (omega (arith, line.arc, road.arcs)))
        (All-map IsShort decimal l.cost (All-weaker (λ x. x ≤ max_component) (λ x. IsShort (decimal x)) short_number l.cost line.small)))

    label_is_text : IsLineText (label_text l)
    label_is_text = line_text (codes "b") (label_fields l) is_b (are_fields (label_fields l) label_short)

    label_length : length (label_text l) ≤ 115
    label_length =
        omega (arith, length_line (codes "b") (label_fields l) label_short, length-map l.cost decimal, line.cost, road.network.four)

    abbrev LabelOf : Option ℕ → Option ℕ → Option (List ℕ) → Option Label
    LabelOf node arc cost =
        option_and_then (λ v. option_and_then (λ a. option_map (λ c. record { node = v; cost = c; arc = a }) cost) arc) node

    label_back : label_from net (fields_of (without_cr (label_text l))) ≡ Some l
    label_back =
        ap (λ t. label_from net (fields_of t)) (without_cr-same (label_text l) label_is_text)
        ∙ ap (label_from net) (fields_of-line (codes "b") (label_fields l) is_b (are_fields (label_fields l) label_short))
        ∙ ap (λ o. LabelOf o (number_in 0 (length net.ends) (decimal l.arc)) (components net.criteria (map decimal l.cost)))
        (number_back 1 net.nodes l.node (omega (arith, line.node.1, road.nodes)) line.node.0 line.node.1)
        ∙ ap (λ o. LabelOf (Some l.node) o (components net.criteria (map decimal l.cost)))
        (number_back 0 (length net.ends) l.arc (omega (arith, line.arc, road.arcs)) (omega arith) line.arc)
        ∙ ap (λ o. LabelOf (Some l.node) (Some l.arc) o)
        (ap (λ d. components d (map decimal l.cost)) (sym line.cost) ∙ components_back l.cost line.small)

-- ---- lines in order

stands_if : (x y : Label) → IsBefore x y → stands_before x y ≡ true
stands_if x y (inl less) = grind (arith, nat_tests)
stands_if x y (inr later) =
    let node = later.0 in
    let less : is_lt (lex_cmp x.cost y.cost) ≡ true = ap is_lt later.1 in
    grind (arith, nat_tests)

last_push : (labels : List Label) (l : Label) → last_label (labels ++ l ∷ []) ≡ Some l
last_push labels l = get_added labels l (length (labels ++ l ∷ []) - 1) (omega (arith, length-append labels (l ∷ [])))

-- a line within the limits has no fault
no_fault : (passed raw size : ℕ) → raw ≤ 1024 → passed + size ≤ 2 ^ 29 → line_fault cert_limits passed raw size ≡ None
no_fault passed raw size short within =
    by_tests (nat_lt 1024 raw) (nat_lt (2 ^ 29) (passed + size)) (grind (arith, nat_tests)) (grind (arith, nat_tests)) where
      by_tests : (a b : Bool) → a ≡ false → b ≡ false
          → fault_of_marks (if a then Some (passed + 1024 + 1) else None) (if b then Some (2 ^ 29 + 1) else None) ≡ None
      by_tests false false e f = refl
      by_tests false true e f = absurd cc
      by_tests true b e f = absurd cc

-- the certificate so far
abbrev so_far : ℕ → ℕ → List Label → ℕ → Draft
so_far start target labels due = record { cert = record { start = start; target = target; labels = labels }; due = due }

module _ (net : Network) (road : IsRoadNetwork net) (start target due total : ℕ) (within : total ≤ 2 ^ 29) where
  abbrev state_of : List Label → ℕ → ℕ → State
  state_of labels number passed = record { draft = Some (so_far start target labels due); number = number; passed = passed }

  size_within : (passed : ℕ) (line : List ℕ) → passed ≤ total → passed + size_in total passed line ≤ total
  size_within passed line before = omega (arith, before)

  taken_if : (few after : Bool) (d : Draft) → few ≡ true → after ≡ true → (if few && after then Some d else None) ≡ Some d
  taken_if true true d e f = refl
  taken_if true false d e f = absurd cc
  taken_if false after d e f = absurd cc

  accepted_if : (ok : Option Draft) (fault : Bool) (d : Draft) → fault ≡ true → ok ≡ Some d → (if fault then ok else None) ≡ Some d
  accepted_if ok true d e f = f
  accepted_if ok false d e f = absurd cc

  -- the line of one label more is accepted
  line_taken : (before : List Label) (l : Label) (number passed : ℕ) → passed ≤ total → IsLine net l → length before < due
      → follows (last_label before) l ≡ true
      → behind_line net total (state_of before number passed) (label_text l) ≡ Some (so_far start target (before ++ l ∷ []) due)
  line_taken before l number passed inside line few after =
      let size = size_in total passed (label_text l) in
      let room = size_within passed (label_text l) inside in
      let none = no_fault passed (length (label_text l)) size (omega (arith, label_length net road l line)) (omega (arith, room, within)) in
      accepted_if (with_label (so_far start target before due) (label_from net (fields_of (without_cr (label_text l)))))
      (is_none (line_fault cert_limits passed (length (label_text l)) size)) (so_far start target (before ++ l ∷ []) due)
      (ap is_none none)
      (ap (with_label (so_far start target before due)) (label_back net road l line)
      ∙ taken_if (nat_lt (length before) due) (follows (last_label before) l) (so_far start target (before ++ l ∷ []) due) (less_test (length before) due few) after) where
        less_test : (m n : ℕ) → m < n → nat_lt m n ≡ true
        less_test m n less = grind (arith, nat_tests)

  -- all have come
  whole_if : (labels : List Label) (number : ℕ) → length labels ≡ due
      → (if nat_lt (length labels) due then Err (number + 1) else Ok (so_far start target labels due).cert) ≡ Ok (so_far start target labels due).cert
  whole_if labels number all = by_test (nat_lt (length labels) due) (none_less (length labels) due all) where
    none_less : (m n : ℕ) → m ≡ n → nat_lt m n ≡ false
    none_less m n same = grind (arith, nat_tests)

    by_test : (b : Bool) → b ≡ false → (if b then Err (number + 1) else Ok (so_far start target labels due).cert) ≡ Ok (so_far start target labels due).cert
    by_test false e = refl
    by_test true e = absurd cc

  -- the lines of labels that ascend behind others are read
  lines_back : (rest before : List Label) (number passed : ℕ) → passed ≤ total → length before + length rest ≡ due → All (IsLine net) rest
      → AllPairs IsBefore rest → ((l : Label) → Contains rest l → follows (last_label before) l ≡ true)
      → read_lines net total (state_of before number passed) (map label_text rest) ≡ Ok (so_far start target (before ++ rest) due).cert
  lines_back [] before number passed inside count lines pairs after =
      whole_if before number (omega (arith, count)) ∙ ap (λ labels. Ok (so_far start target labels due).cert) (sym (append-nil before))
  lines_back (l ∷ rest) before number passed inside count lines pairs after =
      let size = size_in total passed (label_text l) in
      let taken = line_taken before l number passed inside (All-head (IsLine net) l rest lines) (omega (arith, count)) (after l (in_first l rest)) in
      let more : length (before ++ l ∷ []) + length rest ≡ due = omega (arith, count, length-append before (l ∷ [])) in
      ap (λ o. or_fault (number + 1) o (λ draft. read_lines net total
      (record { draft = Some draft; number = number + 1; passed = passed + size }) (map label_text rest))) taken
      ∙ lines_back rest (before ++ l ∷ []) (number + 1) (passed + size) (size_within passed (label_text l) inside) more (All-tail (IsLine net) l rest lines)
      (pairs_rest IsBefore l rest pairs) (λ x there. ap (λ o. follows o x) (last_push before l) ∙ stands_if l x (pair_with_first IsBefore l rest pairs x there))
      ∙ ap (λ labels. Ok (so_far start target labels due).cert) (append_assoc before (l ∷ []) rest)

module _ (net : Network) (road : IsRoadNetwork net) where
  -- ---- the first line

  abbrev heading_fields : Certificate → List (List ℕ)
  heading_fields cert = decimal net.criteria ∷ decimal cert.start ∷ decimal cert.target ∷ decimal (length cert.labels) ∷ []

  abbrev heading_text : Certificate → List ℕ
  heading_text cert = line_of_fields (codes "z") (heading_fields cert)

  heading_ended : (cert : Certificate) → heading_line net.criteria cert ≡ heading_text cert ++ end_line
  heading_ended cert =
      let d = and_number net.criteria in let s = and_number cert.start in let t = and_number cert.target in let n = and_number (length cert.labels) in
      ap (λ t. t ++ end_line) (append_assoc ((codes "z" ++ d) ++ s) t n ∙ append_assoc (codes "z" ++ d) s (t ++ n) ∙ append_assoc (codes "z") d (s ++ (t ++ n))
      ∙ ap (λ x. codes "z" ++ (d ++ (s ++ (t ++ x)))) (sym (append-nil n)))

  module _ (cert : Certificate) (good : IsCertificate net cert) where
    heading_short : All IsShort (heading_fields cert)
    heading_short =
        All-cons IsShort (decimal net.criteria) (decimal cert.start ∷ decimal cert.target ∷ decimal (length cert.labels) ∷ [])
        (short_number net.criteria (omega (arith, road.network.four)))
        (All-cons IsShort (decimal cert.start) (decimal cert.target ∷ decimal (length cert.labels) ∷ []) (short_number cert.start (omega (arith, good.start.1, road.nodes)))
        (All-cons IsShort (decimal cert.target) (decimal (length cert.labels) ∷ []) (short_number cert.target (omega (arith, good.target.1, road.nodes)))
        (All-cons IsShort (decimal (length cert.labels)) [] (short_number (length cert.labels) (omega (arith, good.count))) (All-nil IsShort))))

    heading_is_text : IsLineText (heading_text cert)
    heading_is_text = line_text (codes "z") (heading_fields cert) is_z (are_fields (heading_fields cert) heading_short)

    heading_length : length (heading_text cert) ≤ 100
    heading_length = omega (arith, length_line (codes "z") (heading_fields cert) heading_short)

    abbrev HeadingOf : Option ℕ → Option ℕ → Option ℕ → Option ℕ → Option Draft
    HeadingOf d s t l =
        option_and_then (λ criteria. option_and_then (λ start. option_and_then (λ target. option_map (begun_draft start target) l) t) s) d

    heading_back : heading_from net (fields_of (without_cr (heading_text cert))) ≡ Some (so_far cert.start cert.target [] (length cert.labels))
    heading_back =
        ap (λ t. heading_from net (fields_of t)) (without_cr-same (heading_text cert) heading_is_text)
        ∙ ap (heading_from net) (fields_of-line (codes "z") (heading_fields cert) is_z (are_fields (heading_fields cert) heading_short))
        ∙ ap (λ o. HeadingOf o (number_in 1 net.nodes (decimal cert.start)) (number_in 1 net.nodes (decimal cert.target)) (number_in 0 max_labels (decimal (length cert.labels))))
        (number_back net.criteria net.criteria net.criteria (omega (arith, road.network.four)) (omega arith) (omega arith))
        ∙ ap (λ o. HeadingOf (Some net.criteria) o (number_in 1 net.nodes (decimal cert.target)) (number_in 0 max_labels (decimal (length cert.labels))))
        (number_back 1 net.nodes cert.start (omega (arith, good.start.1, road.nodes)) good.start.0 good.start.1)
        ∙ ap (λ o. HeadingOf (Some net.criteria) (Some cert.start) o (number_in 0 max_labels (decimal (length cert.labels))))
        (number_back 1 net.nodes cert.target (omega (arith, good.target.1, road.nodes)) good.target.0 good.target.1)
        ∙ ap (HeadingOf (Some net.criteria) (Some cert.start) (Some cert.target))
        (number_back 0 max_labels (length cert.labels) (omega (arith, good.count)) (omega arith) good.count)

    -- ---- the whole text

    lines_are : (labels : List Label) → All (IsLine net) labels → lines_of (flat_map label_line labels) ≡ map label_text labels
    lines_are [] lines = refl
    lines_are (l ∷ labels) lines =
        ap (λ t. lines_of (t ++ flat_map label_line labels)) (label_ended l)
        ∙ ap lines_of (append_assoc (label_text l) end_line (flat_map label_line labels))
        ∙ lines_of-line (label_text l) (flat_map label_line labels) (label_is_text net road l (All-head (IsLine net) l labels lines))
        ∙ ap (λ ls. label_text l ∷ ls) (lines_are labels (All-tail (IsLine net) l labels lines))

    length_all : (labels : List Label) → All (IsLine net) labels → length (flat_map label_line labels) ≤ 116 * length labels
    length_all [] lines = omega arith
    length_all (l ∷ labels) lines =
        let rest = length_all labels (All-tail (IsLine net) l labels lines) in
        let one = label_length net road l (All-head (IsLine net) l labels lines) in
        omega (arith, rest, one, length-append (label_line l) (flat_map label_line labels), ap length (label_ended l), length-append (label_text l) end_line)

    pub text_back : read_text net (cert_text net.criteria cert) ≡ Ok cert
    text_back =
        let bytes = cert_text net.criteria cert in
        let rest = flat_map label_line cert.labels in
        let lines : lines_of bytes ≡ heading_text cert ∷ map label_text cert.labels =
        ap (λ t. lines_of (t ++ rest)) (heading_ended cert) ∙ ap lines_of (append_assoc (heading_text cert) end_line rest)
        ∙ lines_of-line (heading_text cert) rest heading_is_text ∙ ap (λ ls. heading_text cert ∷ ls) (lines_are cert.labels good.lines) in
        let total : length bytes ≤ 2 ^ 29 =
        omega (
          arith,
          length_all cert.labels good.lines,
          good.count,
          heading_length,
          length-append (heading_line net.criteria cert) rest,
          ap length (heading_ended cert),
          length-append (heading_text cert) end_line,
        ) in
        let all = 0 + length bytes in
        let size = size_in all 0 (heading_text cert) in
        let fits : all ≤ 2 ^ 29 = omega (arith, total) in
        let room : 0 + size ≤ all = omega arith in
        let none = no_fault 0 (length (heading_text cert)) size (omega (arith, heading_length)) (omega (arith, room, fits)) in
        let first = accepted_if net road cert.start cert.target (length cert.labels) all fits
        (with_line net None (fields_of (without_cr (heading_text cert)))) (is_none (line_fault cert_limits 0 (length (heading_text cert)) size))
        (so_far cert.start cert.target [] (length cert.labels)) (ap is_none none) heading_back in
        ap (read_lines net all (record { draft = None; number = 0; passed = 0 })) lines
        ∙ ap (λ o. or_fault (0 + 1) o (λ draft. read_lines net all
        (record { draft = Some draft; number = 0 + 1; passed = 0 + size }) (map label_text cert.labels))) first
        ∙ lines_back net road cert.start cert.target (length cert.labels) all fits cert.labels [] (0 + 1) (0 + size) room (omega arith) good.lines good.ascending (λ l there. refl)

-- ---- a check accepts it

module _ (net : Network) (cert : Certificate) (back : read_text net (cert_text net.criteria cert) ≡ Ok cert) (none : HasNoFailure net cert) where
  pub accepts : (result : Result Listing CertFault) → ChecksText net (cert_text net.criteria cert) result → Accepts cert result
  accepts (Ok listing) checks = let same : Ok cert ≡ Ok listing.cert = sym back ∙ checks.0 in cc
  accepts (Err (Line line)) checks = let other : Ok cert ≡ Err line = sym back ∙ checks in absurd cc
  accepts (Err (Rule rule label)) checks =
      let same : Ok cert ≡ Ok checks.0 = sym back ∙ checks.1 in
      let is : checks.0 ≡ cert = cc in
      none rule label (subst (λ x. Fails net x rule label) is checks.2.fails)
  accepts (Err Read) checks = tt
  accepts (Err (OutOfMemory want)) checks = tt

-- ---- there is one such certificate

before_irrefl : (x : Label) → ¬ IsBefore x x
before_irrefl x (inl less) = omega (arith, less)
before_irrefl x (inr less) = LexLess-irrefl x.cost less.1

module _ (net : Network) (cert other : Certificate) (start : cert.start ≡ other.start) (target : cert.target ≡ other.target)
    (lists : ListsRelevant net cert) (lists_too : ListsRelevant net other) where
  -- what the one lists, the other does, with the same arc
  listed_too : (l : Label) → Contains cert.labels l → Contains other.labels l
  listed_too l there =
      let relevant = (lists.relevant l.node l.cost).0 (record { arc = l.arc; listed = there }) in
      let relevant_too = subst₂ (λ s t. IsRelevant net s t (no_limit net.criteria) l.node l.cost) start target relevant in
      let listed = (lists_too.relevant l.node l.cost).1 relevant_too in
      let this = lists.least l there in
      let that = lists_too.least (record { node = l.node; cost = l.cost; arc = listed.arc }) listed.listed in
      let one = one_backward_least net other.start l.node l.cost this.walk that.walk (subst (λ s. IsBackwardLeast net s l.node l.cost this.walk) start this.least) that.least in
      let arcs : listed.arc ≡ l.arc = that.arc ∙ ap last_arc (sym one) ∙ sym this.arc in
      subst (λ a. Contains other.labels (record { node = l.node; cost = l.cost; arc = a })) arcs listed.listed

pub one_certificate : (net : Network) (cert other : Certificate) → IsCertificate net cert → IsCertificate net other → cert.start ≡ other.start → cert.target ≡ other.target
    → ListsRelevant net cert → ListsRelevant net other → cert ≡ other
one_certificate net cert other good good_too start target lists lists_too =
    let labels = ascending_same IsBefore before_irrefl before_trans cert.labels other.labels good.ascending good_too.ascending
    (λ l. (listed_too net cert other start target lists lists_too l, listed_too net other cert (sym start) (sym target) lists_too lists l)) in
    ap₂ (λ s t. record { start = s; target = t; labels = cert.labels }) start target ∙ ap (λ ls. record other { labels = ls }) labels
