-- The text of a certificate: a first line `z D S T L`, and then L lines `b V A C1 .. CD`.
use Rattle.std.specs.Prelude.{ℕ, zero, suc, ◌+◌, ◌-◌, ◌^◌, ◌==◌, ◌&&◌, ◌||◌, nat_eq, nat_lt, if◌then◌else◌, Bool, true}
use Rattle.std.specs.Prelude.{List, [], ◌∷◌, ◌++◌, length, slice_get, codes, Option, Some, None, is_none, Result, Ok, Err}
use Rattle.std.specs.Option.{option_and_then, option_map}
use Rattle.std.specs.Ordering.{is_lt}
use Rattle.std.specs.Cmp.Lexicographic.{pointwise}
use Rattle.cost_vector.specs.Costs.{lex_cmp}
use Rattle.line_text.specs.Fields.{fields_of}
use Rattle.line_text.specs.Lines.{lines_of, without_cr}
use Rattle.line_text.specs.Marks.{line_fault}
pub use Rattle.line_text.specs.Numerals.{number_in}
pub use Rattle.line_text.specs.Texts.{size_in}
use Rattle.line_text.specs.declared.limits.LineLimits.{LineLimits}
use Rattle.road_network.specs.Labels.{Label}
use Rattle.road_network.specs.Network.{Network}
use Rattle.cert_rules.specs.Certificates.{Certificate, max_component, max_labels}

-- a line has at most 1,024 bytes, and the text 2^29
abbrev pub cert_limits : LineLimits
cert_limits = record { line = 1024; total = 2 ^ 29 }

-- so many fields, each a component of a cost
abbrev pub components : ℕ → List (List ℕ) → Option (List ℕ)
components zero [] = Some []
components zero (field ∷ fields) = None
components (suc d) [] = None
components (suc d) (field ∷ fields) =
    option_and_then (λ x. option_map (λ xs. x ∷ xs) (components d fields)) (number_in 0 max_component field)

-- the test that a field is this word
abbrev pub is_word : List ℕ → List ℕ → Bool
is_word field word = pointwise nat_eq field word

-- the certificate so far, and how many labels it is to have
pub record Draft : Type 0 where
  pub cert : Certificate
  pub due : ℕ

-- no label has come yet
abbrev pub begun_draft : ℕ → ℕ → ℕ → Draft
begun_draft start target due =
    record { cert = record { start = start; target = target; labels = [] }; due = due }

-- behind the word stand the number of criteria, both ends and the number of labels
abbrev pub heading_from : Network → List (List ℕ) → Option Draft
heading_from net (word ∷ d ∷ s ∷ t ∷ l ∷ []) =
    if is_word word (codes "z")
    then option_and_then (λ criteria. option_and_then (λ start. option_and_then (λ target.
    option_map (begun_draft start target) (number_in 0 max_labels l))
    (number_in 1 net.nodes t)) (number_in 1 net.nodes s)) (number_in net.criteria net.criteria d)
    else None
heading_from net fields = None

-- behind the word stand a node, an arc or 0, and a cost
abbrev pub label_from : Network → List (List ℕ) → Option Label
label_from net (word ∷ v ∷ a ∷ costs) =
    if is_word word (codes "b")
    then option_and_then (λ node. option_and_then (λ arc.
    option_map (λ cost. record { node = node; cost = cost; arc = arc }) (components net.criteria costs))
    (number_in 0 (length net.ends) a)) (number_in 1 net.nodes v)
    else None
label_from net fields = None

-- the test that of two labels the first stands before the second
abbrev pub stands_before : Label → Label → Bool
stands_before x y = nat_lt x.node y.node || (x.node == y.node && is_lt (lex_cmp x.cost y.cost))

-- the test that a label is greater than the last, if there is one
abbrev pub follows : Option Label → Label → Bool
follows None l = true
follows (Some last) l = stands_before last l

-- the last of the labels
abbrev pub last_label : List Label → Option Label
last_label labels = slice_get labels (length labels - 1)

-- the draft with one label more, unless all have come or it is out of order
abbrev pub with_label : Draft → Option Label → Option Draft
with_label draft None = None
with_label draft (Some l) =
    if nat_lt (length draft.cert.labels) draft.due && follows (last_label draft.cert.labels) l
    then Some (record { cert = record draft.cert { labels = draft.cert.labels ++ l ∷ [] }; due = draft.due })
    else None

-- the draft behind a line with these fields, unless it isn't what is due
abbrev pub with_line : Network → Option Draft → List (List ℕ) → Option Draft
with_line net None fields = heading_from net fields
with_line net (Some draft) fields = with_label draft (label_from net fields)

-- what stands before a place of the text: a draft, and how many lines and bytes
pub record State : Type 0 where
  pub draft : Option Draft
  pub number : ℕ
  pub passed : ℕ

-- what follows a line, or that it is faulty
abbrev pub or_fault : ℕ → Option Draft → (Draft → Result Certificate ℕ) → Result Certificate ℕ
or_fault number None onward = Err number
or_fault number (Some draft) onward = onward draft

-- the certificate, or that the place behind the last line is faulty
abbrev pub whole : Option Draft → ℕ → Result Certificate ℕ
whole None number = Err (number + 1)
whole (Some draft) number =
    if nat_lt (length draft.cert.labels) draft.due then Err (number + 1) else Ok draft.cert

-- the draft behind a line, unless it breaks a limit or isn't what is due
abbrev pub behind_line : Network → ℕ → State → List ℕ → Option Draft
behind_line net total state line =
    if is_none (line_fault cert_limits state.passed (length line) (size_in total state.passed line))
    then with_line net state.draft (fields_of (without_cr line))
    else None

-- what the lines say from a state on, in a text of so many bytes: a certificate, or the first faulty line's number
abbrev pub read_lines : Network → ℕ → State → List (List ℕ) → Result Certificate ℕ
read_lines net total state [] = whole state.draft state.number
read_lines net total state (line ∷ lines) =
    or_fault (state.number + 1) (behind_line net total state line) (λ draft. read_lines net total
    (record { draft = Some draft; number = state.number + 1; passed = state.passed + size_in total state.passed line }) lines)

-- the same of the rest of a text
abbrev pub read_rest : Network → State → List ℕ → Result Certificate ℕ
read_rest net state rest = read_lines net (state.passed + length rest) state (lines_of rest)

-- the certificate that a text is, or the number of its first faulty line
abbrev pub read_text : Network → List ℕ → Result Certificate ℕ
read_text net bytes = read_rest net (record { draft = None; number = 0; passed = 0 }) bytes
