-- Which place of a text is the first faulty one, and what the lines say of which none is.
use Rattle.std.proofs.Common.{◌≡◌, ℕ, zero, suc, ◌+◌, ◌-◌, ◌<◌, ◌≤◌, nat_le, not, Bool, true, false, cond, List, [], ◌∷◌, ◌++◌, Option, Some, None, option_and_then, length, map, take, drop, get_or, inl, inr, ◌⊎◌, refl, sym, ap, ap₂, subst, ◌∙◌, arith, append_assoc, length-append, ⊎_elim}
use Rattle.std.specs.Prelude.{All, count_by, slice_get, sum_by}
use Rattle.std.specs.List.{AllByRecursion, cons_option, onto_first}
use Rattle.std.specs.Option.{option_or}
use Rattle.std.proofs.lemmas.Bool.{cases_lt}
use Rattle.std.proofs.lemmas.Bool.Decides.{nat_tests}
use Rattle.std.proofs.lemmas.List.{append-nil, length-map, length-take, length_push, map-append, take_at}
use Rattle.std.proofs.lemmas.List.Elements.{All-get_or, All-nil, All-push, filter_map-append, recursion_from_All}
use Rattle.std.proofs.lemmas.List.Sums.{sum_by-append, sum_by-cons}
use Rattle.line_text.specs.declared.limits.LineFault.{LineFault}
use Rattle.line_text.specs.declared.limits.LineLimits.{LineLimits}
use Rattle.line_text.specs.Lines.{is_lf, without_cr, lines_of}
use Rattle.line_text.specs.Marks.{line_fault}
use Rattle.line_text.specs.Texts.{Follows, Front, fault_behind, passed_by, size_in}
use Rattle.line_text.proofs.TextLemmas.{keeps_limits, passed_by-push}
use Rattle.gr_reader.specs.declared.fault.LineKind.{LineKind}
use Rattle.gr_reader.specs.declared.fault.LineKind.TheVariants.{CountWrong, NodeRange, NoProblem, SizeRange, WeightRange}
use Rattle.gr_reader.specs.declared.records.Begun.{Begun}
use Rattle.gr_reader.specs.Rules.{LineForm, Rules, IsWithinRange, form_of}
use Rattle.gr_reader.specs.Rules.LineForm.{Problem, Record, Malformed}
use Rattle.gr_reader.specs.Table.{State, form_kind, lacking, limit_kind, line_kind}
use Rattle.gr_reader.specs.Files.{FirstFault, IsFile, forms_of, is_record, kind_at, kind_there, problem_in, state_behind}
use Rattle.gr_reader.specs.Steps.{HasLines, IsBegun, come_of, problem_of, said_by}

-- ---- forms

-- a test that decides a kind was passed
pub passed_test : (kind : LineKind) (rest : Option LineKind) (test : Bool) → cond (not test) (Some kind) rest ≡ None → (test ≡ true) × (rest ≡ None)
passed_test kind rest true e = (refl, e)
passed_test kind rest false e = absurd cc

-- a list that begins with a known item
pub head_is : {F : Type 0} (form other : F) (forms others : List F) → (form ∷ forms) ≡ (other ∷ others) → (form ≡ other) × (forms ≡ others)
head_is form other forms others e = (cc, cc)

module _ {P R : Type 0} (rules : Rules P R) where
  -- an accepted record was due and is in range
  pub record_accepted : (known : P) (come : ℕ) (r : R) → form_kind rules (Some known) come (Record r) ≡ None
      → (come < rules.count known) × IsWithinRange rules known r
  record_accepted known come r e = by_tests (nat_le (rules.count known) come) refl e where
    by_tests : (full : Bool) → nat_le (rules.count known) come ≡ full
        → cond full (Some CountWrong) (cond (not (rules.has_nodes known r)) (Some NodeRange) (cond (not (rules.has_weight r)) (Some WeightRange) None)) ≡ None
        → (come < rules.count known) × IsWithinRange rules known r
    by_tests true full e = absurd cc
    by_tests false full e =
        let nodes = passed_test NodeRange _ (rules.has_nodes known r) e in
        let due : come < rules.count known = grind (arith, nat_tests) in
        (due, record { nodes = nodes.0; weight = (passed_test WeightRange _ (rules.has_weight r) nodes.1).0 })

  -- such a record is accepted
  record_fits : (known : P) (come : ℕ) (r : R) → come < rules.count known → IsWithinRange rules known r → form_kind rules (Some known) come (Record r) ≡ None
  record_fits known come r due fits =
      let more : nat_le (rules.count known) come ≡ false = grind (arith, nat_tests) in
      rw (more, fits.nodes, fits.weight) refl

  -- what stands among records is one of them, and so many stand before it
  among : (Q : R → Type 0) (front back : List (LineForm P R)) (form : LineForm P R) (records : List R) → front ++ form ∷ back ≡ map Record records
      → AllByRecursion Q records → (r : R) × (form ≡ Record r) × Q r × (count_by is_record front < length records)
  among Q [] back form [] e all = absurd cc
  among Q (first ∷ front) back form [] e all = absurd cc
  among Q [] back form (r ∷ records) e all = (r, (head_is form (Record r) back (map Record records) e).0, all.0, omega arith)
  among Q (first ∷ front) back form (r ∷ records) e all =
      let heads = head_is first (Record r) (front ++ form ∷ back) (map Record records) e in
      let rest = among Q front back form records heads.1 all.1 in
      let one : ◌≡◌ {A = ℕ} (cond (is_record first) 1 0) 1 = ap (λ f. cond (is_record f) 1 0) heads.0 in
      (rest.0, rest.1, rest.2, omega (arith, rest.3, one, sum_by-cons (λ (f : LineForm P R). cond (is_record f) 1 0) first front))

  -- each of them has no fault where it stands
  form_fits : (front back : List (LineForm P R)) (form : LineForm P R) (problem : P) (records : List R) → IsBegun rules (front ++ form ∷ back) problem records
      → form_kind rules (problem_in front) (count_by is_record front) form ≡ None
  form_fits [] back form problem records begun =
      let first = (head_is form (Problem problem) back (map Record records) begun.said).0 in
      rw (first, begun.right_size) refl
  form_fits (first ∷ front) back form problem records begun =
      let heads = head_is first (Problem problem) (front ++ form ∷ back) (map Record records) begun.said in
      let here = among (IsWithinRange rules problem) front back form records heads.1 (recursion_from_All (IsWithinRange rules problem) records begun.in_range) in
      let none : ◌≡◌ {A = ℕ} (cond (is_record first) 1 0) 0 = ap (λ f. cond (is_record f) 1 0) heads.0 in
      let come : count_by is_record (first ∷ front) < rules.count problem =
      omega (arith, here.3, begun.due, none, sum_by-cons (λ (f : LineForm P R). cond (is_record f) 1 0) first front) in
      ap (λ f. form_kind rules (problem_in (f ∷ front)) (count_by is_record (first ∷ front)) form) heads.0
      ∙ ap (form_kind rules (Some problem) (count_by is_record (first ∷ front))) here.1
      ∙ record_fits problem (count_by is_record (first ∷ front)) here.0 come here.2

  -- a file begins with its problem line
  pub begun_first : (problem : P) → form_kind rules None 0 (Problem problem) ≡ None → IsBegun rules (Problem problem ∷ []) problem []
  begun_first problem right = record {
    said = refl;
    right_size = (passed_test SizeRange None (rules.is_size problem) right).0;
    due = omega arith;
    in_range = All-nil _;
  }

  -- and goes on with a record
  pub begun_more : (forms : List (LineForm P R)) (problem : P) (records : List R) (r : R) → IsBegun rules forms problem records
      → form_kind rules (Some problem) (length records) (Record r) ≡ None → IsBegun rules (forms ++ Record r ∷ []) problem (records ++ r ∷ [])
  begun_more forms problem records r begun right =
      let due = record_accepted problem (length records) r right in
      record {
        said = ap (λ forms. forms ++ Record r ∷ []) begun.said ∙ ap (λ forms. Problem problem ∷ forms) (sym (map-append Record records (r ∷ [])));
        right_size = begun.right_size;
        due = omega (arith, length_push records r, due.0);
        in_range = All-push (IsWithinRange rules problem) records r begun.in_range due.1;
      }

  abbrev as_forms : List R → List (LineForm P R)
  as_forms records = map Record records

  -- so many records have come
  pub come-is : (forms : List (LineForm P R)) (problem : P) (records : List R) → IsBegun rules forms problem records → count_by is_record forms ≡ length records
  come-is forms problem records begun =
      ap (count_by is_record) begun.said
      ∙ omega (arith, all records, sum_by-cons (λ (f : LineForm P R). cond (is_record f) 1 0) (Problem problem) (as_forms records)) where
        all : (records : List R) → count_by is_record (as_forms records) ≡ length records
        all [] = refl
        all (r ∷ records) = omega (arith, all records, sum_by-cons (λ (f : LineForm P R). cond (is_record f) 1 0) (Record r) (as_forms records))

  no_form : (front back : List (LineForm P R)) (form : LineForm P R) → front ++ form ∷ back ≡ [] → ⊥
  no_form [] back form e = absurd cc
  no_form (first ∷ front) back form e = absurd cc

  -- the lines say nothing so far, or what they say is begun
  abbrev pub MayBegin : List (LineForm P R) → Type 0
  MayBegin forms = (forms ≡ []) ⊎ ((problem : P) × (records : List R) × IsBegun rules forms problem records)

  says_right : (front back : List (LineForm P R)) (form : Option (LineForm P R)) → MayBegin (front ++ cons_option form back)
      → option_and_then (form_kind rules (problem_in front) (count_by is_record front)) form ≡ None
  says_right front back None may = refl
  says_right front back (Some form) (inl none) = absurd (no_form front back form none)
  says_right front back (Some form) (inr begun) = form_fits front back form begun.0 begun.1 begun.2

-- ---- places

at_place : (front : List (List ℕ)) (i : ℕ) → i < length front → front ≡ take i front ++ get_or front i [] ∷ drop (suc i) front
at_place [] i lt = absurd (omega arith)
at_place (line ∷ front) zero lt = refl
at_place (line ∷ front) (suc i) lt = ap (λ l. line ∷ l) (at_place front i (omega arith))

slice_get-front : {X : Type 0} (front back : List X) → slice_get (front ++ back) (length front) ≡ slice_get back 0
slice_get-front [] back = refl
slice_get-front (x ∷ front) back = slice_get-front front back

-- neither has a kind
pub or_none : (a b : Option LineKind) → option_or a b ≡ None → (a ≡ None) × (b ≡ None)
or_none None b e = (refl, e)
or_none (Some kind) b e = absurd cc

-- the lines of a text take all its bytes
lines_take-all : (bytes : List ℕ) → length bytes ≤ sum_by (λ line. length line + 1) (lines_of bytes)
lines_take-all [] = omega arith
lines_take-all (byte ∷ bytes) = step (is_lf byte) (lines_of bytes) (lines_take-all bytes) where
  step : (ends : Bool) (lines : List (List ℕ)) → length bytes ≤ sum_by (λ line. length line + 1) lines
      → length (byte ∷ bytes) ≤ sum_by (λ line. length line + 1) (cond ends ([] ∷ lines) (onto_first byte lines))
  step true lines later = omega (arith, later, sum_by-cons (λ line. length line + 1) [] lines)
  step false [] later = omega arith
  step false (line ∷ lines) later =
      omega (arith, later, sum_by-cons (λ line. length line + 1) line lines, sum_by-cons (λ line. length line + 1) (byte ∷ line) lines)

-- a file of which no line breaks a limit is short
pub short_file : (limits : LineLimits) (bytes : List ℕ) (front : List (List ℕ)) → front ≡ lines_of bytes → passed_by (length bytes) front ≤ limits.total
    → length bytes ≤ limits.total
short_file limits bytes front all within = omega (arith, within, lines_take-all bytes, ap (sum_by (λ line. length line + 1)) all)

-- ---- the text

-- what texts say is what their lines say
pub said-is : {P R : Type 0} (rules : Rules P R) (front : List (List ℕ)) → said_by rules (map without_cr front) ≡ forms_of rules front
said-is rules [] = refl
said-is rules (line ∷ front) = ap (cons_option (form_of rules (without_cr line))) (said-is rules front)

module _ {P R : Type 0} (rules : Rules P R) (limits : LineLimits) (bytes : List ℕ) where
  -- the state behind these first lines
  abbrev behind : List (List ℕ) → State P
  behind front = state_behind rules (length bytes) front

  -- no place before this one is faulty
  abbrev pub NoneBefore : ℕ → Type 0
  NoneBefore n = (i : ℕ) → i < n → kind_at rules limits bytes i ≡ None

  kind_here : (front back : List (List ℕ)) → front ++ back ≡ lines_of bytes
      → kind_at rules limits bytes (length front) ≡ kind_there rules limits (length bytes) (behind front) (slice_get back 0)
  kind_here front back e = rw (← e, take_at front back (length front) refl, slice_get-front front back) refl

  -- this place is the first faulty one
  fault_here : (n : ℕ) (kind : LineKind) → n ≤ length (lines_of bytes) → NoneBefore n → kind_at rules limits bytes n ≡ Some kind
      → FirstFault rules limits bytes kind (n + 1)
  fault_here n kind within before here =
      let place : n + 1 - 1 ≡ n = omega arith in
      record { counted = omega arith; within = omega arith; faulty = ap (kind_at rules limits bytes) place ∙ here; first = λ i lt. before i (omega arith) }

  module _ {texts back : List (List ℕ)} (lines : Front limits bytes texts back) (may : MayBegin rules (said_by rules texts)) where
    forms-are : said_by rules texts ≡ forms_of rules lines.front
    forms-are = ap (said_by rules) lines.texts ∙ said-is rules lines.front

    -- none of these lines is faulty
    none_before : NoneBefore (length lines.front)
    none_before i lt =
        let line = get_or lines.front i [] in
        let before = take i lines.front in
        let later = drop (suc i) lines.front in
        let here = at_place lines.front i lt in
        let whole : before ++ line ∷ (later ++ back) ≡ lines_of bytes =
        sym (append_assoc before (line ∷ later) back) ∙ ap (λ l. l ++ back) (sym here) ∙ sym lines.parts in
        let place : length before ≡ i = omega (arith, length-take i lines.front, lt) in
        let short : length line ≤ limits.line = All-get_or (λ l. length l ≤ limits.line) lines.front i [] lt lines.short in
        let sum = sum_by-append (λ l. length l + 1) before (line ∷ later) in
        let sums = ap (sum_by (λ l. length l + 1)) here in
        let size = passed_by-push (length bytes) before line in
        let more = sum_by-append (λ l. length l + 1) before (line ∷ []) in
        let next = sum_by-cons (λ l. length l + 1) line later in
        let one = sum_by-cons (λ l. length l + 1) line [] in
        let within : passed_by (length bytes) before + size_in (length bytes) (passed_by (length bytes) before) line ≤ limits.total =
        omega (arith, sum, sums, size, more, next, one, lines.within) in
        let unbroken : fault_behind limits (length bytes) before line ≡ None = keeps_limits limits _ _ _ short within in
        let parted : said_by rules texts ≡ forms_of rules before ++ cons_option (form_of rules (without_cr line)) (forms_of rules later) =
        forms-are ∙ ap (forms_of rules) here ∙ filter_map-append (λ (l : List ℕ). form_of rules (without_cr l)) before (line ∷ later) in
        let says = says_right rules (forms_of rules before) (forms_of rules later) (form_of rules (without_cr line)) (subst (MayBegin rules) parted may) in
        subst (λ n. kind_at rules limits bytes n ≡ None) place
        (kind_here before (line ∷ (later ++ back)) whole
        ∙ ap (λ broken. option_or (limit_kind broken) (option_and_then (form_kind rules (problem_in (forms_of rules before)) (count_by is_record (forms_of rules before))) (form_of rules (without_cr line)))) unbroken
        ∙ says)

    first_fault : (kind : LineKind) → kind_there rules limits (length bytes) (behind lines.front) (slice_get back 0) ≡ Some kind
        → (number : ℕ) → number ≡ length texts + 1 → FirstFault rules limits bytes kind number
    first_fault kind faulty number at =
        let count : length texts ≡ length lines.front = ap length lines.texts ∙ length-map lines.front without_cr in
        let within : length lines.front ≤ length (lines_of bytes) = omega (arith, ap length lines.parts, length-append lines.front back) in
        subst (FirstFault rules limits bytes kind) (sym (at ∙ ap (λ n. n + 1) count))
        (fault_here (length lines.front) kind within none_before (kind_here lines.front back (sym lines.parts) ∙ faulty))

  -- ---- what the lines that a sink has taken say

  module _ {S : Type 0} (HasTaken : S → S → P → List R → Type 0) (start now : S) where
    -- they may be the beginning of a file
    pub may_begin : (texts : List (List ℕ)) (begun : Option (Begun P)) → HasLines rules HasTaken start now texts begun → MayBegin rules (said_by rules texts)
    may_begin texts None has = inl has.0
    may_begin texts (Some begun) has = inr (begun.problem, has.records, has.begun)

    -- what the state behind them is
    pub problem-is : (texts : List (List ℕ)) (begun : Option (Begun P)) → HasLines rules HasTaken start now texts begun
        → (problem_in (said_by rules texts) ≡ problem_of begun) × (count_by is_record (said_by rules texts) ≡ come_of begun)
    problem-is texts None has = (ap problem_in has.0, ap (count_by is_record) has.0)
    problem-is texts (Some begun) has = (ap problem_in has.begun.said, come-is rules _ begun.problem has.records has.begun ∙ sym has.counted)

    module _ (texts : List (List ℕ)) (begun : Option (Begun P)) (has : HasLines rules HasTaken start now texts begun) where
      state-is : {back : List (List ℕ)} (lines : Front limits bytes texts back)
          → (problem_in (forms_of rules lines.front) ≡ problem_of begun) × (count_by is_record (forms_of rules lines.front) ≡ come_of begun)
      state-is lines =
          let forms = forms-are lines (may_begin texts begun has) in
          let is = problem-is texts begun has in
          (ap problem_in (sym forms) ∙ is.0, ap (count_by is_record) (sym forms) ∙ is.1)

      -- the next line breaks a limit
      pub fault_broken : (line : List ℕ) (broken : LineFault) (kind : LineKind) → limit_kind (Some broken) ≡ Some kind
          → Follows limits bytes texts line (Some broken) → (number : ℕ) → number ≡ length texts + 1 → FirstFault rules limits bytes kind number
      fault_broken line broken kind named next =
          first_fault next.lines (may_begin texts begun has) kind
          (ap (λ b. option_or (limit_kind b) (option_and_then (form_kind rules (problem_in (forms_of rules next.lines.front)) (count_by is_record (forms_of rules next.lines.front))) (form_of rules (without_cr line)))) next.fault
          ∙ ap (λ k. option_or k (option_and_then (form_kind rules (problem_in (forms_of rules next.lines.front)) (count_by is_record (forms_of rules next.lines.front))) (form_of rules (without_cr line)))) named)

      -- the next line says what is wrong there
      pub fault_said : (line text : List ℕ) (kind : LineKind) → text ≡ without_cr line → Follows limits bytes texts line None
          → option_and_then (form_kind rules (problem_of begun) (come_of begun)) (form_of rules text) ≡ Some kind
          → (number : ℕ) → number ≡ length texts + 1 → FirstFault rules limits bytes kind number
      fault_said line text kind is next wrong =
          let state = state-is next.lines in
          first_fault next.lines (may_begin texts begun has) kind
          (ap (λ b. option_or (limit_kind b) (option_and_then (form_kind rules (problem_in (forms_of rules next.lines.front)) (count_by is_record (forms_of rules next.lines.front))) (form_of rules (without_cr line)))) next.fault
          ∙ ap₂ (λ p c. option_and_then (form_kind rules p c) (form_of rules (without_cr line))) state.0 state.1
          ∙ ap (λ t. option_and_then (form_kind rules (problem_of begun) (come_of begun)) (form_of rules t)) (sym is)
          ∙ wrong)

      -- the text lacks something at its end
      pub fault_lacking : (kind : LineKind) → Front limits bytes texts [] → lacking rules (problem_of begun) (come_of begun) ≡ Some kind
          → (number : ℕ) → number ≡ length texts + 1 → FirstFault rules limits bytes kind number
      fault_lacking kind lines lacks =
          let state = state-is lines in
          first_fault lines (may_begin texts begun has) kind (ap₂ (lacking rules) state.0 state.1 ∙ lacks)

  -- ---- each text

  -- these first lines, of which none breaks a limit
  abbrev front_of : (front back : List (List ℕ)) → lines_of bytes ≡ front ++ back → All (λ line. length line ≤ limits.line) front
      → passed_by (length bytes) front ≤ limits.total → Front limits bytes (map without_cr front) back
  front_of front back parts short within = record { front = front; parts = parts; texts = refl; short = short; within = within }

  said_so : (front : List (List ℕ)) → MayBegin rules (forms_of rules front) → MayBegin rules (said_by rules (map without_cr front))
  said_so front may = subst (MayBegin rules) (sym (said-is rules front)) may

  -- no place of a file is faulty
  pub file_right : (problem : P) (records : List R) → IsFile rules limits bytes problem records → NoneBefore (length (lines_of bytes) + 1)
  file_right problem records file i lt =
      let lines = lines_of bytes in
      let begun : IsBegun rules (forms_of rules lines) problem records =
      record { said = file.lines; right_size = file.right_size; due = omega (arith, file.counted); in_range = file.in_range } in
      let front = front_of lines [] (sym (append-nil lines)) file.short_lines (omega (arith, file.short_file)) in
      let full : nat_le (rules.count problem) (length records) ≡ true = grind (arith, nat_tests, file.counted) in
      let last : lacking rules (problem_in (forms_of rules lines)) (count_by is_record (forms_of rules lines)) ≡ None =
      ap₂ (lacking rules) (ap problem_in file.lines) (come-is rules (forms_of rules lines) problem records begun) ∙ ap (λ b. cond b None (Some CountWrong)) full in
      ⊎_elim (λ before. none_before front (said_so lines (inr (problem, records, begun))) i before)
      (λ at. let place : length lines ≡ i = omega arith in
      subst (λ n. kind_at rules limits bytes n ≡ None) place (kind_here lines [] (append-nil lines) ∙ last))
      (cases_lt i (length lines))

  abbrev Answer : Type 0
  Answer = ((problem : P) × (records : List R) × IsFile rules limits bytes problem records) ⊎ ((kind : LineKind) × (line : ℕ) × FirstFault rules limits bytes kind line)

  may_more : (forms : List (LineForm P R)) (form : Option (LineForm P R)) → MayBegin rules forms
      → option_and_then (form_kind rules (problem_in forms) (count_by is_record forms)) form ≡ None → MayBegin rules (forms ++ cons_option form [])
  may_more forms None may right = subst (MayBegin rules) (sym (append-nil forms)) may
  may_more forms (Some form) (inl none) right =
      let none_yet : form_kind rules None 0 form ≡ None = subst (λ forms. form_kind rules (problem_in forms) (count_by is_record forms) form ≡ None) none right in
      subst (λ forms. MayBegin rules (forms ++ form ∷ [])) (sym none) (by form none_yet) where
        by : (form : LineForm P R) → form_kind rules None 0 form ≡ None → MayBegin rules (form ∷ [])
        by Malformed e = absurd cc
        by (Record r) e = absurd cc
        by (Problem problem) e = inr (problem, [], begun_first rules problem e)
  may_more forms (Some form) (inr begun) right =
      by form (ap₂ (λ p c. form_kind rules p c form) (sym (ap problem_in begun.2.said)) (sym (come-is rules forms begun.0 begun.1 begun.2)) ∙ right) where
        by : (form : LineForm P R) → form_kind rules (Some begun.0) (length begun.1) form ≡ None → MayBegin rules (forms ++ form ∷ [])
        by Malformed e = absurd cc
        by (Problem problem) e = absurd cc
        by (Record r) e = inr (begun.0, begun.1 ++ r ∷ [], begun_more rules forms begun.0 begun.1 r begun.2 e)

  limit_kept : (passed raw size : ℕ) → limit_kind (line_fault limits passed raw size) ≡ None → (raw ≤ limits.line) × (passed + size ≤ limits.total)
  limit_kept passed raw size e = grind (arith, nat_tests)

  -- these first lines break no limit, and may begin a file
  record Rightly (front back : List (List ℕ)) : Type 0 where
    parts : lines_of bytes ≡ front ++ back
    short : All (λ line. length line ≤ limits.line) front
    within : passed_by (length bytes) front ≤ limits.total
    may : MayBegin rules (forms_of rules front)

  first_here : (front back : List (List ℕ)) (right : Rightly front back) (kind : LineKind)
      → kind_there rules limits (length bytes) (behind front) (slice_get back 0) ≡ Some kind → Answer
  first_here front back right kind faulty =
      inr (
        kind,
        length (map without_cr front) + 1,
        first_fault (front_of front back right.parts right.short right.within) (said_so front right.may) kind faulty (length (map without_cr front) + 1) refl,
      )

  ends_rightly : (front : List (List ℕ)) → Rightly front [] → MayBegin rules (forms_of rules front) → Answer
  ends_rightly front right (inl none) =
      first_here front [] right NoProblem (ap₂ (lacking rules) (ap problem_in none) (ap (count_by is_record) none))
  ends_rightly front right (inr begun) = by (nat_le (rules.count begun.0) (length begun.1)) refl where
    state : lacking rules (problem_in (forms_of rules front)) (count_by is_record (forms_of rules front)) ≡ lacking rules (Some begun.0) (length begun.1)
    state = ap₂ (lacking rules) (ap problem_in begun.2.said) (come-is rules (forms_of rules front) begun.0 begun.1 begun.2)

    by : (full : Bool) → nat_le (rules.count begun.0) (length begun.1) ≡ full → Answer
    by false e = first_here front [] right CountWrong (state ∙ ap (λ b. cond b None (Some CountWrong)) e)
    by true e =
        let all : front ≡ lines_of bytes = sym (append-nil front) ∙ sym right.parts in
        let enough : rules.count begun.0 ≤ length begun.1 = grind (arith, nat_tests) in
        inl (
          begun.0,
          begun.1,
          record {
            short_lines = subst (All (λ line. length line ≤ limits.line)) all right.short;
            short_file = short_file limits bytes front all right.within;
            lines = ap (forms_of rules) (sym all) ∙ begun.2.said;
            right_size = begun.2.right_size;
            counted = omega (arith, begun.2.due, enough);
            in_range = begun.2.in_range;
          },
        )

  goes_rightly : (front back : List (List ℕ)) (line : List ℕ) → Rightly front (line ∷ back) → (Rightly (front ++ line ∷ []) back → Answer)
      → (kind : Option LineKind) → line_kind rules limits (length bytes) (behind front) line ≡ kind → Answer
  goes_rightly front back line right later (Some kind) e = first_here front (line ∷ back) right kind e
  goes_rightly front back line right later None e =
      let none = or_none _ _ e in
      let kept = limit_kept (passed_by (length bytes) front) (length line) (size_in (length bytes) (passed_by (length bytes) front) line) none.0 in
      let forms = filter_map-append (λ (l : List ℕ). form_of rules (without_cr l)) front (line ∷ []) in
      later (record {
        parts = right.parts ∙ sym (append_assoc front (line ∷ []) back);
        short = All-push (λ line. length line ≤ limits.line) front line right.short kept.0;
        within = omega (arith, passed_by-push (length bytes) front line, kept.1);
        may = subst (MayBegin rules) (sym forms) (may_more (forms_of rules front) (form_of rules (without_cr line)) right.may none.1);
      })

  decide : (back front : List (List ℕ)) → Rightly front back → Answer
  decide [] front right = ends_rightly front right right.may
  decide (line ∷ back) front right =
      goes_rightly front back line right (decide back (front ++ line ∷ [])) (line_kind rules limits (length bytes) (behind front) line) refl

  -- a text is a file, or it has a first fault
  pub is_one : Answer
  is_one = decide (lines_of bytes) [] (record { parts = refl; short = All-nil _; within = omega arith; may = inl refl })
