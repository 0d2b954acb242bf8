-- The lines of an answer's routes, sent part after part.
use Rattle.std.proofs.Common.{◌≡◌, ℕ, ◌+◌, ◌-◌, ◌*◌, ◌<◌, ◌≤◌, List, ◌++◌, Option, Some, None, false, true, Result, Ok, Err, length, get_or, min, take, drop, refl, sym, ap, subst, arith, ◌∙◌}
use Rattle.std.specs.Prelude.{All, IfSome, IsTrue, is_some}
use Rattle.std.specs.List.{between, flat_map}
use Rattle.std.proofs.Math.Seq.{take-add}
use Rattle.std.proofs.lemmas.List.{drop-drop}
use Rattle.std.proofs.lemmas.Option.{slice_get_read}
use Rattle.std.proofs.lemmas.Grind.{flat_map-append}
use Rattle.std.proofs.lemmas.List.Edits.{between_none}
use Rattle.road_network.specs.Network.{Network}
use Rattle.road_network.specs.Answers.{Route}
use Rattle.road_network.specs.declared.query.AnswerKind.{AnswerKind}
use Rattle.route_io.specs.Forms.{SureSink}
use Rattle.route_io.specs.Sinks.{SinkState, Sends}
use Rattle.route_io.specs.declared.fault.WriteFault.{WriteFault}
use Rattle.route_io.proofs.SendsLemmas.{Sent, Sends-cut, Sends-then}
use Rattle.walk_readback.specs.Found.{FoundCosts}
use Rattle.answer_writer.specs.Replies.{line_of, lines_between}
use Rattle.answer_writer.specs.Routes.{AreRoutes}
use Rattle.session_core.specs.Windows.{AreTexts, piece_size}
use Rattle.session_core.proofs.AnswersLineLemmas.{sends_nothing}

-- the items at some places, and then those at the next ones
between_then : {X : Type 0} (xs : List X) (a b c : ℕ) → a ≤ b → b ≤ c → between a b xs ++ between b c xs ≡ between a c xs
between_then xs a b c first second =
    let sizes : c - a ≡ b - a + (c - b) = omega arith in
    let place : a + (b - a) ≡ b = omega arith in
    sym (ap (λ n. take n (drop a xs)) sizes ∙ take-add (b - a) (c - b) (drop a xs)
    ∙ ap (λ l. between a b xs ++ take (c - b) l) (drop-drop (b - a) a xs ∙ ap (λ n. drop n xs) place))

module _ (kind : AnswerKind) (routes : List Route) where
  -- the lines at some places, and then those at the next ones
  lines_then : (a b c : ℕ) → a ≤ b → b ≤ c → lines_between kind routes a b ++ lines_between kind routes b c ≡ lines_between kind routes a c
  lines_then a b c first second =
      sym (flat_map-append (line_of kind) (between a b routes) (between b c routes)) ∙ ap (flat_map (line_of kind)) (between_then routes a b c first second)

  -- the lines at these places were sent
  abbrev pub SentLines : SinkState → SinkState → ℕ → ℕ → Type 0
  SentLines old new from to = Sent old new (lines_between kind routes from to)

  -- no lines are sent by no call
  pub no_lines : (to : SinkState) (a b : ℕ) → b ≡ a → SentLines to to a b
  no_lines to a b same = rw (same, between_none routes a) (sends_nothing to)

  module _ (old mid new : SinkState) (a b c : ℕ) (rises : a ≤ b) (on : b ≤ c) (first : SentLines old mid a b) where
    -- and then the lines at the next ones, whole or in part
    pub more_lines : (result : Result (Unit {0}) WriteFault) → Sends mid new (lines_between kind routes b c) result
        → Sends old new (lines_between kind routes a c) result
    more_lines result second =
        subst (λ t. Sends old new t result) (lines_then a b c rises on) (Sends-then old mid new _ _ result first second)

    -- in part, and so were all lines up to any later place
    pub lines_cut : (to : ℕ) → c ≤ to → (fault : WriteFault) → Sends {T = Unit {0}} mid new (lines_between kind routes b c) (Err fault)
        → Sends {T = Unit {0}} old new (lines_between kind routes a to) (Err fault)
    lines_cut to further fault second =
        subst (λ t. Sends {T = Unit {0}} old new t (Err fault)) (lines_then a c to (omega arith) further)
        (Sends-cut old new _ _ fault (more_lines (Err fault) second))

-- the texts of a window's pieces are sent one by one
module _ (net : Network) (f : FoundCosts) (kind : AnswerKind) (from to : ℕ) (texts : List (Option SureSink)) (are : AreTexts net f kind from to texts)
    (whole : All (λ made. IsTrue (is_some made)) texts) (routes : List Route) (its : AreRoutes net f routes) (old mid new : SinkState) (i : ℕ)
    (item : Option SureSink) (text : List ℕ) (within : i < length texts) (at : item ≡ get_or texts i item)
    (told : IfSome item (λ made. text ≡ made.sent)) (first : SentLines kind routes old mid from (min to (from + i * piece_size))) where
  begins : from + i * piece_size < to
  begins = are.begin i within

  text_is : (made : Option SureSink) → made ≡ get_or texts i made → IfSome made (λ it. text ≡ it.sent)
      → text ≡ lines_between kind routes (from + i * piece_size) (min to (from + (i + 1) * piece_size))
  text_is None is known = let no : false ≡ true = subst (λ m. IsTrue (is_some m)) (sym is) (whole i None within) in absurd cc
  text_is (Some made) is known = known ∙ are.each i made (slice_get_read texts (length texts) i (Some made) refl within is) routes its

  lines : text ≡ lines_between kind routes (min to (from + i * piece_size)) (min to (from + (i + 1) * piece_size))
  lines =
      let start : from + i * piece_size ≡ min to (from + i * piece_size) = omega (arith, begins) in
      text_is item at told ∙ ap (λ n. lines_between kind routes n (min to (from + (i + 1) * piece_size))) start

  pub piece_sent : Sent mid new text → SentLines kind routes old new from (min to (from + (i + 1) * piece_size))
  piece_sent sent = more_lines kind routes old mid new from _ _ (omega (arith, begins)) (omega arith) first (Ok tt) (rw lines at sent)

  pub piece_cut : (fault : WriteFault) → Sends {T = Unit {0}} mid new text (Err fault)
      → Sends {T = Unit {0}} old new (lines_between kind routes from to) (Err fault)
  piece_cut fault sent = lines_cut kind routes old mid new from _ _ (omega (arith, begins)) (omega arith) first to (omega arith) fault (rw lines at sent)
