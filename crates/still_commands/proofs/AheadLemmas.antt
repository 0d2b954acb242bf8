-- Replies that were made before their turn: how they are made of queries, and how the next of them is taken.
use Rattle.std.proofs.Common.{◌≡◌, ℕ, suc, ◌+◌, ◌-◌, ◌<◌, ◌≤◌, List, [], ◌∷◌, ◌++◌, Option, Some, None, map, length, take, drop, get_or}
use Rattle.std.proofs.Common.{sym, subst, subst₂, ◌∙◌, arith}
use Rattle.std.specs.Prelude.{reverse, option_to_list}
use Rattle.std.specs.Option.{MatchOption, option_flatten}
use Rattle.std.specs.List.{AllZip}
use Rattle.std.proofs.lemmas.List.{drop_more, length-append, length-drop, length-reverse, length-take, reverse-append, reverse-reverse, take-map, take-take, take_all, take_more, map-append}
use Rattle.std.proofs.lemmas.Slice.Zip.{AllZip-long}
use Rattle.road_network.specs.Network.{Network}
use Rattle.road_network.specs.declared.query.AnswerKind.TheVariants.{Walks}
use Rattle.road_network.specs.declared.query.Query.{Query}
use Rattle.query_reader.specs.declared.pairs.Pair.{Pair}
use Rattle.session_core.specs.declared.made.MadeReply.{MadeReply}
use Rattle.session_core.specs.Making.{AreMade}
use Rattle.session_core.specs.declared.mode.SearchMode.{SearchMode}
use Rattle.command_words.specs.declared.limits.SearchLimits.{SearchLimits}
use Rattle.still_commands.specs.Ahead.{AreAhead, IsAhead}
use Rattle.still_commands.specs.Batch.{query_between}

-- the queries of one pair more
pub one_more_between : (limits : SearchLimits) (pairs : List Pair) (i : ℕ) (d : Pair) (queries : List Query) (query : Query) → i < length pairs
    → queries ≡ map (query_between limits) (take i pairs) → query ≡ query_between limits (get_or pairs i d)
    → queries ++ query ∷ [] ≡ map (query_between limits) (take (i + 1) pairs)
one_more_between limits pairs i d queries query within are is =
    rw (are, is, take_more pairs i d within) (sym (map-append (query_between limits) (take i pairs) (get_or pairs i d ∷ [])))

module _ (mode : SearchMode) (limits : SearchLimits) (net : Network) where
  -- the replies that were made to the queries of the pairs, in their order
  made_for_pairs : (pairs : List Pair) (made : List (Option MadeReply))
      → AreMade net mode 0 Walks (map (query_between limits) pairs) made → AllZip (IsAhead mode limits net) pairs made
  made_for_pairs [] [] all = tt
  made_for_pairs [] (m ∷ ms) all = all
  made_for_pairs (p ∷ ps) [] all = all
  made_for_pairs (p ∷ ps) (m ∷ ms) all = (all.0, made_for_pairs ps ms all.1)

  -- those that were made to the first of them, the first of these last
  pub made_for_first : (pairs : List Pair) (made : List (Option MadeReply))
      → AreMade net mode 0 Walks (take (length made) (map (query_between limits) pairs)) made → AreAhead mode limits net pairs (reverse made)
  made_for_first pairs made all =
      subst₂ (λ n ms. AllZip (IsAhead mode limits net) (take n pairs) ms) (sym (length-reverse made)) (sym (reverse-reverse made))
      (made_for_pairs (take (length made) pairs) made (subst (λ qs. AreMade net mode 0 Walks qs made) (take-map (query_between limits) (length made) pairs) all))

  -- those to the first of some of the first
  pub first_of_first : (pairs : List Pair) (count : ℕ) (ahead : List (Option MadeReply)) → AreAhead mode limits net (take count pairs) ahead
      → AreAhead mode limits net pairs ahead
  first_of_first pairs count ahead all =
      let long = AllZip-long (IsAhead mode limits net) (take (length ahead) (take count pairs)) (reverse ahead) all in
      let few = length-take (length ahead) (take count pairs) in
      let within : length ahead ≤ count = omega (arith, long, few, length-reverse ahead, length-take count pairs) in
      subst (λ ps. AllZip (IsAhead mode limits net) ps (reverse ahead)) (take-take (length ahead) count pairs within) all

  module _ (pair : Pair) (pairs : List Pair) where
    -- the next of them is the last
    next_of : (next : Option MadeReply) (rest : List (Option MadeReply)) → AreAhead mode limits net (pair ∷ pairs) (rest ++ next ∷ [])
        → IsAhead mode limits net pair next × AreAhead mode limits net pairs rest
    next_of next rest ahead =
        let many : length (rest ++ next ∷ []) ≡ suc (length rest) = omega (arith, length-append rest (next ∷ [])) in
        rw (many, reverse-append rest (next ∷ [])) at ahead

    -- the last is taken off their end, if one is left
    pub taken_ahead : (last : Option (Option MadeReply)) (ahead rest : List (Option MadeReply)) (many left : ℕ)
        → ahead ≡ rest ++ option_to_list last → left ≡ length rest → MatchOption last ((many ≡ 0) × (left ≡ 0)) (λ _. left + 1 ≡ many)
        → AreAhead mode limits net (pair ∷ pairs) ahead → IsAhead mode limits net pair (option_flatten last) × AreAhead mode limits net pairs rest
    taken_ahead (Some next) ahead rest many left is long cases all = next_of next rest (subst (AreAhead mode limits net (pair ∷ pairs)) is all)
    taken_ahead None ahead [] many left is long cases all = (tt, tt)
    taken_ahead None ahead (r ∷ rs) many left is long cases all = absurd (omega (arith, long, cases.1))

  -- what takes that to the first of some pairs takes that to the pair behind so many
  pub taken_behind : (pairs : List Pair) (i : ℕ) (d : Pair) (made : Option MadeReply) (ahead rest : List (Option MadeReply)) → i < length pairs
      → AreAhead mode limits net (take (length pairs - i) (drop i pairs)) ahead
      → ((pair : Pair) (left : List Pair) → AreAhead mode limits net (pair ∷ left) ahead → IsAhead mode limits net pair made × AreAhead mode limits net left rest)
      → IsAhead mode limits net (get_or pairs i d) made × AreAhead mode limits net (drop (i + 1) pairs) rest
  taken_behind pairs i d made ahead rest inside all takes =
      let whole = take_all (length pairs - i) (drop i pairs) (omega (arith, length-drop i pairs)) in
      let left = whole ∙ drop_more pairs i d inside in
      takes (get_or pairs i d) (drop (i + 1) pairs) (subst (λ l. AreAhead mode limits net l ahead) left all)
