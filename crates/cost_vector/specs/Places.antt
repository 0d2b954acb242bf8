-- How a vector of 2 to 4 places is stored: their count, and four places, of which those past the count hold a filler.
use Rattle.std.specs.Prelude.{◌≡◌, ℕ, ◌-◌, ◌≤◌, List, ◌++◌, length, take, drop, replicate}
use Rattle.cost_vector.specs.Costs.{max_criteria, min_criteria}
use Rattle.std.proofs.Common.{sym, ap, subst, ◌∙◌, take-append-drop, length-take-le}

-- 2 to 4 of four places are used, and the others hold the filler
pub record IsStored {X : Type 0} (filler : X) (count : ℕ) (places : List X) : Type 0 where
  pub at_least_two : min_criteria ≤ count
  pub at_most_four : count ≤ max_criteria
  pub four_places : length places ≡ 4
  pub others_filled : drop count places ≡ replicate (4 - count) filler

-- the list with fillers after it, four places in all
abbrev pub filled_up : {X : Type 0} → X → List X → List X
filled_up filler xs = xs ++ replicate (4 - length xs) filler

module _ {X : Type 0} (filler : X) (count : ℕ) (places : List X) (s : IsStored filler count places) where
  -- the used places are as many as the count
  pub length-used : length (take count places) ≡ count
  length-used = length-take-le count places (subst (λ n. count ≤ n) (sym s.four_places) s.at_most_four)

  -- the used places, filled up, are the places
  pub filled_up-used : filled_up filler (take count places) ≡ places
  filled_up-used =
      let used = take count places in
      ap (λ n. used ++ replicate (4 - n) filler) length-used
      ∙ ap (λ others. used ++ others) (sym s.others_filled)
      ∙ take-append-drop count places
