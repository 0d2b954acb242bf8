-- Lines whose fields meet tests one by one.
use Rattle.std.proofs.Common.{◌≡◌, ℕ, Bool, true, false, List, [], ◌∷◌, codes, refl, ap, ◌∙◌}
use Rattle.std.specs.Prelude.{◌&&◌}
use Rattle.std.specs.Str.{bytes_eq}
use Rattle.epoch_follow.specs.Reads.{meets}
use Rattle.epoch_follow.specs.Runs.{is_end, is_head, writes}
use Rattle.epoch_follow.specs.Text.{FeedHead}

never : (a : Bool) → false ≡ (a && false)
never true = refl
never false = refl

last : (a : Bool) → a ≡ (a && true)
last true = refl
last false = refl

module _ (a b : Bool) where
  never_behind : false ≡ (a && (b && false))
  never_behind = never a ∙ ap (λ c. a && c) (never b)

  last_behind : (a && b) ≡ (a && (b && true))
  last_behind = ap (λ c. a && c) (last b)

-- the test that a field is this word
abbrev pub is_word : List ℕ → List ℕ → Bool
is_word word field = bytes_eq field word

-- the fields of the last line of a message, one by one
pub is_end-meets : (epoch : ℕ) (fields : List (List ℕ)) → is_end epoch fields ≡ meets (is_word (codes "end") ∷ writes epoch ∷ []) fields
is_end-meets epoch [] = refl
is_end-meets epoch (word ∷ []) = never (is_word (codes "end") word)
is_end-meets epoch (word ∷ e ∷ []) = last_behind (is_word (codes "end") word) (writes epoch e)
is_end-meets epoch (word ∷ e ∷ more ∷ fields) = never_behind (is_word (codes "end") word) (writes epoch e)

-- those of the first line of a feed
abbrev pub head_tests : FeedHead → List (List ℕ → Bool)
head_tests head = is_word (codes "feed") ∷ writes head.arcs ∷ writes head.criteria ∷ writes head.first ∷ []

pub is_head-meets : (head : FeedHead) (fields : List (List ℕ)) → is_head head fields ≡ meets (head_tests head) fields
is_head-meets head [] = refl
is_head-meets head (word ∷ []) = never (is_word (codes "feed") word)
is_head-meets head (word ∷ m ∷ []) = never_behind (is_word (codes "feed") word) (writes head.arcs m)
is_head-meets head (word ∷ m ∷ d ∷ []) =
    never (is_word (codes "feed") word) ∙ ap (λ c. is_word (codes "feed") word && c) (never_behind (writes head.arcs m) (writes head.criteria d))
is_head-meets head (word ∷ m ∷ d ∷ b ∷ []) =
    ap (λ c. is_word (codes "feed") word && (writes head.arcs m && c)) (last_behind (writes head.criteria d) (writes head.first b))
is_head-meets head (word ∷ m ∷ d ∷ b ∷ more ∷ fields) =
    never_behind (is_word (codes "feed") word) (writes head.arcs m)
    ∙ ap (λ c. is_word (codes "feed") word && (writes head.arcs m && c)) (never_behind (writes head.criteria d) (writes head.first b))
