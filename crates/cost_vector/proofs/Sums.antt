-- Sums and differences of stored vectors, place by place.
use Rattle.std.proofs.Common.{◌≡◌, ℕ, zero, suc, ◌+◌, ◌-◌, ◌^◌, ◌<◌, Fits, w64, lit<, List, [], ◌∷◌, ◌++◌, length, take, drop, replicate, get_or, All, refl, ap, ◌∙◌, arith}
use Rattle.std.proofs.Math.Facts.{Fits-of_lt}
use Rattle.std.proofs.lemmas.List.{take_at, drop_at}
use Rattle.std.proofs.lemmas.List.Elements.{All-append, All-get_or, All-replicate, All-same}
use Rattle.cost_vector.specs.Costs.{AtMost, plus}
use Rattle.cost_vector.specs.Places.{IsStored}
use Rattle.cost_vector.proofs.Stored.{are_stored}

-- the four places, one by one
four : (xs : List ℕ) → length xs ≡ 4 → xs ≡ get_or xs 0 0 ∷ get_or xs 1 0 ∷ get_or xs 2 0 ∷ get_or xs 3 0 ∷ []
four (a ∷ b ∷ c ∷ d ∷ []) e = refl
four _ e = absurd (omega arith)

module _ (op : ℕ → ℕ → ℕ) where
  -- the operation at each two places
  abbrev pub each : List ℕ → List ℕ → List ℕ
  each (x ∷ xs) (y ∷ ys) = op x y ∷ each xs ys
  each _ _ = []

  -- the same, place by place
  abbrev each_of_four : List ℕ → List ℕ → List ℕ
  each_of_four xs ys = op (get_or xs 0 0) (get_or ys 0 0) ∷ op (get_or xs 1 0) (get_or ys 1 0)
      ∷ op (get_or xs 2 0) (get_or ys 2 0) ∷ op (get_or xs 3 0) (get_or ys 3 0) ∷ []

  each-four : (xs ys : List ℕ) → length xs ≡ 4 → length ys ≡ 4 → each_of_four xs ys ≡ each xs ys
  each-four xs ys e f = let p = four xs e in let q = four ys f in cc

  pub length-each : (xs ys : List ℕ) → length xs ≡ length ys → length (each xs ys) ≡ length xs
  length-each [] ys e = refl
  length-each (x ∷ xs) [] e = absurd (omega arith)
  length-each (x ∷ xs) (y ∷ ys) e = ap suc (length-each xs ys (omega arith))

  -- where the operation keeps fillers, it is made of the vectors, and then of fillers
  each-filled : op 0 0 ≡ 0 → (k : ℕ) (xs ys : List ℕ) → length xs ≡ length ys
      → each (xs ++ replicate k 0) (ys ++ replicate k 0) ≡ each xs ys ++ replicate k 0
  each-filled keeps zero [] [] e = refl
  each-filled keeps (suc k) [] [] e = let first = keeps in let rest = each-filled keeps k [] [] refl in cc
  each-filled keeps k (x ∷ xs) (y ∷ ys) e = ap (λ zs. op x y ∷ zs) (each-filled keeps k xs ys (omega arith))
  each-filled keeps k _ _ e = absurd (omega arith)

  module _ (keeps : op 0 0 ≡ 0) {n m : ℕ} {xs a ys b : List ℕ} (s : IsStored 0 n xs) (t : IsStored 0 m ys) (left : take n xs ≡ a) (right : take m ys ≡ b)
      (as_long : length a ≡ length b) where
    places_are : each_of_four xs ys ≡ each a b ++ replicate (4 - n) 0
    places_are =
        let both = are_stored s t left right as_long in
        each-four xs ys s.four_places t.four_places ∙ ap (λ zs. each zs ys) both.left_is
        ∙ ap (each (a ++ replicate (4 - n) 0)) both.right_is ∙ each-filled keeps (4 - n) a b as_long

    each_long : length (each a b) ≡ n
    each_long = length-each a b as_long ∙ (are_stored s t left right as_long).left_long

    -- what is made of two stored vectors is stored
    pub IsStored-each : IsStored 0 n (each_of_four xs ys)
    IsStored-each = record {
      at_least_two = s.at_least_two;
      at_most_four = s.at_most_four;
      four_places = refl;
      others_filled = ap (drop n) places_are ∙ drop_at (each a b) (replicate (4 - n) 0) n each_long;
    }

    -- and the vector is made of the vectors
    pub view-each : take n (each_of_four xs ys) ≡ each a b
    view-each = ap (take n) places_are ∙ take_at (each a b) (replicate (4 - n) 0) n each_long

pub plus_is_each : (xs ys : List ℕ) → each ◌+◌ xs ys ≡ plus xs ys
plus_is_each (x ∷ xs) (y ∷ ys) = ap (λ zs. (x + y) ∷ zs) (plus_is_each xs ys)
plus_is_each _ _ = refl

-- where each component of the sum fits, so does the sum at each place
pub Fits-plus : {n m : ℕ} {xs a ys b : List ℕ} → IsStored 0 n xs → IsStored 0 m ys → take n xs ≡ a → take m ys ≡ b → length a ≡ length b
    → All (λ x. x < 2 ^ 64) (plus a b) → (k : ℕ) → k < 4 → Fits w64 (get_or (each_of_four ◌+◌ xs ys) k 0)
Fits-plus {n} {m} {xs} {a} {ys} {b} s t left right as_long h k within =
    let P : ℕ → Type 0 = λ x. x < 2 ^ 64 in
    let all = All-append P (each ◌+◌ a b) (replicate (4 - n) 0) (All-same P _ _ (plus_is_each a b) h) (All-replicate P (4 - n) 0 (lit< tt)) in
    Fits-of_lt (All-get_or P (each_of_four ◌+◌ xs ys) k 0 within (All-same P _ _ (places_are ◌+◌ refl s t left right as_long) all))

-- what is left of a vector after a smaller one is taken from it gives the vector back
pub plus-minus : (a b : List ℕ) → AtMost b a → plus (each ◌-◌ a b) b ≡ a
plus-minus [] [] h = refl
plus-minus (x ∷ xs) (y ∷ ys) h =
    let first : (x - y) + y ≡ x = omega arith in
    let rest = plus-minus xs ys h.1 in
    cc
plus-minus _ _ h = absurd h
