-- Two lists side by side.
use Rattle.std.proofs.Common.{◌≡◌, List, [], ◌∷◌, length, refl, arith}
use Rattle.std.specs.List.{All, zip}
use Rattle.std.proofs.lemmas.List.Elements.{All-cons, All-head, All-nil, All-tail}

pub all_zip : {A B : Type 0} (P : A → Type 0) (Q : B → Type 0) (xs : List A) (ys : List B) → All P xs → All Q ys
    → All (λ (p : A × B). P p.0 × Q p.1) (zip xs ys)
all_zip P Q [] ys all others = All-nil (λ p. P p.0 × Q p.1)
all_zip P Q (x ∷ xs) [] all others = All-nil (λ p. P p.0 × Q p.1)
all_zip P Q (x ∷ xs) (y ∷ ys) all others =
    All-cons (λ p. P p.0 × Q p.1) (x, y) (zip xs ys) (All-head P x xs all, All-head Q y ys others) (all_zip P Q xs ys
    (All-tail P x xs all) (All-tail Q y ys others))

pub length-zip : {A B : Type 0} (xs : List A) (ys : List B) → length ys ≡ length xs → length (zip xs ys) ≡ length xs
length-zip [] ys same = refl
length-zip (x ∷ xs) [] same = cc
length-zip (x ∷ xs) (y ∷ ys) same = let rest = length-zip xs ys (omega arith) in omega arith
