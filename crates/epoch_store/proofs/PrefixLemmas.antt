-- Beginnings of lists.
use Rattle.std.proofs.Common.{◌≡◌, ◌≤◌, List, [], ◌∷◌, ◌++◌, length, refl, ap, sym, ◌∙◌, arith, append_assoc}
use mathlib.Core.List.{IsPrefix}

-- each list begins with itself
pub prefix_self : {A : Type 0} (xs : List A) → IsPrefix xs xs
prefix_self [] = ([], refl)
prefix_self (x ∷ xs) = ((prefix_self xs).0, ap (λ ys. x ∷ ys) (prefix_self xs).1)

-- what begins a beginning begins the whole
pub prefix_trans : {A : Type 0} (xs ys zs : List A) → IsPrefix xs ys → IsPrefix ys zs → IsPrefix xs zs
prefix_trans xs ys zs p q = (p.0 ++ q.0, sym (append_assoc xs p.0 q.0) ∙ (ap (λ w. w ++ q.0) p.1 ∙ q.1))

-- two beginnings of one list that are as long are equal
pub prefix_same : {A : Type 0} (xs ys zs : List A) → IsPrefix xs zs → IsPrefix ys zs → length xs ≡ length ys → xs ≡ ys
prefix_same [] [] zs p q e = refl
prefix_same [] (y ∷ ys) zs p q e = absurd (omega arith)
prefix_same (x ∷ xs) [] zs p q e = absurd (omega arith)
prefix_same (x ∷ xs) (y ∷ ys) [] p q e = absurd (cc (p.1))
prefix_same (x ∷ xs) (y ∷ ys) (z ∷ zs) p q e =
    let rest = prefix_same xs ys zs (p.0, cc (p.1)) (q.0, cc (q.1)) (omega arith) in cc (p.1, q.1)

-- two beginnings of one list, as long as each other, the other way round: a list is no longer than one that it begins
pub prefix_shorter : {A : Type 0} (xs ys : List A) → IsPrefix xs ys → length xs ≤ length ys
prefix_shorter [] ys p = omega arith
prefix_shorter (x ∷ xs) [] p = absurd (cc (p.1))
prefix_shorter (x ∷ xs) (y ∷ ys) p = let less = prefix_shorter xs ys (p.0, cc (p.1)) in omega arith
