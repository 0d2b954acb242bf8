-- What the four places of stored vectors say of the vectors.
use Rattle.std.proofs.Common.{◌≡◌, ℕ, zero, suc, ◌-◌, ◌↔◌, Bool, List, [], ◌∷◌, ◌++◌, length, take, replicate, zip, refl, sym, ap, subst, ◌∙◌, arith, take-append-drop, Decides, All, nat_eq}
use Rattle.std.specs.List.{AllZip, list_all}
use Rattle.std.specs.Cmp.Lexicographic.{pointwise, bytes_decides}
use Rattle.std.proofs.lemmas.Bool.Decides.{Decides-and, Decides-like, Decides-at}
use Rattle.std.proofs.lemmas.List.Elements.{All-append, All-replicate, All-same, All-take}
use Rattle.cost_vector.proofs.Vectors.{zeros_from_All}
use Rattle.cost_vector.specs.Places.{IsStored, length-used}

-- Two stored vectors of one length, a and b. Their places are these vectors, and then fillers.
pub record AreStored {A B : Type 0} (f : A) (g : B) (n : ℕ) (xs a : List A) (ys b : List B) : Type 0 where
  pub four_each : length xs ≡ length ys
  pub left_long : length a ≡ n
  pub as_long : length a ≡ length b
  pub left_is : xs ≡ a ++ replicate (4 - n) f
  pub right_is : ys ≡ b ++ replicate (4 - n) g

-- a stored vector is as long as its count says, and its places are the vector and then fillers
stored_is : {X : Type 0} {f : X} {n : ℕ} {xs a : List X} → IsStored f n xs → take n xs ≡ a → (length a ≡ n) × (xs ≡ a ++ replicate (4 - n) f)
stored_is {X} {f} {n} {xs} {a} s is = (
  ap length (sym is) ∙ length-used f n xs s,
  sym (take-append-drop n xs) ∙ ap (λ others. take n xs ++ others) s.others_filled ∙ ap (λ used. used ++ replicate (4 - n) f) is,
)

pub are_stored : {A B : Type 0} {f : A} {g : B} {n m : ℕ} {xs a : List A} {ys b : List B} → IsStored f n xs → IsStored g m ys
    → take n xs ≡ a → take m ys ≡ b → length a ≡ length b → AreStored f g n xs a ys b
are_stored {A} {B} {f} {g} {n} {m} {xs} {a} {ys} {b} s t left_is right_is e =
    let left = stored_is s left_is in
    let right = stored_is t right_is in
    let same : m ≡ n = sym right.0 ∙ sym e ∙ left.0 in
    record {
      four_each = s.four_places ∙ sym t.four_places;
      left_long = left.0;
      as_long = e;
      left_is = left.1;
      right_is = subst (λ k. ys ≡ b ++ replicate (4 - k) g) same right.1;
    }

module _ {A B : Type 0} (R : A → B → Type 0) where
  -- a test of each pair decides the fact of all pairs
  pub AllZip-decides : (test : A × B → Bool) → ((x : A) (y : B) → Decides (test (x, y)) (R x y)) → (xs : List A) (ys : List B)
      → length xs ≡ length ys → Decides (list_all test (zip xs ys)) (AllZip R xs ys)
  AllZip-decides test each [] [] e = (λ _. tt, λ _. refl)
  AllZip-decides test each (x ∷ xs) (y ∷ ys) e = Decides-and _ _ (each x y) (AllZip-decides test each xs ys (omega arith))
  AllZip-decides test each _ _ e = absurd (omega arith)

  -- fillers change nothing, where it holds of them
  AllZip-filled : (f : A) (g : B) → R f g → (k : ℕ) (xs : List A) (ys : List B) → length xs ≡ length ys
      → AllZip R (xs ++ replicate k f) (ys ++ replicate k g) ↔ AllZip R xs ys
  AllZip-filled f g r zero [] [] e = (λ h. tt, λ h. tt)
  AllZip-filled f g r (suc k) [] [] e = (λ h. tt, λ h. (r, (AllZip-filled f g r k [] [] refl).1 tt))
  AllZip-filled f g r k (x ∷ xs) (y ∷ ys) e =
      let rest = AllZip-filled f g r k xs ys (omega arith) in
      (λ h. (h.0, rest.0 h.1), λ h. (h.0, rest.1 h.1))
  AllZip-filled f g r k _ _ e = absurd (omega arith)

  -- a test of each two places decides the fact of the stored vectors
  pub Decides-stored : {f : A} {g : B} → R f g → (test : A × B → Bool) → ((x : A) (y : B) → Decides (test (x, y)) (R x y))
      → {n : ℕ} {xs a : List A} {ys b : List B} → AreStored f g n xs a ys b → (r : Bool) → r ≡ list_all test (zip xs ys) → Decides r (AllZip R a b)
  Decides-stored {f} {g} r test each {n} {xs} {a} {ys} {b} s result is =
      let filled = rw (← s.left_is, ← s.right_is) at (AllZip-filled f g r (4 - n) a b s.as_long) in
      Decides-at _ _ is (Decides-like _ filled.0 filled.1 (AllZip-decides test each xs ys s.four_each))

-- the four places are compared with zeros to tell whether a stored vector is all zero
pub Decides-zeros : {n : ℕ} {xs a : List ℕ} → IsStored 0 n xs → take n xs ≡ a
    → Decides (pointwise nat_eq xs (replicate 4 0)) (All (λ x. x ≡ 0) a)
Decides-zeros {n} {xs} {a} s is =
    let P : ℕ → Type 0 = λ x. x ≡ 0 in
    let decides = bytes_decides xs (replicate 4 0) in (
      λ e. subst (All P) is (All-take P n xs (All-same P xs (replicate 4 0) (decides.0 e) (All-replicate P 4 0 refl))),
      λ h. decides.1 (zeros_from_All xs (All-same P xs _ (stored_is s is).1 (All-append P a _ h (All-replicate P (4 - n) 0 refl)))
          ∙ ap (λ k. replicate k 0) s.four_places),
    )
