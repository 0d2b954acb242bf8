-- The laws of vectors of costs: of their componentwise order, of sums, of dominance, of the lexicographic order and of limits.
use Rattle.std.proofs.Common.{◌≡◌, ◌≢◌, ℕ, suc, ◌+◌, ◌<◌, ◌≤◌, List, [], ◌∷◌, length, replicate, Option, Some, None, All, sum, ◌⊎◌, inl, inr, refl, sym, ap, subst, ◌∙◌, arith, is_eq, Less, Equal, Greater, nat_eq}
use Rattle.std.specs.List.{AllZip}
use Rattle.std.specs.declared.cmp.Ordering.{Ordering}
use Rattle.std.specs.Ordering.{ordering_then, ordering_reverse}
use Rattle.std.specs.Cmp.{nat_cmp_is}
use Rattle.std.specs.Cmp.Lexicographic.{pointwise, bytes_decides, nat_list_cmp_total, texts_ties}
use Rattle.std.proofs.lemmas.Bool.{cases_Bool, cases_lt, false≢true}
use Rattle.std.proofs.lemmas.Cmp.{tied_itself}
use Rattle.std.proofs.lemmas.List.{length-replicate, get_or-replicate, same_lists}
use Rattle.std.proofs.lemmas.List.Sums.{sum_by-cons}
use Rattle.std.proofs.lemmas.Slice.Zip.{AllZip-long}
use Rattle.std.proofs.lemmas.List.Elements.{All-nil, length_all_zip, All-cons, All-head, All-tail}
use Rattle.cost_vector.specs.Costs.{AtMost, Dominates, plus, IsAllowed, Within, no_limit, lex_cmp, LexLess}

-- ---- the componentwise order

pub AtMost-refl : (a : List ℕ) → AtMost a a
AtMost-refl [] = tt
AtMost-refl (x ∷ xs) = (omega arith, AtMost-refl xs)

pub AtMost-trans : (a b c : List ℕ) → AtMost a b → AtMost b c → AtMost a c
AtMost-trans [] [] c h k = k
AtMost-trans (x ∷ xs) (y ∷ ys) [] h k = absurd k
AtMost-trans (x ∷ xs) (y ∷ ys) (z ∷ zs) h k = (omega arith, AtMost-trans xs ys zs h.1 k.1)
AtMost-trans _ _ c h k = absurd h

pub AtMost-antisymm : (a b : List ℕ) → AtMost a b → AtMost b a → a ≡ b
AtMost-antisymm [] [] h k = refl
AtMost-antisymm (x ∷ xs) (y ∷ ys) h k =
    let first : x ≡ y = omega arith in
    let rest = AtMost-antisymm xs ys h.1 k.1 in
    cc
AtMost-antisymm _ _ h k = absurd h

pub AtMost-length : (a b : List ℕ) → AtMost a b → length a ≡ length b
AtMost-length = length_all_zip ◌≤◌

-- what can be decided of two components can be decided of two vectors
cases_AllZip : {A B : Type 0} (R : A → B → Type 0) → ((x : A) (y : B) → R x y ⊎ (¬ R x y)) → (a : List A) (b : List B) → AllZip R a b ⊎ (¬ AllZip R a b)
cases_AllZip R cases [] [] = inl tt
cases_AllZip R cases (x ∷ xs) (y ∷ ys) =
    elim (cases x y) [
      | inr other ↦ inr (λ h. other h.0)
      | inl first ↦ elim (cases_AllZip R cases xs ys) [ inl rest ↦ inl (first, rest) | inr other ↦ inr (λ h. other h.1) ]
    ]
cases_AllZip R cases _ _ = inr (λ h. h)

cases_le : (x y : ℕ) → (x ≤ y) ⊎ (¬ (x ≤ y))
cases_le x y = elim (cases_lt y x) [ inl above ↦ inr (λ h. omega arith) | inr below ↦ inl below ]

pub cases_AtMost : (a b : List ℕ) → AtMost a b ⊎ (¬ AtMost a b)
cases_AtMost = cases_AllZip ◌≤◌ cases_le

-- no vector is below zero in any component
pub AtMost-zeros : (d : ℕ) (a : List ℕ) → length a ≡ d → AtMost (replicate d 0) a
AtMost-zeros d [] e = subst (λ n. AtMost (replicate n 0) []) e tt
AtMost-zeros d (x ∷ xs) e =
    subst (λ n. AtMost (replicate n 0) (x ∷ xs)) e (omega arith, AtMost-zeros (length xs) xs refl)

-- ---- sums

pub plus_comm : (a b : List ℕ) → plus a b ≡ plus b a
plus_comm [] [] = refl
plus_comm (x ∷ xs) (y ∷ ys) =
    let first : x + y ≡ y + x = omega arith in
    let rest = plus_comm xs ys in
    cc
plus_comm _ _ = refl

pub plus_assoc : (a b c : List ℕ) → plus (plus a b) c ≡ plus a (plus b c)
plus_assoc (x ∷ xs) (y ∷ ys) (z ∷ zs) =
    let first : (x + y) + z ≡ x + (y + z) = omega arith in
    let rest = plus_assoc xs ys zs in
    cc
plus_assoc _ _ _ = refl

pub length-plus : (a w : List ℕ) → length a ≡ length w → length (plus a w) ≡ length a
length-plus [] w e = refl
length-plus (x ∷ xs) [] e = absurd (omega arith)
length-plus (x ∷ xs) (y ∷ ys) e = ap suc (length-plus xs ys (omega arith))

pub plus-zeros : (d : ℕ) (a : List ℕ) → length a ≡ d → plus a (replicate d 0) ≡ a
plus-zeros d [] e = refl
plus-zeros d (x ∷ xs) e =
    let rest = plus-zeros (length xs) xs refl in
    let first : x + 0 ≡ x = omega arith in
    subst (λ n. plus (x ∷ xs) (replicate n 0) ≡ x ∷ xs) e (cc)

pub zeros-plus : (d : ℕ) (a : List ℕ) → length a ≡ d → plus (replicate d 0) a ≡ a
zeros-plus d a e = plus_comm (replicate d 0) a ∙ plus-zeros d a e

-- sums are monotone in both vectors
pub AtMost-plus : (a b v w : List ℕ) → AtMost a b → AtMost v w → AtMost (plus a v) (plus b w)
AtMost-plus [] [] v w h k = tt
AtMost-plus (x ∷ xs) (y ∷ ys) [] [] h k = tt
AtMost-plus (x ∷ xs) (y ∷ ys) (s ∷ ss) (t ∷ ts) h k = (omega arith, AtMost-plus xs ys ss ts h.1 k.1)
AtMost-plus (x ∷ xs) (y ∷ ys) _ _ h k = absurd k
AtMost-plus _ _ v w h k = absurd h

pub AtMost-plus_self : (a w : List ℕ) → length a ≡ length w → AtMost a (plus a w)
AtMost-plus_self [] w e = tt
AtMost-plus_self (x ∷ xs) [] e = absurd (omega arith)
AtMost-plus_self (x ∷ xs) (y ∷ ys) e = (omega arith, AtMost-plus_self xs ys (omega arith))

pub AtMost-plus_other : (a w : List ℕ) → length a ≡ length w → AtMost w (plus a w)
AtMost-plus_other a w e = subst (AtMost w) (plus_comm w a) (AtMost-plus_self w a (sym e))

-- bounds on the components add up
pub All-plus : (m n : ℕ) (a w : List ℕ) → All (λ x. x ≤ m) a → All (λ x. x ≤ n) w → All (λ x. x ≤ m + n) (plus a w)
All-plus m n (x ∷ xs) (y ∷ ys) h k =
    let left : x ≤ m = All-head (λ x. x ≤ m) x xs h in
    let right : y ≤ n = All-head (λ x. x ≤ n) y ys k in
    All-cons (λ x. x ≤ m + n) (x + y) (plus xs ys) (omega arith)
    (All-plus m n xs ys (All-tail (λ x. x ≤ m) x xs h) (All-tail (λ x. x ≤ n) y ys k))
All-plus m n _ _ h k = All-nil (λ x. x ≤ m + n)

-- what is added to both can be taken from both
pub AtMost-cancel : (a b w : List ℕ) → length a ≡ length w → length b ≡ length w → AtMost (plus a w) (plus b w) → AtMost a b
AtMost-cancel [] [] w e f h = tt
AtMost-cancel (x ∷ xs) (y ∷ ys) (z ∷ zs) e f h = (omega arith, AtMost-cancel xs ys zs (omega arith) (omega arith) h.1)
AtMost-cancel _ _ _ e f h = absurd (omega arith)

pub plus_cancel : (a b w : List ℕ) → length a ≡ length w → length b ≡ length w → plus a w ≡ plus b w → a ≡ b
plus_cancel a b w e f same =
    AtMost-antisymm a b
    (AtMost-cancel a b w e f (subst (AtMost (plus a w)) same (AtMost-refl (plus a w))))
    (AtMost-cancel b a w f e (subst (AtMost (plus b w)) (sym same) (AtMost-refl (plus b w))))

-- ---- vectors of zeros

pub zeros_from_All : (w : List ℕ) → All (λ x. x ≡ 0) w → w ≡ replicate (length w) 0
zeros_from_All w h =
    same_lists w (replicate (length w) 0) (sym (length-replicate (length w) 0)) (λ k d within. h k d within ∙ sym (get_or-replicate (length w) k 0 d within))

-- ---- dominance

pub Dominates-irrefl : (a : List ℕ) → ¬ Dominates a a
Dominates-irrefl a h = h.differs refl

pub Dominates-asym : (a b : List ℕ) → Dominates a b → ¬ Dominates b a
Dominates-asym a b h k = h.differs (AtMost-antisymm a b h.at_most k.at_most)

pub AtMost-Dominates : (a b c : List ℕ) → AtMost a b → Dominates b c → Dominates a c
AtMost-Dominates a b c h k = record {
  at_most = AtMost-trans a b c h k.at_most;
  differs = λ e. k.differs (AtMost-antisymm b c k.at_most (subst (λ v. AtMost v b) e h));
}

pub Dominates-AtMost : (a b c : List ℕ) → Dominates a b → AtMost b c → Dominates a c
Dominates-AtMost a b c h k = record {
  at_most = AtMost-trans a b c h.at_most k;
  differs = λ e. h.differs (AtMost-antisymm a b h.at_most (subst (λ v. AtMost b v) (sym e) k));
}

pub Dominates-trans : (a b c : List ℕ) → Dominates a b → Dominates b c → Dominates a c
Dominates-trans a b c h k = AtMost-Dominates a b c h.at_most k

-- vectors are equal or not
pub cases_same : (a b : List ℕ) → (a ≡ b) ⊎ (a ≢ b)
cases_same a b =
    let decides = bytes_decides a b in
    elim (cases_Bool (pointwise nat_eq a b)) [
      | inl same ↦ inl (decides.0 same)
      | inr other ↦ inr (λ e. false≢true (sym other ∙ decides.1 e))
    ]

-- it can be decided
pub cases_Dominates : (a b : List ℕ) → Dominates a b ⊎ (¬ Dominates a b)
cases_Dominates a b =
    elim (cases_AtMost a b) [
      | inr above ↦ inr (λ h. above h.at_most)
      | inl below ↦ elim (cases_same a b) [
        | inl same ↦ inr (λ h. h.differs same)
        | inr other ↦ inl (record { at_most = below; differs = other })
      ]
    ]

-- what is added to both vectors changes nothing
pub Dominates-plus : (a b w : List ℕ) → length a ≡ length w → Dominates a b → Dominates (plus a w) (plus b w)
Dominates-plus a b w e h = record {
  at_most = AtMost-plus a b w w h.at_most (AtMost-refl w);
  differs = λ same. h.differs (plus_cancel a b w e (sym (AtMost-length a b h.at_most) ∙ e) same);
}

pub Dominates-cancel : (a b w : List ℕ) → length a ≡ length w → length b ≡ length w
    → Dominates (plus a w) (plus b w) → Dominates a b
Dominates-cancel a b w e f h = record {
  at_most = AtMost-cancel a b w e f h.at_most;
  differs = λ same. h.differs (ap (λ v. plus v w) same);
}

-- ---- the lexicographic order

pub LexLess-irrefl : (a : List ℕ) → ¬ LexLess a a
LexLess-irrefl a h = let tied = tied_itself nat_list_cmp_total a in cc

pub LexLess-trans : (a b c : List ℕ) → LexLess a b → LexLess b c → LexLess a c
LexLess-trans = nat_list_cmp_total.trans

pub same_from_lex_cmp : (a b : List ℕ) → lex_cmp a b ≡ Equal → a ≡ b
same_from_lex_cmp a b e = (bytes_decides a b).0 (texts_ties a b ∙ ap is_eq e)

pub cases_LexLess : (a b : List ℕ) → LexLess a b ⊎ ((a ≡ b) ⊎ LexLess b a)
cases_LexLess a b = by (lex_cmp a b) refl
  where
    by : (o : Ordering) → lex_cmp a b ≡ o → LexLess a b ⊎ ((a ≡ b) ⊎ LexLess b a)
    by Less e = inl e
    by Equal e = inr (inl (same_from_lex_cmp a b e))
    by Greater e = inr (inr (nat_list_cmp_total.antisymm b a ∙ ap ordering_reverse e))

pub LexLess_from_AtMost : (a b : List ℕ) → AtMost a b → a ≢ b → LexLess a b
LexLess_from_AtMost [] [] h other = absurd (other refl)
LexLess_from_AtMost (x ∷ xs) (y ∷ ys) h other =
    elim (cases_lt x y) [
      | inl below ↦ ap (λ o. ordering_then o (lex_cmp xs ys)) (sym (nat_cmp_is x y Less below))
      | inr above ↦ let same : x ≡ y = omega arith in
          ap (λ o. ordering_then o (lex_cmp xs ys)) (sym (nat_cmp_is x y Equal same))
          ∙ LexLess_from_AtMost xs ys h.1 (λ e. other (cc))
    ]
LexLess_from_AtMost _ _ h other = absurd h

pub LexLess_from_Dominates : (a b : List ℕ) → Dominates a b → LexLess a b
LexLess_from_Dominates a b h = LexLess_from_AtMost a b h.at_most h.differs

-- ---- limits

pub Within-length : (l : List (Option ℕ)) (a : List ℕ) → Within l a → length l ≡ length a
Within-length l a h = sym (AllZip-long IsAllowed l a h)

-- what is within a limit stays within it where no component grows
pub Within-AtMost : (l : List (Option ℕ)) (a b : List ℕ) → AtMost a b → Within l b → Within l a
Within-AtMost l [] [] h k = k
Within-AtMost [] (x ∷ xs) (y ∷ ys) h k = absurd k
Within-AtMost (None ∷ l) (x ∷ xs) (y ∷ ys) h k = (tt, Within-AtMost l xs ys h.1 k.1)
Within-AtMost (Some most ∷ l) (x ∷ xs) (y ∷ ys) h k = (omega arith, Within-AtMost l xs ys h.1 k.1)
Within-AtMost l _ _ h k = absurd h

pub Within-no_limit : (d : ℕ) (a : List ℕ) → length a ≡ d → Within (no_limit d) a
Within-no_limit d [] e = subst (λ n. Within (no_limit n) []) e tt
Within-no_limit d (x ∷ xs) e = subst (λ n. Within (no_limit n) (x ∷ xs)) e (tt, Within-no_limit (length xs) xs refl)

-- it can be decided
cases_allowed : (place : Option ℕ) (x : ℕ) → IsAllowed place x ⊎ (¬ IsAllowed place x)
cases_allowed None x = inl tt
cases_allowed (Some most) x = cases_le x most

pub cases_Within : (l : List (Option ℕ)) (a : List ℕ) → Within l a ⊎ (¬ Within l a)
cases_Within = cases_AllZip IsAllowed cases_allowed

-- ---- the sum of the components

sum-cons : (x : ℕ) (xs : List ℕ) → sum (x ∷ xs) ≡ x + sum xs
sum-cons x xs = sum_by-cons (λ n. n) x xs

pub sum-plus : (a b : List ℕ) → length a ≡ length b → sum (plus a b) ≡ sum a + sum b
sum-plus [] [] e = refl
sum-plus (x ∷ xs) (y ∷ ys) e = omega (arith, sum-cons (x + y) (plus xs ys), sum-cons x xs, sum-cons y ys, sum-plus xs ys (omega arith))
sum-plus _ _ e = absurd (omega arith)

pub sum-AtMost : (a b : List ℕ) → AtMost a b → sum a ≤ sum b
sum-AtMost [] [] h = omega arith
sum-AtMost (x ∷ xs) (y ∷ ys) h = omega (arith, sum-cons x xs, sum-cons y ys, sum-AtMost xs ys h.1)
sum-AtMost _ _ h = absurd h

same_from_sums : (a b : List ℕ) → AtMost a b → sum b ≤ sum a → a ≡ b
same_from_sums [] [] h k = refl
same_from_sums (x ∷ xs) (y ∷ ys) h k =
    let first : x ≡ y = omega (arith, sum-cons x xs, sum-cons y ys, sum-AtMost xs ys h.1) in
    let rest = same_from_sums xs ys h.1 (omega (arith, sum-cons x xs, sum-cons y ys)) in
    cc
same_from_sums _ _ h k = absurd h

pub sum-Dominates : (a b : List ℕ) → Dominates a b → sum a < sum b
sum-Dominates a b h = elim (cases_lt (sum a) (sum b)) [ inl below ↦ below | inr above ↦ absurd (h.differs (same_from_sums a b h.at_most above)) ]
