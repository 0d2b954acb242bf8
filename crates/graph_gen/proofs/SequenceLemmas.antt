-- The numbers of the sequence, and the weights that are drawn by them.
use Rattle.std.proofs.Common.{◌≡◌, ℕ, zero, suc, ◌+◌, [], ◌∷◌, ◌++◌, refl, sym, ap, ◌∙◌, append_assoc, append-nil, arith, add-suc, add-zero, add-one}
use Rattle.std.proofs.lemmas.List.FromFn.{map-range_with_len_more}
use Rattle.graph_gen.specs.Sequence.{next_number, nth_behind, weight_by, weights_behind}

-- the numbers behind a number of the sequence are those behind its beginning
pub nth_behind_nth : (x m n : ℕ) → nth_behind (nth_behind x m) n ≡ nth_behind x (m + n)
nth_behind_nth x m zero = rw add-zero refl
nth_behind_nth x m (suc n) = ap next_number (nth_behind_nth x m n) ∙ ap (nth_behind x) (sym (add-suc m n))

-- one weight more
weights-suc : (x n : ℕ) → weights_behind x (suc n) ≡ weights_behind x n ++ weight_by (nth_behind x (suc n)) ∷ []
weights-suc x n = rw add-one at (map-range_with_len_more (λ k. weight_by (nth_behind x k)) 1 n (suc n) (omega arith))

-- the weights behind a number go on behind the m-th number behind it
pub weights-append : (x m n : ℕ) → weights_behind x (m + n) ≡ weights_behind x m ++ weights_behind (nth_behind x m) n
weights-append x m zero = rw add-zero (sym (append-nil (weights_behind x m)))
weights-append x m (suc n) =
    ap (weights_behind x) (add-suc m n) ∙ weights-suc x (m + n)
    ∙ ap (λ l. l ++ weight_by (nth_behind x (suc (m + n))) ∷ []) (weights-append x m n)
    ∙ append_assoc (weights_behind x m) (weights_behind (nth_behind x m) n) (weight_by (nth_behind x (suc (m + n))) ∷ [])
    ∙ ap (λ k. weights_behind x m ++ (weights_behind (nth_behind x m) n ++ weight_by (next_number k) ∷ [])) (sym (nth_behind_nth x m n))
    ∙ ap (λ l. weights_behind x m ++ l) (sym (weights-suc (nth_behind x m) n))
