-- The least file of another size, when a file begins.
use Rattle.std.proofs.Common.{◌≡◌, ◌≢◌, ℕ, ◌+◌, ◌-◌, List, [], ◌∷◌, ◌++◌, length, inl, inr, arith, sym, refl, ap, ◌≤◌, ◌∙◌}
use Rattle.std.specs.Prelude.{slice_get}
use Rattle.std.proofs.lemmas.Option.{slice_get_within, same_Some}
use Rattle.arc_graph.specs.Agreement.{IsOtherSize}
use Rattle.list_laws.proofs.Gets.{get_in_push, get_before, get_added}
use Rattle.list_laws.proofs.Least.{AddsNumber}

-- one size more is another than the first, where N says so, and no other size comes to be another
pub adds_size : (first size : ℕ × ℕ) (sizes : List (ℕ × ℕ)) (N : Type 0) → (N → size ≢ first) → (size ≢ first → N)
    → AddsNumber (IsOtherSize (first ∷ sizes)) (IsOtherSize (first ∷ sizes ++ size ∷ [])) (length sizes + 2) N
adds_size first size sizes N differs same = record {
  kept = λ f is. record {
    first = is.first;
    other = is.other;
    sizes_are = record {
      counted = is.sizes_are.counted;
      first_is = is.sizes_are.first_is;
      other_is = get_before (first ∷ sizes) (size ∷ []) is.other (f - 1) is.sizes_are.other_is;
    };
    differs = is.differs;
  };
  added = λ here. record {
    first = first;
    other = size;
    sizes_are = record { counted = omega arith; first_is = refl; other_is = get_added (first ∷ sizes) size (length sizes + 2 - 1) (omega arith) };
    differs = differs here;
  };
  only = λ f is. elim (get_in_push (first ∷ sizes) size is.other (f - 1) is.sizes_are.other_is) [
    | inl before ↦ inl (record {
      first = is.first;
      other = is.other;
      sizes_are = record { counted = is.sizes_are.counted; first_is = is.sizes_are.first_is; other_is = before };
      differs = is.differs;
    })
    | inr added ↦ inr (omega (arith, is.sizes_are.counted, added.0), same (λ e. is.differs (added.1 ∙ e ∙ same_Some _ _ is.sizes_are.first_is)))
  ];
  above = λ f is. let within = slice_get_within (first ∷ sizes) (f - 1) is.other is.sizes_are.other_is in omega (arith, within);
}

-- of one size none is another
pub no_other_size : (sizes : List (ℕ × ℕ)) (f : ℕ) → length sizes ≤ 1 → ¬ IsOtherSize sizes f
no_other_size sizes f one is =
    let within = slice_get_within sizes (f - 1) is.other is.sizes_are.other_is in
    let first : f - 1 ≡ 0 = omega (arith, within) in
    is.differs (same_Some _ _ (sym is.sizes_are.other_is ∙ ap (slice_get sizes) first ∙ is.sizes_are.first_is))
