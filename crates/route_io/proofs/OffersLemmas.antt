-- Texts that are offered whole, and then rests of them.
use Rattle.std.proofs.Common.{◌≡◌, ℕ, ◌<◌, ◌≤◌, ◌⊎◌, inl, inr, List, [], ◌∷◌, ◌++◌, Option, Some, None, IfSome, length, take, drop, sym, ◌∙◌, ap, subst}
use Rattle.std.proofs.Common.{append_assoc, append-nil, arith, length-append, refl}
use Rattle.std.proofs.lemmas.List.{take-append-drop, nil_from_length, length-take-le}
use Rattle.std.proofs.lemmas.List.Elements.{All-nil, All-push}
use Rattle.route_io.specs.Sinks.{SinkState, Offers, IsRest, whole_before, OffersWhole}

-- Of a text nothing was offered yet, or it was offered whole and a front of it was sent, and this is the rest.
abbrev pub OfferedUpTo : SinkState → SinkState → List ℕ → List ℕ → Type 0
OfferedUpTo old new text rest = ((text ≡ rest) × Offers old new []) ⊎ (IsRest text rest × OffersWhole old new text)

-- pieces behind those that are told, and then others
behind-then : (old mid new : Option (List (List ℕ))) (first second : List (List ℕ)) → IfSome old (λ before. mid ≡ Some (before ++ first))
    → IfSome mid (λ before. new ≡ Some (before ++ second)) → IfSome old (λ before. new ≡ Some (before ++ (first ++ second)))
behind-then None mid new first second p q = tt
behind-then (Some told) mid new first second p q =
    subst (λ m. IfSome m (λ before. new ≡ Some (before ++ second))) p q ∙ ap Some (append_assoc told first second)

behind-none : (told : Option (List (List ℕ))) → IfSome told (λ before. told ≡ Some (before ++ []))
behind-none None = tt
behind-none (Some told) = ap Some (sym (append-nil told))

-- nothing was offered before the first write
pub none_offered : (state : SinkState) (text : List ℕ) → OfferedUpTo state state text text
none_offered state text = inl (refl, behind-none state.offered)

whole_first : (text : List ℕ) (rests : List (List ℕ)) → 0 < length text → text ∷ rests ≡ whole_before text rests
whole_first [] rests some = absurd (omega (arith, some))
whole_first (byte ∷ bytes) rests some = refl

rest_after : (text front rest : List ℕ) (n : ℕ) → text ≡ front ++ rest → 0 < n → n ≤ length rest → IsRest text (drop n rest)
rest_after text front rest n whole some within = record {
  front = front ++ take n rest;
  some = omega (arith, length-append front (take n rest), length-take-le n rest within);
  whole = whole ∙ ap (λ w. front ++ w) (sym (take-append-drop n rest)) ∙ sym (append_assoc front (take n rest) (drop n rest));
}

module _ (old mid new : SinkState) (text rest : List ℕ) (some : 0 < length rest) (one : Offers mid new (rest ∷ [])) where
  -- the rest was offered, whatever the sink took of it
  pub offered_rest : OfferedUpTo old mid text rest → OffersWhole old new text
  offered_rest (inl at_first) = record {
    rests = [];
    are_rests = All-nil (IsRest text);
    offered = subst (Offers old new) (ap (λ t. t ∷ []) (sym at_first.0) ∙ whole_first text [] (rw at_first.0 some))
        (behind-then old.offered mid.offered new.offered [] (rest ∷ []) at_first.1 one);
  }
  offered_rest (inr later) =
      let its : IsRest text rest = later.0 in
      let before : OffersWhole old mid text = later.1 in
      let there : 0 < length text = omega (arith, some, ap length its.whole, length-append its.front rest) in
      let first : whole_before text before.rests ++ (rest ∷ []) ≡ whole_before text (before.rests ++ (rest ∷ [])) =
      ap (λ l. l ++ (rest ∷ [])) (sym (whole_first text before.rests there)) ∙ whole_first text (before.rests ++ (rest ∷ [])) there in
      record {
        rests = before.rests ++ (rest ∷ []);
        are_rests = All-push (IsRest text) before.rests rest before.are_rests its;
        offered = subst (Offers old new) first
            (behind-then old.offered mid.offered new.offered (whole_before text before.rests) (rest ∷ []) before.offered one);
      }

  -- of which so many bytes were taken
  pub offered_more : (n : ℕ) (after : List ℕ) → 0 < n → n ≤ length rest → after ≡ drop n rest → OfferedUpTo old mid text rest
      → OfferedUpTo old new text after
  offered_more n after taken within is_after before = inr (subst (IsRest text) (sym is_after) (rest_of before), offered_rest before)
    where
      rest_of : OfferedUpTo old mid text rest → IsRest text (drop n rest)
      rest_of (inl at_first) = rest_after text [] rest n at_first.0 taken within
      rest_of (inr later) = rest_after text later.0.front rest n later.0.whole taken within

-- nothing is left
pub offered_all : (old new : SinkState) (text rest : List ℕ) → length rest ≡ 0 → OfferedUpTo old new text rest → OffersWhole old new text
offered_all old new text rest none (inr later) = later.1
offered_all old new text rest none (inl at_first) = record {
  rests = [];
  are_rests = All-nil (IsRest text);
  offered = rw (at_first.0 ∙ nil_from_length rest none) at_first.1;
}
