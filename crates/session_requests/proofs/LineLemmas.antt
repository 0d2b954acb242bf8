-- What is found in a line is what it asks.
use Rattle.std.proofs.Common.{◌≡◌, ◌↔◌, ◌∙◌, Option, Some, None, sym, ap}
use Rattle.session_requests.specs.declared.line.Line.TheVariants.{Request, Other}

module _ {R : Type 0} (Asks : R → Type 0) (found : Option R) (exact : (r : R) → (found ≡ Some r) ↔ Asks r) where
  -- the request that was found is the one that is asked
  pub asks_found : (q : R) → found ≡ Some q → (r : R) → (Request q ≡ Request r) ↔ Asks r
  asks_found q some r = (read, asked) where
    read : Request q ≡ Request r → Asks r
    read e = let same : q ≡ r = cc in (exact r).0 (some ∙ ap Some same)

    asked : Asks r → Request q ≡ Request r
    asked asks =
        let both : Some q ≡ Some r = sym some ∙ (exact r).1 asks in
        let same : q ≡ r = cc in
        ap Request same

  -- where none was found, none is asked
  pub asks_none : found ≡ None → (r : R) → (Other ≡ Request r) ↔ Asks r
  asks_none none r = (λ e. absurd cc, λ asks. absurd (let both : None ≡ Some r = sym none ∙ (exact r).1 asks in cc))
